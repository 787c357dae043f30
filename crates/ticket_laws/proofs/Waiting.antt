-- What a step does to what waits in the queues.
use Rattle.std.proofs.Common.{◌≡◌, ℕ, zero, suc, ◌+◌, cond, List, [], ◌∷◌, ◌++◌, drop, sym, ap, ◌∙◌, arith, eqb}
use Rattle.std.proofs.lemmas.List.{drop-append-le}
use Rattle.std.proofs.Math.Seq.{drop-nil}
use Rattle.nvme_model.specs.declared.config.ConfigNumbers.{ConfigNumbers}
use Rattle.nvme_model.specs.declared.entry.PublishLine.{PublishLine}
use Rattle.nvme_model.specs.declared.entry.FetchLine.{FetchLine}
use Rattle.nvme_model.specs.declared.entry.PostLine.{PostLine}
use Rattle.nvme_model.specs.declared.entry.ReapLine.{ReapLine}
use Rattle.nvme_model.specs.declared.entry.Entry.{Entry}
use Rattle.nvme_model.specs.Verdict.{taken_entries}
use Rattle.nvme_model.specs.History.{Past}
use Rattle.nvme_model.specs.Queues.{published_entries, fetched_count, waiting}
use Rattle.nvme_model.specs.Tickets.{ticket}
use Rattle.nvme_model.specs.Config.{completion_queue}
use Rattle.nvme_model.specs.Completions.{posted_completions, reaped_count}
use Rattle.nvme_model.specs.Legal.{IsLegal}
use Rattle.ticket_laws.proofs.Counts.{fetched_within}
use Rattle.nvme_model.proofs.Runs.{reaped_posted}

-- two drops, one after the other
pub drop_twice : {X : Type 0} (n m : ℕ) (xs : List X) → drop m (drop n xs) ≡ drop (n + m) xs
drop_twice zero m xs = ap (λ k. drop k xs) same
  where
    same : m ≡ 0 + m
    same = omega arith
drop_twice (suc n) m [] = drop-nil m ∙ sym (drop-nil (suc n + m))
drop_twice (suc n) m (x ∷ xs) = drop_twice n m xs ∙ ap (λ k. drop k (x ∷ xs)) step
  where
    step : suc (n + m) ≡ suc n + m
    step = omega arith

-- ---- submission queues

-- a Publish puts its batch behind what waits
pub publish_waits : (c : ConfigNumbers) (past : Past) (p : PublishLine) (q : ℕ) → IsLegal c past
    → waiting (Entry.Publish p ∷ past) q ≡ waiting past q ++ cond (eqb p.queue q) p.batch []
publish_waits c past p q h =
    drop-append-le (fetched_count past q) (published_entries past q) (cond (eqb p.queue q) p.batch [])
    (fetched_within c past q h)

-- a Fetch takes from the front
pub fetch_waits : (past : Past) (f : FetchLine) (q : ℕ)
    → waiting (Entry.Fetch f ∷ past) q ≡ drop (cond (eqb f.queue q) (taken_entries f.verdict) 0) (waiting past q)
fetch_waits past f q = sym
    (drop_twice (fetched_count past q) (cond (eqb f.queue q) (taken_entries f.verdict) 0) (published_entries past q))

-- ---- completion queues

-- a Post puts its completion behind what waits
pub post_waits : (c : ConfigNumbers) (past : Past) (p : PostLine) (q : ℕ) → IsLegal c past
    → drop (reaped_count past q) (posted_completions c (Entry.Post p ∷ past) q)
    ≡ drop (reaped_count past q) (posted_completions c past q)
    ++ cond (eqb (completion_queue c (ticket past p.ticket).queue) q) (p ∷ []) []
post_waits c past p q h =
    drop-append-le (reaped_count past q) (posted_completions c past q) _ (reaped_posted c past q h)

-- a Reap takes one from the front
pub reap_waits : (c : ConfigNumbers) (past : Past) (r : ReapLine) (q : ℕ)
    → drop (reaped_count (Entry.Reap r ∷ past) q) (posted_completions c past q)
    ≡ drop (cond (eqb r.queue q) 1 0) (drop (reaped_count past q) (posted_completions c past q))
reap_waits c past r q = sym (drop_twice (reaped_count past q) (cond (eqb r.queue q) 1 0) (posted_completions c past q))
