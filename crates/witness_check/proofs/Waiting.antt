-- What waits in a completion queue, entry by entry.
use Rattle.std.proofs.Common.{◌≡◌, ℕ, zero, suc, ◌==◌, Bool, true, false, cond, List, [], ◌∷◌, ◌++◌, drop, slice_get}
use Rattle.std.proofs.Common.{refl, sym, ap, ◌∙◌}
use Rattle.std.proofs.lemmas.List.{drop-append-le, drop-drop, drop-map, map-append}
use Rattle.nvme_model.specs.Completions.{posted_completions, reaped_count, reaped_payload}
use Rattle.nvme_model.specs.Config.{completion_queue}
use Rattle.nvme_model.specs.History.{Past}
use Rattle.nvme_model.specs.Legal.{IsLegal}
use Rattle.nvme_model.specs.Tickets
use Rattle.nvme_model.specs.declared.config.ConfigNumbers.{ConfigNumbers}
use Rattle.nvme_model.specs.declared.entry.Entry.{Entry}
use Rattle.nvme_model.specs.declared.entry.PostLine.{PostLine}
use Rattle.nvme_model.specs.declared.entry.ReapLine.{ReapLine}
use Rattle.nvme_model.proofs.Runs.{reaped_posted}
use Rattle.trace.specs.Observed.{next_payload}
use Rattle.witness_check.specs.Waiting.{data_or_none, posted_payloads, waiting_payloads}

-- ---- a Post

-- its data stands last in its own queue
pub waits_posted : (c : ConfigNumbers) (past : Past) (p : PostLine) (q : ℕ) → IsLegal c past
    → waiting_payloads c (Entry.Post p ∷ past) q ≡ waiting_payloads c past q
    ++ cond (completion_queue c (Tickets.ticket past p.ticket).queue == q) (p.payload ∷ []) []
waits_posted c past p q h =
    ap posted_payloads (drop-append-le (reaped_count past q) (posted_completions c past q)
    (cond (completion_queue c (Tickets.ticket past p.ticket).queue == q) (p ∷ []) []) (reaped_posted c past q h))
    ∙ map-append (λ (x : PostLine). x.payload) (drop (reaped_count past q) (posted_completions c past q))
    (cond (completion_queue c (Tickets.ticket past p.ticket).queue == q) (p ∷ []) [])
    ∙ ap (λ (xs : List (List ℕ)). waiting_payloads c past q ++ xs)
    (one (completion_queue c (Tickets.ticket past p.ticket).queue == q))
  where
    one : (b : Bool) → posted_payloads (cond b (p ∷ []) []) ≡ cond b (p.payload ∷ []) []
    one true = refl
    one false = refl

-- ---- a Reap

-- what waits first is gone
pub waits_reaped : (c : ConfigNumbers) (past : Past) (r : ReapLine) (q : ℕ)
    → waiting_payloads c (Entry.Reap r ∷ past) q ≡ drop (cond (r.queue == q) 1 0) (waiting_payloads c past q)
waits_reaped c past r q =
    ap posted_payloads (sym (drop-drop (cond (r.queue == q) 1 0) (reaped_count past q) (posted_completions c past q)))
    ∙ sym (drop-map (λ (x : PostLine). x.payload) (cond (r.queue == q) 1 0)
    (drop (reaped_count past q) (posted_completions c past q)))

first_of : (n : ℕ) (xs : List PostLine)
    → reaped_payload (slice_get xs n) ≡ data_or_none (slice_get (posted_payloads (drop n xs)) 0)
first_of zero [] = refl
first_of zero (x ∷ xs) = refl
first_of (suc n) [] = refl
first_of (suc n) (x ∷ xs) = first_of n xs

-- it is that of the completion with the number of the Reap
pub reaped_is_first : (c : ConfigNumbers) (past : Past) (q : ℕ)
    → next_payload c past q ≡ data_or_none (slice_get (waiting_payloads c past q) 0)
reaped_is_first c past q = first_of (reaped_count past q) (posted_completions c past q)
