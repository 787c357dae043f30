-- What running tables of a trace tell of when its completions were posted.
use Rattle.std.specs.Prelude.{List, None, Option, Some, [], if◌then◌else◌, length, nat_eq, suc, unwrap_or, ℕ, ◌&&◌}
use Rattle.std.specs.Prelude.{◌==◌}
use Rattle.std.specs.Prelude.{◌∷◌, ◌≡◌}
use Rattle.std.specs.HashMap.{get, get_by}
use Rattle.nvme_model.specs.declared.config.ConfigNumbers.{ConfigNumbers}
use Rattle.trace.specs.declared.seen.Seen.{Seen}
use Rattle.refutation.specs.EffectOrders.{before_post}
use Rattle.refutation.specs.LineRules.{least_fetched}
use Rattle.refutation.specs.Lines.{reaped_in}
use Rattle.refutation_check.specs.declared.post_tables.PostTables.{PostTables}
use Rattle.refutation_check.specs.declared.tables.EntryNumber.{EntryNumber}

-- How many entries were fetched at least, by submission queue; how many completions were reaped, by completion queue;
-- how many lines there are up to the one that reaps each, by completion queue and number; and how many surely stood
-- before the newest was posted, by completion queue.
pub record KeptPosts : Type 0 where
  pub least : ℕ → ℕ
  pub reaped : ℕ → ℕ
  pub reaps : ℕ → ℕ → Option ℕ
  pub before : ℕ → ℕ

-- in these tables
abbrev pub posts_in : PostTables → KeptPosts
posts_in x =
    record {
      least = λ q. unwrap_or (get nat_eq x.least q) 0;
      reaped = λ n. unwrap_or (get nat_eq x.reaped n) 0;
      reaps = λ n i. get_by (λ (e : EntryNumber). (n == e.queue) && (i == e.number)) x.reaps;
      before = λ n. unwrap_or (get nat_eq x.before n) 0;
    }

-- How many lines of a trace, the newest line first, there are up to the one that reaps completion i, from 0, of
-- completion queue n.
abbrev pub reap_end : List Seen → ℕ → ℕ → Option ℕ
reap_end [] n i = None
reap_end (Seen.Published p ∷ trace) n i = reap_end trace n i
reap_end (Seen.Reaped r ∷ trace) n i =
    if (r.queue == n) && (reaped_in trace r.queue == i) then Some (suc (length trace)) else reap_end trace n i

-- It is what a trace, the newest line first, tells of them.
pub record KnowsPosts (c : ConfigNumbers) (trace : List Seen) (k : KeptPosts) : Type 0 where
  pub least : (q : ℕ) → k.least q ≡ least_fetched c trace q
  pub reaped : (n : ℕ) → k.reaped n ≡ reaped_in trace n
  pub reaps : (n i : ℕ) → k.reaps n i ≡ reap_end trace n i
  pub before : (n : ℕ) → k.before n ≡ length (before_post c trace n)
