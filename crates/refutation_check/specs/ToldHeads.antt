-- What SQHD tells of the order of effects: of each completion that a trace reaps, what it says was fetched when it was
-- posted, and which lines surely stood before.
use Rattle.std.specs.Prelude.{List, [], if◌then◌else◌, length, nat_le, suc, ℕ, ◌&&◌, ◌++◌, ◌==◌, ◌∷◌}
use Rattle.nvme_model.specs.EntryBytes.{cqe_fields}
use Rattle.nvme_model.specs.declared.config.ConfigNumbers.{ConfigNumbers}
use Rattle.trace.specs.declared.seen.ReapedLine.{ReapedLine}
use Rattle.trace.specs.declared.seen.Seen.{Seen}
use Rattle.refutation.specs.EffectOrders.{EffectName, before_post, most_fetched}
use Rattle.refutation.specs.Places.{larger}
use Rattle.refutation_check.specs.declared.told_heads.ToldHead.{ToldHead}

-- What the completion of this line tells, behind these lines: its submission queue, how many entries were fetched of it
-- at most, its completion queue, how many lines there are up to its own, and how many surely stood before it
-- was posted.
abbrev pub told_head : ConfigNumbers → List Seen → ReapedLine → ToldHead
told_head c trace r =
    record {
      queue = (cqe_fields r.cqe).sqid;
      most = most_fetched c trace r;
      reaped_from = r.queue;
      through = suc (length trace);
      before = length (before_post c (Seen.Reaped r ∷ trace) r.queue);
    }

-- What each completion of a trace tells, the oldest first.
abbrev pub heads_in : ConfigNumbers → List Seen → List ToldHead
heads_in c [] = []
heads_in c (Seen.Published p ∷ trace) = heads_in c trace
heads_in c (Seen.Reaped r ∷ trace) = heads_in c trace ++ told_head c trace r ∷ []

-- How many lines one of these tells to be before effect b's command was fetched, of answers on completion queue n; or
-- so many, where that isn't more.
abbrev pub place_with : ToldHead → ℕ → EffectName → ℕ → ℕ
place_with h n b lines =
    if (h.queue == b.queue) && nat_le h.most b.number
    then larger (larger h.before lines) (if n == h.reaped_from then h.through else 0)
    else lines

-- The same of all of these, the oldest first.
abbrev pub place_of : List ToldHead → ℕ → EffectName → ℕ → ℕ
place_of [] n b lines = lines
place_of (h ∷ heads) n b lines = place_of heads n b (place_with h n b lines)
