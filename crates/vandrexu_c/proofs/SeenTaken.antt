-- A tracer takes one more entry.
use Rattle.std.proofs.Common.{List, None, Some, refl, ℕ, ◌∷◌, ◌≡◌}
use Rattle.nvme_model.specs.Config.{config_fault}
use Rattle.nvme_model.specs.History.{Past}
use Rattle.nvme_model.specs.Legal.{IsLegal}
use Rattle.nvme_model.specs.declared.config.ConfigNumbers.{ConfigNumbers}
use Rattle.nvme_model.specs.declared.entry.Entry.{Entry}
use Rattle.trace.specs.Observed.{shown}
use Rattle.trace.specs.declared.seen.ReapedLine.{ReapedLine}
use Rattle.trace.specs.declared.seen.Seen.{Seen}
use Rattle.witness_check.specs.Seeing.{AreWaitingPayloads, seen_of}
use Rattle.witness_check.specs.declared.sight.Sight.{Sight}
use Rattle.vandrexu_c.proofs.SlotsFollowed.{legal_before}
use Rattle.vandrexu_c.specs.Tracers.{TakesEntry, TracerRun, published_or, reaped_of}

of_none : (s : Sight) → seen_of s ≡ None → reaped_of s ≡ None
of_none Sight.Hidden h = refl
of_none (Sight.Published line) h = refl
of_none (Sight.Reaped line) h = h

of_reap : (s : Sight) (x : ReapedLine) → seen_of s ≡ Some (Seen.Reaped x) → reaped_of s ≡ Some (Seen.Reaped x)
of_reap Sight.Hidden x h = absurd (let f : None ≡ Some (Seen.Reaped x) = h in cc)
of_reap (Sight.Published line) x h = absurd (let f : Some (Seen.Published line.now) ≡ Some (Seen.Reaped x) = h in cc)
of_reap (Sight.Reaped line) x h = h

is_shown : (c : ConfigNumbers) (past : Past) (e : Entry) (s : Sight) → seen_of s ≡ shown c past e
    → published_or e (reaped_of s) ≡ shown c past e
is_shown c past (Entry.Publish p) s h = refl
is_shown c past (Entry.Fetch f) s h = of_none s h
is_shown c past (Entry.Grant g) s h = of_none s h
is_shown c past (Entry.Block b) s h = of_none s h
is_shown c past (Entry.Post p) s h = of_none s h
is_shown c past (Entry.Reap r) s h = of_reap s _ h

pub takes : (r : TracerRun) (e : Entry) (s : Sight) (waiting : List (List (List ℕ)))
    → ((c : ConfigNumbers) (past : Past) → IsLegal c (e ∷ past) → AreWaitingPayloads c past r.waiting
    → seen_of s ≡ shown c past e)
    → ((c : ConfigNumbers) (past : Past) → config_fault c ≡ None → IsLegal c (e ∷ past)
    → AreWaitingPayloads c past r.waiting → AreWaitingPayloads c (e ∷ past) waiting)
    → TakesEntry r e (record { waiting = waiting; last = published_or e (reaped_of s) })
takes r e s waiting sees waits c past h = (
  record {
    accepted = h.accepted;
    waiting = λ legal. waits c past h.accepted legal (h.waiting (legal_before c past e legal));
  },
  λ legal. is_shown c past e s (sees c past legal (h.waiting (legal_before c past e legal))),
)
