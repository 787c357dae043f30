-- The lines so far are read, and no step of them is bad.
use Rattle.std.proofs.Common.{List, None, Option, [], eqb, not, ℕ, ◌≡◌}
use Rattle.nvme_model.specs.History.{Past}
use Rattle.casdisk_texts.specs.Entries.{IsBegun, IsReadTo}
use Rattle.casdisk_texts.specs.Judged.{HasJudged}
use Rattle.casdisk_texts.proofs.following.follow_lines.Given as goal

abbrev pub invariant-loop-number : goal.invariant-loop-number
invariant-loop-number g l = (input : Option (List ℕ))
    → IsBegun l.initial.lines.config input (g.R.Read.remaining l.initial.reader) l.initial.lines.lines
    → HasJudged (not (eqb g.row.WHY 0)) l.initial.lines.config [] l.initial.judge.checker l.initial.judge.count
    l.initial.judge.bad
    → l.initial.judge.bad.place ≡ None
    → (past : Past)
    × HasJudged (not (eqb g.row.WHY 0)) l.initial.lines.config past l.judge.checker l.judge.count l.judge.bad
    × (l.judge.bad.place ≡ None) × IsReadTo past l.number input (g.R.Read.remaining l.reader) l.lines.lines
