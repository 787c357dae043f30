use Rattle.std.proofs.Common.{Err, List, Ok, subst, sym, ℕ}
use Rattle.shrink.specs.Shrinking.{ShrinksLines}
use Rattle.shrink.specs.Talk.{SaysTry, StopsTalk}
use Rattle.shrink.proofs.text_shrinking.converse.Goals as goal

pub returns-in-Ok : goal.returns-in-Ok
returns-in-Ok g c =
    record {
      converses = c.end.ensures.converses c.args.talk.now c.args.lines.now.items
          (subst (λ (l : List (List ℕ)). ShrinksLines (SaysTry g.W.Write.contents g.R.Read.remaining)
          (StopsTalk g.W.Write.contents g.R.Read.remaining) c.args.talk.now c.shrink_lines.new.question
          c.args.lines.now.items l 4000 (Ok c.in-Ok.shrunk))
          (sym c.as_slice.ensures.value) c.in-Ok.ensures.shrinks);
    }

pub returns-in-Err : goal.returns-in-Err
returns-in-Err g c =
    record {
      converses = c.give_up.ensures.converses c.args.talk.now c.args.lines.now.items
          (subst (λ (l : List (List ℕ)). ShrinksLines (SaysTry g.W.Write.contents g.R.Read.remaining)
          (StopsTalk g.W.Write.contents g.R.Read.remaining) c.args.talk.now c.shrink_lines.new.question
          c.args.lines.now.items l 4000 (Err c.in-Err.why))
          (sym c.as_slice-in-Err.ensures.value) c.in-Err.ensures.shrinks);
    }
