use Rattle.std.proofs.Common.{refl}
use Rattle.shrink.proofs.Ending.{told}
use Rattle.shrink.proofs.text_shrinking.shrink_text.Goals as goal

pub returns : goal.returns
returns g c =
    record {
      shrinks = told g.W.Write.contents g.R.Read.remaining c.args.talk.now c.in-Some.first c.take_first.new.lines.items
          (record c.args.talk.now { first = c.into_vec.result }) c.converse.new.talk
          (record {
            answers = refl;
            writer = refl;
            ahead = refl;
            first_is = c.into_vec.ensures.value;
            tries = refl;
            failing = refl;
          }) _ _ c.converse.result c.in-Ok.ensures.lines.0
          (rw c.in-Some.ensures.first at c.in-Ok.ensures.lines.1) c.converse.ensures.converses;
    }
