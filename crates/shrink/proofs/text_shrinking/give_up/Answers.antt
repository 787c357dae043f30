use Rattle.std.proofs.Common.{refl}
use Rattle.shrink.specs.declared.question.Unanswered.TheVariants.{BadAnswer, Ended}
use Rattle.shrink.proofs.Ending.{stopped}
use Rattle.shrink.proofs.text_shrinking.give_up.Goals as goal

pub returns-in-Ok : goal.returns-in-Ok
returns-in-Ok g c =
    record {
      converses = λ begun whole h.
          let s = rw c.in-Ended.is at h in (
            c.args.talk.now,
            c.args.lines.now,
            stopped g.W.Write.contents g.R.Read.remaining begun c.args.talk.now whole c.args.lines.now Ended
                (λ e. let no : ⊥ = cc in no) s,
            c.in-Ok.ensures.told,
          );
    }

pub returns-in-BadAnswer : goal.returns-in-BadAnswer
returns-in-BadAnswer g c =
    record {
      converses = λ begun whole h.
          let s = rw c.in-BadAnswer.is at h in (
            refl,
            (
              c.args.lines.now,
              stopped g.W.Write.contents g.R.Read.remaining begun c.args.talk.now whole c.args.lines.now BadAnswer
                  (λ e. let no : ⊥ = cc in no) s,
            ),
          );
    }
