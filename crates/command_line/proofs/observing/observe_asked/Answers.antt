use Rattle.std.proofs.Common.{codes, inl, inr, refl}
use Rattle.clap.specs.Words.{found_of, rows_of}
use Rattle.command_line.specs.Asking.{AskNothing}
use Rattle.command_line.proofs.Refused.{refused_for}
use Rattle.command_line.proofs.observing.observe_asked.Goals as goal

pub returns-in_default-clause-refuses : goal.returns-in_default-clause-refuses
returns-in_default-clause-refuses c =
    refused_for (AskNothing (codes "observe") (rows_of (found_of c.args.matches.now))) c.text_of.result
    (inr (inr (inr (inr (inr (inl (
      refl,
      inr (λ n says. let bad = c.in_default.ensures.only n says in absurd cc),
    )))))))
