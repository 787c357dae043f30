use Rattle.std.proofs.Common.{codes, inl, inr, refl}
use Rattle.clap.specs.Words.{found_of, rows_of}
use Rattle.command_line.specs.Asking.{AskNothing}
use Rattle.command_line.proofs.Races.{missing}
use Rattle.command_line.proofs.Refused.{refused_for}
use Rattle.command_line.proofs.racing.race_asked.Goals as goal

pub returns-in_default-clause-refuses : goal.returns-in_default-clause-refuses
returns-in_default-clause-refuses c =
    let rows = rows_of (found_of c.args.matches.now) in
    refused_for (AskNothing (codes "race") rows) c.text_of.result
    (inr (inr (inr (inl (refl, missing rows _ c.in_default.ensures.only refl)))))
