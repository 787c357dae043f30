use Rattle.std.proofs.Common.{codes, inl, inr, refl}
use Rattle.clap.specs.Words.{found_of, rows_of}
use Rattle.command_line.specs.Asking.{AskNothing}
use Rattle.command_line.proofs.Parsed.{says_none}
use Rattle.command_line.proofs.Refused.{refused_for}
use Rattle.command_line.proofs.randoms.random_asked.Goals as goal

pub returns-in_default-clause-refuses : goal.returns-in_default-clause-refuses
returns-in_default-clause-refuses c =
    let rows = rows_of (found_of c.args.matches.now) in
    refused_for (AskNothing (codes "random") rows) c.text_of.result (inr (inr (inr (inr (inr (inr (inr (inr (inl
    (refl, inl (says_none (codes "seed") rows c.in_default.ensures.only)))))))))))

pub returns-in-None-clause-refuses : goal.returns-in-None-clause-refuses
returns-in-None-clause-refuses c =
    let rows = rows_of (found_of c.args.matches.now) in
    refused_for (AskNothing (codes "random") rows) c.text_of-in-None.result (inr (inr (inr (inr (inr (inr (inr (inr (inl
    (refl, inr (says_none (codes "lines") rows c.in-None.ensures.only)))))))))))
