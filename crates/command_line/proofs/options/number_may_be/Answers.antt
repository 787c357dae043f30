use Rattle.clap.specs.Words.{found_of, rows_of}
use Rattle.command_line.proofs.Parsed.{may_say}
use Rattle.command_line.proofs.options.number_may_be.Goals as goal

pub returns : goal.returns
returns c =
    may_say c.args.name.now (rows_of (found_of c.args.matches.now)) c.number_asked.result c.number_asked.ensures.says
    c.number_asked.ensures.only
