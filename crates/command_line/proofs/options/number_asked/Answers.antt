use Rattle.std.proofs.Common.{ℕ}
use Rattle.std.specs.Prelude.{Result}
use Rattle.std.specs.declared.num.ParseIntError.{ParseIntError}
use Rattle.std.specs.Str.Parse.{ParsesUnsigned, ExplainsUnsignedError, HasUnsignedDigitsIfOk}
use Rattle.clap.specs.Words.{Text, found_of, rows_of}
use Rattle.clap.proofs.WalkLemmas.{one_text-rows}
use Rattle.command_line.proofs.Parsed.{reads_it, says_it}
use Rattle.command_line.proofs.options.number_asked.Goals as goal

-- how a number of 64 bits is read
abbrev gives : Text → Result ℕ ParseIntError → Type 0
gives u x = ParsesUnsigned 64 10 u x × ExplainsUnsignedError 10 u x × HasUnsignedDigitsIfOk u x

pub returns-clause-says : goal.returns-clause-says
returns-clause-says c =
    let f = found_of c.args.matches.now in
    says_it gives _ c.args.name.now (rows_of f) _ (one_text-rows f c.args.name.now) (λ u x g. g.0)
    c.get_one.ensures.none c.get_one.ensures.value

pub returns-clause-only : goal.returns-clause-only
returns-clause-only c =
    let f = found_of c.args.matches.now in
    reads_it gives _ c.args.name.now (rows_of f) _ (one_text-rows f c.args.name.now) (λ u x g. g.0)
    c.get_one.ensures.value
