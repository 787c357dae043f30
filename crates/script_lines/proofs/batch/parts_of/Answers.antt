use Rattle.std.proofs.Common.{rules, tests}
use Rattle.std.specs.Prelude.{codes}
use Rattle.std.specs.Str.{bytes_eq}
use Rattle.std.proofs.lemmas.Iterator.Consumers.{map_from_collect}
use Rattle.std.proofs.lemmas.Iterator.Splits.{YieldsList-from_slice_split}
use Rattle.script_lines.proofs.Parts.{parts_seen}
use Rattle.script_lines.proofs.batch.parts_of.Goals as goal

pub returns : goal.returns
returns c =
    parts_seen (λ w. w.now) (λ word. bytes_eq word (codes "+")) c.args.words.now c.collect.result
    (map_from_collect _ c.collect.ensures.ran
    (YieldsList-from_slice_split _ (λ w. bytes_eq w.now (codes "+")) c.args.words.now
    c.split.ensures.rest c.split.ensures.done c.split.ensures.closure (λ x r q k. search (rules, tests))))
