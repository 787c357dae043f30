use Rattle.std.proofs.Common.{List, ap, arith, map, ℕ, ◌∙◌}
use Rattle.std.specs.List.{filter}
use Rattle.std.proofs.lemmas.List.{take_all}
use Rattle.refutation_check.specs.Commands.{name_of}
use Rattle.refutation_check.specs.SliceEffects.{found_of, is_left_inside}
use Rattle.refutation_check.proofs.finds.found_on.Goals as goal

pub returns : goal.returns
returns c =
    let s = c.args.chosen.now in
    let n = name_of c.args.effect.now in
    record {
      value = λ k.
          c.loop-block.invariant k
          ∙ ap (λ (ls : List ℕ). filter (is_left_inside s n) (map (λ l. (l, found_of s.known n l)) ls))
          (take_all c.loop-block.block-index c.args.blocks.now (omega (arith, c.loop-block-test.false)));
    }
