use Rattle.std.proofs.Common.{IfOk, List, ap, map, subst, sym, ℕ, ◌∙◌, ◌≡◌}
use Rattle.std.specs.List.{filter}
use Rattle.refutation.specs.Pieces.{Held}
use Rattle.refutation_check.specs.Commands.{name_of}
use Rattle.refutation_check.specs.SliceEffects.{found_of, is_left_inside}
use Rattle.refutation_check.proofs.SliceEffects.{where_true}
use Rattle.refutation_check.proofs.finds.finds_of.Goals as goal

pub returns : goal.returns
returns c =
    let s = c.args.chosen.now in
    let n = name_of c.args.effect.now in
    let found = λ (ls : List ℕ). filter (is_left_inside s n) (map (λ l. (l, found_of s.known n l)) ls) in
    record {
      value = λ k.
          subst (λ (hs : List Held). IfOk c.found_on.result (λ made. made.items ≡ hs))
          (ap found (c.as_slice.ensures.value ∙ c.in_ok-blocks.ensures.value k)
          ∙ where_true _ _ (sym (c.has_found.ensures.value k) ∙ c.if-not-has_found.false))
          (c.found_on.ensures.value k);
    }
