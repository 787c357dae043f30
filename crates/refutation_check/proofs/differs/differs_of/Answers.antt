use Rattle.std.proofs.Common.{IfOk, List, [], ap, map, subst, sym, ℕ, ◌∙◌, ◌∷◌, ◌≡◌}
use Rattle.std.specs.List.{list_all}
use Rattle.nvme_model.specs.Operations.{compare_data}
use Rattle.refutation.specs.Pieces.{Held}
use Rattle.refutation.specs.Slices.{ticket_of}
use Rattle.refutation_check.specs.Commands.{name_of}
use Rattle.refutation_check.specs.Known.{trace_of}
use Rattle.refutation_check.specs.SliceEffects.{differs_inside}
use Rattle.refutation_check.proofs.SliceEffects.{all_where, none_where}
use Rattle.refutation_check.proofs.differs.differs_of.Goals as goal

pub returns-then-not-branch : goal.returns-then-not-branch
returns-then-not-branch c =
    let s = c.args.chosen.now in
    let n = name_of c.args.effect.now in
    record {
      value = λ k.
          c.new-then-not-branch.ensures.items
          ∙ none_where _ _ _
          (sym (c.in_ok-all_inside.ensures.value k
          ∙ ap (list_all (differs_inside s n)) (c.as_slice.ensures.value ∙ c.in_ok-blocks.ensures.value k))
          ∙ c.if-not-branch.true);
    }

pub returns : goal.returns
returns c =
    let s = c.args.chosen.now in
    let n = name_of c.args.effect.now in
    let lists = λ (ls : List ℕ). map (λ l. (l, compare_data (ticket_of (trace_of s.known) n) l)) ls ∷ [] in
    record {
      value = λ k.
          subst (λ (hs : List (List Held)). IfOk c.one_list.result (λ made. made.items ≡ hs))
          (ap lists (c.as_slice-2.ensures.value ∙ c.in_ok-blocks.ensures.value k)
          ∙ all_where _ _ _ (sym (c.has_differed.ensures.value k) ∙ c.if-not-has_differed.false)
          (sym (c.in_ok-all_inside.ensures.value k
          ∙ ap (list_all (differs_inside s n)) (c.as_slice.ensures.value ∙ c.in_ok-blocks.ensures.value k))
          ∙ c.if-not-branch.false))
          (c.one_list.ensures.value k);
    }
