use Rattle.std.proofs.Common.{List, subst₂, ap₂, ℕ, ◌∙◌, ◌≡◌}
use Rattle.std.specs.Prelude.{IfOk}
use Rattle.refutation.specs.Layers.{has_no_order}
use Rattle.refutation.specs.Slices.{slice_of}
use Rattle.refutation_check.specs.Known.{config_of, options_of, trace_of}
use Rattle.refutation_check.proofs.refuting.slice_lacks_order.Goals as goal

pub returns : goal.returns
returns c =
    let k = c.args.known.now in
    record {
      value = λ is. subst₂ (λ blank s. IfOk c.has_no_order.result (λ none. none ≡ has_no_order blank s))
          c.held_at_first.ensures.value
          (c.as_slice.ensures.value ∙ (c.in_ok-slice.ensures.value is
          ∙ ap₂ (λ (commands : List (ℕ × ℕ)) (blocks : List ℕ).
          slice_of (options_of k) (config_of k) (trace_of k) commands blocks) c.commands.ensures c.blocks-2.ensures))
          c.has_no_order.ensures;
    }
