use Rattle.std.proofs.Common.{Bool, IfOk, List, ap, bytes_eq, not, subst, sym, ℕ, ◌∙◌, ◌≡◌}
use Rattle.nvme_model.specs.Verdict.{is_in}
use Rattle.refutation.specs.Slices.{none_else}
use Rattle.refutation_check.specs.Commands.{name_of}
use Rattle.refutation_check.specs.Known.{config_of, options_of, trace_of}
use Rattle.refutation_check.specs.SliceEffects.{names_of}
use Rattle.refutation_check.proofs.SliceEffects.{behind_true}
use Rattle.refutation_check.proofs.differs.differs_inside.Goals as goal

pub returns : goal.returns
returns c =
    let s = c.args.chosen.now in
    let n = name_of c.args.effect.now in
    let l = c.args.block in
    let left = λ (bytes : List ℕ). none_else (options_of s.known) (config_of s.known) (trace_of s.known) (names_of s) n
    l (λ d. not (bytes_eq d bytes)) in
    record {
      value = λ k.
          subst (λ (r : Bool). IfOk c.none_else.result (λ b. b ≡ r))
          (ap left (c.compared_at.ensures.value k)
          ∙ behind_true (is_in l s.blocks.now) _ (sym c.is_in.ensures.value ∙ c.if-not-is_in.false))
          (c.none_else.ensures.value k);
    }
