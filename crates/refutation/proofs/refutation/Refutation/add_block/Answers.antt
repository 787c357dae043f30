use Rattle.std.proofs.Common.{None, ap, nat_lt, subst, sym, true, ◌∙◌, ◌≡◌}
use Rattle.std.proofs.lemmas.Bool.{and_parts}
use Rattle.refutation.specs.Refutations.{may_add_block, rises}
use Rattle.refutation.proofs.Rising.{still_rises}
use Rattle.refutation.proofs.refutation.Refutation.add_block.Goals as goal

pub invariant_of-self-2 : goal.invariant_of-self-2
invariant_of-self-2 c =
    let may : may_add_block c.args.self.now c.args.block ≡ true =
    sym c.may_add_block.ensures ∙ c.if-not-may_add_block.false in (
      ap (rises nat_lt None) c.in_ok-push.ensures.items
          ∙ still_rises nat_lt c.self.inside.blocks.items c.args.block c.self.invariant.0
          (and_parts _ _ (subst (λ r. may_add_block r c.args.block ≡ true) (sym c.self.view_is) may)).1,
      c.self.invariant.1,
    )
