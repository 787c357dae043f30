use Rattle.std.proofs.Common.{None, ap, subst, sym, true, ◌∙◌, ◌≡◌}
use Rattle.refutation.specs.Refutations.{is_before, may_add_command, rises}
use Rattle.refutation.proofs.Rising.{still_rises}
use Rattle.refutation.proofs.refutation.Refutation.add_command.Goals as goal

pub invariant_of-self-2 : goal.invariant_of-self-2
invariant_of-self-2 c =
    let may : may_add_command c.args.self.now (c.args.queue, c.args.number) ≡ true =
    sym c.may_add_command.ensures ∙ c.if-not-may_add_command.false in (
      c.self.invariant.0,
      ap (rises is_before None) c.in_ok-push.ensures.items
          ∙ still_rises is_before c.self.inside.commands.items (c.args.queue, c.args.number) c.self.invariant.1
          (subst (λ r. may_add_command r (c.args.queue, c.args.number) ≡ true) (sym c.self.view_is) may),
    )
