use Rattle.std.proofs.Common.{Bool, Option, Some, cond, eqb, refl, rules, sym, true, false, ap, ◌&&◌, ◌||◌, ◌∙◌, ◌≡◌}
use Rattle.nvme_model.specs.Slots.{same_name}
use Rattle.host_laws.specs.Takeovers.{Takeover}
use Rattle.slot_check.specs.Takeovers.{takeovers_kept, takes_name}
use Rattle.slot_check.proofs.takeovers.Takeovers.take_effect.Goals as goal

or_is : (x o : Bool) → cond x true o ≡ (x || o)
or_is true o = refl
or_is false o = refl

pub returns-clause-taken : goal.returns-clause-taken
returns-clause-taken c =
    let there : (takeovers_kept c.args.self.now).begun c.args.queue c.args.number ≡ Some c.in-Some.takeover =
    search rules in
    λ l n. c.in-Ok.ensures.updates.0 (record { lba = l; name = n })
    ∙ (λ t. cond (eqb (c.lba.ensures.value t) l && same_name (c.dead.ensures.value t) n) true
    ((takeovers_kept c.args.self.now).taken l n))
    ∙ or_is (eqb c.in-Some.takeover.lba l && same_name c.in-Some.takeover.dead n)
    ((takeovers_kept c.args.self.now).taken l n)
    ∙ ap (λ (o : Option Takeover). takes_name l n o || (takeovers_kept c.args.self.now).taken l n) (sym there)
