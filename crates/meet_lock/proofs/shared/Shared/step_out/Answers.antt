use Rattle.std.proofs.Common.{ap, subst, ◌∙◌, ◌∷◌}
use Rattle.nvme_model.specs.History.{Past}
use Rattle.nvme_model.specs.declared.config.ConfigNumbers.{ConfigNumbers}
use Rattle.meet_lock.proofs.shared.Shared.step_out.Goals as goal

pub give_more-requires-clause-out : goal.give_more-requires-clause-out
give_more-requires-clause-out g c =
    let o = c.requires.out in
    let s = c.in-Ok.ensures.accepted in
    let says = subst (λ (p : ConfigNumbers × Past). g.M.Machine.accepts p.0 p.1 (g.C.StepCall.asks c.args.call) s.0
    (g.C.StepCall.answers c.in-Ok.told))
    (λ i. (o.at.0 i, o.at.1 i)) s.2 in
    record {
      entry = s.0;
      out = o.out;
      holds = o.holds;
      at = (c.in-Ok.ensures.config ∙ o.at.0, s.1 ∙ ap (λ l. s.0 ∷ l) o.at.1);
      right = g.met.M.Machine.stays_legal _ _ _ _ _ o.right says;
      may = c.requires.may s.0 (g.C.StepCall.answers c.in-Ok.told) says;
    }

pub give_same-requires-clause-out : goal.give_same-requires-clause-out
give_same-requires-clause-out g c =
    let o = c.requires.out in
    record {
      out = o.out;
      holds = o.holds;
      at = (c.in-Err.ensures.config ∙ o.at.0, c.in-Err.ensures.refused.0 ∙ o.at.1);
      right = o.right;
    }

pub returns-in-Ok-clause-made : goal.returns-in-Ok-clause-made
returns-in-Ok-clause-made g c =
    let o = c.requires.out in
    let s = c.in-Ok.ensures.accepted in
    let says = subst (λ (p : ConfigNumbers × Past). g.M.Machine.accepts p.0 p.1 (g.C.StepCall.asks c.args.call) s.0
    (g.C.StepCall.answers c.in-Ok.told))
    (λ i. (o.at.0 i, o.at.1 i)) s.2 in
    record {
      entry = s.0;
      says = says;
      right = g.met.M.Machine.stays_legal _ _ _ _ _ o.right says;
      is = c.give_more.ensures.more s.0 (s.1 ∙ ap (λ l. s.0 ∷ l) o.at.1);
    }

pub returns-in-Err-clause-refused : goal.returns-in-Err-clause-refused
returns-in-Err-clause-refused g c =
    let o = c.requires.out in
    let s = c.in-Err.ensures.refused in (
      c.give_same.ensures.shown,
      subst (λ (p : ConfigNumbers × Past). g.M.Machine.refuses p.0 p.1 (g.C.StepCall.asks c.args.call)
          (g.C.StepCall.refuses c.in-Err.refusal))
          (λ i. (o.at.0 i, o.at.1 i)) s.1,
    )
