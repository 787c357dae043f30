use Rattle.std.proofs.Common.{List, [], ap, refl, subst, sym, ◌++◌, ◌∙◌, ◌∷◌}
use Rattle.driver_cas.specs.declared.call.Call.{Call}
use Rattle.remote_host.specs.Calls.{KeepsCalls}
use Rattle.remote_host.proofs.Keeping.{host_with, keeps_less}
use Rattle.remote_host.proofs.call_host.CallHost.give_up.Goals as goal

pub returns-clause-kept : goal.returns-clause-kept
returns-clause-kept g c =
    let h = c.args.self.now in
    let out = c.in-Some.ensures in
    let k = c.in-Some.call in
    let behind = c.push_back_reserved.ensures.items
    ∙ ap (λ (ks : List (Call g.row.P.Denot)). ks ++ k ∷ []) c.reserve.ensures.items in
    subst (λ (ks : List (Call g.row.P.Denot)). KeepsCalls (host_with h.driver c.try_remove.new.self ks)) (sym behind)
    (keeps_less h.driver h.calls c.try_remove.new.self c.args.number k h.given_up.items (sym out.value) out.updates
    c.requires.kept)

pub returns-clause-gives_up : goal.returns-clause-gives_up
returns-clause-gives_up g c =
    let out = c.in-Some.ensures in
    let k = c.in-Some.call in (
      refl,
      k,
      sym out.value,
      out.updates,
      c.push_back_reserved.ensures.items
          ∙ ap (λ (ks : List (Call g.row.P.Denot)). ks ++ k ∷ []) c.reserve.ensures.items,
    )
