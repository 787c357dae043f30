use Rattle.std.proofs.Common.{[], ap, append-nil, append_assoc, arith, map, reverse, rules, subst, sym, ◌++◌, ◌∙◌, ◌∷◌}
use Rattle.std.proofs.Common.{◌≡◌}
use Rattle.std.specs.List.{AllZip}
use Rattle.hosts.specs.Returning.{GaveBack}
use Rattle.hosts.proofs.Ends.{gave_more, no_items}
use Rattle.hosts.proofs.joining.join_each.Goals as goal

pub loop-init : goal.loop-init
loop-init g c = (search rules, search rules, [], [], sym (append-nil _), sym (append-nil _), tt)

pub loop-preserved : goal.loop-preserved
loop-preserved g c =
    let i = c.loop.invariant in
    let child = c.unwrap-child.result in
    let caller = c.join-caller.result.0 in (
      search rules,
      search rules,
      child ∷ i.2,
      i.3 ++ caller ∷ [],
      i.4 ∙ (ap (λ l. l ++ i.2) (rw c.unwrap-child.ensures at c.pop.ensures.items)
          ∙ append_assoc c.pop.new.self.items (child ∷ []) i.2),
      c.push_reserved.ensures.items
          ∙ (ap (λ l. l ++ caller ∷ []) i.5 ∙ append_assoc c.args.callers.now.items i.3 (caller ∷ [])),
      rw c.and-ends.ensures
          (gave_more g.P.Promise.kept_by (λ h. h.promise) c.loop.ends c.join-caller.result.1 child i.2 caller i.3 i.6
          c.join-caller.ensures),
    )

pub returns : goal.returns
returns g c =
    let i = c.loop.invariant in
    let none : c.loop.started.items ≡ [] =
    no_items c.loop.started.items (omega (arith, i.0, c.loop-test.false, c.len-end.ensures)) in
    record {
      back = (
        i.3,
        i.5,
        subst (λ l. AllZip (GaveBack g.P.Promise.kept_by c.loop.ends) (reverse (map (λ h. h.promise) l)) i.3)
            (sym (i.4 ∙ ap (λ l. l ++ i.2) none)) i.6,
      );
    }
