use Rattle.std.proofs.Common.{All, Some, [], append-nil, ap, append_assoc, arith, map, refl, reverse, rules, subst, sym}
use Rattle.std.proofs.Common.{◌++◌, ◌∙◌, ◌∷◌, ◌≡◌}
use Rattle.std.specs.List.{AllZip}
use Rattle.std.proofs.lemmas.List.Elements.{All-pop}
use Rattle.hosts.proofs.Ends.{begun_more, no_items, parted_all, parted_here}
use Rattle.shared_system.specs.Callers.{IsHostOf}
use Rattle.race_hosts.specs.Playing.{HostPassesContinue, Promises}
use Rattle.race_hosts.proofs.Playing.{callers_same}
use Rattle.race_hosts.proofs.host_threads.start_hosts.Goals as goal

pub loop-init : goal.loop-init
loop-init g c = (
  c.requires.callers,
  search rules,
  refl,
  refl,
  search rules,
  [],
  sym (append-nil c.args.callers.now.items),
  subst (λ l. AllZip (Promises c.args.system.now c.args.play.now) [] (reverse (map (λ h. h.promise) l)))
      (sym c.requires.none) tt,
)

pub start_host-requires-clause-caller : goal.start_host-requires-clause-caller
start_host-requires-clause-caller g c κs lives =
    (All-pop (IsHostOf c.args.system.now c.args.play.now.config) c.loop.callers.items c.pop.new.self.items
    (Some c.unwrap-caller.result) (rw c.unwrap-caller.ensures at c.pop.ensures.items) c.loop.invariant.0).1

pub loop-preserved : goal.loop-preserved
loop-preserved g c =
    let i = c.loop.invariant in
    let system = c.args.system.now in
    let play = c.args.play.now in
    let caller = c.unwrap-caller.result in
    let child = c.in-Ok.child in
    let old = c.loop.started.items in (
      (All-pop (IsHostOf system play.config) c.loop.callers.items c.pop.new.self.items
          (Some caller) (rw c.unwrap-caller.ensures at c.pop.ensures.items)
          i.0).0,
      search rules,
      search rules,
      search rules,
      search rules,
      caller ∷ i.5,
      i.6 ∙ (ap (λ l. l ++ i.5) (rw c.unwrap-caller.ensures at c.pop.ensures.items) ∙ append_assoc
          c.pop.new.self.items (caller ∷ []) i.5),
      subst (λ l. AllZip (Promises system play) (caller ∷ i.5) (reverse (map (λ h. h.promise) l)))
          (sym c.push_reserved.ensures.items)
          (begun_more (HostPassesContinue system) (Promises system play) (λ h. h.promise) child old caller i.5 i.7
          c.in-Ok.ensures.starts),
    )

pub returns-in-Err-clause-parted : goal.returns-in-Err-clause-parted
returns-in-Err-clause-parted g c =
    let i = c.loop.invariant in
    let system = c.args.system.now in
    let play = c.args.play.now in
    let caller = c.unwrap-caller.result in
    let rest = c.pop.new.self.items in
    parted_here (HostPassesContinue system)
    (Promises system play) rest i.5 c.args.callers.now.items _ caller c.in-Err.back _
    (i.6 ∙ ap (λ l. l ++ i.5) (rw c.unwrap-caller.ensures at c.pop.ensures.items))
    (callers_same system play.config rest
    (All-pop (IsHostOf system play.config) c.loop.callers.items rest (Some caller)
    (rw c.unwrap-caller.ensures at c.pop.ensures.items) i.0).0)
    c.in-Err.ensures.back c.push_reserved-in-Err.ensures.items i.7

pub returns-clause-parted : goal.returns-clause-parted
returns-clause-parted g c =
    let i = c.loop.invariant in
    let system = c.args.system.now in
    let none : c.loop.callers.items ≡ [] =
    no_items c.loop.callers.items (omega (arith, i.1, i.4, c.loop-test.false, c.len-end.ensures)) in
    parted_all (HostPassesContinue system)
    (Promises system c.args.play.now) c.loop.callers.items i.5 c.args.callers.now.items
    c.loop.callers.items _ i.6 none none i.7

pub returns-clause-all : goal.returns-clause-all
returns-clause-all g c =
    let i = c.loop.invariant in
    no_items c.loop.callers.items (omega (arith, i.1, i.4, c.loop-test.false, c.len-end.ensures))
