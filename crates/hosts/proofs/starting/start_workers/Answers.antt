use Rattle.std.proofs.Common.{Some, [], append-nil, ap, append_assoc, arith, map, refl, reverse, rules, subst, sym}
use Rattle.std.proofs.Common.{◌++◌, ◌∙◌, ◌∷◌, ◌≡◌}
use Rattle.std.specs.List.{AllZip}
use Rattle.std.proofs.lemmas.List.Elements.{All-pop}
use Rattle.hosts.specs.Crews.{IsWorkerBack}
use Rattle.shared_system.specs.Callers.{IsWorkerOf, WorkerContinues}
use Rattle.hosts.proofs.Crews.{workers_same}
use Rattle.hosts.proofs.Ends.{begun_more, no_items, parted_all, parted_here}
use Rattle.hosts.proofs.starting.start_workers.Goals as goal

pub loop-init : goal.loop-init
loop-init g c = (
  c.requires.callers,
  search rules,
  refl,
  refl,
  search rules,
  [],
  sym (append-nil c.args.callers.now.items),
  subst (λ l. AllZip (IsWorkerBack c.args.system.now) [] (reverse (map (λ h. h.promise) l))) (sym c.requires.none) tt,
)

pub loop-preserved : goal.loop-preserved
loop-preserved g c =
    let i = c.loop.invariant in
    let system = c.args.system.now in
    let own = c.unwrap-own.result in
    let child = c.in-Ok.child in
    let items : c.loop.callers.items ≡ c.pop.new.self.items ++ own ∷ [] =
    rw c.unwrap-own.ensures at c.pop.ensures.items in
    let old = c.loop.started.items in (
      (All-pop (IsWorkerOf system) c.loop.callers.items c.pop.new.self.items (Some own) items i.0).0,
      search rules,
      search rules,
      search rules,
      search rules,
      own ∷ i.5,
      i.6 ∙ (ap (λ l. l ++ i.5) items ∙ append_assoc c.pop.new.self.items (own ∷ []) i.5),
      subst (λ l. AllZip (IsWorkerBack system) (own ∷ i.5) (reverse (map (λ h. h.promise) l)))
          (sym c.push_reserved.ensures.items)
          (begun_more (WorkerContinues system) (IsWorkerBack system) (λ h. h.promise) child old own i.5 i.7
          c.in-Ok.ensures.starts),
    )

pub returns-in-Err-clause-parted : goal.returns-in-Err-clause-parted
returns-in-Err-clause-parted g c =
    let i = c.loop.invariant in
    let system = c.args.system.now in
    let own = c.unwrap-own.result in
    let rest = c.pop.new.self.items in
    let items : c.loop.callers.items ≡ rest ++ own ∷ [] = rw c.unwrap-own.ensures at c.pop.ensures.items in
    parted_here (WorkerContinues system) (IsWorkerBack system) rest i.5 c.args.callers.now.items _ own c.in-Err.back _
    (i.6 ∙ ap (λ l. l ++ i.5) items)
    (workers_same system rest
    (All-pop (IsWorkerOf system) c.loop.callers.items rest (Some own) items i.0).0)
    c.in-Err.ensures.back c.push_reserved-in-Err.ensures.items i.7

pub returns-clause-parted : goal.returns-clause-parted
returns-clause-parted g c =
    let i = c.loop.invariant in
    let system = c.args.system.now in
    let none : c.loop.callers.items ≡ [] =
    no_items c.loop.callers.items (omega (arith, i.1, i.4, c.loop-test.false, c.len-end.ensures)) in
    parted_all (WorkerContinues system)
    (IsWorkerBack system) c.loop.callers.items i.5 c.args.callers.now.items c.loop.callers.items _
    i.6 none none i.7

pub returns-clause-all : goal.returns-clause-all
returns-clause-all g c =
    let i = c.loop.invariant in
    no_items c.loop.callers.items (omega (arith, i.1, i.4, c.loop-test.false, c.len-end.ensures))
