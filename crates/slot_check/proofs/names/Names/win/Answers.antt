use Rattle.std.proofs.Common.{Some, eqb, sym, true, ◌&&◌}
use Rattle.slot_check.specs.Names.{names_in}
use Rattle.slot_check.proofs.Updated.{set_where}
use Rattle.slot_check.proofs.names.Names.win.Goals as goal

pub returns-then-contains_key-clause-won : goal.returns-then-contains_key-clause-won
returns-then-contains_key-clause-won c = λ q j. set_where (eqb c.args.queue q && eqb c.args.number j) _ (Some true)
    ((names_in c.args.self.now).won q j) _ (sym c.if-contains_key.ensures)
    ((rw c.unwrap.ensures at c.insert-put.ensures.updates).0 (record { queue = q; number = j }))
