use Rattle.std.proofs.Common.{List, [], ◌++◌, ◌∷◌, ◌≡◌, vec_len}
use Rattle.meet_lock.specs.declared.pass.Pass.{Pass}
use Rattle.meet_lock.proofs.Wholes.{with_passes}
use Rattle.meet_lock.proofs.shared.Shared.close_all.Given as goal

abbrev pub invariant-loop-pass : goal.invariant-loop-pass
invariant-loop-pass g l = record {
  own : l.seat.table_id ≡ l.fn.self.table.shared.table_id;
  out : l.seat.me.1 ≡ [];
  tried : (last : Pass g.row.M.Denot) × (back : List (Pass g.row.M.Denot))
      × (l.rest.items ++ (back ++ last ∷ []) ≡ l.fn.passes.items)
      × (l.seat.me.0 ≡ with_passes last.seat.me.0 back);
}

abbrev pub decreases-loop-pass : goal.decreases-loop-pass
decreases-loop-pass g l = vec_len l.rest
