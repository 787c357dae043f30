use Rattle.std.proofs.Common.{subst, sym, List, ℕ}
use Rattle.c_handles.specs.HostNumbers.{AreApart}
use Rattle.c_handles.proofs.HostNumbers.{apart_none}
use Rattle.c_handles.proofs.host_numbers.HostNumbers.none.Goals as goal

pub invariant_of-result : goal.invariant_of-result
invariant_of-result c =
    subst (λ (ns : List ℕ). AreApart ns) (sym c.in_ok-numbers.ensures) (apart_none c.args.queues)
