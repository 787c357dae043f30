use Rattle.std.proofs.Common.{Contains, subst, sym, ◌≡◌, ◌≢◌, rules}
use Rattle.std.specs.Prelude.{IfNone}
use Rattle.nvme_model.specs.declared.operation.Op.{Op}
use Rattle.driver_cas.specs.Cids.{queues_of}
use Rattle.driver_cas.specs.Turns.{HasTooFew}
use Rattle.driver_cas.proofs.Passing.{few_single}
use Rattle.driver_cas.proofs.start.free_cids.Goals as goal

pub returns-then-eq-clause-none : goal.returns-then-eq-clause-none
returns-then-eq-clause-none c =
    let pair : c.args.op ≡ Op.Pair = search rules in
    subst (λ (o : Op). IfNone c.free_two.result
    (Contains (queues_of c.args.cids.now) c.args.queue → HasTooFew c.args.cids.now o c.args.queue)) (sym pair)
    c.free_two.ensures.none

pub returns-in_err-first-clause-none : goal.returns-in_err-first-clause-none
returns-in_err-first-clause-none c =
    let single : c.args.op ≢ Op.Pair = search rules in
    rw c.from_residual.ensures
    (λ known. few_single c.args.cids.now c.args.op c.args.queue single (c.in_err-first.ensures.none known))
