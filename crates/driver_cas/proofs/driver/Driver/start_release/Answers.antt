use Rattle.std.proofs.Common.{List, subst, ℕ}
use Rattle.nvme_model.specs.Array.{zeros}
use Rattle.driver_calls.specs.declared.request.CallData.{CallData}
use Rattle.driver_calls.specs.declared.request.Request.{Request}
use Rattle.driver_cas.specs.Tries.{IsTryBegun}
use Rattle.driver_cas.proofs.driver.Driver.start_release.Goals as goal

pub returns-clause-is : goal.returns-clause-is
returns-clause-is g c =
    subst (λ (z : Request × List ℕ).
    IsTryBegun c.args.self.now c.start_pair.new.self z.0 (CallData.Two z.1 zeros) c.start_pair.result)
    (λ i. (c.swap.ensures i, c.slot_block-name.ensures.value i)) c.start_pair.ensures.is
