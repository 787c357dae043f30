use Rattle.std.proofs.Common.{Err, Ok, [], ap, refl, subst, sym, ℕ, ◌<◌, ◌∙◌, ◌≡◌}
use Rattle.std.proofs.lemmas.Result.{err_from_is_err_and}
use Rattle.nvme_model.specs.declared.array.Range.{Range}
use Rattle.nvme_model.specs.declared.operation.Op.{Op}
use Rattle.driver_calls.specs.declared.request.CallData.{CallData}
use Rattle.driver_cas.specs.Drivers.{area_of}
use Rattle.driver_cas.specs.Tries.{IsTryBegun}
use Rattle.slot_alloc.specs.Areas.{block_of}
use Rattle.slot_takeover.proofs.Reading.{read_now}
use Rattle.slot_takeover.proofs.holder.read_holder.Goals as goal

pub returns-in_err-call-clause-is : goal.returns-in_err-call-clause-is
returns-in_err-call-clause-is g c =
    let d = c.args.driver.now in
    let e = c.start_read.new.self in
    let p = err_from_is_err_and c.from_residual.result c.from_residual.ensures.1 in
    let at : c.block.result ≡ block_of (area_of d) c.args.i = c.block.ensures
    ∙ ap (λ (r : Range). block_of r c.args.i) (sym c.requires.area) in
    rw (p.1, p.2)
    (subst (λ (l : ℕ). IsTryBegun d e (record { op = Op.Read; slba = l; blocks = 1 }) (CallData.One [])
    (Err c.in_err-call.field-0.0)) at c.in_err-call.ensures.is)

pub returns-clause-is : goal.returns-clause-is
returns-clause-is g c =
    let d = c.args.driver.now in
    let e = c.start_read.new.self in
    let at : c.block.result ≡ block_of (area_of d) c.args.i = c.block.ensures
    ∙ ap (λ (r : Range). block_of r c.args.i) (sym c.requires.area) in (
      refl,
      subst (λ (l : ℕ). IsTryBegun d e (record { op = Op.Read; slba = l; blocks = 1 }) (CallData.One [])
          (Ok c.in_ok-call.call)) at c.in_ok-call.ensures.is,
    )

pub returns-clause-of : goal.returns-clause-of
returns-clause-of g c =
    let d = c.args.driver.now in
    let e = c.start_read.new.self in
    let x = c.in_ok-call.ensures in
    let at : block_of (area_of e) c.args.i ≡ c.block.result =
    ap (λ (r : Range). block_of r c.args.i) (x.same.slots ∙ c.requires.area) ∙ sym c.block.ensures in
    record {
      of = x.is.of;
      does = x.is.does;
      inside = subst (λ (r : Range). c.args.i < r.blocks) (sym x.same.slots)
          (subst (λ (r : Range). c.args.i < r.blocks) (sym c.requires.area) c.requires.slot);
      reads = read_now g.P.Port d e (record { slot = c.args.i; call = c.in_ok-call.call }) c.block.result x.is at;
    }
