use Rattle.std.proofs.Common.{◌≡◌, List, subst, sym, ℕ}
use Rattle.std.specs.Prelude.{IfOk}
use Rattle.block_array.specs.Blocks.{contents_of}
use Rattle.fused_match.specs.Judged.{verdict_by}
use Rattle.nvme_model.specs.Tickets.{fetched_ticket}
use Rattle.job_table.specs.Beginning.{write_first}
use Rattle.job_table.specs.Tickets.{write_blocks}
use Rattle.step_core.specs.Found.{IsSqRing}
use Rattle.controller_interface.specs.State.{ControllerState}
use Rattle.step_core.proofs.Fetched.{IsFetched, data_has, data_is}
use Rattle.step_core.proofs.controller.Core.fetch_room.Goals as goal

pub data_room-requires : goal.data_room-requires
data_room-requires c =
    let a = subst (λ (x : ControllerState). IsFetched x.config x.past c.args.queue c.args.front.now)
    (sym c.self.view_is)
    c.requires.fetched in
    let ring = subst (λ (x : ControllerState). IsSqRing x.config x.past c.args.queue c.unwrap-ring.result.now)
    (sym c.self.view_is)
    (rw c.unwrap-ring.ensures at c.sq_ring.ensures.value) in
    record { has = data_has _ _ _ c.self.invariant.0 _ _ a _ ring }

pub returns-clause-write : goal.returns-clause-write
returns-clause-write c =
    let a = subst (λ (x : ControllerState). IsFetched x.config x.past c.args.queue c.args.front.now)
    (sym c.self.view_is)
    c.requires.fetched in
    let ring = subst (λ (x : ControllerState). IsSqRing x.config x.past c.args.queue c.unwrap-ring.result.now)
    (sym c.self.view_is)
    (rw c.unwrap-ring.ensures at c.sq_ring.ensures.value) in
    let same = subst (λ (x : ControllerState). write_first c.args.front.now.judged c.unwrap-ring.result.now.waiting
    ≡ write_blocks (fetched_ticket x.past c.args.queue (verdict_by c.args.front.now.judged))) c.self.view_is
    (data_is _ _ _ c.self.invariant.0 _ _ a _ ring) in
    subst (λ (bs : List (List ℕ)). IfOk c.data_room.result (λ room. contents_of room.write.items ≡ bs)) same
    c.data_room.ensures.write
