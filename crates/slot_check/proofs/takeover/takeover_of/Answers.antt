use Rattle.std.proofs.Common.{[], ap, cond, sym, true, Bool, ◌∙◌, ◌≡◌}
use Rattle.nvme_model.specs.EntryBytes.{slba, sqe_fields}
use Rattle.nvme_model.specs.Slots.{is_pair_on_one, name_of}
use Rattle.host_laws.specs.Takeovers.{takeover_by}
use Rattle.slot_check.proofs.takeover.takeover_of.Goals as goal

pub returns : goal.returns
returns c =
    let lba : c.slba-lba.result ≡ slba (sqe_fields c.args.a.now.entry) =
    c.slba-lba.ensures.value ∙ ap slba c.decode_sqe.ensures.value in
    let dead : c.name_of-dead.result ≡ name_of c.args.a.now.payload =
    c.name_of-dead.ensures.value ∙ ap name_of c.as_slice.ensures in
    let name : c.name_of-name.result ≡ name_of c.args.b.now.payload =
    c.name_of-name.ensures.value ∙ ap name_of c.as_slice-2.ensures in
    let pair : is_pair_on_one c.args.a.now c.args.b.now ≡ true = sym c.if-not-is_pair_on_one.ensures.value in
    record {
      value = c.takeover_by.ensures.value
          ∙ (λ i. takeover_by c.args.queue c.args.number (lba i) (dead i) (name i))
          ∙ ap (λ (b : Bool). cond b (takeover_by c.args.queue c.args.number (slba (sqe_fields c.args.a.now.entry))
          (name_of c.args.a.now.payload) (name_of c.args.b.now.payload)) []) (sym pair);
    }
