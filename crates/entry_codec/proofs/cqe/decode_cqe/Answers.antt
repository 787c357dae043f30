use Rattle.std.proofs.Common.{Ok, ap, arith, sym, ◌∙◌}
use Rattle.std.proofs.lemmas.Grind.{common_steps}
use Rattle.nvme_model.specs.EntryBytes.{cqe_fields}
use Rattle.nvme_model.specs.Bits.{bit}
use Rattle.entry_codec.proofs.CqeLemmas.{completion_fields-injective, cqe_bytes-fields, cqe_fields-cqe_bytes}
use Rattle.entry_codec.proofs.CqeLemmas.{bit-lt}
use Rattle.entry_codec.proofs.LittleLemmas.{IsBytes-places}
use Rattle.entry_codec.proofs.cqe.decode_cqe.Goals as goal

pub returns-clause-fields : goal.returns-clause-fields
returns-clause-fields c = grind (arith, common_steps)

pub returns-clause-back : goal.returns-clause-back
returns-clause-back c =
    cqe_bytes-fields _ _ _ _ _ c.args.bytes.now c.told-bytes (IsBytes-places c.args.bytes.now c.fits-bytes)
    (sym (returns-clause-fields c))

pub returns-clause-again : goal.returns-clause-again
returns-clause-again c = λ cqe fits same.
    ap Ok
    (completion_fields-injective _ cqe
    (returns-clause-fields c ∙ ap cqe_fields same
    ∙ cqe_fields-cqe_bytes cqe.sqhd cqe.sqid cqe.cid (bit cqe.phase) cqe.status fits.sqhd fits.sqid fits.cid
    (bit-lt cqe.phase) fits.sc fits.sct))
