use Rattle.nvme_model.specs.Bits.{bit}
use Rattle.entry_codec.proofs.CqeLemmas.{cqe_bytes-fields, cqe_fields-cqe_bytes, bit-lt}
use Rattle.entry_codec.proofs.laws.cqe_codec_is_inverse.Goals as goal

pub returns-clause-fields : goal.returns-clause-fields
returns-clause-fields c = λ cqe fits.
    cqe_fields-cqe_bytes cqe.sqhd cqe.sqid cqe.cid (bit cqe.phase) cqe.status fits.sqhd fits.sqid fits.cid
    (bit-lt cqe.phase) fits.sc fits.sct

pub returns-clause-bytes : goal.returns-clause-bytes
returns-clause-bytes c = λ cqe. cqe_bytes-fields cqe.sqhd cqe.sqid cqe.cid (bit cqe.phase) cqe.status
