use Rattle.entry_codec.proofs.SqeLemmas.{sqe_bytes-sqe_fields, sqe_fields-sqe_bytes}
use Rattle.entry_codec.proofs.laws.sqe_codec_is_inverse.Goals as goal

pub returns-clause-fields : goal.returns-clause-fields
returns-clause-fields c = sqe_fields-sqe_bytes

pub returns-clause-bytes : goal.returns-clause-bytes
returns-clause-bytes c = sqe_bytes-sqe_fields
