use Rattle.std.proofs.Common.{ap, arith, sym, ◌∙◌}
use Rattle.std.proofs.lemmas.Grind.{common_steps}
use Rattle.entry_codec.specs.Sqe.{sqe_bytes}
use Rattle.entry_codec.proofs.LittleLemmas.{IsBytes-places}
use Rattle.entry_codec.proofs.SqeLemmas.{sqe_bytes-sqe_fields}
use Rattle.entry_codec.proofs.sqe.codec.decode_sqe.Goals as goal

pub returns-clause-value : goal.returns-clause-value
returns-clause-value c = grind (arith, common_steps)

pub returns-clause-back : goal.returns-clause-back
returns-clause-back c =
    sym (ap sqe_bytes (returns-clause-value c)
    ∙ sqe_bytes-sqe_fields c.args.bytes.now c.told-bytes (IsBytes-places c.args.bytes.now c.fits-bytes))
