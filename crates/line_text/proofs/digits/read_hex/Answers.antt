use Rattle.std.proofs.Common.{None, Some, sym, ◌∙◌}
use Rattle.hex.specs.Hex.{IsBytes, encode_upper}
use Rattle.line_text.proofs.Spelling.{spelled}
use Rattle.line_text.proofs.HexLaws.{bytes_law, bytes_none, bytes_lower, bytes_decoded, or_left}
use Rattle.line_text.proofs.digits.read_hex.Goals as goal

pub returns-then-not-is_upper : goal.returns-then-not-is_upper
returns-then-not-is_upper c =
    spelled IsBytes encode_upper _ _ (bytes_law c.args.word.now) None
    (sym (bytes_lower _ (sym c.is_upper.ensures ∙ c.if-not-is_upper.true)))

pub returns-in-Ok : goal.returns-in-Ok
returns-in-Ok c =
    spelled IsBytes encode_upper _ _ (bytes_law c.args.word.now) (Some c.in-Ok.bytes.items)
    (sym (bytes_decoded _ _ (sym c.is_upper.ensures ∙ c.if-not-is_upper.false) c.in-Ok.ensures.ok))

pub returns-in_default : goal.returns-in_default
returns-in_default c =
    spelled IsBytes encode_upper _ _ (bytes_law c.args.word.now) None
    (sym (bytes_none _ c.in-Err.error (or_left c.in-Err.ensures.err c.in_default.not-OutOfMemory)))
