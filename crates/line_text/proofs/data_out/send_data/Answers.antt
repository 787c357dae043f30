use Rattle.std.proofs.Common.{◌≡◌, [], ◌∷◌, sym, subst, ◌∙◌}
use Rattle.std.proofs.lemmas.List.{nil_from_length}
use Rattle.std.proofs.lemmas.Bool.{eqb-true}
use Rattle.std.specs.Io.KnownBytes.{Appends}
use Rattle.std.proofs.KnownBytes.{Appends-trans}
use Rattle.hex.specs.Hex.{encode_upper}
use Rattle.line_text.specs.Known.{AppendsFront}
use Rattle.line_text.proofs.Known.{front_first, front_second, on_err, on_err_then, on_ok_then}
use Rattle.line_text.proofs.DataWriting.{text_empty, text_other_length}
use Rattle.line_text.proofs.data_out.send_data.Goals as goal

pub returns-then-is_empty-clause-whole : goal.returns-then-is_empty-clause-whole
returns-then-is_empty-clause-whole g c =
    let none : c.args.bytes.now ≡ [] = nil_from_length _ (eqb-true _ _ (sym c.is_empty.ensures ∙ c.if-is_empty.true)) in
    on_ok_then c.send.result
    (λ p. subst (Appends (g.W.Write.contents c.args.writer.now) (g.W.Write.contents c.send.new.writer))
    (sym (text_empty 512 c.args.bytes.now none)) p) c.send.ensures.whole

pub returns-then-is_empty-clause-front : goal.returns-then-is_empty-clause-front
returns-then-is_empty-clause-front g c =
    let none : c.args.bytes.now ≡ [] = nil_from_length _ (eqb-true _ _ (sym c.is_empty.ensures ∙ c.if-is_empty.true)) in
    on_err_then c.send.result
    (λ p. subst (AppendsFront (g.W.Write.contents c.args.writer.now) (g.W.Write.contents c.send.new.writer))
    (sym (text_empty 512 c.args.bytes.now none)) p) c.send.ensures.front

pub returns-in_err-send-clause-front : goal.returns-in_err-send-clause-front
returns-in_err-send-clause-front g c =
    let text = text_other_length 512 c.args.bytes.now c.if-bytes-eq0.false in
    let front = front_first (g.W.Write.contents c.args.writer.now) (g.W.Write.contents c.send-2.new.writer) (120 ∷ [])
    (encode_upper c.args.bytes.now) c.in_err-send.ensures.front in
    on_err c.from_residual.result
    (subst (AppendsFront (g.W.Write.contents c.args.writer.now) (g.W.Write.contents c.send-2.new.writer)) (sym text)
    front)

pub returns-clause-whole : goal.returns-clause-whole
returns-clause-whole g c =
    let text = text_other_length 512 c.args.bytes.now c.if-bytes-eq0.false in
    let first = c.in_ok-send.ensures.whole in
    let a = g.W.Write.contents c.args.writer.now in
    let d = g.W.Write.contents c.send_hex.new.writer in
    on_ok_then c.send_hex.result
    (λ p. subst (Appends a d) (sym text) (Appends-trans a _ d (120 ∷ []) (encode_upper c.args.bytes.now) first p))
    c.send_hex.ensures.whole

pub returns-clause-front : goal.returns-clause-front
returns-clause-front g c =
    let text = text_other_length 512 c.args.bytes.now c.if-bytes-eq0.false in
    let first = c.in_ok-send.ensures.whole in
    let a = g.W.Write.contents c.args.writer.now in
    let d = g.W.Write.contents c.send_hex.new.writer in
    on_err_then c.send_hex.result
    (λ p. subst (AppendsFront a d) (sym text)
    (front_second a _ d (120 ∷ []) (encode_upper c.args.bytes.now) first p)) c.send_hex.ensures.front
