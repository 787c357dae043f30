use Rattle.std.proofs.Common.{◌≡◌, ℕ, List, [], ◌++◌, take, drop, sym, ap, subst, refl, ◌∙◌, append_assoc}
use Rattle.std.proofs.Common.{take-append-drop}
use Rattle.std.specs.Io.KnownBytes.{Appends}
use Rattle.std.proofs.KnownBytes.{Appends-trans, Appends-nil}
use Rattle.line_text.specs.Known.{AppendsFront}
use Rattle.line_text.proofs.Known.{front_first, front_second, on_err}
use Rattle.hex.specs.Hex.{encode_upper}
use Rattle.line_text.proofs.HexLaws.{encode_append, encode_none}
use Rattle.line_text.proofs.digits.send_hex.Goals as goal

pub loop-rest-init : goal.loop-rest-init
loop-rest-init g c = ([], refl, subst (Appends _ _) (sym encode_none) (Appends-nil _))

parts : (rest front back : List ℕ) (n : ℕ) → front ≡ take n rest → back ≡ drop n rest → rest ≡ front ++ back
parts rest front back n e f = sym (take-append-drop n rest) ∙ ap (λ l. l ++ drop n rest) (sym e)
    ∙ ap (λ l. front ++ l) (sym f)

pub returns-in_err-send_piece-clause-front : goal.returns-in_err-send_piece-clause-front
returns-in_err-send_piece-clause-front g c =
    let front = c.split_at.result.0.now in
    let back = c.split_at.result.1.now in
    let at = c.loop-rest.invariant in
    let a = g.W.Write.contents c.args.writer.now in
    let b = g.W.Write.contents c.loop-rest.writer in
    let d = g.W.Write.contents c.send_piece.new.writer in
    let cut = parts c.loop-rest.rest.now front back _ c.split_at.ensures.front c.split_at.ensures.back in
    let text : encode_upper c.args.bytes.now ≡ encode_upper at.0 ++ (encode_upper front ++ encode_upper back) =
    ap encode_upper (at.1 ∙ ap (λ l. at.0 ++ l) cut) ∙ encode_append at.0 (front ++ back)
    ∙ ap (λ l. encode_upper at.0 ++ l) (encode_append front back) in
    on_err c.from_residual.result
    (subst (AppendsFront a d) (sym text)
    (front_second a b d (encode_upper at.0) _ at.2
    (front_first b d (encode_upper front) (encode_upper back) c.in_err-send_piece.ensures.front)))

pub loop-rest-preserved : goal.loop-rest-preserved
loop-rest-preserved g c =
    let front = c.split_at.result.0.now in
    let back = c.split_at.result.1.now in
    let at = c.loop-rest.invariant in
    let a = g.W.Write.contents c.args.writer.now in
    let b = g.W.Write.contents c.loop-rest.writer in
    let d = g.W.Write.contents c.send_piece.new.writer in
    let cut = parts c.loop-rest.rest.now front back _ c.split_at.ensures.front c.split_at.ensures.back in (
      at.0 ++ front,
      at.1 ∙ ap (λ l. at.0 ++ l) cut ∙ sym (append_assoc at.0 front back),
      subst (Appends a d) (sym (encode_append at.0 front))
          (Appends-trans a b d _ _ at.2 c.in_ok-send_piece.ensures.whole),
    )
