use Rattle.std.proofs.Common.{◌≡◌, ◌≤◌, ◌<◌, ◌%◌, ℕ, List, ◌++◌, ◌∷◌, take, drop, length, sym, ap, subst, ◌∙◌}
use Rattle.std.proofs.Common.{append_assoc, append-nil, arith}
use Rattle.std.specs.Io.KnownBytes.{Appends}
use Rattle.std.proofs.KnownBytes.{Appends-trans}
use Rattle.line_text.specs.Known.{AppendsFront}
use Rattle.line_text.proofs.Known.{front_first, front_second, on_err}
use Rattle.line_text.specs.Data.{block_text, data_text}
use Rattle.line_text.proofs.DataWriting.{left_text, left_next, left_none, text_first, rest_whole, enough}
use Rattle.line_text.proofs.data_out.send_blocks.Goals as goal

-- the text begins with that of the first block
begun : (bytes first rest : List ℕ) → 0 < length bytes → length bytes % 512 ≡ 0 → first ≡ take 512 bytes
    → rest ≡ drop 512 bytes
    → (data_text 512 bytes ≡ block_text first ++ left_text 512 rest) × (length rest % 512 ≡ 0)
begun bytes first rest some whole e f = (
  text_first 512 bytes (omega arith) some whole ∙ ap (λ l. block_text l ++ left_text 512 (drop 512 bytes)) (sym e)
      ∙ ap (λ l. block_text first ++ left_text 512 l) (sym f),
  ap (λ l. length l % 512) f ∙ rest_whole 512 bytes (enough 512 (length bytes) (omega arith) some whole) whole,
)

-- and so does that of the rest
further : (all done rest block after : List ℕ) → 512 ≤ length rest → length rest % 512 ≡ 0
    → all ≡ done ++ left_text 512 rest → block ≡ take 512 rest → after ≡ drop 512 rest
    → (all ≡ (done ++ (46 ∷ block_text block)) ++ left_text 512 after) × (length after % 512 ≡ 0)
further all done rest block after many whole e f g =
    let next : left_text 512 rest ≡ (46 ∷ block_text block) ++ left_text 512 after =
    left_next 512 rest (omega arith) many ∙ ap (λ l. (46 ∷ block_text l) ++ left_text 512 (drop 512 rest)) (sym f)
    ∙ ap (λ l. (46 ∷ block_text block) ++ left_text 512 l) (sym g) in (
      e ∙ ap (λ l. done ++ l) next ∙ sym (append_assoc done (46 ∷ block_text block) (left_text 512 after)),
      ap (λ l. length l % 512) g ∙ rest_whole 512 rest many whole,
    )

pub returns-in_err-send_block-clause-front : goal.returns-in_err-send_block-clause-front
returns-in_err-send_block-clause-front g c =
    let b = begun c.args.bytes.now c.split_at.result.0.now c.split_at.result.1.now c.requires.some c.requires.whole
    c.split_at.ensures.front c.split_at.ensures.back in
    let front = front_first (g.W.Write.contents c.args.writer.now) (g.W.Write.contents c.send_block.new.writer) _
    (left_text 512 c.split_at.result.1.now) c.in_err-send_block.ensures.front in
    on_err c.from_residual.result
    (subst (AppendsFront (g.W.Write.contents c.args.writer.now) (g.W.Write.contents c.send_block.new.writer))
    (sym b.0) front)

pub loop-rest-init : goal.loop-rest-init
loop-rest-init g c =
    let b = begun c.args.bytes.now c.split_at.result.0.now c.split_at.result.1.now c.requires.some c.requires.whole
    c.split_at.ensures.front c.split_at.ensures.back in
    (block_text c.split_at.result.0.now, c.in_ok-send_block.ensures.whole, b.0, b.1)

pub returns-in_err-send_dotted-clause-front : goal.returns-in_err-send_dotted-clause-front
returns-in_err-send_dotted-clause-front g c =
    let at = c.loop-rest.invariant in
    let block = c.split_at-in-loop-rest.result.0.now in
    let after = c.split_at-in-loop-rest.result.1.now in
    let b = further (data_text 512 c.args.bytes.now) at.0 c.loop-rest.rest.now block after (omega arith) at.3 at.2
    c.split_at-in-loop-rest.ensures.front c.split_at-in-loop-rest.ensures.back in
    let x = g.W.Write.contents c.args.writer.now in
    let y = g.W.Write.contents c.loop-rest.writer in
    let z = g.W.Write.contents c.send_dotted.new.writer in
    let front = front_first x z (at.0 ++ (46 ∷ block_text block)) (left_text 512 after)
    (front_second x y z at.0 (46 ∷ block_text block) at.1 c.in_err-send_dotted.ensures.front) in
    on_err c.from_residual-in_err-send_dotted.result (subst (AppendsFront x z) (sym b.0) front)

pub loop-rest-preserved : goal.loop-rest-preserved
loop-rest-preserved g c =
    let at = c.loop-rest.invariant in
    let block = c.split_at-in-loop-rest.result.0.now in
    let after = c.split_at-in-loop-rest.result.1.now in
    let b = further (data_text 512 c.args.bytes.now) at.0 c.loop-rest.rest.now block after (omega arith) at.3 at.2
    c.split_at-in-loop-rest.ensures.front c.split_at-in-loop-rest.ensures.back in (
      at.0 ++ (46 ∷ block_text block),
      Appends-trans _ _ _ at.0 (46 ∷ block_text block) at.1 c.in_ok-send_dotted.ensures.whole,
      b.0,
      b.1,
    )

pub returns-clause-whole : goal.returns-clause-whole
returns-clause-whole g c =
    let at = c.loop-rest.invariant in
    let text : data_text 512 c.args.bytes.now ≡ at.0 = at.2
    ∙ ap (λ l. at.0 ++ l) (left_none 512 c.loop-rest.rest.now (omega arith)) ∙ append-nil at.0 in
    subst (Appends (g.W.Write.contents c.args.writer.now) (g.W.Write.contents c.loop-rest.writer)) (sym text) at.1
