use Rattle.std.proofs.Common.{◌≡◌, ◌++◌, List, [], map, sym, ap, subst, ℕ, ◌∙◌}
use Rattle.std.specs.List.{join_with_byte}
use Rattle.std.specs.Io.KnownBytes.{Appends}
use Rattle.std.proofs.KnownBytes.{Appends-trans}
use Rattle.line_text.specs.Known.{AppendsFront}
use Rattle.line_text.proofs.Known.{front_first, front_second, on_err, on_err_then, on_ok_then}
use Rattle.line_text.specs.Words.{behind, word_text}
use Rattle.line_text.proofs.WordLaws.{join_behind}
use Rattle.line_text.proofs.words.send_words.Goals as goal

pub returns-clause-whole : goal.returns-clause-whole
returns-clause-whole g c =
    let a = g.W.Write.contents c.args.writer.now in
    let d = g.W.Write.contents c.send_behind.new.writer in
    let text = ap (λ l. join_with_byte 32 (map word_text l)) c.in-Some.ensures.cases.0
    ∙ join_behind 32 (word_text c.in-Some.first.now) (map word_text c.in-Some.others.now) in
    let first = c.in_ok-send_word.ensures.whole in
    on_ok_then c.send_behind.result (λ p. subst (Appends a d) (sym text) (Appends-trans a _ d _ _ first p))
    c.send_behind.ensures.whole

pub returns-clause-front : goal.returns-clause-front
returns-clause-front g c =
    let a = g.W.Write.contents c.args.writer.now in
    let d = g.W.Write.contents c.send_behind.new.writer in
    let text = ap (λ l. join_with_byte 32 (map word_text l)) c.in-Some.ensures.cases.0
    ∙ join_behind 32 (word_text c.in-Some.first.now) (map word_text c.in-Some.others.now) in
    let first = c.in_ok-send_word.ensures.whole in
    on_err_then c.send_behind.result (λ p. subst (AppendsFront a d) (sym text) (front_second a _ d _ _ first p))
    c.send_behind.ensures.front

-- what was spelled is the line
spelled : (first others whole zero one two : List ℕ) → zero ≡ [] → one ≡ zero ++ first → two ≡ one ++ others
    → whole ≡ first ++ others → two ≡ whole
spelled first others whole zero one two z e f g =
    f ∙ ap (λ l. l ++ others) (e ∙ ap (λ l. l ++ first) z) ∙ sym g

pub returns-then-add_behind-clause-whole : goal.returns-then-add_behind-clause-whole
returns-then-add_behind-clause-whole g c =
    let text = ap (λ l. join_with_byte 32 (map word_text l)) c.in-Some.ensures.cases.0
    ∙ join_behind 32 (word_text c.in-Some.first.now) (map word_text c.in-Some.others.now) in
    let is = spelled (word_text c.in-Some.first.now) (behind 32 (map word_text c.in-Some.others.now)) _ _ _ _
    c.new-unsent.ensures (c.add_word.ensures c.if-add_word.true) (c.add_behind.ensures c.if-add_behind.true) text in
    on_ok_then c.send_all.result
    (λ p. subst (Appends (g.W.Write.contents c.args.writer.now) (g.W.Write.contents c.send_all.new.writer)) is p)
    c.send_all.ensures.whole

pub returns-then-add_behind-clause-front : goal.returns-then-add_behind-clause-front
returns-then-add_behind-clause-front g c =
    let text = ap (λ l. join_with_byte 32 (map word_text l)) c.in-Some.ensures.cases.0
    ∙ join_behind 32 (word_text c.in-Some.first.now) (map word_text c.in-Some.others.now) in
    let is = spelled (word_text c.in-Some.first.now) (behind 32 (map word_text c.in-Some.others.now)) _ _ _ _
    c.new-unsent.ensures (c.add_word.ensures c.if-add_word.true) (c.add_behind.ensures c.if-add_behind.true) text in
    on_err_then c.send_all.result
    (λ h. subst (AppendsFront (g.W.Write.contents c.args.writer.now) (g.W.Write.contents c.send_all.new.writer)) is h)
    c.send_all.ensures.front

pub returns-in_err-send_word-clause-front : goal.returns-in_err-send_word-clause-front
returns-in_err-send_word-clause-front g c =
    let text = ap (λ l. join_with_byte 32 (map word_text l)) c.in-Some.ensures.cases.0
    ∙ join_behind 32 (word_text c.in-Some.first.now) (map word_text c.in-Some.others.now) in
    on_err c.from_residual.result
    (subst (AppendsFront (g.W.Write.contents c.args.writer.now) (g.W.Write.contents c.send_word.new.writer)) (sym text)
    (front_first _ _ (word_text c.in-Some.first.now) (behind 32 (map word_text c.in-Some.others.now))
    c.in_err-send_word.ensures.front))
