use Rattle.std.proofs.Common.{[], ◌∷◌, sym, subst}
use Rattle.std.specs.Prelude.{codes, decimal}
use Rattle.std.specs.Io.KnownBytes.{Appends}
use Rattle.std.proofs.KnownBytes.{Appends-trans}
use Rattle.line_text.specs.Known.{AppendsFront}
use Rattle.line_text.proofs.Known.{front_first, front_second, on_err, on_err_then, on_ok_then}
use Rattle.history.specs.ConfigLine.{nine_words}
use Rattle.history.proofs.BatchSpelling.{line_more}
use Rattle.history.proofs.config_line.write_ten.Goals as goal

pub returns-in_err-write_nine-clause-front : goal.returns-in_err-write_nine-clause-front
returns-in_err-write_nine-clause-front g c =
    let n = c.args.numbers.now in
    let text = line_more (codes "config2") (nine_words n) (decimal n.cqs ∷ []) in
    on_err c.from_residual.result
    (subst (AppendsFront (g.W.Write.contents c.args.writer.now) (g.W.Write.contents c.write_nine.new.writer))
    (sym text) (front_first _ _ _ _ c.in_err-write_nine.ensures.front))

pub returns-clause-whole : goal.returns-clause-whole
returns-clause-whole g c =
    let n = c.args.numbers.now in
    let text = line_more (codes "config2") (nine_words n) (decimal n.cqs ∷ []) in
    let sent = rw c.from.ensures at c.send_behind.ensures.whole in
    let a = g.W.Write.contents c.args.writer.now in
    let d = g.W.Write.contents c.send_behind.new.writer in
    on_ok_then c.send_behind.result
    (λ p. subst (Appends a d) (sym text) (Appends-trans a _ d _ _ c.in_ok-write_nine.ensures.whole p)) sent

pub returns-clause-front : goal.returns-clause-front
returns-clause-front g c =
    let n = c.args.numbers.now in
    let text = line_more (codes "config2") (nine_words n) (decimal n.cqs ∷ []) in
    let sent = rw c.from.ensures at c.send_behind.ensures.front in
    let a = g.W.Write.contents c.args.writer.now in
    let d = g.W.Write.contents c.send_behind.new.writer in
    on_err_then c.send_behind.result
    (λ p. subst (AppendsFront a d) (sym text) (front_second a _ d _ _ c.in_ok-write_nine.ensures.whole p)) sent
