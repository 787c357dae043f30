use Rattle.std.proofs.Common.{List, sym, subst, ℕ}
use Rattle.std.specs.Prelude.{OnErr, OnOk}
use Rattle.std.specs.Io.KnownBytes.{Appends}
use Rattle.line_text.specs.Known.{AppendsFront}
use Rattle.script_lines.proofs.PublishText.{publish_text}
use Rattle.script_lines.proofs.writing.send_publish.Goals as goal

pub returns-clause-whole : goal.returns-clause-whole
returns-clause-whole g c =
    subst (λ (t : List ℕ). OnOk c.send_parts.result (Appends (g.W.Write.contents c.args.writer.now)
    (g.W.Write.contents c.send_parts.new.writer) t))
    (sym (publish_text c.args.words.now)) c.send_parts.ensures.whole

pub returns-clause-front : goal.returns-clause-front
returns-clause-front g c =
    subst (λ (t : List ℕ). OnErr c.send_parts.result (AppendsFront (g.W.Write.contents c.args.writer.now)
    (g.W.Write.contents c.send_parts.new.writer) t))
    (sym (publish_text c.args.words.now)) c.send_parts.ensures.front
