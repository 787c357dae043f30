use Rattle.std.proofs.Common.{[], ap, arith, cond, length, subst, sym, ◌++◌, ◌∙◌, ◌∷◌}
use Rattle.std.specs.Io.KnownBytes.{Appends}
use Rattle.std.proofs.KnownBytes.{Appends-nil}
use Rattle.line_text.specs.Known.{AppendsFront}
use Rattle.history.specs.Lines.{entry_line}
use Rattle.line_text.proofs.Known.{on_err_then, on_ok_then}
use Rattle.casdisk_texts.proofs.MadeAgain.{other_next, same_next, same_stopped, text_shown}
use Rattle.casdisk_texts.proofs.remaking.Remaker.remake.Goals as goal

pub returns-then-not-again-clause-done : goal.returns-then-not-again-clause-done
returns-then-not-again-clause-done g c k past h none read =
    let made = rw (c.if-not-again.true, h.config, h.made none) at (c.in-Ok.ensures.made read) in
    other_next k past c.args.entry (sym h.first ∙ none) c.args.self.now.kinds.0 c.make_entry.new.self.core
    (c.make_entry.ensures.same.0 ∙ h.config) c.in-Some.place _ made
    (omega (arith, c.in-Some.ensures, c.len.ensures ∙ ap length (c.history.ensures.past ∙ h.made none)))

pub returns-then-not-shown-clause-done : goal.returns-then-not-shown-clause-done
returns-then-not-shown-clause-done g c k past h none read =
    let made = rw (c.if-not-again.false, h.config, h.made none) at (c.in-Ok.ensures.made read) in
    let is = text_shown c.args.self.now.kinds.0 c.kind_of.result.0 c.args.entry c.shows-shown.result c.kind_of.ensures
    c.shows-shown.ensures
    ∙ ap (λ b. cond b (entry_line c.args.entry ++ 10 ∷ []) []) c.if-not-shown.true in
    same_next k past c.args.entry (sym h.first ∙ none) c.args.self.now.kinds.0 c.make_entry.new.self.core
    (c.make_entry.ensures.same.0 ∙ h.config) c.make_entry.new.self.other _ _ made.0 made.1
    (c.make_entry.ensures.same.2 ∙ none) (subst (Appends _ _) (sym is) (Appends-nil _))

pub returns-clause-done : goal.returns-clause-done
returns-clause-done g c k past h none read =
    let made = rw (c.if-not-again.false, h.config, h.made none) at (c.in-Ok.ensures.made read) in
    let is = text_shown c.args.self.now.kinds.0 c.kind_of.result.0 c.args.entry c.shows-shown.result c.kind_of.ensures
    c.shows-shown.ensures
    ∙ ap (λ b. cond b (entry_line c.args.entry ++ 10 ∷ []) []) c.if-not-shown.false in
    let text = c.as_slice.ensures.value ∙ c.in-Ok-push.ensures.items ∙ ap (λ l. l ++ 10 ∷ []) made.2 ∙ sym is in
    on_ok_then c.send_text.result (λ sent.
    same_next k past c.args.entry (sym h.first ∙ none) c.args.self.now.kinds.0 c.make_entry.new.self.core
    (c.make_entry.ensures.same.0 ∙ h.config) c.make_entry.new.self.other _ _ made.0 made.1
    (c.make_entry.ensures.same.2 ∙ none) (subst (Appends _ _) text sent)) c.send_text.ensures.told

pub returns-clause-stopped : goal.returns-clause-stopped
returns-clause-stopped g c k past h none read =
    let made = rw (c.if-not-again.false, h.config, h.made none) at (c.in-Ok.ensures.made read) in
    let is = text_shown c.args.self.now.kinds.0 c.kind_of.result.0 c.args.entry c.shows-shown.result c.kind_of.ensures
    c.shows-shown.ensures
    ∙ ap (λ b. cond b (entry_line c.args.entry ++ 10 ∷ []) []) c.if-not-shown.false in
    let text = c.as_slice.ensures.value ∙ c.in-Ok-push.ensures.items ∙ ap (λ l. l ++ 10 ∷ []) made.2 ∙ sym is in
    on_err_then c.send_text.result (λ sent.
    same_stopped k past c.args.entry (sym h.first ∙ none) c.args.self.now.kinds.0 _ _ made.0
    (subst (AppendsFront _ _) text sent)) c.send_text.ensures.stopped
