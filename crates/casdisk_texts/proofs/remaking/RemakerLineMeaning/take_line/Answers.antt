use Rattle.std.proofs.Common.{ap, ap₂, not, refl, ◌∙◌, ◌∷◌}
use Rattle.plain_lemmas.proofs.Options.{none_of}
use Rattle.history.specs.declared.kinds.Kinds.{Kinds}
use Rattle.casdisk_texts.specs.Remade.{first_other, remade_line, remade_text}
use Rattle.casdisk_texts.proofs.MadeAgain.{line_means, other_stays}
use Rattle.casdisk_texts.proofs.remaking.RemakerLineMeaning.take_line.Goals as goal

pub returns-in_ok-remake-clause-taken : goal.returns-in_ok-remake-clause-taken
returns-in_ok-remake-clause-taken g c k past h =
    let kinds = c.args.self.now.kinds.0 in
    let e = c.in-Ok.entry in
    let read = c.in-Ok.ensures.value in
    let none = none_of c.args.self.now.other (c.is_none.ensures ∙ ap not c.if-is_none.true) in
    let done = c.in_ok-remake.ensures.done k past h none read in
    let same = c.remake.ensures.same in (
      (e ∷ past, remade_text kinds e (first_other k (e ∷ past))),
      line_means kinds k c.args.self.now.core.config past c.args.line.now e h.config read,
      done.0,
      ap₂ remade_line same.0 (ap (λ (x : Kinds). x.0) same.1),
      done.1,
    )

pub returns-else-is_none-clause-taken : goal.returns-else-is_none-clause-taken
returns-else-is_none-clause-taken g c k past h =
    let kinds = c.args.self.now.kinds.0 in
    let e = c.in-Ok.entry in
    let read = c.in-Ok.ensures.value in
    let done = other_stays k past e kinds c.args.self.now.core c.args.self.now.other _
    (c.is_none.ensures ∙ ap not c.if-is_none.false) h in (
      (e ∷ past, remade_text kinds e (first_other k (e ∷ past))),
      line_means kinds k c.args.self.now.core.config past c.args.line.now e h.config read,
      done.0,
      refl,
      done.1,
    )
