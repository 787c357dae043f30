use Rattle.std.proofs.Common.{◌≡◌, [], refl, ap, subst, sym}
use Rattle.std.specs.Prelude.{option_map}
use Rattle.std.proofs.KnownBytes.{Appends-nil}
use Rattle.casdisk_texts.specs.Said.{line_says, medium_text}
use Rattle.casdisk_texts.proofs.performing.PerformerLineMeaning.take_line.Goals as goal

pub returns-in-Ok-Comment-clause-taken : goal.returns-in-Ok-Comment-clause-taken
returns-in-Ok-Comment-clause-taken g c k now e =
    let past = c.args.self.now.core.past in
    let line = rw c.in-Ok-Comment.field-0-is at c.in-Ok-Comment.ensures.value in
    let is : past ≡ now = e.0 in
    rw (← is) (
      (past, []),
      ap (option_map (line_says c.args.self.now.kinds.0 c.args.self.now.core.config past)) line,
      (refl, subst (g.J.Watch.stands c.args.self.now.watch k) (sym is) e.1),
      refl,
      Appends-nil _,
    )

pub returns-in_ok-tell_medium-in-Ok-Medium-clause-taken : goal.returns-in_ok-tell_medium-in-Ok-Medium-clause-taken
returns-in_ok-tell_medium-in-Ok-Medium-clause-taken g c k now e =
    let past = c.args.self.now.core.past in
    let config = c.args.self.now.core.config in
    let kinds = c.args.self.now.kinds.0 in
    let line = rw c.in-Ok-Medium.field-0-is at c.in-Ok-Medium.ensures.value in
    let told = (c.in_ok-tell_medium-in-Ok-Medium).ensures.told in
    let same = c.tell_medium.ensures.same in
    let is : past ≡ now = e.0 in
    rw (← is, same.0, same.1, c.tell_medium.ensures.unseen) (
      (past, medium_text kinds config past c.in-Ok-Medium.lba),
      ap (option_map (line_says kinds config past)) line,
      (refl, subst (g.J.Watch.stands c.args.self.now.watch k) (sym is) e.1),
      refl,
      told,
    )
