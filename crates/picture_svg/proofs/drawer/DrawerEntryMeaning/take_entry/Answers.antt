use Rattle.std.proofs.Common.{sym, ◌∙◌}
use Rattle.plain_lemmas.proofs.Options.{none_of}
use Rattle.picture_svg.proofs.GoingOn.{goes_on, stays}
use Rattle.picture_svg.proofs.drawer.DrawerEntryMeaning.take_entry.Goals as goal

pub returns-then-ended-clause-taken : goal.returns-then-ended-clause-taken
returns-then-ended-clause-taken c k past h =
    stays k c.args.self.now.options past c.args.entry c.args.self.now.config c.args.self.now.judge.checker _
    c.args.self.now.judge.count _ c.args.self.now.judge.bad _ c.args.self.now.picture h
    (sym c.is_some-ended.ensures ∙ c.if-ended.true) (c.in_ok-judge.ensures.judged k past h.judged)

pub returns-clause-taken : goal.returns-clause-taken
returns-clause-taken c k past h =
    let drawn = c.in_ok-draw.ensures.drawn in
    goes_on k c.args.self.now.options past c.args.entry c.args.self.now.config c.args.self.now.judge.checker _
    c.args.self.now.judge.count _ c.args.self.now.judge.bad _ c.args.self.now.picture _ drawn.0 h
    (none_of _ (sym c.is_some-ended.ensures ∙ c.if-ended.false)) (c.in_ok-judge.ensures.judged k past h.judged) drawn.1
