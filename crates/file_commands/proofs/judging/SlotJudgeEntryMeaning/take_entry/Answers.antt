use Rattle.std.proofs.Common.{sym, ◌∙◌}
use Rattle.file_commands.proofs.Wronging.{behind_bad, behind_wrong, goes_on}
use Rattle.file_commands.proofs.judging.SlotJudgeEntryMeaning.take_entry.Goals as goal

pub returns-then-is_some-clause-taken : goal.returns-then-is_some-clause-taken
returns-then-is_some-clause-taken g c k past h =
    behind_bad _ k c.args.self.now.slots past c.args.entry c.args.self.now.judge.checker _
    c.args.self.now.judge.count _ c.args.self.now.judge.bad _ _ _ (c.in_ok-judge.ensures.judged k past h.judged)
    (sym c.is_some.ensures ∙ c.if-is_some.true)

pub returns-then-is_some-2-clause-taken : goal.returns-then-is_some-2-clause-taken
returns-then-is_some-2-clause-taken g c k past h =
    behind_wrong _ k c.args.self.now.slots past c.args.entry c.args.self.now.judge.checker _
    c.args.self.now.judge.count _ c.args.self.now.judge.bad _ _ _ (c.in_ok-judge.ensures.judged k past h.judged) h
    (sym c.is_some-2.ensures ∙ c.if-is_some-2.true)

pub returns-clause-taken : goal.returns-clause-taken
returns-clause-taken g c k past h =
    rw c.wrong_step_at-self.ensures.value
    (goes_on _ k c.args.self.now.slots past c.args.entry c.args.self.now.judge.checker _
    c.args.self.now.judge.count _ c.args.self.now.judge.bad _ _ _ (c.in_ok-judge.ensures.judged k past h.judged) h
    (sym c.is_some.ensures ∙ c.if-is_some.false) (sym c.is_some-2.ensures ∙ c.if-is_some-2.false) _ _
    (c.in_ok-broken.ensures.broken k c.args.self.now.slots past)
    (c.in_ok-broken.ensures.watches k c.args.self.now.slots past))
