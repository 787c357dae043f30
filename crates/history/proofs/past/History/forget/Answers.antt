use Rattle.std.proofs.Common.{◌-◌, ◌++◌, ◌∙◌, ap, arith, reverse, take}
use Rattle.history.specs.Kept.{HistoryRoom}
use Rattle.history.proofs.Forgetting.{forgets}
use Rattle.history.proofs.past.History.forget.Goals as goal

pub returns-clause-past : goal.returns-clause-past
returns-clause-past c =
    let gone = c.gone-self-inside.ensures
    ∙ (λ i. reverse (take c.min-count.result (c.of-2.ensures i).items) ++ (c.of.ensures i).past) in
    let whole = forgets c.self.inside.entries.items c.min-count.result (c.len-2.result - c.min-count.result)
    c.self.inside.gone.past (omega arith) in
    let view = ap (λ (x : HistoryRoom). x.past) c.self.view_is in
    cc (gone, whole, view)
