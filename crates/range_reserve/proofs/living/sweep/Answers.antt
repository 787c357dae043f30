use Rattle.std.proofs.Common.{arith, ap, inr, length, rules}
use Rattle.std.proofs.lemmas.Fn.{filter_same}
use Rattle.range_reserve.specs.Sorted.{is_living}
use Rattle.range_reserve.proofs.living.sweep.Goals as goal

pub returns-then-len-capacity-clause-either : goal.returns-then-len-capacity-clause-either
returns-then-len-capacity-clause-either c =
    inr (filter_same _ is_living _ (λ x b f' k. search rules) _ _ c.retain.ensures.filtered)

pub returns-then-len-capacity-clause-room : goal.returns-then-len-capacity-clause-room
returns-then-len-capacity-clause-room c = λ l.
    let swept = filter_same _ is_living _ (λ x b f' k. search rules) _ _ c.retain.ensures.filtered in
    omega (arith, l, ap length swept)

pub returns-then-len-capacity-clause-few : goal.returns-then-len-capacity-clause-few
returns-then-len-capacity-clause-few c =
    inr (filter_same _ is_living _ (λ x b f' k. search rules) _ _ c.retain.ensures.filtered)
