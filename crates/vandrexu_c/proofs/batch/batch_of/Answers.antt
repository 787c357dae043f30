use Rattle.std.proofs.Common.{Some, [], ap, inr, length, refl, rules, sym, ◌++◌, ◌<◌, ◌∙◌, ◌∷◌, ◌≡◌, ◌≤◌}
use Rattle.vandrexu_c.proofs.Batches.{all_there, one_more, too_few, too_many}
use Rattle.vandrexu_c.proofs.batch.batch_of.Goals as goal

pub returns-then-first-data-clause-fault : goal.returns-then-first-data-clause-fault
returns-then-first-data-clause-fault c =
    let l = c.loop-first in
    let short : length l.data.now < c.in-Some.first.now.count = search rules in
    inr (
      refl,
      too_few l.left.now l.data.now l.items.items _ l.invariant c.in-Some.others.now c.in-Some.first.now
          c.in-Some.ensures.cases.0 short,
    )

pub loop-first-preserved : goal.loop-first-preserved
loop-first-preserved c =
    let l = c.loop-first in
    let fits : c.in-Some.first.now.count ≤ length l.data.now = search rules in
    let added : c.push.new.self.items ≡ l.items.items ++ c.in_ok-item.item ∷ [] = search rules in
    one_more l.left.now l.data.now l.items.items _ l.invariant c.in-Some.others.now c.in-Some.first.now
    c.in-Some.ensures.cases.0 c.split_at.result.0.now c.split_at.result.1.now c.in_ok-item.item c.push.new.self.items
    fits c.split_at.ensures.front c.split_at.ensures.back c.in_ok-item.ensures.value added

pub returns-then-not-is_empty-clause-fault : goal.returns-then-not-is_empty-clause-fault
returns-then-not-is_empty-clause-fault c =
    let l = c.loop-first in
    let some : 0 < length l.data.now = search rules in
    inr (refl, too_many l.left.now l.data.now l.items.items _ l.invariant c.in_default.ensures.cases some)

pub returns-clause-all : goal.returns-clause-all
returns-clause-all c =
    let l = c.loop-first in
    let none : length l.data.now ≡ 0 = search rules in
    all_there l.left.now l.data.now l.items.items _ l.invariant c.in_default.ensures.cases none
    ∙ ap Some (sym c.new.ensures)
