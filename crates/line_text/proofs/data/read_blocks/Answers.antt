use Rattle.std.proofs.Common.{ap, refl, ◌∙◌, sym, Some}
use Rattle.line_text.specs.Data.{bytes_of_blocks_in, then_block}
use Rattle.line_text.proofs.DataReading.{part_bad, part_good, parts_done}
use Rattle.line_text.proofs.WordLaws.{next_is, split_first, split_last}
use Rattle.line_text.proofs.data.read_blocks.Goals as goal

pub returns-then-not-branch : goal.returns-then-not-branch
returns-then-not-branch c =
    let rest = c.loop-end.rest.now in
    let here = c.in-Some.ensures in
    let split = split_first 46 rest c.split_at.result.0.now _ c.in-Some.end here.0 here.1 c.split_at.ensures.front
    refl in
    let bad = rw c.if-not-branch.true at c.in_ok-read_block.ensures in
    part_bad 512 c.split_at.result.0.now _ c.loop-end.out.items _
    (ap (λ l. then_block (Some c.loop-end.out.items) (bytes_of_blocks_in 512 l)) (sym split) ∙ c.loop-end.invariant) bad

pub loop-end-preserved : goal.loop-end-preserved
loop-end-preserved c =
    let rest = c.loop-end.rest.now in
    let here = c.in-Some.ensures in
    let next = next_is rest c.split_at.result.1.now _ c.in-Some.end c.split_at.ensures.back refl in
    let split = split_first 46 rest c.split_at.result.0.now _ c.in-Some.end here.0 here.1 c.split_at.ensures.front
    next in
    let good = rw c.if-not-branch.false at c.in_ok-read_block.ensures in
    part_good 512 c.split_at.result.0.now _ c.loop-end.out.items _ good.0 _
    (ap (λ l. then_block (Some c.loop-end.out.items) (bytes_of_blocks_in 512 l)) (sym split) ∙ c.loop-end.invariant)
    good.1 good.2

pub returns-then-not-branch-2 : goal.returns-then-not-branch-2
returns-then-not-branch-2 c =
    let split = split_last 46 c.loop-end.rest.now c.in_default.ensures in
    let bad = rw c.if-not-branch-2.true at c.in_ok-read_block-2.ensures in
    part_bad 512 c.loop-end.rest.now _ c.loop-end.out.items _
    (ap (λ l. then_block (Some c.loop-end.out.items) (bytes_of_blocks_in 512 l)) (sym split) ∙ c.loop-end.invariant) bad

pub returns : goal.returns
returns c =
    let split = split_last 46 c.loop-end.rest.now c.in_default.ensures in
    let good = rw c.if-not-branch-2.false at c.in_ok-read_block-2.ensures in
    parts_done 512 _ _
    (part_good 512 c.loop-end.rest.now _ c.loop-end.out.items _ good.0 _
    (ap (λ l. then_block (Some c.loop-end.out.items) (bytes_of_blocks_in 512 l)) (sym split) ∙ c.loop-end.invariant)
    good.1 good.2)
