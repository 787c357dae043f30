use Rattle.std.proofs.Common.{◌≡◌, arith, sym, ◌∙◌, length}
use Rattle.broken_rules.proofs.Apart.{parts}
use Rattle.broken_rules.proofs.data_rows.data_broken.Goals as goal

pub bounds-found-place : goal.bounds-found-place
bounds-found-place c =
    let same : length c.args.found.now ≡ length c.args.due.now = omega (arith, c.if-found-due.false) in
    let p = parts c.args.found.now c.args.due.now same (sym c.eq.ensures ∙ c.if-eq.false) in
    omega (arith, p, c.first_apart-place.ensures.value)

pub bounds-due-place : goal.bounds-due-place
bounds-due-place c =
    let same : length c.args.found.now ≡ length c.args.due.now = omega (arith, c.if-found-due.false) in
    let p = parts c.args.found.now c.args.due.now same (sym c.eq.ensures ∙ c.if-eq.false) in
    omega (arith, p, same, c.first_apart-place.ensures.value)
