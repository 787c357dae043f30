use Rattle.std.proofs.Common.{◌≡◌, arith, sym, ◌∙◌, length}
use Rattle.broken_rules.proofs.Apart.{parts}
use Rattle.broken_rules.proofs.unlike.byte_apart.Goals as goal

pub bounds-found-place : goal.bounds-found-place
bounds-found-place c =
    let n : length c.args.found.now ≡ 16 = omega arith in
    let m : length c.args.due.now ≡ 16 = omega arith in
    let h = rw (c.as_slice.ensures, c.as_slice-2.ensures) at c.eq.ensures in
    let v = rw (c.as_slice-3.ensures, c.as_slice-4.ensures) at c.first_apart-place.ensures.value in
    let p = parts c.args.found.now c.args.due.now (n ∙ sym m) (sym h ∙ c.if-eq.false) in
    omega (arith, n, p, v)

pub bounds-due-place : goal.bounds-due-place
bounds-due-place c =
    let n : length c.args.found.now ≡ 16 = omega arith in
    let m : length c.args.due.now ≡ 16 = omega arith in
    let h = rw (c.as_slice.ensures, c.as_slice-2.ensures) at c.eq.ensures in
    let v = rw (c.as_slice-3.ensures, c.as_slice-4.ensures) at c.first_apart-place.ensures.value in
    let p = parts c.args.found.now c.args.due.now (n ∙ sym m) (sym h ∙ c.if-eq.false) in
    omega (arith, n, p, v)
