use Rattle.std.proofs.Common.{arith, subst, sym, ◌<◌, ℕ, Option}
use Rattle.std.specs.Option.{SomeIff}
use Rattle.std.specs.Str.Parse.{AllDigits, digits_value}
use Rattle.line_text.proofs.NumberLaws.{all_digits, no_digit, one_more_digit}
use Rattle.line_text.proofs.number.added_up.Goals as goal

pub loop-byte-preserved : goal.loop-byte-preserved
loop-byte-preserved c =
    let h = c.in_ok-n.ensures in
    one_more_digit c.args.word.now c.loop-byte.byte-index c.loop-byte.n c.in_ok-n.n (omega arith) c.loop-byte.invariant
    h.0.0 h.0.1 h.1

pub returns-in_err-n : goal.returns-in_err-n
returns-in_err-n c =
    let word = c.args.word.now in
    subst (λ (r : Option ℕ). SomeIff r (AllDigits 10 word × (digits_value 10 word < 18446744073709551616))
    (digits_value 10 word)) (sym c.from_residual.ensures)
    (no_digit word c.loop-byte.byte-index c.loop-byte.n (omega arith) c.loop-byte.invariant c.in_err-n.ensures)

pub returns : goal.returns
returns c = all_digits c.args.word.now c.loop-byte.byte-index c.loop-byte.n (omega arith) c.loop-byte.invariant
