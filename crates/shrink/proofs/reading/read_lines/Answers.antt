use Rattle.std.proofs.Common.{List, ap, arith, length, subst, suc, sym, ℕ}
use Rattle.std.proofs.lemmas.List.{length_push}
use Rattle.std.specs.Prelude.{IfSome, vec_len}
use Rattle.shrink.specs.Reading.{IsBadEnd}
use Rattle.shrink.proofs.LinesIn.{bad_end, some_byte, took_line, took_more, took_none, took_rest}
use Rattle.shrink.proofs.reading.read_lines.Goals as goal

pub loop-number-init : goal.loop-number-init
loop-number-init g c = (
  rw (c.new-all.ensures.items, c.in-Ok.ensures) (took_none (g.T.Read.remaining c.args.reader.now)),
  ap (λ (xs : List (List ℕ)). suc (length xs)) (sym c.new-all.ensures.items),
)

pub loop-number-preserved : goal.loop-number-preserved
loop-number-preserved g c =
    let x = rw c.in-Ok-Whole.field-0-is at c.in-Ok-Whole.ensures.line in (
      rw (c.in-Ok-add_line.ensures.added, c.as_slice.ensures.value)
          (took_line c.loop-number.all.items c.next_line.new.line.items _ _ _ c.loop-number.lines
          c.next_line.new.self c.loop-number.invariant.0 x.0),
      omega (
        arith,
        c.loop-number.invariant.1,
        ap length c.in-Ok-add_line.ensures.added,
        length_push c.loop-number.all.items c.as_slice.result.now,
      ),
    )

pub returns-in-Err-Input-clause-unread : goal.returns-in-Err-Input-clause-unread
returns-in-Err-Input-clause-unread g c =
    took_more c.loop-number.all.items _ _ _ c.loop-number.lines c.next_line.new.self _ c.loop-number.invariant.0
    c.in-Err-Input.ensures.err.0

pub returns-in-Err-NoMemory-clause-unread : goal.returns-in-Err-NoMemory-clause-unread
returns-in-Err-NoMemory-clause-unread g c =
    took_more c.loop-number.all.items _ _ _ c.loop-number.lines c.next_line.new.self _ c.loop-number.invariant.0
    c.in-Err-NoMemory.ensures.err.0

pub returns-in_default-add_line-clause-unread : goal.returns-in_default-add_line-clause-unread
returns-in_default-add_line-clause-unread g c =
    let x = rw c.in-Ok-Whole.field-0-is at c.in-Ok-Whole.ensures.line in
    took_more c.loop-number.all.items _ _ _ c.loop-number.lines c.next_line.new.self _ c.loop-number.invariant.0 x.0

pub returns-in-Ok-Rest-clause-unread : goal.returns-in-Ok-Rest-clause-unread
returns-in-Ok-Rest-clause-unread g c =
    let x = rw c.in-Ok-Rest.field-0-is at c.in-Ok-Rest.ensures.line in
    let all = c.loop-number.all.items in let line = c.next_line.new.line.items in let before = c.loop-number.lines in
    let rest = took_rest all line _ _ _ before c.next_line.new.self c.loop-number.invariant.0 x.0 x.2 x.3 in (
      x.3,
      subst (λ (n : ℕ). IfSome (g.T.Read.remaining c.args.reader.now) (IsBadEnd n)) (sym c.loop-number.invariant.1)
          (bad_end all line _ rest x.1 (some_byte (vec_len c.next_line.new.line) line c.is_empty.result
          c.next_line.new.line.ok.0 c.is_empty.ensures c.if-is_empty.false)),
    )
