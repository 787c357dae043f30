use Rattle.std.proofs.Common.{ap, subst, sym, ◌∙◌}
use Rattle.std.specs.Option.{option_copied}
use Rattle.witness_check.specs.Compared.{Compared, IsComparedTo, SaysNext}
use Rattle.witness_check.specs.Turns.{turn_of}
use Rattle.witness_check.proofs.Comparing.{compared_next, compared_on}
use Rattle.witness_check.proofs.comparison.Comparison.take_beside.Goals as goal

pub returns-then-is_some-clause-ok : goal.returns-then-is_some-clause-ok
returns-then-is_some-clause-ok c = λ o n past trace h says.
    let x : Compared = record {
      options = c.self.inside.options;
      aside = c.self.inside.aside;
      followed = c.self.inside.witness;
      count = c.self.inside.count;
      bad = c.self.inside.bad;
      next = c.self.inside.next;
      out = c.self.inside.out;
      unlike = c.self.inside.unlike;
    } in
    let k : IsComparedTo o n trace past x =
    subst (λ (y : Compared). IsComparedTo o n trace past y) (sym c.self.view_is) h in
    compared_on o n trace past c.args.entry.now x c.in-Some.count c.in-Some.ensures.1
    (sym c.is_some.ensures ∙ c.if-is_some.true) k

pub returns-clause-ok : goal.returns-clause-ok
returns-clause-ok c = λ o n past trace h says.
    let x : Compared = record {
      options = c.self.inside.options;
      aside = c.self.inside.aside;
      followed = c.self.inside.witness;
      count = c.self.inside.count;
      bad = c.self.inside.bad;
      next = c.self.inside.next;
      out = c.self.inside.out;
      unlike = c.self.inside.unlike;
    } in
    let k : IsComparedTo o n trace past x =
    subst (λ (y : Compared). IsComparedTo o n trace past y) (sym c.self.view_is) h in
    rw (
      c.bad_after-self-inside.ensures.value,
      c.next_after-self-inside.ensures.value,
      c.out_after-self-inside.ensures.value,
      c.unlike_after-self-inside.ensures.value,
    )
    (compared_next o n trace past c.args.entry.now x c.take.new.self (option_copied c.args.thing) c.in_ok-told.told
    c.turn_of-turn.result c.in-Some.count c.in-Some-checked_add.after c.in-Some-out_with.more c.in-Some.ensures.1
    c.in-Some-checked_add.ensures.1 c.in-Some-out_with.ensures.value
    (c.turn_of-turn.ensures.value
    ∙ ap (λ b. turn_of b c.self.inside.out c.self.inside.next) c.is_aside_entry.ensures.value)
    (sym c.is_some.ensures ∙ c.if-is_some.false) k
    (subst (λ (y : Compared). SaysNext trace y (option_copied c.args.thing)) (sym c.self.view_is) says)
    (c.in_ok-told.ensures.ok n past))
