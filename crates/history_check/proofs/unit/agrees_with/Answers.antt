use Rattle.std.proofs.Common.{length, sym, true, false, ◌∙◌}
use Rattle.history_check.proofs.Agreeing.{got, not_got, with_more, with_none, with_too_many}
use Rattle.history_check.proofs.unit.agrees_with.Goals as goal

pub returns-in-None : goal.returns-in-None
returns-in-None c = record {
  value = with_none c.args.word c.args.said.now c.args.right.now c.agrees-before.result c.in-None.is
      c.agrees-before.ensures.value;
}

pub returns-then-before : goal.returns-then-before
returns-then-before c = record {
  value = with_more c.args.word c.in-Some.word c.args.said.now c.args.right.now c.in-Some-get.answer.now true
      c.in-Some.is (got c.args.right.now (length c.args.said.now) c.in-Some-get.answer.now
      c.in-Some-get.ensures.lookup.3.0 c.in-Some-get.ensures.lookup.1)
      (sym c.if-before.true ∙ c.agrees-before.ensures.value);
}

pub returns-else-before : goal.returns-else-before
returns-else-before c = record {
  value = c.if-before.false
      ∙ with_more c.args.word c.in-Some.word c.args.said.now c.args.right.now c.in-Some-get.answer.now false
      c.in-Some.is (got c.args.right.now (length c.args.said.now) c.in-Some-get.answer.now
      c.in-Some-get.ensures.lookup.3.0 c.in-Some-get.ensures.lookup.1)
      (sym c.if-before.false ∙ c.agrees-before.ensures.value);
}

pub returns-in-None-get : goal.returns-in-None-get
returns-in-None-get c = record {
  value = with_too_many c.args.word c.in-Some.word c.args.said.now c.args.right.now c.in-Some.is
      (not_got c.args.right.now (length c.args.said.now) c.in-None-get.ensures.lookup.3);
}
