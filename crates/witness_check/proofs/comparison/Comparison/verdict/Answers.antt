use Rattle.std.proofs.Common.{subst, sym}
use Rattle.witness_check.specs.Compared.{Compared, IsComparedTo}
use Rattle.witness_check.proofs.Judging.{said_bad, said_explained, said_more, said_unlike}
use Rattle.witness_check.proofs.comparison.Comparison.verdict.Goals as goal

pub returns-in-Some : goal.returns-in-Some
returns-in-Some c = record {
  value = λ o n past h.
      let x : Compared = record {
        options = c.self.inside.options;
        aside = c.self.inside.aside;
        followed = c.self.inside.witness;
        count = c.self.inside.count;
        bad = c.self.inside.bad;
        next = c.self.inside.next;
        out = c.self.inside.out;
        unlike = c.self.inside.unlike;
      } in
      let k : IsComparedTo o n c.args.trace.now past x =
      subst (λ (y : Compared). IsComparedTo o n c.args.trace.now past y) (sym c.self.view_is) h in
      said_bad o n c.args.trace.now past x k c.in-Some.place c.in-Some.is;
}

pub returns-in-Some-unlike : goal.returns-in-Some-unlike
returns-in-Some-unlike c = record {
  value = λ o n past h.
      let x : Compared = record {
        options = c.self.inside.options;
        aside = c.self.inside.aside;
        followed = c.self.inside.witness;
        count = c.self.inside.count;
        bad = c.self.inside.bad;
        next = c.self.inside.next;
        out = c.self.inside.out;
        unlike = c.self.inside.unlike;
      } in
      let k : IsComparedTo o n c.args.trace.now past x =
      subst (λ (y : Compared). IsComparedTo o n c.args.trace.now past y) (sym c.self.view_is) h in
      said_unlike o n c.args.trace.now past x k c.in-Some-unlike.difference c.in_default.is c.in-Some-unlike.is;
}

pub returns-then-self-trace : goal.returns-then-self-trace
returns-then-self-trace c = record {
  value = λ o n past h.
      let x : Compared = record {
        options = c.self.inside.options;
        aside = c.self.inside.aside;
        followed = c.self.inside.witness;
        count = c.self.inside.count;
        bad = c.self.inside.bad;
        next = c.self.inside.next;
        out = c.self.inside.out;
        unlike = c.self.inside.unlike;
      } in
      let k : IsComparedTo o n c.args.trace.now past x =
      subst (λ (y : Compared). IsComparedTo o n c.args.trace.now past y) (sym c.self.view_is) h in
      said_more o n c.args.trace.now past x k c.in_default.is c.in_default-unlike.is c.if-self-trace.true;
}

pub returns : goal.returns
returns c = record {
  value = λ o n past h.
      let x : Compared = record {
        options = c.self.inside.options;
        aside = c.self.inside.aside;
        followed = c.self.inside.witness;
        count = c.self.inside.count;
        bad = c.self.inside.bad;
        next = c.self.inside.next;
        out = c.self.inside.out;
        unlike = c.self.inside.unlike;
      } in
      let k : IsComparedTo o n c.args.trace.now past x =
      subst (λ (y : Compared). IsComparedTo o n c.args.trace.now past y) (sym c.self.view_is) h in
      said_explained o n c.args.trace.now past x k c.in_default.is c.in_default-unlike.is c.if-self-trace.false;
}
