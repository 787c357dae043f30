use Rattle.std.proofs.Common.{sym, ◌∙◌}
use Rattle.casdisk_texts.proofs.Placing.{judged_next, judged_on}
use Rattle.casdisk_texts.proofs.judging.Judge.judge.Goals as goal

pub returns-then-is_some : goal.returns-then-is_some
returns-then-is_some g c = record {
  judged = λ k past h.
      rw c.in-Some.ensures.1 (judged_on _ k past c.args.entry.now _ _ c.args.self.now.count c.args.self.now.bad
      (sym c.is_some.ensures ∙ c.if-is_some.true) h);
  err = tt;
}

pub returns : goal.returns
returns g c = record {
  judged = λ k past h.
      rw (c.bad_place.ensures.value, c.in-Some.ensures.1)
      (judged_next _ k past c.args.entry.now _ _ c.args.self.now.count c.args.self.now.bad
      (sym c.is_some.ensures ∙ c.if-is_some.false) h c.in_ok-follows.follows (c.in_ok-follows.ensures.ok past)
      c.in_ok-broken.broken (c.in_ok-broken.ensures.first past));
  err = tt;
}
