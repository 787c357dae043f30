use Rattle.std.proofs.Common.{ap, arith, length, suc, sym, ℕ, ◌+◌, ◌<◌, ◌≤◌, ◌∙◌, ◌≡◌}
use Rattle.std.proofs.lemmas.Bool.{le-leb}
use Rattle.refutation.specs.Lines.{published_in}
use Rattle.refutation_check.specs.Answers.{entry_place}
use Rattle.refutation_check.proofs.Together.{none_is, none_of}
use Rattle.refutation_check.proofs.tables.TraceAnswers.place_behind.Goals as goal

pub returns-in-Some : goal.returns-in-Some
returns-in-Some c = record {
  value = λ trace is.
      let e = c.in-Some.ensures in
      let next : c.in-Some.next ≡ suc c.args.number = omega (arith, e.1) in
      c.place.ensures.value ∙ is.entries c.args.queue c.in-Some.next ∙ ap (entry_place trace c.args.queue) next;
}

not_below : (a b : ℕ) → (a < b → ⊥) → b ≤ a
not_below a b h = omega arith

pub returns-in-None : goal.returns-in-None
returns-in-None c = record {
  value = λ trace is.
      let q = c.args.queue in
      let n = c.args.number in
      let high : 18446744073709551616 ≤ n + 1 = not_below (n + 1) 18446744073709551616 c.in-None.ensures in
      let all : length (published_in trace q) ≤ suc n = omega (arith, is.few q, high) in
      sym (none_of (entry_place trace q (suc n)) (none_is trace q (suc n) ∙ le-leb _ _ all));
}
