use Rattle.std.proofs.Common.{arith, ap, subst, suc, sym, true, ◌-◌, ◌∙◌, ◌≡◌, false}
use Rattle.std.proofs.lemmas.Bool.{cond-true}
use Rattle.std.specs.List.{insert, list_all}
use Rattle.std.specs.Prelude.{slice_set}
use Rattle.range_reserve.specs.Sorted.{HasPut, dead_at}
use Rattle.range_reserve.proofs.Orders.{all_insert}
use Rattle.range_reserve.proofs.Putting.{all_set, put_behind, put_between, put_over}
use Rattle.range_reserve.proofs.living.put_at.Goals as goal

pub returns-then-is_dead_at-clause-put : goal.returns-then-is_dead_at-clause-put
returns-then-is_dead_at-clause-put c = λ n r f at.
    let xs = c.args.list.now.items in
    let dead : dead_at xs c.args.place ≡ true =
    sym (ap (λ ys. dead_at ys c.args.place) c.as_slice.ensures.value) ∙ sym c.is_dead_at.ensures.value
    ∙ c.if-is_dead_at.true in
    subst (λ i. HasPut n c.args.held xs (slice_set xs i c.args.held)) (sym at)
    (put_over n c.args.held c.requires.living xs r (ap (dead_at xs) (sym at) ∙ dead))

pub returns-then-is_dead_at-clause-each : goal.returns-then-is_dead_at-clause-each
returns-then-is_dead_at-clause-each c = λ p a e. all_set p c.args.list.now.items c.args.place c.args.held a e

pub returns-then-is_dead_at-2-clause-put : goal.returns-then-is_dead_at-2-clause-put
returns-then-is_dead_at-2-clause-put c = λ n r f at.
    let xs = c.args.list.now.items in
    let next : c.args.place ≡ suc (c.args.place - 1) = omega (arith, c.if-place-gt0.true) in
    let lives : dead_at xs c.args.place ≡ false =
    sym (ap (λ ys. dead_at ys c.args.place) c.as_slice.ensures.value) ∙ sym c.is_dead_at.ensures.value
    ∙ c.if-is_dead_at.false in
    let dead : dead_at xs (c.args.place - 1) ≡ true =
    sym (ap (λ ys. dead_at ys (c.args.place - 1)) c.as_slice-then-place-gt0.ensures.value)
    ∙ sym c.is_dead_at-then-place-gt0.ensures.value ∙ c.if-is_dead_at-2.true in
    put_behind n c.args.held c.requires.living xs (c.args.place - 1) r f (sym at ∙ next) dead
    (ap (dead_at xs) (sym next) ∙ lives)

pub returns-then-is_dead_at-2-clause-each : goal.returns-then-is_dead_at-2-clause-each
returns-then-is_dead_at-2-clause-each c = λ p a e. all_set p c.args.list.now.items (c.args.place - 1) c.args.held a e

added : (c : goal.After-is_ok-has_room)
    → c.insert.new.self.items ≡ insert c.args.list.now.items c.args.place c.args.held
added c = c.insert.ensures.items ∙ cond-true _ _ _ (c.insert.ensures.succeeds c.requires.room)

pub returns-else-place-gt0-clause-put : goal.returns-else-place-gt0-clause-put
returns-else-place-gt0-clause-put c = λ n r f at.
    let xs = c.args.list.now.items in
    let lives : dead_at xs c.args.place ≡ false =
    sym (ap (λ ys. dead_at ys c.args.place) c.as_slice.ensures.value) ∙ sym c.is_dead_at.ensures.value
    ∙ c.if-is_dead_at.false in
    subst (HasPut n c.args.held xs) (sym (added c))
    (subst (λ i. HasPut n c.args.held xs (insert xs i c.args.held)) (sym at)
    (put_between n c.args.held c.requires.living xs r f (ap (dead_at xs) (sym at) ∙ lives)))

pub returns-else-place-gt0-clause-each : goal.returns-else-place-gt0-clause-each
returns-else-place-gt0-clause-each c = λ p a e.
    ap (list_all p) (added c) ∙ all_insert p c.args.list.now.items c.args.place c.args.held a e
