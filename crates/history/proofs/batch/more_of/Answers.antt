use Rattle.std.proofs.Common.{◌≡◌, [], map, length, Some, sym, ap, ◌∙◌, arith}
use Rattle.std.proofs.lemmas.List.{nil_from_length, length-map}
use Rattle.std.proofs.lemmas.Bool.{eqb-true, eqb-false}
use Rattle.std.proofs.lemmas.Result.{err_from_is_err_and}
use Rattle.history.specs.BatchWords.{more_in}
use Rattle.history.proofs.Joining.{more_good, more_bad_plus, more_bad_item, three_up, more_few, more_end, then_some}
use Rattle.history.proofs.Joining.{fails_then, not_false, not_true}
use Rattle.history.proofs.batch.more_of.Goals as goal

pub returns-then-ne : goal.returns-then-ne
returns-then-ne c =
    let cut = three_up (λ w. w.now) c.loop-rest.rest.now (record { ref_ptr = (0, 0); now = [] })
    c.in-len3-up.len_at_least in
    let other = rw c.as_slice.ensures at (not_false _ _ c.ne.ensures c.if-ne.true) in
    more_bad_plus _ _ _ _ _ _ _ cut other c.loop-rest.invariant

pub returns-in_err-item : goal.returns-in_err-item
returns-in_err-item c =
    let p = err_from_is_err_and c.from_residual-in_err-item.result c.from_residual-in_err-item.ensures.1 in
    let cut = three_up (λ w. w.now) c.loop-rest.rest.now (record { ref_ptr = (0, 0); now = [] })
    c.in-len3-up.len_at_least in
    let same = rw c.as_slice.ensures at (not_true _ _ c.ne.ensures c.if-ne.false) in
    rw (p.1, p.2) (fails_then c.in_err-item.field-0.0 _ _ c.in_err-item.ensures
    (λ h. more_bad_item _ _ _ _ _ _ _ cut same h c.loop-rest.invariant))

pub returns-then-not-is_empty : goal.returns-then-not-is_empty
returns-then-not-is_empty c =
    let some : (length c.loop-rest.rest.now ≡ 0) → ⊥ =
    eqb-false _ _ (sym c.is_empty.ensures ∙ c.if-not-is_empty.true) in
    let long = length-map c.loop-rest.rest.now (λ w. w.now) in
    more_few _ _ _ (omega (arith, long)) (omega (arith, long, c.in_default.len_below)) c.loop-rest.invariant

pub loop-rest-preserved : goal.loop-rest-preserved
loop-rest-preserved c =
    let cut = three_up (λ w. w.now) c.loop-rest.rest.now (record { ref_ptr = (0, 0); now = [] })
    c.in-len3-up.len_at_least in
    let same = rw c.as_slice.ensures at (not_true _ _ c.ne.ensures c.if-ne.false) in
    let grown = c.in_ok-push-2.ensures.items in
    more_good _ _ _ _ _ _ _ _ _ cut same c.in_ok-item.ensures grown c.loop-rest.invariant

pub new-requires : goal.new-requires
new-requires c =
    let none = nil_from_length c.loop-rest.rest.now (eqb-true _ _ (sym c.is_empty.ensures ∙ c.if-not-is_empty.false)) in
    then_some c.args.first (more_in (map (λ w. w.now) c.args.words.now)) c.loop-rest.items.items
    (more_end c.loop-rest.items.items (map (λ w. w.now) c.loop-rest.rest.now) _ (ap (map (λ w. w.now)) none)
    c.loop-rest.invariant)

pub returns : goal.returns
returns c =
    let none = nil_from_length c.loop-rest.rest.now (eqb-true _ _ (sym c.is_empty.ensures ∙ c.if-not-is_empty.false)) in
    more_end c.loop-rest.items.items (map (λ w. w.now) c.loop-rest.rest.now) _ (ap (map (λ w. w.now)) none)
    c.loop-rest.invariant ∙ ap Some (sym c.new.ensures)
