use Rattle.std.proofs.Common.{IfSome, IsSome, List, Some, [], ap, append_assoc, arith, length, length-append, refl}
use Rattle.std.proofs.Common.{subst, sym, vec_len, ℕ}
use Rattle.std.proofs.Common.{◌++◌, ◌∙◌, ◌≡◌, ◌∷◌}
use Rattle.std.specs.Prelude.{slice_get}
use Rattle.std.proofs.lemmas.List.{nil_from_length}
use Rattle.atomic_table.specs.Table.{Me}
use Rattle.meet_lock.specs.Lock.{boxed, gathering}
use Rattle.meet_lock.specs.Passes.{IsSeenWhole, config_of}
use Rattle.meet_lock.specs.SeatSteps.{HasAllPasses}
use Rattle.meet_lock.specs.declared.pass.Pass.{Pass}
use Rattle.meet_lock.specs.declared.view.View.{View}
use Rattle.meet_lock.proofs.Wholes.{AreNumbered, at_mid, box_is_some, closed_config, closed_whole, has_all, of_box}
use Rattle.meet_lock.proofs.Wholes.{with_idle}
use Rattle.meet_lock.proofs.shared.Shared.close_all.Goals as goal

pub loop-pass-init : goal.loop-pass-init
loop-pass-init g c =
    let last : Pass g.row.M.Denot = c.in-Some.last in
    let items = c.in-Some.ensures.items in
    let left = c.pop.new.self.items in
    let place = ap (λ (l : List (Pass g.row.M.Denot)). slice_get l (length left)) items ∙ at_mid left [] last in
    record {
      own = (c.requires.all (length left) last place).0;
      out = last.idle;
      tried = (last, [], sym items, refl);
    }

pub gather-requires-clause-own : goal.gather-requires-clause-own
gather-requires-clause-own g c =
    let inv = c.loop-pass.invariant in
    let t = inv.tried in
    let pass : Pass g.row.M.Denot = c.in-Some-pop.pass in
    let left = c.pop-in-loop-pass.new.self.items in
    let back : List (Pass g.row.M.Denot) = t.1 ++ t.0 ∷ [] in
    let whole = sym (append_assoc left (pass ∷ []) back)
    ∙ (ap (λ l. l ++ back) (sym c.in-Some-pop.ensures.items) ∙ t.2) in
    let place = ap (λ (l : List (Pass g.row.M.Denot)). slice_get l (length left)) (sym whole) ∙ at_mid left back pass in
    (inv.own, (c.requires.all (length left) pass place).0)

pub gather-requires-clause-idle : goal.gather-requires-clause-idle
gather-requires-clause-idle g c =
    let inv = c.loop-pass.invariant in
    let t = inv.tried in
    with_idle t.0 t.1 c.loop-pass.seat.me inv.out t.3

pub take-requires-clause-idle : goal.take-requires-clause-idle
take-requires-clause-idle g c =
    let inv = c.loop-pass.invariant in
    let t = inv.tried in
    with_idle t.0 t.1 c.loop-pass.seat.me inv.out t.3

pub gather-requires-clause-later : goal.gather-requires-clause-later
gather-requires-clause-later g c =
    let inv = c.loop-pass.invariant in
    let t = inv.tried in
    let pass : Pass g.row.M.Denot = c.in-Some-pop.pass in
    let left = c.pop-in-loop-pass.new.self.items in
    let back : List (Pass g.row.M.Denot) = t.1 ++ t.0 ∷ [] in
    let whole = sym (append_assoc left (pass ∷ []) back)
    ∙ (ap (λ l. l ++ back) (sym c.in-Some-pop.ensures.items) ∙ t.2) in
    let place = ap (λ (l : List (Pass g.row.M.Denot)). slice_get l (length left)) (sym whole) ∙ at_mid left back pass in
    let is = c.requires.all (length left) pass place in
    let number = is.1 in
    let count = is.2 in
    let long : vec_len c.args.passes ≡ length c.args.passes.items = c.args.passes.ok.0 in
    let all = ap length whole in
    let sum = length-append left (pass ∷ back) in
    let ends = length-append t.1 (t.0 ∷ []) in
    omega (arith, number, count, long, all, sum, ends)

pub loop-pass-preserved : goal.loop-pass-preserved
loop-pass-preserved g c =
    let inv = c.loop-pass.invariant in
    let t = inv.tried in
    let pass : Pass g.row.M.Denot = c.in-Some-pop.pass in
    let left = c.pop-in-loop-pass.new.self.items in
    let back : List (Pass g.row.M.Denot) = t.1 ++ t.0 ∷ [] in
    let s = c.gather.ensures in
    record {
      own = s.0.0 ∙ inv.own;
      out = ap (λ (z : Me _ _). z.1) s.1 ∙ inv.out;
      tried = (
        t.0,
        pass ∷ t.1,
        sym (append_assoc left (pass ∷ []) back) ∙ (ap (λ l. l ++ back) (sym c.in-Some-pop.ensures.items) ∙ t.2),
        ap (λ (z : Me _ _). z.0) s.1 ∙ ap (λ (z : View). gathering z pass.seat.me.0) t.3,
      );
    }

pub returns-clause-whole : goal.returns-clause-whole
returns-clause-whole g c =
    let t = c.loop-pass.invariant.tried in
    let empty = c.in_default-pop.ensures.cases.0 in
    let none_left : c.loop-pass.rest.items ≡ [] =
    nil_from_length c.loop-pass.rest.items (sym c.loop-pass.rest.ok.0 ∙ empty) in
    let all : t.1 ++ t.0 ∷ [] ≡ c.args.passes.items = sym (ap (λ l. l ++ (t.1 ++ t.0 ∷ [])) none_left) ∙ t.2 in
    let long : length c.args.passes.items ≡ vec_len c.args.passes = sym c.args.passes.ok.0 in
    let numbers : AreNumbered (vec_len c.args.passes) c.args.passes.items =
    λ k p at. let is = c.requires.all k p at in (is.1, is.2) in
    subst (λ o. IfSome o (λ m. IsSeenWhole c.args.passes.items (g.M.Machine.history m))) (sym c.unboxed.ensures)
    (of_box (λ m. IsSeenWhole c.args.passes.items (g.M.Machine.history m)) _ _ c.take.result c.take.ensures.taken
    (λ machine out. closed_whole (boxed g.M.Machine.config) (boxed g.M.Machine.history) g.M.Machine.legal (vec_len
    c.args.passes) t.1
    c.args.passes.items t.0 all long numbers c.loop-pass.seat.me.0 t.3 machine c.take.new.seat.me out))

pub returns-clause-config : goal.returns-clause-config
returns-clause-config g c =
    let t = c.loop-pass.invariant.tried in
    let empty = c.in_default-pop.ensures.cases.0 in
    let none_left : c.loop-pass.rest.items ≡ [] =
    nil_from_length c.loop-pass.rest.items (sym c.loop-pass.rest.ok.0 ∙ empty) in
    let all : t.1 ++ t.0 ∷ [] ≡ c.args.passes.items = sym (ap (λ l. l ++ (t.1 ++ t.0 ∷ [])) none_left) ∙ t.2 in
    let long : length c.args.passes.items ≡ vec_len c.args.passes = sym c.args.passes.ok.0 in
    let numbers : AreNumbered (vec_len c.args.passes) c.args.passes.items =
    λ k p at. let is = c.requires.all k p at in (is.1, is.2) in
    subst (λ o. IfSome o (λ m. (k : ℕ) (p : Pass g.row.M.Denot) → slice_get c.args.passes.items k ≡ Some p
    → g.M.Machine.config m ≡ config_of p)) (sym c.unboxed.ensures)
    (of_box (λ m. (k : ℕ) (p : Pass g.row.M.Denot) → slice_get c.args.passes.items k ≡ Some p
    → g.M.Machine.config m ≡ config_of p) _ _ c.take.result c.take.ensures.taken
    (λ machine out. closed_config (boxed g.M.Machine.config) (boxed g.M.Machine.history) g.M.Machine.legal (vec_len
    c.args.passes) t.1
    c.args.passes.items t.0 all long numbers c.loop-pass.seat.me.0 t.3 machine c.take.new.seat.me out))

pub returns-clause-some : goal.returns-clause-some
returns-clause-some g c =
    let t = c.loop-pass.invariant.tried in
    let empty = c.in_default-pop.ensures.cases.0 in
    let none_left : c.loop-pass.rest.items ≡ [] =
    nil_from_length c.loop-pass.rest.items (sym c.loop-pass.rest.ok.0 ∙ empty) in
    let all : t.1 ++ t.0 ∷ [] ≡ c.args.passes.items = sym (ap (λ l. l ++ (t.1 ++ t.0 ∷ [])) none_left) ∙ t.2 in
    let long : length (t.1 ++ t.0 ∷ []) ≡ vec_len c.args.passes = ap length all ∙ sym c.args.passes.ok.0 in
    let numbers : AreNumbered (vec_len c.args.passes) (t.1 ++ t.0 ∷ []) =
    λ k p at. let is = c.requires.all k p (ap (λ l. slice_get l k) (sym all) ∙ at) in (is.1, is.2) in
    λ _. subst IsSome (sym c.unboxed.ensures) (box_is_some _ _ c.take.result c.take.ensures.taken
    (λ missed. missed.missing (subst HasAllPasses (sym t.3) (has_all (vec_len c.args.passes) t.1 t.0 long numbers))))
