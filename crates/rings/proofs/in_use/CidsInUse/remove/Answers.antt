use Rattle.std.proofs.Common.{◌≡◌, List, ◌==◌, ap, false, subst, sym, true, ℕ, ◌∙◌, ◌∷◌}
use Rattle.std.proofs.lemmas.List.Sorted.{IsPermutation-swap_remove}
use Rattle.std.specs.List.{position, swap_remove}
use Rattle.std.specs.List.Sorted.{IsPermutation}
use Rattle.rings.specs.Used.{UsedCids, is_used}
use Rattle.rings.proofs.Positions.{has, lacks, same, uses}
use Rattle.rings.proofs.in_use.CidsInUse.remove.Goals as goal

pub returns-in-Some-clause-one : goal.returns-in-Some-clause-one
returns-in-Some-clause-one c used =
    let cids : List ℕ = c.self.inside.cids.items in
    let found = ap (λ (xs : List ℕ). position (λ one. one == c.args.cid) xs) (sym c.deref.ensures.value)
    ∙ sym c.place_of.ensures.value ∙ c.in-Some.is in
    let at = has cids c.args.cid c.in-Some.place found in
    let is = same cids c.args.cid c.in-Some.place c.swap_remove.result at.0 at.1 c.swap_remove.ensures.value in
    subst (λ (u : UsedCids). IsPermutation u.cids (c.args.cid ∷ c.swap_remove.new.self.items)) c.self.view_is
    (subst (λ (xs : List ℕ). IsPermutation cids (c.args.cid ∷ xs))
    (sym (c.swap_remove.ensures.items ∙ ap (λ x. swap_remove cids c.in-Some.place x) is))
    (IsPermutation-swap_remove cids c.in-Some.place c.args.cid at.0 at.1))

pub returns-in-Some-clause-none : goal.returns-in-Some-clause-none
returns-in-Some-clause-none c unused =
    let found = ap (λ (xs : List ℕ). position (λ one. one == c.args.cid) xs) (sym c.deref.ensures.value)
    ∙ sym c.place_of.ensures.value ∙ c.in-Some.is in
    let not_used = subst (λ (u : UsedCids). is_used c.args.cid u.cids ≡ false) (sym c.self.view_is) unused in
    absurd (let both : true ≡ false = sym (uses c.self.inside.cids.items c.args.cid c.in-Some.place found) ∙ not_used in
    cc)

pub returns-in_default-clause-one : goal.returns-in_default-clause-one
returns-in_default-clause-one c used =
    let found = ap (λ (xs : List ℕ). position (λ one. one == c.args.cid) xs) (sym c.deref.ensures.value)
    ∙ sym c.place_of.ensures.value ∙ c.in_default.is in
    let is_there = subst (λ (u : UsedCids). is_used c.args.cid u.cids ≡ true) (sym c.self.view_is) used in
    absurd (let both : true ≡ false = sym is_there ∙ lacks c.self.inside.cids.items c.args.cid found in cc)
