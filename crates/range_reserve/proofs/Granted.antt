-- What is held where it is what the grants of open units hold.
use Rattle.std.proofs.Common.{◌≡◌, ℕ, Bool, true, false, cond, not, ◌||◌, List, [], ◌∷◌, map, refl, ap, ◌==◌}
use Rattle.std.proofs.Common.{Err, Ok, Result, inl, inr, is_ok, ◌⊎◌}
use Rattle.std.specs.List.{filter, list_any}
use Rattle.std.specs.Prelude.{IfErr}
use Rattle.nvme_model.specs.Open.{conflict}
use Rattle.nvme_model.specs.declared.array.Mode.{Mode}
use Rattle.nvme_model.specs.declared.array.Range.{Range}
use Rattle.nvme_model.specs.declared.entry.GrantLine.{GrantLine}
use Rattle.nvme_model.specs.declared.refusal.Why.{Why}
use Rattle.range_reserve.specs.declared.held.HeldRange.{HeldRange}
use Rattle.range_reserve.specs.Reserved.{has_conflict, holds_range, held_beside, held_of}

pub has_conflict-map : (grants : List GrantLine) (r : Range) (m : Mode)
    → has_conflict (map held_of grants) r m ≡ list_any (λ g. conflict r m g.range g.mode) grants
has_conflict-map [] r m = refl
has_conflict-map (g ∷ gs) r m = ap (λ b. conflict r m g.range g.mode || b) (has_conflict-map gs r m)

pub holds_range-map : (grants : List GrantLine) (t : ℕ)
    → holds_range (map held_of grants) t ≡ list_any (λ g. g.ticket == t) grants
holds_range-map [] t = refl
holds_range-map (g ∷ gs) t = ap (λ b. (g.ticket == t) || b) (holds_range-map gs t)

pub held_beside-map : (grants : List GrantLine) (t : ℕ)
    → held_beside (map held_of grants) t ≡ map held_of (filter (λ g. not (g.ticket == t)) grants)
held_beside-map [] t = refl
held_beside-map (g ∷ gs) t = first (not (g.ticket == t)) g gs (held_beside-map gs t)
  where
    first : (b : Bool) (g : GrantLine) (gs : List GrantLine)
        → held_beside (map held_of gs) t ≡ map held_of (filter (λ g. not (g.ticket == t)) gs)
        → cond b (held_of g ∷ held_beside (map held_of gs) t) (held_beside (map held_of gs) t)
        ≡ map held_of (cond b (g ∷ filter (λ g. not (g.ticket == t)) gs) (filter (λ g. not (g.ticket == t)) gs))
    first true g gs e = ap (λ (hs : List HeldRange). held_of g ∷ hs) e
    first false g gs e = e

-- ---- the call that grants

-- it answers Ok where neither error comes
pub held_ok : (r : Result (Unit {0}) Why) → IfErr r (λ why. (why ≡ Why.Conflict) ⊎ (why ≡ Why.NoMemory))
    → (r ≡ Err Why.Conflict → ⊥) → (r ≡ Err Why.NoMemory → ⊥) → is_ok r ≡ true
held_ok (Ok x) e a b = refl
held_ok (Err why) e a b = elim e [
  | inl f ↦ absurd (a (ap Err f))
  | inr f ↦ absurd (b (ap Err f))
]
