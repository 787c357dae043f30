-- Of numbers.
use Rattle.std.proofs.Common.{eq-eqb, eqb, eqb-true, false, inl, inr, refl, sym, true, ℕ, ◌∙◌, ◌≡◌, ◌≢◌}
use Rattle.std.proofs.lemmas.Bool.{cases_Bool, eqb-false, ne_eqb}

pub unlike : (a b : ℕ) → a ≢ b → eqb a b ≡ false
unlike a b n = elim (cases_Bool (eqb a b)) [
  | inr e ↦ e
  | inl e ↦ absurd (n (eqb-true a b e))
]

-- the test is the same either way round
pub eqb_swapped : (a b : ℕ) → eqb a b ≡ eqb b a
eqb_swapped a b = elim (cases_Bool (eqb a b)) [
  | inl e ↦ e ∙ sym (eq-eqb b a (sym (eqb-true a b e)))
  | inr e ↦ e ∙ sym (ne_eqb b a (λ f. eqb-false a b e (sym f)))
]

pub eqb_same : (n : ℕ) → eqb n n ≡ true
eqb_same n = eq-eqb n n refl
