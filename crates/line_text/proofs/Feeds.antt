-- Lines end in a line feed, and have no other.
use Rattle.std.proofs.Common.{List, [], ap, append_assoc, arith, false, refl, subst, sym, true, ℕ, ◌++◌, ◌<◌, ◌^◌, ◌∙◌}
use Rattle.std.proofs.Common.{Bool, ◌∷◌, ◌≡◌}
use Rattle.std.specs.Prelude.{decimal}
use Rattle.std.specs.Char.{digit_value}
use Rattle.std.specs.Str.Parse.{AllDigits}
use Rattle.std.proofs.Math.Dec.{eqb}
use Rattle.std.proofs.lemmas.Bool.{eqb-true}
use Rattle.std.proofs.lemmas.Fmt.{decimal_is_IsNumeral}
use Rattle.line_text.specs.Lines.{with_feeds}
use Rattle.line_text.specs.Words.{Without}

-- ---- no line feed

digit_feedless : (c : ℕ) (b : Bool) → eqb c 10 ≡ b → digit_value c < 10 → b ≡ false
digit_feedless c true e h =
    let bad : digit_value 10 < 10 = subst (λ x. digit_value x < 10) (eqb-true c 10 e) h in absurd (omega arith)
digit_feedless c false e h = refl

digits_feedless : (cs : List ℕ) → AllDigits 10 cs → Without 10 cs
digits_feedless [] h = tt
digits_feedless (c ∷ cs) h = (digit_feedless c (eqb c 10) refl h.0, digits_feedless cs h.1)

-- a number of 64 bits
pub decimal_feedless : (n : ℕ) → n < 2 ^ 64 → Without 10 (decimal n)
decimal_feedless n fits = digits_feedless (decimal n) (decimal_is_IsNumeral n fits).0.1

pub append_feedless : (xs ys : List ℕ) → Without 10 xs → Without 10 ys → Without 10 (xs ++ ys)
append_feedless [] ys p q = q
append_feedless (x ∷ xs) ys p q = (p.0, append_feedless xs ys p.1 q)

-- ---- lines with their line feeds

pub feeds_none : with_feeds [] ≡ []
unfolding with_feeds
feeds_none = refl

pub feeds_one : (x : List ℕ) → with_feeds (x ∷ []) ≡ x ++ 10 ∷ []
unfolding with_feeds
feeds_one x = refl

-- lines, and then others
pub feeds_append : (xs ys : List (List ℕ)) → with_feeds (xs ++ ys) ≡ with_feeds xs ++ with_feeds ys
unfolding with_feeds
feeds_append [] ys = refl
feeds_append (x ∷ xs) ys =
    ap (λ (l : List ℕ). x ++ (10 ∷ l)) (feeds_append xs ys) ∙ sym (append_assoc x (10 ∷ with_feeds xs) (with_feeds ys))
