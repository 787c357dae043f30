-- One more answer among those that are right.
use Rattle.std.proofs.Common.{arith, get_or, zero, suc, ◌≤◌, ◌<◌, ◌≡◌, ℕ, Bool, true, false, ◌&&◌, List, [], ◌∷◌, ◌++◌}
use Rattle.std.proofs.Common.{length, refl, sym, ap, ◌∙◌, Option, Some, None, slice_get}
use Rattle.std.specs.Prelude.{option_to_list}
use Rattle.std.specs.Bool.{beq}
use Rattle.std.proofs.lemmas.List.{append-nil}
use Rattle.history_check.specs.Judged.{agrees}
use Rattle.history_check.proofs.Saying.{agrees_more}

and_assoc : (a b d : Bool) → (a && (b && d)) ≡ ((a && b) && d)
and_assoc true b d = refl
and_assoc false b d = refl

pub too_many : (xs bits : List Bool) (x : Bool) → slice_get bits (length xs) ≡ None → agrees (xs ++ x ∷ []) bits ≡ false
too_many [] [] x e = refl
too_many [] (z ∷ bits) x e = absurd (let f : Some z ≡ None = e in cc)
too_many (w ∷ xs) [] x e = refl
too_many (w ∷ xs) (z ∷ bits) x e = ap (λ b. beq w z && b) (too_many xs bits x e) ∙ go (beq w z)
  where
    go : (b : Bool) → (b && false) ≡ false
    go true = refl
    go false = refl

pub none_more : (xs bits : List Bool) → agrees (xs ++ []) bits ≡ agrees xs bits
none_more xs bits = ap (λ (ys : List Bool). agrees ys bits) (append-nil xs)

pub with_more : (word : Option Bool) (w : Bool) (xs bits : List Bool) (y b : Bool) → word ≡ Some w
    → slice_get bits (length xs) ≡ Some y → b ≡ agrees xs bits
    → (b && beq w y) ≡ agrees (xs ++ option_to_list word) bits
with_more word w xs bits y b e g h =
    ap (λ x. x && beq w y) h ∙ sym (agrees_more xs bits w y g)
    ∙ ap (λ (o : Option Bool). agrees (xs ++ option_to_list o) bits) (sym e)

pub with_too_many : (word : Option Bool) (w : Bool) (xs bits : List Bool) → word ≡ Some w
    → slice_get bits (length xs) ≡ None → false ≡ agrees (xs ++ option_to_list word) bits
with_too_many word w xs bits e g = sym (too_many xs bits w g)
    ∙ ap (λ (o : Option Bool). agrees (xs ++ option_to_list o) bits) (sym e)

pub with_none : (word : Option Bool) (xs bits : List Bool) (b : Bool) → word ≡ None → b ≡ agrees xs bits
    → b ≡ agrees (xs ++ option_to_list word) bits
with_none word xs bits b e h = h ∙ sym (none_more xs bits)
    ∙ ap (λ (o : Option Bool). agrees (xs ++ option_to_list o) bits) (sym e)

-- an item that is there
pub got : (bits : List Bool) (i : ℕ) (y : Bool) → i < length bits → y ≡ get_or bits i y → slice_get bits i ≡ Some y
got [] i y l e = absurd (omega (arith, l))
got (z ∷ bits) zero y l e = ap (λ x. Some x) (sym e)
got (z ∷ bits) (suc i) y l e = got bits i y (omega (arith, l)) e

pub not_got : (bits : List Bool) (i : ℕ) → length bits ≤ i → slice_get bits i ≡ None
not_got [] i l = refl
not_got (z ∷ bits) zero l = absurd (omega (arith, l))
not_got (z ∷ bits) (suc i) l = not_got bits i (omega (arith, l))
