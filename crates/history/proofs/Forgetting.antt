-- A history whose oldest entries leave memory is the same history.
use Rattle.std.proofs.Common.{◌≡◌, ℕ, ◌+◌, ◌++◌, ◌∙◌, ap, append_assoc, arith, drop, length, length-drop, reverse, sym}
use Rattle.std.proofs.Common.{take}
use Rattle.std.proofs.lemmas.List.{reverse-append, take-append-drop}
use Rattle.std.proofs.Math.Seq.{take-append_seam}
use Rattle.nvme_model.specs.History.{Past}

-- what is left of the entries, of which so many were brought behind the others
left_behind : (xs : Past) (k left : ℕ) → k + left ≡ length xs → take left (drop k xs ++ take k xs) ≡ drop k xs
left_behind xs k left e =
    let size : left ≡ length (drop k xs) = omega (arith, length-drop k xs, e) in
    rw size (take-append_seam (drop k xs) (take k xs))

-- and those before it
pub forgets : (xs : Past) (k left : ℕ) (gone : Past) → k + left ≡ length xs
    → reverse (take left (drop k xs ++ take k xs)) ++ (reverse (take k xs) ++ gone) ≡ reverse xs ++ gone
forgets xs k left gone e =
    ap (λ (ys : Past). reverse ys ++ (reverse (take k xs) ++ gone)) (left_behind xs k left e)
    ∙ sym (append_assoc (reverse (drop k xs)) (reverse (take k xs)) gone)
    ∙ ap (λ (ys : Past). ys ++ gone) (sym (reverse-append (take k xs) (drop k xs)) ∙ ap reverse (take-append-drop k xs))
