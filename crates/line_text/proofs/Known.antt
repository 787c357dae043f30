-- How writes join, and other laws of known bytes.
use Rattle.std.proofs.Common.{◌≡◌, ℕ, ◌+◌, ◌-◌, ◌≤◌, List, ◌++◌, length, None, Some, sym, ap, ◌∙◌, subst, append_assoc}
use Rattle.std.proofs.Common.{take, drop, take-append-drop, arith, length-take}
use Rattle.std.specs.Prelude.{Option, Result, Ok, Err, IfSome, OnErr, OnOk}
use lib.Seq.{take-add, take-take}
use Rattle.std.specs.Io.KnownBytes.{Appends, Consumes}
use Rattle.std.proofs.KnownBytes.{Appends-trans}
use Rattle.line_text.specs.Known.{AppendsFront}

-- the first n bytes are a beginning
pub front_of_take : (a b : Option (List ℕ)) (n : ℕ) (bs : List ℕ) → Appends a b (take n bs) → AppendsFront a b bs
front_of_take a b n bs h =
    record { front = take n bs; rest = drop n bs; whole = sym (take-append-drop n bs); written = h }

-- one more write of n bytes from place `done`
pub sent_more : (a b c : Option (List ℕ)) (done n : ℕ) (xs : List ℕ) → done ≤ length xs
    → n ≤ length (take (length xs - done) (drop done xs))
    → Appends a b (take done xs) → Appends b c (take n (take (length xs - done) (drop done xs)))
    → Appends a c (take (done + n) xs)
sent_more a b c done n xs le bound p q =
    let most = length-take (length xs - done) (drop done xs) in
    let joined = ap (λ l. take done xs ++ l) (take-take n (length xs - done) (drop done xs) (omega arith))
    ∙ sym (take-add done n xs) in
    subst (Appends a c) joined (Appends-trans a b c _ _ p q)

-- a beginning of the first part is one of the whole
pub front_first : (a b : Option (List ℕ)) (xs ys : List ℕ) → AppendsFront a b xs → AppendsFront a b (xs ++ ys)
front_first a b xs ys h =
    record {
      front = h.front;
      rest = h.rest ++ ys;
      whole = ap (λ l. l ++ ys) h.whole ∙ append_assoc h.front h.rest ys;
      written = h.written;
    }

-- the first part, and a beginning of the second
pub front_second : (a b c : Option (List ℕ)) (xs ys : List ℕ) → Appends a b xs → AppendsFront b c ys
    → AppendsFront a c (xs ++ ys)
front_second a b c xs ys p h =
    record {
      front = xs ++ h.front;
      rest = h.rest;
      whole = ap (λ l. xs ++ l) h.whole ∙ sym (append_assoc xs h.front h.rest);
      written = Appends-trans a b c xs h.front p h.written;
    }

-- what holds of the bytes that were read and of all that may follow holds of a known input
pub known_input : (old new : Option (List ℕ)) (bytes : List ℕ) (P : List ℕ → Type 0) → Consumes old new bytes
    → ((more : List ℕ) → P (bytes ++ more)) → IfSome old P
known_input None new bytes P p h = tt
known_input (Some x) None bytes P p h = absurd p
known_input (Some x) (Some y) bytes P p h = subst P (sym p) (h y)

-- what holds at every answer holds at an error
pub on_err : {X E P : Type 0} (r : Result X E) → P → OnErr r P
on_err (Ok x) p = tt
on_err (Err e) p = p

-- what follows from what holds at an error holds there too
pub on_err_then : {X E P Q : Type 0} (r : Result X E) → (P → Q) → OnErr r P → OnErr r Q
on_err_then (Ok x) f p = tt
on_err_then (Err e) f p = f p

-- and the same at an `Ok`
pub on_ok_then : {X E P Q : Type 0} (r : Result X E) → (P → Q) → OnOk r P → OnOk r Q
on_ok_then (Ok x) f p = f p
on_ok_then (Err e) f p = tt

-- a piece failed after some were written, and others would have followed
pub front_at : (a b c : Option (List ℕ)) (done piece rest text : List ℕ) → text ≡ done ++ (piece ++ rest)
    → Appends a b done → AppendsFront b c piece → AppendsFront a c text
front_at a b c done piece rest text e p h =
    subst (AppendsFront a c) (sym e) (front_second a b c done (piece ++ rest) p (front_first b c piece rest h))
