-- Where a line feed stands in what is read ahead.
use Rattle.std.proofs.Common.{◌≡◌, ◌≢◌, ℕ, zero, suc, ◌+◌, ◌-◌, ◌<◌, ◌≤◌, true, false, List, [], ◌∷◌, ◌++◌, length}
use Rattle.std.proofs.Common.{take, drop, slice_range, get_or, refl, sym, ap, ◌∙◌, subst, arith, length-take}
use Rattle.std.proofs.Common.{take-append-drop, drop-cons, take_all}
use Rattle.std.proofs.lemmas.List.{drop-take, drop-drop}
use Rattle.std.proofs.lemmas.Bool.{eqb-true}
use Rattle.std.proofs.Math.Dec.{eqb}
use Rattle.memchr.specs.Find.{NoneBefore, Nowhere}
use Rattle.line_text.specs.Lines.{NoFeed, IsPiece}

-- no line feed before place n
no_feed_take : (xs : List ℕ) (n : ℕ) → ((k : ℕ) → k < n → get_or xs k 0 ≢ 10) → NoFeed (take n xs)
no_feed_take xs zero h = tt
no_feed_take [] (suc n) h = tt
no_feed_take (x ∷ xs) (suc n) h = (h 0 (omega arith), no_feed_take xs n (λ k lt. h (suc k) (omega arith)))

-- a line feed passes the test
is_10 : (a : ℕ) → a ≡ 10 → eqb a 10 ≡ true
is_10 a e = rw e refl

-- the piece before a line feed
pub found : (buf : List ℕ) (s e at : ℕ) → e ≤ length buf
    → NoneBefore (λ k. eqb (get_or (slice_range buf s e) k 0) 10 ≡ true) 0 (length (slice_range buf s e)) at
    → eqb (get_or (slice_range buf s e) at 0) 10 ≡ true
    → IsPiece true (slice_range buf s e) (slice_range buf (s + (at + 1)) e) (take at (slice_range buf s e))
found buf s e at fits none here =
    let A : List ℕ = slice_range buf s e in
    let is : get_or A at 0 ≡ 10 = eqb-true _ _ here in
    let room : at < length A = none.high in
    let long = length-take (e - s) (drop s buf) in
    let after : drop (suc at) A ≡ slice_range buf (s + (at + 1)) e =
    ap (λ n. drop (suc at) (take n (drop s buf))) (omega arith) ∙ drop-take (suc at) (e - (s + (at + 1))) (drop s buf)
    ∙ ap (take (e - (s + (at + 1)))) (drop-drop (suc at) s buf ∙ ap (λ n. drop n buf) (omega arith)) in
    let all : A ≡ take at A ++ 10 ∷ slice_range buf (s + (at + 1)) e =
    sym (take-append-drop at A)
    ∙ ap (λ l. take at A ++ l)
    (drop-cons A at 0 room ∙ ap (λ x. x ∷ drop (suc at) A) is ∙ ap (λ l. 10 ∷ l) after) in
    (all, no_feed_take A at (λ k lt same. none.before k (omega arith) lt (is_10 _ same)))

-- all, where there is none
pub not_found : (buf : List ℕ) (s e : ℕ)
    → Nowhere (λ k. eqb (get_or (slice_range buf s e) k 0) 10 ≡ true) 0 (length (slice_range buf s e))
    → IsPiece false (slice_range buf s e) (slice_range buf e e) (slice_range buf s e)
not_found buf s e none =
    let A : List ℕ = slice_range buf s e in
    let whole : take (length A) A ≡ A = take_all (length A) A (omega arith) in
    let none_left : e - e ≡ 0 = omega arith in (
      refl,
      ap (λ n. take n (drop e buf)) none_left,
      subst NoFeed whole (no_feed_take A (length A) (λ k lt same. none k (omega arith) lt (is_10 _ same))),
    )
