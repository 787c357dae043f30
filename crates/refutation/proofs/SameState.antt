-- Two orders that lead to one state let the same pieces stand next, and lead to one state with each of them.
use Rattle.std.proofs.Common.{Bool, List, None, Option, Some, [], ap, bytes_eq, length, not}
use Rattle.std.proofs.Common.{inl, inr, refl, slice_get, suc, true, zero, ℕ, ◌&&◌, ◌==◌, ◌||◌, ◌∙◌, ◌∷◌, ◌≡◌}
use Rattle.std.proofs.lemmas.Bool.{and_parts}
use Rattle.std.specs.List.{list_all, list_any, range_with_len}
use Rattle.plain_lemmas.proofs.Bools.{same_tests}
use Rattle.plain_lemmas.proofs.Lists.{bytes_eq_true}
use Rattle.plain_lemmas.proofs.Options.{some_one}
use Rattle.refutation.specs.Layers.{is_next, is_same, same_at, same_for, same_made}
use Rattle.refutation.specs.Orders.{behind_by, comes_before, finds_by, follows_by, has, held_by, is_met, is_sure}
use Rattle.refutation.specs.Orders.{is_whole, may_differ, may_hold, writes_by, written}
use Rattle.refutation.specs.Pieces.{Held, Piece, Slice}
use Rattle.refutation.proofs.Members.{In, all_in, all_alike, any_of_same, any_alike, in_has}

-- they lead to one state
pub record Same (blank : List ℕ) (slice : Slice) (a b : List ℕ) : Type 0 where
  pub made : (n : ℕ) → has a n ≡ has b n
  pub found : (p : Piece) (h : Held) → In slice p → In p.finds h → held_by blank slice a h.0 ≡ held_by blank slice b h.0
  pub differed : (p : Piece) (hs : List Held) (h : Held) → In slice p → In p.differs hs → In hs h
      → held_by blank slice a h.0 ≡ held_by blank slice b h.0

pub same_self : (blank : List ℕ) (slice : Slice) (a : List ℕ) → Same blank slice a a
same_self blank slice a = record { made = λ n. refl; found = λ p h i j. refl; differed = λ p hs h i j k. refl }

pub same_trans : (blank : List ℕ) (slice : Slice) (a b d : List ℕ) → Same blank slice a b → Same blank slice b d
    → Same blank slice a d
same_trans blank slice a b d f g = record {
  made = λ n. f.made n ∙ g.made n;
  found = λ p h i j. f.found p h i j ∙ g.found p h i j;
  differed = λ p hs h i j k. f.differed p hs h i j k ∙ g.differed p hs h i j k;
}

-- what the test says
pub same_from : (blank : List ℕ) (slice : Slice) (a b : List ℕ) → is_same blank slice a b ≡ true → Same blank slice a b
same_from blank slice a b e = record {
  made = λ n. same_tests _ _ (λ h. all_in (has b) a n (and_parts _ _ two.0).0 (in_has a n h))
      (λ h. all_in (has a) b n (and_parts _ _ two.0).1 (in_has b n h));
  found = λ p h i j. bytes_eq_true _ _ (all_in (same_at blank slice a b) p.finds h (and_parts _ _ (for_piece p i)).0 j);
  differed = λ p hs h i j k. bytes_eq_true _ _ (all_in (same_at blank slice a b) hs h
      (all_in (list_all (same_at blank slice a b)) p.differs hs (and_parts _ _ (for_piece p i)).1 j) k);
}
  where
    two : (same_made a b ≡ true) × (list_all (same_for blank slice a b) slice ≡ true)
    two = and_parts _ _ e

    for_piece : (p : Piece) → In slice p → same_for blank slice a b p ≡ true
    for_piece p i = all_in (same_for blank slice a b) slice p two.1 i

-- one piece more
pub same_more : (blank : List ℕ) (slice : Slice) (a b : List ℕ) (n : ℕ) → Same blank slice a b
    → Same blank slice (n ∷ a) (n ∷ b)
same_more blank slice a b n f = record {
  made = λ m. ap (λ x. (n == m) || x) (f.made m);
  found = λ p h i j. ap (left h.0) (f.found p h i j);
  differed = λ p hs h i j k. ap (left h.0) (f.differed p hs h i j k);
}
  where
    left : ℕ → List ℕ → List ℕ
    left b before = written (writes_by (slice_get slice n)) b (written (finds_by (slice_get slice n)) b before)

in_slice : (slice : Slice) (n : ℕ) (p : Piece) → slice_get slice n ≡ Some p → In slice p
in_slice [] n p e = absurd (let h : None ≡ Some p = e in cc)
in_slice (q ∷ slice) zero p e = inl (some_one q p e)
in_slice (q ∷ slice) (suc n) p e = inr (in_slice slice n p e)

abbrev differs : (ℕ → List ℕ) → List Held → Bool
differs holds hs = list_any (may_differ holds) hs

met_same : (blank : List ℕ) (slice : Slice) (a b : List ℕ) (p : Piece) → Same blank slice a b → In slice p
    → is_met (held_by blank slice a) p ≡ is_met (held_by blank slice b) p
met_same blank slice a b p f i =
    (λ k. all_alike (may_hold (held_by blank slice a)) (may_hold (held_by blank slice b)) p.finds
    (λ h j. ap (λ v. (length v == 0) || bytes_eq v h.1) (f.found p h i j)) k
    && all_alike (differs (held_by blank slice a)) (differs (held_by blank slice b)) p.differs
    (λ hs j. any_alike _ _ hs (λ h l. ap (λ v. (length v == 0) || not (bytes_eq v h.1)) (f.differed p hs h i j l))) k)

follows_same : (blank : List ℕ) (slice : Slice) (a b : List ℕ) (n : ℕ) (o : Option Piece) → Same blank slice a b
    → slice_get slice n ≡ o → follows_by blank slice a n o ≡ follows_by blank slice b n o
follows_same blank slice a b n None f e = refl
follows_same blank slice a b n (Some p) f e =
    (λ k. not (f.made n k) && not (any_of_same (comes_before slice n) a b f.made k)
    && met_same blank slice a b p f (in_slice slice n p e) k)

pub next_same : (blank : List ℕ) (slice : Slice) (a b : List ℕ) (n : ℕ) → Same blank slice a b
    → is_next blank slice a n ≡ is_next blank slice b n
next_same blank slice a b n f =
    (λ k. follows_same blank slice a b n (slice_get slice n) f refl k
    && all_alike (λ m. not (is_sure slice m) || has (n ∷ a) m) (λ m. not (is_sure slice m) || has (n ∷ b) m)
    (behind_by (slice_get slice n)) (λ m j. ap (λ x. not (is_sure slice m) || ((n == m) || x)) (f.made m)) k)

pub whole_same : (blank : List ℕ) (slice : Slice) (a b : List ℕ) → Same blank slice a b
    → is_whole slice a ≡ is_whole slice b
whole_same blank slice a b f =
    all_alike (λ n. not (is_sure slice n) || has a n) (λ n. not (is_sure slice n) || has b n)
    (range_with_len 0 (length slice)) (λ n j. ap (λ x. not (is_sure slice n) || x) (f.made n))
