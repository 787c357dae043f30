-- The names of a text, joined by commas: the first, and those of the rest.
use Rattle.std.proofs.Common.{◌≡◌, ℕ, ◌<◌, ◌==◌, length, List, [], ◌∷◌, Option, Some, None, Bor, arith, lit<, ap}
use Rattle.std.proofs.Common.{bit_or}
use Rattle.std.specs.Prelude.{option_and_then}
use Rattle.bitflags.specs.Sets.{find_name}
use Rattle.casdisk_texts.specs.Kinds.{kinds_table, kinds_after}
use Rattle.std.specs.List.{slice_split}
use Rattle.std.proofs.lemmas.List.Sums.{fails_before_first}
use Rattle.std.proofs.lemmas.List.Splits.{slice_split_first, slice_split_none}
use Rattle.std.proofs.lemmas.Grind.{common_steps}
use Rattle.std.proofs.lemmas.Str.Pattern.{IsSplitOnceResult, split_once_first}

module _ (text : List ℕ) (r : Option (Bor (List ℕ) × Bor (List ℕ))) (split : IsSplitOnceResult 44 text r) where
  pub first_name : (x : Bor (List ℕ) × Bor (List ℕ)) → r ≡ Some x
      → (slice_split (λ b. b == 44) text ≡ x.0.now ∷ slice_split (λ b. b == 44) x.1.now)
      × (length x.1.now < length text)
  first_name x is =
      let (inside, front, back) = rw is at (split_once_first 44 text r split (lit< tt)) in
      let parts = slice_split_first (λ b. b == 44) text 0 inside in
      (grind (arith, common_steps), grind (arith, common_steps))

  pub last_name : r ≡ None → slice_split (λ b. b == 44) text ≡ text ∷ []
  last_name is =
      let none = rw is at (split_once_first 44 text r split (lit< tt)) in
      slice_split_none (λ b. b == 44) text (λ k e m. fails_before_first (λ b. b == 44) text k e (omega arith))

-- the kinds after a name that is one's, and after one that is none's
pub known_name : (kinds : ℕ) (name : List ℕ) (names : List (List ℕ)) (kind : ℕ) → find_name kinds_table name ≡ Some kind
    → kinds_after kinds (name ∷ names) ≡ kinds_after (bit_or kinds kind) names
unfolding kinds_after
known_name kinds name names kind is = ap (option_and_then (λ k. kinds_after (bit_or kinds k) names)) is

pub unknown_name : (kinds : ℕ) (name : List ℕ) (names : List (List ℕ)) → find_name kinds_table name ≡ None
    → kinds_after kinds (name ∷ names) ≡ None
unfolding kinds_after
unknown_name kinds name names is = ap (option_and_then (λ k. kinds_after (bit_or kinds k) names)) is

pub only_name : (kinds : ℕ) (name : List ℕ) (kind : ℕ) → find_name kinds_table name ≡ Some kind
    → kinds_after kinds (name ∷ []) ≡ Some (bit_or kinds kind)
unfolding kinds_after
only_name kinds name kind is = ap (option_and_then (λ k. kinds_after (bit_or kinds k) [])) is
