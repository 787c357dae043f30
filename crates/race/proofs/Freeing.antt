-- Blocks that lie in the volume as zeros, one after the other.
use Rattle.std.proofs.Common.{arith, bytes_eq, false, inl, inr, le-leb, leb-true, lt-ltb, ltb-true, nat_le, subst, sym}
use Rattle.std.proofs.Common.{true, ℕ, ◌+◌, ◌<◌, ◌∙◌, ◌≡◌, ◌≤◌}
use Rattle.std.proofs.lemmas.Bool.{and_from, and_parts, cases_lt}
use Rattle.std.proofs.lemmas.Slice.Eq.{bytes_eq-Decides}
use Rattle.nvme_model.specs.Array.{zeros}
use Rattle.nvme_model.specs.History.{Past}
use Rattle.nvme_model.specs.Medium.{medium}
use Rattle.nvme_model.specs.declared.array.Range.{Range}
use Rattle.nvme_model.specs.declared.config.ConfigNumbers.{ConfigNumbers}
use Rattle.race.specs.Crashes.{AreSlotsFree, HasHeld}

-- so many from a first one on
abbrev pub FreeFrom : Past → ℕ → ℕ → Type 0
FreeFrom past first k = (l : ℕ) → first ≤ l → l < first + k → medium past l ≡ zeros

pub none_yet : (past : Past) (first : ℕ) → FreeFrom past first 0
none_yet past first l low high = absurd (omega (arith, low, high))

pub more : (past : Past) (first k : ℕ) → FreeFrom past first k
    → bytes_eq (medium past (first + k)) zeros ≡ true → FreeFrom past first (k + 1)
more past first k f e l low high = elim (cases_lt l (first + k)) [
  | inl h ↦ f l low h
  | inr h ↦
      let same : first + k ≡ l = omega (arith, high, h) in
      subst (λ (n : ℕ). medium past n ≡ zeros) same ((bytes_eq-Decides (medium past (first + k)) zeros).0 e)
]

-- one that isn't so
pub one_held : (c : ConfigNumbers) (past : Past) (slots : Range) (k : ℕ) → k < slots.blocks
    → (slots.slba + k < c.blocks → bytes_eq (medium past (slots.slba + k)) zeros ≡ false) → HasHeld c slots past
one_held c past slots k low h = (
  slots.slba + k,
  and_from (nat_le slots.slba (slots.slba + k)) _ (le-leb slots.slba (slots.slba + k) (omega arith))
      (lt-ltb (slots.slba + k) (slots.slba + slots.blocks) (omega (arith, low))),
  λ inside same.
      let yes = (bytes_eq-Decides (medium past (slots.slba + k)) zeros).1 same in
      let no = h inside in
      absurd (let f : true ≡ false = sym yes ∙ no in cc),
)

-- all of an area
pub all_free : (past : Past) (slots : Range) → FreeFrom past slots.slba slots.blocks → AreSlotsFree slots past
all_free past slots f l h =
    let parts = and_parts (nat_le slots.slba l) _ h in
    f l (leb-true slots.slba l parts.0) (ltb-true l (slots.slba + slots.blocks) parts.1)

-- for the loop over the blocks of an area
pub ruleset freeing = (all_free, none_yet, more, one_held)
