-- What was asked, and what was answered.
use Rattle.std.specs.Prelude.{ℕ, Bool, List, [], ◌∷◌, Contains, ◌≡◌}

-- Lines that were asked about, and whether they failed.
pub record AskedCandidate : Type 0 where
  pub lines : List (List ℕ)
  pub fails : Bool

-- From one state of a question to another, these things were asked, the newest first, and so answered.
unfoldable pub AsksTo : {Q : Type 0} → (Q → List (List ℕ) → Bool → Q → Type 0) → Q → List AskedCandidate → Q → Type 0
AsksTo asks before [] after = before ≡ after
AsksTo {Q} asks before (a ∷ past) after = (mid : Q) × AsksTo asks before past mid × asks mid a.lines a.fails after

-- It was asked about these lines, and they failed.
abbrev pub WasFailing : List AskedCandidate → List (List ℕ) → Type 0
WasFailing past lines = Contains past (record { lines = lines; fails = Bool.true })

-- It was asked about these lines, and they passed.
abbrev pub WasPassing : List AskedCandidate → List (List ℕ) → Type 0
WasPassing past lines = Contains past (record { lines = lines; fails = Bool.false })
