-- A shared history: beside each entry the number of the pass that made it, or 0.
use Rattle.std.specs.Prelude.{◌≡◌, ℕ, suc, if◌then◌else◌, ◌==◌, List, [], ◌∷◌, ◌++◌, length, map}
use Rattle.nvme_model.specs.History.{Past}
use Rattle.nvme_model.specs.declared.entry.Entry.{Entry}

-- the newest first
abbrev pub SharedPast : Type 0
SharedPast = List (ℕ × Entry)

-- the entries alone
abbrev pub entries : SharedPast → Past
entries shared = map (λ m. m.1) shared

-- the places, from 1, of the entries of pass p, the last first
abbrev pub places : ℕ → SharedPast → List ℕ
places p [] = []
places p (m ∷ shared) = if m.0 == p then suc (length shared) ∷ places p shared else places p shared

-- the history goes on from what was seen
abbrev pub IsBeginning : SharedPast → SharedPast → Type 0
IsBeginning seen shared = (later : SharedPast) × (later ++ seen ≡ shared)
