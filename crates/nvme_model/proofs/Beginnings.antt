-- Each beginning of a legal history is legal.
use Rattle.std.proofs.Common.{◌≡◌, ℕ, List, [], ◌∷◌, ◌++◌, sym, ap, ◌∙◌, subst, take, drop, reverse, take-append-drop}
use Rattle.std.proofs.lemmas.Bool.{and_parts}
use Rattle.std.proofs.lemmas.List.{reverse-append}
use Rattle.nvme_model.specs.declared.config.ConfigNumbers.{ConfigNumbers}
use Rattle.nvme_model.specs.History.{Past}
use Rattle.nvme_model.specs.Legal.{IsLegal, IsLegalFile}
use Rattle.nvme_model.specs.declared.entry.Entry.{Entry}

-- what comes later can be left out
pub earlier : (c : ConfigNumbers) (later past : Past) → IsLegal c (later ++ past) → IsLegal c past
earlier c [] past h = h
earlier c (e ∷ later) past h = earlier c later past (and_parts _ _ h).0

pub beginning : (c : ConfigNumbers) (entries : List Entry) (k : ℕ) → IsLegalFile c entries
    → IsLegalFile c (take k entries)
beginning c entries k h =
    let e : reverse entries ≡ reverse (drop k entries) ++ reverse (take k entries) =
    ap reverse (sym (take-append-drop k entries)) ∙ reverse-append (take k entries) (drop k entries) in
    earlier c (reverse (drop k entries)) (reverse (take k entries)) (subst (λ (l : Past). IsLegal c l) e h)
