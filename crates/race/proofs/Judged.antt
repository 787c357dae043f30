-- The history that was judged, entry by entry.
use Rattle.std.proofs.Common.{Bool, List, Option, Some, ap, ap₂, arith, false, get_or, is_none, length, reverse}
use Rattle.std.proofs.Common.{subst, sym, take, true, ℕ, ◌&&◌, ◌+◌, ◌-◌, ◌<◌, ◌≡◌, ◌∙◌, ◌∷◌}
use Rattle.history_check.proofs.FirstPlace.{one_more}
use Rattle.nvme_model.specs.History.{Past}
use Rattle.nvme_model.specs.Legal.{IsLegal, IsLegalFile}
use Rattle.nvme_model.specs.declared.array.Range.{Range}
use Rattle.nvme_model.specs.declared.config.ConfigNumbers.{ConfigNumbers}
use Rattle.nvme_model.specs.declared.entry.Entry.{Entry}
use Rattle.nvme_model.proofs.Beginnings.{beginning}
use Rattle.slot_check.specs.Broken.{discipline_broken, keeps_takeovers_at}
use Rattle.slot_check.specs.Watched.{AreaState, Watches}
use Rattle.slot_check.specs.declared.broken.BrokenDiscipline.{BrokenDiscipline}
use Rattle.slot_check.proofs.Discipline.{folds, none_broken_at}
use Rattle.host_laws.specs.Rules.{takeover_disciplined}
use Rattle.race.specs.Crashes.{BreaksAt}

-- with the next entry a beginning of a legal history is legal
pub legal_next : (c : ConfigNumbers) (entries : List Entry) (i : ℕ) (e : Entry) → i < length entries
    → e ≡ get_or entries i e → IsLegalFile c entries → IsLegal c (e ∷ reverse (take i entries))
legal_next c entries i e l there legal =
    subst (λ (past : Past). IsLegal c past) (one_more entries i e l there) (beginning c entries (i + 1) legal)

-- and what stands for it stands for the entries up to the next place
pub watches_next : (c : ConfigNumbers) (slots : Range) (entries : List Entry) (i : ℕ) (e : Entry) (x : AreaState)
    → i < length entries → e ≡ get_or entries i e → Watches c slots (e ∷ reverse (take i entries)) x
    → Watches c slots (reverse (take (i + 1) entries)) x
watches_next c slots entries i e x l there h =
    subst (λ (past : Past). Watches c slots past x) (sym (one_more entries i e l there)) h

-- an entry that breaks a rule is the first with which the discipline isn't kept
pub breaks_next : (c : ConfigNumbers) (slots : Range) (entries : List Entry) (i : ℕ) (e : Entry) (x : AreaState)
    (b : BrokenDiscipline) (o : Option BrokenDiscipline) → i < length entries → e ≡ get_or entries i e
    → Watches c slots (reverse (take i entries)) x → o ≡ Some b
    → o ≡ discipline_broken c slots (reverse (take i entries)) e → (place : ℕ) → place ≡ i + 1
    → BreaksAt c slots entries place
breaks_next c slots entries i e x b o l there watches some is place at =
    let past = reverse (take i entries) in
    let here : discipline_broken c slots past e ≡ Some b = sym is ∙ some in
    let wrong : keeps_takeovers_at c slots past e ≡ false =
    sym (none_broken_at c slots past e) ∙ ap is_none here in
    let whole : takeover_disciplined c slots (e ∷ past) ≡ false =
    folds c slots past e ∙ ap₂ (λ (y z : Bool). y && z) watches.keeps.disciplined wrong in
    let last : takeover_disciplined c slots (reverse (take (i + 1) entries)) ≡ false =
    ap (takeover_disciplined c slots) (one_more entries i e l there) ∙ whole in
    let before : (i + 1) - 1 ≡ i = omega arith in
    subst (BreaksAt c slots entries) (sym at) (record {
      there = (omega arith, omega (arith, l));
      kept = subst (λ (n : ℕ). takeover_disciplined c slots (reverse (take n entries)) ≡ true) (sym before)
          watches.keeps.disciplined;
      broken = last;
    })
