-- A checker of slots takes one more entry.
use Rattle.std.proofs.Common.{Bool, None, Option, add-one, ap, ap₂, false, is_none, is_some, length, sym}
use Rattle.std.proofs.Common.{true, ℕ, ◌&&◌, ◌+◌, ◌∙◌, ◌∷◌, ◌≡◌}
use Rattle.std.proofs.lemmas.Bool.{and_parts}
use Rattle.plain_lemmas.proofs.Options.{none_of}
use Rattle.file_commands.proofs.Wronging.{both_none, none_by, stays}
use Rattle.nvme_model.specs.History.{Past}
use Rattle.nvme_model.specs.Legal.{IsLegal}
use Rattle.nvme_model.specs.declared.array.Range.{Range}
use Rattle.nvme_model.specs.declared.config.ConfigNumbers.{ConfigNumbers}
use Rattle.nvme_model.specs.declared.entry.Entry.{Entry}
use Rattle.slot_check.proofs.Discipline.{folds, none_broken_at}
use Rattle.slot_check.specs.Broken.{discipline_broken}
use Rattle.slot_check.specs.Watched.{Watches, area_state}
use Rattle.slot_check.specs.declared.broken.BrokenDiscipline.{BrokenDiscipline}
use Rattle.file_commands.specs.Wrong.{wrong_or, wrong_step_at}
use Rattle.file_commands.specs.declared.judging.WrongStep.{WrongStep}
use Rattle.vandrexu_c.specs.SlotCheckers.{FollowsSlots, SlotCheckerRun}

pub legal_before : (c : ConfigNumbers) (past : Past) (e : Entry) → IsLegal c (e ∷ past) → IsLegal c past
legal_before c past e legal = (and_parts _ _ legal).0

module _ (c : ConfigNumbers) (slots : Range) (past : Past) (e : Entry) (r s : SlotCheckerRun)
    (h : FollowsSlots c slots past r) (counted : s.count ≡ r.count + 1) where
  before : IsLegal c (e ∷ past) → IsLegal c past
  before = legal_before c past e

  abbrev later : Option WrongStep
  later = wrong_step_at (length past + 1) (discipline_broken c slots past e)

  -- with what is known of the first wrong step
  follows : (IsLegal c (e ∷ past) → s.wrong ≡ wrong_or r.wrong later)
      → (IsLegal c (e ∷ past) → s.wrong ≡ None → Watches c slots (e ∷ past) (area_state s.area))
      → FollowsSlots c slots (e ∷ past) s
  follows is watches =
      record {
        count = counted ∙ ap (λ (n : ℕ). n + 1) h.count ∙ add-one (length past);
        first = λ legal. is legal ∙ ap (λ o. wrong_or o later) (h.first (before legal));
        kept = λ legal.
            ap is_none (is legal) ∙ both_none r.wrong (discipline_broken c slots past e) (length past + 1)
            ∙ ap₂ (λ (x y : Bool). x && y) (h.kept (before legal)) (none_broken_at c slots past e)
            ∙ sym (folds c slots past e);
        watches = watches;
      }

  -- behind one that breaks the discipline
  pub behind_wrong : is_some r.wrong ≡ true → s.wrong ≡ r.wrong → FollowsSlots c slots (e ∷ past) s
  behind_wrong some same =
      follows (λ legal. same ∙ stays r.wrong later some)
      (λ legal none. absurd (let f : false ≡ true = sym (ap is_some (sym same ∙ none)) ∙ some in cc))

  -- behind none
  pub goes_on : is_some r.wrong ≡ false → (b : Option BrokenDiscipline) → s.wrong ≡ wrong_step_at s.count b
      → (Watches c slots past (area_state r.area) → b ≡ discipline_broken c slots past e)
      → (Watches c slots past (area_state r.area) → IsLegal c (e ∷ past) → b ≡ None
      → Watches c slots (e ∷ past) (area_state s.area))
      → FollowsSlots c slots (e ∷ past) s
  goes_on none b told breaks watches =
      let no_wrong = none_of r.wrong none in
      let place : s.count ≡ length past + 1 = counted ∙ ap (λ (n : ℕ). n + 1) h.count in
      let watching : IsLegal c (e ∷ past) → Watches c slots past (area_state r.area) =
      λ (legal : IsLegal c (e ∷ past)). h.watches (before legal) no_wrong in
      follows
      (λ legal. told ∙ ap₂ wrong_step_at place (breaks (watching legal)) ∙ ap (λ o. wrong_or o later) (sym no_wrong))
      (λ legal nothing. watches (watching legal) legal (none_by s.count b (sym told ∙ nothing)))

-- an entry that wasn't taken, for want of memory
pub unmoved : (c : ConfigNumbers) (slots : Range) (past : Past) (r s : SlotCheckerRun) → FollowsSlots c slots past r
    → s.count ≡ r.count → s.wrong ≡ r.wrong
    → (Watches c slots past (area_state r.area) → Watches c slots past (area_state s.area))
    → FollowsSlots c slots past s
unmoved c slots past r s h count wrong watch =
    record {
      count = count ∙ h.count;
      first = λ legal. wrong ∙ h.first legal;
      kept = λ legal. ap is_none wrong ∙ h.kept legal;
      watches = λ legal none. watch (h.watches legal (sym wrong ∙ none));
    }
