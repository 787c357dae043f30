-- The first entry that breaks the discipline, and one more entry.
use Rattle.std.proofs.Common.{Bool, None, Option, Some, [], add-one, ap, ap₂, false, is_none, is_some, length, refl}
use Rattle.std.proofs.Common.{sym, true, ℕ, ◌&&◌, ◌+◌, ◌∙◌, ◌∷◌, ◌≡◌}
use Rattle.plain_lemmas.proofs.Options.{none_of}
use Rattle.witness_check.proofs.Comparing.{no_place}
use Rattle.nvme_model.specs.FirstBad.{earlier_or, first_bad_of}
use Rattle.nvme_model.specs.History.{Past}
use Rattle.nvme_model.specs.Legal.{IsLegal}
use Rattle.host_laws.specs.Rules.{takeover_disciplined}
use Rattle.nvme_model.specs.declared.array.Range.{Range}
use Rattle.nvme_model.specs.declared.config.ConfigNumbers.{ConfigNumbers}
use Rattle.nvme_model.specs.declared.entry.Entry.{Entry}
use Rattle.history_check.specs.Kept.{CheckerRun}
use Rattle.casdisk_texts.specs.Judged.{HasJudged}
use Rattle.casdisk_texts.specs.declared.judging.FirstBad.{FirstBad}
use Rattle.slot_check.specs.Broken.{discipline_broken}
use Rattle.slot_check.specs.Watched.{AreaState, Watches}
use Rattle.slot_check.specs.declared.broken.BrokenDiscipline.{BrokenDiscipline}
use Rattle.slot_check.proofs.Discipline.{folds, none_broken_at}
use Rattle.file_commands.specs.Wrong.{BreaksFirst, HasJudgedSlots, first_wrong, wrong_or, wrong_step_at}
use Rattle.file_commands.specs.declared.judging.WrongStep.{WrongStep}

-- ---- the first that breaks it

pub both_none : (o : Option WrongStep) (b : Option BrokenDiscipline) (n : ℕ)
    → is_none (wrong_or o (wrong_step_at n b)) ≡ (is_none o && is_none b)
both_none None None n = refl
both_none None (Some b) n = refl
both_none (Some w) b n = refl

inside : (a b : WrongStep) → Some a ≡ Some b → a ≡ b
inside a b h = cc

module _ (c : ConfigNumbers) (slots : Range) where
  -- there is none exactly where the discipline is kept
  pub exactly : (past : Past) → is_none (first_wrong c slots past) ≡ takeover_disciplined c slots past
  exactly [] = refl
  exactly (e ∷ past) =
      both_none (first_wrong c slots past) (discipline_broken c slots past e) (length past + 1)
      ∙ ap₂ (λ (x y : Bool). x && y) (exactly past) (none_broken_at c slots past e)
      ∙ sym (folds c slots past e)

  pub none_wrong : (past : Past) → first_wrong c slots past ≡ None → takeover_disciplined c slots past ≡ true
  none_wrong past h = sym (exactly past) ∙ ap is_none h

  pub some_wrong : (past : Past) (w : WrongStep) → first_wrong c slots past ≡ Some w → BreaksFirst c slots past w
  some_wrong [] w h = absurd (let f : None ≡ Some w = h in cc)
  some_wrong (e ∷ past) w h =
      go (first_wrong c slots past) (discipline_broken c slots past e) refl refl (some_wrong past w) h
    where
      go : (o : Option WrongStep) (b : Option BrokenDiscipline) → first_wrong c slots past ≡ o
          → discipline_broken c slots past e ≡ b
          → (first_wrong c slots past ≡ Some w → BreaksFirst c slots past w)
          → wrong_or o (wrong_step_at (length past + 1) b) ≡ Some w → BreaksFirst c slots (e ∷ past) w
      go (Some x) b p q ih h =
          let earlier = ih (p ∙ h) in
          record {
            later = e ∷ earlier.later;
            entry = earlier.entry;
            before = earlier.before;
            whole = ap (λ (xs : Past). e ∷ xs) earlier.whole;
            place = earlier.place;
            kept = earlier.kept;
            broken = earlier.broken;
            rule = earlier.rule;
          }
      go None None p q ih h = absurd (let f : None ≡ Some w = h in cc)
      go None (Some b) p q ih h =
          let this : WrongStep = record { place = length past + 1; broken = b } in
          let same : w ≡ this = sym (inside this w h) in
          let kept = none_wrong past p in
          record {
            later = [];
            entry = e;
            before = past;
            whole = refl;
            place = ap (λ (x : WrongStep). x.place) same;
            kept = kept;
            broken = folds c slots past e
                ∙ ap₂ (λ (x y : Bool). x && y) kept (sym (none_broken_at c slots past e) ∙ ap is_none q);
            rule = q ∙ ap (λ (x : WrongStep). Some x.broken) (sym same);
          }

-- ---- one more entry

first_none : (o later : Option ℕ) → earlier_or o later ≡ None → o ≡ None
first_none None later h = refl
first_none (Some place) later h = absurd (let f : Some place ≡ None = h in cc)

pub stays : (o later : Option WrongStep) → is_some o ≡ true → o ≡ wrong_or o later
stays None later some = absurd (let f : false ≡ true = some in cc)
stays (Some step) later some = refl

pub none_by : (n : ℕ) (b : Option BrokenDiscipline) → wrong_step_at n b ≡ None → b ≡ None
none_by n None h = refl
none_by n (Some b) h = absurd (let f : wrong_step_at n (Some b) ≡ None = h in cc)

module _ (why : Bool) (c : ConfigNumbers) (slots : Range) (past : Past) (e : Entry) (x y : CheckerRun)
    (count count' : ℕ)
    (bad bad' : FirstBad) (area : AreaState) (wrong : Option WrongStep)
    (now : HasJudged why c (e ∷ past) y count' bad') where
  -- behind an entry that may not follow
  pub behind_bad : is_some bad'.place ≡ true → HasJudgedSlots why c slots (e ∷ past) y count' bad' area wrong
  behind_bad some =
      record {
        judged = now;
        first = λ none. absurd (let f : false ≡ true = sym (ap is_some none) ∙ some in cc);
        watches = λ none. absurd (let f : false ≡ true = sym (ap is_some none) ∙ some in cc);
      }

  earlier : HasJudgedSlots why c slots past x count bad area wrong → bad'.place ≡ None → bad.place ≡ None
  earlier h none = h.judged.first.place ∙ first_none (first_bad_of c past) _ (sym now.first.place ∙ none)

  -- behind one that breaks the discipline
  pub behind_wrong : HasJudgedSlots why c slots past x count bad area wrong → is_some wrong ≡ true
      → HasJudgedSlots why c slots (e ∷ past) y count' bad' area wrong
  behind_wrong h some =
      let later = wrong_step_at (length past + 1) (discipline_broken c slots past e) in
      record {
        judged = now;
        first = λ none. stays wrong later some ∙ ap (λ o. wrong_or o later) (h.first (earlier h none));
        watches = λ none kept. absurd (let f : false ≡ true = sym (ap is_some kept) ∙ some in cc);
      }

  -- behind neither
  pub goes_on : HasJudgedSlots why c slots past x count bad area wrong → is_some bad'.place ≡ false
      → is_some wrong ≡ false → (broken : Option BrokenDiscipline) (after : AreaState)
      → (Watches c slots past area → broken ≡ discipline_broken c slots past e)
      → (Watches c slots past area → IsLegal c (e ∷ past) → broken ≡ None → Watches c slots (e ∷ past) after)
      → HasJudgedSlots why c slots (e ∷ past) y count' bad' after (wrong_step_at count' broken)
  goes_on h none unbroken broken after breaks watches =
      let now_none = none_of bad'.place none in
      let was_none = earlier h now_none in
      let no_wrong = none_of wrong unbroken in
      let watching = h.watches was_none no_wrong in
      let counted : count' ≡ length past + 1 = now.counted ∙ sym (add-one (length past)) in
      let later = wrong_step_at (length past + 1) (discipline_broken c slots past e) in
      record {
        judged = now;
        first = λ _. ap₂ wrong_step_at counted (breaks watching)
            ∙ ap (λ o. wrong_or o later) (sym no_wrong ∙ h.first was_none);
        watches = λ _ nothing.
            watches watching (no_place c (e ∷ past) (sym now_none ∙ now.first.place)) (none_by count' broken nothing);
      }
