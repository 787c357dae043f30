-- One more entry is judged.
use Rattle.std.proofs.Common.{◌≡◌, ℕ, ◌+◌, ◌&&◌, Bool, true, false, cond, [], ◌∷◌, length, reverse, refl, sym, ap, ◌∙◌}
use Rattle.std.proofs.Common.{subst, Option, Some, None, is_none, is_some, arith}
use Rattle.std.proofs.lemmas.List.{reverse-reverse}
use Rattle.plain_lemmas.proofs.Options.{none_of}
use Rattle.witness_check.proofs.Comparing.{no_place, stays}
use Rattle.broken_rules.specs.Broken.{first_broken}
use Rattle.broken_rules.specs.declared.broken.Broken.{Broken}
use Rattle.broken_rules.proofs.Exactly.{exactly}
use Rattle.nvme_model.specs.FirstBad.{earlier_or, first_bad, first_bad_of}
use Rattle.nvme_model.specs.History.{Past}
use Rattle.nvme_model.specs.Legal.{IsLegal, legal, may_follow}
use Rattle.nvme_model.specs.declared.config.ConfigNumbers.{ConfigNumbers}
use Rattle.nvme_model.specs.declared.entry.Entry.{Entry}
use Rattle.nvme_model.proofs.FirstBad.{legal_is_none, some_is_first}
use Rattle.history_check.specs.Kept.{Stands, CheckerRun}
use Rattle.casdisk_texts.specs.Explained.{IsExplanation, explained_of}
use Rattle.casdisk_texts.specs.Files.{IsAnswer}
use Rattle.casdisk_texts.specs.Judged.{HasJudged, answer_text, first_rule}
use Rattle.casdisk_texts.specs.declared.judging.FirstBad.{FirstBad}

-- ---- what a place says

of_file : (c : ConfigNumbers) (past : Past) → first_bad c (reverse past) ≡ first_bad_of c past
of_file c past = ap (first_bad_of c) (reverse-reverse past)

pub answered_by : (c : ConfigNumbers) (past : Past) (bad : Option ℕ) → bad ≡ first_bad_of c past
    → IsAnswer c past (is_none bad) (answer_text bad)
answered_by c past None e = (no_place c past e, refl)
answered_by c past (Some place) e = (place, some_is_first c (reverse past) place (of_file c past ∙ sym e), refl)

pub not_legal : (c : ConfigNumbers) (past : Past) (o : Option ℕ) → is_some o ≡ true → o ≡ first_bad_of c past
    → legal c past ≡ false
not_legal c past None some e = absurd (let f : false ≡ true = some in cc)
not_legal c past (Some place) some e = go (legal c past) refl
  where
    go : (b : Bool) → legal c past ≡ b → b ≡ false
    go true h = absurd (let f : None ≡ Some place =
        sym (legal_is_none c (reverse past) (subst (IsLegal c) (sym (reverse-reverse past)) h)) ∙ of_file c past
        ∙ sym e in cc)
    go false h = refl

-- ---- what a rule says

rule_is : (c : ConfigNumbers) (past : Past) → is_none (first_rule c past) ≡ legal c past
rule_is c [] = refl
rule_is c (e ∷ past) = go (legal c past) refl (rule_is c past)
  where
    go : (b : Bool) → legal c past ≡ b → is_none (first_rule c past) ≡ legal c past
        → is_none (cond b (first_broken c past e) (first_rule c past)) ≡ legal c (e ∷ past)
    go true h ih = exactly c past e
    go false h ih = ih ∙ h ∙ sym (ap (λ l. l && may_follow c past e) h)

pub explained_by : (c : ConfigNumbers) (past : Past) (place : Option ℕ) (broken : Option Broken)
    → place ≡ first_bad_of c past → broken ≡ first_rule c past → IsExplanation c past (explained_of place broken)
explained_by c past None broken e r = no_place c past e
explained_by c past (Some place) None e r = sym (rule_is c past) ∙ ap is_none (sym r)
explained_by c past (Some place) (Some b) e r = (some_is_first c (reverse past) place (of_file c past ∙ sym e), sym r)

-- ---- one more entry

module _ (why : Bool) (c : ConfigNumbers) (past : Past) (e : Entry) (x y : CheckerRun) (count : ℕ) where
  abbrev this : Option ℕ
  this = cond (may_follow c past e) None (Some (length past + 1))

  abbrev rule_by : Bool → Option Broken
  rule_by l = cond l (first_broken c past e) (first_rule c past)

  -- behind a bad one
  pub judged_on : (bad : FirstBad) → is_some bad.place ≡ true → HasJudged why c past x count bad
      → HasJudged why c (e ∷ past) y (count + 1) bad
  judged_on bad some h =
      record {
        counted = omega (arith, h.counted);
        first = record {
          place = stays bad.place this some ∙ ap (λ o. earlier_or o this) h.first.place;
          rule = λ asked. h.first.rule asked ∙ sym (ap rule_by (not_legal c past bad.place some h.first.place));
        };
        stands = λ none. absurd (let f : false ≡ true = sym (ap is_some none) ∙ some in cc);
      }

  follows_is : IsLegal c past → (b : Bool) → b ≡ legal c (e ∷ past) → may_follow c past e ≡ b
  follows_is h b a = sym (a ∙ ap (λ l. l && may_follow c past e) h)

  pub judged_next : (bad : FirstBad) → is_some bad.place ≡ false → HasJudged why c past x count bad
      → (b : Bool) → (Stands x.config past x → (b ≡ legal x.config (e ∷ past)) × Stands x.config (e ∷ past) y)
      → (broken : Option Broken) → (Stands x.config past x → why ≡ true → broken ≡ first_broken x.config past e)
      → HasJudged why c (e ∷ past) y (count + 1) (record { place = cond b None (Some (count + 1)); broken = broken })
  judged_next bad none h b take broken breaks =
      let no = none_of bad.place none in
      let s = h.stands no in
      let t = subst (λ (d : ConfigNumbers). (Stands d past x → (b ≡ legal d (e ∷ past)) × Stands d (e ∷ past) y)) s.same
      take s in
      let r = subst (λ (d : ConfigNumbers). (Stands d past x → why ≡ true → broken ≡ first_broken d past e)) s.same
      breaks s in
      let legal_so_far = no_place c past (sym no ∙ h.first.place) in
      record {
        counted = omega (arith, h.counted);
        first = record {
          place =
              ap (λ n. cond b None (Some (n + 1))) h.counted
              ∙ ap (λ f. cond f None (Some (length past + 1))) (sym (follows_is legal_so_far b t.0))
              ∙ ap (λ o. earlier_or o this) (sym no ∙ h.first.place);
          rule = λ asked. r asked ∙ sym (ap rule_by legal_so_far);
        };
        stands = λ f. t.1;
      }
