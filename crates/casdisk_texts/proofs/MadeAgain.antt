-- One more entry of a history is made once more, or not.
use Rattle.std.proofs.Common.{◌≡◌, ℕ, ◌+◌, ◌&&◌, ◌==◌, Bool, true, false, cond, List, [], ◌∷◌, ◌++◌, None, Some, length}
use Rattle.std.proofs.Common.{sym, ap, ap₂, ◌∙◌, subst, bytes_eq}
use Rattle.std.specs.Prelude.{Option, is_none, is_some, option_map}
use Rattle.std.specs.Int.RustNames.{bit_and}
use Rattle.std.specs.Io.KnownBytes.{Appends}
use Rattle.std.proofs.KnownBytes.{Appends-nil}
use Rattle.line_text.specs.Known.{AppendsFront}
use Rattle.plain_lemmas.proofs.Lists.{bytes_eq_true}
use Rattle.nvme_model.specs.FirstBad.{earlier_or}
use Rattle.nvme_model.specs.History.{Past, step_of}
use Rattle.nvme_model.specs.Refusals.{refusal}
use Rattle.nvme_model.specs.Steps.{next_entry}
use Rattle.nvme_model.specs.declared.config.ConfigNumbers.{ConfigNumbers}
use Rattle.nvme_model.specs.declared.entry.Entry.{Entry}
use Rattle.history.specs.Lines.{entry_in, entry_line}
use Rattle.history.proofs.LinesAgain.{entry_again}
use Rattle.history.proofs.LinesRead.{entry_is}
use Rattle.history.proofs.OneSpelling.{one_of}
use Rattle.controller_interface.specs.State.{ControllerState}
use Rattle.casdisk_texts.specs.Remade.{HasRemade, MakesAgain, MakesEntry, RemakesNext, StopsRemaking, first_other}
use Rattle.casdisk_texts.specs.Remade.{is_remade, remade_line, remade_text}
use Rattle.casdisk_texts.specs.Said.{entry_text, line_kind}

module _ (c : ConfigNumbers) (past : Past) (e : Entry) where
  abbrev next : Entry
  next = next_entry c past (step_of e)

  -- of a step that is refused
  pub refused_entry : is_none (refusal c past (step_of e)) ≡ false → is_remade c past e ≡ false
  refused_entry h = ap (λ b. b && bytes_eq (entry_line next) (entry_line e)) h

  -- of one that isn't, the lines say it
  pub made_entry : (line text : List ℕ) (after : Past) (b : Bool) → entry_in line ≡ Some e
      → MakesAgain c past (step_of e) true after text → b ≡ bytes_eq text line → MakesEntry c past e b after text
  made_entry line text after b read made same = go b same
    where
      is : is_remade c past e ≡ bytes_eq text line
      is = ap (λ o. is_none o && bytes_eq (entry_line next) (entry_line e)) made.0
          ∙ ap₂ bytes_eq (sym made.2) (sym (entry_is line e read))

      go : (b : Bool) → b ≡ bytes_eq text line → MakesEntry c past e b after text
      go false h = is ∙ sym h
      go true h =
          let text_is = bytes_eq_true text line (sym h) in
          let one = one_of (entry_in (entry_line next)) next e (entry_again next made.3)
          (ap entry_in (sym made.2 ∙ text_is) ∙ read) in
          (is ∙ sym h, made.1 ∙ ap (λ x. x ∷ past) one, text_is ∙ entry_is line e read)

  module _ (none : first_other c past ≡ None) where
    other_is : (b : Bool) → is_remade c past e ≡ b → first_other c (e ∷ past) ≡ cond b None (Some (length past + 1))
    other_is b h = ap₂ (λ o d. earlier_or o (cond d None (Some (length past + 1)))) none h

    module _ (kinds : ℕ) (core : ControllerState) (config : core.config ≡ c) where
      -- it is other
      pub other_next : (place : ℕ) (w : Option (List ℕ)) → is_remade c past e ≡ false → place ≡ length past + 1
          → RemakesNext c kinds past e core (Some place) w w
      other_next place w h is = (
        record {
          config = config;
          first = ap Some is ∙ sym (other_is false h);
          made = λ (n : Some place ≡ None). absurd (let f : false ≡ true = ap is_none n in cc);
        },
        subst (λ o. Appends w w (remade_text kinds e o)) (sym (other_is false h)) (Appends-nil w),
      )

      -- it is the same
      pub same_next : (other : Option ℕ) (w v : Option (List ℕ)) → is_remade c past e ≡ true → core.past ≡ e ∷ past
          → other ≡ None → Appends w v (entry_text kinds e) → RemakesNext c kinds past e core other w v
      same_next other w v h is free p = (
        record { config = config; first = free ∙ sym (other_is true h); made = λ _. is },
        subst (λ o. Appends w v (remade_text kinds e o)) (sym (other_is true h)) p,
      )

    -- a beginning of its line was written
    pub same_stopped : (kinds : ℕ) (w v : Option (List ℕ)) → is_remade c past e ≡ true
        → AppendsFront w v (entry_text kinds e) → StopsRemaking c kinds past e w v
    same_stopped kinds w v h p =
        subst (λ o. AppendsFront w v (remade_text kinds e o)) (sym (other_is true h)) p

  -- behind one that is other
  pub other_stays : (kinds : ℕ) (core : ControllerState) (other : Option ℕ) (w : Option (List ℕ))
      → is_some other ≡ true → HasRemade c past core other → RemakesNext c kinds past e core other w w
  other_stays kinds core None w some h = absurd (let f : false ≡ true = some in cc)
  other_stays kinds core (Some place) w some h =
      let is : Some place ≡ first_other c (e ∷ past) =
      ap (λ o. earlier_or o (cond (is_remade c past e) None (Some (length past + 1)))) h.first in (
        record {
          config = h.config;
          first = is;
          made = λ (n : Some place ≡ None). absurd (let f : false ≡ true = ap is_none n in cc);
        },
        subst (λ o. Appends w w (remade_text kinds e o)) is (Appends-nil w),
      )

-- what a line of an entry means
pub line_means : (kinds : ℕ) (c d : ConfigNumbers) (past : Past) (line : List ℕ) (e : Entry) → d ≡ c
    → entry_in line ≡ Some e
    → remade_line d kinds past line ≡ Some (e ∷ past, remade_text kinds e (first_other c (e ∷ past)))
line_means kinds c d past line e same read =
    ap (λ x. remade_line x kinds past line) same
    ∙ ap (option_map (λ f. (f ∷ past, remade_text kinds f (first_other c (f ∷ past))))) read

-- an entry's text, by whether its kind is shown
pub text_shown : (kinds kind : ℕ) (e : Entry) (shown : Bool) → kind ≡ line_kind e → shown ≡ (bit_and kinds kind == kind)
    → entry_text kinds e ≡ cond shown (entry_line e ++ 10 ∷ []) []
text_shown kinds kind e shown is h =
    ap (λ b. cond b (entry_line e ++ 10 ∷ []) []) (ap (λ k. bit_and kinds k == k) (sym is) ∙ sym h)
