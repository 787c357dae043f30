-- What is said of a file beside an area, from what was found.
use Rattle.std.proofs.Common.{Bool, List, None, Option, Some, ap, arith, false, inl, inr, is_none, refl, subst}
use Rattle.std.proofs.Common.{sym, true, ℕ, ◌∙◌, ◌≡◌, ◌≤◌}
use Rattle.std.specs.Prelude.{Err, IfSome, Ok}
use Rattle.std.specs.Io.KnownBytes.{IsAtEnd}
use Rattle.std.proofs.KnownBytes.{Keeps-refl}
use Rattle.witness_check.proofs.Comparing.{no_place}
use Rattle.line_text.specs.Lines.{whole_lines}
use Rattle.nvme_model.specs.FirstBad.{first_bad_of}
use Rattle.nvme_model.specs.History.{Past}
use Rattle.nvme_model.specs.Legal.{legal}
use Rattle.nvme_model.specs.declared.array.Range.{Range}
use Rattle.nvme_model.specs.declared.config.ConfigNumbers.{ConfigNumbers}
use Rattle.broken_rules.specs.declared.broken.Broken.{Broken}
use Rattle.history_check.specs.Kept.{CheckerRun}
use Rattle.casdisk_texts.specs.Files.{HasHistory}
use Rattle.casdisk_texts.specs.Followed.{StopsFirst}
use Rattle.casdisk_texts.specs.Judged.{HasFirstBad, first_rule}
use Rattle.casdisk_texts.specs.Script.{first_config}
use Rattle.casdisk_texts.specs.declared.fault.RunFault.{RunFault}
use Rattle.casdisk_texts.specs.declared.fault.RunFault.TheVariants.{BadConfig, BadLine, Input, NoMemory, Output}
use Rattle.casdisk_texts.specs.declared.judging.FirstBad.{FirstBad}
use Rattle.casdisk_texts.proofs.Answering.{history_then}
use Rattle.casdisk_texts.proofs.Placing.{answered_by, explained_by, not_legal}
use Rattle.slot_check.specs.Watched.{AreaState}
use Rattle.file_commands.specs.Texts.{ChecksSlots, HasArea, HasAreaByThen, HasFound, IsExplainedSlots, IsSlotsAnswer}
use Rattle.file_commands.specs.Texts.{IsSlotsAnswerOf, IsUndisciplined, IsUnjudged, IsWithin, TellsFound}
use Rattle.file_commands.specs.Texts.{explained_slots_of, found_none, found_text}
use Rattle.file_commands.specs.Wrong.{HasJudgedSlots, first_wrong}
use Rattle.file_commands.specs.declared.fault.SlotsFault.{SlotsFault}
use Rattle.file_commands.specs.declared.fault.SlotsFault.TheVariants.{Beyond, NoSlots, Run}
use Rattle.file_commands.specs.declared.judging.WrongStep.{WrongStep}
use Rattle.file_commands.specs.declared.judging.JudgedSlots.{JudgedSlots}
use Rattle.file_commands.proofs.Wronging.{exactly, none_wrong, some_wrong}

-- ---- of a history

module _ (c : ConfigNumbers) (slots : Range) (past : Past) where
  undisciplined : (step : WrongStep) → None ≡ first_bad_of c past → Some step ≡ first_wrong c slots past
      → IsUndisciplined c slots past step
  undisciplined step e f = (
    no_place c past e,
    sym (exactly c slots past) ∙ ap is_none (sym f),
    some_wrong c slots past step (sym f),
  )

  answer_by : (bad : Option ℕ) (wrong : Option WrongStep) → bad ≡ first_bad_of c past
      → (bad ≡ None → wrong ≡ first_wrong c slots past)
      → IsSlotsAnswer c slots past (found_none bad wrong) (found_text bad wrong)
  answer_by (Some place) wrong e f = inl (answered_by c past (Some place) e)
  answer_by None None e f = (answered_by c past None e, none_wrong c slots past (sym (f refl)))
  answer_by None (Some step) e f = inr (step, undisciplined step e (f refl), refl)

  explain_by : (bad : Option ℕ) (broken : Option Broken) (wrong : Option WrongStep) → bad ≡ first_bad_of c past
      → broken ≡ first_rule c past → (bad ≡ None → wrong ≡ first_wrong c slots past)
      → IsExplainedSlots c slots past (explained_slots_of bad broken wrong)
  explain_by (Some place) (Some broken) wrong e r f = explained_by c past (Some place) (Some broken) e r
  explain_by (Some place) None wrong e r f =
      absurd (let here : legal c past ≡ true = explained_by c past (Some place) None e r in
      let no : legal c past ≡ false = not_legal c past (Some place) refl e in
      cc)
  explain_by None broken None e r f = (no_place c past e, none_wrong c slots past (sym (f refl)))
  explain_by None broken (Some step) e r f = undisciplined step e (f refl)

-- ---- of a file

module _ (slots : Range) (found : JudgedSlots) where
  answer_of : (bytes : List ℕ) → HasHistory (λ c past. HasFound false c slots past found) bytes
      → IsSlotsAnswerOf slots bytes (found_none found.bad.place found.wrong) (found_text found.bad.place found.wrong)
  answer_of bytes h =
      history_then (λ c past. HasFound false c slots past found)
      (λ c past. IsWithin c slots
      × IsSlotsAnswer c slots past (found_none found.bad.place found.wrong) (found_text found.bad.place found.wrong))
      (Some bytes)
      (λ c past is. (is.within, answer_by c slots past found.bad.place found.wrong is.first.place is.wrong)) h

  pub answered : (answer : Bool) (r t v x : Option (List ℕ)) → 1 ≤ slots.blocks → IsAtEnd t
      → IfSome r (HasHistory (λ c past. HasFound false c slots past found))
      → TellsFound found.bad.place found.wrong (Ok answer) v x → ChecksSlots slots (Ok answer) r t v x
  answered answer None t v x some end h told = (some, end, tt)
  answered answer (Some bytes) t v x some end h told = (
    some,
    end,
    (
      found_text found.bad.place found.wrong,
      subst (λ b. IsSlotsAnswerOf slots bytes b (found_text found.bad.place found.wrong)) (sym told.0)
          (answer_of bytes h),
      told.1,
    ),
  )

  pub untold : (fault : RunFault) (r t v x : Option (List ℕ)) → 1 ≤ slots.blocks → IsAtEnd t
      → IfSome r (HasHistory (λ c past. HasFound false c slots past found))
      → TellsFound found.bad.place found.wrong (Err fault) v x → ChecksSlots slots (Err (Run fault)) r t v x
  untold (BadLine n) r t v x some end h told = absurd told
  untold (BadConfig n) r t v x some end h told = absurd told
  untold Input r t v x some end h told = absurd told
  untold Output None t v x some end h told = (some, end, tt)
  untold Output (Some bytes) t v x some end h told =
      let line = found_text found.bad.place found.wrong in
      (some, end, (found_none found.bad.place found.wrong, line, answer_of bytes h, told))
  untold NoMemory r t v x some end h told = absurd told

  pub explained : (r : Option (List ℕ)) → IfSome r (HasHistory (λ c past. HasFound true c slots past found))
      → IfSome r (HasHistory (λ c past. IsWithin c slots
      × IsExplainedSlots c slots past (explained_slots_of found.bad.place found.bad.broken found.wrong)))
  explained r h =
      history_then (λ c past. HasFound true c slots past found)
      (λ c past. IsWithin c slots
      × IsExplainedSlots c slots past (explained_slots_of found.bad.place found.bad.broken found.wrong)) r
      (λ c past is. (
        is.within,
        explain_by c slots past found.bad.place found.bad.broken found.wrong is.first.place (is.first.rule refl)
            is.wrong,
      )) h

-- it wasn't judged, and nothing was written
pub unjudged : (slots : Range) (fault : SlotsFault) (r t v : Option (List ℕ)) → IsUnjudged slots fault r t
    → ChecksSlots slots (Err fault) r t v v
unjudged slots (Run (BadLine n)) r t v h = (h, Keeps-refl v)
unjudged slots (Run (BadConfig n)) r t v h = (h, Keeps-refl v)
unjudged slots (Run Input) r t v h = (h, Keeps-refl v)
unjudged slots (Run Output) r t v h = absurd h.2
unjudged slots (Run NoMemory) r t v h = (h, Keeps-refl v)
unjudged slots NoSlots r t v h = (h, Keeps-refl v)
unjudged slots (Beyond blocks) r t v h = (h, Keeps-refl v)

-- ---- nothing was judged

-- the first line wasn't read
pub first_unread : (slots : Range) (f : RunFault) (r t : Option (List ℕ)) → StopsFirst f r t → HasAreaByThen slots f r
first_unread slots (BadLine n) r t h = λ more. absurd (omega (arith, h, more))
first_unread slots (BadConfig n) r t h = tt
first_unread slots Input r t h = tt
first_unread slots Output r t h = tt
first_unread slots NoMemory r t h = tt

has_area : (slots : Range) (c : ConfigNumbers) (r : Option (List ℕ)) → IsWithin c slots
    → IfSome r (λ bytes. first_config (whole_lines bytes) ≡ Some c) → IfSome r (HasArea slots)
has_area slots c None within known = tt
has_area slots c (Some bytes) within known = (c, known, within)

-- a line behind it wasn't
pub unread_behind : (slots : Range) (f : RunFault) (c : ConfigNumbers) (r : Option (List ℕ)) → IsWithin c slots
    → IfSome r (λ bytes. first_config (whole_lines bytes) ≡ Some c) → HasAreaByThen slots f r
unread_behind slots (BadLine n) c r within known = λ more. has_area slots c r within known
unread_behind slots (BadConfig n) c r within known = tt
unread_behind slots Input c r within known = tt
unread_behind slots Output c r within known = tt
unread_behind slots NoMemory c r within known = tt

-- ---- from what the reading of its lines gave

pub found_in : (why : Bool) (c : ConfigNumbers) (slots kept : Range) (past : Past) (checker : CheckerRun) (count : ℕ)
    (bad : FirstBad) (area : AreaState) (wrong : Option WrongStep) (found : JudgedSlots) → found.bad ≡ bad
    → found.wrong ≡ wrong → slots ≡ kept → IsWithin c slots
    → HasJudgedSlots why c kept past checker count bad area wrong → HasFound why c slots past found
found_in why c slots kept past checker count bad area wrong found e f same within h =
    record {
      within = within;
      first = subst (λ (b : FirstBad). HasFirstBad why c past b) (sym e) h.judged.first;
      wrong = λ none. f ∙ h.first (ap (λ (b : FirstBad). b.place) (sym e) ∙ none)
          ∙ ap (λ (s : Range). first_wrong c s past) (sym same);
    }
