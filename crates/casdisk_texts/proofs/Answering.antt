-- What is said of a file, from what the reading of its lines gave.
use Rattle.std.proofs.Common.{◌≡◌, ◌≢◌, ℕ, Bool, List, [], None, Some, true, false, inl, inr, refl, sym, subst}
use Rattle.std.specs.Prelude.{IfSome, Option, Result, Ok, Err, is_none}
use Rattle.std.specs.Io.KnownBytes.{IsAtEnd}
use Rattle.std.proofs.KnownBytes.{Keeps-refl}
use Rattle.line_text.specs.Lines.{GivesFront, whole_lines}
use Rattle.line_text.specs.declared.lines.ReadFault.{ReadFault}
use Rattle.nvme_model.specs.History.{Past}
use Rattle.nvme_model.specs.declared.config.ConfigNumbers.{ConfigNumbers}
use Rattle.casdisk_texts.specs.Entries.{IsReadTo, StopsBehind}
use Rattle.casdisk_texts.specs.Explained.{IsExplanation, explained_of}
use Rattle.casdisk_texts.specs.Fault.{fault_of_read}
use Rattle.casdisk_texts.specs.Files.{ChecksText, HasHistory, IsAnswerOf, IsUnread, entry_added, file_of}
use Rattle.casdisk_texts.specs.Judged.{HasFirstBad, TellsAnswer, answer_text}
use Rattle.casdisk_texts.specs.Running.{RunsScript}
use Rattle.casdisk_texts.specs.Script.{IsOpenEnd, Outcome, bad_config, bad_line, cut, done, first_config}
use Rattle.casdisk_texts.specs.Script.{script_outcome}
use Rattle.casdisk_texts.specs.declared.fault.RunFault.{RunFault}
use Rattle.casdisk_texts.specs.declared.fault.RunFault.TheVariants.{BadLine, BadConfig, Input, Output, NoMemory}
use Rattle.casdisk_texts.specs.declared.judging.FirstBad.{FirstBad}
use Rattle.casdisk_texts.proofs.Placing.{answered_by, explained_by}
use Rattle.casdisk_texts.proofs.Reaching.{at_lost, end_is}

-- ---- the lines weren't all read

pub unread : (f : RunFault) (r t w u : Option (List ℕ)) → f ≢ Output
    → RunsScript (script_outcome (λ c. entry_added)) (Err f) r t w u → IsUnread f r t
unread (BadLine n) r t w u other (inl h) = inl (end_is file_of (bad_line n) r w u h)
unread (BadLine n) r t w u other (inr h) = inr (end_is file_of (cut n) r w u h)
unread (BadConfig n) r t w u other h = end_is file_of (bad_config n) r w u h
unread Input r t w u other h = (h.0, h.1, h.2)
unread Output r t w u other h = absurd (other refl)
unread NoMemory r t w u other h = tt

-- the next line wasn't read
pub lost : (past : Past) (n : ℕ) (r s t : Option (List ℕ)) (held : List ℕ) → IsReadTo past n r s held → (f : ReadFault)
    (after line : List ℕ) → GivesFront s t held after line → (f ≡ ReadFault.Input → after ≡ [])
    → StopsBehind past (fault_of_read f) r t
lost past n r s t held at ReadFault.Input after line g none =
    let x = at_lost file_of entry_added past n r s t None None held at
    (λ (o : Outcome). IsOpenEnd o.end × (o.past ≡ past)) after line g (none refl) (λ e is. (is, refl)) in
    (x.0, x.1, x.2.0, x.2.1)
lost past n r s t held at ReadFault.NoMemory after line g none = tt

pub stopped : (past : Past) (f : RunFault) (r t : Option (List ℕ)) → StopsBehind past f r t → IsUnread f r t
stopped past (BadLine n) None t h = inl tt
stopped past (BadLine n) (Some bytes) t h = h.0
stopped past (BadConfig n) r t h = absurd h
stopped past Input r t h = (h.0, h.1, h.2)
stopped past Output r t h = absurd h
stopped past NoMemory r t h = tt

pub unsaid : (f : RunFault) (r t v : Option (List ℕ)) → IsUnread f r t → ChecksText (Err f) r t v v
unsaid (BadLine n) r t v h = (h, Keeps-refl v)
unsaid (BadConfig n) r t v h = (h, Keeps-refl v)
unsaid Input r t v h = (h, Keeps-refl v)
unsaid Output r t v h = absurd h
unsaid NoMemory r t v h = (h, Keeps-refl v)

-- ---- they were

-- what holds of the configuration and of the entries holds of the file
pub has_history : (c : ConfigNumbers) (past : Past) (Holds : ConfigNumbers → Past → Type 0) (r : Option (List ℕ))
    → IfSome r (λ bytes. first_config (whole_lines bytes) ≡ Some c)
    → IfSome r (λ bytes. ((file_of bytes).end ≡ done) × ((file_of bytes).past ≡ past)) → Holds c past
    → IfSome r (HasHistory Holds)
has_history c past Holds None known h holds = tt
has_history c past Holds (Some bytes) known h holds = (h.0, (c, known, subst (Holds c) (sym h.1) holds))

-- what follows from what holds of them holds too
pub history_then : (P Q : ConfigNumbers → Past → Type 0) (r : Option (List ℕ))
    → ((c : ConfigNumbers) (past : Past) → P c past → Q c past) → IfSome r (HasHistory P) → IfSome r (HasHistory Q)
history_then P Q None f h = tt
history_then P Q (Some bytes) f h = (h.0, (h.1.0, h.1.1, f h.1.0 (file_of bytes).past h.1.2))

module _ (bad : FirstBad) where
  pub explained : (r : Option (List ℕ)) → IfSome r (HasHistory (λ c past. HasFirstBad true c past bad))
      → IfSome r (HasHistory (λ c past. IsExplanation c past (explained_of bad.place bad.broken)))
  explained r h =
      history_then (λ c past. HasFirstBad true c past bad)
      (λ c past. IsExplanation c past (explained_of bad.place bad.broken)) r
      (λ c past is. explained_by c past bad.place bad.broken is.place (is.rule refl)) h

  answer_of : (bytes : List ℕ) → HasHistory (λ c past. HasFirstBad false c past bad) bytes
      → IsAnswerOf bytes (is_none bad.place) (answer_text bad.place)
  answer_of bytes h = (h.0, (h.1.0, h.1.1, answered_by h.1.0 (file_of bytes).past bad.place h.1.2.place))

  pub answered : (res : Result Bool RunFault) (r t v x : Option (List ℕ)) → IsAtEnd t
      → IfSome r (HasHistory (λ c past. HasFirstBad false c past bad)) → TellsAnswer bad.place res v x
      → ChecksText res r t v x
  answered (Ok answer) None t v x end h told = (end, tt)
  answered (Ok answer) (Some bytes) t v x end h told = (
    end,
    (
      answer_text bad.place,
      subst (λ b. IsAnswerOf bytes b (answer_text bad.place)) (sym told.0) (answer_of bytes h),
      told.1,
    ),
  )
  answered (Err (BadLine n)) r t v x end h told = absurd told
  answered (Err (BadConfig n)) r t v x end h told = absurd told
  answered (Err Input) r t v x end h told = absurd told
  answered (Err Output) None t v x end h told = tt
  answered (Err Output) (Some bytes) t v x end h told =
      (is_none bad.place, answer_text bad.place, answer_of bytes h, told)
  answered (Err NoMemory) r t v x end h told = absurd told
