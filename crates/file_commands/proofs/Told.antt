-- What is said of the text of a trace, from what the reading of its lines gave.
use Rattle.std.proofs.Common.{◌≡◌, ℕ, List, None, Some, sym, subst}
use Rattle.std.specs.Prelude.{IfSome, Option, Result, Ok, Err}
use Rattle.std.specs.Io.KnownBytes.{IsAtEnd}
use Rattle.std.proofs.KnownBytes.{Keeps-refl}
use Rattle.nvme_model.specs.declared.config.ConfigNumbers.{ConfigNumbers}
use Rattle.trace.specs.Aside.{history_numbers}
use Rattle.trace.specs.declared.options.TraceOptions.{TraceOptions}
use Rattle.trace.specs.declared.seen.Seen.{Seen}
use Rattle.casdisk_texts.specs.Traces.{HasTrace, IsTraceUnread, options_of}
use Rattle.casdisk_texts.specs.declared.fault.RunFault.{RunFault}
use Rattle.casdisk_texts.specs.declared.fault.RunFault.TheVariants.{BadConfig, BadLine, Input, NoMemory, Output}
use Rattle.file_commands.specs.Observing.{AnswersTrace, ObservesText}
use Rattle.file_commands.specs.declared.answer.TraceAnswer.{TraceAnswer}

-- the lines were not all read, and nothing was written
pub unread : (f : RunFault) (t left v w : Option (List ℕ)) → IsTraceUnread f t left
    → ObservesText (Err f) t left v v w w
unread (BadLine n) t left v w h = (h, Keeps-refl v, Keeps-refl w)
unread (BadConfig n) t left v w h = (h, Keeps-refl v, Keeps-refl w)
unread Input t left v w h = (h, Keeps-refl v, Keeps-refl w)
unread Output t left v w h = tt
unread NoMemory t left v w h = Keeps-refl w

module _ (o : TraceOptions) (b c : ConfigNumbers) (things : List Seen) where
  -- the trace is this one
  abbrev pub IsTrace : List ℕ → Type 0
  IsTrace = HasTrace (λ p k xs. (p ≡ o) × (k ≡ b) × (xs ≡ things) × (c ≡ history_numbers p k))

  -- what holds of what was read holds of the trace
  pub has_trace : (P : TraceOptions → ConfigNumbers → List Seen → Type 0) (t : Option (List ℕ)) → IfSome t IsTrace
      → P o c things → IfSome t (HasTrace (λ p k xs. P p (history_numbers p k) xs))
  has_trace P None read holds = tt
  has_trace P (Some t) read holds =
      let one = subst (λ (k : ConfigNumbers). P o k things) read.1.2.3 holds in
      let two = subst (λ (p : TraceOptions). P p (history_numbers (options_of t) read.1.0) things)
      (sym read.1.2.0) one in (
        read.0,
        (
          read.1.0,
          read.1.1,
          subst (λ (xs : List Seen). P (options_of t) (history_numbers (options_of t) read.1.0) xs)
              (sym read.1.2.2) two,
        ),
      )

  -- all lines were read, and this was answered on what they say
  pub told : (res : Result TraceAnswer RunFault) (t left v x w y : Option (List ℕ)) → IsAtEnd left × IfSome t IsTrace
      → AnswersTrace o c things res v x w y → ObservesText res t left v x w y
  told (Ok answer) t left v x w y read answered =
      (read.0, has_trace (λ p k xs. AnswersTrace p k xs (Ok answer) v x w y) t read.1 answered)
  told (Err Output) t left v x w y read answered = tt
  told (Err NoMemory) t left v x w y read answered = answered
  told (Err Input) t left v x w y read answered = absurd answered
  told (Err (BadLine n)) t left v x w y read answered = absurd answered
  told (Err (BadConfig n)) t left v x w y read answered = absurd answered
