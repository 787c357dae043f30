-- What is said of a trace and a history, from what the reading of their lines gave.
use Rattle.std.proofs.Common.{◌≡◌, ◌≢◌, ℕ, List, [], ◌∷◌, ◌++◌, None, Some, refl, sym, ap, ◌∙◌, subst}
use mathlib.Core.List.{reverse}
use Rattle.std.specs.Prelude.{Bool, IfErr, IfOk, IfSome, Option, Result, Ok, Err}
use Rattle.std.specs.Io.KnownBytes.{Appends, IsAtEnd}
use Rattle.std.proofs.KnownBytes.{Keeps-refl}
use Rattle.std.proofs.lemmas.List.{reverse-append, reverse-reverse}
use Rattle.nvme_model.specs.History.{Past}
use Rattle.nvme_model.specs.declared.config.ConfigNumbers.{ConfigNumbers}
use Rattle.nvme_model.specs.declared.entry.Entry.{Entry}
use Rattle.trace.specs.Aside.{history_numbers}
use Rattle.trace.specs.declared.options.TraceOptions.{TraceOptions}
use Rattle.trace.specs.declared.seen.Seen.{Seen}
use Rattle.witness_check.specs.declared.comparison.TraceVerdict.{TraceVerdict}
use Rattle.line_text.specs.Known.{AppendsFront}
use Rattle.casdisk_texts.specs.Certified.{CertifiesText, GivesVerdict, HasTextVerdict, HaveOtherConfigs, IsUncompared}
use Rattle.casdisk_texts.specs.Certified.{IsUnsaid, IsVerdictAs, IsVerdictOf, TellsVerdict, explains, verdict_text}
use Rattle.casdisk_texts.specs.declared.logged.Logged.{Logged}
use Rattle.casdisk_texts.specs.Files.{HasHistory, IsUnread, file_of}
use Rattle.casdisk_texts.specs.Traces.{HasTrace, options_of, trace_in}
use Rattle.casdisk_texts.specs.declared.certify_fault.CertifyFault.{CertifyFault}
use Rattle.casdisk_texts.specs.declared.certify_fault.CertifyFault.TheVariants.{History, OtherConfig, Output, Trace}
use Rattle.casdisk_texts.specs.declared.fault.RunFault.{RunFault}

-- ---- the history

-- one entry more
pub entry_more : (entries : List Entry) (e : Entry) (past : Past) → entries ≡ reverse past
    → entries ++ e ∷ [] ≡ reverse (e ∷ past)
entry_more entries e past h = ap (λ (xs : List Entry). xs ++ e ∷ []) h ∙ sym (reverse-append (e ∷ []) past)

-- ---- both were read

module _ (logged : Logged) (o : TraceOptions) (b c d : ConfigNumbers) (things : List Seen) (entries : List Entry) where
  -- the trace is this one
  abbrev IsTrace : List ℕ → Type 0
  IsTrace = HasTrace (λ p k xs. (p ≡ o) × (k ≡ b) × (xs ≡ things) × (c ≡ history_numbers p k))

  -- the history is this one
  abbrev IsHistory : List ℕ → Type 0
  IsHistory = HasHistory (λ k past. (k ≡ d) × (entries ≡ reverse past))

  -- the configuration of a history of the trace
  of_trace : (t : List ℕ) → (trace : IsTrace t) → history_numbers (options_of t) trace.1.0 ≡ c
  of_trace t trace = sym trace.1.2.3

  verdict_of : (v : TraceVerdict) (t h : List ℕ) → IsTrace t → IsHistory h → c ≡ d
      → IsVerdictAs logged o c (reverse entries) things v
      → IsVerdictOf logged v t h
  verdict_of v t h trace history same says =
      let whole : reverse entries ≡ (file_of h).past = ap reverse history.1.2.1 ∙ reverse-reverse (file_of h).past in
      let one = subst (λ (k : ConfigNumbers). IsVerdictAs logged o k (reverse entries) things v)
      (same ∙ sym history.1.2.0) says in
      let two = subst (λ (xs : List Seen). IsVerdictAs logged o history.1.0 (reverse entries) xs v)
      (sym trace.1.2.2) one in
      let three = subst (λ (past : Past). IsVerdictAs logged o history.1.0 past (trace_in t) v) whole two in
      let four = subst (λ (p : TraceOptions). IsVerdictAs logged p history.1.0 (file_of h).past (trace_in t) v)
      (sym trace.1.2.0) three in (
        trace.0,
        (
          trace.1.0,
          trace.1.1,
          (history.0, (history.1.0, history.1.1, (of_trace t trace ∙ same ∙ sym history.1.2.0, four))),
        ),
      )

  has_verdict : (v : TraceVerdict) (Holds : TraceVerdict → Type 0) (t h : Option (List ℕ)) → IfSome t IsTrace
      → IfSome h IsHistory → c ≡ d → IsVerdictAs logged o c (reverse entries) things v → Holds v
      → HasTextVerdict logged Holds t h
  has_verdict v Holds None h trace history same says holds = tt
  has_verdict v Holds (Some t) None trace history same says holds = tt
  has_verdict v Holds (Some t) (Some h) trace history same says holds =
      (v, verdict_of v t h trace history same says, holds)

  two_configs : (t h : Option (List ℕ)) → IfSome t IsTrace → IfSome h IsHistory → c ≢ d
      → IfSome t (λ y. IfSome h (λ x. HaveOtherConfigs y x))
  two_configs None h trace history other = tt
  two_configs (Some t) None trace history other = tt
  two_configs (Some t) (Some h) trace history other = (
    trace.1.0,
    history.1.0,
    trace.1.1,
    history.1.1,
    λ e. other (sym (of_trace t trace) ∙ e ∙ history.1.2.0),
  )

  -- nothing is said
  uncertified : (f : CertifyFault) (t u h l : Option (List ℕ)) → IfSome t IsTrace → IfSome h IsHistory
      → IsUncompared c d f → IsUnsaid f t u h l
  uncertified (Trace f) t u h l trace history failed = absurd failed
  uncertified (History f) t u h l trace history failed = subst (λ (g : RunFault). IsUnread g h l) (sym failed) tt
  uncertified OtherConfig t u h l trace history failed = two_configs t h trace history failed
  uncertified Output t u h l trace history failed = absurd failed

  -- the verdict, or why there is none
  pub given : (r : Result TraceVerdict CertifyFault) (t u h l : Option (List ℕ)) → IsAtEnd u × IfSome t IsTrace
      → IsAtEnd l × IfSome h IsHistory → IfOk r (λ v. (c ≡ d) × IsVerdictAs logged o c (reverse entries) things v)
      → IfErr r (IsUncompared c d) → GivesVerdict logged r t u h l
  given (Ok v) t u h l trace history says failed =
      (trace.0, history.0, has_verdict v (λ w. w ≡ v) t h trace.1 history.1 says.0 says.1 refl)
  given (Err f) t u h l trace history says failed = uncertified f t u h l trace.1 history.1 failed

-- ---- the verdict is told

module _ (logged : Logged) where
  -- what follows of a verdict
  verdict_then : (P Q : TraceVerdict → Type 0) → ((v : TraceVerdict) → P v → Q v) → (t h : Option (List ℕ))
      → HasTextVerdict logged P t h → HasTextVerdict logged Q t h
  verdict_then P Q f None h x = tt
  verdict_then P Q f (Some t) None x = tt
  verdict_then P Q f (Some t) (Some h) x = (x.0, x.1, f x.0 x.2)

  pub told : (v : TraceVerdict) (res : Result Bool CertifyFault) (t u h l x y : Option (List ℕ))
      → GivesVerdict logged (Ok v) t u h l → TellsVerdict v res x y → CertifiesText logged res t u h l x y
  told v (Ok answer) t u h l x y gives tells =
      let Told : TraceVerdict → Type 0 = λ w. (answer ≡ explains w) × Appends x y (verdict_text w) in
      (gives.0, gives.1, verdict_then (λ w. w ≡ v) Told (λ w is. subst Told (sym is) tells) t h gives.2)
  told v (Err (Trace f)) t u h l x y gives tells = absurd tells
  told v (Err (History f)) t u h l x y gives tells = absurd tells
  told v (Err OtherConfig) t u h l x y gives tells = absurd tells
  told v (Err Output) t u h l x y gives tells =
      let Told : TraceVerdict → Type 0 = λ w. AppendsFront x y (verdict_text w) in
      verdict_then (λ w. w ≡ v) Told (λ w is. subst Told (sym is) tells) t h gives.2

  -- or nothing is
  pub untold : (f : CertifyFault) (t u h l x : Option (List ℕ)) → GivesVerdict logged (Err f) t u h l
      → CertifiesText logged (Err f) t u h l x x
  untold (Trace f) t u h l x gives = (gives, Keeps-refl x)
  untold (History f) t u h l x gives = (gives, Keeps-refl x)
  untold OtherConfig t u h l x gives = (gives, Keeps-refl x)
  untold Output t u h l x gives = absurd gives
