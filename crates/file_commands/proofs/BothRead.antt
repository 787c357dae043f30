-- What is said of the texts of a trace and of what is said to refute it, from what the reading of both gave.
use Rattle.std.proofs.Common.{◌≡◌, Bool, List, None, Some, sym, subst, ℕ}
use Rattle.std.specs.Prelude.{Err, IfSome, Ok, Option, Result}
use Rattle.std.specs.Io.KnownBytes.{Appends, IsAtEnd}
use Rattle.line_text.specs.Known.{AppendsFront}
use Rattle.nvme_model.specs.declared.config.ConfigNumbers.{ConfigNumbers}
use Rattle.trace.specs.declared.options.TraceOptions.{TraceOptions}
use Rattle.trace.specs.declared.seen.Seen.{Seen}
use Rattle.trace.specs.Aside.{history_numbers}
use Rattle.casdisk_texts.specs.Traces.{HasTrace, IsTraceUnread}
use Rattle.casdisk_texts.specs.declared.fault.RunFault.{RunFault}
use Rattle.refutation.specs.Refutations.{Refutation as Certificate}
use Rattle.file_commands.proofs.Told.{IsTrace, has_trace}
use Rattle.file_commands.specs.Refuting.{HasRefutation, RefutesAs, RefutesTrace, TellsRefuted, refute_line}
use Rattle.file_commands.specs.Refuting.{verdict_of}
use Rattle.file_commands.specs.declared.refute_fault.RefuteFault.{RefuteFault}
use Rattle.file_commands.specs.declared.refute_fault.RefuteFault.TheVariants.{Output, Refutation, Trace}

module _ (json : Bool) (o : TraceOptions) (b c : ConfigNumbers) (things : List Seen) (r : Certificate) where
  -- the text says this refutation
  abbrev IsSaid : List ℕ → Type 0
  IsSaid = HasRefutation (λ s. s ≡ r)

  -- what holds of what was read holds of both texts
  has_both : (P : TraceOptions → ConfigNumbers → List Seen → Certificate → Type 0) (t x : Option (List ℕ))
      → IfSome t (IsTrace o b c things) → IfSome x IsSaid → P o c things r
      → IfSome t (λ y. IfSome x (λ z. HasTrace (λ p k xs. HasRefutation (P p (history_numbers p k) xs) z) y))
  has_both P None x read said holds = tt
  has_both P (Some t) None read said holds = tt
  has_both P (Some t) (Some x) read said holds =
      has_trace o b c things (λ p k xs. HasRefutation (P p k xs) x) (Some t) read
      (said.0, said.1, subst (P o c things) (sym said.2) holds)

  -- both were read, and this was answered on what they say
  pub refuted : (answer : Bool) (res : Result Bool RefuteFault) (t u x l v w : Option (List ℕ))
      → IsAtEnd u × IfSome t (IsTrace o b c things) → IsAtEnd l × IfSome x IsSaid → RefutesTrace o c things r answer
      → TellsRefuted json (verdict_of answer things r) answer res v w → RefutesAs json res t u x l v w
  refuted answer (Ok a) t u x l v w read said holds told = (
    read.0,
    said.0,
    has_both
        (λ p k xs s. RefutesTrace p k xs s a × Appends v w (refute_line json (verdict_of a xs s))) t x read.1 said.1
        (subst (λ (d : Bool). RefutesTrace o c things r d × Appends v w (refute_line json (verdict_of d things r)))
        (sym told.0) (holds, told.1)),
  )
  refuted answer (Err Output) t u x l v w read said holds told =
      has_both
      (λ p k xs s. (d : Bool) × RefutesTrace p k xs s d × AppendsFront v w (refute_line json (verdict_of d xs s)))
      t x read.1 said.1 (answer, holds, told)
  refuted answer (Err (Trace f)) t u x l v w read said holds told =
      (subst (λ (g : RunFault). IsTraceUnread g t u) (sym told.0) tt, told.1)
  refuted answer (Err (Refutation f)) t u x l v w read said holds told = absurd told
