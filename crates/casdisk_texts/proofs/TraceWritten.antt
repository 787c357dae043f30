-- What is written of the text of a history whose trace is asked for.
use Rattle.std.proofs.Common.{◌≡◌, Bool, List, Ok, Err, Option, Result, ap, false, inl, inr, subst, sym}
use Rattle.std.proofs.Common.{ℕ, ◌∙◌}
use mathlib.Core.List.{reverse}
use Rattle.std.proofs.lemmas.List.{reverse-reverse}
use Rattle.std.proofs.KnownBytes.{Keeps-refl}
use Rattle.std.specs.Io.KnownBytes.{IsAtEnd}
use Rattle.std.specs.Prelude.{IfSome}
use Rattle.nvme_model.specs.FirstBad.{IsFirstBad}
use Rattle.nvme_model.specs.History.{Past}
use Rattle.nvme_model.specs.declared.config.ConfigNumbers.{ConfigNumbers}
use Rattle.nvme_model.specs.declared.entry.Entry.{Entry}
use Rattle.casdisk_texts.specs.Files.{HasHistory, IsUnread}
use Rattle.casdisk_texts.specs.Tracing.{TracesText, WritesTrace, WritesTraceOf}
use Rattle.casdisk_texts.specs.declared.fault.RunFault.{RunFault}
use Rattle.casdisk_texts.specs.declared.fault.RunFault.TheVariants.{BadConfig, BadLine, Input, NoMemory, Output}
use Rattle.casdisk_texts.proofs.Answering.{history_then}

-- not all lines were read
pub untraced : (f : RunFault) (input left w : Option (List ℕ)) → IsUnread f input left
    → TracesText (Err f) input left w w
untraced (BadLine n) input left w h = (h, Keeps-refl w)
untraced (BadConfig n) input left w h = (h, Keeps-refl w)
untraced Input input left w h = (h, Keeps-refl w)
untraced Output input left w h = absurd h
untraced NoMemory input left w h = inl (Keeps-refl w)

-- what was answered of the entries that were read is answered of the text
traced_of : (told : Result Bool RunFault) (c : ConfigNumbers) (es : List Entry) (input old new : Option (List ℕ))
    → IfSome input (HasHistory (λ d past. (d ≡ c) × (es ≡ reverse past)))
    → WritesTrace c (reverse es) told old new → WritesTraceOf told input old new
traced_of told c es input old new h w =
    history_then (λ d past. (d ≡ c) × (es ≡ reverse past)) (λ d past. WritesTrace d past told old new) input
    (λ d past read.
    let same : reverse es ≡ past = ap (λ (l : List Entry). reverse l) read.1 ∙ reverse-reverse past in
    subst (λ (k : ConfigNumbers). WritesTrace k past told old new) (sym read.0)
    (subst (λ (p : Past). WritesTrace c p told old new) same w)) h

pub traced : (told : Result Bool RunFault) (c : ConfigNumbers) (es : List Entry)
    (input left old new : Option (List ℕ)) → IsAtEnd left
    → IfSome input (HasHistory (λ d past. (d ≡ c) × (es ≡ reverse past)))
    → WritesTrace c (reverse es) told old new → TracesText told input left old new
traced (Ok answer) c es input left old new end h w = (end, traced_of (Ok answer) c es input old new h w)
traced (Err Output) c es input left old new end h w = traced_of (Err Output) c es input old new h w
traced (Err NoMemory) c es input left old new end h w = inr (traced_of (Err NoMemory) c es input old new h w)
traced (Err (BadLine n)) c es input left old new end h w = absurd w
traced (Err (BadConfig n)) c es input left old new end h w = absurd w
traced (Err Input) c es input left old new end h w = absurd w

-- one that isn't legal
pub unwritten : (c : ConfigNumbers) (es : List Entry) (place : ℕ) (w : Option (List ℕ)) → IsFirstBad c es place
    → WritesTrace c (reverse es) (Ok false) w w
unwritten c es place w h = (
  place,
  subst (λ (l : List Entry). IsFirstBad c l place) (sym (reverse-reverse es)) h,
  Keeps-refl w,
)
