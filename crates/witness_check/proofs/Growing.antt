-- How the text of a trace grows.
use Rattle.std.proofs.Common.{◌≡◌, ℕ, List, [], ◌∷◌, ◌++◌, Option, None, Some, refl, sym, ap, ◌∙◌, map, append_assoc}
use Rattle.std.proofs.Common.{append-nil, drop, get_or, length, subst, take, take-append-drop, ◌+◌, ◌<◌}
use mathlib.Core.List.{reverse}
use Rattle.std.proofs.KnownBytes.{Appends-trans}
use Rattle.std.specs.Io.KnownBytes.{Appends}
use Rattle.std.proofs.lemmas.List.{map-append, reverse-append}
use Rattle.line_text.proofs.Feeds.{feeds_append, feeds_one}
use Rattle.history.specs.ConfigLine.{config_line}
use Rattle.history.specs.Lines.{entry_line}
use Rattle.line_text.specs.Known.{AppendsFront}
use Rattle.line_text.specs.Lines.{with_feeds}
use Rattle.line_text.proofs.Known.{front_at, front_first}
use Rattle.nvme_model.proofs.Beginnings.{earlier}
use Rattle.nvme_model.specs.History.{Past}
use Rattle.nvme_model.specs.Legal.{IsLegal}
use Rattle.nvme_model.specs.declared.config.ConfigNumbers.{ConfigNumbers}
use Rattle.nvme_model.specs.declared.entry.Entry.{Entry}
use Rattle.nvme_model.specs.declared.entry.PublishLine.{PublishLine}
use Rattle.trace.specs.Observed.{observed, shown, with_shown}
use Rattle.trace.specs.declared.seen.Seen.{Seen}
use Rattle.trace.specs.SeenLines.{seen_line}
use Rattle.witness_check.specs.TraceText.{seen_text, trace_text}
use Rattle.witness_check.specs.Seeing.{AreWaitingPayloads}
use Rattle.witness_check.proofs.Comparing.{more_of}

-- no entry
pub text_none : (c : ConfigNumbers) → trace_text c [] ≡ config_line c ++ 10 ∷ []
text_none c = feeds_one (config_line c)

-- one more
pub text_more : (c : ConfigNumbers) (past : Past) (e : Entry)
    → trace_text c (e ∷ past) ≡ trace_text c past ++ seen_text (shown c past e)
text_more c past e = by (shown c past e)
  where
    lines : List Seen → List (List ℕ)
    lines seen = config_line c ∷ map seen_line (reverse seen)

    by : (o : Option Seen)
        → with_feeds (lines (with_shown o (observed c past))) ≡ with_feeds (lines (observed c past)) ++ seen_text o
    by None = sym (append-nil (with_feeds (lines (observed c past))))
    by (Some s) =
        ap (λ (seen : List Seen). with_feeds (config_line c ∷ map seen_line seen))
        (reverse-append (s ∷ []) (observed c past))
        ∙ ap (λ (ls : List (List ℕ)). with_feeds (config_line c ∷ ls))
        (map-append seen_line (reverse (observed c past)) (s ∷ []))
        ∙ feeds_append (lines (observed c past)) (seen_line s ∷ [])
        ∙ ap (λ (l : List ℕ). with_feeds (lines (observed c past)) ++ l) (feeds_one (seen_line s))

-- some more
pub text_later : (c : ConfigNumbers) (later past : Past)
    → (rest : List ℕ) × (trace_text c (later ++ past) ≡ trace_text c past ++ rest)
text_later c [] past = ([], sym (append-nil (trace_text c past)))
text_later c (e ∷ later) past =
    let before = text_later c later past in (
      before.0 ++ seen_text (shown c (later ++ past) e),
      text_more c (later ++ past) e ∙ ap (λ (l : List ℕ). l ++ seen_text (shown c (later ++ past) e)) before.1
          ∙ append_assoc (trace_text c past) before.0 (seen_text (shown c (later ++ past) e)),
    )

-- ---- by places

-- a Publish has its line of a history
pub published_line : (p : PublishLine) → seen_line (Seen.Published p) ≡ entry_line (Entry.Publish p)
unfolding seen_line
published_line p = refl

-- the entries so far, and those behind them
parts : (entries : List Entry) (k : ℕ) → reverse entries ≡ reverse (drop k entries) ++ reverse (take k entries)
parts entries k =
    sym (ap (λ (es : List Entry). reverse es) (take-append-drop k entries))
    ∙ reverse-append (take k entries) (drop k entries)

-- they are legal
pub legal_to : (c : ConfigNumbers) (entries : List Entry) (k : ℕ) → IsLegal c (reverse entries)
    → IsLegal c (reverse (take k entries))
legal_to c entries k h =
    earlier c (reverse (drop k entries)) (reverse (take k entries)) (subst (IsLegal c) (parts entries k) h)

-- what is left of the text
left_at : (c : ConfigNumbers) (entries : List Entry) (k : ℕ)
    → (rest : List ℕ) × (trace_text c (reverse entries) ≡ trace_text c (reverse (take k entries)) ++ rest)
left_at c entries k =
    let later = text_later c (reverse (drop k entries)) (reverse (take k entries)) in
    (later.0, ap (trace_text c) (parts entries k) ∙ later.1)

-- a beginning of the configuration line was written
pub config_stopped : (c : ConfigNumbers) (entries : List Entry) (old new : Option (List ℕ))
    → AppendsFront old new (config_line c ++ 10 ∷ []) → AppendsFront old new (trace_text c (reverse entries))
config_stopped c entries old new h =
    let left = left_at c entries 0 in
    subst (λ (t : List ℕ). AppendsFront old new t)
    (sym (left.1 ∙ ap (λ (l : List ℕ). l ++ left.0) (text_none c)))
    (front_first old new (config_line c ++ 10 ∷ []) left.0 h)

-- it was written whole
pub begun : (c : ConfigNumbers) (old new : Option (List ℕ)) → Appends old new (config_line c ++ 10 ∷ [])
    → Appends old new (trace_text c [])
begun c old new h = subst (λ (t : List ℕ). Appends old new t) (sym (text_none c)) h

-- and nothing behind it
pub begun_alone : (c : ConfigNumbers) (entries : List Entry) (old new : Option (List ℕ))
    → Appends old new (config_line c ++ 10 ∷ []) → AppendsFront old new (trace_text c (reverse entries))
begun_alone c entries old new h =
    let left = left_at c entries 0 in
    record { front = trace_text c []; rest = left.0; whole = left.1; written = begun c old new h }

-- the text of the entries before place k was written
pub stopped_at : (c : ConfigNumbers) (entries : List Entry) (k : ℕ) (old new : Option (List ℕ))
    → Appends old new (trace_text c (reverse (take k entries))) → AppendsFront old new (trace_text c (reverse entries))
stopped_at c entries k old new h =
    let left = left_at c entries k in
    record { front = trace_text c (reverse (take k entries)); rest = left.0; whole = left.1; written = h }

-- the entry at place k
module _ (c : ConfigNumbers) (entries : List Entry) (k : ℕ) (e : Entry) (low : k < length entries)
    (at : e ≡ get_or entries k e) where
  abbrev before : Past
  before = reverse (take k entries)

  pub is_next : reverse (take (k + 1) entries) ≡ e ∷ before
  is_next = more_of entries k e low at

  -- it is legal there
  pub legal_next : IsLegal c (reverse entries) → IsLegal c (e ∷ before)
  legal_next h = subst (IsLegal c) is_next (legal_to c entries (k + 1) h)

  -- what hosts see of it stands next
  next : trace_text c (reverse (take (k + 1) entries)) ≡ trace_text c before ++ seen_text (shown c before e)
  next = ap (trace_text c) is_next ∙ text_more c before e

  pub printed_next : (old mid new : Option (List ℕ)) → Appends old mid (trace_text c before)
      → Appends mid new (seen_text (shown c before e)) → Appends old new (trace_text c (reverse (take (k + 1) entries)))
  printed_next old mid new p h =
      subst (λ (t : List ℕ). Appends old new t) (sym next)
      (Appends-trans old mid new (trace_text c before) (seen_text (shown c before e)) p h)

  pub printed_stopped : (old mid new : Option (List ℕ)) → Appends old mid (trace_text c before)
      → AppendsFront mid new (seen_text (shown c before e)) → AppendsFront old new (trace_text c (reverse entries))
  printed_stopped old mid new p h =
      let left = left_at c entries (k + 1) in
      let whole : trace_text c (reverse entries) ≡ trace_text c before ++ (seen_text (shown c before e) ++ left.0) =
      left.1 ∙ ap (λ (l : List ℕ). l ++ left.0) next
      ∙ append_assoc (trace_text c before) (seen_text (shown c before e)) left.0 in
      front_at old mid new (trace_text c before) (seen_text (shown c before e)) left.0
      (trace_text c (reverse entries)) whole p h

  -- and what waits then
  pub waits_next : (ws : List (List (List ℕ))) → AreWaitingPayloads c (e ∷ before) ws
      → AreWaitingPayloads c (reverse (take (k + 1) entries)) ws
  waits_next ws h = subst (λ (p : Past). AreWaitingPayloads c p ws) (sym is_next) h
