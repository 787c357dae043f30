-- A page of a history, from what the reading of its lines gave.
use Rattle.std.proofs.Common.{◌≡◌, ◌≢◌, ◌∙◌, ◌++◌, ◌∷◌, ℕ, List, None, Some, [], ap, append-nil, append_assoc, inl, inr}
use Rattle.std.proofs.Common.{refl, subst, sym, true}
use Rattle.std.specs.Prelude.{Err, IfSome, Ok, Option}
use Rattle.std.specs.Io.KnownBytes.{Appends, Consumes}
use Rattle.std.proofs.KnownBytes.{Appends-nil}
use Rattle.line_text.specs.Known.{AppendsFront}
use Rattle.line_text.specs.Lines.{whole_lines}
use Rattle.line_text.proofs.Known.{front_first}
use Rattle.nvme_model.specs.History.{Past}
use Rattle.nvme_model.specs.declared.config.ConfigNumbers.{ConfigNumbers}
use Rattle.casdisk_texts.specs.Checked.{HasMade}
use Rattle.casdisk_texts.specs.Explained.{IsExplanation, explained_of}
use Rattle.casdisk_texts.specs.Judged.{HasFirstBad}
use Rattle.casdisk_texts.specs.Running.{Makes, PrintsAll, PrintsFront, Reached, RunsScript, lines_from}
use Rattle.casdisk_texts.specs.Script.{Outcome, ScriptEnd, bad_config, bad_line, cut, first_config, prefixed}
use Rattle.casdisk_texts.specs.Script.{script_outcome}
use Rattle.casdisk_texts.specs.declared.fault.RunFault.{RunFault}
use Rattle.casdisk_texts.specs.declared.fault.RunFault.TheVariants.{BadConfig, BadLine, Input, NoMemory, Output}
use Rattle.casdisk_texts.specs.declared.judging.FirstBad.{FirstBad}
use Rattle.casdisk_texts.proofs.Placing.{explained_by}
use Rattle.picture_svg.specs.WebPage.{headed, page_line, page_outcome}

-- a head stands before each text that has a line
headed_line : (head line rest : List ℕ) → headed head ((line ++ 10 ∷ []) ++ rest) ≡ (head ++ (line ++ 10 ∷ [])) ++ rest
headed_line head [] rest = sym (append_assoc head (10 ∷ []) rest)
headed_line head (b ∷ line) rest = sym (append_assoc head (b ∷ (line ++ 10 ∷ [])) rest)

-- the text and the end of an outcome with another text
abbrev with_text : List ℕ → Outcome → Outcome
with_text text o = record { text = text; end = o.end; past = o.past }

module _ (head : List ℕ) where
  -- nothing was written of what was read
  none_of : (r t w : Option (List ℕ)) (bytes : List ℕ) → Consumes r t bytes
      → PrintsFront (λ input. page_outcome head input) r t w w
  none_of r t w bytes h = (
    bytes,
    h,
    record {
      front = [];
      rest = (page_outcome head bytes).text;
      whole = refl;
      written = Appends-nil w;
    },
  )

  -- where a history prints nothing, its page has no head
  no_text : (bytes : List ℕ) (w : Option (List ℕ))
      → Appends (Some []) (Some []) (script_outcome page_line bytes).text
      → Appends w w (page_outcome head bytes).text
  no_text bytes w h = subst (Appends w w) (ap (headed head) h) (Appends-nil w)

  all_none : (e : ScriptEnd) (r w : Option (List ℕ))
      → PrintsAll (script_outcome page_line) e r (Some []) (Some []) → PrintsAll (page_outcome head) e r w w
  all_none e None w h = tt
  all_none e (Some bytes) w h = (h.0, no_text bytes w h.1)

  -- no first line was read, or it is none
  pub page_stopped : (f : RunFault) (r t w : Option (List ℕ)) → f ≢ Output
      → RunsScript (script_outcome page_line) (Err f) r t (Some []) (Some [])
      → RunsScript (page_outcome head) (Err f) r t w w
  page_stopped (BadLine n) r t w other (inl h) = inl (all_none (bad_line n) r w h)
  page_stopped (BadLine n) r t w other (inr h) = inr (all_none (cut n) r w h)
  page_stopped (BadConfig n) r t w other h = all_none (bad_config n) r w h
  page_stopped Input r t w other h = (h.0, h.1, h.2, no_text h.0 w h.3)
  page_stopped Output r t w other h = absurd (other refl)
  page_stopped NoMemory r t w other h = none_of r t w h.0 h.1

  module _ (c : ConfigNumbers) (r t : Option (List ℕ)) (line after : List ℕ)
      (at : Reached (script_outcome page_line) (page_line c) [] 2 r t (Some []) (Some (line ++ 10 ∷ [])) after) where
    agrees : (more : List ℕ)
        → page_outcome head (at.bytes ++ more)
        ≡ prefixed (head ++ (line ++ 10 ∷ [])) (lines_from (page_line c) [] 2 after more)
    agrees more =
        let follows = lines_from (page_line c) [] 2 after more in
        let is : script_outcome page_line (at.bytes ++ more) ≡ prefixed (line ++ 10 ∷ []) follows =
        at.agrees more ∙ ap (λ l. prefixed l follows) (sym at.written) in
        ap (λ (o : Outcome). with_text (headed head o.text) o) is
        ∙ ap (λ l. with_text l follows) (headed_line head line follows.text)

    -- a beginning of the head and of the first line was written
    pub page_front : (w u : Option (List ℕ)) → AppendsFront w u (head ++ (line ++ 10 ∷ []))
        → PrintsFront (page_outcome head) r t w u
    page_front w u h =
        let text = ap (λ l. (page_outcome head l).text) (sym (append-nil at.bytes))
        ∙ ap (λ (o : Outcome). o.text) (agrees []) in (
          at.bytes,
          at.consumed,
          subst (AppendsFront w u) (sym text) (front_first w u (head ++ (line ++ 10 ∷ [])) _ h),
        )

    -- both were
    pub page_begun : (w u : Option (List ℕ)) → Appends w u (head ++ (line ++ 10 ∷ []))
        → Reached (page_outcome head) (page_line c) [] 2 r t w u after
    page_begun w u h = record {
      bytes = at.bytes;
      consumed = at.consumed;
      out = head ++ (line ++ 10 ∷ []);
      written = h;
      agrees = agrees;
    }

  -- what was judged of all lines explains their history
  pub page_explained : (c : ConfigNumbers) (bad : FirstBad) (r : Option (List ℕ))
      → IfSome r (λ bytes. first_config (whole_lines bytes) ≡ Some c)
      → Makes (page_outcome head) (Ok tt) r (λ past. HasFirstBad true c past bad)
      → IfSome r (HasMade page_line (λ d past. IsExplanation d past (explained_of bad.place bad.broken)))
  page_explained c bad None known h = tt
  page_explained c bad (Some bytes) known h =
      (c, known, explained_by c (script_outcome page_line bytes).past bad.place bad.broken h.place (h.rule refl))

-- what follows from what stands behind lines stands there too
pub makes_then : (outcome : List ℕ → Outcome) (P Q : Past → Type 0) (r : Option (List ℕ))
    → ((past : Past) → P past → Q past) → Makes outcome (Ok tt) r P → Makes outcome (Ok tt) r Q
makes_then outcome P Q None f h = tt
makes_then outcome P Q (Some bytes) f h = f (outcome bytes).past h
