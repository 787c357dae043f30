-- The first line of a script.
use Rattle.std.proofs.Common.{◌≡◌, ℕ, List, [], ◌∷◌, ◌++◌, None, Some, refl, sym, ap, ◌∙◌, subst, append-nil}
use Rattle.std.specs.Prelude.{IfSome, Option, Err}
use Rattle.std.specs.Io.KnownBytes.{Appends, Consumes, IsAtEnd}
use Rattle.std.proofs.KnownBytes.{Consumes-whole, Appends-nil}
use Rattle.line_text.specs.Known.{AppendsFront}
use Rattle.line_text.specs.Lines.{NoFeed, GivesBytes, GivesFront, whole_lines, rest_line}
use Rattle.line_text.proofs.Known.{front_first, known_input}
use Rattle.line_text.proofs.LineLaws.{whole_is_first, rest_is_last}
use Rattle.nvme_model.specs.Config.{config_fault, config_fault_number}
use Rattle.nvme_model.specs.declared.config.ConfigFault.{ConfigFault}
use Rattle.nvme_model.specs.declared.config.ConfigNumbers.{ConfigNumbers}
use Rattle.history.specs.ConfigLine.{config_in}
use Rattle.casdisk_texts.specs.Meaning.{Meaning}
use Rattle.casdisk_texts.specs.Script.{Outcome, ScriptEnd, IsOpenEnd, bad_line, bad_config, cut, ending, prefixed}
use Rattle.casdisk_texts.specs.Script.{after_numbers, after_config, first_config, script_prints, lines_print}
use Rattle.casdisk_texts.specs.Script.{script_outcome}
use Rattle.line_text.specs.declared.lines.ReadFault.{ReadFault}
use Rattle.casdisk_texts.specs.Fault.{fault_of_read}
use Rattle.casdisk_texts.specs.Running.{lines_from, PrintsAll, PrintsFront, PrintsRead, Reached, RunsScript}
use Rattle.casdisk_texts.proofs.Reaching.{runs_unread}

module _ (meaning : ConfigNumbers → Meaning) where
  no_config : (line : List ℕ) (lines : List (List ℕ)) (rest : List ℕ) → config_in line ≡ None
      → script_prints meaning (line ∷ lines) rest ≡ ending (bad_line 1) []
  unfolding script_prints
  no_config line lines rest e = ap (λ o. after_config line o (λ c. lines_print (meaning c) [] 2 lines rest)) e

  wrong_config : (line : List ℕ) (lines : List (List ℕ)) (rest : List ℕ) (c : ConfigNumbers) (f : ConfigFault)
      → config_in line ≡ Some c → config_fault c ≡ Some f
      → script_prints meaning (line ∷ lines) rest ≡ ending (bad_config (config_fault_number f)) []
  unfolding script_prints
  wrong_config line lines rest c f e h =
      ap (λ o. after_config line o (λ d. lines_print (meaning d) [] 2 lines rest)) e
      ∙ ap (λ o. after_numbers line o (lines_print (meaning c) [] 2 lines rest)) h

  right_config : (line : List ℕ) (lines : List (List ℕ)) (rest : List ℕ) (c : ConfigNumbers) → config_in line ≡ Some c
      → config_fault c ≡ None
      → script_prints meaning (line ∷ lines) rest ≡ prefixed (line ++ 10 ∷ []) (lines_print (meaning c) [] 2 lines rest)
  unfolding script_prints
  right_config line lines rest c e h =
      ap (λ o. after_config line o (λ d. lines_print (meaning d) [] 2 lines rest)) e
      ∙ ap (λ o. after_numbers line o (lines_print (meaning c) [] 2 lines rest)) h

  pub no_lines : (rest : List ℕ) → script_prints meaning [] rest ≡ ending (cut 1) []
  unfolding script_prints
  no_lines rest = refl

  -- nothing was written of what was read
  pub unwritten : (r t w : Option (List ℕ)) (bytes : List ℕ) → Consumes r t bytes
      → PrintsFront (λ input. script_outcome meaning input) r t w w
  unwritten r t w bytes h = (
    bytes,
    h,
    record {
      front = [];
      rest = (script_outcome meaning bytes).text;
      whole = refl;
      written = Appends-nil w;
    },
  )

  -- no line was read, so there is no text
  pub none_first : (r t w : Option (List ℕ)) (after line : List ℕ) → GivesFront r t [] after line → after ≡ []
      → PrintsRead (λ input. script_outcome meaning input) r t w w
  none_first r t w after line g none =
      let bytes = g.0.bytes in
      let last = rest_is_last r t [] after line g.0 g.1 none in
      let is : script_outcome meaning bytes ≡ ending (cut 1) [] =
      ap (λ l. script_prints meaning l (rest_line bytes)) last.0
      ∙ no_lines (rest_line bytes) in (
        bytes,
        g.0.consumed,
        subst (λ (o : Outcome). IsOpenEnd o.end) (sym is) tt,
        subst (Appends w w) (sym (ap (λ (o : Outcome). o.text) is)) (Appends-nil w),
      )

  pub lost_first : (f : ReadFault) (r t w : Option (List ℕ)) (after line : List ℕ) → GivesFront r t [] after line
      → (f ≡ ReadFault.Input → after ≡ [])
      → RunsScript (λ input. script_outcome meaning input) (Err (fault_of_read f)) r t w w
  lost_first f r t w after line h none =
      runs_unread (λ input. script_outcome meaning input) f r t w w (λ e. none_first r t w after line h (none e))
      (unwritten r t w h.0.bytes h.0.consumed)

  pub ends_first : (r t w : Option (List ℕ)) (after line : List ℕ) → GivesBytes r t [] after line → NoFeed line
      → after ≡ []
      → IsAtEnd t → PrintsAll (λ input. script_outcome meaning input) (cut 1) r w w
  ends_first r t w after line g plain none end =
      let last = rest_is_last r t [] after line g plain none in
      let is : script_outcome meaning g.bytes ≡ ending (cut 1) [] =
      ap (λ l. script_prints meaning l (rest_line g.bytes)) last.0 ∙ no_lines (rest_line g.bytes) in
      Consumes-whole r t g.bytes
      (λ bytes. ((script_outcome meaning bytes).end ≡ cut 1)
      × Appends w w (script_outcome meaning bytes).text) g.consumed end
      (ap (λ (o : Outcome). o.end) is, subst (Appends w w) (sym (ap (λ (o : Outcome). o.text) is)) (Appends-nil w))

  module _ (r t w : Option (List ℕ)) (after line : List ℕ) (g : GivesBytes r t [] after (line ++ 10 ∷ []))
      (plain : NoFeed line) where
    first_meant : (more : List ℕ)
        → script_outcome meaning (g.bytes ++ more)
        ≡ script_prints meaning (line ∷ whole_lines (after ++ more)) (rest_line (after ++ more))
    first_meant more =
        let first = whole_is_first r t [] after line more g plain in
        ap (λ l. script_prints meaning l (rest_line (g.bytes ++ more))) first.0
        ∙ ap (λ l. script_prints meaning (line ∷ whole_lines (after ++ more)) l) first.1

    ends_so : (e : ScriptEnd) → ((lines : List (List ℕ)) (rest : List ℕ)
        → script_prints meaning (line ∷ lines) rest ≡ ending e [])
        → PrintsAll (λ input. script_outcome meaning input) e r w w
    ends_so e h =
        known_input r t g.bytes _ g.consumed (λ more.
        let is = first_meant more ∙ h (whole_lines (after ++ more)) (rest_line (after ++ more)) in
        (ap (λ (o : Outcome). o.end) is, subst (Appends w w) (sym (ap (λ (o : Outcome). o.text) is)) (Appends-nil w)))

    pub ends_no_config : config_in line ≡ None → PrintsAll (λ input. script_outcome meaning input) (bad_line 1) r w w
    ends_no_config e = ends_so (bad_line 1) (λ lines rest. no_config line lines rest e)

    pub ends_wrong_config : (c : ConfigNumbers) (f : ConfigFault) → config_in line ≡ Some c → config_fault c ≡ Some f
        → PrintsAll (λ input. script_outcome meaning input) (bad_config (config_fault_number f)) r w w
    ends_wrong_config c f e h =
        ends_so (bad_config (config_fault_number f)) (λ lines rest. wrong_config line lines rest c f e h)

    module _ (c : ConfigNumbers) (e : config_in line ≡ Some c) (accepted : config_fault c ≡ None) where
      begins : (more : List ℕ)
          → script_outcome meaning (g.bytes ++ more)
          ≡ prefixed (line ++ 10 ∷ []) (lines_from (meaning c) [] 2 after more)
      begins more = first_meant more
          ∙ right_config line (whole_lines (after ++ more)) (rest_line (after ++ more)) c e accepted

      pub front_config : (u : Option (List ℕ)) → AppendsFront w u (line ++ 10 ∷ [])
          → PrintsFront (λ input. script_outcome meaning input) r t w u
      front_config u h =
          let text = ap (λ l. (script_outcome meaning l).text) (sym (append-nil g.bytes))
          ∙ ap (λ (o : Outcome). o.text) (begins []) in
          (g.bytes, g.consumed, subst (AppendsFront w u) (sym text) (front_first w u (line ++ 10 ∷ []) _ h))

      pub reached_first : (u : Option (List ℕ)) → Appends w u (line ++ 10 ∷ [])
          → Reached (λ input. script_outcome meaning input) (meaning c) [] 2 r t w u after
      reached_first u h = record {
        bytes = g.bytes;
        consumed = g.consumed;
        out = line ++ 10 ∷ [];
        written = h;
        agrees = begins;
      }

-- the configuration of a known input is that of the line that was read
pub known_config : (r t : Option (List ℕ)) (after line : List ℕ) (g : GivesBytes r t [] after (line ++ 10 ∷ []))
    → NoFeed line → (c : ConfigNumbers) → config_in line ≡ Some c
    → IfSome r (λ bytes. first_config (whole_lines bytes) ≡ Some c)
known_config r t after line g plain c e =
    known_input r t g.bytes _ g.consumed (λ more.
    ap first_config (whole_is_first r t [] after line more g plain).0 ∙ e)
