-- The first line of a history that is told.
use Rattle.std.proofs.Common.{◌≡◌, ℕ, List, [], ◌∷◌, ◌++◌, None, Some, refl, sym, ap, ◌∙◌, subst, append-nil}
use Rattle.std.specs.Prelude.{Option, Err}
use Rattle.std.specs.Io.KnownBytes.{Appends, Consumes, IsAtEnd}
use Rattle.std.proofs.KnownBytes.{Consumes-whole, Appends-nil}
use Rattle.line_text.specs.Known.{AppendsFront}
use Rattle.line_text.specs.Lines.{NoFeed, GivesBytes, GivesFront, whole_lines, rest_line}
use Rattle.line_text.proofs.Known.{front_first, known_input}
use Rattle.line_text.proofs.LineLaws.{whole_is_first, rest_is_last}
use Rattle.line_text.specs.declared.lines.ReadFault.{ReadFault}
use Rattle.nvme_model.specs.Config.{config_fault, config_fault_number}
use Rattle.nvme_model.specs.declared.config.ConfigFault.{ConfigFault}
use Rattle.nvme_model.specs.declared.config.ConfigNumbers.{ConfigNumbers}
use Rattle.history.specs.ConfigLine.{config_in}
use Rattle.casdisk_texts.specs.Script.{Outcome, ScriptEnd, IsOpenEnd, bad_line, bad_config, cut, ending, prefixed}
use Rattle.casdisk_texts.specs.Script.{lines_print}
use Rattle.casdisk_texts.specs.Running.{lines_from, PrintsAll, PrintsFront, PrintsRead, Reached, RunsScript}
use Rattle.casdisk_texts.specs.Fault.{fault_of_read}
use Rattle.file_commands.specs.ToldText.{config_as, told_first_line, told_line, told_numbers, told_prints, told_text}
use Rattle.file_commands.specs.declared.telling.Telling.{Telling}

module _ (telling : Telling) where
  no_config : (line : List ℕ) (lines : List (List ℕ)) (rest : List ℕ) → config_in line ≡ None
      → told_prints telling (line ∷ lines) rest ≡ ending (bad_line 1) []
  unfolding told_prints
  no_config line lines rest e = ap (λ o. told_first_line telling o (lines_print (told_line telling) [] 2 lines rest)) e

  wrong_config : (line : List ℕ) (lines : List (List ℕ)) (rest : List ℕ) (c : ConfigNumbers) (f : ConfigFault)
      → config_in line ≡ Some c → config_fault c ≡ Some f
      → told_prints telling (line ∷ lines) rest ≡ ending (bad_config (config_fault_number f)) []
  unfolding told_prints
  wrong_config line lines rest c f e h =
      ap (λ o. told_first_line telling o (lines_print (told_line telling) [] 2 lines rest)) e
      ∙ ap (λ o. told_numbers telling c o (lines_print (told_line telling) [] 2 lines rest)) h

  right_config : (line : List ℕ) (lines : List (List ℕ)) (rest : List ℕ) (c : ConfigNumbers) → config_in line ≡ Some c
      → config_fault c ≡ None
      → told_prints telling (line ∷ lines) rest
      ≡ prefixed (config_as telling c) (lines_print (told_line telling) [] 2 lines rest)
  unfolding told_prints
  right_config line lines rest c e h =
      ap (λ o. told_first_line telling o (lines_print (told_line telling) [] 2 lines rest)) e
      ∙ ap (λ o. told_numbers telling c o (lines_print (told_line telling) [] 2 lines rest)) h

  no_lines : (rest : List ℕ) → told_prints telling [] rest ≡ ending (cut 1) []
  unfolding told_prints
  no_lines rest = refl

  -- nothing was written of what was read
  unwritten : (r t w : Option (List ℕ)) (bytes : List ℕ) → Consumes r t bytes
      → PrintsFront (λ input. told_text telling input) r t w w
  unwritten r t w bytes h =
      (bytes, h, record { front = []; rest = (told_text telling bytes).text; whole = refl; written = Appends-nil w })

  -- no line was read, so there is no text
  none_first : (r t w : Option (List ℕ)) (after line : List ℕ) → GivesFront r t [] after line → after ≡ []
      → PrintsRead (λ input. told_text telling input) r t w w
  none_first r t w after line g none =
      let bytes = g.0.bytes in
      let last = rest_is_last r t [] after line g.0 g.1 none in
      let is : told_text telling bytes ≡ ending (cut 1) [] = ap (λ l. told_prints telling l (rest_line bytes)) last.0
      ∙ no_lines (rest_line bytes) in (
        bytes,
        g.0.consumed,
        subst (λ (o : Outcome). IsOpenEnd o.end) (sym is) tt,
        subst (Appends w w) (sym (ap (λ (o : Outcome). o.text) is)) (Appends-nil w),
      )

  -- (the two faults of reading, as of a run)
  unread : (f : ReadFault) (r t w : Option (List ℕ))
      → (f ≡ ReadFault.Input → PrintsRead (λ input. told_text telling input) r t w w)
      → PrintsFront (λ input. told_text telling input) r t w w
      → RunsScript (λ input. told_text telling input) (Err (fault_of_read f)) r t w w
  unread ReadFault.Input r t w whole front = whole refl
  unread ReadFault.NoMemory r t w whole front = front

  pub lost_first : (f : ReadFault) (r t w : Option (List ℕ)) (after line : List ℕ) → GivesFront r t [] after line
      → (f ≡ ReadFault.Input → after ≡ [])
      → RunsScript (λ input. told_text telling input) (Err (fault_of_read f)) r t w w
  lost_first f r t w after line h none =
      unread f r t w (λ e. none_first r t w after line h (none e)) (unwritten r t w h.0.bytes h.0.consumed)

  pub ends_first : (r t w : Option (List ℕ)) (after line : List ℕ) → GivesBytes r t [] after line → NoFeed line
      → after ≡ []
      → IsAtEnd t → PrintsAll (λ input. told_text telling input) (cut 1) r w w
  ends_first r t w after line g plain none end =
      let last = rest_is_last r t [] after line g plain none in
      let is : told_text telling g.bytes ≡ ending (cut 1) [] =
      ap (λ l. told_prints telling l (rest_line g.bytes)) last.0 ∙ no_lines (rest_line g.bytes) in
      Consumes-whole r t g.bytes
      (λ bytes. ((told_text telling bytes).end ≡ cut 1) × Appends w w (told_text telling bytes).text) g.consumed end
      (ap (λ (o : Outcome). o.end) is, subst (Appends w w) (sym (ap (λ (o : Outcome). o.text) is)) (Appends-nil w))

  module _ (r t w : Option (List ℕ)) (after line : List ℕ) (g : GivesBytes r t [] after (line ++ 10 ∷ []))
      (plain : NoFeed line) where
    first_meant : (more : List ℕ)
        → told_text telling (g.bytes ++ more)
        ≡ told_prints telling (line ∷ whole_lines (after ++ more)) (rest_line (after ++ more))
    first_meant more =
        let first = whole_is_first r t [] after line more g plain in
        ap (λ l. told_prints telling l (rest_line (g.bytes ++ more))) first.0
        ∙ ap (λ l. told_prints telling (line ∷ whole_lines (after ++ more)) l) first.1

    ends_so : (e : ScriptEnd) → ((lines : List (List ℕ)) (rest : List ℕ)
        → told_prints telling (line ∷ lines) rest ≡ ending e []) → PrintsAll (λ input. told_text telling input) e r w w
    ends_so e h =
        known_input r t g.bytes _ g.consumed (λ more.
        let is = first_meant more ∙ h (whole_lines (after ++ more)) (rest_line (after ++ more)) in
        (ap (λ (o : Outcome). o.end) is, subst (Appends w w) (sym (ap (λ (o : Outcome). o.text) is)) (Appends-nil w)))

    pub ends_no_config : config_in line ≡ None → PrintsAll (λ input. told_text telling input) (bad_line 1) r w w
    ends_no_config e = ends_so (bad_line 1) (λ lines rest. no_config line lines rest e)

    pub ends_wrong_config : (c : ConfigNumbers) (f : ConfigFault) → config_in line ≡ Some c → config_fault c ≡ Some f
        → PrintsAll (λ input. told_text telling input) (bad_config (config_fault_number f)) r w w
    ends_wrong_config c f e h =
        ends_so (bad_config (config_fault_number f)) (λ lines rest. wrong_config line lines rest c f e h)

    module _ (c : ConfigNumbers) (e : config_in line ≡ Some c) (accepted : config_fault c ≡ None) where
      begins : (more : List ℕ) → told_text telling (g.bytes ++ more)
          ≡ prefixed (config_as telling c) (lines_from (told_line telling) [] 2 after more)
      begins more = first_meant more
          ∙ right_config line (whole_lines (after ++ more)) (rest_line (after ++ more)) c e accepted

      pub front_config : (u : Option (List ℕ)) → AppendsFront w u (config_as telling c)
          → PrintsFront (λ input. told_text telling input) r t w u
      front_config u h =
          let text = ap (λ l. (told_text telling l).text) (sym (append-nil g.bytes))
          ∙ ap (λ (o : Outcome). o.text) (begins []) in (
            g.bytes,
            g.consumed,
            subst (AppendsFront w u) (sym text) (front_first w u (config_as telling c) _ h),
          )

      pub reached_first : (u : Option (List ℕ)) → Appends w u (config_as telling c)
          → Reached (λ input. told_text telling input) (told_line telling) [] 2 r t w u after
      reached_first u h = record {
        bytes = g.bytes;
        consumed = g.consumed;
        out = config_as telling c;
        written = h;
        agrees = begins;
      }
