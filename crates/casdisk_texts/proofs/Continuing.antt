-- A script that goes on from a history, from its first line on.
use Rattle.std.proofs.Common.{◌≡◌, ◌≢◌, ◌⊎◌, ℕ, List, [], ◌∷◌, ◌++◌, None, Some, inl, inr, refl, sym, ap, ◌∙◌, subst}
use Rattle.std.proofs.Common.{bytes_eq, cond, true}
use Rattle.std.specs.Prelude.{IfSome, OnOk, Option, Result, Ok, Err}
use Rattle.std.specs.Io.KnownBytes.{Appends, Consumes}
use Rattle.std.proofs.KnownBytes.{Appends-nil}
use Rattle.line_text.specs.Lines.{whole_lines, rest_line}
use Rattle.line_text.proofs.Known.{known_input}
use Rattle.line_text.proofs.LineLaws.{whole_is_first}
use Rattle.line_text.proofs.NumberLaws.{bytes_eq_refl}
use Rattle.nvme_model.specs.Config.{config_fault, config_fault_number}
use Rattle.nvme_model.specs.History.{Past}
use Rattle.nvme_model.specs.Legal.{IsLegal}
use Rattle.nvme_model.specs.declared.config.ConfigFault.{ConfigFault}
use Rattle.nvme_model.specs.declared.config.ConfigNumbers.{ConfigNumbers}
use Rattle.history.specs.ConfigLine.{config_in}
use Rattle.history.proofs.ConfigLaws.{config_is}
use Rattle.controller_interface.specs.State.{ControllerState}
use Rattle.casdisk_texts.specs.Checked.{HasMade}
use Rattle.casdisk_texts.specs.Remade.{Continues, HasConfig, HasOther, HasRemade, IsFirstLine, LacksFirstLine, RunsFrom}
use Rattle.casdisk_texts.specs.Remade.{WasRemade, continued, continues, continues_as, continues_by, first_other}
use Rattle.casdisk_texts.specs.Remade.{remade_line, remade_outcome}
use Rattle.casdisk_texts.specs.Running.{Makes, PrintsAll, PrintsFront, Reached, RunsScript}
use Rattle.casdisk_texts.specs.Said.{script_line}
use Rattle.casdisk_texts.specs.Script.{IsOpenEnd, Outcome, ScriptEnd, bad_config, bad_line, cut, ending, first_config}
use Rattle.casdisk_texts.specs.Script.{done, lines_print}
use Rattle.casdisk_texts.specs.declared.fault.RunFault.{RunFault}
use Rattle.casdisk_texts.specs.declared.fault.RunFault.TheVariants.{BadLine, BadConfig, Input, Output, NoMemory}
use Rattle.casdisk_texts.specs.declared.from_fault.FromFault.{FromFault}
use Rattle.casdisk_texts.specs.declared.from_fault.FromFault.TheVariants.{Differs, History, OtherConfig, Script}
use Rattle.casdisk_texts.proofs.Beginning.{known_config}

module _ (c : ConfigNumbers) (kinds : ℕ) (past : Past) where
  -- ---- the first line

  abbrev rest_of : List (List ℕ) → List ℕ → Outcome
  rest_of lines rest = lines_print (script_line c kinds) past 2 lines rest

  none_says : (lines : List (List ℕ)) (rest : List ℕ) → first_config lines ≡ None
      → (continues c kinds past lines rest ≡ ending (bad_line 1) past)
      ⊎ (continues c kinds past lines rest ≡ ending (cut 1) past)
  unfolding continues
  none_says [] rest e = inr refl
  none_says (line ∷ lines) rest e = inl (ap (λ o. continues_as c past line o (rest_of lines rest)) e)

  refused_says : (lines : List (List ℕ)) (rest : List ℕ) (k : ConfigNumbers) (f : ConfigFault)
      → first_config lines ≡ Some k → config_fault k ≡ Some f
      → continues c kinds past lines rest ≡ ending (bad_config (config_fault_number f)) past
  unfolding continues
  refused_says [] rest k f e h = absurd (let n : ⊥ = cc in n)
  refused_says (line ∷ lines) rest k f e h =
      ap (λ o. continues_as c past line o (rest_of lines rest)) e
      ∙ ap (λ o. continues_by c past line o (rest_of lines rest)) h

  empty_says : (lines : List (List ℕ)) (rest : List ℕ) → lines ≡ []
      → continues c kinds past lines rest ≡ ending (cut 1) past
  unfolding continues
  empty_says lines rest e = ap (λ l. continues c kinds past l rest) e

  same_says : (line : List ℕ) (lines : List (List ℕ)) (rest : List ℕ) → config_in line ≡ Some c → config_fault c ≡ None
      → continues c kinds past (line ∷ lines) rest ≡ rest_of lines rest
  unfolding continues
  same_says line lines rest e h =
      ap (λ o. continues_as c past line o (rest_of lines rest)) e
      ∙ ap (λ o. continues_by c past line o (rest_of lines rest)) h
      ∙ ap (λ b. cond b (rest_of lines rest) (ending done past))
      (subst (λ l. bytes_eq line l ≡ true) (config_is line c e) (bytes_eq_refl line))

  -- ---- what a run answers

  -- nothing was written of what was read
  unwritten : (r t w : Option (List ℕ)) (bytes : List ℕ) → Consumes r t bytes
      → PrintsFront (continued c kinds past) r t w w
  unwritten r t w bytes h = (
    bytes,
    h,
    record {
      front = [];
      rest = (continued c kinds past bytes).text;
      whole = refl;
      written = Appends-nil w;
    },
  )

  ends_so : (e : ScriptEnd) (w : Option (List ℕ)) (o : Outcome) → o ≡ ending e past → (o.end ≡ e) × Appends w w o.text
  ends_so e w o h =
      (ap (λ (x : Outcome). x.end) h, subst (Appends w w) (sym (ap (λ (x : Outcome). x.text) h)) (Appends-nil w))

  bad_first : (n : ℕ) (r w : Option (List ℕ)) → n ≡ 1 → IfSome r (λ bytes. first_config (whole_lines bytes) ≡ None)
      → PrintsAll (continued c kinds past) (bad_line n) r w w ⊎ PrintsAll (continued c kinds past) (cut n) r w w
  bad_first n None w e h = inl tt
  bad_first n (Some bytes) w e h = go (none_says (whole_lines bytes) (rest_line bytes) h)
    where
      this : Outcome
      this = continues c kinds past (whole_lines bytes) (rest_line bytes)

      go : (this ≡ ending (bad_line 1) past) ⊎ (this ≡ ending (cut 1) past)
          → PrintsAll (continued c kinds past) (bad_line n) (Some bytes) w w
          ⊎ PrintsAll (continued c kinds past) (cut n) (Some bytes) w w
      go (inl is) = inl (ends_so (bad_line n) w this (is ∙ ap (λ k. ending (bad_line k) past) (sym e)))
      go (inr is) = inr (ends_so (cut n) w this (is ∙ ap (λ k. ending (cut k) past) (sym e)))

  refused_first : (n : ℕ) (r t w : Option (List ℕ)) → LacksFirstLine (BadConfig n) r t
      → PrintsAll (continued c kinds past) (bad_config n) r w w
  refused_first n None t w h = tt
  refused_first n (Some bytes) t w (k, known, (f, fault, is)) =
      ends_so (bad_config n) w _
      (refused_says (whole_lines bytes) (rest_line bytes) k f known fault
      ∙ ap (λ m. ending (bad_config m) past) (sym is))

  pub stops_first : (f : RunFault) (r t w : Option (List ℕ)) → LacksFirstLine f r t
      → RunsScript (continued c kinds past) (Err f) r t w w
  stops_first (BadLine n) r t w h = bad_first n r w h.0 h.1
  stops_first (BadConfig n) r t w h = refused_first n r t w h
  stops_first Input r t w (bytes, consumed, none) =
      let is = empty_says (whole_lines bytes) (rest_line bytes) none in (
        bytes,
        consumed,
        subst (λ (o : Outcome). IsOpenEnd o.end) (sym is) tt,
        (ends_so (cut 1) w _ is).1,
      )
  stops_first Output r t w (bytes, consumed) = unwritten r t w bytes consumed
  stops_first NoMemory r t w (bytes, consumed) = unwritten r t w bytes consumed

  -- ---- behind the first line

  module _ (k : ConfigNumbers) (line : List ℕ) (r t : Option (List ℕ)) (held : List ℕ)
      (first : IsFirstLine k line r t held) where
    -- of the same configuration
    pub reached_first : (w : Option (List ℕ)) → k ≡ c
        → Reached (continued c kinds past) (script_line c kinds) past 2 r t w w held
    reached_first w same = record {
      bytes = first.gives.bytes;
      consumed = first.gives.consumed;
      out = [];
      written = Appends-nil w;
      agrees = λ more.
          let is = whole_is_first r t [] held line more first.gives first.plain in
          ap (λ l. continues c kinds past l (rest_line (first.gives.bytes ++ more))) is.0
          ∙ ap (λ l. continues c kinds past (line ∷ whole_lines (held ++ more)) l) is.1
          ∙ same_says line (whole_lines (held ++ more)) (rest_line (held ++ more))
          (subst (λ x. config_in line ≡ Some x) same first.says)
          (subst (λ x. config_fault x ≡ None) same first.accepted);
    }

    pub has_config : k ≡ c → HasConfig c r
    has_config same =
        subst (λ x. HasConfig x r) same (known_config r t held line first.gives first.plain k first.says)

    -- of another one
    pub has_other : k ≢ c → HasOther c r
    has_other other =
        known_input r t first.gives.bytes _ first.gives.consumed (λ more.
        (k, ap first_config (whole_is_first r t [] held line more first.gives first.plain).0 ∙ first.says, other))

-- ---- the history and the script

-- what holds of a history that was made once more, by what the controller has made
pub was_made : (kinds : ℕ) (c : ConfigNumbers) (core : ControllerState) (other : Option ℕ) (r : Option (List ℕ))
    (Holds : ConfigNumbers → Past → Type 0) → IfSome r (λ bytes. first_config (whole_lines bytes) ≡ Some c)
    → Makes (remade_outcome kinds) (Ok tt) r (λ past. HasRemade c past core other)
    → ((past : Past) → HasRemade c past core other → Holds c past)
    → IfSome r (HasMade (λ k. remade_line k kinds) Holds)
was_made kinds c core other None Holds known made holds = tt
was_made kinds c core other (Some bytes) Holds known made holds = (c, known, holds _ made)

-- and what follows from it
holds_of_made : (kinds : ℕ) (P Q : ConfigNumbers → Past → Type 0) (r : Option (List ℕ))
    → ((c : ConfigNumbers) (past : Past) → P c past → Q c past) → IfSome r (HasMade (λ k. remade_line k kinds) P)
    → IfSome r (HasMade (λ k. remade_line k kinds) Q)
holds_of_made kinds P Q None f h = tt
holds_of_made kinds P Q (Some bytes) f (c, known, p) = (c, known, f c _ p)

-- this controller has made these entries once more, all of them
abbrev pub Held : ControllerState → ConfigNumbers → Past → Type 0
Held core c past = (core.config ≡ c) × (core.past ≡ past) × (first_other c past ≡ None)

-- the history that this controller has made is legal
pub legal_made : (kinds : ℕ) (core : ControllerState) (r : Option (List ℕ)) (res : Result (Unit {0}) FromFault)
    → IsLegal core.config core.past → IfSome r (HasMade (λ k. remade_line k kinds) (Held core))
    → OnOk res (IfSome r (HasMade (λ k. remade_line k kinds) IsLegal))
legal_made kinds core r (Err f) legal made = tt
legal_made kinds core r (Ok x) legal made =
    holds_of_made kinds (Held core) IsLegal r (λ c past h.
    subst (λ (p : Past). IsLegal c p) h.1 (subst (λ (d : ConfigNumbers). IsLegal d core.past) h.0 legal)) made

-- a history was made once more by this controller, which then did the script, so far as this says
module _ (kinds : ℕ) (core : ControllerState) (h hl s sl w m v : Option (List ℕ)) where
  gone_on : (res : Result (Unit {0}) FromFault) → WasRemade (Held core) kinds h hl w m
      → Continues core.config kinds core.past res s sl m v
      → WasRemade (λ c past. (first_other c past ≡ None) × Continues c kinds past res s sl m v) kinds h hl w m
  gone_on res made on = (
    made.0,
    holds_of_made kinds (Held core) (λ c past. (first_other c past ≡ None) × Continues c kinds past res s sl m v) h
        (λ c past x. (
          x.2,
          subst (λ (p : Past). Continues c kinds p res s sl m v) x.1
              (subst (λ (d : ConfigNumbers). Continues d kinds core.past res s sl m v) x.0 on),
        )) made.1,
  )

  pub runs_from : (res : Result (Unit {0}) FromFault) → WasRemade (Held core) kinds h hl w m
      → Continues core.config kinds core.past res s sl m v → RunsFrom kinds res h hl s sl w v
  runs_from (Ok x) made on = (m, gone_on (Ok x) made on)
  runs_from (Err (Script f)) made on = (m, gone_on (Err (Script f)) made on)
  runs_from (Err OtherConfig) made on = (m, gone_on (Err OtherConfig) made on)
  runs_from (Err (History f)) made on = absurd on
  runs_from (Err (Differs place)) made on = absurd on
