-- How far a run has come, and how it goes on.
use Rattle.std.proofs.Common.{◌≡◌, ℕ, ◌+◌, List, [], ◌∷◌, ◌++◌, None, Some, inl, inr, refl, sym, ap, ◌∙◌, subst}
use Rattle.std.proofs.Common.{append_assoc, append-nil}
use Rattle.std.specs.Prelude.{IfSome, Option, Result, Ok, Err}
use Rattle.std.specs.Io.KnownBytes.{Appends, Consumes, Keeps, IsAtEnd}
use Rattle.std.proofs.KnownBytes.{Appends-nil, Appends-trans, Appends-kept, Consumes-nil, Consumes-trans}
use Rattle.std.proofs.KnownBytes.{Consumes-whole}
use Rattle.line_text.specs.Known.{AppendsFront}
use Rattle.line_text.specs.Lines.{NoFeed, GivesBytes, GivesFront, whole_lines, rest_line}
use Rattle.line_text.proofs.Known.{front_first, front_second, known_input}
use Rattle.line_text.proofs.LineLaws.{whole_is_first, rest_is_last}
use Rattle.nvme_model.specs.History.{Past}
use Rattle.casdisk_texts.specs.Meaning.{Meaning, StopsInLine, text_of}
use Rattle.casdisk_texts.specs.Script.{Outcome, ScriptEnd, IsOpenEnd, done, cut, bad_line, bad_config, ending}
use Rattle.casdisk_texts.specs.Script.{prefixed}
use Rattle.casdisk_texts.specs.Script.{after_line, lines_print}
use Rattle.line_text.specs.declared.lines.ReadFault.{ReadFault}
use Rattle.casdisk_texts.specs.Fault.{fault_of_read, fault_of_write}
use Rattle.casdisk_texts.specs.Running.{lines_from, Makes, Reached, PrintsAll, PrintsFront, PrintsRead, RunsScript}
use Rattle.casdisk_texts.specs.declared.fault.RunFault.{RunFault}
use Rattle.casdisk_texts.specs.declared.meaning.WriteFault.{WriteFault}
use Rattle.casdisk_texts.specs.declared.fault.RunFault.TheVariants.{BadLine, BadConfig, Input, Output, NoMemory}

pub prefixed_twice : (a b : List ℕ) (o : Outcome) → prefixed a (prefixed b o) ≡ prefixed (a ++ b) o
prefixed_twice a b o = ap (λ t. record { text = t; end = o.end; past = o.past }) (sym (append_assoc a b o.text))

-- ---- one line

print_good : (meaning : Meaning) (past : Past) (n : ℕ) (line : List ℕ) (lines : List (List ℕ)) (rest : List ℕ)
    (x : Past × List ℕ) → meaning past line ≡ Some x
    → lines_print meaning past n (line ∷ lines) rest ≡ prefixed x.1 (lines_print meaning x.0 (n + 1) lines rest)
unfolding lines_print
print_good meaning past n line lines rest x e =
    ap (λ o. after_line n past o (λ after. lines_print meaning after (n + 1) lines rest)) e

pub print_bad : (meaning : Meaning) (past : Past) (n : ℕ) (line : List ℕ) (lines : List (List ℕ)) (rest : List ℕ)
    → meaning past line ≡ None → lines_print meaning past n (line ∷ lines) rest ≡ ending (bad_line n) past
unfolding lines_print
print_bad meaning past n line lines rest e =
    ap (λ o. after_line n past o (λ after. lines_print meaning after (n + 1) lines rest)) e

-- the text of a line, and what follows it
text_first : (n : ℕ) (past : Past) (o : Option (Past × List ℕ)) (more : Past → Outcome)
    → (rest : List ℕ) × ((after_line n past o more).text ≡ text_of o ++ rest)
text_first n past None more = ([], refl)
text_first n past (Some x) more = ((more x.0).text, refl)

print_line : (meaning : Meaning) (past : Past) (n : ℕ) (line : List ℕ) (lines : List (List ℕ)) (rest : List ℕ)
    → (more : List ℕ) × ((lines_print meaning past n (line ∷ lines) rest).text ≡ text_of (meaning past line) ++ more)
unfolding lines_print
print_line meaning past n line lines rest =
    text_first n past (meaning past line) (λ after. lines_print meaning after (n + 1) lines rest)

print_end : (meaning : Meaning) (past : Past) (n : ℕ) → lines_print meaning past n [] [] ≡ ending done past
unfolding lines_print
print_end meaning past n = refl

print_cut : (meaning : Meaning) (past : Past) (n b : ℕ) (bs : List ℕ)
    → lines_print meaning past n [] (b ∷ bs) ≡ ending (cut n) past
unfolding lines_print
print_cut meaning past n b bs = refl

pub print_none : (meaning : Meaning) (past : Past) (n : ℕ) (rest : List ℕ) → rest ≡ []
    → lines_print meaning past n [] rest ≡ ending done past
print_none meaning past n rest e = ap (λ l. lines_print meaning past n [] l) e ∙ print_end meaning past n

pub print_rest : (meaning : Meaning) (past : Past) (n : ℕ) (rest : List ℕ) → (rest ≡ [] → ⊥)
    → lines_print meaning past n [] rest ≡ ending (cut n) past
print_rest meaning past n [] h = absurd (h refl)
print_rest meaning past n (b ∷ bs) h = print_cut meaning past n b bs

-- what stands behind the last line feed prints nothing, and is no bad line
print_last : (meaning : Meaning) (past : Past) (n : ℕ) (rest : List ℕ)
    → (e : ScriptEnd) × IsOpenEnd e × (lines_print meaning past n [] rest ≡ ending e past)
print_last meaning past n [] = (done, tt, print_end meaning past n)
print_last meaning past n (b ∷ bs) = (cut n, tt, print_cut meaning past n b bs)

-- ---- no call yet

pub begins : (meaning : Meaning) (past : Past) (n : ℕ) (r w : Option (List ℕ)) (held : List ℕ)
    → Reached (lines_from meaning past n held) meaning past n r r w w held
begins meaning past n r w held =
    record { bytes = []; consumed = Consumes-nil r; out = []; written = Appends-nil w; agrees = λ more. refl }

-- ---- the next call

module _ (outcome : List ℕ → Outcome) (meaning : Meaning) (past : Past) (n : ℕ) (r s t w v : Option (List ℕ))
    (held : List ℕ) (at : Reached outcome meaning past n r s w v held) where
  -- all that follows, after a line was read
  pub meant : (after line more : List ℕ) (g : GivesBytes s t held after (line ++ 10 ∷ [])) → NoFeed line
      → outcome ((at.bytes ++ g.bytes) ++ more)
      ≡ prefixed at.out (lines_print meaning past n (line ∷ whole_lines (after ++ more))
      (rest_line (after ++ more)))
  meant after line more g plain =
      let first = whole_is_first s t held after line more g plain in
      ap outcome (append_assoc at.bytes g.bytes more)
      ∙ at.agrees (g.bytes ++ more)
      ∙ ap (λ l. prefixed at.out (lines_print meaning past n l (rest_line (held ++ (g.bytes ++ more))))) first.0
      ∙ ap (λ l. prefixed at.out (lines_print meaning past n (line ∷ whole_lines (after ++ more)) l)) first.1

  pub goes_on : (after line : List ℕ) (u : Option (List ℕ)) (x : Past × List ℕ)
      → GivesBytes s t held after (line ++ 10 ∷ [])
      → NoFeed line → meaning past line ≡ Some x → Appends v u x.1
      → Reached outcome meaning x.0 (n + 1) r t w u after
  goes_on after line u x g plain e p =
      record {
        bytes = at.bytes ++ g.bytes;
        consumed = Consumes-trans r s t at.bytes g.bytes at.consumed g.consumed;
        out = at.out ++ x.1;
        written = Appends-trans w v u at.out x.1 at.written p;
        agrees = λ more. meant after line more g plain
            ∙ ap (prefixed at.out) (print_good meaning past n line (whole_lines (after ++ more))
            (rest_line (after ++ more)) x e) ∙ prefixed_twice at.out x.1 (lines_from meaning x.0 (n + 1) after more);
      }

  -- what holds of the outcome up to a bad line holds of each input that has it
  pub at_bad : (P : Outcome → Type 0) (after line : List ℕ) → GivesBytes s t held after (line ++ 10 ∷ []) → NoFeed line
      → meaning past line ≡ None → P (prefixed at.out (ending (bad_line n) past))
      → IfSome r (λ bytes. P (outcome bytes))
  at_bad P after line g plain e holds =
      known_input r t (at.bytes ++ g.bytes) (λ bytes. P (outcome bytes))
      (Consumes-trans r s t at.bytes g.bytes at.consumed g.consumed) (λ more.
      subst P
      (sym (meant after line more g plain ∙ ap (prefixed at.out) (print_bad meaning past n line _ _ e))) holds)

  pub ends_bad : (after line : List ℕ) (u : Option (List ℕ)) → GivesBytes s t held after (line ++ 10 ∷ []) → NoFeed line
      → meaning past line ≡ None → Keeps v u → PrintsAll outcome (bad_line n) r w u
  ends_bad after line u g plain e p =
      at_bad (λ (o : Outcome). (o.end ≡ bad_line n) × Appends w u o.text) after line g plain e
      (refl, subst (Appends w u) (sym (append-nil at.out)) (Appends-kept w v u at.out at.written p))

  pub front_stopped : (after line : List ℕ) (u : Option (List ℕ)) → GivesBytes s t held after (line ++ 10 ∷ [])
      → NoFeed line
      → StopsInLine meaning past line v u → PrintsFront outcome r t w u
  front_stopped after line u g plain h =
      let said = print_line meaning past n line (whole_lines (after ++ [])) (rest_line (after ++ [])) in
      let text : (outcome (at.bytes ++ g.bytes)).text ≡ at.out ++ (text_of (meaning past line) ++ said.0) =
      ap (λ l. (outcome l).text) (sym (append-nil (at.bytes ++ g.bytes)))
      ∙ ap (λ (o : Outcome). o.text) (meant after line [] g plain) ∙ ap (λ l. at.out ++ l) said.1 in (
        at.bytes ++ g.bytes,
        Consumes-trans r s t at.bytes g.bytes at.consumed g.consumed,
        subst (AppendsFront w u) (sym text)
            (front_second w v u at.out _ at.written (front_first v u (text_of (meaning past line)) _ h)),
      )

  pub front_lost : (after line : List ℕ) → GivesFront s t held after line → PrintsFront outcome r t w v
  front_lost after line g =
      let more = g.0.bytes in
      let text : (outcome (at.bytes ++ more)).text ≡ at.out ++ (lines_from meaning past n held more).text =
      ap (λ (o : Outcome). o.text) (at.agrees more) in (
        at.bytes ++ more,
        Consumes-trans r s t at.bytes more at.consumed g.0.consumed,
        record {
          front = at.out;
          rest = (lines_from meaning past n held more).text;
          whole = text;
          written = at.written;
        },
      )

  -- the whole text of what was read is that of the lines before
  all_written : Appends w v (at.out ++ [])
  all_written = subst (Appends w v) (sym (append-nil at.out)) at.written

  -- what was read ends within a line
  pub at_lost : (P : Outcome → Type 0) (after line : List ℕ) → GivesFront s t held after line → after ≡ []
      → ((e : ScriptEnd) → IsOpenEnd e → P (prefixed at.out (ending e past)))
      → (bytes : List ℕ) × Consumes r t bytes × P (outcome bytes)
  at_lost P after line g none holds =
      let more = g.0.bytes in
      let rest = rest_line (held ++ more) in
      let last = print_last meaning past n rest in
      let is : outcome (at.bytes ++ more) ≡ prefixed at.out (ending last.0 past) =
      at.agrees more
      ∙ ap (λ l. prefixed at.out (lines_print meaning past n l rest)) (rest_is_last s t held after line g.0 g.1 none).0
      ∙ ap (prefixed at.out) last.2 in (
        at.bytes ++ more,
        Consumes-trans r s t at.bytes more at.consumed g.0.consumed,
        subst P (sym is)
            (holds last.0 last.1),
      )

  pub all_read : (after line : List ℕ) → GivesFront s t held after line → after ≡ [] → PrintsRead outcome r t w v
  all_read after line g none =
      let x = at_lost (λ (o : Outcome). IsOpenEnd o.end × Appends w v o.text) after line g none (λ e is.
      (is, all_written)) in
      (x.0, x.1, x.2.0, x.2.1)

  pub front_here : PrintsFront outcome r s w v
  front_here =
      let text : (outcome at.bytes).text ≡ at.out ++ (lines_from meaning past n held []).text =
      ap (λ l. (outcome l).text) (sym (append-nil at.bytes)) ∙ ap (λ (o : Outcome). o.text) (at.agrees []) in (
        at.bytes,
        at.consumed,
        record {
          front = at.out;
          rest = (lines_from meaning past n held []).text;
          whole = text;
          written = at.written;
        },
      )

  -- the reader is at its end
  pub at_end : (P : Outcome → Type 0) (after line : List ℕ) (e : ScriptEnd) → GivesBytes s t held after line
      → NoFeed line → after ≡ [] → IsAtEnd t → lines_print meaning past n [] line ≡ ending e past
      → P (prefixed at.out (ending e past)) → IfSome r (λ bytes. P (outcome bytes))
  at_end P after line e g plain none end p holds =
      let last = rest_is_last s t held after line g plain none in
      let is : outcome (at.bytes ++ g.bytes) ≡ prefixed at.out (ending e past) =
      at.agrees g.bytes
      ∙ ap (λ l. prefixed at.out (lines_print meaning past n l (rest_line (held ++ g.bytes)))) last.0
      ∙ ap (λ l. prefixed at.out (lines_print meaning past n [] l)) last.1
      ∙ ap (prefixed at.out) p in
      Consumes-whole r t (at.bytes ++ g.bytes) (λ bytes. P (outcome bytes))
      (Consumes-trans r s t at.bytes g.bytes at.consumed g.consumed) end (subst P (sym is) holds)

  pub ends_last : (after line : List ℕ) (e : ScriptEnd) → GivesBytes s t held after line → NoFeed line → after ≡ []
      → IsAtEnd t
      → lines_print meaning past n [] line ≡ ending e past → PrintsAll outcome e r w v
  ends_last after line e g plain none end p =
      at_end (λ (o : Outcome). (o.end ≡ e) × Appends w v o.text) after line e g plain none end p (refl, all_written)

  -- what holds of the history by now holds of the one that the whole input makes
  pub makes_last : (after line : List ℕ) (e : ScriptEnd) (Stands : Past → Type 0) → Stands past
      → GivesBytes s t held after line
      → NoFeed line → after ≡ [] → IsAtEnd t → lines_print meaning past n [] line ≡ ending e past
      → IfSome r (λ bytes. Stands (outcome bytes).past)
  makes_last after line e Stands stands g plain none end p =
      at_end (λ (o : Outcome). Stands o.past) after line e g plain none end p stands

-- ---- the answer of a run

-- how the input ends
pub end_is : (outcome : List ℕ → Outcome) (e : ScriptEnd) (r w v : Option (List ℕ)) → PrintsAll outcome e r w v
    → IfSome r (λ bytes. (outcome bytes).end ≡ e)
end_is outcome e None w v p = tt
end_is outcome e (Some bytes) w v p = p.0

-- no line was read
pub runs_unread : (outcome : List ℕ → Outcome) (f : ReadFault) (r t w v : Option (List ℕ))
    → (f ≡ ReadFault.Input → PrintsRead outcome r t w v) → PrintsFront outcome r t w v
    → RunsScript outcome (Err (fault_of_read f)) r t w v
runs_unread outcome ReadFault.Input r t w v whole front = whole refl
runs_unread outcome ReadFault.NoMemory r t w v whole front = front

-- a line wasn't done to its end
pub runs_stopped : (outcome : List ℕ → Outcome) (f : WriteFault) (r t w v : Option (List ℕ))
    → PrintsFront outcome r t w v → RunsScript outcome (Err (fault_of_write f)) r t w v
runs_stopped outcome WriteFault.Output r t w v p = p
runs_stopped outcome WriteFault.NoMemory r t w v p = p

-- what a run of the rest does, the whole run does
prints_after : (outcome : List ℕ → Outcome) (meaning : Meaning) (past : Past) (n : ℕ) (e : ScriptEnd)
    (r s w v u : Option (List ℕ)) (held : List ℕ) → Reached outcome meaning past n r s w v held
    → PrintsAll (lines_from meaning past n held) e s v u → PrintsAll outcome e r w u
prints_after outcome meaning past n e None s w v u held at p = tt
prints_after outcome meaning past n e (Some x) None w v u held at p = absurd at.consumed
prints_after outcome meaning past n e (Some x) (Some y) w v u held at p =
    let is : outcome x ≡ prefixed at.out (lines_from meaning past n held y) = ap outcome at.consumed ∙ at.agrees y in (
      ap (λ (o : Outcome). o.end) is ∙ p.0,
      subst (Appends w u) (sym (ap (λ (o : Outcome). o.text) is)) (Appends-trans w v u at.out _ at.written p.1),
    )

front_after : (outcome : List ℕ → Outcome) (meaning : Meaning) (past : Past) (n : ℕ) (r s t w v u : Option (List ℕ))
    (held : List ℕ) → Reached outcome meaning past n r s w v held
    → PrintsFront (lines_from meaning past n held) s t v u → PrintsFront outcome r t w u
front_after outcome meaning past n r s t w v u held at p =
    let text : (outcome (at.bytes ++ p.0)).text ≡ at.out ++ (lines_from meaning past n held p.0).text =
    ap (λ (o : Outcome). o.text) (at.agrees p.0) in (
      at.bytes ++ p.0,
      Consumes-trans r s t at.bytes p.0 at.consumed p.1,
      subst (AppendsFront w u) (sym text) (front_second w v u at.out _ at.written p.2),
    )

read_after : (outcome : List ℕ → Outcome) (meaning : Meaning) (past : Past) (n : ℕ) (r s t w v u : Option (List ℕ))
    (held : List ℕ) → Reached outcome meaning past n r s w v held
    → PrintsRead (lines_from meaning past n held) s t v u → PrintsRead outcome r t w u
read_after outcome meaning past n r s t w v u held at p =
    let is = at.agrees p.0 in (
      at.bytes ++ p.0,
      Consumes-trans r s t at.bytes p.0 at.consumed p.1,
      subst (λ (o : Outcome). IsOpenEnd o.end) (sym is) p.2,
      subst (λ (o : Outcome). Appends w u o.text) (sym is) (Appends-trans w v u at.out _ at.written p.3),
    )

pub runs_after : (outcome : List ℕ → Outcome) (meaning : Meaning) (past : Past) (n : ℕ) (r s t w v u : Option (List ℕ))
    (held : List ℕ) (res : Result (Unit {0}) RunFault) → Reached outcome meaning past n r s w v held
    → RunsScript (lines_from meaning past n held) res s t v u → RunsScript outcome res r t w u
runs_after outcome meaning past n r s t w v u held (Ok x) at p =
    (prints_after outcome meaning past n done r s w v u held at p.0, p.1)
runs_after outcome meaning past n r s t w v u held (Err (BadLine k)) at (inl p) =
    inl (prints_after outcome meaning past n (bad_line k) r s w v u held at p)
runs_after outcome meaning past n r s t w v u held (Err (BadLine k)) at (inr p) =
    inr (prints_after outcome meaning past n (cut k) r s w v u held at p)
runs_after outcome meaning past n r s t w v u held (Err (BadConfig k)) at p =
    prints_after outcome meaning past n (bad_config k) r s w v u held at p
runs_after outcome meaning past n r s t w v u held (Err Input) at p =
    read_after outcome meaning past n r s t w v u held at p
runs_after outcome meaning past n r s t w v u held (Err Output) at p =
    front_after outcome meaning past n r s t w v u held at p
runs_after outcome meaning past n r s t w v u held (Err NoMemory) at p =
    front_after outcome meaning past n r s t w v u held at p

-- and the history that it makes is the one that the whole run does
pub makes_after : (outcome : List ℕ → Outcome) (meaning : Meaning) (past : Past) (n : ℕ) (r s w v : Option (List ℕ))
    (held : List ℕ) (res : Result (Unit {0}) RunFault) (Stands : Past → Type 0)
    → Reached outcome meaning past n r s w v held
    → Makes (lines_from meaning past n held) res s Stands → Makes outcome res r Stands
makes_after outcome meaning past n r s w v held (Err f) Stands at p = tt
makes_after outcome meaning past n None s w v held (Ok x) Stands at p = tt
makes_after outcome meaning past n (Some x) None w v held (Ok z) Stands at p = absurd at.consumed
makes_after outcome meaning past n (Some x) (Some y) w v held (Ok z) Stands at p =
    subst Stands (ap (λ (o : Outcome). o.past) (sym (ap outcome at.consumed ∙ at.agrees y))) p
