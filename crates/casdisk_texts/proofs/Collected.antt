-- What the lines of a trace keep.
use Rattle.std.proofs.Common.{◌≡◌, ◌≢◌, ℕ, ◌+◌, ◌<◌, ◌≤◌, ◌==◌, ◌&&◌, ◌||◌, not, Bool, true, false, cond, List, [], ◌∷◌}
use Rattle.std.proofs.Common.{◌++◌}
use Rattle.std.proofs.Common.{None, Some, drop, inl, inr, refl, sym, ap, ◌∙◌, is_some, arith, subst}
use Rattle.std.proofs.Common.{append_assoc, append-nil}
use mathlib.Core.List.{reverse}
use Rattle.std.specs.Prelude.{IfSome, Option, Ok, Err, nat_lt, option_map}
use Rattle.std.specs.Io.KnownBytes.{IsAtEnd}
use Rattle.std.proofs.KnownBytes.{Appends-nil, Keeps-refl}
use Rattle.std.proofs.lemmas.Bool.{le-ltb, lt-ltb}
use Rattle.std.proofs.lemmas.List.{reverse-append, reverse-reverse}
use Rattle.line_text.specs.Lines.{rest_line, whole_lines}
use Rattle.nvme_model.specs.Bits.{bit}
use Rattle.nvme_model.specs.Config.{config_fault}
use Rattle.nvme_model.specs.History.{Past}
use Rattle.nvme_model.specs.declared.config.ConfigFault.{ConfigFault}
use Rattle.nvme_model.specs.declared.config.ConfigNumbers.{ConfigNumbers}
use Rattle.history.specs.ConfigLine.{config_in}
use Rattle.trace.specs.Aside.{history_numbers}
use Rattle.trace.specs.Options.{no_options}
use Rattle.trace.specs.declared.options.IgnoredFields.{IgnoredFields}
use Rattle.trace.specs.declared.options.TraceOptions.{TraceOptions}
use Rattle.trace.specs.declared.seen.Seen.{Seen}
use Rattle.trace.specs.OptionLines.{option_in, option_rank, options_after, with_option, with_said}
use Rattle.trace.specs.SeenLines.{seen_in}
use Rattle.trace.specs.declared.option_lines.TraceOption.{TraceOption}
use Rattle.trace.specs.declared.option_lines.TraceOption.TheVariants.{ContentsUnknown, Ignore, StatusesAny}
use Rattle.casdisk_texts.specs.Fault.{fault_in_memory}
use Rattle.casdisk_texts.specs.Meaning.{TakesLine}
use Rattle.casdisk_texts.specs.Running.{Makes, Reached, RunsScript}
use Rattle.casdisk_texts.specs.Script.{Outcome, after_config, after_line, after_numbers, bad_config}
use Rattle.casdisk_texts.specs.Script.{bad_line}
use Rattle.casdisk_texts.specs.Script.{cut, done, first_config, lines_print, script_outcome, script_prints}
use Rattle.casdisk_texts.specs.Traces.{HasCollected, HasTrace, IsTraceUnread, TakesOption}
use Rattle.casdisk_texts.specs.Traces.{config_after, has_room}
use Rattle.casdisk_texts.specs.Traces.{kept_as, kept_by, kept_option, line_kept, may_stand, option_kept_as}
use Rattle.casdisk_texts.specs.Traces.{options_kept, rank_kept, things_in, things_kept}
use Rattle.casdisk_texts.specs.Traces.{unless_option, wider_config, with_thing}
use Rattle.casdisk_texts.specs.declared.fault.RunFault.{RunFault}
use Rattle.casdisk_texts.specs.declared.fault.RunFault.TheVariants.{BadLine, BadConfig, Input, Output, NoMemory}
use Rattle.casdisk_texts.specs.declared.meaning.Taken.{Taken}
use Rattle.casdisk_texts.specs.declared.meaning.Taken.TheVariants.{Bad, Done}
use Rattle.casdisk_texts.proofs.Reaching.{end_is}

-- ---- what is kept is what it was

thing_again : (s : Seen) (past : Past) → things_kept (kept_as s ∷ past) ≡ s ∷ things_kept past
thing_again (Seen.Published p) past = refl
thing_again (Seen.Reaped r) past = refl

options_stay : (s : Seen) (past : Past) → options_kept (kept_as s ∷ past) ≡ options_kept past
options_stay (Seen.Published p) past = refl
options_stay (Seen.Reaped r) past = refl

last_is_thing : (s : Seen) (past : Past) → rank_kept (kept_as s ∷ past) ≡ 4
last_is_thing (Seen.Published p) past = refl
last_is_thing (Seen.Reaped r) past = refl

bit_again : (b : Bool) → (bit b == 1) ≡ b
bit_again true = refl
bit_again false = refl

fields_again : (i : IgnoredFields) → (let r : IgnoredFields = record {
  dnr = bit i.dnr == 1;
  more = bit i.more == 1;
  crd = bit i.crd == 1;
  dw0 = bit i.dw0 == 1;
  dw1 = bit i.dw1 == 1;
  sqhd = bit i.sqhd == 1;
} in r) ≡ i
fields_again i = rw (
  bit_again i.dnr,
  bit_again i.more,
  bit_again i.crd,
  bit_again i.dw0,
  bit_again i.dw1,
  bit_again
      i.sqhd,
) refl

option_again : (o : TraceOption) (past : Past)
    → options_kept (option_kept_as o ∷ past) ≡ with_option o (options_kept past)
option_again ContentsUnknown past = refl
option_again StatusesAny past = refl
option_again (Ignore i) past = ap (λ (j : IgnoredFields). with_option (Ignore j) (options_kept past)) (fields_again i)

things_stay : (o : TraceOption) (past : Past) → things_kept (option_kept_as o ∷ past) ≡ things_kept past
things_stay ContentsUnknown past = refl
things_stay StatusesAny past = refl
things_stay (Ignore i) past = refl

rank_again : (o : TraceOption) (past : Past) → rank_kept (option_kept_as o ∷ past) ≡ option_rank o
rank_again ContentsUnknown past = refl
rank_again StatusesAny past = refl
rank_again (Ignore i) past = refl

-- ---- one line more

-- one thing more
pub thing_collected : (c : ConfigNumbers) (wide : Option ConfigNumbers) (history : ConfigNumbers)
    (options : TraceOptions) (rank : ℕ) (things : List Seen) (s : Seen) (past : Past)
    → HasCollected c wide history options rank things past
    → HasCollected c wide history options 4 (things ++ s ∷ []) (kept_as s ∷ past)
thing_collected c wide history options rank things s past h =
    record {
      room = h.room;
      config = h.config;
      reads = h.reads ∙ sym (options_stay s past);
      last = sym (last_is_thing s past);
      seen = ap (λ (xs : List Seen). xs ++ s ∷ []) h.seen ∙ sym (reverse-append (s ∷ []) (things_kept past))
          ∙ ap reverse (sym (thing_again s past));
    }

-- the configuration of a history goes by one option alone
config_more : (c : ConfigNumbers) (wide : Option ConfigNumbers) (history new : ConfigNumbers) (options : TraceOptions)
    (o : TraceOption) → wide ≡ wider_config c → history ≡ history_numbers options c
    → config_after wide history o ≡ Some new → new ≡ history_numbers (with_option o options) c
config_more c wide history new options ContentsUnknown room config is = by (has_room c) (sym room ∙ is)
  where
    by : (b : Bool) → cond b (Some (history_numbers (with_option ContentsUnknown no_options) c)) None ≡ Some new
        → new ≡ history_numbers (with_option ContentsUnknown options) c
    by true e = sym (that _ new e)
      where
        that : (p q : ConfigNumbers) → Some p ≡ Some q → p ≡ q
        that p q e = cc
    by false e = absurd (let w : None ≡ Some new = e in cc)
config_more c wide history new options StatusesAny room config is = sym (that history new is) ∙ config
  where
    that : (p q : ConfigNumbers) → Some p ≡ Some q → p ≡ q
    that p q e = cc
config_more c wide history new options (Ignore i) room config is = sym (that history new is) ∙ config
  where
    that : (p q : ConfigNumbers) → Some p ≡ Some q → p ≡ q
    that p q e = cc

-- one option more
pub option_collected : (c : ConfigNumbers) (wide : Option ConfigNumbers) (history new : ConfigNumbers)
    (options : TraceOptions) (rank : ℕ) (things : List Seen) (o : TraceOption) (past : Past)
    → HasCollected c wide history options rank things past → config_after wide history o ≡ Some new
    → HasCollected c wide new (with_option o options) (option_rank o) things (option_kept_as o ∷ past)
option_collected c wide history new options rank things o past h is =
    record {
      room = h.room;
      config = config_more c wide history new options o h.room h.config is;
      reads = ap (with_option o) h.reads ∙ sym (option_again o past);
      last = sym (rank_again o past);
      seen = h.seen ∙ ap reverse (sym (things_stay o past));
    }

-- it may stand there
pub option_stands : (wide : Option ConfigNumbers) (history new : ConfigNumbers) (rank : ℕ) (o : TraceOption)
    (past : Past) → rank ≡ rank_kept past → rank < option_rank o → config_after wide history o ≡ Some new
    → kept_option (is_some wide) past o ≡ Some (option_kept_as o ∷ past, [])
option_stands wide history new rank o past last less is =
    ap (λ b. cond b (Some (option_kept_as o ∷ past, [])) None)
    (ap (λ b. b && (is_some wide || not (option_rank o == 1))) (lt-ltb (rank_kept past) (option_rank o)
    (omega (arith, last, less))) ∙ room o wide is)
  where
    room : (o : TraceOption) (wide : Option ConfigNumbers) → config_after wide history o ≡ Some new
        → (is_some wide || not (option_rank o == 1)) ≡ true
    room ContentsUnknown None e = absurd (let w : None ≡ Some new = e in cc)
    room ContentsUnknown (Some w) e = refl
    room StatusesAny None e = refl
    room StatusesAny (Some w) e = refl
    room (Ignore i) None e = refl
    room (Ignore i) (Some w) e = refl

-- it comes too late
pub option_late : (room : Bool) (rank : ℕ) (o : TraceOption) (past : Past) → rank ≡ rank_kept past
    → option_rank o ≤ rank → kept_option room past o ≡ None
option_late room rank o past last late =
    ap (λ b. cond (b && (room || not (option_rank o == 1))) (Some (option_kept_as o ∷ past, [])) None)
    (le-ltb (rank_kept past) (option_rank o) (omega (arith, last, late)))

-- there is no room
pub option_crowded : (wide : Option ConfigNumbers) (history : ConfigNumbers) (o : TraceOption) (past : Past)
    → config_after wide history o ≡ None → kept_option (is_some wide) past o ≡ None
option_crowded None history ContentsUnknown past e = none (nat_lt (rank_kept past) 1)
  where
    kept : Past × List ℕ
    kept = (option_kept_as ContentsUnknown ∷ past, [])

    none : (b : Bool) → cond (b && false) (Some kept) None ≡ None
    none true = refl
    none false = refl
option_crowded (Some w) history ContentsUnknown past e = absurd (let f : Some w ≡ None = e in cc)
option_crowded wide history StatusesAny past e = absurd (let f : Some history ≡ None = e in cc)
option_crowded wide history (Ignore i) past e = absurd (let f : Some history ≡ None = e in cc)

-- a line that says an option is taken, or bad
pub takes_option : (t : Taken) (room later : Bool) (past : Past) (line : List ℕ) (o : TraceOption)
    (Stands : Past → Type 0) (w : Option (List ℕ)) → option_in line ≡ Some o → later ≡ room
    → TakesOption t room past o Stands → TakesLine t (line_kept room) (line_kept later) past Stands line w w
takes_option Done room later past line o Stands w is same h = (
  (option_kept_as o ∷ past, []),
  ap (kept_by room past line) is ∙ h.0,
  h.1,
  ap line_kept same,
  Appends-nil w,
)
takes_option Bad room later past line o Stands w is same h = (ap (kept_by room past line) is ∙ h, Keeps-refl w)

-- there is a configuration with one queue pair more where there is room
pub room_is : (c : ConfigNumbers) (wide : Option ConfigNumbers) → wide ≡ wider_config c → is_some wide ≡ has_room c
room_is c wide e = ap is_some e ∙ by (has_room c)
  where
    by : (b : Bool) → is_some (cond b (Some (history_numbers (with_option ContentsUnknown no_options) c)) None) ≡ b
    by true = refl
    by false = refl

-- the lines behind the first are read so, where it is known whether there is room
pub begins_so : (outcome : List ℕ → Outcome) (a b : Bool) (r s w v : Option (List ℕ)) (held : List ℕ) → a ≡ b
    → Reached outcome (line_kept b) [] 2 r s w v held → Reached outcome (line_kept a) [] 2 r s w v held
begins_so outcome a b r s w v held e h =
    subst (λ (t : Bool). Reached outcome (line_kept t) [] 2 r s w v held) (sym e) h

-- before any line
pub none_collected : (c : ConfigNumbers) (wide : Option ConfigNumbers) → wide ≡ wider_config c
    → HasCollected c wide c no_options 0 [] []
none_collected c wide room = record { room = room; config = refl; reads = refl; last = refl; seen = refl }

-- ---- all lines

-- where each line says something, it is what is kept
pub record KeptAs (room : Bool) (past : Past) (lines : List (List ℕ)) (out : Outcome) : Type 0 where
  pub things : things_kept out.past ≡ reverse (things_in lines) ++ things_kept past
  pub options : options_kept out.past ≡ options_after (options_kept past) lines

one_thing : (things : List Seen) (s : Seen) (kept : List Seen)
    → reverse things ++ s ∷ kept ≡ reverse (s ∷ things) ++ kept
one_thing things s kept =
    sym (append_assoc (reverse things) (s ∷ []) kept)
    ∙ ap (λ (xs : List Seen). xs ++ kept) (sym (reverse-append (s ∷ []) things))

-- the same behind a line that says this
abbrev Behind : Past → List (List ℕ) → Option TraceOption → Option Seen → Outcome → Type 0
Behind past lines o s out =
    (things_kept out.past ≡ reverse (with_thing (unless_option o s) (things_in lines)) ++ things_kept past)
    × (options_kept out.past ≡ options_after (with_said o (options_kept past)) lines)

kept_lines : (room : Bool) (past : Past) (n : ℕ) (lines : List (List ℕ)) (rest : List ℕ)
    → (lines_print (line_kept room) past n lines rest).end ≡ done
    → KeptAs room past lines (lines_print (line_kept room) past n lines rest)
unfolding lines_print
kept_lines room past n [] [] h = record { things = refl; options = refl }
kept_lines room past n [] (b ∷ bs) h = absurd cc
kept_lines room past n (line ∷ lines) rest h =
    let r = by (option_in line) (λ p. kept_lines room p (n + 1) lines rest) h in
    record { things = r.0; options = r.1 }
  where
    more : Past → Outcome
    more p = lines_print (line_kept room) p (n + 1) lines rest

    stood : (o : TraceOption) (s : Option Seen) (b : Bool)
        → ((p : Past) → (more p).end ≡ done → KeptAs room p lines (more p))
        → (after_line n past (cond b (Some (option_kept_as o ∷ past, [])) None) more).end ≡ done
        → Behind past lines (Some o) s (after_line n past (cond b (Some (option_kept_as o ∷ past, [])) None) more)
    stood o s true go h =
        let k = go (option_kept_as o ∷ past) h in (
          k.things ∙ ap (λ (xs : List Seen). reverse (things_in lines) ++ xs) (things_stay o past),
          k.options ∙ ap (λ (p : TraceOptions). options_after p lines) (option_again o past),
        )
    stood o s false go h = absurd cc

    said : (s : Option Seen) → ((p : Past) → (more p).end ≡ done → KeptAs room p lines (more p))
        → (after_line n past (option_map (λ s. (kept_as s ∷ past, [])) s) more).end ≡ done
        → Behind past lines None s (after_line n past (option_map (λ s. (kept_as s ∷ past, [])) s) more)
    said None go h = absurd cc
    said (Some s) go h =
        let k = go (kept_as s ∷ past) h in (
          k.things ∙ ap (λ (xs : List Seen). reverse (things_in lines) ++ xs) (thing_again s past)
              ∙ one_thing (things_in lines) s (things_kept past),
          k.options ∙ ap (λ (p : TraceOptions). options_after p lines) (options_stay s past),
        )

    by : (o : Option TraceOption) → ((p : Past) → (more p).end ≡ done → KeptAs room p lines (more p))
        → (after_line n past (kept_by room past line o) more).end ≡ done
        → Behind past lines o (seen_in line) (after_line n past (kept_by room past line o) more)
    by None go h = said (seen_in line) go h
    by (Some o) go h = stood o (seen_in line) (may_stand room past o) go h

-- the same behind a first line that is taken
kept_text : (lines : List (List ℕ)) (rest : List ℕ)
    → (script_prints (λ c. line_kept (has_room c)) lines rest).end ≡ done
    → (things_kept (script_prints (λ c. line_kept (has_room c)) lines rest).past ≡ reverse (things_in (drop 1 lines)))
    × (options_kept (script_prints (λ c. line_kept (has_room c)) lines rest).past
    ≡ options_after no_options (drop 1 lines))
unfolding script_prints
kept_text [] rest h = absurd cc
kept_text (line ∷ lines) rest h = by (config_in line) h
  where
    taken : (room : Bool) (f : Option ConfigFault)
        → (after_numbers line f (lines_print (line_kept room) [] 2 lines rest)).end ≡ done
        → (things_kept (after_numbers line f (lines_print (line_kept room) [] 2 lines rest)).past
        ≡ reverse (things_in lines))
        × (options_kept (after_numbers line f (lines_print (line_kept room) [] 2 lines rest)).past
        ≡ options_after no_options lines)
    taken room None h =
        let k = kept_lines room [] 2 lines rest h in
        (k.things ∙ append-nil (reverse (things_in lines)), k.options)
    taken room (Some f) h = absurd cc

    by : (o : Option ConfigNumbers)
        → (after_config line o (λ c. lines_print (line_kept (has_room c)) [] 2 lines rest)).end ≡ done
        → (things_kept (after_config line o (λ c. lines_print (line_kept (has_room c)) [] 2 lines rest)).past
        ≡ reverse (things_in lines))
        × (options_kept (after_config line o (λ c. lines_print (line_kept (has_room c)) [] 2 lines rest)).past
        ≡ options_after no_options lines)
    by None h = absurd cc
    by (Some c) h = taken (has_room c) (config_fault c) h

-- ---- what is said of a trace, from what the reading of its lines gave

-- a fault of what isn't writing is none of memory
pub same_in_memory : (f : RunFault) → f ≢ Output → fault_in_memory f ≡ f
same_in_memory (BadLine n) other = refl
same_in_memory (BadConfig n) other = refl
same_in_memory Input other = refl
same_in_memory Output other = absurd (other refl)
same_in_memory NoMemory other = refl

pub trace_unread : (f : RunFault) (r t w u : Option (List ℕ))
    → RunsScript (script_outcome (λ c. line_kept (has_room c))) (Err f) r t w u
    → IsTraceUnread (fault_in_memory f) r t
trace_unread (BadLine n) r t w u (inl h) =
    inl (end_is (script_outcome (λ c. line_kept (has_room c))) (bad_line n) r w u h)
trace_unread (BadLine n) r t w u (inr h) =
    inr (end_is (script_outcome (λ c. line_kept (has_room c))) (cut n) r w u h)
trace_unread (BadConfig n) r t w u h =
    end_is (script_outcome (λ c. line_kept (has_room c))) (bad_config n) r w u h
trace_unread Input r t w u h = (h.0, h.1, h.2)
trace_unread Output r t w u h = tt
trace_unread NoMemory r t w u h = tt

pub whole_trace : (c : ConfigNumbers) (wide : Option ConfigNumbers) (history : ConfigNumbers) (options : TraceOptions)
    (rank : ℕ) (things : List Seen) (r t w u : Option (List ℕ))
    → RunsScript (script_outcome (λ d. line_kept (has_room d))) (Ok tt) r t w u
    → Makes (script_outcome (λ d. line_kept (has_room d))) (Ok tt) r (HasCollected c wide history options rank things)
    → IfSome r (λ bytes. first_config (whole_lines bytes) ≡ Some c)
    → IsAtEnd t × IfSome r (HasTrace (λ p d xs. (p ≡ options) × (d ≡ c) × (xs ≡ things)
    × (history ≡ history_numbers p d)))
whole_trace c wide history options rank things None t w u ran makes known = (ran.1, tt)
whole_trace c wide history options rank things (Some bytes) t w u ran makes known =
    let all = kept_text (whole_lines bytes) (rest_line bytes) ran.0.0 in
    let m : HasCollected c wide history options rank things
    (script_outcome (λ d. line_kept (has_room d)) bytes).past = makes in (
      ran.1,
      (
        ran.0.0,
        (
          c,
          known,
          (
            sym (m.reads ∙ all.1),
            refl,
            sym (m.seen ∙ ap reverse all.0 ∙ reverse-reverse (things_in (drop 1 (whole_lines bytes)))),
            m.config ∙ ap (λ (p : TraceOptions). history_numbers p c) (m.reads ∙ all.1),
          ),
        ),
      ),
    )
