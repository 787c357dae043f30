-- A file of entries is checked up to its first bad step.
use Rattle.std.proofs.Common.{◌≡◌, ℕ, ◌+◌, List, [], ◌∷◌, ◌++◌, Option, None, Some, refl, sym, ap, ◌∙◌, subst}
use Rattle.std.proofs.Common.{cond, length, arith}
use Rattle.std.specs.Prelude.{Bool, Err, IfSome, Ok, Result, is_none, is_some, option_map, true, false}
use Rattle.std.specs.Io.KnownBytes.{IsAtEnd}
use Rattle.std.proofs.KnownBytes.{Keeps-refl}
use Rattle.line_text.specs.Lines.{GivesFront, rest_line, whole_lines}
use Rattle.line_text.specs.declared.lines.ReadFault.{ReadFault}
use Rattle.line_text.proofs.Known.{known_input}
use Rattle.line_text.proofs.LineLaws.{rest_is_last}
use Rattle.nvme_model.specs.FirstBad.{earlier_or, first_bad_of}
use Rattle.nvme_model.specs.History.{Past}
use Rattle.nvme_model.specs.Legal.{IsLegal, legal, may_follow}
use Rattle.nvme_model.specs.declared.config.ConfigNumbers.{ConfigNumbers}
use Rattle.nvme_model.specs.declared.entry.Entry.{Entry}
use Rattle.broken_rules.specs.Broken.{first_broken}
use Rattle.broken_rules.specs.declared.broken.Broken.{Broken}
use Rattle.history.specs.Lines.{entry_in}
use Rattle.casdisk_texts.specs.Entries.{IsReadTo, StopsBehind}
use Rattle.casdisk_texts.specs.Fault.{fault_of_read}
use Rattle.casdisk_texts.specs.Files.{HasHistory, IsUnread, entry_added, file_of}
use Rattle.casdisk_texts.specs.Explained.{explained_of}
use Rattle.casdisk_texts.specs.Followed.{AreLegalIn, ExplainsFollowed, FollowsText, IsFollowed, IsFollowedTo}
use Rattle.casdisk_texts.specs.Followed.{IsUnfollowed, StopsFirst}
use Rattle.casdisk_texts.specs.Judged.{HasFirstBad, TellsAnswer, answer_text, first_rule}
use Rattle.casdisk_texts.specs.Script.{IsOpenEnd, Outcome, after_line, first_config, lines_print, script_prints}
use Rattle.casdisk_texts.specs.declared.fault.RunFault.{RunFault}
use Rattle.casdisk_texts.specs.declared.fault.RunFault.TheVariants.{BadLine, BadConfig, Input, Output, NoMemory}
use Rattle.casdisk_texts.specs.declared.judging.FirstBad.{FirstBad}
use Rattle.casdisk_texts.proofs.Answering.{stopped}
use Rattle.casdisk_texts.proofs.Beginning.{no_lines}
use Rattle.casdisk_texts.proofs.Placing.{answered_by, explained_by, not_legal}

-- ---- lines

module _ (why : Bool) (c : ConfigNumbers) (bad : FirstBad) (place : ℕ) (is : bad.place ≡ Some place) where
  -- nor does one step more
  still_bad : (past : Past) (x : Entry) → HasFirstBad why c past bad → HasFirstBad why c (x ∷ past) bad
  still_bad past x h =
      record {
        place =
            is
            ∙ ap (λ o. earlier_or o (cond (may_follow c past x) None (Some (length past + 1)))) (sym is ∙ h.place);
        rule = λ asked.
            h.rule asked
            ∙ sym (ap (λ l. cond l (first_broken c past x) (first_rule c past))
            (not_legal c past bad.place (ap is_some is) h.place));
      }

  -- what comes behind the first bad step doesn't move it, nor its rule
  bad_stays : (past : Past) (n : ℕ) (lines : List (List ℕ)) (rest : List ℕ) → HasFirstBad why c past bad
      → HasFirstBad why c (lines_print entry_added past n lines rest).past bad
  unfolding lines_print
  bad_stays past n [] [] h = h
  bad_stays past n [] (b ∷ bs) h = h
  bad_stays past n (line ∷ lines) rest h =
      go (entry_in line) (λ x. bad_stays (x ∷ past) (n + 1) lines rest (still_bad past x h))
    where
      go : (o : Option Entry) → ((x : Entry)
          → HasFirstBad why c (lines_print entry_added (x ∷ past) (n + 1) lines rest).past bad)
          → HasFirstBad why c (after_line n past (option_map (λ x. (x ∷ past, [])) o)
          (λ after. lines_print entry_added after (n + 1) lines rest)).past bad
      go None more = h
      go (Some x) more = more x

module _ (c : ConfigNumbers) (past : Past) (r s : Option (List ℕ))
    (known : IfSome r (λ bytes. first_config (whole_lines bytes) ≡ Some c)) where
  -- it stays, whatever stands behind it
  bad_there : (why : Bool) (bad : FirstBad) (place n : ℕ) (held : List ℕ) → bad.place ≡ Some place
      → IsReadTo past n r s held → HasFirstBad why c past bad → IsFollowedTo why bad (Some place) r s
  bad_there why bad place n held is at h =
      started r known (known_input r s at.bytes (λ bytes. HasFirstBad why c (file_of bytes).past bad) at.consumed
      (λ more.
      subst (λ (o : Outcome). HasFirstBad why c o.past bad) (sym (at.agrees more))
      (bad_stays why c bad place is past n (whole_lines (held ++ more)) (rest_line (held ++ more)) h)))
    where
      started : (x : Option (List ℕ)) → IfSome x (λ bytes. first_config (whole_lines bytes) ≡ Some c)
          → IfSome x (λ bytes. HasFirstBad why c (file_of bytes).past bad) → IsFollowedTo why bad (Some place) x s
      started None is h = tt
      started (Some bytes) is h = (c, is, h)

  pub bad_here : (why : Bool) (bad : FirstBad) (n : ℕ) (held : List ℕ) → is_some bad.place ≡ true
      → IsReadTo past n r s held → HasFirstBad why c past bad → IsFollowedTo why bad bad.place r s
  bad_here why bad n held some at h = go bad.place refl some
    where
      go : (p : Option ℕ) → bad.place ≡ p → is_some p ≡ true → IsFollowedTo why bad p r s
      go None is e = absurd (let f : false ≡ true = e in cc)
      go (Some place) is e = bad_there why bad place n held is at h

  module _ (legal : IsLegal c past) where
    -- it has no other configuration
    legal_in : (bytes : List ℕ) (es : Past) → first_config (whole_lines bytes) ≡ Some c → es ≡ past
        → AreLegalIn bytes es
    legal_in bytes es is e d also =
        let same : c ≡ d = cc (is, also) in
        subst (λ k. IsLegal k es) same (subst (IsLegal c) (sym e) legal)

    -- no step was bad
    pub unfollowed : (f : RunFault) → StopsBehind past f r s → IsUnfollowed f r s
    unfollowed (BadLine n) h = (stopped past (BadLine n) r s h, λ more. go r known h)
      where
        go : (x : Option (List ℕ)) → IfSome x (λ bytes. first_config (whole_lines bytes) ≡ Some c)
            → StopsBehind past (BadLine n) x s → IfSome x (λ all. AreLegalIn all (file_of all).past)
        go None is p = tt
        go (Some bytes) is p = legal_in bytes (file_of bytes).past is p.1
    unfollowed (BadConfig n) h = absurd h
    unfollowed Input h = (h.0, h.1, h.2, go r known)
      where
        go : (x : Option (List ℕ)) → IfSome x (λ bytes. first_config (whole_lines bytes) ≡ Some c)
            → IfSome x (λ all. AreLegalIn all (file_of h.0).past)
        go None is = tt
        go (Some bytes) is = legal_in bytes (file_of h.0).past is h.3
    unfollowed Output h = absurd h
    unfollowed NoMemory h = tt

-- ---- the first line

pub lost_file : (f : ReadFault) (r t : Option (List ℕ)) (after line : List ℕ) → GivesFront r t [] after line
    → (f ≡ ReadFault.Input → after ≡ []) → StopsFirst (fault_of_read f) r t
lost_file ReadFault.Input r t after line g none =
    let bytes = g.0.bytes in (
      bytes,
      g.0.consumed,
      ap (λ l. script_prints (λ c. entry_added) l (rest_line bytes))
          (rest_is_last r t [] after line g.0 g.1 (none refl)).0 ∙ no_lines (λ c. entry_added) (rest_line bytes),
    )
lost_file ReadFault.NoMemory r t after line g none = tt

pub first_unfollowed : (f : RunFault) (r t : Option (List ℕ)) → StopsFirst f r t → IsUnread f r t → IsUnfollowed f r t
first_unfollowed (BadLine n) r t first unread = (unread, λ more. absurd (omega (arith, more, first)))
first_unfollowed (BadConfig n) r t first unread = unread
first_unfollowed Input r t first unread =
    (first.0, first.1, subst (λ (o : Outcome). IsOpenEnd o.end) (sym first.2) tt, go r)
  where
    go : (x : Option (List ℕ)) → IfSome x (λ all. AreLegalIn all (file_of first.0).past)
    go None = tt
    go (Some all) = λ c e. subst (λ (o : Outcome). IsLegal c o.past) (sym first.2) refl
first_unfollowed Output r t first unread = unread
first_unfollowed NoMemory r t first unread = unread

-- no step of it was bad
pub followed_whole : (why : Bool) (bad : FirstBad) (r t : Option (List ℕ)) → bad.place ≡ None → IsAtEnd t
    → IfSome r (HasHistory IsLegal) → IsFollowedTo why bad bad.place r t
followed_whole why bad r t none end h = subst (λ p. IsFollowedTo why bad p r t) (sym none) (end, h)

-- ---- the answer

module _ (bad : FirstBad) where
  -- it is that of the file
  answer_followed : (place : Option ℕ) → bad.place ≡ place → (bytes : List ℕ) (left : Option (List ℕ))
      → IsFollowedTo false bad place (Some bytes) left → IsFollowed (is_none place) (answer_text place) bytes
  answer_followed None is bytes left h = (h.1.0, (h.1.1.0, h.1.1.1, (h.1.1.2, refl)))
  answer_followed (Some place) is bytes left h =
      (h.0, h.1, answered_by h.0 (file_of bytes).past (Some place) (sym is ∙ h.2.place))

  pub told_followed : (place : Option ℕ) → bad.place ≡ place → (res : Result Bool RunFault)
      (r t v x : Option (List ℕ)) → IsFollowedTo false bad place r t → TellsAnswer place res v x
      → FollowsText res r t v x
  told_followed None is (Ok true) None t v x h told = (h.0, tt)
  told_followed None is (Ok true) (Some bytes) t v x h told =
      (h.0, (answer_text None, answer_followed None is bytes t h, told.1))
  told_followed None is (Ok false) r t v x h told = absurd (let f : false ≡ true = told.0 in cc)
  told_followed (Some place) is (Ok true) r t v x h told = absurd (let f : true ≡ false = told.0 in cc)
  told_followed (Some place) is (Ok false) None t v x h told = tt
  told_followed (Some place) is (Ok false) (Some bytes) t v x h told =
      (answer_text (Some place), answer_followed (Some place) is bytes t h, told.1)
  told_followed place is (Err (BadLine n)) r t v x h told = absurd told
  told_followed place is (Err (BadConfig n)) r t v x h told = absurd told
  told_followed place is (Err Input) r t v x h told = absurd told
  told_followed place is (Err Output) None t v x h told = tt
  told_followed place is (Err Output) (Some bytes) t v x h told =
      (is_none place, answer_text place, answer_followed place is bytes t h, told)
  told_followed place is (Err NoMemory) r t v x h told = absurd told

  -- a bad step breaks a rule
  pub explained_followed : (place : Option ℕ) (broken : Option Broken) → bad.place ≡ place → bad.broken ≡ broken
      → (r t : Option (List ℕ)) → IsFollowedTo true bad place r t
      → ExplainsFollowed (Ok (explained_of place broken)) r t
  explained_followed None broken is has None t h = tt
  explained_followed None broken is has (Some bytes) t h = h
  explained_followed (Some place) None is has None t h = tt
  explained_followed (Some place) None is has (Some bytes) t h =
      let past = (file_of bytes).past in
      let at : Some place ≡ first_bad_of h.0 past = sym is ∙ h.2.place in
      let good : true ≡ legal h.0 past =
      sym (explained_by h.0 past (Some place) None at (sym has ∙ h.2.rule refl)) in
      absurd (let f : true ≡ false = good ∙ not_legal h.0 past (Some place) refl at in cc)
  explained_followed (Some place) (Some b) is has None t h = tt
  explained_followed (Some place) (Some b) is has (Some bytes) t h = (
    h.0,
    h.1,
    explained_by h.0 (file_of bytes).past (Some place) (Some b) (sym is ∙ h.2.place)
        (sym has ∙ h.2.rule refl),
  )

pub unsaid_followed : (f : RunFault) (r t v : Option (List ℕ)) → IsUnfollowed f r t → FollowsText (Err f) r t v v
unsaid_followed (BadLine n) r t v h = (h, Keeps-refl v)
unsaid_followed (BadConfig n) r t v h = (h, Keeps-refl v)
unsaid_followed Input r t v h = (h, Keeps-refl v)
unsaid_followed Output r t v h = absurd h
unsaid_followed NoMemory r t v h = (h, Keeps-refl v)
