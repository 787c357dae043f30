-- No history explains a trace with a bad line, as options read it.
use Rattle.std.proofs.Common.{◌≡◌, ℕ, zero, suc, Bool, true, false, ◌&&◌, ◌||◌, not, cond}
use Rattle.std.proofs.Common.{List, [], ◌∷◌, ◌++◌, Option, None, Some, length, slice_get, refl, sym, ap, ap₂, ◌∙◌}
use Rattle.std.proofs.Common.{subst}
use Rattle.std.proofs.Common.{eqb, nat_lt, is_none}
use Rattle.nvme_model.specs.Completions.{phase}
use Rattle.nvme_model.specs.Config.{is_accepted}
use Rattle.nvme_model.specs.EntryBytes.{cqe_fields, sqe_fields}
use Rattle.nvme_model.specs.History.{Past}
use Rattle.nvme_model.specs.Legal.{IsLegal}
use Rattle.nvme_model.specs.Statuses.{missing_fused, same_status}
use Rattle.nvme_model.specs.declared.config.ConfigNumbers.{ConfigNumbers}
use Rattle.nvme_model.specs.declared.entry.PublishLine.{PublishLine}
use Rattle.nvme_model.specs.declared.status.Status.{Status}
use Rattle.nvme_model.specs.declared.submission.Submission.{Submission}
use Rattle.nvme_model.specs.declared.entry.Entry.{Entry}
use Rattle.nvme_model.proofs.Beginnings.{earlier}
use Rattle.nvme_model.proofs.Rules.{follows}
use Rattle.host_laws.specs.Calls.{cqe_status, is_clean}
use Rattle.trace.specs.Aside.{aside_pair, comes_first, is_aside, own}
use Rattle.trace.specs.Observed.{Explains, observed}
use Rattle.trace.specs.Options.{Pointwise, ReadsAs, ReadsPublish, ReadsReap}
use Rattle.trace.specs.declared.options.TraceOptions.{TraceOptions}
use Rattle.trace.specs.declared.seen.ReapedLine.{ReapedLine}
use Rattle.trace.specs.declared.seen.Seen.{Seen}
use Rattle.trace.proofs.Aside.{first_before}
use Rattle.refutation.specs.Apart.{is_apart}
use Rattle.refutation.specs.LineRules.{has_wrong_head, has_wrong_phase, is_apart_from, is_second_apart}
use Rattle.refutation.specs.LineRules.{is_second_early, least_fetched, may_not_answer, names_no_entry}
use Rattle.refutation.specs.LineRules.{number_may_not, number_owes_other, owes_other_data}
use Rattle.refutation.specs.Lines.{answered, is_tidy, published_in, reaped_in}
use Rattle.refutation.specs.MayAnswer.{answers_first, has_fuse, may_answer, may_answer_behind}
use Rattle.refutation.specs.MayAnswer.{may_answer_first, may_answer_second, verdict_at}
use Rattle.refutation.specs.ReadRules.{breaks_read_rules, has_wrong_answer, is_bad_read_line}
use Rattle.refutation.proofs.Answering.{data_right, status_right}
use Rattle.refutation.proofs.EarlySeconds.{early_right}
use Rattle.refutation.proofs.LastLine.{LastPublish, LastReap, last_publish, last_reap, reap_of}
use Rattle.refutation.proofs.LeastFetched.{head_right}
use Rattle.refutation.proofs.LineOrders.{IsBeginning, beginning}
use Rattle.refutation.proofs.LineRules.{batch_right, entry_right, none_of, phase_right, queue_right}
use Rattle.refutation.proofs.Lines.{tidy_on}
use Rattle.refutation.proofs.OwnLines.{IsNarrow, is_other, own_answer, own_answered, own_least, own_parts}
use Rattle.refutation.proofs.OwnLines.{own_published, own_tidy, own_together, reaped_other}
use Rattle.refutation.proofs.OwnReaps.{aside_narrow, own_line, own_reaps}
use Rattle.refutation.proofs.ReadBits.{bits_read}
use Rattle.refutation.proofs.ReadFields.{sqid_read}
use Rattle.refutation.proofs.ReadLines.{Reads, same_tidy}
use Rattle.refutation.proofs.ReadRules.{read_batch, same_entry, same_head, same_phase, same_queue, same_wrong}
use Rattle.refutation.proofs.Seconds.{second_right}

-- ---- the rules, with the lines of the pair that the trace lacks and without

own_head : (n : Option ℕ) (c : ConfigNumbers) (seen : List Seen) (r : ReapedLine)
    → is_aside n (Seen.Reaped r) ≡ false → has_wrong_head c (own n seen) r ≡ has_wrong_head c seen r
own_head n c seen r e =
    let q = (cqe_fields r.cqe).sqid in
    let o = reaped_other n r e in
    let least : least_fetched c (Seen.Reaped r ∷ own n seen) q ≡ least_fetched c (Seen.Reaped r ∷ seen) q =
    ap (λ (b : Bool). least_fetched c (cond b (own n seen) (Seen.Reaped r ∷ own n seen)) q) (sym e)
    ∙ own_least n c (Seen.Reaped r ∷ seen) q o in
    ap₂ (λ (l : List Submission) (k : ℕ). not (nat_lt (cqe_fields r.cqe).sqhd c.sq_size) || nat_lt (length l) k)
    (own_published n seen q o) least

own_may : (n : Option ℕ) (c : ConfigNumbers) (seen : List Seen) (q j : ℕ) (entry : Submission) (s : Status)
    → is_other n q ≡ true → may_answer c (own n seen) q j entry s ≡ may_answer c seen q j entry s
own_may n c seen q j entry s o = ap₂ (λ (x y : Bool). x || y) first (second j)
  where
    same : published_in (own n seen) q ≡ published_in seen q
    same = own_published n seen q o

    first : may_answer_first c (own n seen) q j entry s ≡ may_answer_first c seen q j entry s
    first =
        ap₂ (λ (x y : Bool). not x && y) (own_parts n seen q j o)
        (ap₂ (λ (es : List Submission) (b : Bool).
        answers_first (verdict_at c entry (slice_get es (suc j))) (sqe_fields entry.entry) s
        || (not b && answers_first (verdict_at c entry None) (sqe_fields entry.entry) s)) same
        (own_together n seen q j o))

    second : (i : ℕ) → may_answer_second c (own n seen) q i entry s ≡ may_answer_second c seen q i entry s
    second zero = refl
    second (suc i) = ap (λ (es : List Submission). may_answer_behind c (slice_get es i) entry s) same

own_status : (n : Option ℕ) (c : ConfigNumbers) (seen : List Seen) (q : ℕ) (k : Option ℕ) (s : Status)
    → is_other n q ≡ true → number_may_not c (own n seen) q k s ≡ number_may_not c seen q k s
own_status n c seen q None s o = refl
own_status n c seen q (Some j) s o =
    ap (λ (es : List Submission). may_not_answer c (own n seen) q j (slice_get es j) s) (own_published n seen q o)
    ∙ by (slice_get (published_in seen q) j)
  where
    by : (e : Option Submission) → may_not_answer c (own n seen) q j e s ≡ may_not_answer c seen q j e s
    by None = refl
    by (Some entry) = ap not (own_may n c seen q j entry s o)

own_second : (n : Option ℕ) (seen : List Seen) (q : ℕ) (k : Option ℕ) (s : Status) → is_other n q ≡ true
    → is_second_apart (own n seen) q k s ≡ is_second_apart seen q k s
own_second n seen q None s o = refl
own_second n seen q (Some zero) s o = refl
own_second n seen q (Some (suc i)) s o =
    ap₂ (λ (es : List Submission) (a : Option ReapedLine).
    has_fuse 1 (slice_get es i) && has_fuse 2 (slice_get es (suc i)) && is_apart_from a s)
    (own_published n seen q o) (own_answer n seen q i o)

own_early : (n : Option ℕ) (seen : List Seen) (q : ℕ) (k : Option ℕ) (s : Status) → is_other n q ≡ true
    → is_second_early (own n seen) q k s ≡ is_second_early seen q k s
own_early n seen q None s o = refl
own_early n seen q (Some zero) s o = refl
own_early n seen q (Some (suc i)) s o =
    ap₂ (λ (es : List Submission) (a : Option ReapedLine).
    has_fuse 1 (slice_get es i) && has_fuse 2 (slice_get es (suc i)) && is_none a
    && not (same_status s missing_fused)) (own_published n seen q o) (own_answer n seen q i o)

own_data : (n : Option ℕ) (seen : List Seen) (q : ℕ) (k : Option ℕ) (s : Status) (m : ℕ) → is_other n q ≡ true
    → number_owes_other (own n seen) q k s m ≡ number_owes_other seen q k s m
own_data n seen q None s m o = refl
own_data n seen q (Some j) s m o =
    ap (λ (es : List Submission). owes_other_data (slice_get es j) s m) (own_published n seen q o)

own_wrong : (n : Option ℕ) (c : ConfigNumbers) (seen : List Seen) (r : ReapedLine)
    → is_other n (cqe_fields r.cqe).sqid ≡ true → has_wrong_answer c (own n seen) r ≡ has_wrong_answer c seen r
own_wrong n c seen r o =
    let q = (cqe_fields r.cqe).sqid in
    let k = answered seen r.cqe in
    let s = cqe_status r.cqe in
    let number = own_answered n seen r o in
    ap₂ (λ (x y : Bool). x || y) (ap₂ (λ (x y : Bool). x || y) (ap₂ (λ (x y : Bool). x || y)
    (ap (λ (i : Option ℕ). number_may_not c (own n seen) q i s) number ∙ own_status n c seen q k s o)
    (ap (λ (i : Option ℕ). is_second_apart (own n seen) q i s) number ∙ own_second n seen q k s o))
    (ap (λ (i : Option ℕ). is_second_early (own n seen) q i s) number ∙ own_early n seen q k s o))
    (ap (λ (i : Option ℕ). number_owes_other (own n seen) q i s (length r.payload)) number
    ∙ own_data n seen q k s (length r.payload) o)

-- ---- the newest line

-- the rules that ask which entry is answered
entry_rules : (o : TraceOptions) (n : Option ℕ) (c : ConfigNumbers) (seen trace : List Seen) (r t : ReapedLine)
    → is_accepted c ≡ true → IsNarrow n → is_aside n (Seen.Reaped r) ≡ false → LastReap c r seen
    → Reads o (own n seen) trace → ReadsReap o r t → (is_tidy trace && breaks_read_rules o c trace t) ≡ false
entry_rules o n c seen trace r t a few off l h g = by_tidy (is_tidy trace) refl
  where
    other : is_other n (cqe_fields r.cqe).sqid ≡ true
    other = reaped_other n r off

    entry : tidy_on (cqe_fields r.cqe).sqid seen ≡ true → names_no_entry trace t ≡ false
    entry d =
        ap is_none (sym (same_entry o (own n seen) trace r t h g) ∙ own_answered n seen r other)
        ∙ entry_right c r seen d l

    head : tidy_on (cqe_fields r.cqe).sqid seen ≡ true → (b : Bool) → o.ignored.sqhd ≡ b
        → (not b && has_wrong_head c trace t) ≡ false
    head d true e = refl
    head d false e =
        sym (same_head o c (own n seen) trace r t e h g) ∙ (own_head n c seen r off ∙ head_right c r seen a d l)

    answer : tidy_on (cqe_fields r.cqe).sqid seen ≡ true → (b : Bool) → o.statuses_any ≡ b
        → (not b && has_wrong_answer c trace t) ≡ false
    answer d true e = refl
    answer d false e =
        sym (same_wrong o c (own n seen) trace r t e h g)
        ∙ (own_wrong n c seen r other
        ∙ none_of _ _ (none_of _ _ (none_of _ _ (status_right c r seen d l) (second_right c r seen d l))
        (early_right c r seen d l)) (data_right c r seen d l))

    by_tidy : (b : Bool) → is_tidy trace ≡ b → (b && breaks_read_rules o c trace t) ≡ false
    by_tidy false e = refl
    by_tidy true e =
        let d = own_tidy n seen (cqe_fields r.cqe).sqid few other (same_tidy o (own n seen) trace h ∙ e) in
        none_of _ _ (none_of _ _ (entry d) (head d o.ignored.sqhd refl)) (answer d o.statuses_any refl)

-- the phase tag, where the trace has each completion of its queues
phase_rule : (o : TraceOptions) (c : ConfigNumbers) (seen trace : List Seen) (r t : ReapedLine) → is_accepted c ≡ true
    → is_aside (aside_pair o c) (Seen.Reaped r) ≡ false → LastReap c r seen → Reads o (own (aside_pair o c) seen) trace
    → ReadsReap o r t → (is_apart o c && has_wrong_phase c trace t) ≡ false
phase_rule o c seen trace r t a off l h g = by (is_apart o c) refl
  where
    by : (b : Bool) → is_apart o c ≡ b → (b && has_wrong_phase c trace t) ≡ false
    by false e = refl
    by true e =
        let n = aside_pair o c in
        let other = own_line o c l.before (reap_of r) a l.legal e (reaped_other n r off) in
        let count : reaped_in (own n seen) r.queue ≡ reaped_in seen r.queue =
        subst (λ (x : List Seen). reaped_in (own n x) r.queue ≡ reaped_in x r.queue) l.seen
        (own_reaps o c l.before r.queue a (follows c l.before (Entry.Reap (reap_of r)) l.legal).before e other) in
        sym (same_phase o c (own n seen) trace r t h g)
        ∙ (ap (λ (k : ℕ). not (eqb (cqe_fields r.cqe).phase (phase k c.cq_size))) count ∙ phase_right c r seen l)

read_reap : (o : TraceOptions) (c : ConfigNumbers) (seen trace : List Seen) (r t : ReapedLine) → is_accepted c ≡ true
    → is_aside (aside_pair o c) (Seen.Reaped r) ≡ false → LastReap c r seen → Reads o (own (aside_pair o c) seen) trace
    → ReadsReap o r t → is_bad_read_line o c (Seen.Reaped t ∷ trace) ≡ false
read_reap o c seen trace r t a off l h g =
    none_of _ _ (none_of _ _ (none_of _ _ (none_of _ _ (sym (same_aside (aside_pair o c)) ∙ off)
    (ap (λ (b : List ℕ). not (is_clean b)) (sym g.1) ∙ ap not (bits_read o c r seen l)))
    (phase_rule o c seen trace r t a off l h g))
    (sym (same_queue o c r t g) ∙ queue_right c r seen a l))
    (entry_rules o (aside_pair o c) c seen trace r t a (aside_narrow o c a) off l h g)
  where
    same_aside : (n : Option ℕ) → is_aside n (Seen.Reaped r) ≡ is_aside n (Seen.Reaped t)
    same_aside None = refl
    same_aside (Some m) = ap (λ (q : ℕ). eqb q m) (sqid_read o r.cqe t.cqe g.1)

read_publish : (o : TraceOptions) (c : ConfigNumbers) (seen trace : List Seen) (p t : PublishLine)
    → is_aside (aside_pair o c) (Seen.Published p) ≡ false → LastPublish c p seen
    → ReadsPublish o p t → is_bad_read_line o c (Seen.Published t ∷ trace) ≡ false
read_publish o c seen trace p t off l g =
    none_of _ _ (sym (same_aside (aside_pair o c)) ∙ off) (sym (read_batch o c p t g.0 g.1) ∙ batch_right c p seen l)
  where
    same_aside : (n : Option ℕ) → is_aside n (Seen.Published p) ≡ is_aside n (Seen.Published t)
    same_aside None = refl
    same_aside (Some m) = ap (λ (q : ℕ). eqb q m) g.0

read_line : (o : TraceOptions) (c : ConfigNumbers) (past : Past) (seen trace : List Seen) → is_accepted c ≡ true
    → IsLegal c past → observed c past ≡ seen → Reads o (own (aside_pair o c) seen) trace
    → is_bad_read_line o c trace ≡ false
read_line o c past [] [] a h e g = refl
read_line o c past [] (t ∷ trace) a h e g = absurd g
read_line o c past (s ∷ seen) trace a h e g =
    by (is_aside (aside_pair o c) s) refl trace g (λ b x. read_line o c b seen trace a x)
  where
    rest : IsBeginning c past seen
    rest = beginning c past (s ∷ []) seen e

    line : (s : Seen) (trace : List Seen) → is_aside (aside_pair o c) s ≡ false → observed c past ≡ s ∷ seen
        → Reads o (s ∷ own (aside_pair o c) seen) trace → is_bad_read_line o c trace ≡ false
    line s [] off e g = absurd g
    line (Seen.Published p) (Seen.Published t ∷ trace) off e g =
        read_publish o c seen trace p t off (last_publish c past p seen h e) g.0
    line (Seen.Published p) (Seen.Reaped t ∷ trace) off e g = absurd g.0
    line (Seen.Reaped r) (Seen.Published t ∷ trace) off e g = absurd g.0
    line (Seen.Reaped r) (Seen.Reaped t ∷ trace) off e g =
        read_reap o c seen trace r t a off (last_reap c past r seen h e) g.1 g.0

    by : (b : Bool) → is_aside (aside_pair o c) s ≡ b → (trace : List Seen)
        → Reads o (cond b (own (aside_pair o c) seen) (s ∷ own (aside_pair o c) seen)) trace
        → ((b : Past) → IsLegal c b → observed c b ≡ seen → Reads o (own (aside_pair o c) seen) trace
        → is_bad_read_line o c trace ≡ false)
        → is_bad_read_line o c trace ≡ false
    by true off trace g go =
        go rest.1 (earlier c rest.0 rest.1 (subst (λ (p : Past). IsLegal c p) rest.2 h)) rest.3 g
    by false off trace g go = line s trace off e g

-- ---- a line with more lines behind it

front_of : {A : Type 0} (R : A → A → Type 0) (xs ys vs : List A) → Pointwise R xs (ys ++ vs)
    → (us ws : List A) × (xs ≡ us ++ ws) × Pointwise R ws vs
front_of R xs [] vs h = ([], xs, refl, h)
front_of R [] (y ∷ ys) vs h = absurd h
front_of R (x ∷ xs) (y ∷ ys) vs h =
    let r = front_of R xs ys vs h.1 in
    (x ∷ r.0, r.1, ap (λ (l : List _). x ∷ l) r.2, r.3)

-- the last lines of a trace are those of the last that were seen
own_front : (n : Option ℕ) (seen us ws : List Seen) → own n seen ≡ us ++ ws
    → (more rest : List Seen) × (seen ≡ more ++ rest) × (own n rest ≡ ws)
own_front n seen [] ws e = ([], seen, refl, e)
own_front n [] (u ∷ us) ws e = absurd (let f : [] ≡ u ∷ (us ++ ws) = e in cc)
own_front n (s ∷ seen) (u ∷ us) ws e = by (is_aside n s) e (own_front n seen (u ∷ us) ws) (own_front n seen us ws)
  where
    with_one : (more rest : List Seen) × (seen ≡ more ++ rest) × (own n rest ≡ ws)
        → (more rest : List Seen) × (s ∷ seen ≡ more ++ rest) × (own n rest ≡ ws)
    with_one x = (s ∷ x.0, x.1, ap (λ (l : List Seen). s ∷ l) x.2, x.3)

    by : (b : Bool) → cond b (own n seen) (s ∷ own n seen) ≡ u ∷ (us ++ ws)
        → (own n seen ≡ u ∷ (us ++ ws) → (more rest : List Seen) × (seen ≡ more ++ rest) × (own n rest ≡ ws))
        → (own n seen ≡ us ++ ws → (more rest : List Seen) × (seen ≡ more ++ rest) × (own n rest ≡ ws))
        → (more rest : List Seen) × (s ∷ seen ≡ more ++ rest) × (own n rest ≡ ws)
    by true e here next = with_one (here e)
    by false e here next = with_one (next (tail e))
      where
        tail : s ∷ own n seen ≡ u ∷ (us ++ ws) → own n seen ≡ us ++ ws
        tail f = cc

-- a beginning of the history, which shows what is read as the first lines
pub record ReadsFirst (o : TraceOptions) (c : ConfigNumbers) (past : Past) (trace : List Seen) : Type 0 where
  pub later : Past
  pub start : Past
  pub is : past ≡ later ++ start
  pub legal : IsLegal c start
  pub first : comes_first (aside_pair o c) (observed c start) ≡ true
  pub reads : Reads o (own (aside_pair o c) (observed c start)) trace

pub reads_first : (o : TraceOptions) (c : ConfigNumbers) (past : Past) (more trace : List Seen)
    → Explains o c past (more ++ trace) → ReadsFirst o c past trace
reads_first o c past more trace h =
    let n = aside_pair o c in
    let f = front_of (ReadsAs o) (own n (observed c past)) more trace h.1.1 in
    let w = own_front n (observed c past) f.0 f.1 f.2 in
    let b = beginning c past w.0 w.1 w.2 in
    record {
      later = b.0;
      start = b.1;
      is = b.2;
      legal = earlier c b.0 b.1 (subst (λ (p : Past). IsLegal c p) b.2 h.0);
      first = ap (comes_first n) b.3
          ∙ first_before n w.0 w.1 (ap (comes_first n) (sym w.2) ∙ h.1.0);
      reads = subst (λ (seen : List Seen). Reads o seen trace) (sym (ap (own n) b.3 ∙ w.3)) f.3;
    }

pub nothing_reads : (o : TraceOptions) (c : ConfigNumbers) (past : Past) (more trace : List Seen)
    → is_accepted c ≡ true → is_bad_read_line o c trace ≡ true → Explains o c past (more ++ trace) → ⊥
nothing_reads o c past more trace a bad h =
    let b = reads_first o c past more trace h in
    let good = read_line o c b.start (observed c b.start) trace a b.legal refl b.reads in
    let z : true ≡ false = sym bad ∙ good in cc
