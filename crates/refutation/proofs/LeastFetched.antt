-- As many entries were fetched as a trace says at least.
use Rattle.std.proofs.Common.{cond, ◌≡◌, ℕ, suc, ◌%◌, ◌<◌, ◌≤◌, Bool, true, false, List, [], ◌∷◌}
use Rattle.std.proofs.Common.{◌⊎◌, Some, length, max, slice_get, nat_lt, refl, sym, ap, ◌∙◌, subst, inl}
use Rattle.std.proofs.Common.{inr, arith, eqb, eqb-true, eq-eqb, not}
use Rattle.std.proofs.Math.Nat.{max-le, mod-lt}
use Rattle.std.proofs.lemmas.Bool.{cases_lt, cond-true, cond-false, le-ltb, lt-ltb}
use Rattle.ticket_laws.proofs.Counts.{fetched_within}
use Rattle.nvme_model.specs.Completions.{reaped_count}
use Rattle.nvme_model.specs.Config.{completion_queue, config_fault, is_accepted}
use Rattle.nvme_model.specs.EntryBytes.{cqe_fields}
use Rattle.nvme_model.specs.History.{Past}
use Rattle.nvme_model.specs.Legal.{IsLegal}
use Rattle.nvme_model.specs.Queues.{fetched_count, published_entries}
use Rattle.nvme_model.specs.declared.config.ConfigNumbers.{ConfigNumbers}
use Rattle.nvme_model.specs.declared.entry.Entry.{Entry}
use Rattle.nvme_model.specs.declared.entry.PostLine.{PostLine}
use Rattle.nvme_model.specs.declared.entry.ReapLine.{ReapLine}
use Rattle.nvme_model.specs.declared.submission.Submission.{Submission}
use Rattle.nvme_model.proofs.Accepted.{accepted}
use Rattle.nvme_model.proofs.Rules.{follows}
use Rattle.host_laws.specs.Calls.{PostedAnswer, ReapAnswers}
use Rattle.host_laws.proofs.Elements.{get_append}
use Rattle.host_laws.proofs.Reaps.{reap_answers}
use Rattle.trace.specs.Observed.{observed}
use Rattle.trace.specs.declared.seen.ReapedLine.{ReapedLine}
use Rattle.trace.specs.declared.seen.Seen.{Seen}
use Rattle.refutation.specs.LineRules.{count_to, has_wrong_head, least_fetched, next_at, next_whole}
use Rattle.refutation.specs.MayAnswer.{parts_pair}
use Rattle.refutation.specs.Lines.{answered, published_in}
use Rattle.refutation.proofs.Heads.{FitsHead, Head, head_is, head_of, heads, heads_rise, next_below}
use Rattle.refutation.proofs.WholePairs.{head_is_whole}
use Rattle.refutation.proofs.LastLine.{LastReap, reap_of, reaped_answer}
use Rattle.refutation.proofs.LineRules.{none_of}
use Rattle.refutation.proofs.Lines.{AnswersOne, answers_one, names_queue, none_is, published_seen, tidy_on}
use Rattle.refutation.proofs.Lines.{tidy_publish}

-- ---- the head of the completion that a Reap takes

pub record HeadOf (c : ConfigNumbers) (past : Past) (r : ReapLine) (x : ReapAnswers c past r) : Type 0 where
  pub head : Head
  pub at : slice_get (heads c past r.queue) (reaped_count past r.queue) ≡ Some head
  pub queue : head.0.queue ≡ x.queue
  pub number : head.0.number ≡ x.number
  pub cqe : head.0.post.cqe ≡ r.cqe

pub reaped_head : (c : ConfigNumbers) (past : Past) (r : ReapLine) (x : ReapAnswers c past r) → HeadOf c past r x
reaped_head c past r x =
    let y = reaped_answer c past r x in
    let h = head_of c past r.queue (reaped_count past r.queue) y.answer y.at in
    record {
      head = h.0;
      at = h.1;
      queue = ap (λ (z : PostedAnswer). z.queue) h.2 ∙ y.queue;
      number = ap (λ (z : PostedAnswer). z.number) h.2 ∙ y.number;
      cqe = ap (λ (z : PostedAnswer). z.post.cqe) h.2 ∙ (ap (λ (z : PostLine). z.cqe) y.post ∙ x.cqe);
    }

-- SQHD says how many were fetched, modulo the slots
head_says : (c : ConfigNumbers) (past : Past) (r : ReapLine) (x : ReapAnswers c past r) (y : HeadOf c past r x)
    → FitsHead c → IsLegal c past → (cqe_fields r.cqe).sqhd ≡ y.head.1 % c.sq_size
head_says c past r x y s l =
    ap (λ (b : List ℕ). (cqe_fields b).sqhd) (sym y.cqe)
    ∙ (head_is c past r.queue (reaped_count past r.queue) y.head s l y.at).says

-- ---- the least number is right

-- a completion of the queue was reaped with at least so many entries fetched
pub record Reached (c : ConfigNumbers) (past : Past) (q low : ℕ) : Type 0 where
  pub place : ℕ
  pub reaped : place < reaped_count past (completion_queue c q)
  pub head : Head
  pub at : slice_get (heads c past (completion_queue c q)) place ≡ Some head
  pub queue : head.0.queue ≡ q
  pub enough : low ≤ head.1

-- or the trace says nothing
abbrev pub IsReached : ConfigNumbers → Past → ℕ → Type 0
IsReached c past q =
    (least_fetched c (observed c past) q ≡ 0) ⊎ Reached c past q (least_fetched c (observed c past) q)

reached_more : (c : ConfigNumbers) (past : Past) (e : Entry) (q : ℕ)
    → ((n i : ℕ) (h : Head) → slice_get (heads c past n) i ≡ Some h → slice_get (heads c (e ∷ past) n) i ≡ Some h)
    → ((n : ℕ) → reaped_count past n ≤ reaped_count (e ∷ past) n)
    → least_fetched c (observed c (e ∷ past)) q ≡ least_fetched c (observed c past) q → IsReached c past q
    → IsReached c (e ∷ past) q
reached_more c past e q f g same (inl z) = inl (same ∙ z)
reached_more c past e q f g same (inr x) = inr (record {
  place = x.place;
  reaped = omega (arith, x.reaped, g (completion_queue c q));
  head = x.head;
  at = f (completion_queue c q) x.place x.head x.at;
  queue = x.queue;
  enough = omega (arith, same, x.enough);
})

-- the completion that a Reap takes has at least so many fetched
abbrev least_at : ConfigNumbers → Past → ReapLine → ℕ → ℕ
least_at c past r q =
    next_at c.sq_size (max (least_fetched c (observed c past) q) (count_to (answered (observed c past) r.cqe)))
    (cqe_fields r.cqe).sqhd

abbrev least_behind : ConfigNumbers → Past → ReapLine → ℕ → ℕ
least_behind c past r q = next_whole c (observed c past) q (cqe_fields r.cqe).sqhd (least_at c past r q)

reap_least : (c : ConfigNumbers) (past : Past) (r : ReapLine) (q : ℕ) → FitsHead c → IsLegal c past
    → (x : ReapAnswers c past r) → AnswersOne c past r x → (y : HeadOf c past r x) → x.queue ≡ q → IsReached c past q
    → least_at c past r q ≤ y.head.1
reap_least c past r q s l x a y same ih =
    let is = head_is c past r.queue (reaped_count past r.queue) y.head s l y.at in
    let own : suc x.number ≤ y.head.1 = omega (arith, is.own, y.number) in
    let number : count_to (answered (observed c past) r.cqe) ≤ y.head.1 =
    omega (arith, ap count_to a.number, own) in
    let before : least_fetched c (observed c past) q ≤ y.head.1 = elim ih [
      | inl z ↦ omega (arith, z)
      | inr w ↦
          let on : completion_queue c q ≡ r.queue = ap (completion_queue c) (sym same) ∙ x.own in
          let there : slice_get (heads c past r.queue) w.place ≡ Some w.head =
          subst (λ (n : ℕ). slice_get (heads c past n) w.place ≡ Some w.head) on w.at in
          let below : w.place < reaped_count past r.queue =
          subst (λ (n : ℕ). w.place < reaped_count past n) on w.reaped in
          let rise = heads_rise c past r.queue w.place (reaped_count past r.queue) w.head y.head s l
          (omega (arith, below)) there y.at (w.queue ∙ (sym same ∙ sym y.queue)) in
          omega (arith, w.enough, rise)
    ] in
    let low = max (least_fetched c (observed c past) q) (count_to (answered (observed c past) r.cqe)) in
    subst (λ (h : ℕ). next_at c.sq_size low h ≤ y.head.1) (sym (head_says c past r x y s l))
    (next_below c.sq_size low y.head.1 s.0 (max-le before number))

reap_enough : (c : ConfigNumbers) (past : Past) (r : ReapLine) (q : ℕ) → FitsHead c → IsLegal c past
    → tidy_on q (observed c past) ≡ true → (x : ReapAnswers c past r) → AnswersOne c past r x → (y : HeadOf c past r x)
    → x.queue ≡ q → IsReached c past q → least_behind c past r q ≤ y.head.1
reap_enough c past r q s l d x a y same ih =
    go (parts_pair (observed c past) q (least_at c past r q)) refl (reap_least c past r q s l x a y same ih)
  where
    whole : parts_pair (observed c past) q y.head.1 ≡ false
    whole =
        subst (λ (k : ℕ). parts_pair (observed c past) k y.head.1 ≡ false) (y.queue ∙ same)
        (head_is_whole c past r.queue (reaped_count past r.queue) y.head s l
        (subst (λ (k : ℕ). tidy_on k (observed c past) ≡ true) (sym (y.queue ∙ same)) d) y.at)

    go : (b : Bool) → parts_pair (observed c past) q (least_at c past r q) ≡ b → least_at c past r q ≤ y.head.1
        → cond b (next_at c.sq_size (suc (least_at c past r q)) (cqe_fields r.cqe).sqhd) (least_at c past r q)
        ≤ y.head.1
    go false z m = m
    go true z m =
        let more : suc (least_at c past r q) ≤ y.head.1 = elim (cases_lt (least_at c past r q) y.head.1) [
          | inl k ↦ k
          | inr k ↦
              let here : least_at c past r q ≡ y.head.1 = omega (arith, m, k) in
              let f : true ≡ false = sym z ∙ (ap (parts_pair (observed c past) q) here ∙ whole) in absurd cc
        ] in
        subst (λ (h : ℕ). next_at c.sq_size (suc (least_at c past r q)) h ≤ y.head.1)
        (sym (head_says c past r x y s l))
        (next_below c.sq_size (suc (least_at c past r q)) y.head.1 s.0 more)

reached_reap : (c : ConfigNumbers) (past : Past) (r : ReapLine) (q : ℕ) → FitsHead c → IsLegal c (Entry.Reap r ∷ past)
    → tidy_on q (observed c past) ≡ true → IsReached c past q → IsReached c (Entry.Reap r ∷ past) q
reached_reap c past r q s l d ih = go (eqb (cqe_fields r.cqe).sqid q) refl
  where
    x : ReapAnswers c past r
    x = reap_answers c past r l

    sqid : (cqe_fields r.cqe).sqid ≡ x.queue
    sqid = names_queue c past r x q d

    y : HeadOf c past r x
    y = reaped_head c past r x

    go : (b : Bool) → eqb (cqe_fields r.cqe).sqid q ≡ b → IsReached c (Entry.Reap r ∷ past) q
    go false z =
        reached_more c past (Entry.Reap r) q (λ n i h e. e) (λ n. omega arith)
        (cond-false _ (least_behind c past r q) (least_fetched c (observed c past) q) z) ih
    go true z =
        let named : (cqe_fields r.cqe).sqid ≡ q = eqb-true _ _ z in
        let queue : x.queue ≡ q = sym sqid ∙ named in
        let a = answers_one c past r l (subst (λ (k : ℕ). tidy_on k (observed c past) ≡ true) (sym named) d) in
        let on : completion_queue c q ≡ r.queue = ap (completion_queue c) (sym queue) ∙ x.own in
        let enough = reap_enough c past r q s (follows c past (Entry.Reap r) l).before d x a y queue ih in
        let same : least_fetched c (observed c (Entry.Reap r ∷ past)) q ≡ least_behind c past r q =
        cond-true _ (least_behind c past r q) (least_fetched c (observed c past) q) z in
        inr (record {
          place = reaped_count past r.queue;
          reaped = subst (λ (n : ℕ). reaped_count past r.queue < reaped_count (Entry.Reap r ∷ past) n) (sym on)
              (omega (arith, cond-true {A = ℕ} (eqb r.queue r.queue) 1 0 (eq-eqb r.queue r.queue refl)));
          head = y.head;
          at = subst (λ (n : ℕ). slice_get (heads c past n) (reaped_count past r.queue) ≡ Some y.head) (sym on) y.at;
          queue = y.queue ∙ queue;
          enough = omega (arith, same, enough);
        })

pub is_reached : (c : ConfigNumbers) (past : Past) (q : ℕ) → FitsHead c → IsLegal c past
    → tidy_on q (observed c past) ≡ true → IsReached c past q
is_reached c [] q s l d = inl refl
is_reached c (Entry.Reap r ∷ past) q s l d =
    reached_reap c past r q s l d (is_reached c past q s (follows c past (Entry.Reap r) l).before d)
is_reached c (Entry.Post p ∷ past) q s l d =
    reached_more c past (Entry.Post p) q (λ n i h e. get_append (heads c past n) _ i h e) (λ n. omega arith) refl
    (is_reached c past q s (follows c past (Entry.Post p) l).before d)
is_reached c (Entry.Publish p ∷ past) q s l d =
    reached_more c past (Entry.Publish p) q (λ n i h e. e) (λ n. omega arith) refl
    (is_reached c past q s (follows c past (Entry.Publish p) l).before (tidy_publish q (observed c past) p d).before)
is_reached c (Entry.Fetch p ∷ past) q s l d =
    reached_more c past (Entry.Fetch p) q (λ n i h e. e) (λ n. omega arith) refl
    (is_reached c past q s (follows c past (Entry.Fetch p) l).before d)
is_reached c (Entry.Grant p ∷ past) q s l d =
    reached_more c past (Entry.Grant p) q (λ n i h e. e) (λ n. omega arith) refl
    (is_reached c past q s (follows c past (Entry.Grant p) l).before d)
is_reached c (Entry.Block p ∷ past) q s l d =
    reached_more c past (Entry.Block p) q (λ n i h e. e) (λ n. omega arith) refl
    (is_reached c past q s (follows c past (Entry.Block p) l).before d)

-- as many are published
pub least_is_published : (c : ConfigNumbers) (past : Past) (q : ℕ) → FitsHead c → IsLegal c past
    → tidy_on q (observed c past) ≡ true → least_fetched c (observed c past) q ≤ length (published_entries past q)
least_is_published c past q s l d = elim (is_reached c past q s l d) [
  | inl z ↦ omega (arith, z)
  | inr w ↦
      let is = (head_is c past (completion_queue c q) w.place w.head s l w.at).fetched in
      let same : fetched_count past w.head.0.queue ≡ fetched_count past q = ap (fetched_count past) w.queue in
      omega (arith, w.enough, is, same, fetched_within c past q l)
]

-- ---- the rule

fits_head : (c : ConfigNumbers) → is_accepted c ≡ true → FitsHead c
fits_head c a =
    let x = accepted c (none_is (config_fault c) a) in
    (omega (arith, x.least_sq_slots), omega (arith, x.most_sq_slots))

pub head_right : (c : ConfigNumbers) (r : ReapedLine) (trace : List Seen) → is_accepted c ≡ true
    → tidy_on (cqe_fields r.cqe).sqid trace ≡ true → LastReap c r trace → has_wrong_head c trace r ≡ false
head_right c r trace a d l =
    let s = fits_head c a in
    let line = reap_of r in
    let tidy : tidy_on (cqe_fields r.cqe).sqid (observed c l.before) ≡ true =
    subst (λ (t : List Seen). tidy_on (cqe_fields r.cqe).sqid t ≡ true) (sym l.seen) d in
    let legal = (follows c l.before (Entry.Reap line) l.legal).before in
    let x = reap_answers c l.before line l.legal in
    let y = reaped_head c l.before line x in
    let e = cqe_fields r.cqe in
    let says : e.sqhd ≡ y.head.1 % c.sq_size = head_says c l.before line x y s legal in
    let small : nat_lt e.sqhd c.sq_size ≡ true =
    lt-ltb e.sqhd c.sq_size (omega (arith, says, mod-lt y.head.1 s.0)) in
    let few = least_is_published c (Entry.Reap line ∷ l.before) e.sqid s l.legal tidy in
    let seen : least_fetched c (observed c (Entry.Reap line ∷ l.before)) e.sqid
    ≡ least_fetched c (Seen.Reaped r ∷ trace) e.sqid =
    ap (λ (t : List Seen). least_fetched c (Seen.Reaped r ∷ t) e.sqid) l.seen in
    let published : published_entries l.before e.sqid ≡ published_in trace e.sqid =
    published_seen c l.before e.sqid ∙ ap (λ (t : List Seen). published_in t e.sqid) l.seen in
    none_of _ _ (ap not small)
    (le-ltb (length (published_in trace e.sqid)) (least_fetched c (Seen.Reaped r ∷ trace) e.sqid)
    (omega (arith, few, seen, ap (λ (xs : List Submission). length xs) published)))
