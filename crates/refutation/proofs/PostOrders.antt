-- What SQHD tells of the order of effects.
use Rattle.nvme_model.specs.Tickets
use Rattle.refutation.proofs.LineOrders
use Rattle.refutation.proofs.Lines
use Rattle.std.proofs.lemmas.Bool.{cases_lt}
use Rattle.std.proofs.Common.{◌≡◌, ℕ, suc, ◌+◌, ◌-◌, ◌*◌, ◌/◌, ◌%◌, ◌≤◌, ◌<◌, Bool, true, false, cond}
use Rattle.std.proofs.Common.{List, [], ◌∷◌, ◌++◌, append_assoc, length, length-append, refl, sym, ap, ◌∙◌, subst}
use Rattle.std.proofs.Common.{Some, inl, inr, arith, eq-eqb, eqb, eqb-true, le-leb, nat_le, nat_lt, slice_get}
use Rattle.std.proofs.Math.Nat.{add-mod_right, add-mul-mod_self_left, mod-add-div, mod-eq_of_lt, mod-le, mod-lt}
use Rattle.std.proofs.lemmas.Bool.{cond-true, eqb-false}
use Rattle.std.proofs.lemmas.List.{append-nil}
use Rattle.nvme_model.specs.Completions.{posted_completions, reaped_count}
use Rattle.nvme_model.specs.Config.{completion_queue}
use Rattle.nvme_model.specs.EntryBytes.{cqe_fields}
use Rattle.nvme_model.specs.History.{Past}
use Rattle.nvme_model.specs.Legal.{IsLegal}
use Rattle.nvme_model.specs.Queues.{fetched_count, published_entries}
use Rattle.nvme_model.specs.Tickets.{Ticket}
use Rattle.nvme_model.specs.declared.config.ConfigNumbers.{ConfigNumbers}
use Rattle.nvme_model.specs.declared.entry.Entry.{Entry}
use Rattle.nvme_model.specs.declared.entry.PostLine.{PostLine}
use Rattle.nvme_model.specs.declared.entry.ReapLine.{ReapLine}
use Rattle.nvme_model.proofs.Beginnings.{earlier}
use Rattle.nvme_model.proofs.Rules.{follows}
use Rattle.ticket_laws.proofs.Counts.{fetched_within}
use Rattle.host_laws.specs.Calls.{ReapAnswers, posted_answer}
use Rattle.host_laws.proofs.Reaps.{reap_answers}
use Rattle.trace.specs.Observed.{observed}
use Rattle.trace.specs.declared.seen.Seen.{Seen}
use Rattle.trace.proofs.Beginnings.{goes_on}
use Rattle.refutation.specs.EffectOrders.{before_post}
use Rattle.refutation.specs.EffectOrders.{longer, through_entries, through_reaps}
use Rattle.refutation.specs.LineRules.{least_fetched}
use Rattle.refutation.specs.Lines.{published_in, reaped_in}
use Rattle.refutation.proofs.Heads.{FitsHead, Head, heads}
use Rattle.refutation.proofs.LeastFetched.{is_reached, reaped_head}
use Rattle.refutation.proofs.Lines.{answers_one, names_queue, published_seen, reaped_seen, tidy_on, tidy_publish}
use Rattle.refutation.proofs.Postings.{Posting, posted_first, posting}

-- ---- the most that SQHD says

most_sums : (p f d n r q : ℕ) → r + q ≡ f → p ≡ f + d → r < n → p + (n - r) ≡ (d + n) + q
most_sums p f d n r q e g l = omega (arith, e, g, l)

pub most_above : (n p f : ℕ) → 1 ≤ n → f ≤ p → f ≤ p - (p + (n - (f % n) % n)) % n
most_above n p f some l =
    let d = p - f in
    let low = mod-lt f some in
    let twice : (f % n) % n ≡ f % n = mod-eq_of_lt low in
    let sum : p + (n - f % n) ≡ (d + n) + n * (f / n) =
    most_sums p f d n (f % n) (n * (f / n)) (mod-add-div f n) (omega (arith, l)) low in
    let same : (p + (n - (f % n) % n)) % n ≡ d % n =
    ap (λ (x : ℕ). (p + (n - x)) % n) twice
    ∙ (ap (λ (x : ℕ). x % n) sum ∙ (add-mul-mod_self_left (d + n) n (f / n) ∙ add-mod_right d n)) in
    omega (arith, same, mod-le d n, l)

-- ---- a completion queue has room for each Post

heads_posted : (c : ConfigNumbers) (past : Past) (n : ℕ)
    → length (heads c past n) ≡ length (posted_completions c past n)
heads_posted c [] n = refl
heads_posted c (Entry.Post p ∷ past) n =
    let h : Head = (posted_answer past p, fetched_count past (Tickets.ticket past p.ticket).queue) in
    let b = eqb (completion_queue c (Tickets.ticket past p.ticket).queue) n in
    omega (
      arith,
      length-append (heads c past n) (cond b (h ∷ []) []),
      length-append (posted_completions c past n) (cond b (p ∷ []) []),
      heads_posted c past n,
      both b h p,
    )
  where
    both : (b : Bool) (h : Head) (p : PostLine) → length (cond b (h ∷ []) []) ≡ length (cond b (p ∷ []) [])
    both true h p = refl
    both false h p = refl
heads_posted c (Entry.Publish p ∷ past) n = heads_posted c past n
heads_posted c (Entry.Fetch p ∷ past) n = heads_posted c past n
heads_posted c (Entry.Grant p ∷ past) n = heads_posted c past n
heads_posted c (Entry.Block p ∷ past) n = heads_posted c past n
heads_posted c (Entry.Reap p ∷ past) n = heads_posted c past n

-- where it isn't full one more fits
one_fits : (posted reaped slots : ℕ) → posted ≤ reaped + (slots - 1) → (posted - reaped ≡ slots - 1 → ⊥)
    → posted + 1 ≤ reaped + (slots - 1)
one_fits posted reaped slots l full = elim (cases_lt (posted - reaped) (slots - 1)) [
  | inl k ↦ omega (arith, k, l)
  | inr k ↦ absurd (full (omega (arith, k, l)))
]

full_not : (c : ConfigNumbers) (past : Past) (p : PostLine) (n : ℕ) → IsLegal c (Entry.Post p ∷ past)
    → completion_queue c (Tickets.ticket past p.ticket).queue ≡ n
    → length (posted_completions c past n) - reaped_count past n ≡ c.cq_size - 1 → ⊥
full_not c past p n h own e =
    let f = (follows c past (Entry.Post p) h).allowed.1.1.0 in
    let g : eqb (length (posted_completions c past n) - reaped_count past n) (c.cq_size - 1) ≡ false =
    subst (λ (q : ℕ). eqb (length (posted_completions c past q) - reaped_count past q) (c.cq_size - 1) ≡ false) own f in
    eqb-false (length (posted_completions c past n) - reaped_count past n) (c.cq_size - 1) g e

room : (c : ConfigNumbers) (past : Past) (n : ℕ) → IsLegal c past
    → length (posted_completions c past n) ≤ reaped_count past n + (c.cq_size - 1)
room c [] n h = omega arith
room c (Entry.Post p ∷ past) n h =
    let ih = room c past n (follows c past (Entry.Post p) h).before in
    go (eqb (completion_queue c (Tickets.ticket past p.ticket).queue) n) refl ih
  where
    go : (b : Bool) → eqb (completion_queue c (Tickets.ticket past p.ticket).queue) n ≡ b
        → length (posted_completions c past n) ≤ reaped_count past n + (c.cq_size - 1)
        → length (posted_completions c past n ++ cond b (p ∷ []) []) ≤ reaped_count past n + (c.cq_size - 1)
    go false e l =
        let none : List PostLine = [] in
        omega (arith, l, length-append (posted_completions c past n) none)
    go true e l =
        let own = eqb-true (completion_queue c (Tickets.ticket past p.ticket).queue) n e in
        let fits = one_fits (length (posted_completions c past n)) (reaped_count past n) c.cq_size l
        (full_not c past p n h own) in
        omega (arith, fits, length-append (posted_completions c past n) (p ∷ []))
room c (Entry.Reap p ∷ past) n h =
    let ih = room c past n (follows c past (Entry.Reap p) h).before in
    omega (arith, ih)
room c (Entry.Publish p ∷ past) n h = room c past n (follows c past (Entry.Publish p) h).before
room c (Entry.Fetch p ∷ past) n h = room c past n (follows c past (Entry.Fetch p) h).before
room c (Entry.Grant p ∷ past) n h = room c past n (follows c past (Entry.Grant p) h).before
room c (Entry.Block p ∷ past) n h = room c past n (follows c past (Entry.Block p) h).before

-- so many were reaped when it was posted
pub reaped_at_post : (c : ConfigNumbers) (past : Past) (n i : ℕ) (x : Posting c past n i) → 1 ≤ c.cq_size
    → IsLegal c past
    → i + 2 - c.cq_size ≤ reaped_count x.before n
reaped_at_post c past n i x some h =
    let posted = earlier c x.later (Entry.Post x.post ∷ x.before) (subst (λ (p : Past). IsLegal c p) x.is h) in
    let l = room c x.before n (follows c x.before (Entry.Post x.post) posted).before in
    let fits = one_fits (length (posted_completions c x.before n)) (reaped_count x.before n) c.cq_size l
    (full_not c x.before x.post n posted x.own) in
    omega (arith, fits, some, x.count, heads_posted c x.before n)

-- ---- beginnings of traces

pub published_grows : (more trace : List Seen) (q : ℕ)
    → length (published_in trace q) ≤ length (published_in (more ++ trace) q)
published_grows [] trace q = omega arith
published_grows (Seen.Published p ∷ more) trace q =
    omega (
      arith,
      published_grows more trace q,
      length-append (published_in (more ++ trace) q) (cond (eqb p.queue q) p.batch []),
    )
published_grows (Seen.Reaped r ∷ more) trace q = published_grows more trace q

reaped_grows : (more trace : List Seen) (n : ℕ) → reaped_in trace n ≤ reaped_in (more ++ trace) n
reaped_grows [] trace n = omega arith
reaped_grows (Seen.Published p ∷ more) trace n = reaped_grows more trace n
reaped_grows (Seen.Reaped r ∷ more) trace n = omega (arith, reaped_grows more trace n)

-- what stands there is a beginning
pub entries_end : (trace : List Seen) (q n : ℕ) → (m : List Seen) × (trace ≡ m ++ through_entries trace q n)
entries_end [] q n = ([], refl)
entries_end (s ∷ trace) q n = go (nat_le n (length (published_in trace q))) (entries_end trace q n)
  where
    go : (b : Bool) → (m : List Seen) × (trace ≡ m ++ through_entries trace q n)
        → (m : List Seen) × (s ∷ trace ≡ m ++ cond b (through_entries trace q n) (s ∷ trace))
    go true r = (s ∷ r.0, ap (λ (l : List Seen). s ∷ l) r.1)
    go false r = ([], refl)

pub reaps_end : (trace : List Seen) (n i : ℕ) → (m : List Seen) × (trace ≡ m ++ through_reaps trace n i)
reaps_end [] n i = ([], refl)
reaps_end (s ∷ trace) n i = go (nat_le i (reaped_in trace n)) (reaps_end trace n i)
  where
    go : (b : Bool) → (m : List Seen) × (trace ≡ m ++ through_reaps trace n i)
        → (m : List Seen) × (s ∷ trace ≡ m ++ cond b (through_reaps trace n i) (s ∷ trace))
    go true r = (s ∷ r.0, ap (λ (l : List Seen). s ∷ l) r.1)
    go false r = ([], refl)

entries_same : (more trace : List Seen) (q n : ℕ) → n ≤ length (published_in trace q)
    → through_entries (more ++ trace) q n ≡ through_entries trace q n
entries_same [] trace q n l = refl
entries_same (s ∷ more) trace q n l =
    cond-true (nat_le n (length (published_in (more ++ trace) q))) (through_entries (more ++ trace) q n)
    (s ∷ (more ++ trace))
    (le-leb n (length (published_in (more ++ trace) q)) (omega (arith, l, published_grows more trace q)))
    ∙ entries_same more trace q n l

reaps_same : (more trace : List Seen) (n i : ℕ) → i ≤ reaped_in trace n
    → through_reaps (more ++ trace) n i ≡ through_reaps trace n i
reaps_same [] trace n i l = refl
reaps_same (s ∷ more) trace n i l =
    cond-true (nat_le i (reaped_in (more ++ trace) n)) (through_reaps (more ++ trace) n i) (s ∷ (more ++ trace))
    (le-leb i (reaped_in (more ++ trace) n) (omega (arith, l, reaped_grows more trace n)))
    ∙ reaps_same more trace n i l

none_through : (trace : List Seen) (q : ℕ) → through_entries trace q 0 ≡ []
none_through [] q = refl
none_through (s ∷ trace) q =
    cond-true (nat_le 0 (length (published_in trace q))) (through_entries trace q 0) (s ∷ trace)
    (le-leb 0 (length (published_in trace q)) (omega arith))
    ∙ none_through trace q

-- ---- lines that a history had shown

pub record Behind (c : ConfigNumbers) (past : Past) (lines : List Seen) : Type 0 where
  pub later : Past
  pub start : Past
  pub is : past ≡ later ++ start
  pub seen : observed c start ≡ lines

behind_more : (c : ConfigNumbers) (more past : Past) (lines : List Seen) → Behind c past lines
    → Behind c (more ++ past) lines
behind_more c more past lines b =
    record {
      later = more ++ b.later;
      start = b.start;
      is = ap (λ (p : Past). more ++ p) b.is ∙ sym (append_assoc more b.later b.start);
      seen = b.seen;
    }

behind_none : (c : ConfigNumbers) (past : Past) → Behind c past []
behind_none c past = record { later = past; start = []; is = sym (append-nil past); seen = refl }

behind_longer : (c : ConfigNumbers) (past : Past) (xs ys : List Seen) → Behind c past xs → Behind c past ys
    → Behind c past (longer xs ys)
behind_longer c past xs ys x y = go (nat_lt (length xs) (length ys))
  where
    go : (b : Bool) → Behind c past (cond b ys xs)
    go true = y
    go false = x

behind_entries : (c : ConfigNumbers) (past later g : Past) (q n : ℕ) → past ≡ later ++ g
    → n ≤ length (published_entries g q) → Behind c g (through_entries (observed c past) q n)
behind_entries c past later g q n e l =
    let more = goes_on c later g in
    let few : n ≤ length (published_in (observed c g) q) = omega (arith, l, ap length (published_seen c g q)) in
    let same : through_entries (observed c past) q n ≡ through_entries (observed c g) q n =
    ap (λ (p : Past). through_entries (observed c p) q n) e
    ∙ (ap (λ (t : List Seen). through_entries t q n) more.1 ∙ entries_same more.0 (observed c g) q n few) in
    let m = entries_end (observed c g) q n in
    let b = LineOrders.beginning c g m.0 (through_entries (observed c g) q n) m.1 in
    record { later = b.0; start = b.1; is = b.2; seen = b.3 ∙ sym same }

behind_reaps : (c : ConfigNumbers) (past later g : Past) (n i : ℕ) → past ≡ later ++ g → i ≤ reaped_count g n
    → Behind c g (through_reaps (observed c past) n i)
behind_reaps c past later g n i e l =
    let more = goes_on c later g in
    let few : i ≤ reaped_in (observed c g) n = omega (arith, l, reaped_seen c g n) in
    let same : through_reaps (observed c past) n i ≡ through_reaps (observed c g) n i =
    ap (λ (p : Past). through_reaps (observed c p) n i) e
    ∙ (ap (λ (t : List Seen). through_reaps t n i) more.1 ∙ reaps_same more.0 (observed c g) n i few) in
    let m = reaps_end (observed c g) n i in
    let b = LineOrders.beginning c g m.0 (through_reaps (observed c g) n i) m.1 in
    record { later = b.0; start = b.1; is = b.2; seen = b.3 ∙ sym same }

-- ---- what was before a Post

abbrev posting_later : (c : ConfigNumbers) (more past : Past) (n i : ℕ) → Posting c past n i
    → Posting c (more ++ past) n i
posting_later c more past n i x =
    record {
      later = more ++ x.later;
      post = x.post;
      before = x.before;
      is = ap (λ (p : Past). more ++ p) x.is ∙ sym (append_assoc more x.later (Entry.Post x.post ∷ x.before));
      count = x.count;
      own = x.own;
    }

abbrev moved_on : (c : ConfigNumbers) (more : Past) (e : Entry) (past : Past) (n i : ℕ)
    → Posting c (more ++ (e ∷ past)) n i → Posting c ((more ++ (e ∷ [])) ++ past) n i
moved_on c more e past n i y =
    record {
      later = y.later;
      post = y.post;
      before = y.before;
      is = append_assoc more (e ∷ []) past ∙ y.is;
      count = y.count;
      own = y.own;
    }

-- what was before an earlier Post
from_earlier : (c : ConfigNumbers) (more past : Past) (n i k : ℕ) (lines : List Seen) (x : Posting c (more ++ past) n i)
    (y : Posting c past n k) → k ≤ i → Behind c y.before lines → Behind c x.before lines
from_earlier c more past n i k lines x y l b =
    let m = posted_first c (more ++ past) n k i (posting_later c more past n k y) x l in
    subst (λ (p : Past). Behind c p lines) (sym m.1) (behind_more c m.0 y.before lines b)

-- the entries that were fetched then
least_behind : (c : ConfigNumbers) (more past : Past) (r : ReapLine) (i : ℕ) (x : Posting c (more ++ past) r.queue i)
    → FitsHead c → IsLegal c (Entry.Reap r ∷ past) → tidy_on (cqe_fields r.cqe).sqid (observed c past) ≡ true
    → reaped_count past r.queue ≤ i
    → let q = (cqe_fields r.cqe).sqid in
    Behind c x.before (through_entries (observed c past) q (least_fetched c (observed c (Entry.Reap r ∷ past)) q))
least_behind c more past r i x s h d l = elim (is_reached c (Entry.Reap r ∷ past) q s h d) [
  | inl z ↦
      let none : through_entries (observed c past) q low ≡ [] =
      ap (through_entries (observed c past) q) z ∙ none_through (observed c past) q in
      subst (Behind c x.before) (sym none) (behind_none c x.before)
  | inr w ↦
      let own : completion_queue c q ≡ r.queue = ap (completion_queue c) one.sqid ∙ answers.own in
      let at : slice_get (heads c past r.queue) w.place ≡ Some w.head =
      subst (λ (n : ℕ). slice_get (heads c past n) w.place ≡ Some w.head) own w.at in
      let place : w.place < reaped_count (Entry.Reap r ∷ past) r.queue =
      subst (λ (n : ℕ). w.place < reaped_count (Entry.Reap r ∷ past) n) own w.reaped in
      let one_more = cond-true {A = ℕ} (eqb r.queue r.queue) 1 0 (eq-eqb r.queue r.queue refl) in
      let p = posting c past r.queue w.place w.head at in
      let legal = earlier c (p.at.later ++ (Entry.Post p.at.post ∷ [])) p.at.before
      (subst (λ (y : Past). IsLegal c y)
      (p.at.is ∙ sym (append_assoc p.at.later (Entry.Post p.at.post ∷ []) p.at.before)) before) in
      let queue : fetched_count p.at.before q ≡ fetched_count p.at.before w.head.0.queue =
      ap (fetched_count p.at.before) (sym w.queue) in
      let within = fetched_within c p.at.before q legal in
      let enough : low ≤ length (published_entries p.at.before q) =
      omega (arith, w.enough, p.fetched, queue, within) in
      from_earlier c more past r.queue i w.place (through_entries (observed c past) q low) x p.at
      (omega (arith, place, one_more, l))
      (behind_entries c past (p.at.later ++ (Entry.Post p.at.post ∷ [])) p.at.before q low
      (p.at.is ∙ sym (append_assoc p.at.later (Entry.Post p.at.post ∷ []) p.at.before)) enough)
]
  where
    q : ℕ
    q = (cqe_fields r.cqe).sqid

    low : ℕ
    low = least_fetched c (observed c (Entry.Reap r ∷ past)) q

    before : IsLegal c past
    before = (follows c past (Entry.Reap r) h).before

    answers : ReapAnswers c past r
    answers = reap_answers c past r h

    one : Lines.AnswersOne c past r (reap_answers c past r h)
    one = answers_one c past r h d

-- the completions that made room for it
room_behind : (c : ConfigNumbers) (more past : Past) (r : ReapLine) (i : ℕ) (x : Posting c (more ++ past) r.queue i)
    → 1 ≤ c.cq_size → IsLegal c (Entry.Reap r ∷ past) → reaped_count past r.queue ≤ i
    → Behind c x.before
    (through_reaps (observed c past) r.queue (reaped_in (observed c past) r.queue + 2 - c.cq_size))
room_behind c more past r i x some h l =
    let before = (follows c past (Entry.Reap r) h).before in
    let y = reaped_head c past r (reap_answers c past r h) in
    let p = posting c past r.queue (reaped_count past r.queue) y.head y.at in
    let few = reaped_at_post c past r.queue (reaped_count past r.queue) p.at some before in
    let same = reaped_seen c past r.queue in
    from_earlier c more past r.queue i (reaped_count past r.queue)
    (through_reaps (observed c past) r.queue (reaped_in (observed c past) r.queue + 2 - c.cq_size)) x p.at l
    (behind_reaps c past (p.at.later ++ (Entry.Post p.at.post ∷ [])) p.at.before r.queue
    (reaped_in (observed c past) r.queue + 2 - c.cq_size)
    (p.at.is ∙ sym (append_assoc p.at.later (Entry.Post p.at.post ∷ []) p.at.before)) (omega (arith, few, same)))

-- a trace is tidy on all submission queues that use this completion queue
abbrev pub AreTidy : ConfigNumbers → ℕ → List Seen → Type 0
AreTidy c n trace = (q : ℕ) → completion_queue c q ≡ n → tidy_on q trace ≡ true

-- so it is on that which a completion there names
named_tidy : (c : ConfigNumbers) (past : Past) (r : ReapLine) → IsLegal c (Entry.Reap r ∷ past)
    → AreTidy c r.queue (observed c past) → tidy_on (cqe_fields r.cqe).sqid (observed c past) ≡ true
named_tidy c past r h d =
    let x = reap_answers c past r h in
    let own = d x.queue x.own in
    subst (λ (k : ℕ). tidy_on k (observed c past) ≡ true) (sym (names_queue c past r x x.queue own)) own

pub post_behind : (c : ConfigNumbers) (more past : Past) (n i : ℕ) (x : Posting c (more ++ past) n i) → FitsHead c
    → 1 ≤ c.cq_size → IsLegal c past → AreTidy c n (observed c past) → reaped_count past n ≤ suc i
    → Behind c x.before (before_post c (observed c past) n)
post_behind c more [] n i x s some h d l = behind_none c x.before
post_behind c more (Entry.Reap r ∷ past) n i x s some h d l =
    let before = (follows c past (Entry.Reap r) h).before in
    go (eqb r.queue n) refl l
    (post_behind c (more ++ (Entry.Reap r ∷ [])) past n i (moved_on c more (Entry.Reap r) past n i x) s some before d)
  where
    go : (b : Bool) → eqb r.queue n ≡ b → reaped_count past n + cond b 1 0 ≤ suc i
        → (reaped_count past n ≤ suc i → Behind c x.before (before_post c (observed c past) n))
        → Behind c x.before
        (cond b (longer (before_post c (observed c past) n)
        (longer (through_entries (observed c past) (cqe_fields r.cqe).sqid
        (least_fetched c (observed c (Entry.Reap r ∷ past)) (cqe_fields r.cqe).sqid))
        (through_reaps (observed c past) n (reaped_in (observed c past) n + 2 - c.cq_size))))
        (before_post c (observed c past) n))
    go false e k ih = ih (omega (arith, k))
    go true e k ih =
        let same = eqb-true r.queue n e in
        let few : reaped_count past r.queue ≤ i = omega (arith, k, ap (reaped_count past) same) in
        let y : Posting c ((more ++ (Entry.Reap r ∷ [])) ++ past) r.queue i = record {
          later = x.later;
          post = x.post;
          before = x.before;
          is = append_assoc more (Entry.Reap r ∷ []) past ∙ x.is;
          count = ap (λ (z : ℕ). length (heads c x.before z)) same ∙ x.count;
          own = x.own ∙ sym same;
        } in
        behind_longer c x.before (before_post c (observed c past) n) _ (ih (omega (arith, k)))
        (behind_longer c x.before (through_entries (observed c past) (cqe_fields r.cqe).sqid
        (least_fetched c (observed c (Entry.Reap r ∷ past)) (cqe_fields r.cqe).sqid))
        (through_reaps (observed c past) n (reaped_in (observed c past) n + 2 - c.cq_size))
        (least_behind c (more ++ (Entry.Reap r ∷ [])) past r i y s h
        (named_tidy c past r h (subst (λ (z : ℕ). AreTidy c z (observed c past)) (sym same) d)) few)
        (subst (λ (z : ℕ). Behind c x.before (through_reaps (observed c past) z
        (reaped_in (observed c past) z + 2 - c.cq_size))) same
        (room_behind c (more ++ (Entry.Reap r ∷ [])) past r i y some h few)))
post_behind c more (Entry.Publish p ∷ past) n i x s some h d l =
    post_behind c (more ++ (Entry.Publish p ∷ [])) past n i (moved_on c more (Entry.Publish p) past n i x) s some
    (follows c past (Entry.Publish p) h).before (λ q e. (tidy_publish q (observed c past) p (d q e)).before) l
post_behind c more (Entry.Fetch p ∷ past) n i x s some h d l =
    post_behind c (more ++ (Entry.Fetch p ∷ [])) past n i (moved_on c more (Entry.Fetch p) past n i x) s some
    (follows c past (Entry.Fetch p) h).before d l
post_behind c more (Entry.Grant p ∷ past) n i x s some h d l =
    post_behind c (more ++ (Entry.Grant p ∷ [])) past n i (moved_on c more (Entry.Grant p) past n i x) s some
    (follows c past (Entry.Grant p) h).before d l
post_behind c more (Entry.Block p ∷ past) n i x s some h d l =
    post_behind c (more ++ (Entry.Block p ∷ [])) past n i (moved_on c more (Entry.Block p) past n i x) s some
    (follows c past (Entry.Block p) h).before d l
post_behind c more (Entry.Post p ∷ past) n i x s some h d l =
    post_behind c (more ++ (Entry.Post p ∷ [])) past n i (moved_on c more (Entry.Post p) past n i x) s some
    (follows c past (Entry.Post p) h).before d l
