-- Which entry a reaped completion answers.
use Rattle.nvme_model.specs.Tickets
use Rattle.std.proofs.Common.{◌/◌, ◌%◌, ◌*◌, ◌≡◌, ℕ, zero, suc, ◌+◌, ◌≤◌, ◌<◌, Bool, true, false, ◌&&◌, cond, List, []}
use Rattle.std.proofs.Common.{◌∷◌, ◌++◌, length, map, refl, sym, ap, ap₂, ◌∙◌, subst, Option, Some, None, inl, inr}
use Rattle.std.proofs.Common.{arith, eq-eqb, eqb, eqb-true, ltb-true, slice_get, get_or, nat_lt, ltb-false}
use Rattle.std.proofs.lemmas.Bool.{and_parts, and_from, cases_Bool, cases_lt, eqb-false, cond-true, cond-false}
use Rattle.std.proofs.lemmas.Bool.{or_parts}
use Rattle.nvme_model.specs.declared.config.ConfigNumbers.{ConfigNumbers}
use Rattle.nvme_model.specs.EntryBytes.{sqe_fields, cqe_fields, cqe_bytes}
use Rattle.nvme_model.specs.History.{Past}
use Rattle.nvme_model.specs.Tickets.{command, cids, posts_of}
use Rattle.nvme_model.specs.Queues.{published_entries, fetched_count}
use Rattle.nvme_model.specs.Completions.{posted_completions, reaped_count, phase}
use Rattle.nvme_model.specs.Legal.{IsLegal, is_cqe}
use Rattle.host_laws.specs.Calls.{is_clean, posted_answers, reaped_post, post_if, cqe_status, PostedAnswer, ReapAnswers}
use Rattle.nvme_model.specs.declared.status.Status.{Status}
use Rattle.nvme_model.specs.declared.submission.Submission.{Submission}
use Rattle.nvme_model.specs.declared.entry.PostLine.{PostLine}
use Rattle.nvme_model.specs.declared.entry.ReapLine.{ReapLine}
use Rattle.nvme_model.specs.declared.entry.Entry.{Entry}
use Rattle.nvme_model.proofs.Rules.{follows}
use Rattle.nvme_model.proofs.Beginnings.{earlier}
use Rattle.nvme_model.specs.Refusals.{no_queue}
use Rattle.nvme_model.specs.Config.{completion_queue}
use Rattle.nvme_model.proofs.CqeFields.{sqid_back}
use Rattle.nvme_model.proofs.TakenEntries.{taken_two}
use Rattle.host_laws.proofs.Elements.{get_cases}
use Rattle.host_laws.proofs.Names.{bytes_are}
use Rattle.host_laws.proofs.Statuses.{Narrow, phase_small, post_is}
use Rattle.host_laws.proofs.Later.{published_later}
use Rattle.host_laws.proofs.PostedAnswers.{PostedAt, answer_at, answer_own, posts_are}
use Rattle.host_laws.proofs.OneAnswer.{numbers_differ, reaped_at}
use Rattle.host_laws.specs.Book.{cid_of}

-- ---- the submission queues that are

queue_real : (c : ConfigNumbers) (q : ℕ) → no_queue c q ≡ false → (1 ≤ q) × (q ≤ c.pairs)
queue_real c q h =
    let a = or_parts (eqb q 0) (nat_lt c.pairs q) h in
    let z = eqb-false q 0 a.0 in
    (some q z, ltb-false c.pairs q a.1)
  where
    some : (n : ℕ) → (n ≡ 0 → ⊥) → 1 ≤ n
    some zero f = absurd (f refl)
    some (suc n) f = omega arith

pub published_real : (c : ConfigNumbers) (past : Past) (q i : ℕ) (s : Submission) → IsLegal c past
    → slice_get (published_entries past q) i ≡ Some s → (1 ≤ q) × (q ≤ c.pairs)
published_real c [] q i s h e = absurd (let f : None ≡ Some s = e in cc)
published_real c (Entry.Publish p ∷ past) q i s h e =
    elim (get_cases (published_entries past q) (cond (eqb p.queue q) p.batch []) i s e) [
      | inl x ↦ published_real c past q i s (follows c past (Entry.Publish p) h).before x
      | inr m ↦ new (eqb p.queue q) refl m.0 m.2
    ]
  where
    new : (b : Bool) → eqb p.queue q ≡ b → (m : ℕ) → slice_get (cond b p.batch []) m ≡ Some s → (1 ≤ q) × (q ≤ c.pairs)
    new false z m g = absurd (let f : None ≡ Some s = g in cc)
    new true z m g = subst (λ (n : ℕ). (1 ≤ n) × (n ≤ c.pairs)) (eqb-true p.queue q z)
        (queue_real c p.queue (follows c past (Entry.Publish p) h).allowed.0)
published_real c (Entry.Fetch p ∷ past) q i s h e =
    published_real c past q i s (follows c past (Entry.Fetch p) h).before e
published_real c (Entry.Grant p ∷ past) q i s h e =
    published_real c past q i s (follows c past (Entry.Grant p) h).before e
published_real c (Entry.Block p ∷ past) q i s h e =
    published_real c past q i s (follows c past (Entry.Block p) h).before e
published_real c (Entry.Post p ∷ past) q i s h e =
    published_real c past q i s (follows c past (Entry.Post p) h).before e
published_real c (Entry.Reap p ∷ past) q i s h e =
    published_real c past q i s (follows c past (Entry.Reap p) h).before e

-- ---- the entry that a completion is for

cid_back : (h q cid p : ℕ) (s : Status) → cid < 65536 → (cqe_fields (cqe_bytes h q cid p s)).cid ≡ cid
cid_back h q cid p s l =
    let e : cid % 256 + 256 * ((cid / 256) % 256 + 256 * 0) ≡ cid = omega (arith, l) in
    e

word_clean : (w : ℕ) → w < 4096 → let v = w % 256 + 256 * ((w / 256) % 256 + 256 * 0) in
    ((v / 4096) % 4 ≡ 0) × ((v / 16384) % 2 ≡ 0) × (v / 32768 ≡ 0)
word_clean w l = (omega (arith, l), omega (arith, l), omega (arith, l))

clean_bytes : (h q cid p : ℕ) (s : Status) → p ≤ 1 → Narrow s → is_clean (cqe_bytes h q cid p s) ≡ true
clean_bytes h q cid p s l n =
    let e = word_clean (p + (2 * s.sc + 512 * s.sct)) (omega (arith, l, n.sct, n.sc)) in
    and_from _ _ (and_from _ _ (and_from _ _ (and_from _ _ refl refl) (eq-eqb _ 0 e.0)) (eq-eqb _ 0 e.1))
    (eq-eqb _ 0 e.2)

cids_at : (xs : List Submission) (i : ℕ) (d : Submission) → i < length xs
    → get_or (map cid_of xs) i 0 ≡ cid_of (get_or xs i d)
cids_at [] i d l = absurd (omega (arith, l))
cids_at (x ∷ xs) zero d l = refl
cids_at (x ∷ xs) (suc i) d l = cids_at xs i d (omega (arith, l))

is_posted : (o : Option PostLine) (cqe : List ℕ) → is_cqe o cqe ≡ true → (p : PostLine) × (o ≡ Some p) × (p.cqe ≡ cqe)
is_posted None cqe h = absurd (let f : false ≡ true = h in cc)
is_posted (Some p) cqe h = (p, refl, bytes_are _ _ h)

pub record EntryIs (past : Past) (q j : ℕ) (cqe : List ℕ) : Type 0 where
  pub entry : Submission
  pub published : slice_get (published_entries past q) j ≡ Some entry
  pub clean : is_clean cqe ≡ true
  pub sqid : q < 65536 → (cqe_fields cqe).sqid ≡ q
  pub cid : (sqe_fields entry.entry).cid < 65536 → (cqe_fields cqe).cid ≡ (sqe_fields entry.entry).cid

pub entry_is : (c : ConfigNumbers) (past : Past) (q j : ℕ) (p : PostLine) → IsLegal c past → PostedAt past q j p
    → EntryIs past q j p.cqe
entry_is c past q j p h at =
    let t = p.ticket in
    let all : Past = at.later ++ (Entry.Post p ∷ at.before) in
    let legal : IsLegal c (Entry.Post p ∷ at.before) =
    earlier c at.later (Entry.Post p ∷ at.before) (subst (λ (x : Past). IsLegal c x) at.is h) in
    let f = post_is c at.before p legal in
    let k = Tickets.ticket at.before t in
    let below : posts_of at.before t < length k.commands = ltb-true _ _ f.in_flight in
    let cid : (sqe_fields (command k (posts_of at.before t)).entry).cid < 65536
    → (cqe_fields p.cqe).cid ≡ (sqe_fields (command k (posts_of at.before t)).entry).cid =
    λ l.
    let same = cids_at k.commands (posts_of at.before t) (record { entry = []; payload = [] }) below in
    ap (λ (x : List ℕ). (cqe_fields x).cid) f.cqe
    ∙ (cid_back (fetched_count at.before k.queue % c.sq_size) k.queue (get_or (cids k) (posts_of at.before t) 0)
    (phase (length (posted_completions c at.before (completion_queue c k.queue))) c.cq_size) (cqe_status p.cqe)
    (omega (arith, same, l)) ∙ same) in
    let sqid : q < 65536 → (cqe_fields p.cqe).sqid ≡ q =
    λ l.
    ap (λ (x : List ℕ). (cqe_fields x).sqid) f.cqe
    ∙ (sqid_back (fetched_count at.before k.queue % c.sq_size) k.queue (get_or (cids k) (posts_of at.before t) 0)
    (phase (length (posted_completions c at.before (completion_queue c k.queue))) c.cq_size) (cqe_status p.cqe)
    (omega (arith, at.queue, l)) ∙ at.queue) in
    let stands : slice_get (published_entries at.before q) j ≡ Some (command k (posts_of at.before t)) =
    subst (λ (x : ℕ). slice_get (published_entries at.before x) j ≡ Some (command k (posts_of at.before t))) at.queue
    (elim (cases_lt (posts_of at.before t) 1) [
      | inl z ↦
          let i : posts_of at.before t ≡ 0 = omega (arith, z) in
          ap (slice_get (published_entries at.before k.queue)) (omega (arith, at.number, i))
          ∙ (f.taken.first ∙ ap (λ (n : ℕ). Some (command k n)) (sym i))
      | inr z ↦
          let i : posts_of at.before t ≡ 1 = omega (arith, z, below, f.taken.count, taken_two k.verdict) in
          ap (slice_get (published_entries at.before k.queue)) (omega (arith, at.number, i))
          ∙ (f.taken.second (omega (arith, f.taken.count, taken_two k.verdict, below, i))
          ∙ ap (λ (n : ℕ). Some (command k n)) (sym i))
    ]) in
    record {
      entry = command k (posts_of at.before t);
      published = subst (λ (x : Past). slice_get (published_entries x q) j ≡ Some (command k (posts_of at.before t)))
          (sym at.is)
          (published_later at.later (Entry.Post p ∷ at.before) q j (command k (posts_of at.before t)) stands);
      clean = ap is_clean f.cqe
          ∙ clean_bytes (fetched_count at.before k.queue % c.sq_size) k.queue (get_or (cids k) (posts_of at.before t) 0)
          (phase (length (posted_completions c at.before (completion_queue c k.queue))) c.cq_size) (cqe_status p.cqe)
          (phase_small (length (posted_completions c at.before (completion_queue c k.queue))) c.cq_size) f.narrow;
      sqid = sqid;
      cid = cid;
    }

pub none_if : (o : Option PostLine) → ((p : PostLine) → o ≡ Some p → ⊥) → o ≡ None
none_if None f = refl
none_if (Some p) f = absurd (f p refl)

pub reap_answers : (c : ConfigNumbers) (past : Past) (r : ReapLine) → IsLegal c (Entry.Reap r ∷ past)
    → ReapAnswers c past r
reap_answers c past r h =
    let f = follows c past (Entry.Reap r) h in
    let p = is_posted (slice_get (posted_completions c past r.queue) (reaped_count past r.queue)) r.cqe f.fits in
    let found = posts_are c past r.queue (reaped_count past r.queue) p.0 p.1 in
    let a = found.0 in
    let at = found.1 in
    let own = answer_own c past r.queue (reaped_count past r.queue) a at in
    let e = entry_is c past a.queue a.number a.post f.before
    (answer_at c past r.queue (reaped_count past r.queue) a at) in
    let same : a.post.cqe ≡ r.cqe = ap (λ (x : PostLine). x.cqe) found.2 ∙ p.2 in
    let real = published_real c past a.queue a.number e.entry f.before e.published in
    record {
      queue = a.queue;
      number = a.number;
      post = a.post;
      posted = p.1 ∙ ap Some (sym found.2);
      cqe = same;
      own = own;
      some = real.0;
      few = real.1;
      entry = e.entry;
      published = e.published;
      clean = ap is_clean (sym same) ∙ e.clean;
      sqid = λ l. ap (λ (x : List ℕ). (cqe_fields x).sqid) (sym same) ∙ e.sqid l;
      cid = λ l. ap (λ (x : List ℕ). (cqe_fields x).cid) (sym same) ∙ e.cid l;
      unreaped = none_if (reaped_post c past a.queue a.number) (λ x s.
          let b = reaped_at c past a.queue a.number x s in
          let there = subst (λ (n : ℕ). slice_get (posted_answers c past n) b.index
          ≡ Some (record { queue = a.queue; number = a.number; post = x })) own b.at in
          let alike = numbers_differ c past r.queue b.index (reaped_count past r.queue)
          (record { queue = a.queue; number = a.number; post = x }) a f.before there at refl refl in
          let below : b.index < reaped_count past r.queue =
          subst (λ (n : ℕ). b.index < reaped_count past n) own b.below in
          omega (arith, below, alike));
      reaped = ap (λ (o : Option PostedAnswer). post_if a.queue a.number o (reaped_post c past a.queue a.number)) at
          ∙ cond-true (eqb a.queue a.queue && eqb a.number a.number) (Some a.post) (reaped_post c past a.queue a.number)
          (and_from _ _ (eq-eqb a.queue a.queue refl) (eq-eqb a.number a.number refl));
      others = λ q j d.
          ap (λ (o : Option PostedAnswer). post_if q j o (reaped_post c past q j)) at
          ∙ cond-false (eqb a.queue q && eqb a.number j) (Some a.post) (reaped_post c past q j) (other a q j d);
    }
  where
    other : (a : PostedAnswer) (q j : ℕ) → (q ≡ a.queue → j ≡ a.number → ⊥) → (eqb a.queue q && eqb a.number j) ≡ false
    other a q j d = elim (cases_Bool (eqb a.queue q && eqb a.number j)) [
      | inl e ↦ let k = and_parts _ _ e in absurd (d (sym (eqb-true a.queue q k.0)) (sym (eqb-true a.number j k.1)))
      | inr e ↦ e
    ]

-- ---- a completion that was reaped stays so

reaped_one : (c : ConfigNumbers) (past : Past) (r : ReapLine) (q j : ℕ) (p : PostLine) → IsLegal c (Entry.Reap r ∷ past)
    → reaped_post c past q j ≡ Some p → reaped_post c (Entry.Reap r ∷ past) q j ≡ Some p
reaped_one c past r q j p h s =
    let x = reap_answers c past r h in
    x.others q j (λ a b. let u : reaped_post c past q j ≡ None = ap₂ (reaped_post c past) a b ∙ x.unreaped in
    let f : Some p ≡ None = sym s ∙ u in cc) ∙ s

pub reaped_later : (c : ConfigNumbers) (later past : Past) (q j : ℕ) (p : PostLine) → IsLegal c (later ++ past)
    → reaped_post c past q j ≡ Some p → reaped_post c (later ++ past) q j ≡ Some p
reaped_later c [] past q j p h s = s
reaped_later c (Entry.Reap r ∷ later) past q j p h s =
    reaped_one c (later ++ past) r q j p h
    (reaped_later c later past q j p (follows c (later ++ past) (Entry.Reap r) h).before s)
reaped_later c (Entry.Publish x ∷ later) past q j p h s =
    reaped_later c later past q j p (follows c (later ++ past) (Entry.Publish x) h).before s
reaped_later c (Entry.Fetch x ∷ later) past q j p h s =
    reaped_later c later past q j p (follows c (later ++ past) (Entry.Fetch x) h).before s
reaped_later c (Entry.Grant x ∷ later) past q j p h s =
    reaped_later c later past q j p (follows c (later ++ past) (Entry.Grant x) h).before s
reaped_later c (Entry.Block x ∷ later) past q j p h s =
    reaped_later c later past q j p (follows c (later ++ past) (Entry.Block x) h).before s
reaped_later c (Entry.Post x ∷ later) past q j p h s =
    reaped_later c later past q j p (follows c (later ++ past) (Entry.Post x) h).before s
