-- Success was reaped for an entry exactly where its reaped completion says so.
use Rattle.nvme_model.specs.Tickets
use Rattle.std.proofs.Common.{◌≡◌, ℕ, zero, suc, ◌+◌, ◌*◌, ◌≤◌, Bool, true, false, ◌&&◌, cond, List, [], ◌∷◌, ◌++◌}
use Rattle.std.proofs.Common.{length, refl, sym, ap, ◌∙◌, subst, Option, Some, None, inl, inr, ◌⊎◌, arith, eq-eqb, eqb}
use Rattle.std.proofs.Common.{eqb-true, slice_get, ◌/◌, ◌%◌, map, get_or}
use Rattle.std.proofs.lemmas.Bool.{and_parts, and_from, or_cases, or_right, cond-true, or_left}
use Rattle.nvme_model.specs.declared.config.ConfigNumbers.{ConfigNumbers}
use Rattle.nvme_model.specs.EntryBytes.{cqe_bytes, field}
use Rattle.nvme_model.specs.Statuses.{success, is_success}
use Rattle.nvme_model.specs.History.{Past}
use Rattle.nvme_model.specs.Tickets.{posts_of, cids}
use Rattle.nvme_model.specs.Queues.{fetched_count}
use Rattle.nvme_model.specs.Completions.{reaped_count, posted_completions, completion, phase}
use Rattle.host_laws.specs.Calls.{posted_answers, cqe_status, reaped_post, post_if, PostedAnswer}
use Rattle.nvme_model.specs.Slots.{reaped_success, says_success, EntryCompletion, entry_completions, is_success_of}
use Rattle.nvme_model.specs.Legal.{IsLegal}
use Rattle.nvme_model.specs.declared.entry.PostLine.{PostLine}
use Rattle.nvme_model.specs.declared.entry.ReapLine.{ReapLine}
use Rattle.nvme_model.specs.declared.entry.Entry.{Entry}
use Rattle.nvme_model.proofs.Rules.{follows}
use Rattle.nvme_model.proofs.Beginnings.{earlier}
use Rattle.nvme_model.specs.Config.{completion_queue}
use Rattle.nvme_model.proofs.Cut.{clash}
use Rattle.host_laws.proofs.Elements.{same_some}
use Rattle.host_laws.proofs.Statuses.{post_is, phase_small}
use Rattle.host_laws.proofs.PostedAnswers.{answer_at, to_entry_completion, entry_completions_map, entry_completions_are}
use Rattle.host_laws.proofs.Reaps.{reaped_later}
use Rattle.host_laws.proofs.Calls.{success_is}

-- ---- the bytes of a success

word_success : (w : ℕ) → w / 2 ≡ 0 → ((w / 512) % 8 ≡ 0) × ((w / 2) % 256 ≡ 0)
word_success w e = (omega (arith, e), omega (arith, e))

pub says_is : (cqe : List ℕ) → says_success cqe ≡ true → is_success (cqe_status cqe) ≡ true
says_is cqe h =
    let e = word_success (field 14 2 cqe) (eqb-true (field 14 2 cqe / 2) 0 h) in
    and_from _ _ (eq-eqb _ 0 e.0) (eq-eqb _ 0 e.1)

word_phase : (p : ℕ) → p ≤ 1
    → ((p + (2 * 0 + 512 * 0)) % 256 + 256 * (((p + (2 * 0 + 512 * 0)) / 256) % 256 + 256 * 0)) / 2 ≡ 0
word_phase p l = omega (arith, l)

success_says : (h q cid p : ℕ) → p ≤ 1 → says_success (cqe_bytes h q cid p success) ≡ true
success_says h q cid p l = eq-eqb _ 0 (word_phase p l)

posted_says : (c : ConfigNumbers) (past : Past) (p : PostLine) → IsLegal c (Entry.Post p ∷ past)
    → is_success (cqe_status p.cqe) ≡ true → says_success p.cqe ≡ true
posted_says c past p h y =
    let f = post_is c past p h in
    let k = Tickets.ticket past p.ticket in
    let cqe : p.cqe ≡ completion c past p.ticket success = f.cqe
    ∙ ap (completion c past p.ticket) (success_is (cqe_status p.cqe) y) in
    ap says_success cqe
    ∙ success_says (fetched_count past k.queue % c.sq_size) k.queue (get_or (cids k) (posts_of past p.ticket) 0)
    (phase (length (posted_completions c past (completion_queue c k.queue))) c.cq_size)
    (phase_small (length (posted_completions c past (completion_queue c k.queue))) c.cq_size)

-- ---- success was reaped for an entry exactly where its reaped completion says success

pub record Success (c : ConfigNumbers) (past : Past) (q j : ℕ) : Type 0 where
  pub post : PostLine
  pub reaped : reaped_post c past q j ≡ Some post
  pub says : is_success (cqe_status post.cqe) ≡ true

success_now : (c : ConfigNumbers) (past : Past) (r : ReapLine) (q j : ℕ) (o : Option EntryCompletion)
    → slice_get (entry_completions c past r.queue) (reaped_count past r.queue) ≡ o → is_success_of q j o ≡ true
    → Success c (Entry.Reap r ∷ past) q j
success_now c past r q j None e h = clash false h refl
success_now c past r q j (Some y) e h =
    let x = and_parts (eqb y.queue q && eqb y.number j) (says_success y.cqe) h in
    let found = entry_completions_are c past r.queue (reaped_count past r.queue) y e in
    let a = found.0 in
    let here : (eqb a.queue q && eqb a.number j) ≡ true =
    ap (λ (z : EntryCompletion). eqb z.queue q && eqb z.number j) found.2 ∙ x.0 in
    record {
      post = a.post;
      reaped = ap (λ (o : Option PostedAnswer). post_if q j o (reaped_post c past q j)) found.1
          ∙ cond-true (eqb a.queue q && eqb a.number j) (Some a.post) (reaped_post c past q j) here;
      says = says_is a.post.cqe (ap (λ (z : EntryCompletion). says_success z.cqe) found.2 ∙ x.1);
    }

pub success_reaped : (c : ConfigNumbers) (past : Past) (q j : ℕ) → IsLegal c past → reaped_success c past q j ≡ true
    → Success c past q j
success_reaped c [] q j h s = clash false s refl
success_reaped c (Entry.Reap r ∷ past) q j h s =
    go (or_cases (is_success_of q j (slice_get (entry_completions c past r.queue) (reaped_count past r.queue)))
    (reaped_success c past q j) s) (success_reaped c past q j (follows c past (Entry.Reap r) h).before)
  where
    go : (is_success_of q j (slice_get (entry_completions c past r.queue) (reaped_count past r.queue)) ≡ true)
        ⊎ (reaped_success c past q j ≡ true) → (reaped_success c past q j ≡ true → Success c past q j)
        → Success c (Entry.Reap r ∷ past) q j
    go (inl e) ih = success_now c past r q j (slice_get (entry_completions c past r.queue) (reaped_count past r.queue))
        refl e
    go (inr e) ih = let k = ih e in
        record { post = k.post; reaped = reaped_later c (Entry.Reap r ∷ []) past q j k.post h k.reaped; says = k.says }
success_reaped c (Entry.Publish x ∷ past) q j h s = let k =
    success_reaped c past q j (follows c past (Entry.Publish x) h).before s in
    record { post = k.post; reaped = k.reaped; says = k.says }
success_reaped c (Entry.Fetch x ∷ past) q j h s = let k =
    success_reaped c past q j (follows c past (Entry.Fetch x) h).before s in
    record { post = k.post; reaped = k.reaped; says = k.says }
success_reaped c (Entry.Grant x ∷ past) q j h s = let k =
    success_reaped c past q j (follows c past (Entry.Grant x) h).before s in
    record { post = k.post; reaped = k.reaped; says = k.says }
success_reaped c (Entry.Block x ∷ past) q j h s = let k =
    success_reaped c past q j (follows c past (Entry.Block x) h).before s in
    record { post = k.post; reaped = k.reaped; says = k.says }
success_reaped c (Entry.Post x ∷ past) q j h s = let k =
    success_reaped c past q j (follows c past (Entry.Post x) h).before s in
    record { post = k.post; reaped = k.reaped; says = k.says }

entry_completion_at : (c : ConfigNumbers) (past : Past) (q i : ℕ) (a : PostedAnswer)
    → slice_get (posted_answers c past q) i ≡ Some a
    → slice_get (entry_completions c past q) i ≡ Some (to_entry_completion a)
entry_completion_at c past q i a h =
    ap (λ (xs : List EntryCompletion). slice_get xs i) (sym (entry_completions_map c past q))
    ∙ mapped (posted_answers c past q) i a h
  where
    mapped : (xs : List PostedAnswer) (i : ℕ) (a : PostedAnswer) → slice_get xs i ≡ Some a
        → slice_get (map to_entry_completion xs) i ≡ Some (to_entry_completion a)
    mapped [] i a h = absurd (let f : None ≡ Some a = h in cc)
    mapped (x ∷ xs) zero a h = ap Some (ap to_entry_completion (same_some x a (Some x) refl h))
    mapped (x ∷ xs) (suc i) a h = mapped xs i a h

pub reaped_is_success : (c : ConfigNumbers) (past : Past) (q j : ℕ) (p : PostLine) → IsLegal c past
    → reaped_post c past q j ≡ Some p → is_success (cqe_status p.cqe) ≡ true → reaped_success c past q j ≡ true
reaped_is_success c [] q j p h e y = absurd (let f : None ≡ Some p = e in cc)
reaped_is_success c (Entry.Reap r ∷ past) q j p h e y =
    by_answer (slice_get (posted_answers c past r.queue) (reaped_count past r.queue)) refl e
    (reaped_is_success c past q j p before)
  where
    before : IsLegal c past
    before = (follows c past (Entry.Reap r) h).before

    earlier_or : reaped_success c past q j ≡ true → reaped_success c (Entry.Reap r ∷ past) q j ≡ true
    earlier_or s = or_right (is_success_of q j
        (slice_get (entry_completions c past r.queue) (reaped_count past r.queue))) (reaped_success c past q j) s

    now : (a : PostedAnswer) → slice_get (posted_answers c past r.queue) (reaped_count past r.queue) ≡ Some a
        → (eqb a.queue q && eqb a.number j) ≡ true → a.post ≡ p → reaped_success c (Entry.Reap r ∷ past) q j ≡ true
    now a f n z =
        let at = answer_at c past r.queue (reaped_count past r.queue) a f in
        let legal = earlier c at.later (Entry.Post a.post ∷ at.before)
        (subst (λ (x : Past). IsLegal c x) at.is before) in
        let says = posted_says c at.before a.post legal (ap (λ (x : PostLine). is_success (cqe_status x.cqe)) z ∙ y) in
        or_left (is_success_of q j (slice_get (entry_completions c past r.queue) (reaped_count past r.queue)))
        (reaped_success c past q j)
        (ap (is_success_of q j) (entry_completion_at c past r.queue (reaped_count past r.queue) a f)
        ∙ and_from (eqb a.queue q && eqb a.number j) (says_success a.post.cqe) n says)

    by_number : (a : PostedAnswer) → slice_get (posted_answers c past r.queue) (reaped_count past r.queue) ≡ Some a
        → (x : Bool) → (eqb a.queue q && eqb a.number j) ≡ x → cond x (Some a.post) (reaped_post c past q j) ≡ Some p
        → (reaped_post c past q j ≡ Some p → is_success (cqe_status p.cqe) ≡ true → reaped_success c past q j ≡ true)
        → reaped_success c (Entry.Reap r ∷ past) q j ≡ true
    by_number a f false n g ih = earlier_or (ih g y)
    by_number a f true n g ih = now a f n (same_some a.post p (Some a.post) refl g)

    by_answer : (o : Option PostedAnswer) → slice_get (posted_answers c past r.queue) (reaped_count past r.queue) ≡ o
        → post_if q j o (reaped_post c past q j) ≡ Some p
        → (reaped_post c past q j ≡ Some p → is_success (cqe_status p.cqe) ≡ true → reaped_success c past q j ≡ true)
        → reaped_success c (Entry.Reap r ∷ past) q j ≡ true
    by_answer None f g ih = earlier_or (ih g y)
    by_answer (Some a) f g ih = by_number a f (eqb a.queue q && eqb a.number j) refl g ih
reaped_is_success c (Entry.Publish x ∷ past) q j p h e y =
    reaped_is_success c past q j p (follows c past (Entry.Publish x) h).before e y
reaped_is_success c (Entry.Fetch x ∷ past) q j p h e y =
    reaped_is_success c past q j p (follows c past (Entry.Fetch x) h).before e y
reaped_is_success c (Entry.Grant x ∷ past) q j p h e y =
    reaped_is_success c past q j p (follows c past (Entry.Grant x) h).before e y
reaped_is_success c (Entry.Block x ∷ past) q j p h e y =
    reaped_is_success c past q j p (follows c past (Entry.Block x) h).before e y
reaped_is_success c (Entry.Post x ∷ past) q j p h e y =
    reaped_is_success c past q j p (follows c past (Entry.Post x) h).before e y

-- ---- so it stays

pub success_later : (c : ConfigNumbers) (later past : Past) (q j : ℕ) → IsLegal c (later ++ past)
    → reaped_success c past q j ≡ true → reaped_success c (later ++ past) q j ≡ true
success_later c later past q j h s =
    let k = success_reaped c past q j (earlier c later past h) s in
    reaped_is_success c (later ++ past) q j k.post h (reaped_later c later past q j k.post h k.reaped) k.says
