-- No two completions are for one entry.
use Rattle.nvme_model.specs.Tickets
use Rattle.std.proofs.Common.{◌≡◌, ℕ, zero, suc, ◌+◌, ◌≤◌, ◌<◌, Bool, true, false, ◌&&◌, cond, [], ◌∷◌, refl, sym, ap}
use Rattle.std.proofs.Common.{ap₂, ◌∙◌, subst, Option, Some, None, inl, inr, arith, eq-eqb, eqb, eqb-true, ltb-true}
use Rattle.std.proofs.Common.{slice_get}
use Rattle.std.proofs.lemmas.Bool.{and_parts, cases_Bool, cases_lt, cases_eq, cond-false}
use Rattle.nvme_model.specs.declared.config.ConfigNumbers.{ConfigNumbers}
use Rattle.nvme_model.specs.Verdict.{taken_entries}
use Rattle.nvme_model.specs.History.{Past}
use Rattle.nvme_model.specs.Tickets.{Ticket, tickets, posts_of, fetched_ticket}
use Rattle.nvme_model.specs.Queues.{fetched_count}
use Rattle.nvme_model.specs.Completions.{reaped_count}
use Rattle.nvme_model.specs.Legal.{IsLegal}
use Rattle.host_laws.specs.Calls.{posted_answers, reaped_post, post_if, PostedAnswer, posted_answer}
use Rattle.nvme_model.specs.Slots.{fetched_before, next_number}
use Rattle.nvme_model.specs.declared.entry.FetchLine.{FetchLine}
use Rattle.nvme_model.specs.declared.entry.PostLine.{PostLine}
use Rattle.nvme_model.specs.declared.entry.Entry.{Entry}
use Rattle.nvme_model.proofs.Rules.{follows, fetch_number}
use Rattle.nvme_model.specs.Config.{completion_queue}
use Rattle.host_laws.proofs.Elements.{get_cases, get_append, same_some}
use Rattle.host_laws.proofs.Statuses.{PostIs, post_is}
use Rattle.host_laws.proofs.TicketsApart.{ranges_apart}
use Rattle.host_laws.proofs.PostedAnswers.{answer_own}

abbrev pub one_if : Bool → ℕ
one_if b = cond b 1 0

pub counted : (b : Bool) → b ≡ true → one_if b ≡ 1
counted true e = refl
counted false e = absurd (let f = e in cc)

-- ---- no two completions are for one entry

-- completion number i of ticket t was posted
pub record Known (past : Past) (q j : ℕ) : Type 0 where
  pub ticket : ℕ
  pub some : 1 ≤ ticket
  pub known : ticket ≤ tickets past
  pub queue : (Tickets.ticket past ticket).queue ≡ q
  pub index : ℕ
  pub number : j ≡ fetched_before past ticket + index
  pub posted : index < posts_of past ticket
  pub few : posts_of past ticket ≤ taken_entries (Tickets.ticket past ticket).verdict

known_fetch : (c : ConfigNumbers) (past : Past) (f : FetchLine) (q j : ℕ) → IsLegal c (Entry.Fetch f ∷ past)
    → Known past q j → Known (Entry.Fetch f ∷ past) q j
known_fetch c past f q j h k =
    let n = fetch_number c past f h in
    let other : eqb f.ticket k.ticket ≡ false = elim (cases_Bool (eqb f.ticket k.ticket)) [
      | inl e ↦ absurd (omega (arith, eqb-true f.ticket k.ticket e, n, k.known))
      | inr e ↦ e
    ] in
    let same = cond-false (eqb f.ticket k.ticket) (fetched_ticket past f.queue f.verdict) (Tickets.ticket past k.ticket)
    other in
    record {
      ticket = k.ticket;
      some = k.some;
      known = omega (arith, k.known);
      queue = ap (λ (x : Ticket). x.queue) same ∙ k.queue;
      index = k.index;
      number = k.number ∙ ap (λ (x : ℕ). x + k.index)
          (sym (cond-false (eqb f.ticket k.ticket) (fetched_count past f.queue) (fetched_before past k.ticket) other));
      posted = k.posted;
      few = omega (arith, k.few, ap (λ (x : Ticket). taken_entries x.verdict) same);
    }

known_post : (c : ConfigNumbers) (past : Past) (p : PostLine) (q j : ℕ) → IsLegal c (Entry.Post p ∷ past)
    → Known past q j → Known (Entry.Post p ∷ past) q j
known_post c past p q j h k =
    let f = post_is c past p h in
    record {
      ticket = k.ticket;
      some = k.some;
      known = k.known;
      queue = k.queue;
      index = k.index;
      number = k.number;
      posted = omega (arith, k.posted);
      few = go f (eqb p.ticket k.ticket) refl;
    }
  where
    go : PostIs c past p → (b : Bool) → eqb p.ticket k.ticket ≡ b
        → posts_of past k.ticket + cond b 1 0 ≤ taken_entries (Tickets.ticket past k.ticket).verdict
    go f false e = omega (arith, k.few)
    go f true e =
        let below : posts_of past p.ticket < taken_entries (Tickets.ticket past p.ticket).verdict =
        subst (λ (n : ℕ). posts_of past p.ticket < n) f.taken.count (ltb-true _ _ f.in_flight) in
        let at : posts_of past k.ticket < taken_entries (Tickets.ticket past k.ticket).verdict =
        subst (λ (x : ℕ). posts_of past x < taken_entries (Tickets.ticket past x).verdict)
        (eqb-true p.ticket k.ticket e)
        below in
        omega (arith, at)

new_known : (c : ConfigNumbers) (past : Past) (p : PostLine) → IsLegal c (Entry.Post p ∷ past)
    → Known (Entry.Post p ∷ past) (Tickets.ticket past p.ticket).queue (next_number past p.ticket)
new_known c past p h =
    let f = post_is c past p h in
    let below : posts_of past p.ticket < taken_entries (Tickets.ticket past p.ticket).verdict =
    subst (λ (n : ℕ). posts_of past p.ticket < n) f.taken.count (ltb-true _ _ f.in_flight) in
    let one = counted (eqb p.ticket p.ticket) (eq-eqb p.ticket p.ticket refl) in
    record {
      ticket = p.ticket;
      some = f.some;
      known = f.known;
      queue = refl;
      index = posts_of past p.ticket;
      number = refl;
      posted = omega (arith, one);
      few = omega (arith, one, below);
    }

pub posted_answers_known : (c : ConfigNumbers) (past : Past) (q i : ℕ) (a : PostedAnswer) → IsLegal c past
    → slice_get (posted_answers c past q) i ≡ Some a → Known past a.queue a.number
posted_answers_known c [] q i a h e = absurd (let f : None ≡ Some a = e in cc)
posted_answers_known c (Entry.Fetch f ∷ past) q i a h e =
    known_fetch c past f a.queue a.number h
    (posted_answers_known c past q i a (follows c past (Entry.Fetch f) h).before e)
posted_answers_known c (Entry.Post p ∷ past) q i a h e =
    elim (get_cases (posted_answers c past q)
    (cond (eqb (completion_queue c (Tickets.ticket past p.ticket).queue) q) (posted_answer past p ∷ []) []) i a e) [
      | inl f ↦ known_post c past p a.queue a.number h
          (posted_answers_known c past q i a (follows c past (Entry.Post p) h).before f)
      | inr m ↦ new (eqb (completion_queue c (Tickets.ticket past p.ticket).queue) q) m.0 m.2
    ]
  where
    new : (x : Bool) (m : ℕ) → slice_get (cond x (posted_answer past p ∷ []) []) m ≡ Some a
        → Known (Entry.Post p ∷ past) a.queue a.number
    new false m f = absurd (let g : None ≡ Some a = f in cc)
    new true zero f = subst (λ (y : PostedAnswer). Known (Entry.Post p ∷ past) y.queue y.number)
        (same_some (posted_answer past p) a (Some (posted_answer past p)) refl f) (new_known c past p h)
    new true (suc m) f = absurd (let g : None ≡ Some a = f in cc)
posted_answers_known c (Entry.Publish p ∷ past) q i a h e =
    let k = posted_answers_known c past q i a (follows c past (Entry.Publish p) h).before e in
    record {
      ticket = k.ticket;
      some = k.some;
      known = k.known;
      queue = k.queue;
      index = k.index;
      number = k.number;
      posted = k.posted;
      few = k.few;
    }
posted_answers_known c (Entry.Grant p ∷ past) q i a h e =
    let k = posted_answers_known c past q i a (follows c past (Entry.Grant p) h).before e in
    record {
      ticket = k.ticket;
      some = k.some;
      known = k.known;
      queue = k.queue;
      index = k.index;
      number = k.number;
      posted = k.posted;
      few = k.few;
    }
posted_answers_known c (Entry.Block p ∷ past) q i a h e =
    let k = posted_answers_known c past q i a (follows c past (Entry.Block p) h).before e in
    record {
      ticket = k.ticket;
      some = k.some;
      known = k.known;
      queue = k.queue;
      index = k.index;
      number = k.number;
      posted = k.posted;
      few = k.few;
    }
posted_answers_known c (Entry.Reap p ∷ past) q i a h e =
    let k = posted_answers_known c past q i a (follows c past (Entry.Reap p) h).before e in
    record {
      ticket = k.ticket;
      some = k.some;
      known = k.known;
      queue = k.queue;
      index = k.index;
      number = k.number;
      posted = k.posted;
      few = k.few;
    }

-- the next completion's number is new
fresh : (c : ConfigNumbers) (past : Past) (p : PostLine) (j : ℕ) → IsLegal c (Entry.Post p ∷ past)
    → Known past (Tickets.ticket past p.ticket).queue j → j ≡ next_number past p.ticket → ⊥
fresh c past p j h k e =
    let f = post_is c past p h in
    let before = (follows c past (Entry.Post p) h).before in
    let below : posts_of past p.ticket < taken_entries (Tickets.ticket past p.ticket).verdict =
    subst (λ (n : ℕ). posts_of past p.ticket < n) f.taken.count (ltb-true _ _ f.in_flight) in
    elim (cases_lt k.ticket p.ticket) [
      | inl l ↦ omega (
        arith,
        ranges_apart c past k.ticket p.ticket before k.some l f.known k.queue,
        k.number,
        k.posted,
        k.few,
        e,
      )
      | inr l ↦ elim (cases_eq k.ticket p.ticket) [
        | inl s ↦ omega (arith, ap (fetched_before past) s, ap (posts_of past) s, k.number, k.posted, e)
        | inr d ↦ omega (
          arith,
          ranges_apart c past p.ticket k.ticket before f.some (omega (arith, l, d)) k.known
              (sym k.queue),
          k.number,
          below,
          e,
        )
      ]
    ]

pub numbers_differ : (c : ConfigNumbers) (past : Past) (q i k : ℕ) (a b : PostedAnswer) → IsLegal c past
    → slice_get (posted_answers c past q) i ≡ Some a → slice_get (posted_answers c past q) k ≡ Some b
    → a.queue ≡ b.queue → a.number ≡ b.number → i ≡ k
numbers_differ c [] q i k a b h e f t s = absurd (let g : None ≡ Some a = e in cc)
numbers_differ c (Entry.Post p ∷ past) q i k a b h e f t s =
    elim (get_cases (posted_answers c past q)
    (cond (eqb (completion_queue c (Tickets.ticket past p.ticket).queue) q) (posted_answer past p ∷ []) []) i a e) [
      | inl x ↦ elim (get_cases (posted_answers c past q)
          (cond (eqb (completion_queue c (Tickets.ticket past p.ticket).queue) q) (posted_answer past p ∷ []) []) k b
          f) [
            | inl y ↦ numbers_differ c past q i k a b before x y t s
            | inr y ↦ absurd (apart (eqb (completion_queue c (Tickets.ticket past p.ticket).queue) q) y.0 b y.2 i a x t
                s)
          ]
      | inr x ↦ elim (get_cases (posted_answers c past q)
          (cond (eqb (completion_queue c (Tickets.ticket past p.ticket).queue) q) (posted_answer past p ∷ []) []) k b
          f) [
            | inl y ↦ absurd (apart (eqb (completion_queue c (Tickets.ticket past p.ticket).queue) q) x.0 a x.2 k b y
                (sym t) (sym s))
            | inr y ↦ omega (
              arith,
              x.1,
              y.1,
              only (eqb (completion_queue c (Tickets.ticket past p.ticket).queue) q) x.0 a x.2,
              only (eqb (completion_queue c (Tickets.ticket past p.ticket).queue) q) y.0 b y.2,
            )
          ]
    ]
  where
    before : IsLegal c past
    before = (follows c past (Entry.Post p) h).before

    only : (x : Bool) (m : ℕ) (z : PostedAnswer) → slice_get (cond x (posted_answer past p ∷ []) []) m ≡ Some z → m ≡ 0
    only false m z g = absurd (let w : None ≡ Some z = g in cc)
    only true zero z g = refl
    only true (suc m) z g = absurd (let w : None ≡ Some z = g in cc)

    apart : (x : Bool) (m : ℕ) (z : PostedAnswer) → slice_get (cond x (posted_answer past p ∷ []) []) m ≡ Some z
        → (n : ℕ) (y : PostedAnswer) → slice_get (posted_answers c past q) n ≡ Some y → y.queue ≡ z.queue
        → y.number ≡ z.number → ⊥
    apart false m z g n y w queue number = let v : None ≡ Some z = g in cc
    apart true (suc m) z g n y w queue number = let v : None ≡ Some z = g in cc
    apart true zero z g n y w queue number =
        let is = same_some (posted_answer past p) z (Some (posted_answer past p)) refl g in
        fresh c past p y.number h
        (subst (λ (i : ℕ). Known past i y.number) (queue ∙ sym (ap (λ (v : PostedAnswer). v.queue) is))
        (posted_answers_known c past q n y before w)) (number ∙ sym (ap (λ (v : PostedAnswer). v.number) is))
numbers_differ c (Entry.Publish p ∷ past) q i k a b h e f t s =
    numbers_differ c past q i k a b (follows c past (Entry.Publish p) h).before e f t s
numbers_differ c (Entry.Fetch p ∷ past) q i k a b h e f t s =
    numbers_differ c past q i k a b (follows c past (Entry.Fetch p) h).before e f t s
numbers_differ c (Entry.Grant p ∷ past) q i k a b h e f t s =
    numbers_differ c past q i k a b (follows c past (Entry.Grant p) h).before e f t s
numbers_differ c (Entry.Block p ∷ past) q i k a b h e f t s =
    numbers_differ c past q i k a b (follows c past (Entry.Block p) h).before e f t s
numbers_differ c (Entry.Reap p ∷ past) q i k a b h e f t s =
    numbers_differ c past q i k a b (follows c past (Entry.Reap p) h).before e f t s

-- ---- what was reaped before

pub record ReapedAt (c : ConfigNumbers) (past : Past) (q j : ℕ) (p : PostLine) : Type 0 where
  pub index : ℕ
  pub below : index < reaped_count past (completion_queue c q)
  pub at : slice_get (posted_answers c past (completion_queue c q)) index
      ≡ Some (record { queue = q; number = j; post = p })

later_answer : (c : ConfigNumbers) (e : Entry) (past : Past) (q i : ℕ) (a : PostedAnswer)
    → slice_get (posted_answers c past q) i ≡ Some a → slice_get (posted_answers c (e ∷ past) q) i ≡ Some a
later_answer c (Entry.Post p) past q i a h =
    get_append (posted_answers c past q)
    (cond (eqb (completion_queue c (Tickets.ticket past p.ticket).queue) q) (posted_answer past p ∷ []) []) i a h
later_answer c (Entry.Publish p) past q i a h = h
later_answer c (Entry.Fetch p) past q i a h = h
later_answer c (Entry.Grant p) past q i a h = h
later_answer c (Entry.Block p) past q i a h = h
later_answer c (Entry.Reap p) past q i a h = h

later_reaped : (e : Entry) (past : Past) (q : ℕ) → reaped_count past q ≤ reaped_count (e ∷ past) q
later_reaped (Entry.Post p) past q = omega arith
later_reaped (Entry.Publish p) past q = omega arith
later_reaped (Entry.Fetch p) past q = omega arith
later_reaped (Entry.Grant p) past q = omega arith
later_reaped (Entry.Block p) past q = omega arith
later_reaped (Entry.Reap p) past q = omega arith

keep : (c : ConfigNumbers) (e : Entry) (past : Past) (q j : ℕ) (p : PostLine) → ReapedAt c past q j p
    → ReapedAt c (e ∷ past) q j p
keep c e past q j p r =
    record {
      index = r.index;
      below = omega (arith, r.below, later_reaped e past (completion_queue c q));
      at = later_answer c e past (completion_queue c q) r.index _ r.at;
    }

abbrev of_parts : ℕ → ℕ → PostLine → PostedAnswer
of_parts q j p = record { queue = q; number = j; post = p }

pub reaped_at : (c : ConfigNumbers) (past : Past) (q j : ℕ) (p : PostLine) → reaped_post c past q j ≡ Some p
    → ReapedAt c past q j p
reaped_at c [] q j p h = absurd (let f : None ≡ Some p = h in cc)
reaped_at c (Entry.Reap r ∷ past) q j p h =
    by_answer (slice_get (posted_answers c past r.queue) (reaped_count past r.queue)) refl h (reaped_at c past q j p)
  where
    now : (a : PostedAnswer) → slice_get (posted_answers c past r.queue) (reaped_count past r.queue) ≡ Some a
        → a.queue ≡ q → a.number ≡ j → a.post ≡ p → ReapedAt c (Entry.Reap r ∷ past) q j p
    now a e x y z =
        let own : r.queue ≡ completion_queue c q = sym (answer_own c past r.queue (reaped_count past r.queue) a e)
        ∙ ap (completion_queue c) x in
        let one = counted (eqb r.queue (completion_queue c q)) (eq-eqb _ _ own) in
        let same : Some a ≡ Some (of_parts q j p) =
        ap Some (ap₂ (λ (u v : ℕ). of_parts u v a.post) x y ∙ ap (of_parts q j) z) in
        record {
          index = reaped_count past (completion_queue c q);
          below = omega (arith, one);
          at = subst (λ (n : ℕ). slice_get (posted_answers c past n) (reaped_count past n) ≡ Some (of_parts q j p)) own
              (e ∙ same);
        }

    by_number : (a : PostedAnswer) → slice_get (posted_answers c past r.queue) (reaped_count past r.queue) ≡ Some a
        → (x : Bool) → (eqb a.queue q && eqb a.number j) ≡ x → cond x (Some a.post) (reaped_post c past q j) ≡ Some p
        → (reaped_post c past q j ≡ Some p → ReapedAt c past q j p) → ReapedAt c (Entry.Reap r ∷ past) q j p
    by_number a e false n g ih = keep c (Entry.Reap r) past q j p (ih g)
    by_number a e true n g ih =
        let k = and_parts _ _ n in
        now a e (eqb-true a.queue q k.0) (eqb-true a.number j k.1) (same_some a.post p (Some a.post) refl g)

    by_answer : (o : Option PostedAnswer) → slice_get (posted_answers c past r.queue) (reaped_count past r.queue) ≡ o
        → post_if q j o (reaped_post c past q j) ≡ Some p
        → (reaped_post c past q j ≡ Some p → ReapedAt c past q j p) → ReapedAt c (Entry.Reap r ∷ past) q j p
    by_answer None e f ih = keep c (Entry.Reap r) past q j p (ih f)
    by_answer (Some a) e f ih = by_number a e (eqb a.queue q && eqb a.number j) refl f ih
reaped_at c (Entry.Publish x ∷ past) q j p h = keep c _ past q j p (reaped_at c past q j p h)
reaped_at c (Entry.Fetch x ∷ past) q j p h = keep c _ past q j p (reaped_at c past q j p h)
reaped_at c (Entry.Grant x ∷ past) q j p h = keep c _ past q j p (reaped_at c past q j p h)
reaped_at c (Entry.Block x ∷ past) q j p h = keep c _ past q j p (reaped_at c past q j p h)
reaped_at c (Entry.Post x ∷ past) q j p h = keep c _ past q j p (reaped_at c past q j p h)
