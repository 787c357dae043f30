-- The first of a pair is answered before its second.
use Rattle.nvme_model.specs.Tickets
use Rattle.std.proofs.Common.{◌≡◌, ℕ, ◌+◌, ◌<◌, ◌≤◌, Bool, true, false, ◌&&◌, cond, List, [], ◌∷◌}
use Rattle.std.proofs.Common.{Option, None, Some, length, length-append, slice_get, refl, sym, ap}
use Rattle.std.proofs.Common.{◌∙◌, subst, inl, inr, arith, eq-eqb, eqb, eqb-true}
use Rattle.std.proofs.lemmas.Bool.{and_from, cases_Bool, cases_lt, cond-false, cond-true}
use Rattle.ticket_laws.proofs.Unfetched.{no_posts}
use Rattle.nvme_model.specs.Completions.{posted_completions, reaped_count}
use Rattle.nvme_model.specs.Config.{completion_queue}
use Rattle.nvme_model.specs.History.{Past}
use Rattle.nvme_model.specs.Legal.{IsLegal}
use Rattle.nvme_model.specs.Queues.{fetched_count}
use Rattle.nvme_model.specs.Slots.{fetched_before}
use Rattle.nvme_model.specs.Tickets.{Ticket, fetched_ticket, posts_of, tickets}
use Rattle.nvme_model.specs.declared.config.ConfigNumbers.{ConfigNumbers}
use Rattle.nvme_model.specs.declared.entry.Entry.{Entry}
use Rattle.nvme_model.proofs.Rules.{fetch_number, follows}
use Rattle.nvme_model.proofs.Runs.{reaped_posted}
use Rattle.host_laws.specs.Calls.{PostedAnswer, post_if, posted_answer, posted_answers, reaped_post}
use Rattle.host_laws.proofs.Elements.{get_after, get_append, get_cases}
use Rattle.host_laws.proofs.Reaps.{reaped_later}

-- ---- an answer that was reaped

same_count : (c : ConfigNumbers) (past : Past) (n : ℕ)
    → length (posted_answers c past n) ≡ length (posted_completions c past n)
same_count c [] n = refl
same_count c (Entry.Post p ∷ past) n =
    omega (
      arith,
      length-append (posted_answers c past n) (cond b (posted_answer past p ∷ []) []),
      length-append (posted_completions c past n) (cond b (p ∷ []) []),
      same_count c past n,
      one b,
    )
  where
    b : Bool
    b = eqb (completion_queue c (Tickets.ticket past p.ticket).queue) n

    one : (x : Bool) → length (cond x (posted_answer past p ∷ []) []) ≡ length (cond x (p ∷ []) [])
    one true = refl
    one false = refl
same_count c (Entry.Publish p ∷ past) n = same_count c past n
same_count c (Entry.Fetch p ∷ past) n = same_count c past n
same_count c (Entry.Grant p ∷ past) n = same_count c past n
same_count c (Entry.Block p ∷ past) n = same_count c past n
same_count c (Entry.Reap p ∷ past) n = same_count c past n

-- by its place among those of its completion queue
pub reaped_from : (c : ConfigNumbers) (past : Past) (n i : ℕ) (a : PostedAnswer) → IsLegal c past
    → slice_get (posted_answers c past n) i ≡ Some a → i < reaped_count past n
    → reaped_post c past a.queue a.number ≡ Some a.post
reaped_from c [] n i a h e l = absurd (let f : None ≡ Some a = e in cc)
reaped_from c (Entry.Post p ∷ past) n i a h e l =
    let before = (follows c past (Entry.Post p) h).before in
    elim (get_cases (posted_answers c past n)
    (cond (eqb (completion_queue c (Tickets.ticket past p.ticket).queue) n) (posted_answer past p ∷ []) []) i a e) [
      | inl x ↦ reaped_from c past n i a before x l
      | inr m ↦ absurd (omega (arith, m.1, l, reaped_posted c past n before, same_count c past n))
    ]
reaped_from c (Entry.Reap r ∷ past) n i a h e l =
    let before = (follows c past (Entry.Reap r) h).before in
    elim (cases_lt i (reaped_count past n)) [
      | inl m ↦ reaped_later c (Entry.Reap r ∷ []) past a.queue a.number a.post h (reaped_from c past n i a before e m)
      | inr m ↦ now m (eqb r.queue n) refl l
    ]
  where
    now : reaped_count past n ≤ i → (b : Bool) → eqb r.queue n ≡ b → i < reaped_count past n + cond b 1 0
        → reaped_post c (Entry.Reap r ∷ past) a.queue a.number ≡ Some a.post
    now m false z k = absurd (omega (arith, m, k))
    now m true z k =
        let queue = eqb-true r.queue n z in
        let there : slice_get (posted_answers c past r.queue) (reaped_count past r.queue) ≡ Some a =
        subst (λ (q : ℕ). slice_get (posted_answers c past q) (reaped_count past q) ≡ Some a) (sym queue)
        (subst (λ (j : ℕ). slice_get (posted_answers c past n) j ≡ Some a) (omega (arith, m, k)) e) in
        ap (λ (o : Option PostedAnswer). post_if a.queue a.number o (reaped_post c past a.queue a.number)) there
        ∙ cond-true (eqb a.queue a.queue && eqb a.number a.number) (Some a.post) (reaped_post c past a.queue a.number)
        (and_from _ _ (eq-eqb a.queue a.queue refl) (eq-eqb a.number a.number refl))
reaped_from c (Entry.Publish p ∷ past) n i a h e l =
    reaped_from c past n i a (follows c past (Entry.Publish p) h).before e l
reaped_from c (Entry.Fetch p ∷ past) n i a h e l =
    reaped_from c past n i a (follows c past (Entry.Fetch p) h).before e l
reaped_from c (Entry.Grant p ∷ past) n i a h e l =
    reaped_from c past n i a (follows c past (Entry.Grant p) h).before e l
reaped_from c (Entry.Block p ∷ past) n i a h e l =
    reaped_from c past n i a (follows c past (Entry.Block p) h).before e l

-- ---- the first completion of a ticket

-- where it stands
pub record FirstPosted (c : ConfigNumbers) (past : Past) (t n : ℕ) : Type 0 where
  pub place : ℕ
  pub answer : PostedAnswer
  pub at : slice_get (posted_answers c past n) place ≡ Some answer
  pub queue : answer.queue ≡ (Tickets.ticket past t).queue
  pub number : answer.number ≡ fetched_before past t

posted_on : (c : ConfigNumbers) (e : Entry) (past : Past) (t n : ℕ)
    → ((i : ℕ) (a : PostedAnswer) → slice_get (posted_answers c past n) i ≡ Some a
    → slice_get (posted_answers c (e ∷ past) n) i ≡ Some a)
    → Tickets.ticket (e ∷ past) t ≡ Tickets.ticket past t → fetched_before (e ∷ past) t ≡ fetched_before past t
    → FirstPosted c past t n → FirstPosted c (e ∷ past) t n
posted_on c e past t n f same number x =
    record {
      place = x.place;
      answer = x.answer;
      at = f x.place x.answer x.at;
      queue = x.queue ∙ ap (λ (k : Ticket). k.queue) (sym same);
      number = x.number ∙ sym number;
    }

pub first_posted : (c : ConfigNumbers) (past : Past) (t n : ℕ) → IsLegal c past → t ≤ tickets past
    → completion_queue c (Tickets.ticket past t).queue ≡ n → 1 ≤ posts_of past t → FirstPosted c past t n
first_posted c [] t n h l q s = absurd (omega (arith, s))
first_posted c (Entry.Post p ∷ past) t n h l q s =
    go (eqb p.ticket t) refl s (λ m. first_posted c past t n (follows c past (Entry.Post p) h).before l q m)
  where
    more : List PostedAnswer
    more = cond (eqb (completion_queue c (Tickets.ticket past p.ticket).queue) n) (posted_answer past p ∷ []) []

    old : FirstPosted c past t n → FirstPosted c (Entry.Post p ∷ past) t n
    old = posted_on c (Entry.Post p) past t n (λ i a e. get_append (posted_answers c past n) more i a e) refl refl

    new : p.ticket ≡ t → posts_of past t ≡ 0 → FirstPosted c (Entry.Post p ∷ past) t n
    new same none =
        let here : more ≡ posted_answer past p ∷ [] =
        cond-true (eqb (completion_queue c (Tickets.ticket past p.ticket).queue) n) (posted_answer past p ∷ []) []
        (eq-eqb _ _ (ap (λ (u : ℕ). completion_queue c (Tickets.ticket past u).queue) same ∙ q)) in
        record {
          place = length (posted_answers c past n);
          answer = posted_answer past p;
          at = get_after (posted_answers c past n) more 0 (length (posted_answers c past n)) (posted_answer past p)
              (omega arith) (ap (λ (xs : List PostedAnswer). slice_get xs 0) here);
          queue = ap (λ (u : ℕ). (Tickets.ticket past u).queue) same;
          number = omega (
            arith,
            ap (fetched_before past) same,
            ap (posts_of past) same,
            none,
          );
        }

    go : (b : Bool) → eqb p.ticket t ≡ b → 1 ≤ posts_of past t + cond b 1 0
        → (1 ≤ posts_of past t → FirstPosted c past t n) → FirstPosted c (Entry.Post p ∷ past) t n
    go false z m ih = old (ih (omega (arith, m)))
    go true z m ih = elim (cases_lt 0 (posts_of past t)) [
      | inl k ↦ old (ih (omega (arith, k)))
      | inr k ↦ new (eqb-true p.ticket t z) (omega (arith, k))
    ]
first_posted c (Entry.Fetch f ∷ past) t n h l q s =
    let before = (follows c past (Entry.Fetch f) h).before in
    let number = fetch_number c past f h in
    elim (cases_lt (tickets past) t) [
      | inl m ↦ absurd (omega (arith, s, no_posts c past t before m))
      | inr m ↦
          let other : eqb f.ticket t ≡ false = elim (cases_Bool (eqb f.ticket t)) [
            | inl e ↦ absurd (omega (arith, eqb-true f.ticket t e, number, m))
            | inr e ↦ e
          ] in
          let same = cond-false (eqb f.ticket t) (fetched_ticket past f.queue f.verdict)
          (Tickets.ticket past t) other in
          posted_on c (Entry.Fetch f) past t n (λ i a e. e) same
          (cond-false (eqb f.ticket t) (fetched_count past f.queue) (fetched_before past t) other)
          (first_posted c past t n before m (ap (λ (k : Ticket). completion_queue c k.queue) (sym same) ∙ q) s)
    ]
first_posted c (Entry.Publish p ∷ past) t n h l q s =
    posted_on c (Entry.Publish p) past t n (λ i a e. e) refl refl
    (first_posted c past t n (follows c past (Entry.Publish p) h).before l q s)
first_posted c (Entry.Grant p ∷ past) t n h l q s =
    posted_on c (Entry.Grant p) past t n (λ i a e. e) refl refl
    (first_posted c past t n (follows c past (Entry.Grant p) h).before l q s)
first_posted c (Entry.Block p ∷ past) t n h l q s =
    posted_on c (Entry.Block p) past t n (λ i a e. e) refl refl
    (first_posted c past t n (follows c past (Entry.Block p) h).before l q s)
first_posted c (Entry.Reap p ∷ past) t n h l q s =
    posted_on c (Entry.Reap p) past t n (λ i a e. e) refl refl
    (first_posted c past t n (follows c past (Entry.Reap p) h).before l q s)
