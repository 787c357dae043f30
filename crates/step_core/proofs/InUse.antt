-- The CIDs in use of a history, counted: what a Fetch adds to them, and what a Post takes away.
use Rattle.std.proofs.Common.{◌≡◌, ℕ, zero, suc, ◌+◌, ◌*◌, ◌≤◌, ◌<◌, Bool, true, false, cond, List, [], ◌∷◌, ◌++◌}
use Rattle.std.proofs.Common.{add-one, ap, ap₂, arith, drop, eqb, eq-eqb, inl, inr, length, ltb-false, ne_eqb, refl}
use Rattle.std.proofs.Common.{slice_get, Some, sym, ◌∙◌}
use Rattle.std.specs.List.{count_by, flat_map}
use Rattle.std.proofs.lemmas.Bool.{cases_Bool, cases_eq, cond-false, cond-true}
use Rattle.std.proofs.lemmas.List.{length-append, length-drop, length-map}
use Rattle.rings.proofs.CidCounts.{count_append, count_cons}
use Rattle.nvme_model.specs.EntryBytes.{sqe_fields}
use Rattle.nvme_model.specs.History.{Past}
use Rattle.nvme_model.specs.Legal.{IsLegal}
use Rattle.nvme_model.specs.Tickets
use Rattle.nvme_model.specs.Tickets.{Ticket, cids, cids_in_use, fetched_ticket, in_flight, numbers_down, posts_of}
use Rattle.nvme_model.specs.declared.config.ConfigNumbers.{ConfigNumbers}
use Rattle.nvme_model.specs.declared.entry.Entry.{Entry}
use Rattle.nvme_model.specs.declared.entry.FetchLine.{FetchLine}
use Rattle.nvme_model.specs.declared.entry.PostLine.{PostLine}
use Rattle.nvme_model.proofs.NextPost.{commands_few}
use Rattle.nvme_model.proofs.Rules.{fetch_number, follows}
use Rattle.nvme_model.proofs.TakenEntries.{taken_two}
use Rattle.ticket_laws.proofs.Unfetched.{no_posts}

-- ---- the CIDs of one ticket

-- those that ticket t still owes a completion for, if it is of queue q
abbrev pub left_on : Past → ℕ → ℕ → List ℕ
left_on past q t = cond (eqb (Tickets.ticket past t).queue q) (drop (posts_of past t) (cids (Tickets.ticket past t))) []

-- ---- a Fetch

pub count_fetched : (c : ConfigNumbers) (past : Past) (f : FetchLine) → IsLegal c (Entry.Fetch f ∷ past)
    → (q : ℕ) (p : ℕ → Bool)
    → count_by p (cids_in_use (Entry.Fetch f ∷ past) q)
    ≡ count_by p (cond (eqb f.queue q) (cids (fetched_ticket past f.queue f.verdict)) [])
    + count_by p (cids_in_use past q)
count_fetched c past f h q p =
    ap (λ (m : ℕ). count_by p (flat_map (left_on (Entry.Fetch f ∷ past) q) (numbers_down m)))
    (add-one (Tickets.tickets past))
    ∙ count_append p (left_on (Entry.Fetch f ∷ past) q (suc (Tickets.tickets past))) _
    ∙ (λ i. count_by p (first i) + count_by p (rest (Tickets.tickets past) (omega arith) i))
  where
    number : f.ticket ≡ Tickets.tickets past + 1
    number = fetch_number c past f h

    first : left_on (Entry.Fetch f ∷ past) q (suc (Tickets.tickets past))
        ≡ cond (eqb f.queue q) (cids (fetched_ticket past f.queue f.verdict)) []
    first =
        (λ i. cond (eqb (here i).queue q)
        (drop (no_posts c past (suc (Tickets.tickets past)) (follows c past (Entry.Fetch f) h).before (omega arith)
        i) (cids (here i))) [])
      where
        here : Tickets.ticket (Entry.Fetch f ∷ past) (suc (Tickets.tickets past))
            ≡ fetched_ticket past f.queue f.verdict
        here = cond-true (eqb f.ticket (suc (Tickets.tickets past))) _ _
            (eq-eqb f.ticket (suc (Tickets.tickets past)) (omega (arith, number)))

    rest : (m : ℕ) → m ≤ Tickets.tickets past
        → flat_map (left_on (Entry.Fetch f ∷ past) q) (numbers_down m) ≡ flat_map (left_on past q) (numbers_down m)
    rest zero l = refl
    rest (suc m) l =
        let other = cond-false (eqb f.ticket (suc m)) (fetched_ticket past f.queue f.verdict)
        (Tickets.ticket past (suc m))
        (ne_eqb f.ticket (suc m) (λ (e : f.ticket ≡ suc m). omega (arith, e, number, l))) in
        ap₂ (λ (xs ys : List ℕ). xs ++ ys)
        (ap (λ (k : Ticket). cond (eqb k.queue q) (drop (posts_of past (suc m)) (cids k)) []) other)
        (rest m (omega (arith, l)))

-- ---- a Post

-- what is left begins with the first of it
drop_first : (n x : ℕ) (xs : List ℕ) → slice_get (drop n xs) 0 ≡ Some x → drop n xs ≡ x ∷ drop (suc n) xs
drop_first zero x [] e = absurd cc
drop_first zero x (y ∷ xs) e = cc
drop_first (suc n) x [] e = absurd cc
drop_first (suc n) x (y ∷ xs) e = drop_first n x xs e

module _ (past : Past) (p : PostLine) (cid : ℕ)
    (next : slice_get (drop (posts_of past p.ticket) (cids (Tickets.ticket past p.ticket))) 0 ≡ Some cid) (q : ℕ)
    (f : ℕ → Bool) where
  later : Past
  later = Entry.Post p ∷ past

  -- another ticket keeps its own
  other : (t : ℕ) → (p.ticket ≡ t → ⊥) → left_on (Entry.Post p ∷ past) q t ≡ left_on past q t
  other t n =
      ap (λ (m : ℕ). cond (eqb (Tickets.ticket past t).queue q) (drop m (cids (Tickets.ticket past t))) [])
      (ap (λ b. posts_of past t + cond b 1 0) (ne_eqb p.ticket t n)
      ∙ (let same : posts_of past t + 0 ≡ posts_of past t = omega arith in same))

  -- this one has its first no more
  own : count_by f (left_on past q p.ticket)
      ≡ count_by f (cond (eqb (Tickets.ticket past p.ticket).queue q) (cid ∷ []) [])
      + count_by f (left_on (Entry.Post p ∷ past) q p.ticket)
  own = go (eqb (Tickets.ticket past p.ticket).queue q)
    where
      posts : posts_of (Entry.Post p ∷ past) p.ticket ≡ suc (posts_of past p.ticket)
      posts = ap (λ b. posts_of past p.ticket + cond b 1 0) (eq-eqb p.ticket p.ticket refl)
          ∙ add-one (posts_of past p.ticket)

      go : (b : Bool) → count_by f (cond b (drop (posts_of past p.ticket) (cids (Tickets.ticket past p.ticket))) [])
          ≡ count_by f (cond b (cid ∷ []) [])
          + count_by f (cond b (drop (posts_of (Entry.Post p ∷ past) p.ticket)
          (cids (Tickets.ticket past p.ticket))) [])
      go true =
          ap (count_by f) (drop_first (posts_of past p.ticket) cid (cids (Tickets.ticket past p.ticket)) next
          ∙ ap (λ n. cid ∷ drop n (cids (Tickets.ticket past p.ticket))) (sym posts))
          ∙ count_append f (cid ∷ [])
          (drop (posts_of (Entry.Post p ∷ past) p.ticket) (cids (Tickets.ticket past p.ticket)))
      go false = refl

  -- below it all keep theirs
  below : (m : ℕ) → m < p.ticket
      → flat_map (left_on (Entry.Post p ∷ past) q) (numbers_down m) ≡ flat_map (left_on past q) (numbers_down m)
  below zero l = refl
  below (suc m) l =
      ap₂ (λ (xs ys : List ℕ). xs ++ ys) (other (suc m) (λ (e : p.ticket ≡ suc m). omega (arith, e, l)))
      (below m (omega (arith, l)))

  one_fewer : (m : ℕ) → 0 < p.ticket → p.ticket ≤ m
      → count_by f (flat_map (left_on past q) (numbers_down m))
      ≡ count_by f (cond (eqb (Tickets.ticket past p.ticket).queue q) (cid ∷ []) [])
      + count_by f (flat_map (left_on (Entry.Post p ∷ past) q) (numbers_down m))
  one_fewer zero some l = absurd (omega (arith, some, l))
  one_fewer (suc m) some l = elim (cases_eq p.ticket (suc m)) [
    | inl e ↦
        let head = ap (λ t. count_by f (left_on past q t)) (sym e) ∙ own
        ∙ ap (λ t. count_by f (cond (eqb (Tickets.ticket past p.ticket).queue q) (cid ∷ []) [])
        + count_by f (left_on (Entry.Post p ∷ past) q t)) e in
        omega (
          arith,
          count_append f (left_on past q (suc m)) (flat_map (left_on past q) (numbers_down m)),
          count_append f (left_on (Entry.Post p ∷ past) q (suc m))
              (flat_map (left_on (Entry.Post p ∷ past) q) (numbers_down m)),
          head,
          ap (count_by f) (below m (omega (arith, e))),
        )
    | inr n ↦ omega (
      arith,
      count_append f (left_on past q (suc m)) (flat_map (left_on past q) (numbers_down m)),
      count_append f (left_on (Entry.Post p ∷ past) q (suc m))
          (flat_map (left_on (Entry.Post p ∷ past) q) (numbers_down m)),
      ap (count_by f) (other (suc m) n),
      one_fewer m some (omega (arith, n, l)),
    )
  ]

-- a Post takes the first CID of its ticket away
pub count_posted : (past : Past) (p : PostLine) (cid : ℕ)
    → slice_get (drop (posts_of past p.ticket) (cids (Tickets.ticket past p.ticket))) 0 ≡ Some cid
    → 0 < p.ticket → p.ticket ≤ Tickets.tickets past → (q : ℕ) (f : ℕ → Bool)
    → count_by f (cids_in_use past q)
    ≡ count_by f (cond (eqb (Tickets.ticket past p.ticket).queue q) (cid ∷ []) [])
    + count_by f (cids_in_use (Entry.Post p ∷ past) q)
count_posted past p cid next some known q f = one_fewer past p cid next q f (Tickets.tickets past) some known

-- no ticket has the number 0
pub ticket_zero : (c : ConfigNumbers) (past : Past) → IsLegal c past → length (Tickets.ticket past 0).commands ≡ 0
ticket_zero c [] h = refl
ticket_zero c (Entry.Fetch f ∷ past) h =
    ap (λ (k : Ticket). length k.commands)
    (cond-false (eqb f.ticket 0) (fetched_ticket past f.queue f.verdict) (Tickets.ticket past 0)
    (ne_eqb f.ticket 0 (λ (e : f.ticket ≡ 0). omega (arith, e, fetch_number c past f h))))
    ∙ ticket_zero c past (follows c past (Entry.Fetch f) h).before
ticket_zero c (e ∷ past) h = ticket_zero c past (follows c past e h).before

-- ---- how many there are

-- two at most of each ticket in flight
pub two_each : (past : Past) (q : ℕ)
    → length (cids_in_use past q) ≤ 2 * count_by (in_flight past) (numbers_down (Tickets.tickets past))
two_each past q = go (Tickets.tickets past)
  where
    one : (t : ℕ) → length (left_on past q t) ≤ 2 * cond (in_flight past t) 1 0
    one t = by (eqb (Tickets.ticket past t).queue q)
      where
        few : length (drop (posts_of past t) (cids (Tickets.ticket past t))) ≤ 2 * cond (in_flight past t) 1 0
        few =
            let size = length-drop (posts_of past t) (cids (Tickets.ticket past t)) in
            let all = length-map (Tickets.ticket past t).commands (λ s. (sqe_fields s.entry).cid) in
            elim (cases_Bool (in_flight past t)) [
              | inl flies ↦ rw flies (omega
                  (arith, size, all, commands_few past t, taken_two (Tickets.ticket past t).verdict))
              | inr landed ↦ rw landed (omega (arith, size, all, ltb-false _ _ landed))
            ]

        by : (b : Bool) → length (cond b (drop (posts_of past t) (cids (Tickets.ticket past t))) []) ≤ 2
            * cond (in_flight past t) 1 0
        by true = few
        by false = omega arith

    go : (m : ℕ) → length (flat_map (left_on past q) (numbers_down m)) ≤ 2 * count_by (in_flight past) (numbers_down m)
    go zero = omega arith
    go (suc m) =
        omega (
          arith,
          length-append (left_on past q (suc m)) (flat_map (left_on past q) (numbers_down m)),
          one (suc m),
          go m,
          count_cons (in_flight past) (suc m) (numbers_down m),
        )
