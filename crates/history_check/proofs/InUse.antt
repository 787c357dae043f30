-- The CIDs in use: what a Fetch adds to them, and what a Post takes away.
use Rattle.std.proofs.Common.{Bool, List, None, Some, [], ap, append_assoc, ap₂, arith, cond, drop, eq-eqb, eqb-true}
use Rattle.std.proofs.Common.{false, get_or, length, ltb-false, ltb-true, ne_eqb, not, refl, slice_get, suc, sym, true}
use Rattle.std.proofs.Common.{zero, ℕ, ◌*◌, ◌+◌, ◌++◌, ◌<◌, ◌==◌, ◌∙◌, ◌∷◌, ◌≡◌, ◌≢◌, ◌≤◌}
use Rattle.std.specs.List.{count_by, filter, flat_map}
use Rattle.std.proofs.lemmas.List.{append-nil, drop_all, drop_more, length-append, length-drop, length-map}
use Rattle.history_check.specs.Judged.{cids_left, flies, in_use}
use Rattle.history_check.specs.Tables.{CheckedTicket, Tables, flight, just_fetched, tables}
use Rattle.history_check.specs.Taken.{fetched_by, flies_on, posted_flight, tables_after, with_flight}
use Rattle.rings.proofs.CidCounts.{count_append}
use Rattle.nvme_model.specs.EntryBytes.{sqe_fields}
use Rattle.nvme_model.specs.History.{Past}
use Rattle.nvme_model.specs.Tickets.{cids, ticket}
use Rattle.nvme_model.specs.declared.config.ConfigNumbers.{ConfigNumbers}
use Rattle.nvme_model.specs.declared.entry.Entry.{Entry}
use Rattle.nvme_model.specs.declared.entry.FetchLine.{FetchLine}
use Rattle.nvme_model.specs.declared.entry.PostLine.{PostLine}
use Rattle.nvme_model.proofs.Lists.{Each, each_get, each_map}
use Rattle.nvme_model.proofs.NextPost.{commands_few}
use Rattle.ticket_laws.specs.Standing.{flying}
use Rattle.ticket_laws.proofs.Counts.{taken_some}
use Rattle.ticket_laws.proofs.Flying.{Rising, flying_rises}

-- ---- of a list of tickets

same_each : (f g : ℕ → List ℕ) (ts : List ℕ) → Each (λ t. g t ≡ f t) ts → flat_map g ts ≡ flat_map f ts
same_each f g [] e = refl
same_each f g (t ∷ ts) e = ap₂ (λ (xs ys : List ℕ). xs ++ ys) e.0 (same_each f g ts e.1)

-- with one more
with_more : (f : ℕ → List ℕ) (ts : List ℕ) (t : ℕ) → flat_map f (ts ++ t ∷ []) ≡ flat_map f ts ++ f t
with_more f [] t = append-nil (f t)
with_more f (u ∷ us) t = ap (λ (xs : List ℕ). f u ++ xs) (with_more f us t)
    ∙ sym (append_assoc (f u) (flat_map f us) (f t))

-- without one that has none
without : (f : ℕ → List ℕ) (ts : List ℕ) (t : ℕ) → f t ≡ [] → flat_map f (filter (λ u. not (u == t)) ts) ≡ flat_map f ts
without f [] t none = refl
without f (u ∷ us) t none = go (u == t) refl (without f us t none)
  where
    go : (b : Bool) → (u == t) ≡ b → flat_map f (filter (λ v. not (v == t)) us) ≡ flat_map f us
        → flat_map f (cond (not b) (u ∷ filter (λ v. not (v == t)) us) (filter (λ v. not (v == t)) us)) ≡ f u
        ++ flat_map f us
    go true same later = later ∙ ap (λ (xs : List ℕ). xs ++ flat_map f us) (sym (ap f (eqb-true u t same) ∙ none))
    go false other later = ap (λ (xs : List ℕ). f u ++ xs) later

-- one of them has some less
some_less : (p : ℕ → Bool) (f g : ℕ → List ℕ) (ts : List ℕ) (i t : ℕ) (xs : List ℕ) → Rising ts
    → slice_get ts i ≡ Some t → ((u : ℕ) → u ≢ t → g u ≡ f u)
    → count_by p (f t) ≡ count_by p xs + count_by p (g t)
    → count_by p (flat_map f ts) ≡ count_by p xs + count_by p (flat_map g ts)
some_less p f g [] i t xs r s o e = absurd (let n : None ≡ Some t = s in cc)
some_less p f g (u ∷ us) zero t xs r s o e =
    let same : u ≡ t = some_inj s in
    omega (
      arith,
      count_append p (f u) (flat_map f us),
      count_append p (g u) (flat_map g us),
      ap (λ n. count_by p (f n)) same,
      ap (λ n. count_by p (g n)) same,
      e,
      ap (count_by p) (same_each f g us
          (each_map (λ v. u < v) (λ v. g v ≡ f v) (λ v l. o v (λ q. omega (arith, q, same, l))) us r.0)),
    )
  where
    some_inj : Some u ≡ Some t → u ≡ t
    some_inj w = cc
some_less p f g (u ∷ us) (suc i) t xs r s o e =
    let below : u < t = each_get (λ v. u < v) us i t r.0 s in
    omega (
      arith,
      count_append p (f u) (flat_map f us),
      count_append p (g u) (flat_map g us),
      ap (count_by p) (o u (λ q. omega (arith, q, below))),
      some_less p f g us i t xs r.1 s o e,
    )

-- two at most of each
two_each : (f : ℕ → List ℕ) (ts : List ℕ) → ((t : ℕ) → length (f t) ≤ 2) → length (flat_map f ts) ≤ 2 * length ts
two_each f [] few = omega arith
two_each f (t ∷ ts) few = omega (arith, length-append (f t) (flat_map f ts), few t, two_each f ts few)

-- ---- of the tables

-- the CIDs of a ticket are as many as its commands
cids_all : (f : CheckedTicket) → length (cids f.ticket) ≡ length f.ticket.commands
cids_all f = length-map f.ticket.commands (λ s. (sqe_fields s.entry).cid)

-- there are few
pub in_use_few : (c : ConfigNumbers) (past : Past) (q : ℕ)
    → length (in_use (tables c past) q) ≤ 2 * length (flying past)
in_use_few c past q = two_each (λ t. cids_left q (flight past t)) (flying past)
    (λ t. few t ((ticket past t).queue == q))
  where
    few : (t : ℕ) (b : Bool) → length (cond b (drop (flight past t).posts (cids (ticket past t))) []) ≤ 2
    few t true =
        omega (
          arith,
          length-drop (flight past t).posts (cids (ticket past t)),
          cids_all (flight past t),
          commands_few past t,
          (taken_some (ticket past t).verdict).1,
        )
    few t false = omega arith

-- another flight that owes the same leaves them
pub in_use_with : (s : Tables) (t : ℕ) (f : CheckedTicket) → ((q : ℕ) → cids_left q f ≡ cids_left q (s.flight t))
    → in_use (record s { flight = with_flight s.flight t f }) ≡ in_use s
in_use_with s t f e = λ i q. flat_map (λ u. one q u (u == t) refl i) s.flying
  where
    one : (q u : ℕ) (b : Bool) → (u == t) ≡ b → cids_left q (cond b f (s.flight u)) ≡ cids_left q (s.flight u)
    one q u true same = e q ∙ ap (λ n. cids_left q (s.flight n)) (sym (eqb-true u t same))
    one q u false other = refl

-- a Fetch adds those of its ticket
pub in_use_fetched : (c : ConfigNumbers) (s : Tables) (f : FetchLine) (q : ℕ) → Each (λ t. t ≢ f.ticket) s.flying
    → in_use (tables_after c s (Entry.Fetch f)) q ≡ in_use s q ++ cids_left q (just_fetched (fetched_by s f))
in_use_fetched c s f q new =
    with_more (λ t. cids_left q (with_flight s.flight f.ticket (just_fetched (fetched_by s f)) t)) s.flying f.ticket
    ∙ ap₂ (λ (xs ys : List ℕ). xs ++ ys)
    (same_each (λ t. cids_left q (s.flight t))
    (λ t. cids_left q (with_flight s.flight f.ticket (just_fetched (fetched_by s f)) t)) s.flying
    (each_map (λ t. t ≢ f.ticket) _
    (λ t other. ap (λ b. cids_left q (cond b (just_fetched (fetched_by s f)) (s.flight t))) (ne_eqb t f.ticket other))
    s.flying new))
    (ap (λ b. cids_left q (cond b (just_fetched (fetched_by s f)) (s.flight f.ticket))) (eq-eqb f.ticket f.ticket refl))

-- a Post takes away the first that its ticket owes
module _ (f : CheckedTicket) (q : ℕ) where
  own_less : flies f ≡ true → (p : ℕ → Bool)
      → count_by p (cids_left q f) ≡ count_by p (cond (f.ticket.queue == q) (get_or (cids f.ticket) f.posts 0 ∷ []) [])
      + count_by p (cids_left q (posted_flight f))
  own_less flying p = go (f.ticket.queue == q)
    where
      go : (b : Bool) → count_by p (cond b (drop f.posts (cids f.ticket)) [])
          ≡ count_by p (cond b (get_or (cids f.ticket) f.posts 0 ∷ []) [])
          + count_by p (cond b (drop (f.posts + 1) (cids f.ticket)) [])
      go true =
          ap (count_by p) (drop_more (cids f.ticket) f.posts 0 (omega (arith, cids_all f, ltb-true _ _ flying)))
          ∙ count_append p (get_or (cids f.ticket) f.posts 0 ∷ []) (drop (f.posts + 1) (cids f.ticket))
      go false = refl

  none_left : flies_on f ≡ false → cids_left q (posted_flight f) ≡ []
  none_left lands = go (f.ticket.queue == q)
    where
      go : (b : Bool) → cond b (drop (f.posts + 1) (cids f.ticket)) [] ≡ []
      go true = drop_all (f.posts + 1) (cids f.ticket) (omega (arith, cids_all f, ltb-false _ _ lands))
      go false = refl

pub in_use_posted : (c : ConfigNumbers) (past : Past) (l : PostLine) (i : ℕ) → slice_get (flying past) i ≡ Some l.ticket
    → flies (flight past l.ticket) ≡ true → (q : ℕ) (p : ℕ → Bool)
    → count_by p (in_use (tables c past) q)
    ≡ count_by p (cond ((ticket past l.ticket).queue == q)
    (get_or (cids (ticket past l.ticket)) (flight past l.ticket).posts 0 ∷ []) [])
    + count_by p (in_use (tables_after c (tables c past) (Entry.Post l)) q)
in_use_posted c past l i place flying_now q p = go (flies_on (flight past l.ticket)) refl
  where
    first : List ℕ
    first = cond ((ticket past l.ticket).queue == q)
        (get_or (cids (ticket past l.ticket)) (flight past l.ticket).posts 0 ∷ []) []

    before : ℕ → List ℕ
    before t = cids_left q (flight past t)

    after : ℕ → List ℕ
    after t = cids_left q (with_flight (flight past) l.ticket (posted_flight (flight past l.ticket)) t)

    own : after l.ticket ≡ cids_left q (posted_flight (flight past l.ticket))
    own = ap (λ b. cids_left q (cond b (posted_flight (flight past l.ticket)) (flight past l.ticket)))
        (eq-eqb l.ticket l.ticket refl)

    others : (u : ℕ) → u ≢ l.ticket → after u ≡ before u
    others u other = ap (λ b. cids_left q (cond b (posted_flight (flight past l.ticket)) (flight past u)))
        (ne_eqb u l.ticket other)

    one : count_by p (flat_map before (flying past)) ≡ count_by p first + count_by p (flat_map after (flying past))
    one =
        some_less p before after (flying past) i l.ticket first (flying_rises past) place others
        (own_less (flight past l.ticket) q flying_now p
        ∙ ap (λ (xs : List ℕ). count_by p first + count_by p xs) (sym own))

    go : (b : Bool) → flies_on (flight past l.ticket) ≡ b
        → count_by p (flat_map before (flying past)) ≡ count_by p first
        + count_by p (flat_map after (cond b (flying past) (filter (λ t. not (t == l.ticket)) (flying past))))
    go true e = one
    go false e = one ∙ ap (λ (xs : List ℕ). count_by p first + count_by p xs)
        (sym (without after (flying past) l.ticket (own ∙ none_left (flight past l.ticket) q e)))
