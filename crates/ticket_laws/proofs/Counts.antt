-- What a legal history says of its counts.
use Rattle.std.proofs.Common.{◌≡◌, ℕ, zero, suc, ◌+◌, ◌-◌, ◌≤◌, ◌<◌, Bool, true, false, ◌&&◌, ◌||◌, cond, List, [], ◌∷◌}
use Rattle.std.proofs.Common.{length, map, drop, refl, sym, ap, ◌∙◌, subst, Option, Some, None, inl, inr, arith, eq-eqb}
use Rattle.std.proofs.Common.{ne_eqb, eqb, eqb-true, ltb-false, length-append}
use Rattle.std.specs.List.{filter, list_any, count_by, flat_map}
use Rattle.std.proofs.lemmas.List.{length-drop, length-map}
use Rattle.std.proofs.lemmas.List.Elements.{filter-append}
use Rattle.std.proofs.lemmas.List.Sums.{sum_by-cons}
use Rattle.std.proofs.lemmas.List.Folds.{list_any-append}
use Rattle.std.proofs.lemmas.Bool.{cases_Bool, and_parts}
use Rattle.plain_lemmas.proofs.Lists.{any_same}
use Rattle.nvme_model.proofs.Rules.{follows}
use Rattle.nvme_model.specs.EntryBytes.{sqe_fields}
use Rattle.nvme_model.specs.History.{Past}
use Rattle.nvme_model.specs.Legal.{IsLegal}
use Rattle.nvme_model.specs.Queues.{fetched_count, published_entries, waiting}
use Rattle.ticket_laws.specs.Standing.{flying, rising}
use Rattle.nvme_model.specs.Tickets.{next_verdict, cids, cids_in_use, in_flight, numbers_down, posts_of}
use Rattle.nvme_model.specs.Statuses.{missing_fused}
use Rattle.nvme_model.specs.declared.config.AtomicParameters.{AtomicParameters}
use Rattle.nvme_model.specs.Verdict.{Item, item_of, command_fault, is_in, of_command, of_pair, pair_fault, pair_verdict}
use Rattle.nvme_model.specs.Verdict.{same_verdict, taken_entries, verdict_of}
use Rattle.nvme_model.specs.declared.config.ConfigNumbers.{ConfigNumbers}
use Rattle.nvme_model.specs.declared.entry.Entry.{Entry}
use Rattle.nvme_model.specs.declared.status.Status.{Status}
use Rattle.nvme_model.specs.declared.status.Verdict.{Verdict}
use Rattle.nvme_model.specs.declared.submission.Submission.{Submission}
use Rattle.nvme_model.specs.Tickets
use Rattle.nvme_model.proofs.Lists.{drop_map}
use Rattle.nvme_model.proofs.TakenEntries.{one_taken}

-- ---- how many entries a Fetch takes

same_taken : (v w : Verdict) → same_verdict v w ≡ true → taken_entries v ≡ taken_entries w
same_taken Verdict.Single Verdict.Single e = refl
same_taken (Verdict.SingleFailed s) (Verdict.SingleFailed r) e = refl
same_taken Verdict.Pair Verdict.Pair e = refl
same_taken (Verdict.PairFailed s t) (Verdict.PairFailed r v) e = refl
same_taken Verdict.Single (Verdict.SingleFailed r) e = absurd cc
same_taken Verdict.Single Verdict.Pair e = absurd cc
same_taken Verdict.Single (Verdict.PairFailed r v) e = absurd cc
same_taken (Verdict.SingleFailed s) Verdict.Single e = absurd cc
same_taken (Verdict.SingleFailed s) Verdict.Pair e = absurd cc
same_taken (Verdict.SingleFailed s) (Verdict.PairFailed r v) e = absurd cc
same_taken Verdict.Pair Verdict.Single e = absurd cc
same_taken Verdict.Pair (Verdict.SingleFailed r) e = absurd cc
same_taken Verdict.Pair (Verdict.PairFailed r v) e = absurd cc
same_taken (Verdict.PairFailed s t) Verdict.Single e = absurd cc
same_taken (Verdict.PairFailed s t) (Verdict.SingleFailed r) e = absurd cc
same_taken (Verdict.PairFailed s t) Verdict.Pair e = absurd cc

pub taken_some : (v : Verdict) → (1 ≤ taken_entries v) × (taken_entries v ≤ 2)
taken_some Verdict.Single = (omega arith, omega arith)
taken_some (Verdict.SingleFailed s) = (omega arith, omega arith)
taken_some Verdict.Pair = (omega arith, omega arith)
taken_some (Verdict.PairFailed s r) = (omega arith, omega arith)

pub taken_pair : (o : Option (Status × Status)) → taken_entries (of_pair o) ≡ 2
taken_pair None = refl
taken_pair (Some s) = refl

by_bool : (P : Verdict → Type 0) (b : Bool) (v w : Verdict) → P v → P w → P (cond b v w)
by_bool P true v w p q = p
by_bool P false v w p q = q

pair_within : (u : AtomicParameters) (size : ℕ) (in_use : List ℕ) (first : Item) (rest : List Item)
    → taken_entries (pair_verdict u size in_use first rest) ≤ suc (length rest)
pair_within u size in_use first [] = omega arith
pair_within u size in_use first (second ∷ rest) =
    by_bool (λ v. taken_entries v ≤ suc (suc (length rest))) (eqb second.fields.fuse 2)
    (of_pair (pair_fault u size in_use first second)) (Verdict.SingleFailed missing_fused)
    (omega (arith, taken_pair (pair_fault u size in_use first second))) (omega arith)

-- a Fetch takes no more than waits
pub taken_within : (u : AtomicParameters) (size : ℕ) (in_use : List ℕ) (items : List Item) → 0 < length items
    → taken_entries (verdict_of u size in_use items) ≤ length items
taken_within u size in_use [] l = absurd (omega (arith, l))
taken_within u size in_use (first ∷ rest) l =
    by_bool (λ v. taken_entries v ≤ suc (length rest)) (eqb first.fields.fuse 1)
    (pair_verdict u size in_use first rest) _
    (pair_within u size in_use first rest)
    (by_bool (λ v. taken_entries v ≤ suc (length rest)) (eqb first.fields.fuse 2) (Verdict.SingleFailed missing_fused)
    (of_command (command_fault size in_use first)) (omega arith)
    (omega (arith, one_taken (command_fault size in_use first))))

pub fetched_within : (c : ConfigNumbers) (past : Past) (q : ℕ) → IsLegal c past
    → fetched_count past q ≤ length (published_entries past q)
fetched_within c [] q h = omega arith
fetched_within c (Entry.Publish p ∷ past) q h =
    omega (
      arith,
      fetched_within c past q (follows c past (Entry.Publish p) h).before,
      length-append (published_entries past q) (cond (eqb p.queue q) p.batch []),
    )
fetched_within c (Entry.Fetch f ∷ past) q h =
    let w = follows c past (Entry.Fetch f) h in
    one (eqb f.queue q) refl w.before (fetched_within c past q w.before) w.allowed.1.0
    (same_taken _ _ (and_parts _ _ w.fits).1)
  where
    one : (b : Bool) → eqb f.queue q ≡ b → IsLegal c past → fetched_count past q ≤ length (published_entries past q)
        → eqb (length (published_entries past f.queue)) (fetched_count past f.queue) ≡ false
        → taken_entries f.verdict ≡ taken_entries (next_verdict c past f.queue)
        → fetched_count past q + cond b (taken_entries f.verdict) 0 ≤ length (published_entries past q)
    one false e k l n t = omega (arith, l)
    one true e k l n t =
        let same : f.queue ≡ q = eqb-true _ _ e in
        let le : fetched_count past f.queue ≤ length (published_entries past f.queue) =
        subst (λ x. fetched_count past x ≤ length (published_entries past x)) (sym same) l in
        let len : length (waiting past f.queue) ≡ length (published_entries past f.queue) - fetched_count past f.queue =
        length-drop (fetched_count past f.queue) (published_entries past f.queue) in
        let ne : length (published_entries past f.queue) ≡ fetched_count past f.queue → ⊥ =
        λ x. absurd (let y : eqb (length (published_entries past f.queue)) (fetched_count past f.queue) ≡ true =
        eq-eqb _ _ x in cc) in
        let some : 0 < length (waiting past f.queue) = more len le ne in
        let items : length (map item_of (waiting past f.queue)) ≡ length (waiting past f.queue) =
        length-map (waiting past f.queue) item_of in
        let most = taken_within c.atomic c.blocks (cids_in_use past f.queue) (map item_of (waiting past f.queue))
        (omega (arith, some, items)) in
        subst (λ x. fetched_count past x + taken_entries f.verdict ≤ length (published_entries past x)) same
        (omega (arith, most, items, t, len, le))
      where
        more : {n p k : ℕ} → n ≡ p - k → k ≤ p → (p ≡ k → ⊥) → 0 < n
        more {n} {p} {k} a b d = elim (cases_Bool (eqb p k)) [
          | inl x ↦ absurd (d (eqb-true p k x))
          | inr x ↦ grind (arith, ne_eqb)
        ]
fetched_within c (e ∷ past) q h = fetched_within c past q (follows c past e h).before

-- ---- how many are in flight

one_if : (b : Bool) (x : ℕ) → length (cond b (x ∷ []) []) ≡ cond b 1 0
one_if true x = refl
one_if false x = refl

count_rising : (p : ℕ → Bool) (n : ℕ) → length (filter p (rising n)) ≡ count_by p (numbers_down n)
count_rising p zero = refl
count_rising p (suc n) =
    ap length (filter-append p (rising n) (suc n ∷ []))
    ∙ length-append (filter p (rising n)) (cond (p (suc n)) (suc n ∷ []) [])
    ∙ (let a = count_rising p n in
    let b = one_if (p (suc n)) (suc n) in
    let k : count_by p (numbers_down (suc n)) ≡ cond (p (suc n)) 1 0 + count_by p (numbers_down n) =
    sum_by-cons (λ t. cond (p t) 1 0) (suc n) (numbers_down n) in
    omega (arith, a, b, k))

pub flying_count : (past : Past)
    → length (flying past) ≡ count_by (in_flight past) (numbers_down (Tickets.tickets past))
flying_count past = count_rising (in_flight past) (Tickets.tickets past)

-- ---- which CIDs are in use: by all tickets, and by those in flight alone

list_any-numbers_down : (p : ℕ → Bool) (n : ℕ) → list_any p (numbers_down n) ≡ list_any p (rising n)
list_any-numbers_down p zero = refl
list_any-numbers_down p (suc n) =
    ap (λ b. p (suc n) || b) (list_any-numbers_down p n) ∙ swap (p (suc n)) (list_any p (rising n))
    ∙ sym (list_any-append p (rising n) (suc n ∷ []))
  where
    swap : (a b : Bool) → (a || b) ≡ (b || (a || false))
    swap true true = refl
    swap true false = refl
    swap false true = refl
    swap false false = refl

list_any-flat : {X Y : Type 0} (p : Y → Bool) (f : X → List Y) (xs : List X)
    → list_any p (flat_map f xs) ≡ list_any (λ x. list_any p (f x)) xs
list_any-flat p f [] = refl
list_any-flat p f (x ∷ xs) = list_any-append p (f x) (flat_map f xs)
    ∙ ap (λ b. list_any p (f x) || b) (list_any-flat p f xs)

-- a test that fails at what the filter leaves out
list_any-filter : {X : Type 0} (p q : X → Bool) (xs : List X) → ((x : X) → q x ≡ false → p x ≡ false)
    → list_any p xs ≡ list_any p (filter q xs)
list_any-filter p q [] h = refl
list_any-filter p q (x ∷ xs) h = ap (λ b. p x || b) (list_any-filter p q xs h) ∙ by (q x) refl
  where
    by : (b : Bool) → q x ≡ b → (p x || list_any p (filter q xs)) ≡ list_any p (cond b (x ∷ filter q xs) (filter q xs))
    by true e = refl
    by false e = ap (λ b. b || list_any p (filter q xs)) (h x e)

drop_none : {X : Type 0} (n : ℕ) (xs : List X) → length xs ≤ n → drop n xs ≡ []
drop_none zero [] l = refl
drop_none zero (x ∷ xs) l = absurd (omega (arith, l))
drop_none (suc n) [] l = refl
drop_none (suc n) (x ∷ xs) l = drop_none n xs (omega (arith, l))

abbrev pub owing : Past → ℕ → ℕ → ℕ → Bool
owing past q cid t = eqb (Tickets.ticket past t).queue q
    && list_any (λ (s : Submission). eqb (sqe_fields s.entry).cid cid)
    (drop (posts_of past t) (Tickets.ticket past t).commands)

one_ticket : (past : Past) (q cid t : ℕ)
    → list_any (λ m. eqb m cid)
    (cond (eqb (Tickets.ticket past t).queue q) (drop (posts_of past t) (cids (Tickets.ticket past t))) [])
    ≡ owing past q cid t
one_ticket past q cid t = by (eqb (Tickets.ticket past t).queue q)
  where
    by : (b : Bool) → list_any (λ m. eqb m cid) (cond b (drop (posts_of past t) (cids (Tickets.ticket past t))) [])
        ≡ (b && list_any (λ (s : Submission). eqb (sqe_fields s.entry).cid cid)
        (drop (posts_of past t) (Tickets.ticket past t).commands))
    by true = drop_map (λ (s : Submission). (sqe_fields s.entry).cid) (λ m. eqb m cid) (posts_of past t)
        (Tickets.ticket past t).commands
    by false = refl

pub in_use_flying : (past : Past) (q cid : ℕ)
    → is_in cid (cids_in_use past q) ≡ list_any (owing past q cid) (flying past)
in_use_flying past q cid =
    list_any-flat (λ m. eqb m cid)
    (λ t. cond (eqb (Tickets.ticket past t).queue q) (drop (posts_of past t) (cids (Tickets.ticket past t))) [])
    (numbers_down (Tickets.tickets past))
    ∙ any_same _ (owing past q cid) (numbers_down (Tickets.tickets past)) (one_ticket past q cid)
    ∙ list_any-numbers_down (owing past q cid) (Tickets.tickets past)
    ∙ list_any-filter (owing past q cid) (in_flight past) (rising (Tickets.tickets past))
    (λ t e. landed t (ltb-false _ _ e))
  where
    landed : (t : ℕ) → length (Tickets.ticket past t).commands ≤ posts_of past t → owing past q cid t ≡ false
    landed t l =
        ap (λ xs. eqb (Tickets.ticket past t).queue q
        && list_any (λ (s : Submission). eqb (sqe_fields s.entry).cid cid) xs)
        (drop_none (posts_of past t) (Tickets.ticket past t).commands l)
        ∙ and_no (eqb (Tickets.ticket past t).queue q)
      where
        and_no : (b : Bool) → (b && false) ≡ false
        and_no true = refl
        and_no false = refl
