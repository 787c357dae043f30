-- Which Publish keeps the discipline.
use Rattle.std.proofs.Common.{◌≡◌, ℕ, suc, ◌+◌, Bool, true, false, not, ◌&&◌, ◌||◌, cond, List, [], ◌∷◌, ◌++◌, length}
use Rattle.std.proofs.Common.{refl, sym, ap, ap₂, ◌∙◌, subst, Option, Some, None, inl, inr, arith, eq-eqb, eqb, nat_le}
use Rattle.std.proofs.Common.{nat_lt, ltb-true, leb-true, eqb-true}
use Rattle.std.specs.List.{list_any, filter}
use Rattle.std.specs.Str.{bytes_eq}
use Rattle.std.proofs.lemmas.Slice.Eq.{bytes_eq-Decides}
use Rattle.std.proofs.lemmas.Bool.{and_parts, and_from, and_left, or_left, or_right, cases_Bool, cond-true, cond-false}
use Rattle.std.proofs.lemmas.Bool.{or_parts}
use Rattle.nvme_model.specs.declared.config.ConfigNumbers.{ConfigNumbers}
use Rattle.nvme_model.specs.EntryBytes.{sqe_fields, slba}
use Rattle.nvme_model.specs.Commands.{is_write}
use Rattle.nvme_model.specs.History.{Past}
use Rattle.nvme_model.specs.Queues.{published_entries}
use Rattle.nvme_model.specs.Array.{zeros, has_block}
use Rattle.nvme_model.specs.Slots.{Name, Swap, name_of, swaps, swaps_in, swap_of, is_pair_on_one, touches, only_swaps}
use Rattle.nvme_model.specs.Slots.{fresh_names, released_right, in_area, keeps_discipline, believed, same_name, swap_by}
use Rattle.nvme_model.specs.declared.array.Range.{Range}
use Rattle.nvme_model.specs.declared.submission.Submission.{Submission}
use Rattle.nvme_model.specs.declared.entry.PublishLine.{PublishLine}
use Rattle.nvme_model.specs.Config.{completion_queue}
use Rattle.host_laws.specs.Batches.{pair_line}
use Rattle.host_laws.proofs.SwapTickets.{on_one, touching}
use Rattle.nvme_model.specs.Commands.{is_write, is_write_zeroes}
use Rattle.nvme_model.proofs.Cut.{clash}
use Rattle.host_laws.proofs.Names.{bytes_are, zeros_unnamed}
use Rattle.host_laws.proofs.Discipline.{InArea, has_area}

keeps : (c : ConfigNumbers) (slots : Range) (past : Past) (p : PublishLine) (of : List Swap)
    → in_area slots (swaps_in p.queue (length (published_entries past p.queue)) p.batch) ≡ of
    → only_swaps slots p.queue (length (published_entries past p.queue)) p.batch of ≡ true
    → fresh_names of (in_area slots (swaps past)) ≡ true → released_right c past [] of ≡ true
    → keeps_discipline c slots past p ≡ true
keeps c slots past p of e o f r =
    subst (λ (xs : List Swap).
    (only_swaps slots p.queue (length (published_entries past p.queue)) p.batch xs
    && fresh_names xs (in_area slots (swaps past)) && released_right c past [] xs) ≡ true) (sym e)
    (and_from _ _ (and_from _ _ o f) r)

abbrev pub claim_at : ℕ → ℕ → ℕ → Name → Swap
claim_at q j l n = record { claims = true; queue = q; number = j; lba = l; name = n }

abbrev pub release_at : ℕ → ℕ → ℕ → Name → Swap
release_at q j l n = record { claims = false; queue = q; number = j; lba = l; name = n }

same_bytes : (a b : List ℕ) → a ≡ b → bytes_eq a b ≡ true
same_bytes a b e = (bytes_eq-Decides a b).1 e

pub not_zeros : (a : List ℕ) (n : Name) → name_of a ≡ Some n → bytes_eq a zeros ≡ false
not_zeros a n h = elim (cases_Bool (bytes_eq a zeros)) [
  | inl e ↦ absurd (zeros_unnamed n (sym (ap name_of (bytes_are a zeros e)) ∙ h))
  | inr e ↦ e
]

pub claim_swaps : (q j : ℕ) (a b : Submission) (n : Name) → is_pair_on_one a b ≡ true → a.payload ≡ zeros
    → name_of b.payload ≡ Some n → swaps_in q j (a ∷ b ∷ []) ≡ claim_at q j (slba (sqe_fields a.entry)) n ∷ []
claim_swaps q j a b n p z m = rw (p, same_bytes a.payload zeros z, not_zeros b.payload n m, m) refl

pub release_swaps : (q j : ℕ) (a b : Submission) (n : Name) → is_pair_on_one a b ≡ true → name_of a.payload ≡ Some n
    → b.payload ≡ zeros → swaps_in q j (a ∷ b ∷ []) ≡ release_at q j (slba (sqe_fields a.entry)) n ∷ []
release_swaps q j a b n p m z = rw (p, same_bytes b.payload zeros z, not_zeros a.payload n m, m) refl

pub one_in : (slots : Range) (s : Swap) (of : List Swap) → of ≡ s ∷ [] → InArea slots s.lba → in_area slots of ≡ s ∷ []
one_in slots s of e a = ap (in_area slots) e ∙ cond-true (has_block slots s.lba) (s ∷ []) [] (has_area slots s.lba a)

pub compare_no_touch : (slots : Range) (a b : Submission) → is_pair_on_one a b ≡ true → touches slots a ≡ false
compare_no_touch slots a b h = and_left _ _ (not_write (sqe_fields a.entry).opcode (on_one a b h).compares)
  where
    not_write : (n : ℕ) → eqb n 5 ≡ true → (eqb n 1 || eqb n 8) ≡ false
    not_write n e = rw (eqb-true n 5 e) refl

pub pair_only : (slots : Range) (q j : ℕ) (a b : Submission) (s : Swap) → is_pair_on_one a b ≡ true → s.number ≡ j
    → only_swaps slots q j (a ∷ b ∷ []) (s ∷ []) ≡ true
pair_only slots q j a b s p e =
    and_from _ _ (or_left _ _ (ap not (compare_no_touch slots a b p)))
    (and_from _ _ (or_right (not (touches slots b)) (list_any (λ w. eqb (suc w.number) (suc j)) (s ∷ []))
    (or_left _ _ (eq-eqb (suc s.number) (suc j) (ap suc e)))) refl)

-- a claim of a fresh name
pub claim_keeps : (c : ConfigNumbers) (slots : Range) (past : Past) (q : ℕ) (a b : Submission) (n : Name)
    → is_pair_on_one a b ≡ true → a.payload ≡ zeros → name_of b.payload ≡ Some n
    → InArea slots (slba (sqe_fields a.entry))
    → list_any (λ w. w.claims && same_name w.name n) (in_area slots (swaps past)) ≡ false
    → keeps_discipline c slots past (pair_line q a b) ≡ true
claim_keeps c slots past q a b n p z m i f =
    let j = length (published_entries past q) in
    let s = claim_at q j (slba (sqe_fields a.entry)) n in
    keeps c slots past (pair_line q a b) (s ∷ [])
    (one_in slots s (swaps_in q j (a ∷ b ∷ [])) (claim_swaps q j a b n p z m) i)
    (pair_only slots q j a b s p refl) (and_from _ _ (ap not f) refl) refl

-- a release of a believed name, on its claim's queue
pub release_keeps : (c : ConfigNumbers) (slots : Range) (past : Past) (q : ℕ) (a b : Submission) (n : Name)
    → is_pair_on_one a b ≡ true → name_of a.payload ≡ Some n → b.payload ≡ zeros
    → InArea slots (slba (sqe_fields a.entry)) → believed c past (slba (sqe_fields a.entry)) n ≡ true
    → list_any (λ w. w.claims && eqb w.lba (slba (sqe_fields a.entry)) && same_name w.name n
    && eqb (completion_queue c w.queue) (completion_queue c q)) (swaps past) ≡ true
    → keeps_discipline c slots past (pair_line q a b) ≡ true
release_keeps c slots past q a b n p m z i k o =
    let j = length (published_entries past q) in
    let s = release_at q j (slba (sqe_fields a.entry)) n in
    keeps c slots past (pair_line q a b) (s ∷ [])
    (one_in slots s (swaps_in q j (a ∷ b ∷ [])) (release_swaps q j a b n p m z) i)
    (pair_only slots q j a b s p refl) refl (and_from _ _ (and_from _ _ (and_from _ _ k refl) o) refl)

-- ---- a Publish of which no Write touches the area

pub no_only : (slots : Range) (q j : ℕ) (batch : List Submission) (of : List Swap)
    → list_any (touches slots) batch ≡ false
    → only_swaps slots q j batch of ≡ true
no_only slots q j [] of h = refl
no_only slots q j (s ∷ batch) of h =
    let a = or_parts (touches slots s) (list_any (touches slots) batch) h in
    and_from _ _ (or_left _ _ (ap not a.0)) (no_only slots q (suc j) batch of a.1)

pub filter_append : {X : Type 0} (p : X → Bool) (xs ys : List X) → filter p (xs ++ ys) ≡ filter p xs ++ filter p ys
filter_append p [] ys = refl
filter_append p (x ∷ xs) ys = go (p x) (filter_append p xs ys)
  where
    go : (b : Bool) → filter p (xs ++ ys) ≡ filter p xs ++ filter p ys
        → cond b (x ∷ filter p (xs ++ ys)) (filter p (xs ++ ys)) ≡ cond b (x ∷ filter p xs) (filter p xs) ++ filter p ys
    go true ih = ap (λ (zs : List _). x ∷ zs) ih
    go false ih = ih

-- what a pair may be, of which the second touches nothing
outside : (slots : Range) (a b : Submission) → is_pair_on_one a b ≡ true → touches slots b ≡ false
    → has_block slots (slba (sqe_fields a.entry)) ≡ false
outside slots a b p t = elim (cases_Bool (has_block slots (slba (sqe_fields a.entry)))) [
  | inr e ↦ e
  | inl e ↦
      let k = on_one a b p in
      let d = sqe_fields b.entry in
      let x = and_parts (nat_le slots.slba (slba (sqe_fields a.entry)))
      (nat_lt (slba (sqe_fields a.entry)) (slots.slba + slots.blocks)) e in
      let low = leb-true slots.slba (slba (sqe_fields a.entry)) x.0 in
      let high = ltb-true (slba (sqe_fields a.entry)) (slots.slba + slots.blocks) x.1 in
      clash (touches slots b) (touching slots b (slba (sqe_fields a.entry))
      (or_left (is_write d) (is_write_zeroes d) k.writes) (omega (arith, k.slba))
      (omega (arith, k.slba, k.second_one)) low high) t
]

no_claim : (slots : Range) (q j l : ℕ) (o : Option Name) → has_block slots l ≡ false
    → in_area slots (swap_by true q j l o) ≡ []
no_claim slots q j l None e = refl
no_claim slots q j l (Some n) e = cond-false (has_block slots l) (claim_at q j l n ∷ []) [] e

no_release : (slots : Range) (q j l : ℕ) (o : Option Name) → has_block slots l ≡ false
    → in_area slots (swap_by false q j l o) ≡ []
no_release slots q j l None e = refl
no_release slots q j l (Some n) e = cond-false (has_block slots l) (release_at q j l n ∷ []) [] e

if_none : (slots : Range) (b : Bool) (xs : List Swap) → in_area slots xs ≡ [] → in_area slots (cond b xs []) ≡ []
if_none slots true xs e = e
if_none slots false xs e = refl

both_none : (slots : Range) (xs ys : List Swap) → in_area slots xs ≡ [] → in_area slots ys ≡ []
    → in_area slots (xs ++ ys) ≡ []
both_none slots xs ys e f = filter_append (λ s. has_block slots s.lba) xs ys ∙ ap₂ (λ (x y : List Swap). x ++ y) e f

no_swap : (slots : Range) (q j : ℕ) (a b : Submission) → touches slots b ≡ false → in_area slots (swap_of q j a b) ≡ []
no_swap slots q j a b t = go (is_pair_on_one a b) refl
  where
    go : (x : Bool) → is_pair_on_one a b ≡ x
        → in_area slots (cond x (cond (bytes_eq a.payload zeros)
        (swap_by true q j (slba (sqe_fields a.entry)) (name_of b.payload)) []
        ++ cond (bytes_eq b.payload zeros) (swap_by false q j (slba (sqe_fields a.entry)) (name_of a.payload)) [])
        []) ≡ []
    go false e = refl
    go true e =
        let out = outside slots a b e t in
        both_none slots (cond (bytes_eq a.payload zeros)
        (swap_by true q j (slba (sqe_fields a.entry)) (name_of b.payload)) [])
        (cond (bytes_eq b.payload zeros) (swap_by false q j (slba (sqe_fields a.entry)) (name_of a.payload)) [])
        (if_none slots (bytes_eq a.payload zeros) (swap_by true q j (slba (sqe_fields a.entry)) (name_of b.payload))
        (no_claim slots q j (slba (sqe_fields a.entry)) (name_of b.payload) out))
        (if_none slots (bytes_eq b.payload zeros) (swap_by false q j (slba (sqe_fields a.entry)) (name_of a.payload))
        (no_release slots q j (slba (sqe_fields a.entry)) (name_of a.payload) out))

pub no_swaps : (slots : Range) (q j : ℕ) (batch : List Submission) → list_any (touches slots) batch ≡ false
    → in_area slots (swaps_in q j batch) ≡ []
no_swaps slots q j [] h = refl
no_swaps slots q j (a ∷ []) h = refl
no_swaps slots q j (a ∷ b ∷ rest) h =
    let x = or_parts (touches slots a) (list_any (touches slots) (b ∷ rest)) h in
    let y = or_parts (touches slots b) (list_any (touches slots) rest) x.1 in
    both_none slots (swap_of q j a b) (swaps_in q (suc j) (b ∷ rest)) (no_swap slots q j a b y.0)
    (no_swaps slots q (suc j) (b ∷ rest) x.1)

pub outside_keeps : (c : ConfigNumbers) (slots : Range) (past : Past) (p : PublishLine)
    → list_any (touches slots) p.batch ≡ false → keeps_discipline c slots past p ≡ true
outside_keeps c slots past p h =
    keeps c slots past p [] (no_swaps slots p.queue (length (published_entries past p.queue)) p.batch h)
    (no_only slots p.queue (length (published_entries past p.queue)) p.batch [] h) refl refl
