-- What a Read has read, when all its units have ended, is what its completion carries.
use Rattle.std.proofs.Common.{◌≡◌, ℕ, zero, suc, ◌+◌, ◌*◌, ◌≤◌, ◌<◌, Bool, true, false, ◌&&◌, cond, List, [], ◌∷◌, ◌++◌}
use Rattle.std.proofs.Common.{length, refl, sym, ap, ◌∙◌, subst, subst₂, Option, Some, None, inl, inr, ◌⊎◌, arith, eqb}
use Rattle.std.proofs.Common.{eqb-true, nat_le, leb-true, slice_get, append_assoc}
use Rattle.std.specs.List.{list_any, list_all, flat_map}
use Rattle.std.proofs.lemmas.List.{append-nil}
use Rattle.std.proofs.lemmas.Bool.{and_parts, or_cases, cases_lt}
use Rattle.nvme_model.proofs.Ended.{found_some, some_granted}
use Rattle.nvme_model.proofs.Granted.{GrantFacts, granted_facts, units_some}
use Rattle.ticket_laws.proofs.Joined.{bytes_joined, joined}
use Rattle.nvme_model.proofs.Lists.{each_both, each_find, each_get}
use Rattle.nvme_model.proofs.NextPost.{granted_unit, unit_at, unit_of_blocks}
use Rattle.ticket_laws.proofs.ReadSoFar.{ReadState, Reading, read_state, unit_bytes}
use Rattle.nvme_model.proofs.Runs.{below_if, some_at}
use Rattle.nvme_model.specs.Array.{blocks_from}
use Rattle.nvme_model.specs.EntryBytes.{block_count, slba}
use Rattle.nvme_model.specs.History.{Past}
use Rattle.nvme_model.specs.Laws.{MarkedRight}
use Rattle.nvme_model.specs.Legal.{IsLegal}
use Rattle.nvme_model.specs.Open.{blocks_made, granted, grants_of, has_ended, is_differs, steps_needed, unit_range}
use Rattle.nvme_model.specs.Operations.{is_pair, op, units}
use Rattle.nvme_model.specs.Owed.{all_ended, contents_at, numbered_units, read_data_by}
use Rattle.nvme_model.specs.Placed.{effect}
use Rattle.ticket_laws.specs.Standing.{bytes_read}
use Rattle.nvme_model.specs.Tickets.{first_fields}
use Rattle.nvme_model.specs.declared.array.Range.{Range}
use Rattle.nvme_model.specs.declared.config.ConfigNumbers.{ConfigNumbers}
use Rattle.nvme_model.specs.declared.entry.BlockLine.{BlockLine}
use Rattle.nvme_model.specs.declared.operation.Op.{Op}
use Rattle.nvme_model.specs.Tickets

all_numbered : (P : ℕ × Range → Bool) (k i j : ℕ) (r : Range) (xs : List Range)
    → list_all P (numbered_units k xs) ≡ true
    → slice_get xs i ≡ Some r → j ≡ k + i → P (j, r) ≡ true
all_numbered P k i j r [] a e n = absurd (let f : None ≡ Some r = e in cc)
all_numbered P k zero j r (x ∷ xs) a e n =
    let same : x ≡ r = some_inj e in
    let place : k ≡ j = omega (arith, n) in
    subst₂ (λ (y : ℕ) (z : Range). P (y, z) ≡ true) place same (and_parts _ _ a).0
  where
    some_inj : Some x ≡ Some r → x ≡ r
    some_inj h = cc
all_numbered P k (suc i) j r (x ∷ xs) a e n = all_numbered P (suc k) i j r xs (and_parts _ _ a).1 e (omega (arith, n))

-- one unit
unit_is : (c : ConfigNumbers) (past : Past) (t u : ℕ) (r : Range) → IsLegal c past → MarkedRight past
    → op (Tickets.ticket past t) ≡ Some Op.Read → slice_get (units c (Tickets.ticket past t)) u ≡ Some r
    → has_ended past t u r.blocks ≡ true
    → (u < grants_of past t)
    × (unit_bytes past t u ≡ flat_map (contents_at (effect past t u)) (blocks_from r.slba r.blocks))
unit_is c past t u r h k p at ended =
    let some : 1 ≤ r.blocks =
    each_get (λ s. 1 ≤ s.blocks) (units c (Tickets.ticket past t)) u r
    (units_some c.atomic (op (Tickets.ticket past t)) (slba (first_fields (Tickets.ticket past t)))
    (block_count (first_fields (Tickets.ticket past t))) (omega arith)) at in
    let there : u < grants_of past t = unit_of_blocks c past t u h (some_made (or_cases _ _ ended) some) in
    let found = found_some (λ g. eqb g.ticket t && eqb g.unit u) (granted past) (some_granted c past t u h there) in
    let f = each_find (λ x. (GrantFacts past x
    × (slice_get (units c (Tickets.ticket past x.ticket)) x.unit ≡ Some x.range)) × Reading past x.ticket x.unit)
    (λ g. eqb g.ticket t && eqb g.unit u) (granted past) found.0
    (each_both _ _ (granted past) (each_both _ _ (granted past) (granted_facts c past h) (unit_at c past h))
    (read_state c past h k)) found.1 in
    let keys = and_parts (eqb found.0.ticket t) (eqb found.0.unit u) f.1 in
    let a = eqb-true found.0.ticket t keys.0 in
    let b = eqb-true found.0.unit u keys.1 in
    let at_x : slice_get (units c (Tickets.ticket past t)) u ≡ Some found.0.range =
    subst₂ (λ (i j : ℕ). slice_get (units c (Tickets.ticket past i)) j ≡ Some found.0.range) a b f.0.0.1 in
    let is_r : found.0.range ≡ r = some_inj (sym at_x ∙ at) in
    let range : unit_range past t u ≡ r = subst₂ (λ (i j : ℕ). unit_range past i j ≡ found.0.range) a b f.0.0.0.range
    ∙ is_r in
    let state : ReadState past t u r (length (blocks_made past t u)) =
    subst (λ (q : Range). ReadState past t u q (length (blocks_made past t u))) range
    (subst₂ (λ (i j : ℕ). Reading past i j) a b f.0.1 p) in
    (there, state.after (enough (or_cases _ _ ended) state.calm))
  where
    some_inj : {x y : Range} → Some x ≡ Some y → x ≡ y
    some_inj h = cc

    needs : 1 ≤ r.blocks → 1 ≤ steps_needed (Tickets.ticket past t) r.blocks
    needs l = go (is_pair (op (Tickets.ticket past t)))
      where
        go : (b : Bool) → 1 ≤ cond b (2 * r.blocks) r.blocks
        go true = omega (arith, l)
        go false = l

    some_made : ((nat_le (steps_needed (Tickets.ticket past t) r.blocks) (length (blocks_made past t u)) ≡ true)
        ⊎ (list_any (λ (b : BlockLine). is_differs b.found) (blocks_made past t u) ≡ true)) → 1 ≤ r.blocks
        → 1 ≤ length (blocks_made past t u)
    some_made (inl q) l = omega (arith, leb-true _ _ q, needs l)
    some_made (inr q) l = by (blocks_made past t u) q
      where
        by : (xs : List BlockLine) → list_any (λ (b : BlockLine). is_differs b.found) xs ≡ true → 1 ≤ length xs
        by [] q = absurd cc
        by (x ∷ xs) q = omega arith

    enough : ((nat_le (steps_needed (Tickets.ticket past t) r.blocks) (length (blocks_made past t u)) ≡ true)
        ⊎ (list_any (λ (b : BlockLine). is_differs b.found) (blocks_made past t u) ≡ true))
        → list_any (λ (b : BlockLine). is_differs b.found) (blocks_made past t u) ≡ false
        → r.blocks ≤ length (blocks_made past t u)
    enough (inl q) calm = subst
        (λ (o : Option Op). cond (is_pair o) (2 * r.blocks) r.blocks ≤ length (blocks_made past t u)) p (leb-true _ _ q)
    enough (inr q) calm = absurd (let f : true ≡ false = sym q ∙ calm in cc)

joined_numbered : (past : Past) (t : ℕ) (F : ℕ × Range → List ℕ) (xs : List Range) (k n : ℕ) → n ≡ k + length xs
    → ((i j : ℕ) (r : Range) → slice_get xs i ≡ Some r → j ≡ k + i → unit_bytes past t j ≡ F (j, r))
    → joined past t n ≡ joined past t k ++ flat_map F (numbered_units k xs)
joined_numbered past t F [] k n e h =
    let same : n ≡ k = omega (arith, e) in
    ap (joined past t) same ∙ sym (append-nil (joined past t k))
joined_numbered past t F (x ∷ xs) k n e h =
    let here : k ≡ k + 0 = omega arith in
    joined_numbered past t F xs (suc k) n (omega (arith, e)) (λ i j r a q. h (suc i) j r a (omega (arith, q)))
    ∙ append_assoc (joined past t k) (unit_bytes past t k) (flat_map F (numbered_units (suc k) xs))
    ∙ ap (λ ys. joined past t k ++ (ys ++ flat_map F (numbered_units (suc k) xs))) (h 0 k x refl here)

-- the data that a Read's completion carries
pub read_is : (c : ConfigNumbers) (past : Past) (t : ℕ) → IsLegal c past → MarkedRight past
    → op (Tickets.ticket past t) ≡ Some Op.Read → all_ended c past t ≡ true
    → bytes_read past t ≡ read_data_by c past t (Some Op.Read)
read_is c past t h k p ended =
    let us = units c (Tickets.ticket past t) in
    let one : (i j : ℕ) (r : Range) → slice_get us i ≡ Some r → j ≡ i
    → (j < grants_of past t)
    × (unit_bytes past t j ≡ flat_map (contents_at (effect past t j)) (blocks_from r.slba r.blocks)) =
    λ i j r a q. unit_is c past t j r h k p (ap (slice_get us) q ∙ a)
    (all_numbered (λ u. has_ended past t u.0 u.1.blocks) 0 i j r us ended a (omega (arith, q))) in
    let count : grants_of past t ≡ length us =
    both (λ i l. let x = some_at us i l in (one i i x.0 x.1 refl).0)
    (λ i l. let x = granted_unit c past t i h l in below_if us i (Some x.0.range) x.1.at refl) in
    bytes_joined c past t h ∙ ap (joined past t) count
    ∙ joined_numbered past t (λ u. flat_map (contents_at (effect past t u.0)) (blocks_from u.1.slba u.1.blocks)) us 0
    (length us) (omega arith)
    (λ i j r a q. (one i j r a (omega (arith, q))).1)
  where
    both : {a b : ℕ} → ((i : ℕ) → i < b → i < a) → ((i : ℕ) → i < a → i < b) → a ≡ b
    both {a} {b} f g = elim (cases_lt a b) [
      | inl l ↦ absurd (omega (arith, f a l))
      | inr l ↦ elim (cases_lt b a) [
        | inl m ↦ absurd (omega (arith, g b m))
        | inr m ↦ omega (arith, l, m)
      ]
    ]
