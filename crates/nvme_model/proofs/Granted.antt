-- What is known of each unit that was granted.
use Rattle.std.proofs.Common.{◌≡◌, ℕ, zero, suc, ◌+◌, ◌-◌, ◌≤◌, ◌<◌, Bool, true, false, ◌&&◌, cond, List, [], ◌∷◌}
use Rattle.std.proofs.Common.{length, refl, sym, ap, ◌∙◌, Option, Some, None, inl, inr, arith, eq-eqb, ne_eqb, eqb-true}
use Rattle.std.proofs.Common.{eqb}
use Rattle.std.specs.List.{filter, find}
use Rattle.std.proofs.lemmas.Bool.{and_from, and_left, and_right, cond-true, cond-false, cases_Bool}
use Rattle.nvme_model.specs.declared.config.AtomicParameters.{AtomicParameters}
use Rattle.nvme_model.specs.declared.config.ConfigNumbers.{ConfigNumbers}
use Rattle.nvme_model.specs.EntryBytes.{slba, block_count}
use Rattle.nvme_model.specs.Cut.{cut_within, longest}
use Rattle.nvme_model.specs.History.{Past}
use Rattle.nvme_model.specs.Tickets.{Ticket, ticket, tickets, first_fields}
use Rattle.nvme_model.specs.Operations.{op, has_write, is_exclusive, units, units_by}
use Rattle.nvme_model.specs.Open.{grants_of, granted, unit_range, range_of}
use Rattle.nvme_model.specs.Legal.{IsLegal}
use Rattle.nvme_model.specs.declared.array.Mode.{Mode}
use Rattle.nvme_model.specs.declared.operation.Op.{Op}
use Rattle.nvme_model.specs.declared.entry.GrantLine.{GrantLine}
use Rattle.nvme_model.specs.declared.entry.FetchLine.{FetchLine}
use Rattle.nvme_model.specs.declared.entry.Entry.{Entry}
use Rattle.nvme_model.proofs.Lists.{Each, each_map, each_get}
use Rattle.nvme_model.proofs.Cut.{longest_facts, atomic_parts}
use Rattle.nvme_model.proofs.Rules.{follows, may_grant, MayGrant}
use Rattle.nvme_model.proofs.Apart.{ticket_kept, fetched_if}

-- ---- a unit has a block

cut_some : (k : ℕ) (c : AtomicParameters) (s n : ℕ) → Each (λ r. 1 ≤ r.blocks) (cut_within k c s n)
cut_some k c s zero = tt
cut_some zero c s (suc n) = tt
cut_some (suc k) c s (suc n) = (
  (atomic_parts c s (longest c s (suc n)) (longest_facts c s n).atomic).some,
  cut_some k c (s + longest c s (suc n)) (suc n - longest c s (suc n)),
)

pub units_some : (c : AtomicParameters) (o : Option Op) (s n : ℕ) → 1 ≤ n → Each (λ r. 1 ≤ r.blocks) (units_by c o s n)
units_some c None s n l = tt
units_some c (Some Op.Pair) s n l = (l, tt)
units_some c (Some o) s n l = cut_some n c s n

mode_writes : (b : Bool) → is_exclusive (cond b Mode.Exclusive Mode.Shared) ≡ b
mode_writes true = refl
mode_writes false = refl

pub record GrantFacts (past : Past) (g : GrantLine) : Type 0 where
  pub mode : is_exclusive g.mode ≡ has_write (op (ticket past g.ticket))
  pub some : 1 ≤ g.range.blocks
  pub range : unit_range past g.ticket g.unit ≡ g.range
  pub number : g.unit < grants_of past g.ticket
  pub known : g.ticket ≤ tickets past

new_grant : (c : ConfigNumbers) (past : Past) (g : GrantLine) → IsLegal c (Entry.Grant g ∷ past)
    → GrantFacts (Entry.Grant g ∷ past) g
new_grant c past g h =
    let m = may_grant c past g h in
    let k = ticket past g.ticket in
    let same_t = eq-eqb g.ticket g.ticket refl in
    let same_u = eq-eqb g.unit g.unit refl in
    record {
      mode = m.same_mode ∙ mode_writes (has_write (op k));
      some = each_get (λ r. 1 ≤ r.blocks) (units c k) (grants_of past g.ticket) g.range
          (units_some c.atomic (op k) (slba (first_fields k)) (block_count (first_fields k)) (omega arith)) m.range;
      range = ap range_of (cond-true (eqb g.ticket g.ticket && eqb g.unit g.unit) (Some g)
          (find (λ x. eqb x.ticket g.ticket && eqb x.unit g.unit) (granted past)) (and_from _ _ same_t same_u));
      number = grants_more (eqb g.ticket g.ticket) same_t m.unit;
      known = fetched_if c past g.ticket (follows c past (Entry.Grant g) h).before m.in_flight;
    }
  where
    grants_more : (b : Bool) → b ≡ true → g.unit ≡ grants_of past g.ticket
        → g.unit < length (cond b (g ∷ filter (λ x. eqb x.ticket g.ticket) (granted past))
        (filter (λ x. eqb x.ticket g.ticket) (granted past)))
    grants_more true e n = omega (arith, n)
    grants_more false e n = absurd (let f = e in cc)

-- a later Grant leaves these facts
pub length_cond : (b : Bool) (g : GrantLine) (gs : List GrantLine) (n : ℕ) → n < length gs
    → n < length (cond b (g ∷ gs) gs)
length_cond true g gs n l = omega (arith, l)
length_cond false g gs n l = l

old_grant : (c : ConfigNumbers) (past : Past) (g x : GrantLine) → IsLegal c (Entry.Grant g ∷ past) → GrantFacts past x
    → GrantFacts (Entry.Grant g ∷ past) x
old_grant c past g x h f =
    let m = may_grant c past g h in
    record {
      mode = f.mode;
      some = f.some;
      range = ap range_of (cond-false (eqb g.ticket x.ticket && eqb g.unit x.unit) (Some g)
          (find (λ y. eqb y.ticket x.ticket && eqb y.unit x.unit) (granted past)) (other m)) ∙ f.range;
      number = length_cond (eqb g.ticket x.ticket) g (filter (λ y. eqb y.ticket x.ticket) (granted past)) x.unit
          f.number;
      known = f.known;
    }
  where
    other : MayGrant c past g → (eqb g.ticket x.ticket && eqb g.unit x.unit) ≡ false
    other m = elim (cases_Bool (eqb g.ticket x.ticket)) [
      | inl e ↦ and_right _ _ (ne_eqb g.unit x.unit
          (λ (d : g.unit ≡ x.unit).
          omega (arith, d, m.unit, ap (grants_of past) (eqb-true g.ticket x.ticket e), f.number)))
      | inr e ↦ and_left _ _ e
    ]

after_fetch : (c : ConfigNumbers) (past : Past) (f : FetchLine) (x : GrantLine) → IsLegal c (Entry.Fetch f ∷ past)
    → GrantFacts past x → GrantFacts (Entry.Fetch f ∷ past) x
after_fetch c past f x h g =
    record {
      mode = g.mode ∙ ap (λ (k : Ticket). has_write (op k)) (sym (ticket_kept c past f x.ticket h g.known));
      some = g.some;
      range = g.range;
      number = g.number;
      known = omega (arith, g.known);
    }

pub granted_facts : (c : ConfigNumbers) (past : Past) → IsLegal c past → Each (GrantFacts past) (granted past)
granted_facts c [] h = tt
granted_facts c (Entry.Fetch f ∷ past) h =
    each_map (GrantFacts past) (GrantFacts (Entry.Fetch f ∷ past)) (λ x g. after_fetch c past f x h g) (granted past)
    (granted_facts c past (follows c past (Entry.Fetch f) h).before)
granted_facts c (Entry.Grant g ∷ past) h = (
  new_grant c past g h,
  each_map (GrantFacts past) (GrantFacts (Entry.Grant g ∷ past))
      (λ x f. old_grant c past g x h f) (granted past)
      (granted_facts c past (follows c past (Entry.Grant g) h).before),
)
granted_facts c (e ∷ past) h = keep (granted_facts c past (follows c past e h).before)
  where
    keep : Each (GrantFacts past) (granted past) → Each (GrantFacts (e ∷ past)) (granted past)
    keep g = each_map (GrantFacts past) (GrantFacts (e ∷ past))
        (λ x f. record { mode = f.mode; some = f.some; range = f.range; number = f.number; known = f.known })
        (granted past) g
