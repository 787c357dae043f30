-- One Block of a unit that writes, for a Write and for a pair.
use Rattle.std.proofs.Common.{◌≡◌, ℕ, suc, ◌+◌, ◌-◌, ◌*◌, ◌%◌, ◌≤◌, ◌<◌, Bool, true, false, not, ◌&&◌, ◌||◌, cond, List}
use Rattle.std.proofs.Common.{refl, sym, ap, ◌∙◌, subst, Option, Some, None, inl, inr, ◌⊎◌, arith, eqb, eqb-true}
use Rattle.std.proofs.Common.{nat_le, nat_lt, leb-true, leb-false, ltb-true, ltb-false}
use Rattle.std.proofs.lemmas.Bool.{and_left, and_right, or_cases, or_parts, or_from, cond-true, cond-false, cases_Bool}
use Rattle.std.proofs.lemmas.Bool.{or_right, lt-leb, ne_eqb}
use Rattle.std.proofs.Math.Bool.{and-true}
use Rattle.nvme_model.specs.Operations.{is_pair, has_write, has_compare}
use Rattle.nvme_model.specs.Open.{is_written, is_equal, is_differs}
use Rattle.nvme_model.specs.Steps.{marked}
use Rattle.nvme_model.specs.Answered.{may_find}
use Rattle.nvme_model.specs.declared.operation.Op.{Op}
use Rattle.nvme_model.specs.declared.operation.Found.{Found}
use Rattle.nvme_model.proofs.Written.{Writing, medium_after, write_step, write_end, equal_step, pair_write_step}
use Rattle.nvme_model.proofs.Written.{pair_end}
use Rattle.nvme_model.proofs.Bools.{or_false}
use Rattle.nvme_model.proofs.Cut.{clash}

-- the effect of the unit came, after j Blocks; how many of them wrote
abbrev pub started : Option Op → ℕ → ℕ → Bool
started o n j = cond (is_pair o) (nat_le n j) (nat_lt 0 j)

abbrev pub written : Option Op → ℕ → ℕ → ℕ
written o n j = cond (is_pair o) (j - n) j

abbrev pub needed : Option Op → ℕ → ℕ
needed o n = cond (is_pair o) (2 * n) n

abbrev pub writes_by : Option Op → Bool → Bool
writes_by o same = has_write o && (not (has_compare o) || same)

pub record Stepped (o : Option Op) (f : Found) (s n j l : ℕ) (medium value new : List ℕ) : Type 0 where
  pub goes_on : (nat_le (needed o n) (suc j) || is_differs f) ≡ false
      → Writing (started o n (suc j)) (written o n (suc j)) s l medium value new
  pub ends : (nat_le (needed o n) (suc j) || is_differs f) ≡ true → medium ≡ value

pub written_only : (f : Found) → is_written f ≡ true → is_differs f ≡ false
written_only Found.Written h = refl
written_only Found.Read h = refl
written_only Found.Equal h = refl
written_only Found.Differs h = sym h

compares_only : (f : Found) → (is_equal f || is_differs f) ≡ true → is_written f ≡ false
compares_only Found.Written h = sym h
compares_only Found.Read h = refl
compares_only Found.Equal h = refl
compares_only Found.Differs h = refl

-- what a step starts from
pub record Stepping (o : Option Op) (f : Found) (effect : Bool) (s n j l lba : ℕ) (same : Bool) : Type 0 where
  pub some : 1 ≤ n
  pub low : s ≤ l
  pub high : l < s + n
  pub due : lba ≡ s + j % n
  pub word : may_find o n j f ≡ true
  pub mark : effect ≡ marked o n j f
  pub unended : nat_le (needed o n) j ≡ false
  pub yes : is_pair o ≡ true → effect ≡ true → is_differs f ≡ false → suc j ≡ n → same ≡ true
  pub no : effect ≡ true → is_differs f ≡ true → same ≡ false

of_write : (f : Found) (effect : Bool) (s n j l lba : ℕ) (same : Bool) (medium value new : List ℕ)
    → Stepping (Some Op.Write) f effect s n j l lba same
    → Writing (nat_lt 0 j) j s l medium value new
    → Stepped (Some Op.Write) f s n j l (medium_after f lba l new medium) (cond effect new value) new
of_write f effect s n j l lba same medium value new h w =
    let after = write_step f effect s n j l lba medium value new h.word h.mark h.due (leb-false n j h.unended) h.low
    w in
    record {
      goes_on = λ e. after;
      ends = λ e. elim (or_cases (nat_le n (suc j)) (is_differs f) e) [
        | inl k ↦ write_end s n j l (medium_after f lba l new medium) (cond effect new value) new (leb-true n (suc j) k)
            h.high after
        | inr d ↦ clash (is_differs f) d (written_only f h.word)
      ];
    }

-- a pair's compare that differs
of_differs : (f : Found) (effect : Bool) (s n j l lba : ℕ) (same : Bool) (medium value new : List ℕ)
    → Stepping (Some Op.Pair) f effect s n j l lba same → j < n → is_written f ≡ false → is_differs f ≡ true
    → Writing (nat_le n j) (j - n) s l medium value new
    → Stepped (Some Op.Pair) f s n j l (medium_after f lba l new medium) (cond (effect && same) new value) new
of_differs f effect s n j l lba same medium value new h k e d w =
    let marks : effect ≡ true = h.mark ∙ or_right _ _ d in
    record {
      goes_on = λ x. clash (is_differs f) d (or_parts _ _ x).1;
      ends = λ x. cond-false _ _ _ (and_left _ _ e)
          ∙ (w.not_yet (lt-leb n j k) ∙ sym (cond-false _ _ _ (and_right _ _ (h.no marks d))));
    }

-- one that is equal
of_equal : (f : Found) (effect : Bool) (s n j l lba : ℕ) (same : Bool) (medium value new : List ℕ)
    → Stepping (Some Op.Pair) f effect s n j l lba same → j < n → is_written f ≡ false → is_differs f ≡ false
    → Writing (nat_le n j) (j - n) s l medium value new
    → Stepped (Some Op.Pair) f s n j l (medium_after f lba l new medium) (cond (effect && same) new value) new
of_equal f effect s n j l lba same medium value new h k e d w =
    let mark : effect ≡ eqb (suc j) n = h.mark ∙ (ap (λ (b : Bool). eqb (suc j) n || b) d ∙ or_false (eqb (suc j) n)) in
    let after = equal_step f effect s n j l lba medium value new e mark k h.low w in
    record {
      goes_on = λ x. subst (λ (v : List ℕ).
          Writing (nat_le n (suc j)) (suc j - n) s l (medium_after f lba l new medium) v new)
          (ap (λ (b : Bool). cond b new value) (sym (whole effect refl mark))) after;
      ends = λ x. elim (or_cases (nat_le (2 * n) (suc j)) (is_differs f) x) [
        | inl q ↦ absurd (omega (arith, leb-true (2 * n) (suc j) q, h.some, k))
        | inr q ↦ clash (is_differs f) q d
      ];
    }
  where
    whole : (b : Bool) → effect ≡ b → b ≡ eqb (suc j) n → (b && same) ≡ b
    whole true p q = h.yes refl p d (eqb-true (suc j) n (sym q))
    whole false p q = refl

-- a pair's write
of_pair_write : (f : Found) (effect : Bool) (s n j l lba : ℕ) (same : Bool) (medium value new : List ℕ)
    → Stepping (Some Op.Pair) f effect s n j l lba same → n ≤ j → is_written f ≡ true
    → Writing (nat_le n j) (j - n) s l medium value new
    → Stepped (Some Op.Pair) f s n j l (medium_after f lba l new medium) (cond (effect && same) new value) new
of_pair_write f effect s n j l lba same medium value new h k e w =
    let mark : effect ≡ false = h.mark
    ∙ or_from _ _ (ne_eqb (suc j) n (λ (q : suc j ≡ n). omega (arith, q, k))) (written_only f e) in
    let after = pair_write_step f effect s n j l lba medium value new e mark h.due k (leb-false (2 * n) j h.unended)
    h.low w in
    let same_value : cond effect new value ≡ cond (effect && same) new value = cond-false _ _ _ mark
    ∙ sym (cond-false _ _ _ (and_left _ _ mark)) in
    let next = subst (λ (v : List ℕ).
    Writing (nat_le n (suc j)) (suc j - n) s l (medium_after f lba l new medium) v new) same_value after in
    record {
      goes_on = λ x. next;
      ends = λ x. elim (or_cases (nat_le (2 * n) (suc j)) (is_differs f) x) [
        | inl q ↦ pair_end s n j l (medium_after f lba l new medium) (cond (effect && same) new value) new
            (leb-true (2 * n) (suc j) q) h.some h.high next
        | inr q ↦ clash (is_differs f) q (written_only f e)
      ];
    }

write_case : (f : Found) (effect : Bool) (s n j l lba : ℕ) (same : Bool) (medium value new : List ℕ)
    → Stepping (Some Op.Write) f effect s n j l lba same
    → Writing (nat_lt 0 j) j s l medium value new
    → Stepped (Some Op.Write) f s n j l (medium_after f lba l new medium) (cond (effect && true) new value) new
write_case f effect s n j l lba same medium value new h w =
    subst (λ (v : List ℕ). Stepped (Some Op.Write) f s n j l (medium_after f lba l new medium) v new)
    (ap (λ (b : Bool). cond b new value) (sym (and-true effect)))
    (of_write f effect s n j l lba same medium value new h w)

pub step : (o : Option Op) (f : Found) (effect : Bool) (s n j l lba : ℕ) (same : Bool) (medium value new : List ℕ)
    → has_write o ≡ true → Stepping o f effect s n j l lba same
    → Writing (started o n j) (written o n j) s l medium value new
    → Stepped o f s n j l (medium_after f lba l new medium) (cond (effect && writes_by o same) new value) new
step (Some Op.Write) f effect s n j l lba same medium value new e h w =
    write_case f effect s n j l lba same medium value new h w
step (Some Op.Pair) f effect s n j l lba same medium value new e h w =
    elim (cases_Bool (nat_lt j n)) [
      | inl k ↦ compare_step (ltb-true j n k) (compares_only f (cond_is k h.word)) (cases_Bool (is_differs f))
      | inr k ↦ of_pair_write f effect s n j l lba same medium value new h (ltb-false j n k) (cond_not k h.word) w
    ]
  where
    cond_is : nat_lt j n ≡ true → cond (nat_lt j n) (is_equal f || is_differs f) (is_written f) ≡ true
        → (is_equal f || is_differs f) ≡ true
    cond_is k x = sym (cond-true _ _ _ k) ∙ x

    cond_not : nat_lt j n ≡ false → cond (nat_lt j n) (is_equal f || is_differs f) (is_written f) ≡ true
        → is_written f ≡ true
    cond_not k x = sym (cond-false _ _ _ k) ∙ x

    compare_step : j < n → is_written f ≡ false → ((is_differs f ≡ true) ⊎ (is_differs f ≡ false))
        → Stepped (Some Op.Pair) f s n j l (medium_after f lba l new medium) (cond (effect && same) new value) new
    compare_step k x (inl d) = of_differs f effect s n j l lba same medium value new h k x d w
    compare_step k x (inr d) = of_equal f effect s n j l lba same medium value new h k x d w
step None f effect s n j l lba same medium value new e h w = clash false e refl
step (Some Op.WriteZeroes) f effect s n j l lba same medium value new e h w =
    let done = write_case f effect s n j l lba same medium value new
    (record {
      some = h.some;
      low = h.low;
      high = h.high;
      due = h.due;
      word = h.word;
      mark = h.mark;
      unended = h.unended;
      yes = h.yes;
      no = h.no;
    }) w in
    record { goes_on = done.goes_on; ends = done.ends }
step (Some Op.Read) f effect s n j l lba same medium value new e h w = clash false e refl
step (Some Op.Compare) f effect s n j l lba same medium value new e h w = clash false e refl
