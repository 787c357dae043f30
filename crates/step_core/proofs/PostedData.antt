-- What a Read has read when its completion is due is what the completion carries.
use Rattle.std.proofs.Common.{◌≡◌, ℕ, zero, suc, ◌-◌, ◌*◌, ◌≤◌, ◌||◌, ◌&&◌, Bool, true, false, not, cond, List, [], ◌∷◌}
use Rattle.std.proofs.Common.{◌++◌, length, take, replicate, slice_get, Option, Some, None, is_none, refl, sym, ap, ◌∙◌}
use Rattle.std.proofs.Common.{arith, leb-true, nat_le}
use Rattle.std.specs.List.{list_any, sum_by}
use Rattle.std.proofs.lemmas.List.{append-nil}
use Rattle.std.proofs.lemmas.Bool.{and_parts}
use Rattle.nvme_model.specs.declared.config.ConfigNumbers.{ConfigNumbers}
use Rattle.nvme_model.specs.declared.array.Range.{Range}
use Rattle.nvme_model.specs.declared.operation.Op.{Op}
use Rattle.nvme_model.specs.declared.status.Status.{Status}
use Rattle.nvme_model.specs.declared.status.Verdict.{Verdict}
use Rattle.nvme_model.specs.Statuses.{compare_failure, is_success, success}
use Rattle.nvme_model.specs.EntryBytes.{block_count, slba}
use Rattle.nvme_model.specs.History.{Past}
use Rattle.nvme_model.specs.Tickets
use Rattle.nvme_model.specs.Tickets.{first_fields, in_flight, posts_of}
use Rattle.nvme_model.specs.Operations.{has_compare, op, op_by, units, units_by}
use Rattle.nvme_model.specs.Open.{differed, grants_of, unit_range}
use Rattle.nvme_model.specs.Placed.{effect}
use Rattle.nvme_model.specs.Answered.{no_at, says_no}
use Rattle.nvme_model.specs.Value.{all_equal, value}
use Rattle.nvme_model.specs.Owed.{all_done, all_ended, completion_data, numbered_units, owed, owed_after, owed_by}
use Rattle.nvme_model.specs.Owed.{read_data_by, some_no}
use Rattle.ticket_laws.specs.Standing.{OpenUnit, bytes_read, had, open_unit, standing}
use Rattle.nvme_model.specs.Kept.{ControllerInvariant}
use Rattle.nvme_model.proofs.Apart.{fetched_if}
use Rattle.ticket_laws.proofs.Owing.{has_run_is, no_is_differed}
use Rattle.ticket_laws.proofs.ReadPlace.{read_length, read_placed, rest_of}
use Rattle.nvme_model.proofs.StepCounts.{cut_sum}
use Rattle.ticket_laws.proofs.WholeRead.{read_is}
use Rattle.job_table.specs.Tickets.{job_at, job_by, read_bytes_by}

-- ---- a Read has no difference

silent : (past : Past) (t u : ℕ) → has_compare (op (Tickets.ticket past t)) ≡ false → says_no past t u ≡ false
silent past t u h = go (effect past t u)
  where
    go : (o : Option Past) → no_at o (Tickets.ticket past t) (unit_range past t u) ≡ false
    go None = refl
    go (Some before) = ap (λ b. b && not (all_equal (value before) (Tickets.ticket past t) (unit_range past t u))) h

none_says_no : (past : Past) (t v : ℕ) (rs : List Range) → has_compare (op (Tickets.ticket past t)) ≡ false
    → list_any (λ u. says_no past t u.0) (numbered_units v rs) ≡ false
none_says_no past t v [] h = refl
none_says_no past t v (r ∷ rs) h = (λ i. silent past t v h i || none_says_no past t (suc v) rs h i)

no_no : (c : ConfigNumbers) (past : Past) (t : ℕ) → has_compare (op (Tickets.ticket past t)) ≡ false
    → some_no c past t ≡ false
no_no c past t h = none_says_no past t 0 (units c (Tickets.ticket past t)) h

-- ---- a completion of a Read is due when all its units have ended, and is a success

pub record ReadDue (c : ConfigNumbers) (past : Past) (t : ℕ) (s : Status) : Type 0 where
  pub ended : all_ended c past t ≡ true
  pub good : is_success s ≡ true

read_due : (c : ConfigNumbers) (past : Past) (t : ℕ) (s : Status) → op (Tickets.ticket past t) ≡ Some Op.Read
    → slice_get (owed c past t) (posts_of past t) ≡ Some s → ReadDue c past t s
read_due c past t s p e = by_verdict (Tickets.ticket past t).verdict refl e
  where
    done : (b : Bool) (n : ℕ) → all_done c past t ≡ b → slice_get (cond b (success ∷ []) []) n ≡ Some s
        → ReadDue c past t s
    done true zero d h = record {
      ended = (and_parts (all_ended c past t) _ d).0;
      good = ap is_success (sym (some_inj h));
    }
      where
        some_inj : Some success ≡ Some s → success ≡ s
        some_inj h = cc
    done true (suc zero) d h = absurd cc
    done true (suc (suc n)) d h = absurd cc
    done false zero d h = absurd cc
    done false (suc n) d h = absurd cc

    running : slice_get (owed_by c past t (Some Op.Read)) (posts_of past t) ≡ Some s → ReadDue c past t s
    running h =
        done (all_done c past t) (posts_of past t) refl
        (ap (λ b. slice_get (cond b (compare_failure ∷ []) (cond (all_done c past t) (success ∷ []) []))
        (posts_of past t)) (sym (no_no c past t (ap has_compare p))) ∙ h)

    by_verdict : (v : Verdict) → (Tickets.ticket past t).verdict ≡ v
        → slice_get (owed_after c past t (Tickets.ticket past t) v) (posts_of past t) ≡ Some s → ReadDue c past t s
    by_verdict Verdict.Single q h = running (ap (λ o. slice_get (owed_by c past t o) (posts_of past t)) (sym p) ∙ h)
    by_verdict Verdict.Pair q h = running (ap (λ o. slice_get (owed_by c past t o) (posts_of past t)) (sym p) ∙ h)
    by_verdict (Verdict.SingleFailed f) q h =
        absurd (let x : None ≡ Some Op.Read =
        ap (λ (v : Verdict). op_by v (first_fields (Tickets.ticket past t))) (sym q) ∙ p in cc)
    by_verdict (Verdict.PairFailed f g) q h =
        absurd (let x : None ≡ Some Op.Read =
        ap (λ (v : Verdict). op_by v (first_fields (Tickets.ticket past t))) (sym q) ∙ p in cc)

-- ---- and then all its blocks are read

take_all : (n : ℕ) (rs : List Range) → length rs ≤ n → take n rs ≡ rs
take_all zero [] l = refl
take_all zero (r ∷ rs) l = absurd (omega (arith, l))
take_all (suc n) [] l = refl
take_all (suc n) (r ∷ rs) l = ap (λ xs. r ∷ xs) (take_all n rs (omega (arith, l)))

read_whole : (c : ConfigNumbers) (past : Past) (t : ℕ) → ControllerInvariant c past → in_flight past t ≡ true
    → op (Tickets.ticket past t) ≡ Some Op.Read → all_ended c past t ≡ true
    → length (bytes_read past t) ≡ 512 * block_count (first_fields (Tickets.ticket past t))
read_whole c past t k f p ended =
    let calm : differed past t ≡ false = sym (no_is_differed c past t k.legal k.marks)
    ∙ no_no c past t (ap has_compare p) in
    let ran = and_parts (nat_le (length (units c (Tickets.ticket past t))) (grants_of past t))
    (is_none (open_unit past t)) (sym (has_run_is c past t k.legal calm) ∙ ended) in
    let all : had c (standing past t) ≡ block_count (first_fields (Tickets.ticket past t)) =
    ap (λ rs. sum_by (λ (r : Range). r.blocks) rs)
    (take_all (grants_of past t) (units c (Tickets.ticket past t)) (leb-true _ _ ran.0))
    ∙ ap (λ o. sum_by (λ (r : Range). r.blocks)
    (units_by c.atomic o (slba (first_fields (Tickets.ticket past t)))
    (block_count (first_fields (Tickets.ticket past t))))) p
    ∙ cut_sum c.atomic (slba (first_fields (Tickets.ticket past t)))
    (block_count (first_fields (Tickets.ticket past t))) in
    omega (
      arith,
      read_length c past t k.legal p,
      read_placed c past t k.legal (fetched_if c past t k.legal f) p,
      nothing (open_unit past t) ran.1,
      all,
    )
  where
    nothing : (o : Option OpenUnit) → is_none o ≡ true → rest_of o ≡ 0
    nothing None e = refl
    nothing (Some u) e = absurd cc

-- ---- what goes with the completion

pub data_is : (c : ConfigNumbers) (past : Past) (t : ℕ) (s : Status) → ControllerInvariant c past
    → in_flight past t ≡ true
    → slice_get (owed c past t) (posts_of past t) ≡ Some s → (job_at c past t).read ≡ completion_data c past t s
unfolding job_by
data_is c past t s k f e = go (op (Tickets.ticket past t)) refl
  where
    nothing : List ℕ
    nothing = []

    both : (b : Bool) → nothing ≡ cond b nothing nothing
    both true = refl
    both false = refl

    go : (o : Option Op) → op (Tickets.ticket past t) ≡ o
        → read_bytes_by o (Tickets.ticket past t) (bytes_read past t) ≡ cond (is_success s) (read_data_by c past t o) []
    go None q = both (is_success s)
    go (Some Op.Compare) q = both (is_success s)
    go (Some Op.Write) q = both (is_success s)
    go (Some Op.WriteZeroes) q = both (is_success s)
    go (Some Op.Pair) q = both (is_success s)
    go (Some Op.Read) q =
        let due = read_due c past t s q e in
        let none : 512 * block_count (first_fields (Tickets.ticket past t)) - length (bytes_read past t) ≡ 0 =
        omega (arith, read_whole c past t k f q due.ended) in
        (λ i. bytes_read past t ++ replicate (none i) 0) ∙ append-nil (bytes_read past t)
        ∙ read_is c past t k.legal k.marks q due.ended
        ∙ ap (λ b. cond b (read_data_by c past t (Some Op.Read)) []) (sym due.good)
