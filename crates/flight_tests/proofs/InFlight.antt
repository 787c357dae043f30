-- The calls of one driver that are in flight: one more, one less, and after a poll of one of them.
use Rattle.std.proofs.Common.{◌≡◌, ◌∙◌, ℕ, suc, zero, ◌<◌, ◌+◌, All, List, [], ◌∷◌, ◌++◌, arith, get_or, inl, inr}
use Rattle.std.proofs.Common.{length, Option, Some, subst, sym}
use Rattle.std.specs.Prelude.{IfSome}
use Rattle.std.specs.List.{AllPairs, remove}
use Rattle.std.proofs.lemmas.Bool.{cases_Bool, cases_lt}
use Rattle.std.proofs.lemmas.List.{get_or_default}
use Rattle.std.proofs.lemmas.List.Edits.{get_or-remove_above, get_or-remove_below, length-remove}
use Rattle.std.proofs.lemmas.List.Elements.{All-cons, All-push}
use Rattle.std.proofs.lemmas.List.Kept.{AllPairs-cons}
use Rattle.std.proofs.lemmas.List.Quantifiers.{all_pairs_push, all_pairs_remove}
use Rattle.nvme_model.proofs.Cut.{clash}
use Rattle.driver_cas.specs.Drivers.{SharesNoCid, IsCallOf}
use Rattle.driver_cas.specs.Tables.{is_its_cid}
use Rattle.driver_cas.specs.declared.call.Call.{Call}
use Rattle.driver_cas.specs.declared.driver.Driver.{Driver}
use Rattle.driver_cas.specs.declared.port.Port.{Ghosts}
use Rattle.driver_testing.specs.Calls.{IsNewCall, StayCalls}
use Rattle.flight_tests.specs.Flights.{AreCallsOf}

module _ {P : Type 0} where
  apart_back : (k j : Call P) → SharesNoCid k j → SharesNoCid j k
  apart_back k j h q cid its = elim (cases_Bool (is_its_cid k.op k.queue k.first k.second q cid)) [
    | inr e ↦ e
    | inl e ↦ clash (is_its_cid j.op j.queue j.first j.second q cid) its (h q cid e)
  ]

  -- the call at a place is apart from all others
  apart_at : (ks : List (Call P)) (i : ℕ) (k : Call P) → i < length ks → k ≡ get_or ks i k → AllPairs SharesNoCid ks
      → All (SharesNoCid k) (remove ks i)
  apart_at ks i k lt e h n d within =
      let few = length-remove ks i lt in
      let here : k ≡ get_or ks i d = e ∙ get_or_default ks i k d lt in
      elim (cases_lt n i) [
        | inl below ↦ subst (λ (z : Call P × Call P). SharesNoCid z.0 z.1)
            (λ x. (sym here x, sym (get_or-remove_below ks i d n below lt) x))
            (apart_back (get_or ks n d) (get_or ks i d) (h n i d below lt))
        | inr above ↦ subst (λ (z : Call P × Call P). SharesNoCid z.0 z.1)
            (λ x. (sym here x, sym (get_or-remove_above ks i d n above lt) x))
            (h i (n + 1) d (omega arith) (omega arith))
      ]

module _ {P : Type 0} {g : Ghosts P} where
  pub one_more : (d e : Driver P g) (ks : List (Call P)) (k : Call P) → StayCalls d e → IsNewCall d e k
      → AreCallsOf d ks → AreCallsOf e (ks ++ k ∷ [])
  one_more d e ks k keeps new h =
      record {
        all = All-push (IsCallOf e) ks k (λ i x lt. keeps (get_or ks i x) (h.all i x lt)) new.0;
        apart = all_pairs_push SharesNoCid ks k h.apart
            (λ i x lt. apart_back k (get_or ks i x) (new.1 (get_or ks i x) (h.all i x lt)));
      }

  left : (d : Driver P g) (ks : List (Call P)) (i : ℕ) → i < length ks → All (IsCallOf d) ks
      → All (IsCallOf d) (remove ks i)
  left d ks i lt h n x within =
      let few = length-remove ks i lt in
      elim (cases_lt n i) [
        | inl below ↦ subst (IsCallOf d) (sym (get_or-remove_below ks i x n below lt)) (h n x (omega arith))
        | inr above ↦ subst (IsCallOf d) (sym (get_or-remove_above ks i x n above lt)) (h (n + 1) x (omega arith))
      ]

  pub one_taken : (d : Driver P g) (ks : List (Call P)) (i : ℕ) (k : Call P) → i < length ks → k ≡ get_or ks i k
      → AreCallsOf d ks → AreCallsOf d (k ∷ remove ks i)
  one_taken d ks i k lt e h =
      record {
        all = All-cons (IsCallOf d) k (remove ks i) (subst (λ (x : Call P). IsCallOf d x) (sym e) (h.all i k lt))
            (left d ks i lt h.all);
        apart = AllPairs-cons SharesNoCid k (remove ks i) (apart_at ks i k lt e h.apart)
            (all_pairs_remove SharesNoCid ks i lt h.apart);
      }

  -- after a poll of the first
  pub others_stay : (d e : Driver P g) (k : Call P) (ks : List (Call P))
      → ((j : Call P) → IsCallOf d j → SharesNoCid k j → IsCallOf e j) → AreCallsOf d (k ∷ ks) → AreCallsOf e ks
  others_stay d e k ks others h =
      record {
        all = λ i x lt. others (get_or ks i x) (h.all (suc i) x (omega arith))
            (h.apart zero (suc i) x (omega arith) (omega arith));
        apart = λ i j x lt within. h.apart (suc i) (suc j) x (omega arith) (omega arith);
      }

  pub still_first : (d e : Driver P g) (k n : Call P) (ks : List (Call P))
      → ((j : Call P) → IsCallOf d j → SharesNoCid k j → IsCallOf e j) → n ≡ k → IsCallOf e n → AreCallsOf d (k ∷ ks)
      → AreCallsOf e (n ∷ ks)
  still_first d e k n ks others same of h =
      record {
        all = All-cons (IsCallOf e) n ks of (others_stay d e k ks others h).all;
        apart = subst (λ (x : Call P). AllPairs SharesNoCid (x ∷ ks)) (sym same) h.apart;
      }

  pub goes_on_with : (d e : Driver P g) (k n : Call P) (ks : List (Call P)) (o : Option (Call P))
      → ((j : Call P) → IsCallOf d j → SharesNoCid k j → IsCallOf e j) → o ≡ Some n
      → IfSome o (λ j. (j ≡ k) × IsCallOf e j)
      → AreCallsOf d (k ∷ ks) → AreCallsOf e (n ∷ ks)
  goes_on_with d e k n ks o others is back h =
      let b : (n ≡ k) × IsCallOf e n =
      subst (λ (x : Option (Call P)). IfSome x (λ j. (j ≡ k) × IsCallOf e j)) is back in
      still_first d e k n ks others b.0 b.1 h

  pub first_of : (d : Driver P g) (k : Call P) (ks : List (Call P)) → AreCallsOf d (k ∷ ks) → IsCallOf d k
  first_of d k ks h = h.all zero k (omega arith)

  pub rest_of : (d : Driver P g) (k : Call P) (ks : List (Call P)) → AreCallsOf d (k ∷ ks) → AreCallsOf d ks
  rest_of d k ks h = others_stay d d k ks (λ j of apart. of) h
