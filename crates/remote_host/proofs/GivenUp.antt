-- The calls of a host that were given up: after a start, after a poll of one of them or of one with a number, and where
-- one more is given up.
use Rattle.std.proofs.Common.{List, Result, [], ap, append-nil, inl, inr, subst, sym, ℕ, ◌++◌, ◌∙◌, ◌∷◌, ◌≡◌}
use Rattle.std.specs.Option.{option_to_list}
use Rattle.std.specs.Prelude.{Err, None, Ok, Some}
use Rattle.plain_lemmas.proofs.Options.{some_one}
use Rattle.slab.specs.Slab.{Slab, Updates, get}
use Rattle.driver_calls.specs.declared.request.CallData.{CallData}
use Rattle.driver_calls.specs.declared.request.Request.{Request}
use Rattle.driver_cas.specs.Drivers.{IsBack, IsCallBack, IsCallOf, IsSameDriver, SharesNoCid}
use Rattle.driver_cas.specs.Driving.{call_given_back}
use Rattle.driver_cas.specs.Requests.{IsStart}
use Rattle.driver_cas.specs.declared.call.Call.{Call}
use Rattle.driver_cas.specs.declared.call.Poll.{Poll}
use Rattle.driver_cas.specs.declared.driver.Driver.{Driver}
use Rattle.driver_cas.specs.declared.fault.Fault.{Fault}
use Rattle.driver_cas.specs.declared.port.Port.{Ghosts}
use Rattle.driver_cas.proofs.Starting.{start_keeps}
use Rattle.remote_host.specs.Calls.{AreCallsOf, AreGivenUp, IsBeside, IsKept, SharesNone}
use Rattle.remote_host.proofs.InFlight.{apart_back, none_some, same_back, under}

module _ {P : Type 0} where
  -- one that shares no CID with any of these, nor with one more
  none_with : (k j : Call P) (ks : List (Call P)) → SharesNone k ks → SharesNoCid k j → SharesNone k (ks ++ j ∷ [])
  none_with k j [] h x = (x, tt)
  none_with k j (i ∷ ks) h x = (h.0, none_with k j ks h.1 x)

  -- what is under a number, where the call with one of them was taken out, and maybe put back, was so before
  no_other : (k : Call P) (poll : Poll P) (old new : Slab (Call P)) (n : ℕ) → get old n ≡ Some k → IsBack k poll
      → Updates old new n (call_given_back poll) → (m : ℕ) (j : Call P) → get new m ≡ Some j → get old m ≡ Some j
  no_other k poll old new n at back u m j is =
      elim (under old new n (call_given_back poll) u m j is) [
        | inl x ↦ (ap (λ (i : ℕ). get old i) x.0 ∙ at) ∙ ap (λ (c : Call P). Some c) (sym (same_back k j poll back x.1))
        | inr x ↦ x.1
      ]

module _ {P : Type 0} {g : Ghosts P} where
  -- each of them stays, where each that shares no CID with this call does
  pub each_apart : (d e : Driver P g) (old new : Slab (Call P)) (k : Call P) (ks : List (Call P)) → SharesNone k ks
      → ((j : Call P) → IsCallOf d j → SharesNoCid k j → IsCallOf e j)
      → ((n : ℕ) (j : Call P) → get new n ≡ Some j → get old n ≡ Some j)
      → AreGivenUp d old ks → AreGivenUp e new ks
  each_apart d e old new k [] none stay less h = tt
  each_apart d e old new k (i ∷ ks) none stay less h = (
    stay i h.0 none.0,
    λ n j at. h.1 n j (less n j at),
    h.2,
    each_apart d e old new k ks none.1 stay less h.3,
  )

  -- each of them stays, where each call of the driver does, and those with numbers are apart from it
  pub each_stays : (d e : Driver P g) (old new : Slab (Call P)) (ks : List (Call P))
      → ((j : Call P) → IsCallOf d j → IsBeside old j → IsCallOf e j × IsBeside new j)
      → AreGivenUp d old ks → AreGivenUp e new ks
  each_stays d e old new [] stay h = tt
  each_stays d e old new (i ∷ ks) stay h =
      let x = stay i h.0 h.1 in
      (x.0, x.1, h.2, each_stays d e old new ks stay h.3)

  -- a call with a number shares no CID with any of them
  pub numbered_apart : (d : Driver P g) (calls : Slab (Call P)) (n : ℕ) (k : Call P) (ks : List (Call P))
      → get calls n ≡ Some k → AreGivenUp d calls ks → SharesNone k ks
  numbered_apart d calls n k [] at h = tt
  numbered_apart d calls n k (i ∷ ks) at h = (apart_back i k (h.1 n k at), numbered_apart d calls n k ks at h.3)

  -- one more behind them
  pub one_more : (d : Driver P g) (calls : Slab (Call P)) (k : Call P) (ks : List (Call P)) → IsCallOf d k
      → IsBeside calls k → SharesNone k ks → AreGivenUp d calls ks → AreGivenUp d calls (ks ++ k ∷ [])
  one_more d calls k [] of beside none h = (of, beside, tt, tt)
  one_more d calls k (i ∷ ks) of beside none h = (
    h.0,
    h.1,
    none_with i k ks h.2 (apart_back k i none.0),
    one_more d calls k ks of beside none.1 h.3,
  )

  -- after a start, or none
  pub up_after_start : ((a b c : P) → g.follows a b → g.follows b c → g.follows a c) → (d e : Driver P g)
      (asked : Result Request Fault) (contents : CallData) (old new : Slab (Call P)) (r : Result (Call P) Fault)
      (t : Result ℕ Fault) (ks : List (Call P)) → IsSameDriver d e → g.follows d.port e.port
      → IsStart d e asked contents r → IsKept old new r t → AreGivenUp d old ks → AreGivenUp e new ks
  up_after_start on d e asked contents old new (Ok k) (Ok n) ks same later s kept h =
      let x = start_keeps g on d e asked contents (Ok k) same later s in
      each_stays d e old new ks (λ j of beside. (
        (x.1 j of).0,
        λ m i at. elim (under old new n (Some k) kept.added m i at) [
          | inl y ↦ subst (λ (c : Call P). SharesNoCid j c) (some_one k i y.1) (apart_back k j (x.1 j of).1)
          | inr y ↦ beside m i y.1
        ],
      )) h
  up_after_start on d e asked contents old new (Err f) (Err t) ks same later s kept h =
      let x = start_keeps g on d e asked contents (Err f) same later s in
      each_stays d e old new ks (λ j of beside. ((x.1 j of).0, λ m i at. beside m i (sym (kept.1 m) ∙ at))) h
  up_after_start on d e asked contents old new (Ok k) (Err t) ks same later s kept h = absurd kept
  up_after_start on d e asked contents old new (Err f) (Ok n) ks same later s kept h = absurd kept

  -- after a poll of the call with this number
  pub up_after_poll : (d e : Driver P g) (k : Call P) (poll : Poll P) (old new : Slab (Call P)) (n : ℕ)
      (ks : List (Call P)) → get old n ≡ Some k → IsBack k poll
      → ((other : Call P) → IsCallOf d other → SharesNoCid k other → IsCallOf e other)
      → Updates old new n (call_given_back poll) → AreGivenUp d old ks → AreGivenUp e new ks
  up_after_poll d e k poll old new n ks at back others u h =
      each_apart d e old new k ks (numbered_apart d old n k ks at h) others (no_other k poll old new n at back u) h

  -- where one more is given up
  pub up_after_give_up : (d : Driver P g) (old new : Slab (Call P)) (n : ℕ) (k : Call P) (ks : List (Call P))
      → get old n ≡ Some k → Updates old new n None → AreCallsOf d old → AreGivenUp d old ks
      → AreGivenUp d new (ks ++ k ∷ [])
  up_after_give_up d old new n k ks at u h up =
      let none = numbered_apart d old n k ks at up in
      one_more d new k ks (h.all n k at)
      (λ m j is. elim (under old new n None u m j is) [
        | inl x ↦ absurd (none_some x.1)
        | inr x ↦ h.apart n m k j (λ e. x.0 (sym e)) at x.1
      ])
      none
      (each_apart d d old new k ks none (λ j of apart. of) (λ m j is. elim (under old new n None u m j is) [
        | inl x ↦ absurd (none_some x.1)
        | inr x ↦ x.1
      ]) up)

  -- the first of them comes back from its poll, and stands behind the others
  comes_back : (d e : Driver P g) (k j : Call P) (calls : Slab (Call P)) (ks : List (Call P)) → j ≡ k → IsCallOf e j
      → ((other : Call P) → IsCallOf d other → SharesNoCid k other → IsCallOf e other)
      → AreGivenUp d calls (k ∷ ks) → AreGivenUp e calls (ks ++ j ∷ [])
  comes_back d e k j calls ks same of others h =
      one_more e calls j ks of (subst (λ (c : Call P). IsBeside calls c) (sym same) h.1)
      (subst (λ (c : Call P). SharesNone c ks) (sym same) h.2)
      (each_apart d e calls calls k ks h.2 others (λ n i at. at) h.3)

  -- or it doesn't
  is_gone : (d e : Driver P g) (k : Call P) (calls : Slab (Call P)) (ks : List (Call P))
      → ((other : Call P) → IsCallOf d other → SharesNoCid k other → IsCallOf e other)
      → AreGivenUp d calls (k ∷ ks) → AreGivenUp e calls (ks ++ [])
  is_gone d e k calls ks others h =
      subst (λ (cs : List (Call P)). AreGivenUp e calls cs) (sym (append-nil ks))
      (each_apart d e calls calls k ks h.2 others (λ n i at. at) h.3)

  -- after a poll of the first of them
  pub up_after_turn : (d e : Driver P g) (k : Call P) (poll : Poll P) (calls : Slab (Call P)) (ks : List (Call P))
      → IsBack k poll → IsCallBack e poll
      → ((other : Call P) → IsCallOf d other → SharesNoCid k other → IsCallOf e other)
      → AreGivenUp d calls (k ∷ ks) → AreGivenUp e calls (ks ++ option_to_list (call_given_back poll))
  up_after_turn d e k (Poll.Pending j) calls ks back stays others h = comes_back d e k j calls ks back stays others h
  up_after_turn d e k (Poll.Later f j) calls ks back stays others h = comes_back d e k j calls ks back.0 stays others h
  up_after_turn d e k (Poll.Done r) calls ks back stays others h = is_gone d e k calls ks others h
  up_after_turn d e k (Poll.Failed f) calls ks back stays others h = is_gone d e k calls ks others h

  -- those with numbers, after that
  pub calls_after_turn : (d e : Driver P g) (k : Call P) (calls : Slab (Call P)) → IsBeside calls k
      → ((other : Call P) → IsCallOf d other → SharesNoCid k other → IsCallOf e other)
      → AreCallsOf d calls → AreCallsOf e calls
  calls_after_turn d e k calls beside others h =
      record { all = λ n j at. others j (h.all n j at) (beside n j at); apart = h.apart }
