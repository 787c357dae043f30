-- What always is so of a host's calls, after each of what it does, and what a start call tells.
use Rattle.std.proofs.Common.{List, Result, [], subst, sym, ℕ, ◌++◌, ◌∙◌, ◌∷◌, ◌≡◌}
use Rattle.std.specs.Option.{option_to_list}
use Rattle.std.specs.Prelude.{None, Some}
use Rattle.slab.specs.Slab.{SameValues, Slab, Updates, get}
use Rattle.driver_calls.specs.declared.request.CallData.{CallData}
use Rattle.driver_calls.specs.declared.request.Request.{Request}
use Rattle.driver_cas.specs.Drivers.{IsCallOf, IsSameDriver}
use Rattle.driver_cas.specs.Driving.{IsCallPolled, call_given_back}
use Rattle.driver_cas.specs.Requests.{IsStart}
use Rattle.driver_cas.specs.declared.call.Call.{Call}
use Rattle.driver_cas.specs.declared.call.Poll.{Poll}
use Rattle.driver_cas.specs.declared.driver.Driver.{Driver}
use Rattle.driver_cas.specs.declared.fault.Fault.{Fault}
use Rattle.driver_cas.specs.declared.port.Port.{Ghosts}
use Rattle.remote_host.specs.Calls.{IsKept, KeepsCalls}
use Rattle.remote_host.specs.HostStates.{HostState}
use Rattle.remote_host.specs.Hosts.{HasTurn, TakesTurn}
use Rattle.remote_host.proofs.InFlight.{after_poll, after_start, all_stay, one_less}
use Rattle.remote_host.proofs.GivenUp.{calls_after_turn, each_stays, up_after_give_up, up_after_poll, up_after_start}
use Rattle.remote_host.proofs.GivenUp.{up_after_turn}

module _ {P : Type 0} {g : Ghosts P} where
  -- a driver, its calls with numbers, and those that were given up
  abbrev pub host_with : Driver P g → Slab (Call P) → List (Call P) → HostState P g
  host_with d calls ks = record { driver = d; calls = calls; given_up = ks }

  -- all calls stay
  pub keeps_all : (d e : Driver P g) (old new : Slab (Call P)) (ks : List (Call P))
      → ((k : Call P) → IsCallOf d k → IsCallOf e k) → SameValues old new → KeepsCalls (host_with d old ks)
      → KeepsCalls (host_with e new ks)
  keeps_all d e old new ks stay same h =
      record {
        numbered = all_stay d e old new stay same h.numbered;
        given_up = each_stays d e old new ks
            (λ j of beside. (stay j of, λ n i at. beside n i (sym (same n) ∙ at))) h.given_up;
      }

  -- there was room for one call more, and the driver was asked
  pub keeps_started : ((a b c : P) → g.follows a b → g.follows b c → g.follows a c) → (d e : Driver P g)
      (q : Result Request Fault) (contents : CallData) (old mid new : Slab (Call P)) (r : Result (Call P) Fault)
      (t : Result ℕ Fault) (ks : List (Call P)) → SameValues old mid → IsSameDriver d e → g.follows d.port e.port
      → IsStart d e q contents r → IsKept mid new r t → KeepsCalls (host_with d old ks)
      → KeepsCalls (host_with e new ks)
  keeps_started on d e q contents old mid new r t ks same driver later is kept h =
      let x = keeps_all d d old mid ks (λ k of. of) same h in
      record {
        numbered = after_start on d e q contents mid new r t driver later is kept x.numbered;
        given_up = up_after_start on d e q contents mid new r t ks driver later is kept x.given_up;
      }

  -- the call with this number was polled
  pub keeps_polled : (d e : Driver P g) (k : Call P) (poll : Poll P) (old new : Slab (Call P)) (n : ℕ)
      (ks : List (Call P)) → get old n ≡ Some k → IsCallPolled d e k poll → Updates old new n (call_given_back poll)
      → KeepsCalls (host_with d old ks) → KeepsCalls (host_with e new ks)
  keeps_polled d e k poll old new n ks at x u h =
      record {
        numbered = after_poll d e k poll old new n at x.back x.stays x.others u h.numbered;
        given_up = up_after_poll d e k poll old new n ks at x.back x.others u h.given_up;
      }

  -- the first of those that were given up was polled
  pub keeps_turned : (d e : Driver P g) (k : Call P) (poll : Poll P) (calls : Slab (Call P)) (ks : List (Call P))
      → IsCallPolled d e k poll → KeepsCalls (host_with d calls (k ∷ ks))
      → KeepsCalls (host_with e calls (ks ++ option_to_list (call_given_back poll)))
  keeps_turned d e k poll calls ks x h =
      record {
        numbered = calls_after_turn d e k calls h.given_up.1 x.others h.numbered;
        given_up = up_after_turn d e k poll calls ks x.back x.stays x.others h.given_up;
      }

  -- and what came of that
  pub turn_told : (h i : HostState P g) (k : Call P) (ks : List (Call P)) → h.given_up ≡ k ∷ ks → HasTurn h i k ks
      → TakesTurn h i
  turn_told h i k ks at x =
      record {
        none = λ none. absurd (let a : [] ≡ k ∷ ks = sym none ∙ at in cc);
        turn = λ j others is.
            let same : k ∷ ks ≡ j ∷ others = sym at ∙ is in
            let first : k ≡ j = cc in
            let rest : ks ≡ others = cc in
            subst (λ (c : Call P). HasTurn h i c others) first
            (subst (λ (cs : List (Call P)). HasTurn h i k cs) rest x);
      }

  -- the call with this number was given up
  pub keeps_less : (d : Driver P g) (old new : Slab (Call P)) (n : ℕ) (k : Call P) (ks : List (Call P))
      → get old n ≡ Some k → Updates old new n None → KeepsCalls (host_with d old ks)
      → KeepsCalls (host_with d new (ks ++ k ∷ []))
  keeps_less d old new n k ks at u h =
      record {
        numbered = one_less d old new n u h.numbered;
        given_up = up_after_give_up d old new n k ks at u h.numbered h.given_up;
      }
