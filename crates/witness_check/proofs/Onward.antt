-- One more entry of a history and a trace with delays, by what is found for it.
use Rattle.std.proofs.Common.{◌≡◌, ℕ, ◌+◌, ◌<◌, ◌&&◌, Bool, true, false, cond, List, ◌∷◌, length, take, Option, Some}
use Rattle.std.proofs.Common.{None, is_some, slice_get, unwrap_or, refl, sym, ap, ◌∙◌, subst, arith, nat_lt}
use mathlib.Core.List.{reverse}
use Rattle.std.proofs.lemmas.Bool.{ltb-false, ltb-true}
use Rattle.nvme_model.specs.History.{Past}
use Rattle.nvme_model.specs.declared.config.ConfigNumbers.{ConfigNumbers}
use Rattle.nvme_model.specs.declared.entry.Entry.{Entry}
use Rattle.trace.specs.Aside.{aside_pair, is_aside}
use Rattle.trace.specs.Observed.{observed, shown}
use Rattle.trace.specs.declared.options.TraceOptions.{TraceOptions}
use Rattle.trace.specs.declared.seen.Seen.{Seen}
use Rattle.witness_check.specs.Compared.{Compared}
use Rattle.witness_check.specs.Delayed.{count, is_reap, lane}
use Rattle.witness_check.specs.Delays.{DelaysRun, IsDelayedTo, IsInStep, IsReach, IsSoFar, is_reap_entry, is_turned}
use Rattle.witness_check.specs.Delays.{lane_sought, lanes_of, place_or, reach_after, turned_or}
use Rattle.witness_check.specs.Lanes.{AreLanes, IsSought, LanesRun}
use Rattle.witness_check.specs.declared.difference.Difference.{Difference}
use Rattle.witness_check.proofs.Counting.{same_kind}
use Rattle.witness_check.proofs.Reaching.{aside_shown, lane_is_there, next_none, next_some, none_shown, own_shown}
use Rattle.witness_check.proofs.Reaching.{reach_publish, reach_reap}
use Rattle.witness_check.proofs.Stepping.{After, Takes, aside_on, bad_on, differs_on, found_on, hidden_on, missing_on}
use Rattle.witness_check.proofs.Stepping.{turned_on}

-- a Publish more
publish_reaches : (trace came : List Seen) (reach p : ℕ) (t : Seen) → IsReach trace came reach → is_reap t ≡ false
    → slice_get trace p ≡ Some t → count (lane t) (reverse (take p trace)) ≡ count (lane t) came
    → IsReach trace (t ∷ came) (cond (nat_lt p reach) reach (p + 1))
publish_reaches trace came reach p (Seen.Published x) r is at n = reach_publish trace came reach p x r at n
publish_reaches trace came reach p (Seen.Reaped x) r is at n = absurd (let w : true ≡ false = is in cc)

module _ (o : TraceOptions) (c : ConfigNumbers) (trace : List Seen) (past : Past) (e : Entry) (x : DelaysRun)
    (ls : LanesRun) (y : Compared) (h : IsDelayedTo o c trace past x) where
  abbrev a : Option ℕ
  a = aside_pair o c

  -- what is looked for
  abbrev Looked : Option ℕ → Type 0
  Looked place =
      (came : List Seen) → AreLanes (lanes_of c) trace came x.lanes
      → IsSought (lanes_of c) trace came (lane_sought x.aside e) place ls

  -- what is kept then
  abbrev Goes : Option ℕ → (turned : Bool) → (reach : ℕ) → Type 0
  Goes place turned reach =
      IsDelayedTo o c trace (e ∷ past)
      (After x ls y reach (place_or place (length trace) + 1) (turned_or turned y.unlike))

  module _ (was : x.compared.bad ≡ None) (k : IsInStep c trace h.came x) where
    module _ (s : Seen) (there : shown c past e ≡ Some s) (mine : is_aside a s ≡ false) where
      kind : is_reap_entry e ≡ is_reap s
      kind = (own_shown a c past e s there mine).1

      -- the trace has a line for it
      found : (p : ℕ) → IsSought (lanes_of c) trace h.came (Some (lane s)) (Some p) ls → (r l : Bool)
          → is_reap_entry e ≡ r → nat_lt p x.reach ≡ l → Takes o c trace past e x y (Some p) (r && l)
          → Goes (Some p) (r && l) (cond r x.reach (cond l x.reach (p + 1)))
      found p w true true reaps low takes =
          turned_on o c trace past e x ls y h was k s there mine p x.reach w.0.0 (sym kind ∙ reaps) (ltb-true _ _ low)
          (λ legal. let b = lane_is_there c past e s legal there in
          next_some (lanes_of c) trace h.came (lane s) p b.0 b.1 w.0) takes
      found p w true false reaps high takes =
          found_on o c trace past e x ls y h was k s there mine p x.reach w.0.0 w.0.1 (λ _. ltb-false _ _ high)
          (λ legal.
          let b = lane_is_there c past e s legal there in
          let n = next_some (lanes_of c) trace h.came (lane s) p b.0 b.1 w.0 in
          let same = same_kind s w.0.0 (sym n.1) in (
            n,
            omega (arith, n.1, b.0),
            omega (arith, n.1, b.1),
            same,
            w.1 w.0.0 (λ f. let v : Some p ≡ None = f in cc) w.0.2,
            reach_reap trace h.came x.reach w.0.0 k.reached (sym same ∙ sym kind ∙ reaps),
          )) takes
      found p w false l publishes far takes =
          found_on o c trace past e x ls y h was k s there mine p (cond l x.reach (p + 1)) w.0.0 w.0.1
          (λ f. absurd (let v : true ≡ false = sym f ∙ sym kind ∙ publishes in cc))
          (λ legal.
          let b = lane_is_there c past e s legal there in
          let n = next_some (lanes_of c) trace h.came (lane s) p b.0 b.1 w.0 in
          let same = same_kind s w.0.0 (sym n.1) in (
            n,
            omega (arith, n.1, b.0),
            omega (arith, n.1, b.1),
            same,
            w.1 w.0.0 (λ f. let v : Some p ≡ None = f in cc) w.0.2,
            subst (λ b. IsReach trace (w.0.0 ∷ h.came) (cond b x.reach (p + 1))) far
                (publish_reaches trace h.came x.reach p w.0.0 k.reached (sym same ∙ sym kind ∙ publishes) w.0.1
                (subst (λ j. count j (reverse (take p trace)) ≡ count j h.came) (sym n.1) n.2)),
          )) takes

      own_on : (place : Option ℕ) → IsSought (lanes_of c) trace h.came (Some (lane s)) place ls
          → Takes o c trace past e x y place (is_turned e place x.reach)
          → Goes place (is_turned e place x.reach) (reach_after e place x.reach)
      own_on None w takes =
          missing_on o c trace past e x ls y h was k s there mine
          (λ legal. let b = lane_is_there c past e s legal there in
          next_none (lanes_of c) trace h.came (lane s) b.0 b.1 w.0) takes
      own_on (Some p) w takes = found p w (is_reap_entry e) (nat_lt p x.reach) refl refl takes

    -- by what hosts see of it
    seen_on : (place : Option ℕ) → IsSought (lanes_of c) trace h.came (lane_sought a e) place ls
        → Takes o c trace past e x y place (is_turned e place x.reach) → (s : Option Seen) → shown c past e ≡ s
        → Goes place (is_turned e place x.reach) (reach_after e place x.reach)
    seen_on place w takes None there =
        let v = subst (λ (l : Option ℕ). IsSought (lanes_of c) trace h.came l place ls) (none_shown a c past e there) w
        in
        nothing place takes v.0
      where
        nothing : (place : Option ℕ) → Takes o c trace past e x y place (is_turned e place x.reach) → place ≡ None
            → Goes place (is_turned e place x.reach) (reach_after e place x.reach)
        nothing None takes is =
            let v = subst (λ (l : Option ℕ). IsSought (lanes_of c) trace h.came l place ls)
            (none_shown a c past e there) w in
            hidden_on o c trace past e x ls y h was k there v.1 takes
        nothing (Some p) takes is = absurd (let f : Some p ≡ None = is in cc)
    seen_on place w takes (Some s) there = by (is_aside a s) refl
      where
        aside : is_aside a s ≡ true → (place : Option ℕ)
            → Takes o c trace past e x y place (is_turned e place x.reach) → place ≡ None
            → Goes place (is_turned e place x.reach) (reach_after e place x.reach)
        aside is None takes none =
            let v = subst (λ (l : Option ℕ). IsSought (lanes_of c) trace h.came l place ls)
            (aside_shown a c past e s there is) w in
            aside_on o c trace past e x ls y h was k s there is v.1 takes
        aside is (Some p) takes none = absurd (let f : Some p ≡ None = none in cc)

        by : (b : Bool) → is_aside a s ≡ b → Goes place (is_turned e place x.reach) (reach_after e place x.reach)
        by true is =
            let v = subst (λ (l : Option ℕ). IsSought (lanes_of c) trace h.came l place ls)
            (aside_shown a c past e s there is) w in
            aside is place takes v.0
        by false is =
            own_on s there is place
            (subst (λ (l : Option ℕ). IsSought (lanes_of c) trace h.came l place ls) (own_shown a c past e s there is).0
            w) takes

  pub alike_on : (place : Option ℕ) → x.unlike ≡ None → Looked place
      → Takes o c trace past e x y place (is_turned e place x.reach)
      → Goes place (is_turned e place x.reach) (reach_after e place x.reach)
  alike_on place alike looked takes = by x.compared.bad refl
    where
      by : (b : Option ℕ) → x.compared.bad ≡ b → Goes place (is_turned e place x.reach) (reach_after e place x.reach)
      by (Some k) is =
          bad_on o c trace past e x ls y h place (is_turned e place x.reach) k (reach_after e place x.reach)
          (place_or place (length trace) + 1) (turned_or (is_turned e place x.reach) y.unlike) is takes
      by None is =
          let k = subst (λ u. IsSoFar o c trace (observed c past) h.came x u) alike (h.so_far is) in
          seen_on is k place (subst (λ b. IsSought (lanes_of c) trace h.came (lane_sought b e) place ls) h.apart
          (looked h.came k.places)) takes (shown c past e) refl

  -- where something differs already
  pub unlike_on : (place : Option ℕ) (b : Bool) → is_some x.unlike ≡ true → Takes o c trace past e x y place b
      → IsDelayedTo o c trace (e ∷ past) (After x ls y x.reach x.number x.unlike)
  unlike_on place b some takes = by x.unlike refl
    where
      by : (u : Option Difference) → x.unlike ≡ u
          → IsDelayedTo o c trace (e ∷ past) (After x ls y x.reach x.number x.unlike)
      by None is = absurd (let f : false ≡ true = sym (ap is_some is) ∙ some in cc)
      by (Some d) is = differs_on o c trace past e x ls y h place b d is takes

-- ---- by what the code asks

pub or_place : (p : Option ℕ) (n : ℕ) → unwrap_or p n ≡ place_or p n
or_place None n = refl
or_place (Some p) n = refl

pub some_lanes : (c : ConfigNumbers) → 0 < lanes_of c
some_lanes c = omega arith
