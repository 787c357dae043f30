-- What a poll of a host tells, and a release that it begins; and that the host stays one of its disk's.
use Rattle.std.proofs.Common.{Bool, Err, List, None, Ok, Option, Result, Some, ap, false, inl, inr, not, refl}
use Rattle.std.proofs.Common.{subst, sym, true, ℕ, ◌∙◌, ◌≡◌, ◌⊎◌}
use Rattle.std.specs.Prelude.{MatchOption, map, slice_get, slice_set, ⊤}
use Rattle.std.proofs.lemmas.List.{length-map, map-set}
use Rattle.nvme_model.specs.declared.array.Range.{Range}
use Rattle.nvme_model.specs.declared.config.ConfigNumbers.{ConfigNumbers}
use Rattle.nvme_model.proofs.Cut.{clash}
use Rattle.driver_cas.specs.declared.fault.Fault.{Fault}
use Rattle.driver_cas.specs.contracts.shared_port.SharedPortPort.TheImpl.{ghosts}
use Rattle.driver_cas.specs.declared.shared_port.SharedPort.{SharedPort}
use Rattle.slot_alloc.specs.Areas.{slot_of}
use Rattle.slot_alloc.specs.Releases.{released_by}
use Rattle.slot_alloc.specs.SlotRules.{KeepsSlotRules}
use Rattle.slot_alloc.specs.declared.claim.Claim.{Claim}
use Rattle.slot_alloc.specs.declared.claim.KeptClaim.{KeptClaim}
use Rattle.slot_alloc.specs.declared.progress.Progress.{Progress}
use Rattle.slot_alloc.specs.declared.progress.Released.{Released}
use Rattle.slot_alloc.specs.declared.release.Releasing.{Releasing}
use Rattle.slot_host.specs.Begins.{ReleaseTells, ReleaseTold, is_held, is_hold, is_under_way, release_bar}
use Rattle.slot_host.specs.Begins.{or_bar, released_holds, slot_bar}
use Rattle.slot_host.specs.HostPolls.{CallPolls, ClaimPolls, HostPolls, IsLeft, Left, ReleasePolls, claim_left}
use Rattle.slot_host.specs.HostPolls.{release_left}
use Rattle.slot_host.specs.SlotStates.{AreHolds, IsHoldAt, IsUnderWay, SlotState}
use Rattle.slot_host.specs.declared.hold.Hold.{Hold}
use Rattle.slot_host.specs.declared.not_begun.NotBegun.{NotBegun}
use Rattle.slot_host.specs.declared.slot_told.SlotTold.{SlotTold}
use Rattle.slot_host.specs.declared.under_way.UnderWay.{UnderWay}
use Rattle.work_queue.specs.declared.engine.Engine.{Engine}
use Rattle.slot_disk.specs.Asks.{IsAskedOf, IsPolledOf, after_poll, release_fault, releasing}
use Rattle.slot_disk.specs.Hosts.{IsHostState, is_plain, state_view}
use Rattle.slot_disk.specs.Views.{HostView}
use Rattle.slot_disk.proofs.Calls.{GoesOn, idle_release, release_bar_is, state_on}

-- a call that isn't barred is about a slot that the host has
not_held : (b : Option NotBegun) (had : Bool) → or_bar b (not had) NotBegun.NotHeld ≡ None → had ≡ true
not_held (Some n) had h = absurd (let a : Some n ≡ None = h in cc)
not_held None true h = refl
not_held None false h = absurd (let a : Some NotBegun.NotHeld ≡ None = h in cc)

-- ---- a release

-- a hold is a claim, where nothing was taken over
claimed : (h : SlotState SharedPort ghosts) (i : ℕ) → AreHolds h.driver h.took_over h.holds → h.took_over ≡ false
    → release_bar h i ≡ None → (k : KeptClaim) × (slice_get h.holds i ≡ Some (Hold.Claimed k))
claimed h i holds fresh free = go (slice_get h.holds i) refl
    (not_held (slot_bar h.under_way h.holds i) (is_held (slice_get h.holds i)) free)
  where
    go : (o : Option Hold) → slice_get h.holds i ≡ o → is_held o ≡ true
        → (k : KeptClaim) × (slice_get h.holds i ≡ Some (Hold.Claimed k))
    go None e had = clash false had refl
    go (Some Hold.Nothing) e had = clash false had refl
    go (Some (Hold.Claimed k)) e had = (k, e)
    go (Some (Hold.TakenOver k)) e had = clash h.took_over (holds i (Hold.TakenOver k) e).1 fresh

release_view : (h j : SlotState SharedPort ghosts) (i : ℕ) (r : Result (Releasing SharedPort) (Claim × Fault))
    (told : Result ⊤ NotBegun) → ReleaseTold UnderWay.Release r told j.under_way
    → j.holds ≡ released_holds h.holds i r → is_under_way h.under_way ≡ false
    → ((told ≡ Ok tt) × (state_view j ≡ releasing i (state_view h)))
    ⊎ ((f : Fault) × (told ≡ Err (NotBegun.Fault f)) × (state_view j ≡ state_view h))
release_view h j i (Ok k) told t same idle =
    inl (
      t.0,
      (λ m. record { calls = is_under_way (t.1 m); has = map is_hold (same m) })
          ∙ (λ m. record { calls = true; has = map-set is_hold h.holds i Hold.Nothing m }),
    )
release_view h j i (Err f) told t same idle =
    inr (
      f.1,
      t.0,
      (λ m. record { calls = is_under_way (t.1 m); has = map is_hold (same m) })
          ∙ (λ m. record { calls = sym idle m; has = map is_hold h.holds }),
    )

plain_release : (u : UnderWay SharedPort ghosts) (r : Result (Releasing SharedPort) (Claim × Fault))
    (told : Result ⊤ NotBegun) → ReleaseTold UnderWay.Release r told u → is_plain u ≡ true
plain_release u (Ok k) told t = ap is_plain t.1
plain_release u (Err f) told t = ap is_plain t.1

pub release_asked : (h j : SlotState SharedPort ghosts) (i : ℕ) (told : Result ⊤ NotBegun)
    → AreHolds h.driver h.took_over h.holds → h.took_over ≡ false → ReleaseTells h j i told
    → IsAskedOf (release_fault i) (releasing i) (state_view h) (state_view j) told
release_asked h j i told holds fresh x =
    record {
      barred = λ n e. let y = x.barred n (sym (release_bar_is h i) ∙ e) in (y.0, ap state_view y.1);
      asked = λ e.
          let free = sym (release_bar_is h i) ∙ e in
          let k = claimed h i holds fresh free in
          let y = x.releases k.0 free k.1 in
          release_view h j i y.answer told y.told_is y.holds_are (idle_release i (state_view h) e);
    }

pub release_state : (eng : Engine) (c : ConfigNumbers) (slots : Range) (n : ℕ) (h j : SlotState SharedPort ghosts)
    (i : ℕ) (told : Result ⊤ NotBegun) → AreHolds h.driver h.took_over h.holds → IsHostState eng c slots n h
    → GoesOn c slots n h.driver j.driver → (j.took_over ≡ false → KeepsSlotRules j.driver) → ReleaseTells h j i told
    → IsHostState eng c slots n j
release_state eng c slots n h j i told holds x law rules tells = go (release_bar h i) refl
  where
    go : (b : Option NotBegun) → release_bar h i ≡ b → IsHostState eng c slots n j
    go (Some why) e = subst (IsHostState eng c slots n) (sym (tells.barred why e).1) x
    go None e =
        let k = claimed h i holds x.fresh e in
        let y = tells.releases k.0 e k.1 in
        state_on eng c slots n h j x y.goes_on.later
        (law (released_by h.driver k.0.claim y.answer) y.goes_on (rules (y.same.1 ∙ x.fresh)) x.host) y.same.1
        (plain_release j.under_way y.answer told y.told_is)

-- ---- a poll

-- what a poll of a claim leaves, and of a release
left_claim : (v : HostView) (holds : List Hold) (p : Progress SharedPort ghosts)
    → v ≡ record { calls = true; has = map is_hold holds }
    → record { calls = is_under_way (claim_left holds p).call; has = map is_hold (claim_left holds p).holds }
    ≡ after_poll (claim_left holds p).told v
left_claim v holds (Progress.Pending k) e = sym e
left_claim v holds (Progress.Later f k) e = sym e
left_claim v holds (Progress.Held c) e =
    (λ m. record {
      calls = false;
      has = map-set is_hold holds (slot_of c) (Hold.Claimed (record { claim = c })) m;
    })
    ∙ (λ m. record { calls = false; has = slice_set (sym e m).has (slot_of c) true })
left_claim v holds Progress.Taken e = λ m. record { calls = false; has = (sym e m).has }
left_claim v holds Progress.AllTaken e = λ m. record { calls = false; has = (sym e m).has }
left_claim v holds (Progress.Failed f) e = λ m. record { calls = false; has = (sym e m).has }

left_release : (v : HostView) (holds : List Hold) (p : Released SharedPort)
    → v ≡ record { calls = true; has = map is_hold holds }
    → record {
      calls = is_under_way (release_left {g = ghosts} holds p).call;
      has = map is_hold (release_left {g = ghosts} holds p).holds;
    }
    ≡ after_poll (release_left {g = ghosts} holds p).told v
left_release v holds (Released.Pending k) e = sym e
left_release v holds (Released.Later f k) e = sym e
left_release v holds Released.Released e = λ m. record { calls = false; has = (sym e m).has }
left_release v holds (Released.Failed f) e = λ m. record { calls = false; has = (sym e m).has }

-- what is left is what is seen then
seen_left : (j : SlotState SharedPort ghosts) (l : Left SharedPort ghosts) (told : SlotTold) (v : HostView)
    → IsLeft l told j.under_way j.holds
    → record { calls = is_under_way l.call; has = map is_hold l.holds } ≡ after_poll l.told v
    → state_view j ≡ after_poll told v
seen_left j l told v x e =
    (λ m. record { calls = is_under_way (x.call_is m); has = map is_hold (x.holds_are m) })
    ∙ (e ∙ (λ m. after_poll (sym x.told_is m) v))

plain_left : (holds : List Hold) (p : Progress SharedPort ghosts) → is_plain (claim_left holds p).call ≡ true
plain_left holds (Progress.Pending k) = refl
plain_left holds (Progress.Later f k) = refl
plain_left holds (Progress.Held c) = refl
plain_left holds Progress.Taken = refl
plain_left holds Progress.AllTaken = refl
plain_left holds (Progress.Failed f) = refl

plain_released : (holds : List Hold) (p : Released SharedPort)
    → is_plain (release_left {g = ghosts} holds p).call ≡ true
plain_released holds (Released.Pending k) = refl
plain_released holds (Released.Later f k) = refl
plain_released holds Released.Released = refl
plain_released holds (Released.Failed f) = refl

-- What is told of a host that was polled.
pub record Polled (eng : Engine) (c : ConfigNumbers) (slots : Range) (n : ℕ) (h j : SlotState SharedPort ghosts)
    (told : Option SlotTold) : Type 0 where
  pub state : IsHostState eng c slots n j
  pub told_of : IsPolledOf (state_view h) (state_view j) told

-- a claim, or a release, that told this
some_told : (eng : Engine) (c : ConfigNumbers) (slots : Range) (n : ℕ) (h j : SlotState SharedPort ghosts)
    (t : SlotTold)
    → IsHostState eng c slots n j → is_under_way h.under_way ≡ true → state_view j ≡ after_poll t (state_view h)
    → Polled eng c slots n h j (Some t)
some_told eng c slots n h j t state calls e =
    record {
      state = state;
      told_of = record { idle = λ f. clash (is_under_way h.under_way) calls f; polled = λ f. (t, refl, e) };
    }

module _ (eng : Engine) (c : ConfigNumbers) (slots : Range) (n : ℕ) (h j : SlotState SharedPort ghosts)
    (x : IsHostState eng c slots n h) (law : GoesOn c slots n h.driver j.driver)
    (rules : j.took_over ≡ false → KeepsSlotRules j.driver) (call : IsUnderWay h.driver h.took_over h.under_way) where
  by_claim : (k : _) (told : Option SlotTold) → h.under_way ≡ UnderWay.Claim k
      → MatchOption told ⊥ (ClaimPolls h j k) → Polled eng c slots n h j told
  by_claim k None u p = absurd p
  by_claim k (Some t) u p =
      some_told eng c slots n h j t
      (state_on eng c slots n h j x p.goes_on.later
      (law None p.goes_on (rules (p.same.1 ∙ x.fresh)) x.host) p.same.1
      (ap is_plain p.left.call_is ∙ plain_left h.holds p.progress))
      (ap is_under_way u)
      (seen_left j (claim_left h.holds p.progress) t (state_view h) p.left
      (left_claim (state_view h) h.holds p.progress
      (λ m. record { calls = is_under_way (u m); has = map is_hold h.holds })))

  by_release : (k : Releasing SharedPort) (told : Option SlotTold) → h.under_way ≡ UnderWay.Release k
      → MatchOption told ⊥ (ReleasePolls h j k) → Polled eng c slots n h j told
  by_release k None u p = absurd p
  by_release k (Some t) u p =
      some_told eng c slots n h j t
      (state_on eng c slots n h j x p.goes_on.later
      (law None p.goes_on (rules (p.same.1 ∙ x.fresh)) x.host) p.same.1
      (ap is_plain p.left.call_is ∙ plain_released h.holds p.released))
      (ap is_under_way u)
      (seen_left j (release_left h.holds p.released) t (state_view h) p.left
      (left_release (state_view h) h.holds p.released
      (λ m. record { calls = is_under_way (u m); has = map is_hold h.holds })))

  by_call : (u : UnderWay SharedPort ghosts) (told : Option SlotTold) → h.under_way ≡ u → CallPolls h j u told
      → Polled eng c slots n h j told
  by_call UnderWay.Nothing told e p =
      record {
        state = subst (IsHostState eng c slots n) (sym p.1) x;
        told_of = record {
          idle = λ f. (p.0, ap state_view p.1);
          polled = λ f. clash (is_under_way h.under_way) f (ap is_under_way e);
        };
      }
  by_call (UnderWay.Claim k) told e p = by_claim k told e p
  by_call (UnderWay.Release k) told e p = by_release k told e p
  by_call (UnderWay.Takeover k) told e p = clash (is_plain h.under_way) x.plain (ap is_plain e)
  by_call (UnderWay.Holder k) told e p = clash (is_plain h.under_way) x.plain (ap is_plain e)

  pub polled : (told : Option SlotTold) → HostPolls h j told → Polled eng c slots n h j told
  polled told p = by_call h.under_way told refl p
