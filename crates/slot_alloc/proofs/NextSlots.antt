-- Where the claim of a slot was lost: the next slot, or that all are taken.
use Rattle.std.proofs.Common.{List, None, Some, [], arith, inl, inr, length, refl, subst}
use Rattle.std.proofs.Common.{suc, sym, ℕ, ◌+◌, ◌++◌, ◌∙◌, ◌∷◌, ◌≡◌, ◌≢◌, ◌⊎◌, ap, zero}
use Rattle.std.proofs.lemmas.List.{length-append}
use Rattle.std.specs.List.{slice_get}
use Rattle.std.specs.Prelude.{Err, Ok, Result}
use Rattle.std.specs.declared.snapshot.Snapshot.{Snapshot}
use Rattle.plain_lemmas.proofs.Options.{some_one}
use Rattle.nvme_model.specs.declared.array.Range.{Range}
use Rattle.driver_calls.specs.declared.reply.Reply.{Reply}
use Rattle.driver_cas.specs.Drivers.{area_of}
use Rattle.driver_cas.specs.declared.call.Call.{Call}
use Rattle.driver_cas.specs.declared.driver.Driver.{Driver}
use Rattle.driver_cas.specs.declared.fault.Fault.{Fault}
use Rattle.driver_cas.specs.declared.port.Port.{Ghosts}
use Rattle.slot_alloc.specs.Areas.{block_of}
use Rattle.slot_alloc.specs.Claims.{AreTaken, ClaimSays, IsClaimingOf}
use Rattle.slot_alloc.specs.Claims.{claims_in, lower_of}
use Rattle.slot_alloc.specs.Progresses.{AreAllTaken, GoesToNext, IsEnded, IsHeldOn, IsLost, IsLostOn, IsNextClaim}
use Rattle.slot_alloc.specs.Progresses.{IsPolled}
use Rattle.slot_alloc.specs.Progresses.{told_of}
use Rattle.slot_alloc.specs.declared.claiming.Claiming.{Claiming}
use Rattle.slot_alloc.specs.declared.claiming.Lower.{Lower}
use Rattle.slot_alloc.specs.declared.claiming.Reach.{Reach}
use Rattle.slot_alloc.specs.declared.claiming.ClaimStage.{ClaimStage}
use Rattle.slot_alloc.specs.declared.progress.Progress.{Progress}

pub any_reach : (r : Reach) → r ≢ Reach.One → r ≡ Reach.Any
any_reach Reach.One h = absurd (h refl)
any_reach Reach.Any h = refl

-- one of a longer list is one of the shorter, or the last
last_or_lower : {A : Type 0} (xs : List A) (x y : A) (i : ℕ) → slice_get (xs ++ x ∷ []) i ≡ Some y
    → (slice_get xs i ≡ Some y) ⊎ ((length xs ≡ i) × (x ≡ y))
last_or_lower [] x y zero h = inr (refl, some_one x y h)
last_or_lower [] x y (suc i) h = absurd (let e : None ≡ Some y = h in cc)
last_or_lower (z ∷ xs) x y zero h = inl h
last_or_lower (z ∷ xs) x y (suc i) h = elim (last_or_lower xs x y i h) [
  | inl a ↦ inl a
  | inr b ↦ inr (ap (λ (n : ℕ). suc n) b.0, b.1)
]

one_more : {A : Type 0} (xs : List A) (x : A) (n : ℕ) → length xs ≡ n → length (xs ++ x ∷ []) ≡ n + 1
one_more xs x n is = length-append xs (x ∷ []) ∙ ap (λ (m : ℕ). m + 1) is

module _ {P : Type 0} (g : Ghosts P) where
  taken_more : (d began : Driver P g) (n : ℕ) (claims : List (Call P × ℕ)) (call : Call P) (serial : ℕ)
      → AreTaken d began n claims → ClaimSays d began (block_of (area_of d) n) call serial (Ok Reply.Differs)
      → AreTaken d began (n + 1) (claims ++ (call, serial) ∷ [])
  taken_more d began n claims call serial below here =
      record {
        count = one_more claims (call, serial) n below.count;
        says = λ i c there. elim (last_or_lower claims (call, serial) c i there) [
          | inl before ↦ below.says i c before
          | inr last ↦
              let at : n ≡ i = sym below.count ∙ last.0 in
              subst (λ (z : ℕ × (Call P × ℕ)).
              ClaimSays d began (block_of (area_of d) z.0) z.1.0 z.1.1 (Ok Reply.Differs)) (λ j. (at j, last.1 j))
              here
        ];
      }

  pub all_taken : (d : Driver P g) (k : Claiming P g) (call : Call P) (serial : ℕ) → IsLost d k call serial
      → k.reach ≡ Reach.Any → k.slot + 1 ≡ k.slots.count → AreAllTaken d k call serial
  all_taken d k call serial lost any last = (
    any,
    subst (λ (n : ℕ). AreTaken d k.began.value n (lower_of k ++ (call, serial) ∷ []))
        (last ∙ ap (λ (r : Range). r.blocks) (sym lost.area_is))
        (taken_more d k.began.value k.slot (lower_of k) call serial (lost.lower any) lost.taken),
  )

  pub next_claiming : (d : Driver P g) (k : Claiming P g) (call : Call P) (serial : ℕ) (more : Snapshot (Lower P))
      → IsLost d k call serial → k.reach ≡ Reach.Any → k.slot + 1 ≢ k.slots.count
      → claims_in more.value ≡ lower_of k ++ (call, serial) ∷ []
      → IsClaimingOf d (record {
        slots = k.slots;
        reach = k.reach;
        slot = k.slot + 1;
        stage = ClaimStage.Due;
        began = k.began;
        lower = more;
      })
  next_claiming d k call serial more lost any room is =
      let inside = lost.inside in
      record {
        area_is = lost.area_is;
        inside = omega (arith, inside, room);
        since = lost.since;
        at = any;
        lower = λ y.
            subst (λ (claims : List (Call P × ℕ)). AreTaken d k.began.value (k.slot + 1) claims) (sym is)
            (taken_more d k.began.value k.slot (lower_of k) call serial (lost.lower any) lost.taken);
      }

  pub next_of : (d : Driver P g) (k : Claiming P g) (call : Call P) (serial : ℕ) (more : Snapshot (Lower P))
      → IsLost d k call serial → k.reach ≡ Reach.Any → k.slot + 1 ≢ k.slots.count
      → claims_in more.value ≡ lower_of k ++ (call, serial) ∷ []
      → IsNextClaim k (record {
        slots = k.slots;
        reach = k.reach;
        slot = k.slot + 1;
        stage = ClaimStage.Due;
        began = k.began;
        lower = more;
      }) call serial
  next_of d k call serial more lost any room is =
      let inside = lost.inside in
      record {
        any = any;
        slots = refl;
        reach = refl;
        slot = refl;
        inside = omega (arith, inside, room);
        began = refl;
        lower = is;
      }

  -- where the claim of the slot at hand was lost nothing is held yet
  pub lost_held : (d e : Driver P g) (k : Claiming P g) (call : Call P) (serial : ℕ) (r : Progress P g)
      → IsLostOn d e k call serial r → IsHeldOn e r
  lost_held d e k call serial r on = elim on [
    | inl taken ↦ subst (λ (x : Progress P g). IsHeldOn e x) (sym taken.0) tt
    | inr more ↦ elim more [
      | inl all ↦ subst (λ (x : Progress P g). IsHeldOn e x) (sym all.0) tt
      | inr next ↦ subst (λ (x : Progress P g). IsHeldOn e x) (sym next.2.told) (told_held next.0 next.2.start)
    ]
  ]
    where
      told_held : (j : Claiming P g) (start : Result (Call P × ℕ) Fault) → IsHeldOn e (told_of j start)
      told_held j (Ok x) = tt
      told_held j (Err Fault.RingFull) = tt
      told_held j (Err Fault.NoSerial) = tt
      told_held j (Err Fault.Busy) = tt
      told_held j (Err Fault.NoMemory) = tt
      told_held j (Err Fault.Length) = tt
      told_held j (Err Fault.TooLong) = tt
      told_held j (Err (Fault.Status s)) = tt
      told_held j (Err Fault.SlotArea) = tt

  -- what a poll gives then
  pub polled_lost : (d e f : Driver P g) (k : Claiming P g) (call : Call P) (serial : ℕ) (r : Progress P g)
      → IsEnded d e k call serial (Ok Reply.Differs)
      → IsLostOn e f (record {
        slots = k.slots;
        reach = k.reach;
        slot = k.slot;
        stage = ClaimStage.Due;
        began = k.began;
        lower = k.lower;
      }) call serial r → IsPolled d f k call serial r
  polled_lost d e f k call serial r ended on = elim on [
    | inl taken ↦ subst (λ (x : Progress P g). IsPolled d f k call serial x) (sym taken.0) (taken.2, same taken.1)
    | inr more ↦ elim more [
      | inl all ↦ subst (λ (x : Progress P g). IsPolled d f k call serial x) (sym all.0)
          (same all.1, subst (λ (x : Driver P g). AreAllTaken x k call serial) (sym all.1) all.2)
      | inr next ↦
          let is : IsNextClaim k next.0 call serial =
          record {
            any = next.1.any;
            slots = next.1.slots;
            reach = next.1.reach;
            slot = next.1.slot;
            inside = next.1.inside;
            began = next.1.began;
            lower = next.1.lower;
          } in
          subst (λ (x : Progress P g). IsPolled d f k call serial x) (sym next.2.told)
          (told next.0 next.2.start
          (record {
            at = e;
            lost = ended;
            tries = (next.0, is, record { start = next.2.start; is = next.2.is; told = refl });
          }))
    ]
  ]
    where
      same : f ≡ e → IsEnded d f k call serial (Ok Reply.Differs)
      same is = subst (λ (x : Driver P g). IsEnded d x k call serial (Ok Reply.Differs)) (sym is) ended

      told : (j : Claiming P g) (start : Result (Call P × ℕ) Fault) → GoesToNext d f k call serial (told_of j start)
          → IsPolled d f k call serial (told_of j start)
      told j (Ok x) h = inr h
      told j (Err Fault.RingFull) h = inr h
      told j (Err Fault.NoSerial) h = h
      told j (Err Fault.Busy) h = inr h
      told j (Err Fault.NoMemory) h = inr h
      told j (Err Fault.Length) h = inr h
      told j (Err Fault.TooLong) h = inr h
      told j (Err (Fault.Status s)) h = inr h
      told j (Err Fault.SlotArea) h = inr h
