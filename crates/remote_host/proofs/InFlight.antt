-- The calls of one driver that are in flight: after a start, after a poll, and after nothing.
use Rattle.std.proofs.Common.{Result, ap, inl, inr, subst, sym, ℕ, ◌∙◌, ◌≡◌, ◌⊎◌}
use Rattle.std.specs.Prelude.{Err, None, Ok, Option, Some, ◌≢◌}
use Rattle.std.proofs.lemmas.Bool.{cases_Bool, cases_eq}
use Rattle.nvme_model.proofs.Cut.{clash}
use Rattle.plain_lemmas.proofs.Options.{some_one}
use Rattle.slab.specs.Slab.{HasRoomFor, SameValues, Slab, Updates, get}
use Rattle.driver_calls.specs.declared.request.CallData.{CallData}
use Rattle.driver_calls.specs.declared.request.Request.{Request}
use Rattle.driver_cas.specs.Drivers.{IsBack, IsCallBack, IsCallOf, IsSameDriver, SharesNoCid}
use Rattle.driver_cas.specs.Driving.{call_given_back}
use Rattle.driver_cas.specs.Requests.{IsStart}
use Rattle.driver_cas.specs.Tables.{is_its_cid}
use Rattle.driver_cas.specs.declared.call.Call.{Call}
use Rattle.driver_cas.specs.declared.call.Poll.{Poll}
use Rattle.driver_cas.specs.declared.driver.Driver.{Driver}
use Rattle.driver_cas.specs.declared.fault.Fault.{Fault}
use Rattle.driver_cas.specs.declared.port.Port.{Ghosts}
use Rattle.driver_cas.proofs.Starting.{start_keeps}
use Rattle.remote_host.specs.Calls.{AreCallsOf, IsKept, IsPutBack}

pub none_some : {A : Type 0} {x : A} → None ≡ Some x → ⊥
none_some h = let a = h in cc

-- what is under a number after an update: it is the one that was updated, or that before
pub under : {A : Type 0} (old new : Slab A) (n : ℕ) (o : Option A) → Updates old new n o → (m : ℕ) (x : A)
    → get new m ≡ Some x → ((m ≡ n) × (o ≡ Some x)) ⊎ ((m ≢ n) × (get old m ≡ Some x))
under {A} old new n o u m x is =
    elim (cases_eq m n) [
      | inl e ↦ inl (e, sym u.changed ∙ ap (λ (i : ℕ). get new i) (sym e) ∙ is)
      | inr ne ↦ inr (ne, sym (u.others m ne) ∙ is)
    ]

module _ {P : Type 0} where
  pub apart_back : (k j : Call P) → SharesNoCid k j → SharesNoCid j k
  apart_back k j h q cid its = elim (cases_Bool (is_its_cid k.op k.queue k.first k.second q cid)) [
    | inr e ↦ e
    | inl e ↦ clash (is_its_cid j.op j.queue j.first j.second q cid) its (h q cid e)
  ]

  -- the numbers of calls before room was made for one more
  pub kept_from : (old mid new : Slab (Call P)) (r : Result (Call P) Fault) (t : Result ℕ Fault) → SameValues old mid
      → IsKept mid new r t → IsKept old new r t
  kept_from old mid new (Ok k) (Ok n) same h =
      record {
        free = sym (same n) ∙ h.free;
        added = record { changed = h.added.changed; others = λ m ne. h.added.others m ne ∙ same m };
      }
  kept_from old mid new (Err f) (Err e) same h = (h.0, λ n. h.1 n ∙ same n)
  kept_from old mid new (Ok k) (Err e) same h = absurd h
  kept_from old mid new (Err f) (Ok n) same h = absurd h

  -- the numbers of calls after one was taken out, and put back where its poll gave it back
  pub put_back_at : (old mid new : Slab (Call P)) (n : ℕ) (poll : Poll P) → Updates old mid n None
      → mid.vacant_key ≡ n → IsPutBack mid new poll → Updates old new n (call_given_back poll)
  put_back_at old mid new n (Poll.Pending k) out at h =
      let x = subst (λ (i : ℕ). Updates mid new i (Some k)) at h in
      record { changed = x.changed; others = λ m ne. x.others m ne ∙ out.others m ne }
  put_back_at old mid new n (Poll.Later f k) out at h =
      let x = subst (λ (i : ℕ). Updates mid new i (Some k)) at h in
      record { changed = x.changed; others = λ m ne. x.others m ne ∙ out.others m ne }
  put_back_at old mid new n (Poll.Done r) out at h = subst (λ (s : Slab (Call P)). Updates old s n None) (sym h) out
  put_back_at old mid new n (Poll.Failed f) out at h = subst (λ (s : Slab (Call P)). Updates old s n None) (sym h) out

  -- a call that didn't come back left room for another
  pub room_left : (mid new : Slab (Call P)) (poll : Poll P) → HasRoomFor mid 1 → IsPutBack mid new poll
      → call_given_back poll ≡ None → HasRoomFor new 1
  room_left mid new (Poll.Pending k) room h is = absurd (none_some (sym is))
  room_left mid new (Poll.Later f k) room h is = absurd (none_some (sym is))
  room_left mid new (Poll.Done r) room h is = subst (λ (s : Slab (Call P)). HasRoomFor s 1) (sym h) room
  room_left mid new (Poll.Failed f) room h is = subst (λ (s : Slab (Call P)). HasRoomFor s 1) (sym h) room

  -- the call that comes back is the one that was polled
  pub same_back : (k j : Call P) (poll : Poll P) → IsBack k poll → call_given_back poll ≡ Some j → j ≡ k
  same_back k j (Poll.Pending i) back is = sym (some_one i j is) ∙ back
  same_back k j (Poll.Later f i) back is = sym (some_one i j is) ∙ back.0
  same_back k j (Poll.Done r) back is = absurd (none_some is)
  same_back k j (Poll.Failed f) back is = absurd (none_some is)

module _ {P : Type 0} {g : Ghosts P} where
  -- all calls stay
  pub all_stay : (d e : Driver P g) (old new : Slab (Call P)) → ((k : Call P) → IsCallOf d k → IsCallOf e k)
      → SameValues old new → AreCallsOf d old → AreCallsOf e new
  all_stay d e old new stay same h =
      record {
        all = λ n k is. stay k (h.all n k (sym (same n) ∙ is));
        apart = λ m n j k ne x y. h.apart m n j k ne (sym (same m) ∙ x) (sym (same n) ∙ y);
      }

  -- what is under one number changes: that is a call of the driver too, apart from all others, which stay
  one_changes : (d e : Driver P g) (old new : Slab (Call P)) (n : ℕ) (o : Option (Call P)) → Updates old new n o
      → AreCallsOf d old → ((k : Call P) → o ≡ Some k → IsCallOf e k)
      → ((m : ℕ) (j : Call P) → m ≢ n → get old m ≡ Some j
      → IsCallOf e j × ((k : Call P) → o ≡ Some k → SharesNoCid k j))
      → AreCallsOf e new
  one_changes d e old new n o u h new_one others =
      record {
        all = λ m j is. elim (under old new n o u m j is) [
          | inl x ↦ new_one j x.1
          | inr x ↦ (others m j x.0 x.1).0
        ];
        apart = λ l m i j ne x y. elim (under old new n o u l i x) [
          | inl a ↦ elim (under old new n o u m j y) [
            | inl b ↦ absurd (ne (a.0 ∙ sym b.0))
            | inr b ↦ (others m j b.0 b.1).1 i a.1
          ]
          | inr a ↦ elim (under old new n o u m j y) [
            | inl b ↦ apart_back j i ((others l i a.0 a.1).1 j b.1)
            | inr b ↦ h.apart l m i j ne a.1 b.1
          ]
        ];
      }

  -- a call was started, or not
  pub after_start : ((a b c : P) → g.follows a b → g.follows b c → g.follows a c) → (d e : Driver P g)
      (asked : Result Request Fault) (contents : CallData) (old new : Slab (Call P)) (r : Result (Call P) Fault)
      (t : Result ℕ Fault) → IsSameDriver d e → g.follows d.port e.port → IsStart d e asked contents r
      → IsKept old new r t → AreCallsOf d old → AreCallsOf e new
  after_start on d e asked contents old new (Ok k) (Ok n) same later s kept h =
      let x = start_keeps g on d e asked contents (Ok k) same later s in
      one_changes d e old new n (Some k) kept.added h
      (λ j is. subst (λ (c : Call P). IsCallOf e c) (some_one k j is) x.0)
      (λ m j ne is. (
        (x.1 j (h.all m j is)).0,
        λ i one. subst (λ (c : Call P). SharesNoCid c j) (some_one k i one) (x.1 j (h.all m j is)).1,
      ))
  after_start on d e asked contents old new (Err f) (Err t) same later s kept h =
      let x = start_keeps g on d e asked contents (Err f) same later s in
      all_stay d e old new (λ k of. (x.1 k of).0) kept.1 h
  after_start on d e asked contents old new (Ok k) (Err t) same later s kept h = absurd kept
  after_start on d e asked contents old new (Err f) (Ok n) same later s kept h = absurd kept

  came_back : (e : Driver P g) (poll : Poll P) → IsCallBack e poll → (j : Call P) → call_given_back poll ≡ Some j
      → IsCallOf e j
  came_back e (Poll.Pending k) of j is = subst (λ (c : Call P). IsCallOf e c) (some_one k j is) of
  came_back e (Poll.Later f k) of j is = subst (λ (c : Call P). IsCallOf e c) (some_one k j is) of
  came_back e (Poll.Done r) of j is = absurd (none_some is)
  came_back e (Poll.Failed f) of j is = absurd (none_some is)

  -- the call with this number was polled
  pub after_poll : (d e : Driver P g) (k : Call P) (poll : Poll P) (old new : Slab (Call P)) (n : ℕ)
      → get old n ≡ Some k → IsBack k poll → IsCallBack e poll
      → ((other : Call P) → IsCallOf d other → SharesNoCid k other → IsCallOf e other)
      → Updates old new n (call_given_back poll) → AreCallsOf d old → AreCallsOf e new
  after_poll d e k poll old new n at back stays others u h =
      one_changes d e old new n (call_given_back poll) u h (λ j is. came_back e poll stays j is)
      (λ m j ne is. (
        others j (h.all m j is) (h.apart n m k j (λ x. ne (sym x)) at is),
        λ i one. subst (λ (c : Call P). SharesNoCid c j) (sym (same_back k i poll back one))
            (h.apart n m k j (λ x. ne (sym x)) at is),
      ))

  -- the call with this number is one of them no more
  pub one_less : (d : Driver P g) (old new : Slab (Call P)) (n : ℕ) → Updates old new n None → AreCallsOf d old
      → AreCallsOf d new
  one_less d old new n u h =
      one_changes d d old new n None u h (λ k is. absurd (none_some is))
      (λ m j ne is. (h.all m j is, λ k one. absurd (none_some one)))
