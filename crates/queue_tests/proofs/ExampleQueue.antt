-- A queue of two passes, decided by computing: pass 1 pushed 7 and then 8, and pass 2 has popped the first.
use Rattle.std.proofs.Common.{List, [], arith, cond, false, inl, inr, map, refl, subst, suc, true, zero, Bool, ℕ}
use Rattle.std.proofs.Common.{sym, true≢false, ◌-◌, ◌<◌, ◌==◌, ◌≡◌, ◌∷◌}
use mathlib.Core.Option.{some, some-injective, some-ne-none}
use lib.ListN.{get_elem?}
use Rattle.meet_lock.proofs.Views.{only_view}
use Rattle.work_queue.specs.Nowhere.{nowhere}
use Rattle.work_queue.specs.Queues.{Balanced, IsGiven, IsSeat, bound, numbered_messages, of_pusher}
use Rattle.work_queue.specs.declared.message.Popped.{Popped}
use Rattle.work_queue.specs.declared.message.QueueView.{QueueView}

-- a message of pass 1, by its number among that pass's pushes
abbrev message : ℕ → ℕ → Popped ℕ
message number item = record { pusher = 1; number = number; item = item }

abbrev first : Popped ℕ
first = message 1 7

abbrev second : Popped ℕ
second = message 2 8

-- what each pass knows
abbrev pushing : QueueView ℕ
pushing = record (bound nowhere 2 0 1) { put = 7 ∷ 8 ∷ [] }

abbrev popping : QueueView ℕ
popping = record (bound nowhere 2 1 2) { got = first ∷ [] }

-- what is so at both places of a list of two
of_two : {A : Type 0} (K : ℕ → A → Type 0) (x y : A) → K 0 x → K 1 y → (k : ℕ) (z : A)
    → get_elem? (x ∷ y ∷ []) k ≡ some z → K k z
of_two K x y a b zero z e = subst (K 0) (some-injective x z e) a
of_two K x y a b (suc zero) z e = subst (K 1) (some-injective y z e) b
of_two K x y a b (suc (suc k)) z e = absurd (some-ne-none z (sym e))

-- only the second is queued, and both passes know what they did
pub balanced : Balanced (λ _. nowhere) (λ _. Unit {0}) (8 ∷ []) (pushing ∷ popping ∷ [])
balanced =
    record {
      popped = (2, first) ∷ [];
      queued = second ∷ [];
      z = nowhere;
      passes = 2;
      top = 1;
      seat_of = λ n. n - 1;
      put_of = put_of;
      items_are = refl;
      all_of = λ k m e. (refl, tt);
      ordered = λ n. in_order (1 == n);
      pushers = of_two (λ k e. IsGiven 2 1 e.pusher) first second given given;
      poppers = only_view (λ k p. IsGiven 2 1 p.0) (2, first) (omega arith, inr refl);
      below = omega arith;
      each = of_two (λ j v. 0 < v.number → IsSeat ((2, first) ∷ []) nowhere 2 1 (λ n. n - 1) put_of j v) pushing popping
          (λ _. seat_of_first) (λ _. seat_of_last);
      told = of_two (λ j v. (k : ℕ) (e : Popped ℕ) → get_elem? v.told k ≡ some e
          → (i : ℕ) × (get_elem? (first ∷ []) i ≡ some e)) pushing popping
          (λ k e a. absurd (some-ne-none e (sym a))) (λ k e a. absurd (some-ne-none e (sym a)));
      alone = of_two (λ j v. v.is_bound ≡ false → ((2, first) ∷ [] ≡ []) × (second ∷ [] ≡ []) × (2 ≡ 1)) pushing popping
          (λ e. absurd (true≢false e)) (λ e. absurd (true≢false e));
    }
  where
    put_of : ℕ → List ℕ
    put_of n = cond (1 == n) (7 ∷ 8 ∷ []) []

    in_order : (b : Bool) → map (λ (e : Popped ℕ). (e.number, e.item))
        (cond b (first ∷ cond b (second ∷ []) []) (cond b (second ∷ []) []))
        ≡ numbered_messages 1 (cond b (7 ∷ 8 ∷ []) [])
    in_order true = refl
    in_order false = refl

    given : IsGiven 2 1 1
    given = (omega arith, inl (omega arith))

    seat_of_first : IsSeat ((2, first) ∷ []) nowhere 2 1 (λ n. n - 1) put_of 0 pushing
    seat_of_first = record {
      of = refl;
      many = refl;
      seat = refl;
      given = inl (omega arith);
      last = λ e. absurd (omega (arith, e));
      put = refl;
      got = refl;
    }

    seat_of_last : IsSeat ((2, first) ∷ []) nowhere 2 1 (λ n. n - 1) put_of 1 popping
    seat_of_last = record {
      of = refl;
      many = refl;
      seat = refl;
      given = inr refl;
      last = λ _. refl;
      put = refl;
      got = refl;
    }
