-- What is kept of what was seen, after one thing more.
use Rattle.std.proofs.Common.{◌≡◌, ℕ, zero, suc, ◌+◌, ◌-◌, ◌==◌, ◌≤◌, ◌&&◌, Bool, true, false, cond, List, [], ◌∷◌}
use Rattle.std.proofs.Common.{get_or, length, take, Option, Some, None, slice_get, refl, sym, ap, ◌∙◌, subst, arith}
use Rattle.std.proofs.Common.{inl, inr, ne_eqb}
use mathlib.Core.List.{reverse}
use Rattle.std.proofs.lemmas.Option.{get_or_from_slice_get, slice_get_within}
use Rattle.std.proofs.lemmas.List.{length-reverse, length-take-le, reverse-append, take_more}
use Rattle.nvme_model.specs.History.{Past}
use Rattle.nvme_model.specs.declared.config.ConfigNumbers.{ConfigNumbers}
use Rattle.nvme_model.specs.declared.entry.Entry.{Entry}
use Rattle.trace.specs.Aside.{in_turn, is_aside, none_seen, out_aside, own, out_after as with_this}
use Rattle.trace.specs.Observed.{next_payload, shown, with_shown}
use Rattle.trace.specs.Options.{Pointwise, ReadsAs}
use Rattle.trace.specs.declared.options.TraceOptions.{TraceOptions}
use Rattle.trace.specs.declared.seen.Seen.{Seen}
use Rattle.trace.proofs.Pointwise.{same_length}
use Rattle.witness_check.specs.Compared.{IsSeenTo, next_after, out_after, unlike_after}
use Rattle.witness_check.specs.Differing.{Differ, StandsFor}
use Rattle.witness_check.specs.Followed.{Compares}
use Rattle.witness_check.specs.Turns.{differs_at, is_aside_entry, new_next, new_out, out_with, turn_of}
use Rattle.witness_check.specs.declared.difference.Difference.{Difference}
use Rattle.witness_check.specs.declared.turn.Turn.{Turn}
use Rattle.witness_check.specs.declared.turn.Turn.TheVariants.{Aside, Late, Own}
use Rattle.witness_check.specs.declared.witness.Told.{Told}
use Rattle.witness_check.specs.declared.witness.Told.TheVariants.{Bad, Hidden, Same, Unlike}

-- one thing more of a list, from behind
pub one_there : (xs : List Seen) (i : ℕ) (x : Seen) → slice_get xs i ≡ Some x
    → reverse (take (i + 1) xs) ≡ x ∷ reverse (take i xs)
one_there xs i x e =
    ap reverse (take_more xs i x (slice_get_within xs i x e))
    ∙ reverse-append (take i xs) (get_or xs i x ∷ [])
    ∙ ap (λ y. y ∷ reverse (take i xs)) (get_or_from_slice_get xs i x x e)

-- no line was seen yet, where the trace says its first thing next
none_yet : (o : TraceOptions) (seen trace : List Seen) (n : ℕ) → n ≤ length trace
    → Pointwise (ReadsAs o) seen (reverse (take n trace)) → none_seen seen ≡ (n + 1 == 1)
none_yet o seen trace n few h =
    by seen n (same_length (ReadsAs o) seen (reverse (take n trace)) h ∙ length-reverse (take n trace)
    ∙ length-take-le n trace few)
  where
    by : (xs : List Seen) (k : ℕ) → length xs ≡ k → none_seen xs ≡ (k + 1 == 1)
    by [] zero e = refl
    by [] (suc k) e = absurd (omega (arith, e))
    by (x ∷ xs) zero e = absurd (omega (arith, e))
    by (x ∷ xs) (suc k) e = sym (ne_eqb (suc k + 1) 1 (λ z. omega (arith, z)))

-- what is told of something that hosts see, where the trace says this next
abbrev At : TraceOptions → Seen → Option Seen → Option Difference → Type 0
At o s next None = (t : Seen) × (next ≡ Some t) × ReadsAs o s t
At o s next (Some d) = Differ o (Some s) next d

-- the number of what the trace says next, and how many commands are out, at something whose turn this is
abbrev next_at : Turn → Option Difference → ℕ → ℕ → ℕ
next_at Own None next after = after
next_at Own (Some d) next after = next
next_at Aside this next after = next
next_at Late this next after = next

abbrev out_at : Turn → ℕ → ℕ → ℕ
out_at Own out more = out
out_at Aside out more = more
out_at Late out more = out

module _ (o : TraceOptions) (a : Option ℕ) (trace seen : List Seen) (next after out more : ℕ) (one : after ≡ next + 1)
    (h : IsSeenTo o a trace seen next out None) (s : Seen)
    (goes : is_aside a s ≡ true → more ≡ with_this s (out_aside a seen)) where
  stands : StandsFor o a seen trace h.0
  stands = h.3

  -- of the queue pair that stands for what was there
  seen_aside : is_aside a s ≡ true → (b : Bool) → (next == 1) ≡ b → (this : Option Difference)
      → IsSeenTo o a trace (s ∷ seen) (next_at (cond b Aside Late) this next after) (out_at (cond b Aside Late) out
      more)
      (differs_at (cond b Aside Late) this)
  seen_aside of_it true first this = (
    h.0,
    h.1,
    goes of_it ∙ sym (ap (λ b. cond b (with_this s (out_aside a seen)) (out_aside a seen)) of_it),
    (
      stands.0,
      (
        ap (λ b. b && in_turn a seen s) stands.1.0 ∙ ap (λ b. cond b (none_seen (own a seen)) (out_aside a seen == 0))
            of_it
            ∙ none_yet o (own a seen) trace h.0 stands.0 stands.1.1 ∙ ap (λ n. n == 1) (sym h.1) ∙ first,
        subst (λ (xs : List Seen). Pointwise (ReadsAs o) xs (reverse (take h.0 trace)))
            (sym (ap (λ b. cond b (own a seen) (s ∷ own a seen)) of_it)) stands.1.1,
      ),
    ),
  )
  seen_aside of_it false first this = (
    h.0,
    h.1,
    [],
    seen,
    s,
    refl,
    stands,
    inl (
      ap (λ b. cond b (none_seen (own a seen)) (out_aside a seen == 0)) of_it
          ∙ none_yet o (own a seen) trace h.0 stands.0 stands.1.1 ∙ ap (λ n. n == 1) (sym h.1) ∙ first,
      refl,
    ),
  )

  -- of another one
  seen_own : is_aside a s ≡ false → (b : Bool) → (out == 0) ≡ b → (this : Option Difference)
      → At o s (slice_get trace (next - 1)) this
      → IsSeenTo o a trace (s ∷ seen) (next_at (cond b Own Late) this next after) (out_at (cond b Own Late) out more)
      (differs_at (cond b Own Late) this)
  seen_own other true none None at =
      let there : slice_get trace h.0 ≡ Some at.0 = ap (slice_get trace) (omega (arith, h.1)) ∙ at.1 in (
        h.0 + 1,
        omega (arith, one, h.1),
        h.2 ∙ sym (ap (λ b. cond b (with_this s (out_aside a seen)) (out_aside a seen)) other),
        (
          omega (arith, slice_get_within trace h.0 at.0 there),
          (
            ap (λ b. b && in_turn a seen s) stands.1.0
                ∙ ap (λ b. cond b (none_seen (own a seen)) (out_aside a seen == 0)) other
                ∙ ap (λ n. n == 0) (sym h.2) ∙ none,
            subst (λ (xs : List Seen). Pointwise (ReadsAs o) xs (reverse (take (h.0 + 1) trace)))
                (sym (ap (λ b. cond b (own a seen) (s ∷ own a seen)) other))
                (subst (λ (ys : List Seen). Pointwise (ReadsAs o) (s ∷ own a seen) ys)
                (sym (one_there trace h.0 at.0 there)) (at.2, stands.1.1)),
          ),
        ),
      )
  seen_own other true none (Some d) at = (
    h.0,
    h.1,
    [],
    seen,
    s,
    refl,
    stands,
    inr (
      ap (λ b. cond b (none_seen (own a seen)) (out_aside a seen == 0)) other ∙ ap (λ n. n == 0) (sym h.2) ∙ none,
      other,
      (let place : next - 1 ≡ h.0 = omega (arith, h.1) in
          subst (λ k. Differ o (Some s) (slice_get trace k) d) place at),
    ),
  )
  seen_own other false none this at = (
    h.0,
    h.1,
    [],
    seen,
    s,
    refl,
    stands,
    inl (
      ap (λ b. cond b (none_seen (own a seen)) (out_aside a seen == 0)) other ∙ ap (λ n. n == 0) (sym h.2) ∙ none,
      refl,
    ),
  )

  -- by the turn
  seen_one : (b : Bool) → is_aside a s ≡ b → (this : Option Difference) → At o s (slice_get trace (next - 1)) this
      → IsSeenTo o a trace (s ∷ seen) (next_at (turn_of b out next) this next after) (out_at (turn_of b out next) out
      more)
      (differs_at (turn_of b out next) this)
  seen_one true is this at = seen_aside is (next == 1) refl this
  seen_one false is this at = seen_own is (out == 0) refl this at

-- where it differs, it does after one more thing too
stays_unlike : (o : TraceOptions) (a : Option ℕ) (trace seen : List Seen) (next out more : ℕ) (d : Difference)
    (s : Option Seen) → IsSeenTo o a trace seen next out (Some d)
    → IsSeenTo o a trace (with_shown s seen) next more (Some d)
stays_unlike o a trace seen next out more d None h = h
stays_unlike o a trace seen next out more d (Some s) h =
    (h.0, h.1, s ∷ h.2, h.3, h.4, ap (λ (l : List Seen). s ∷ l) h.5, h.6, h.7)

-- what is told by these is what is told at something seen
told_same : (turn : Turn) (next after out more : ℕ) → (new_next Told.Same turn next after ≡ next_at turn None next
    after)
    × (new_out Told.Same turn out more ≡ out_at turn out more)
told_same Own next after out more = (refl, refl)
told_same Aside next after out more = (refl, refl)
told_same Late next after out more = (refl, refl)

told_unlike : (turn : Turn) (d : Difference) (next after out more : ℕ)
    → (new_next (Told.Unlike d) turn next after ≡ next_at turn (Some d) next after)
    × (new_out (Told.Unlike d) turn out more ≡ out_at turn out more)
told_unlike Own d next after out more = (refl, refl)
told_unlike Aside d next after out more = (refl, refl)
told_unlike Late d next after out more = (refl, refl)

-- by what is told of it
pub seen_next : (o : TraceOptions) (a : Option ℕ) (trace seen : List Seen) (next after out more : ℕ)
    (thing s : Option Seen) (b : Bool) (told : Told) (u : Option Difference) → after ≡ next + 1
    → (u ≡ None → slice_get trace (next - 1) ≡ thing) → IsSeenTo o a trace seen next out u
    → ((x : Seen) → s ≡ Some x → (is_aside a x ≡ b) × (more ≡ with_this x out))
    → Compares o s thing told
    → IsSeenTo o a trace (with_shown s seen) (next_after told (turn_of b out next) u next after)
    (out_after told (turn_of b out next) u out more) (unlike_after told (turn_of b out next) u)
seen_next o a trace seen next after out more thing s b told (Some d) one says h which is =
    stays_unlike o a trace seen next out out d s h
seen_next o a trace seen next after out more thing s b Bad None one says h which is = absurd is
seen_next o a trace seen next after out more thing s b Hidden None one says h which is =
    subst (λ (x : Option Seen). IsSeenTo o a trace (with_shown x seen) next out None) (sym is) h
seen_next o a trace seen next after out more thing s b Same None one says h which is =
    let w = which is.0 is.2 in
    let turn = turn_of b out next in
    let r = seen_one o a trace seen next after out more one h is.0 (λ _. w.1 ∙ ap (with_this is.0) h.2) b w.0 None
    (is.1, says refl ∙ is.3, is.4) in
    let t = told_same turn next after out more in
    subst (λ (x : Option Seen). IsSeenTo o a trace (with_shown x seen) (new_next Told.Same turn next after)
    (new_out Told.Same turn out more) (differs_at turn None)) (sym is.2)
    (subst (λ k. IsSeenTo o a trace (is.0 ∷ seen) k (new_out Told.Same turn out more) (differs_at turn None)) (sym t.0)
    (subst (λ k. IsSeenTo o a trace (is.0 ∷ seen) (next_at turn None next after) k (differs_at turn None)) (sym t.1) r))
seen_next o a trace seen next after out more thing s b (Unlike d) None one says h which is =
    let w = which is.0 is.1 in
    let turn = turn_of b out next in
    let r = seen_one o a trace seen next after out more one h is.0 (λ _. w.1 ∙ ap (with_this is.0) h.2) b w.0 (Some d)
    (subst (λ (x : Option Seen). Differ o (Some is.0) x d) (sym (says refl)) is.2) in
    let t = told_unlike turn d next after out more in
    subst (λ (x : Option Seen). IsSeenTo o a trace (with_shown x seen) (new_next (Told.Unlike d) turn next after)
    (new_out (Told.Unlike d) turn out more) (differs_at turn (Some d))) (sym is.1)
    (subst (λ k. IsSeenTo o a trace (is.0 ∷ seen) k (new_out (Told.Unlike d) turn out more) (differs_at turn (Some d)))
    (sym t.0)
    (subst (λ k. IsSeenTo o a trace (is.0 ∷ seen) (next_at turn (Some d) next after) k (differs_at turn (Some d)))
    (sym t.1) r))

-- what is seen of an entry is of that queue pair where the entry is
pub same_pair : (a : Option ℕ) (c : ConfigNumbers) (past : Past) (e : Entry) (out : ℕ) (x : Seen)
    → shown c past e ≡ Some x → (is_aside a x ≡ is_aside_entry a e) × (out_with e out ≡ with_this x out)
same_pair a c past (Entry.Publish p) out x h =
    subst (λ (y : Seen). (is_aside a y ≡ is_aside_entry a (Entry.Publish p)) × (out_with (Entry.Publish p) out ≡
    with_this y out))
    (that _ x h) (by a, refl)
  where
    by : (a : Option ℕ) → is_aside a (Seen.Published p) ≡ is_aside_entry a (Entry.Publish p)
    by None = refl
    by (Some n) = refl

    that : (u v : Seen) → Some u ≡ Some v → u ≡ v
    that u v e = cc
same_pair a c past (Entry.Reap r) out x h =
    subst (λ (y : Seen). (is_aside a y ≡ is_aside_entry a (Entry.Reap r)) × (out_with (Entry.Reap r) out ≡ with_this y
    out))
    (that _ x h) (by a (next_payload c past r.queue), refl)
  where
    by : (a : Option ℕ) (xs : List ℕ) → is_aside a (Seen.Reaped (record { queue = r.queue; cqe = r.cqe; payload = xs }))
        ≡ is_aside_entry a (Entry.Reap r)
    by None xs = refl
    by (Some n) xs = refl

    that : (u v : Seen) → Some u ≡ Some v → u ≡ v
    that u v e = cc
same_pair a c past (Entry.Fetch f) out x h = absurd (let w : None ≡ Some x = h in cc)
same_pair a c past (Entry.Grant g) out x h = absurd (let w : None ≡ Some x = h in cc)
same_pair a c past (Entry.Block b) out x h = absurd (let w : None ≡ Some x = h in cc)
same_pair a c past (Entry.Post p) out x h = absurd (let w : None ≡ Some x = h in cc)
