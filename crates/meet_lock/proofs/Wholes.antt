-- All passes together have seen the whole.
use Rattle.std.specs.Box.{box_value}
use Rattle.std.proofs.Common.{Box, option_map, IfSome, IsSome, List, MatchOption, None, Option, Some, [], ap, arith}
use Rattle.std.proofs.Common.{inl, inr, length}
use Rattle.std.proofs.Common.{length-append, refl, subst, suc, sym, zero}
use Rattle.std.proofs.Common.{ℕ, ◌+◌, ◌-◌, ◌++◌, ◌<◌, ◌∙◌, ◌≡◌, ◌∷◌}
use Rattle.std.specs.Prelude.{slice_get}
use Rattle.plain_lemmas.proofs.Lists.{at_front}
use Rattle.atomic_table.specs.Table.{Me}
use Rattle.nvme_model.specs.History.{Past}
use Rattle.nvme_model.specs.Passes.{SharedPast, entries, places}
use Rattle.nvme_model.specs.declared.config.ConfigNumbers.{ConfigNumbers}
use Rattle.meet_lock.specs.Lock.{AreOfPasses, ExtendsByPasses, gathering}
use Rattle.meet_lock.specs.Passes.{AllSaw, IsSeenWhole, config_of, mine, number, passes_of, seen}
use Rattle.meet_lock.specs.SeatSteps.{AllBegin, HasAllPasses, HasNumber, IsIdle, Out}
use Rattle.meet_lock.specs.declared.pass.Pass.{Pass}
use Rattle.meet_lock.specs.declared.view.View.{View}
use Rattle.meet_lock.proofs.Others.{newest_seen}

pub some_at : {A : Type 0} (l : List A) (k : ℕ) → k < length l → (a : A) × (slice_get l k ≡ Some a)
some_at [] k lt = absurd (omega (arith, lt))
some_at (x ∷ xs) zero lt = (x, refl)
some_at (x ∷ xs) (suc k) lt = some_at xs k (omega (arith, lt))

-- what holds of what lies in the box
pub of_box : {A Z : Type 0} (R : A → Type 0) (P : Type 0) (Q : Box A Z → Type 0) (x : Option (Box A Z))
    → MatchOption x P Q → ((b : Box A Z) → Q b → R (box_value b)) → IfSome (option_map box_value x) R
of_box R P Q None m f = tt
of_box R P Q (Some b) m f = f b m

pub box_is_some : {A Z : Type 0} (P : Type 0) (Q : Box A Z → Type 0) (x : Option (Box A Z)) → MatchOption x P Q
    → (P → ⊥) → IsSome (option_map box_value x)
box_is_some P Q None m never = absurd (never m)
box_is_some P Q (Some b) m never = refl

pub at_mid : {A : Type 0} (xs ys : List A) (a : A) → slice_get (xs ++ a ∷ ys) (length xs) ≡ Some a
at_mid [] ys a = refl
at_mid (x ∷ xs) ys a = at_mid xs ys a

module _ {M : Type 0} where
  -- a view that these passes were joined to, the last first
  abbrev pub with_passes : View → List (Pass M) → View
  with_passes v [] = v
  with_passes v (p ∷ ps) = gathering (with_passes v ps) p.seat.me.0

  pub with_same : (v : View) (ps : List (Pass M)) → ((with_passes v ps).number ≡ v.number)
      × ((with_passes v ps).passes ≡ v.passes) × ((with_passes v ps).config ≡ v.config)
      × ((with_passes v ps).seen ≡ v.seen) × ((with_passes v ps).holds ≡ v.holds)
  with_same v [] = (refl, refl, refl, refl, refl)
  with_same v (p ∷ ps) = with_same v ps

  -- where the first one was idle, it still is
  pub with_idle : {B : Type 0} (last : Pass M) (ps : List (Pass M)) (me : Me (Option B) View) → me.1 ≡ []
      → me.0 ≡ with_passes last.seat.me.0 ps → IsIdle me
  with_idle last ps me out is =
      let same = with_same last.seat.me.0 ps in (
        out,
        ap (λ (z : View). z.holds) is ∙ (same.4 ∙ last.free),
        subst (λ n. 0 < n) (sym (ap (λ (z : View). z.number) is ∙ same.0)) last.numbered,
      )

  -- each is among them
  has_those : (v : View) (ps : List (Pass M)) (k : ℕ) (p : Pass M) → slice_get ps k ≡ Some p
      → HasNumber (number p) (with_passes v ps).gathered
  has_those v [] k p at = cc
  has_those v (x ∷ ps) zero p at = let same : x ≡ p = cc in inl (ap (λ (z : Pass M). number z) same)
  has_those v (x ∷ ps) (suc k) p at = inr (has_those v ps k p at)

  -- what each had seen begins the history, and so has the last
  all_saw : (c : ConfigNumbers) (n : ℕ) (log : SharedPast) (v : View) (ps : List (Pass M)) (last : Pass M)
      → AllBegin c n log (with_passes v ps).gathered
      → ExtendsByPasses n (seen last) log × (places (number last) log ≡ mine last) → AllSaw n log (ps ++ last ∷ [])
  all_saw c n log v [] last all own = (own, tt)
  all_saw c n log v (p ∷ ps) last all own = ((all.0.1, all.0.2), all_saw c n log v ps last all.1 own)

  -- and they all know one configuration
  all_know : (c : ConfigNumbers) (n : ℕ) (log : SharedPast) (v : View) (ps : List (Pass M)) (last : Pass M)
      → AllBegin c n log (with_passes v ps).gathered → config_of last ≡ c → (k : ℕ) (p : Pass M)
      → slice_get (ps ++ last ∷ []) k ≡ Some p → config_of p ≡ c
  all_know c n log v [] last all own zero p at =
      let same : last ≡ p = cc in subst (λ (z : Pass M). config_of z ≡ c) same own
  all_know c n log v [] last all own (suc k) p at = cc
  all_know c n log v (x ∷ ps) last all own zero p at =
      let same : x ≡ p = cc in subst (λ (z : Pass M). config_of z ≡ c) same all.0.0
  all_know c n log v (x ∷ ps) last all own (suc k) p at = all_know c n log v ps last all.1 own k p at

  -- The passes, numbered from 1 on.
  abbrev pub AreNumbered : ℕ → List (Pass M) → Type 0
  AreNumbered n ps = (k : ℕ) (p : Pass M) → slice_get ps k ≡ Some p → (number p ≡ k + 1) × (passes_of p ≡ n)

  -- each number is that of one of them, but for the last one's
  pub has_all : (n : ℕ) (ps : List (Pass M)) (last : Pass M) → length (ps ++ last ∷ []) ≡ n
      → AreNumbered n (ps ++ last ∷ []) → HasAllPasses (with_passes last.seat.me.0 ps)
  has_all n ps last long numbers m some le other =
      let v : View = last.seat.me.0 in
      let same = with_same v ps in
      let all : length (ps ++ last ∷ []) ≡ length ps + 1 = length-append ps (last ∷ []) in
      let end = numbers (length ps) last (at_mid ps [] last) in
      let own : (with_passes v ps).number ≡ length ps + 1 = same.0 ∙ end.0 in
      let count : (with_passes v ps).passes ≡ n = same.1 ∙ end.1 in
      let k : ℕ = m - 1 in
      let less : k < length ps = omega (arith, some, le, other, own, all, long, count) in
      let q = some_at ps k less in
      let is : number q.0 ≡ k + 1 = (numbers k q.0 (at_front ps (last ∷ []) k q.0 q.1)).0 in
      let by : number q.0 ≡ m = omega (arith, is, some) in
      subst (λ z. HasNumber z (with_passes v ps).gathered) by (has_those v ps k q.0 q.1)

  saw_at : (n : ℕ) (held : SharedPast) (ps : List (Pass M)) → AllSaw n held ps → (k : ℕ) (p : Pass M)
      → slice_get ps k ≡ Some p → ExtendsByPasses n (seen p) held × (places (number p) held ≡ mine p)
  saw_at n held [] all k p e = cc
  saw_at n held (x ∷ ps) all zero p e = let same : x ≡ p = cc in
      subst (λ (z : Pass M). ExtendsByPasses n (seen z) held × (places (number z) held ≡ mine z)) same all.0
  saw_at n held (x ∷ ps) all (suc k) p e = saw_at n held ps all.1 k p e

  record Whole (held : SharedPast) (ps : List (Pass M)) : Type 0 where
    pub place : ℕ
    pub pass : Pass M
    pub there : slice_get ps place ≡ Some pass
    pub is : held ≡ seen pass

  -- the newest entry is of one of them
  whole_by : (n : ℕ) (held : SharedPast) (ps : List (Pass M)) → length ps ≡ n
      → ((k : ℕ) (p : Pass M) → slice_get ps k ≡ Some p → number p ≡ k + 1) → AllSaw n held ps
      → (k0 : ℕ) (p0 : Pass M) → slice_get ps k0 ≡ Some p0 → (later : SharedPast) → later ++ seen p0 ≡ held
      → AreOfPasses n later → Whole held ps
  whole_by n held ps long numbers all k0 p0 at [] e made = record { place = k0; pass = p0; there = at; is = sym e }
  whole_by n held ps long numbers all k0 p0 at (m ∷ later) e made =
      let some = made.0.0 in
      let le = made.0.1 in
      let k : ℕ = m.0 - 1 in
      let q = some_at ps k (omega (arith, some, le, long)) in
      let saw = saw_at n held ps all k q.0 q.1 in
      let num = numbers k q.0 q.1 in
      let by : number q.0 ≡ m.0 = omega (arith, num, some) in
      let g : ExtendsByPasses n (seen q.0) (m ∷ later ++ seen p0) =
      subst (λ l. ExtendsByPasses n (seen q.0) l) (sym e) saw.0 in
      let own : places m.0 (m ∷ later ++ seen p0) ≡ places m.0 (seen q.0) =
      subst (λ (z : ℕ × SharedPast). places z.0 z.1 ≡ places z.0 (seen q.0)) (λ i. (by i, sym e i)) saw.1 in
      record { place = k; pass = q.0; there = q.1; is = sym e ∙ newest_seen n m (later ++ seen p0) (seen q.0) g own }

  pub seen_whole : (n : ℕ) (held : SharedPast) (ps : List (Pass M)) (past : Past) → length ps ≡ n → 0 < n
      → ((k : ℕ) (p : Pass M) → slice_get ps k ≡ Some p → number p ≡ k + 1) → AllSaw n held ps
      → past ≡ entries held → IsSeenWhole ps past
  seen_whole n held ps past long positive numbers all is =
      let q = some_at ps 0 (omega (arith, long, positive)) in
      let g = (saw_at n held ps all 0 q.0 q.1).0 in
      let w = whole_by n held ps long numbers all 0 q.0 q.1 g.0.0 g.0.1 g.1 in
      record {
        place = w.place;
        pass = w.pass;
        there = w.there;
        whole = is ∙ ap entries w.is;
        all = λ k p at. subst (λ (z : ℕ × SharedPast). ExtendsByPasses z.0 (seen p) z.1
            × (places (number p) z.1 ≡ mine p))
            (λ i. (sym long i, w.is i)) (saw_at n held ps all k p at);
      }

  -- the seat that all passes were joined to has the lock
  module _ {B : Type 0} (config : B → ConfigNumbers) (history : B → Past) (legal : ConfigNumbers → Past → Type 0)
      (n : ℕ) (ps all : List (Pass M)) (last : Pass M) (is : ps ++ last ∷ [] ≡ all) (long : length all ≡ n)
      (numbers : AreNumbered n all) (v : View) (w : v ≡ with_passes last.seat.me.0 ps) (machine : B)
      (end : Me (Option B) View) (out : Out config history legal v machine end) where
    abbrev Joined : View
    Joined = with_passes last.seat.me.0 ps

    o : Out config history legal Joined machine end
    o = subst (λ z. Out config history legal z machine end) w out

    count : Joined.passes ≡ n
    count = (with_same last.seat.me.0 ps).1
        ∙ (numbers (length ps) last (subst (λ l. slice_get l (length ps) ≡ Some last) is (at_mid ps [] last))).1

    known : AllBegin (config_of last) n o.log Joined.gathered
    known = subst (λ (x : ConfigNumbers × ℕ). AllBegin x.0 x.1 o.log Joined.gathered)
        (λ i. ((with_same last.seat.me.0 ps).2 i, count i)) o.gathered

    pub closed_whole : IsSeenWhole all (history machine)
    closed_whole =
        let same = with_same last.seat.me.0 ps in
        let begins : ExtendsByPasses n (seen last) o.log =
        subst (λ (x : ℕ × SharedPast). ExtendsByPasses x.0 x.1 o.log) (λ i. (count i, same.3 i)) o.begins in
        let own : places (number last) o.log ≡ mine last =
        subst (λ (x : ℕ × SharedPast). places x.0 o.log ≡ places x.0 x.1) (λ i. (same.0 i, same.3 i)) o.mine in
        let more : length (ps ++ last ∷ []) ≡ length ps + 1 = length-append ps (last ∷ []) in
        let whole : length (ps ++ last ∷ []) ≡ length all = ap length is in
        seen_whole n o.log all (history machine) long (omega (arith, more, whole, long))
        (λ k p at. (numbers k p at).0)
        (subst (AllSaw n o.log) is (all_saw (config_of last) n o.log last.seat.me.0 ps last known (begins, own))) o.at.1

    pub closed_config : (k : ℕ) (p : Pass M) → slice_get all k ≡ Some p → config machine ≡ config_of p
    closed_config k p at =
        o.at.0 ∙ ((with_same last.seat.me.0 ps).2
        ∙ sym (all_know (config_of last) n o.log last.seat.me.0 ps last known refl k p
        (subst (λ l. slice_get l k ≡ Some p) (sym is) at)))

    pub closed_legal : legal (config machine) (history machine)
    closed_legal = subst (λ (p : ConfigNumbers × Past). legal p.0 p.1) (λ i. (sym o.at.0 i, sym o.at.1 i)) o.right
