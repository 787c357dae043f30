-- Lists of messages: those of a pusher, those popped by a pass, and one among them.
use Rattle.std.proofs.Common.{Bool, List, None, Some, [], ap, arith, cond, eq-eqb, eqb, false, length, map, ne_eqb}
use Rattle.std.proofs.Common.{refl, subst, suc, sym, true, zero, ℕ, ◌+◌, ◌++◌, ◌<◌, ◌∙◌, ◌≡◌, ◌≢◌, ◌≤◌, ◌∷◌}
use Rattle.std.specs.List.{filter, slice_get}
use Rattle.std.proofs.lemmas.List.{map-append}
use Rattle.std.proofs.lemmas.List.Elements.{filter-append}
use mathlib.Core.Option.{some, some-injective, some-ne-none}
use lib.ListN.{get_elem?}
use Rattle.work_queue.specs.QueueSteps.{IsNth}
use Rattle.work_queue.specs.Queues.{by_popper, popped_entry, messages, numbered_messages, of_pusher}
use Rattle.work_queue.specs.declared.message.Popped.{Popped}

pub within : {A : Type 0} (l : List A) (j : ℕ) (a : A) → get_elem? l j ≡ some a → j < length l
within [] j a e = absurd (some-ne-none a (sym e))
within (x ∷ xs) zero a e = omega arith
within (x ∷ xs) (suc j) a e = let t = within xs j a e in omega arith

pub at_slice : {A : Type 0} (l : List A) (j : ℕ) (a : A) → slice_get l j ≡ Some a → get_elem? l j ≡ some a
at_slice [] j a e = let clash : None ≡ Some a = e in cc
at_slice (x ∷ xs) zero a e = let same : x ≡ a = cc in ap some same
at_slice (x ∷ xs) (suc j) a e = at_slice xs j a e

-- the first behind some is at their count
pub at_behind : {A : Type 0} (xs : List A) (y : A) (ys : List A) → get_elem? (xs ++ y ∷ ys) (length xs) ≡ some y
at_behind [] y ys = refl
at_behind (x ∷ xs) y ys = at_behind xs y ys

pub at_mapped : {A B : Type 0} (f : A → B) (l : List A) (j : ℕ) (a : A) → get_elem? l j ≡ some a
    → get_elem? (map f l) j ≡ some (f a)
at_mapped f [] j a e = absurd (some-ne-none a (sym e))
at_mapped f (x ∷ xs) zero a e = ap (λ y. some (f y)) (some-injective x a e)
at_mapped f (x ∷ xs) (suc j) a e = at_mapped f xs j a e

module _ {T : Type 0} where
  abbrev pushed : Popped T → ℕ × T
  pushed e = (e.number, e.item)

  pub of_pusher-append : (j : ℕ) (xs ys : List (Popped T)) → of_pusher j (xs ++ ys) ≡ of_pusher j xs ++ of_pusher j ys
  of_pusher-append j xs ys = ap (map pushed) (filter-append (λ (e : Popped T). eqb e.pusher j) xs ys)
      ∙ map-append pushed (filter (λ e. eqb e.pusher j) xs) (filter (λ e. eqb e.pusher j) ys)

  pub of_pusher-own : (j n : ℕ) (x : T) → of_pusher j (popped_entry j n x ∷ []) ≡ (n, x) ∷ []
  of_pusher-own j n x = ap (λ b. map pushed (cond b (popped_entry j n x ∷ []) [])) (eq-eqb j j refl)

  pub of_pusher-other : (j i n : ℕ) (x : T) → i ≢ j → of_pusher j (popped_entry i n x ∷ []) ≡ []
  of_pusher-other j i n x ne = ap (λ b. map pushed (cond b (popped_entry i n x ∷ []) [])) (ne_eqb i j ne)

  pub numbered_messages-more : (k : ℕ) (xs : List T) (x : T)
      → numbered_messages k (xs ++ x ∷ []) ≡ numbered_messages k xs ++ (k + length xs, x) ∷ []
  numbered_messages-more k [] x = ap (λ n. (n, x) ∷ []) (omega arith)
  numbered_messages-more k (y ∷ xs) x =
      ap (λ l. (k, y) ∷ l) (numbered_messages-more (k + 1) xs x
      ∙ ap (λ n. numbered_messages (k + 1) xs ++ (n, x) ∷ []) (omega arith))

  -- in a numbered list each number before one is below it
  pub before : (k : ℕ) (ts : List T) (xs ys : List (ℕ × T)) (n : ℕ) (x : T) → xs ++ (n, x) ∷ ys ≡ numbered_messages k ts
      → (k ≤ n) × ((i : ℕ) (d : ℕ × T) → get_elem? xs i ≡ some d → d.0 < n)
  before k [] [] ys n x e = cc
  before k [] (d ∷ xs) ys n x e = cc
  before k (t ∷ ts) [] ys n x e = let first : (n, x) ≡ (k, t) = cc in let same = ap (λ (z : ℕ × T). z.0) first in
      (omega (arith, same), λ i d a. absurd (some-ne-none d (sym a)))
  before k (t ∷ ts) (d ∷ xs) ys n x e =
      let tails : xs ++ (n, x) ∷ ys ≡ numbered_messages (k + 1) ts = cc in
      let first : d ≡ (k, t) = cc in
      let r = before (k + 1) ts xs ys n x tails in
      let low = r.0 in
      let same = ap (λ (z : ℕ × T). z.0) first in
      (omega (arith, low), λ i u a. at i u a r.1 (omega (arith, low, same)))
    where
      at : (i : ℕ) (u : ℕ × T) → get_elem? (d ∷ xs) i ≡ some u
          → ((i : ℕ) (u : ℕ × T) → get_elem? xs i ≡ some u → u.0 < n) → d.0 < n → u.0 < n
      at zero u a r h = subst (λ (z : ℕ × T). z.0 < n) (some-injective d u a) h
      at (suc i) u a r h = r i u a

  -- one that stands in a numbered list, behind so many
  pub record Stands (k : ℕ) (ts : List T) (m n : ℕ) (x : T) : Type 0 where
    pub front : List T
    pub rest : List T
    pub is : ts ≡ front ++ x ∷ rest
    pub long : length front ≡ m
    pub number : n ≡ k + m

  pub stands_at : (k : ℕ) (ts : List T) (m n : ℕ) (x : T) → get_elem? (numbered_messages k ts) m ≡ some (n, x)
      → Stands k ts m n x
  stands_at k [] m n x e = absurd (some-ne-none (n, x) (sym e))
  stands_at k (t ∷ ts) zero n x e =
      let same : (k, t) ≡ (n, x) = some-injective (k, t) (n, x) e in
      let number : n ≡ k + 0 = ap (λ (z : ℕ × T). z.0) (sym same) ∙ omega arith in
      record { front = []; rest = ts; is = ap (λ (z : ℕ × T). z.1 ∷ ts) same; long = refl; number = number }
  stands_at k (t ∷ ts) (suc m) n x e =
      let s = stands_at (k + 1) ts m n x e in
      let number = s.number in
      let long = s.long in
      record { front = t ∷ s.front; rest = s.rest; is = ap (λ l. t ∷ l) s.is; long = ap suc long; number = omega arith }

  pub is_nth : (ts : List T) (m n : ℕ) (x : T) → get_elem? (numbered_messages 1 ts) m ≡ some (n, x) → IsNth ts n x
  is_nth ts m n x e =
      let s = stands_at 1 ts m n x e in
      let long = s.long in
      let number = s.number in
      (s.front, s.rest, s.is, omega arith)

  pub number_at : (ts : List T) (m n : ℕ) (x : T) → get_elem? (numbered_messages 1 ts) m ≡ some (n, x) → n ≡ m + 1
  number_at ts m n x e = let s = stands_at 1 ts m n x e in let number = s.number in omega arith

  -- ---- lists of pops

  pub by_popper-append : (j : ℕ) (xs ys : List (ℕ × Popped T))
      → by_popper j (xs ++ ys) ≡ by_popper j xs ++ by_popper j ys
  by_popper-append j xs ys =
      ap (map (λ (p : ℕ × Popped T). p.1)) (filter-append (λ (p : ℕ × Popped T). eqb p.0 j) xs ys)
      ∙ map-append (λ (p : ℕ × Popped T). p.1) (filter (λ p. eqb p.0 j) xs) (filter (λ p. eqb p.0 j) ys)

  pub by_popper-own : (j : ℕ) (e : Popped T) → by_popper j ((j, e) ∷ []) ≡ e ∷ []
  by_popper-own j e = ap (λ b. map (λ (p : ℕ × Popped T). p.1) (cond b ((j, e) ∷ []) [])) (eq-eqb j j refl)

  pub by_popper-other : (j i : ℕ) (e : Popped T) → i ≢ j → by_popper j ((i, e) ∷ []) ≡ []
  by_popper-other j i e ne = ap (λ b. map (λ (p : ℕ × Popped T). p.1) (cond b ((i, e) ∷ []) [])) (ne_eqb i j ne)

  -- what a pass popped is among what was popped
  pub popped_among : (i : ℕ) (ps : List (ℕ × Popped T)) (k : ℕ) (e : Popped T) → get_elem? (by_popper i ps) k ≡ some e
      → (m : ℕ) × (get_elem? (map (λ p. p.1) ps) m ≡ some e)
  popped_among i [] k e a = absurd (some-ne-none e (sym a))
  popped_among i (p ∷ ps) k e a = go (popped_among i ps) (eqb p.0 i) k a
    where
      go : ((k : ℕ) (e : Popped T) → get_elem? (by_popper i ps) k ≡ some e
          → (m : ℕ) × (get_elem? (map (λ p. p.1) ps) m ≡ some e)) → (b : Bool) (k : ℕ)
          → get_elem? (map (λ (p : ℕ × Popped T). p.1)
          (cond b (p ∷ filter (λ p. eqb p.0 i) ps) (filter (λ p. eqb p.0 i) ps))) k ≡ some e
          → (m : ℕ) × (get_elem? (map (λ p. p.1) (p ∷ ps)) m ≡ some e)
      go ih true zero a = (0, a)
      go ih true (suc k) a = let r = ih k e a in (suc r.0, r.1)
      go ih false k a = let r = ih k e a in (suc r.0, r.1)

  -- a message of a pusher is among that pusher's
  pub pushed_among : (j : ℕ) (es : List (Popped T)) (k : ℕ) (e : Popped T) → get_elem? es k ≡ some e → e.pusher ≡ j
      → (m : ℕ) × (get_elem? (of_pusher j es) m ≡ some (e.number, e.item))
  pushed_among j [] k e a is = absurd (some-ne-none e (sym a))
  pushed_among j (d ∷ es) zero e a is =
      let same : d ≡ e = some-injective d e a in (
        0,
        ap (λ b. get_elem? (map pushed (cond b (d ∷ filter (λ e. eqb e.pusher j) es) (filter (λ e. eqb e.pusher j) es)))
            0) (eq-eqb d.pusher j (ap (λ (x : Popped T). x.pusher) same ∙ is))
            ∙ ap (λ (x : Popped T). some (x.number, x.item)) same,
      )
  pushed_among j (d ∷ es) (suc k) e a is = let r = pushed_among j es k e a is in later (eqb d.pusher j) r.0 r.1
    where
      later : (b : Bool) (k : ℕ) → get_elem? (map pushed (filter (λ e. eqb e.pusher j) es)) k ≡ some (e.number, e.item)
          → (i : ℕ) × (get_elem? (map pushed
          (cond b (d ∷ filter (λ e. eqb e.pusher j) es) (filter (λ e. eqb e.pusher j) es))) i
          ≡ some (e.number, e.item))
      later true k h = (suc k, h)
      later false k h = (k, h)

  -- ---- where there is one pass

  pub all_pushed : (n : ℕ) (es : List (Popped T)) → ((k : ℕ) (e : Popped T) → get_elem? es k ≡ some e → e.pusher ≡ n)
      → of_pusher n es ≡ map pushed es
  all_pushed n [] own = refl
  all_pushed n (e ∷ es) own =
      ap (λ b. map pushed (cond b (e ∷ filter (λ e. eqb e.pusher n) es) (filter (λ e. eqb e.pusher n) es)))
      (eq-eqb e.pusher n (own 0 e refl)) ∙ ap (λ l. pushed e ∷ l) (all_pushed n es (λ k. own (suc k)))

  pub all_popped : (n : ℕ) (ps : List (ℕ × Popped T)) → ((k : ℕ) (p : ℕ × Popped T) → get_elem? ps k ≡ some p → p.0 ≡ n)
      → by_popper n ps ≡ map (λ p. p.1) ps
  all_popped n [] own = refl
  all_popped n (p ∷ ps) own =
      ap (λ b. map (λ (p : ℕ × Popped T). p.1) (cond b (p ∷ filter (λ p. eqb p.0 n) ps) (filter (λ p. eqb p.0 n) ps)))
      (eq-eqb p.0 n (own 0 p refl)) ∙ ap (λ l. p.1 ∷ l) (all_popped n ps (λ k. own (suc k)))

  pub items_pushed : (es : List (Popped T)) → map (λ (z : ℕ × T). z.1) (map pushed es) ≡ messages es
  items_pushed [] = refl
  items_pushed (e ∷ es) = ap (λ l. e.item ∷ l) (items_pushed es)

  pub items_numbered : (k : ℕ) (xs : List T) → map (λ (z : ℕ × T). z.1) (numbered_messages k xs) ≡ xs
  items_numbered k [] = refl
  items_numbered k (x ∷ xs) = ap (λ l. x ∷ l) (items_numbered (k + 1) xs)

  -- ---- a number that no message bears

  pub unpushed : (n : ℕ) (es : List (Popped T)) → ((k : ℕ) (e : Popped T) → get_elem? es k ≡ some e → e.pusher ≢ n)
      → of_pusher n es ≡ []
  unpushed n [] none = refl
  unpushed n (e ∷ es) none =
      ap (λ b. map pushed (cond b (e ∷ filter (λ e. eqb e.pusher n) es) (filter (λ e. eqb e.pusher n) es)))
      (ne_eqb e.pusher n (none 0 e refl)) ∙ unpushed n es (λ k. none (suc k))

  pub untaken : (n : ℕ) (ps : List (ℕ × Popped T)) → ((k : ℕ) (p : ℕ × Popped T) → get_elem? ps k ≡ some p → p.0 ≢ n)
      → by_popper n ps ≡ []
  untaken n [] none = refl
  untaken n (p ∷ ps) none =
      ap (λ b. map (λ (p : ℕ × Popped T). p.1) (cond b (p ∷ filter (λ p. eqb p.0 n) ps) (filter (λ p. eqb p.0 n) ps)))
      (ne_eqb p.0 n (none 0 p refl)) ∙ untaken n ps (λ k. none (suc k))
