-- Slots that hold a queue, and what a contract sees of them.
use Rattle.std.proofs.Common.{IsSome, List, None, Option, Some, add-zero, ap, ap₂, arith, drop, get_or, length}
use Rattle.std.proofs.Common.{length-drop, length-set, map, mod-eq_of_lt, refl, replicate, rules, set, slice_get, subst}
use Rattle.std.proofs.Common.{suc, sym, zero, ℕ, [], ◌%◌, ◌+◌, ◌++◌, ◌-◌, ◌<◌, ◌∙◌, ◌∷◌, ◌≡◌}
use Rattle.std.proofs.Math.Nat.{mod-add-mod}
use Rattle.std.proofs.lemmas.List.{append-nil, append_assoc, get_or_read, length-map, length-replicate, length_push}
use Rattle.std.proofs.lemmas.List.{map_push, replicate_more, set_at}
use Rattle.std.specs.List.{flat_map}
use Rattle.std.specs.Option.{option_to_list}
use Rattle.rings.specs.Slots.{IsQueue, IsSize, Queued, items_from, popped, pushed, slots_from}
use Rattle.rings.proofs.Rotation.{get_or-slots_from, slots_from-freed, slots_from-set}

-- ---- items with free slots behind them

module _ {X : Type 0} where
  -- free slots hold nothing
  items-free : (n : ℕ) → flat_map {X = Option X} option_to_list (replicate n None) ≡ []
  items-free zero = refl
  items-free (suc n) = items-free n

  -- the slots hold the items
  items-slots : (xs : List X) (n : ℕ) → flat_map option_to_list (map Some xs ++ replicate n None) ≡ xs
  items-slots [] n = items-free n
  items-slots (x ∷ xs) n = ap (λ (ys : List X). x ∷ ys) (items-slots xs n)

  -- an item's slot
  get_or-items : (xs : List X) (n k : ℕ) → get_or (map Some xs ++ replicate n None) k None ≡ slice_get xs k
  get_or-items [] zero k = refl
  get_or-items [] (suc n) zero = refl
  get_or-items [] (suc n) (suc k) = get_or-items [] n k
  get_or-items (x ∷ xs) n zero = refl
  get_or-items (x ∷ xs) n (suc k) = get_or-items xs n k

  -- the first item gone, and its slot free behind the others
  drop-items : (xs : List X) (n : ℕ) → 0 < length xs
      → drop 1 (map Some xs ++ replicate n None) ++ None ∷ [] ≡ map Some (drop 1 xs) ++ replicate (n + 1) None
  drop-items [] n some = absurd (omega arith)
  drop-items (x ∷ xs) n some =
      append_assoc (map Some xs) (replicate n None) (None ∷ [])
      ∙ ap (λ (ys : List (Option X)). map Some xs ++ ys) (replicate_more n None)

  -- where there is an item, one is the first
  pub is_some-first : (xs : List X) → 0 < length xs → IsSome (slice_get xs 0)
  is_some-first [] some = absurd (omega arith)
  is_some-first (x ∷ xs) some = search rules

-- ---- steps of a queue

module _ {X : Type 0} (slots : List (Option X)) (h t : ℕ) (xs : List X) (q : IsQueue slots h t xs) where
  -- the slot of the item with k before it
  get_or-queue : (k : ℕ) → k < length xs → get_or slots ((h + k) % length slots) None ≡ slice_get xs k
  get_or-queue k below =
      sym (get_or-slots_from slots h q.within k None (omega (arith, q.room)))
      ∙ ap (λ (ys : List (Option X)). get_or ys k None) q.order ∙ get_or-items xs (length slots - length xs) k

  -- one more item
  queue_pushed : (x : X) → length xs + 1 < length slots
      → IsQueue (set slots t (Some x)) h ((t + 1) % length slots) (xs ++ x ∷ [])
  queue_pushed x room =
      let long : length (set slots t (Some x)) ≡ length slots = length-set slots t (Some x) in
      let more : length (xs ++ x ∷ []) ≡ length xs + 1 = length_push xs x in
      let free : ℕ = length slots - (length xs + 1) in
      let one : length slots - length xs ≡ suc free = omega arith in
      let parted : slots_from h slots ≡ map Some xs ++ None ∷ replicate free None =
      q.order ∙ ap (λ n. map Some xs ++ replicate n None) one in
      record {
        some = subst IsSize (sym long) q.some;
        within = omega arith;
        room = omega arith;
        next =
            ap (λ n. (n + 1) % length slots) q.next ∙ mod-add-mod (h + length xs) (length slots) 1
            ∙ ap₂ ◌%◌ (omega arith) (sym long);
        order =
            ap (λ n. slots_from h (set slots n (Some x))) q.next
            ∙ slots_from-set slots h q.within (length xs) (Some x) (omega arith)
            ∙ ap (λ ys. set ys (length xs) (Some x)) parted
            ∙ set_at (map Some xs) None (replicate free None) (Some x) (length xs) (length-map xs Some)
            ∙ sym (append_assoc (map Some xs) (Some x ∷ []) (replicate free None))
            ∙ ap₂ ◌++◌ (sym (map_push Some xs x)) (ap (λ n. replicate n None) (omega arith));
      }

  -- one item less
  queue_popped : 0 < length xs → IsQueue (set slots h None) ((h + 1) % length slots) t (drop 1 xs)
  queue_popped some =
      let long : length (set slots h None) ≡ length slots = length-set slots h None in
      let less : length (drop 1 xs) ≡ length xs - 1 = length-drop 1 xs in
      record {
        some = subst IsSize (sym long) q.some;
        within = omega arith;
        room = omega arith;
        next =
            q.next ∙ ap (λ n. n % length slots) (omega arith)
            ∙ sym (mod-add-mod (h + 1) (length slots) (length (drop 1 xs)))
            ∙ ap (λ n. ((h + 1) % length slots + length (drop 1 xs)) % n) (sym long);
        order =
            slots_from-freed slots h q.within
            ∙ ap (λ (ys : List (Option X)). drop 1 ys ++ None ∷ []) q.order
            ∙ drop-items xs (length slots - length xs) some
            ∙ ap (λ n. map Some (drop 1 xs) ++ replicate n None) (omega arith);
      }

-- ---- what a contract sees

-- slots and registers as a contract sees them
abbrev pub queued : {X : Type 0} → List (Option X) → ℕ → ℕ → Queued X
queued slots h t = record { size = length slots; head = h; tail = t; items = items_from h slots }

-- they are a queue, seen so
pub record Shows {X : Type 0} (slots : List (Option X)) (h t : ℕ) (v : Queued X) : Type 0 where
  pub queue : IsQueue slots h t (items_from h slots)
  pub value : queued slots h t ≡ v

-- the items of a queue are what its slots hold
shows_queue : {X : Type 0} (slots : List (Option X)) (h t size : ℕ) (xs : List X) → length slots ≡ size
    → IsQueue slots h t xs
    → Shows slots h t (record { size = size; head = h; tail = t; items = xs })
shows_queue {X} slots h t size xs long q =
    let same : items_from h slots ≡ xs = ap (flat_map option_to_list) q.order
    ∙ items-slots xs (length slots - length xs) in
    record {
      queue = subst (IsQueue slots h t) (sym same) q;
      value = ap₂ (λ (n : ℕ) (ys : List X). record { size = n; head = h; tail = t; items = ys }) long same;
    }

-- slots that are all free
pub shows_free : {X : Type 0} (slots : List (Option X)) (n : ℕ) → slots ≡ replicate n None → IsSize n
    → Shows slots 0 0 (record { size = n; head = 0; tail = 0; items = [] })
shows_free {X} slots n free size =
    let long : length slots ≡ n = ap length free ∙ length-replicate n None in
    let all : length slots - 0 ≡ n = omega arith in
    shows_queue slots 0 0 n [] long (record {
      some = subst IsSize (sym long) size;
      within = omega arith;
      room = omega arith;
      next = sym (mod-eq_of_lt (omega arith));
      order = append-nil slots ∙ free ∙ ap (λ k. replicate k None) (sym all);
    })

module _ {X : Type 0} (slots : List (Option X)) (h t : ℕ) (q : IsQueue slots h t (items_from h slots)) (v : Queued X)
    (is : queued slots h t ≡ v) where
  -- the slot of the item with k before it
  pub get_or-item : (k : ℕ) → k < length v.items → get_or slots ((h + k) % length slots) None ≡ slice_get v.items k
  get_or-item k =
      subst (λ (w : Queued X). k < length w.items → get_or slots ((h + k) % length slots) None ≡ slice_get w.items k) is
      (get_or-queue slots h t (items_from h slots) q k)

  -- what the slot at the head holds
  pub get_or-head : (place : ℕ) (slot : Option X) → place ≡ h → slot ≡ get_or slots place slot → 0 < length v.items
      → slot ≡ slice_get v.items 0
  get_or-head place slot at read some =
      let here : (h + 0) % length slots ≡ h = ap (λ n. n % length slots) (add-zero h) ∙ mod-eq_of_lt q.within in
      get_or_read slots place slot (omega (arith, q.within)) read None
      ∙ ap (λ i. get_or slots i None) (at ∙ sym here) ∙ get_or-item 0 some

  -- one more item
  pub shows_pushed : (place size : ℕ) (x : X) → place ≡ t → size ≡ length slots → length v.items + 1 < v.size
      → Shows (set slots place (Some x)) h ((t + 1) % size) (pushed v x)
  shows_pushed place size x at long =
      let more = set slots t (Some x) in
      subst (λ (w : Queued X). length w.items + 1 < w.size
      → Shows (set slots place (Some x)) h ((t + 1) % size) (pushed w x)) is
      (rw (at, long) (λ room.
      shows_queue more h ((t + 1) % length slots) (length slots) (items_from h slots ++ x ∷ [])
      (length-set slots t (Some x)) (queue_pushed slots h t (items_from h slots) q x room)))

  -- one item less
  pub shows_popped : (place size : ℕ) (free : Option X) → place ≡ h → size ≡ length slots → free ≡ None
      → 0 < length v.items
      → Shows (set slots place free) ((h + 1) % size) t (popped v)
  shows_popped place size free at long none =
      let less = set slots h None in
      subst (λ (w : Queued X). 0 < length w.items → Shows (set slots place free) ((h + 1) % size) t (popped w)) is
      (rw (at, long, none) (λ some.
      shows_queue less ((h + 1) % length slots) t (length slots) (drop 1 (items_from h slots))
      (length-set slots h None) (queue_popped slots h t (items_from h slots) q some)))
