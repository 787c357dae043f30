-- What the slots of a ring hold.
use Rattle.std.specs.Coded.{Coded, code_by, coded×, coded_list, coded_ℕ}
use Rattle.std.specs.List.{flat_map}
use Rattle.std.specs.Option.{option_to_list}
use Rattle.std.specs.Prelude.{List, None, Option, Some, [], drop, length, map, refl, replicate, take, ℕ, ◌%◌, ◌+◌, ◌++◌}
use Rattle.std.specs.Prelude.{◌-◌, ◌<◌, ◌∷◌, ◌≡◌, ◌≤◌}

-- the sizes that a ring may have (this profile's)
abbrev pub IsSize : ℕ → Type 0
IsSize n = (2 ≤ n) × (n ≤ 1024)

-- how many slots there are, the slot of the item that comes out next, the slot of the item that comes in next,
-- and the items, the one that comes out next first
pub record Queued (X : Type 0) : Type 0 where
  pub size : ℕ
  pub head : ℕ
  pub tail : ℕ
  pub items : List X

module _ {X : Type 0} where
  -- a value of it is stored as its fields
  abbrev pub queued_code : Coded X → Coded (Queued X)
  queued_code c =
      code_by ((ℕ × ℕ) × (ℕ × List X)) (coded× (coded× coded_ℕ coded_ℕ) (coded× coded_ℕ (coded_list c)))
      (λ q. ((q.size, q.head), (q.tail, q.items)))
      (λ p. record { size = p.0.0; head = p.0.1; tail = p.1.0; items = p.1.1 })
      (λ _. refl)

  -- after one more item
  abbrev pub pushed : Queued X → X → Queued X
  pushed q x = record q { tail = (q.tail + 1) % q.size; items = q.items ++ x ∷ [] }

  -- after the next item came out
  abbrev pub popped : Queued X → Queued X
  popped q = record q { head = (q.head + 1) % q.size; items = drop 1 q.items }

  -- the slots from this one on, round the end
  abbrev pub slots_from : ℕ → List (Option X) → List (Option X)
  slots_from n slots = drop n slots ++ take n slots

  -- what the slots from this one on hold
  abbrev pub items_from : ℕ → List (Option X) → List X
  items_from n slots = flat_map option_to_list (slots_from n slots)

  -- from the head on stand the items, and behind them free slots, at least one
  pub record IsQueue (slots : List (Option X)) (head tail : ℕ) (items : List X) : Type 0 where
    pub some : IsSize (length slots)
    pub within : head < length slots
    pub room : length items < length slots
    pub next : tail ≡ (head + length items) % length slots
    pub order : slots_from head slots ≡ map Some items ++ replicate (length slots - length items) None
