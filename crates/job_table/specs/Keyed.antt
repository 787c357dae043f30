-- Tickets by rising number, each with the key of its job.
use Rattle.std.specs.List.{filter, find, list_all, list_any}
use Rattle.std.specs.Option.{option_map}
use Rattle.std.specs.Prelude.{Bool, List, Option, Some, [], map, nat_lt, not, slice_get, true, ℕ, ◌==◌, ◌∷◌, ◌≡◌}
use Rattle.job_table.specs.declared.tickets.Keyed.{Keyed}

-- tickets with their keys, and how many may be there
pub record KeyedTickets : Type 0 where
  pub limit : ℕ
  pub keyed : List Keyed

-- the tickets in order
abbrev pub tickets_of : List Keyed → List ℕ
tickets_of ks = map (λ k. k.ticket) ks

-- and their keys
abbrev pub keys_of : List Keyed → List ℕ
keys_of ks = map (λ k. k.key) ks

-- the ticket is there
abbrev pub has_ticket : List Keyed → ℕ → Bool
has_ticket ks t = list_any (λ k. k.ticket == t) ks

-- the key of a ticket that is there
abbrev pub key_of : List Keyed → ℕ → Option ℕ
key_of ks t = option_map (λ k. k.key) (find (λ k. k.ticket == t) ks)

-- the other tickets
abbrev pub keyed_beside : List Keyed → ℕ → List Keyed
keyed_beside ks t = filter (λ k. not (k.ticket == t)) ks

-- each ticket is below t
abbrev pub all_below : ℕ → List Keyed → Bool
all_below t ks = list_all (λ k. nat_lt k.ticket t) ks

-- each number is above t
abbrev pub all_above : ℕ → List ℕ → Bool
all_above t ts = list_all (λ u. nat_lt t u) ts

-- each number is below all later ones
abbrev pub AreRising : List ℕ → Type 0
AreRising [] = Unit {0}
AreRising (t ∷ ts) = (all_above t ts ≡ true) × AreRising ts

-- the tickets rise
abbrev pub AreKeyedRising : List Keyed → Type 0
AreKeyedRising ks = AreRising (tickets_of ks)

-- the ticket is there, with so many lower ones
abbrev pub IsAtPlace : List Keyed → ℕ → ℕ → Type 0
IsAtPlace ks t i = slice_get (tickets_of ks) i ≡ Some t
