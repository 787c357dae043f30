-- Of the contents of a volume an entry of a unit asks only for the unit's own blocks.
use Rattle.std.proofs.Common.{◌≡◌, ℕ, zero, suc, ◌+◌, ◌%◌, ◌≤◌, ◌<◌, eqb, Bool, not, ◌&&◌, ◌||◌, cond, List, [], ◌∷◌}
use Rattle.std.proofs.Common.{◌++◌, map, refl, ap, ap₂, arith, bytes_eq, Some, None}
use Rattle.std.specs.List.{list_all}
use Rattle.ticket_laws.proofs.ReadSoFar.{flat_same}
use Rattle.nvme_model.specs.declared.array.Range.{Range}
use Rattle.nvme_model.specs.declared.entry.BlockLine.{BlockLine}
use Rattle.nvme_model.specs.Answered.{may_find}
use Rattle.nvme_model.specs.Array.{blocks_from, has_block}
use Rattle.nvme_model.specs.Operations.{compare_data, has_compare, has_write, op, write_data}
use Rattle.nvme_model.specs.Tickets.{Ticket}
use Rattle.nvme_model.specs.Value.{all_equal}
use Rattle.history_check.specs.Effects.{answers_at, read_at, does_read, word_of}
use Rattle.history_check.specs.Judged.{are_right, block_fits_by, right_after}
use Rattle.history_check.specs.Tables.{CheckedTicket, CheckedUnit}
use Rattle.history_check.specs.Taken.{SameIn, blocked_flight, ends_by, value_after}

map_same : (p q : ℕ → Bool) (s n : ℕ) → ((l : ℕ) → s ≤ l → l < s + n → p l ≡ q l)
    → map p (blocks_from s n) ≡ map q (blocks_from s n)
map_same p q s zero h = refl
map_same p q s (suc n) h =
    ap₂ (λ (x : Bool) (xs : List Bool). x ∷ xs) (h s (omega arith) (omega arith))
    (map_same p q (suc s) n (λ l a b. h l (omega (arith, a)) (omega (arith, b))))

all_same : (p q : ℕ → Bool) (s n : ℕ) → ((l : ℕ) → s ≤ l → l < s + n → p l ≡ q l)
    → list_all p (blocks_from s n) ≡ list_all q (blocks_from s n)
all_same p q s zero h = refl
all_same p q s (suc n) h =
    ap₂ (λ (x xs : Bool). x && xs) (h s (omega arith) (omega arith))
    (all_same p q (suc s) n (λ l a b. h l (omega (arith, a)) (omega (arith, b))))

module _ (f g : ℕ → List ℕ) (r : Range) (h : SameIn f g r) where
  answers_same : (k : Ticket) → answers_at f k r ≡ answers_at g k r
  answers_same k = ap (λ (xs : List Bool). cond (has_compare (op k)) xs [])
      (map_same (λ l. bytes_eq (f l) (compare_data k l)) (λ l. bytes_eq (g l) (compare_data k l)) r.slba r.blocks
      (λ l a b. ap (λ (x : List ℕ). bytes_eq x (compare_data k l)) (h l a b)))

  equal_same : (k : Ticket) → all_equal f k r ≡ all_equal g k r
  equal_same k = all_same (λ l. bytes_eq (f l) (compare_data k l)) (λ l. bytes_eq (g l) (compare_data k l)) r.slba
      r.blocks (λ l a b. ap (λ (x : List ℕ). bytes_eq x (compare_data k l)) (h l a b))

  read_same : (k : Ticket) → read_at f k r ≡ read_at g k r
  read_same k = ap (λ (xs : List ℕ). cond (does_read (op k)) xs []) (flat_same f g r.slba r.blocks h)

module _ (f g : ℕ → List ℕ) (u : CheckedUnit) (h : SameIn f g u.line.range) where
  pub right_same : (x : CheckedTicket) (b : BlockLine) → right_after f x b u ≡ right_after g x b u
  right_same x b = ap (λ (xs : List Bool). cond b.effect (Some xs) u.right) (answers_same f g u.line.range h x.ticket)

  pub fits_same : (x : CheckedTicket) (b : BlockLine) → block_fits_by f x b (Some u) ≡ block_fits_by g x b (Some u)
  fits_same x b =
      ap (λ o. eqb b.unit u.line.unit && eqb b.lba (u.line.range.slba + u.made % u.line.range.blocks)
      && may_find (op x.ticket) u.line.range.blocks u.made b.found && (not b.effect || eqb b.unit x.placed)
      && are_right o (u.said ++ word_of b.found)) (right_same x b)

  pub flight_same : (x : CheckedTicket) (b : BlockLine) → blocked_flight f x b u ≡ blocked_flight g x b u
  flight_same x b =
      (λ i. record x {
        unit = cond (ends_by x b u) None
            (Some (record u { made = u.made + 1; said = u.said ++ word_of b.found; right = right_same x b i }));
        differs = (blocked_flight f x b u).differs;
        placed = (blocked_flight f x b u).placed;
        no = (b.effect && (has_compare (op x.ticket) && not (equal_same f g u.line.range h x.ticket i))) || x.no;
        found = x.found ++ cond b.effect (read_same f g u.line.range h x.ticket i) [];
      })

  pub value_same : (k : Ticket) (b : BlockLine) (l : ℕ) → f l ≡ g l
      → value_after f b k u.line.range l ≡ value_after g b k u.line.range l
  value_same k b l e =
      (λ i. cond (b.effect && has_block u.line.range l
      && (has_write (op k) && (not (has_compare (op k)) || equal_same f g u.line.range h k i))) (write_data k l)
      (e i))
