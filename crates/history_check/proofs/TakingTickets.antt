-- The tables of tickets behind one entry more.
use Rattle.std.proofs.Common.{◌≡◌, ◌≢◌, ℕ, Bool, true, false, cond, List}
use Rattle.std.proofs.Common.{option_map, refl, ap, ◌∙◌, Option, Some, None}
use Rattle.std.proofs.Common.{eqb, eqb-true, eq-eqb}
use Rattle.std.specs.List.{find}
use Rattle.nvme_model.specs.declared.entry.GrantLine.{GrantLine}
use Rattle.nvme_model.specs.History.{Past}
use Rattle.history_check.specs.Tables.{CheckedTicket, flight, checked_unit_of}
use Rattle.history_check.specs.Taken.{with_flight}
use Rattle.nvme_model.proofs.Lists.{each_all, each_find}
use Rattle.nvme_model.proofs.Cut.{clash}

-- ---- tables of tickets

pub flights_are : (later past : Past) (t : ℕ) (f : CheckedTicket) → flight later t ≡ f
    → ((u : ℕ) → u ≢ t → flight later u ≡ flight past u) → flight later ≡ with_flight (flight past) t f
flights_are later past t f here other = (λ i u. go u (eqb u t) refl i)
  where
    go : (u : ℕ) (x : Bool) → eqb u t ≡ x → flight later u ≡ cond x f (flight past u)
    go u true e = ap (flight later) (eqb-true u t e) ∙ here
    go u false e = other u (λ q. clash (eqb u t) (eq-eqb u t q) e)

-- the unit that is found is of the ticket
pub found_ticket : (t : ℕ) (gs : List GrantLine) (g : GrantLine) → find (λ x. eqb x.ticket t) gs ≡ Some g → g.ticket ≡ t
found_ticket t gs g e = eqb-true g.ticket t
    (each_find (λ x. Unit {0}) (λ x. eqb x.ticket t) gs g (each_all (λ x. Unit {0}) (λ x. tt) gs) e).1

-- units of other tickets stay
pub unit_kept : (later past : Past) (o : Option GrantLine)
    → ((g : GrantLine) → o ≡ Some g → checked_unit_of later g ≡ checked_unit_of past g)
    → option_map (checked_unit_of later) o ≡ option_map (checked_unit_of past) o
unit_kept later past None f = refl
unit_kept later past (Some g) f = ap (λ u. Some u) (f g refl)
