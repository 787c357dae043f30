-- What it says that an entry may follow.
use Rattle.std.proofs.Common.{◌≡◌, ℕ, ◌+◌, Bool, true, false, cond, List, [], ◌∷◌, refl, ap₂, Option, Some, None}
use Rattle.std.proofs.Common.{is_none, eqb-true}
use Rattle.std.specs.Bool.{beq}
use Rattle.std.proofs.lemmas.Bool.{and_parts, not-false, or_parts}
use Rattle.nvme_model.specs.declared.config.ConfigNumbers.{ConfigNumbers}
use Rattle.nvme_model.specs.Tables.{first_row}
use Rattle.nvme_model.specs.History.{Past, step_of}
use Rattle.nvme_model.specs.Tickets.{ticket, in_flight, tickets}
use Rattle.nvme_model.specs.Operations.{mode, is_exclusive}
use Rattle.nvme_model.specs.Open.{grants_of}
use Rattle.nvme_model.specs.Refusals.{refusal, conditions, none_left, has_open, conflicts_open, next_unit}
use Rattle.nvme_model.specs.Legal.{fits, IsLegal, is_range}
use Rattle.nvme_model.specs.declared.array.Range.{Range}
use Rattle.nvme_model.specs.declared.entry.GrantLine.{GrantLine}
use Rattle.nvme_model.specs.declared.entry.FetchLine.{FetchLine}
use Rattle.nvme_model.specs.declared.entry.Entry.{Entry}

abbrev pub NoneHolds : {A : Type 0} → List (Bool × A) → Type 0
NoneHolds [] = Unit {0}
NoneHolds (row ∷ rows) = (row.0 ≡ false) × NoneHolds rows

none_here : {A : Type 0} (b : Bool) (n : A) (rest : Option A) → is_none (cond b (Some n) rest) ≡ true
    → (b ≡ false) × (is_none rest ≡ true)
none_here true n rest h = cc
none_here false n rest h = (refl, h)

pub none_holds : {A : Type 0} (rows : List (Bool × A)) → is_none (first_row rows) ≡ true → NoneHolds rows
none_holds [] h = tt
none_holds (row ∷ rows) h =
    let e = none_here row.0 row.1 (first_row rows) h in
    (e.0, none_holds rows e.1)

-- the parts of a legal history's last step
pub record Follows (c : ConfigNumbers) (past : Past) (e : Entry) : Type 0 where
  pub before : IsLegal c past
  pub allowed : NoneHolds (conditions c past (step_of e))
  pub fits : fits c past e ≡ true

pub follows : (c : ConfigNumbers) (past : Past) (e : Entry) → IsLegal c (e ∷ past) → Follows c past e
follows c past e h =
    let a = and_parts _ _ h in
    let b = and_parts (is_none (refusal c past (step_of e))) (fits c past e) a.1 in
    record { before = a.0; allowed = none_holds _ b.0; fits = b.1 }

-- ---- each kind of entry

pub fetch_number : (c : ConfigNumbers) (past : Past) (f : FetchLine) → IsLegal c (Entry.Fetch f ∷ past)
    → f.ticket ≡ tickets past + 1
fetch_number c past f h = eqb-true _ _ (and_parts _ _ (follows c past (Entry.Fetch f) h).fits).0

-- what a Grant says
pub record MayGrant (c : ConfigNumbers) (past : Past) (g : GrantLine) : Type 0 where
  pub in_flight : in_flight past g.ticket ≡ true
  pub left : none_left c past g.ticket ≡ false
  pub closed : has_open past g.ticket ≡ false
  pub apart : conflicts_open past (mode (ticket past g.ticket)) (next_unit c past g.ticket) ≡ false
  pub unit : g.unit ≡ grants_of past g.ticket
  pub range : next_unit c past g.ticket ≡ Some g.range
  pub same_mode : is_exclusive g.mode ≡ is_exclusive (mode (ticket past g.ticket))

abbrev of_numbers : ℕ → ℕ → Option Range
of_numbers n m = Some (record { slba = n; blocks = m })

is_range_some : (o : Option Range) (r : Range) → is_range o r ≡ true → o ≡ Some r
is_range_some None r h = cc
is_range_some (Some s) r h =
    let a = and_parts _ _ h in
    ap₂ of_numbers (eqb-true _ _ a.0) (eqb-true _ _ a.1)

same_bool : (a b : Bool) → beq a b ≡ true → a ≡ b
same_bool true true h = refl
same_bool true false h = cc
same_bool false true h = cc
same_bool false false h = refl

pub may_grant : (c : ConfigNumbers) (past : Past) (g : GrantLine) → IsLegal c (Entry.Grant g ∷ past) → MayGrant c past g
may_grant c past g h =
    let f = follows c past (Entry.Grant g) h in
    let a = and_parts _ _ f.fits in
    let b = and_parts _ _ a.0 in
    let none = or_parts _ _ f.allowed.1.0 in
    record {
      in_flight = not-false _ f.allowed.0;
      left = none.0;
      closed = none.1;
      apart = f.allowed.1.1.0;
      unit = eqb-true _ _ b.0;
      range = is_range_some _ _ b.1;
      same_mode = same_bool _ _ a.1;
    }
