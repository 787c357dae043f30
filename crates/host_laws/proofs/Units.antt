-- What stays of the units of a ticket once each has its effect.
use Rattle.nvme_model.specs.Tickets
use Rattle.std.proofs.Common.{◌≡◌, ℕ, Bool, true, false, ◌||◌, List, [], ◌∷◌, ◌++◌, refl, sym, ap, ap₂, ◌∙◌, subst}
use Rattle.std.proofs.Common.{Option, Some, None, is_some, inl, inr}
use Rattle.std.specs.List.{list_any, list_all, flat_map}
use Rattle.std.proofs.lemmas.Bool.{and_parts, and_from, or_parts, or_cases, or_left, or_right}
use Rattle.nvme_model.specs.declared.config.ConfigNumbers.{ConfigNumbers}
use Rattle.nvme_model.specs.Array.{blocks_from}
use Rattle.nvme_model.specs.History.{Past}
use Rattle.nvme_model.specs.Tickets.{Ticket}
use Rattle.nvme_model.specs.Operations.{op, units, has_compare}
use Rattle.nvme_model.specs.Open.{unit_range}
use Rattle.nvme_model.specs.Placed.{effect}
use Rattle.host_laws.specs.Calls.{says_yes, IsDone}
use Rattle.nvme_model.specs.Answered.{says_no, no_at}
use Rattle.nvme_model.specs.Owed.{some_no, units_of, read_data_by, contents_at, numbered_units}
use Rattle.nvme_model.specs.Legal.{IsLegal}
use Rattle.nvme_model.specs.declared.array.Range.{Range}
use Rattle.nvme_model.specs.declared.operation.Op.{Op}
use Rattle.host_laws.proofs.Elements.{any_in}
use Rattle.host_laws.proofs.Outcomes.{not_no}
use Rattle.host_laws.proofs.Later.{effect_later, no_same, some_effect}

pub all_more : {X : Type 0} (p q : X → Bool) (xs : List X) → ((x : X) → p x ≡ true → q x ≡ true) → list_all p xs ≡ true
    → list_all q xs ≡ true
all_more p q [] f h = refl
all_more p q (x ∷ xs) f h =
    let a = and_parts (p x) (list_all p xs) h in
    and_from _ _ (f x a.0) (all_more p q xs f a.1)

pub any_same : {X : Type 0} (p q r : X → Bool) (xs : List X) → ((x : X) → p x ≡ true → q x ≡ r x) → list_all p xs ≡ true
    → list_any q xs ≡ list_any r xs
any_same p q r [] f h = refl
any_same p q r (x ∷ xs) f h =
    let a = and_parts (p x) (list_all p xs) h in
    ap₂ (λ (y z : Bool). y || z) (f x a.0) (any_same p q r xs f a.1)

flat_same : {X : Type 0} (p : X → Bool) (f g : X → List ℕ) (xs : List X) → ((x : X) → p x ≡ true → f x ≡ g x)
    → list_all p xs ≡ true → flat_map f xs ≡ flat_map g xs
flat_same p f g [] e h = refl
flat_same p f g (x ∷ xs) e h =
    let a = and_parts (p x) (list_all p xs) h in
    ap₂ (λ (y z : List ℕ). y ++ z) (e x a.0) (flat_same p f g xs e a.1)

abbrev pub Effects : ConfigNumbers → Past → ℕ → Type 0
Effects c past t = list_all (λ u. is_some (effect past t u.0)) (units_of c past t) ≡ true

pub units_later : (c : ConfigNumbers) (past all : Past) (t : ℕ) → Tickets.ticket all t ≡ Tickets.ticket past t
    → units_of c all t ≡ units_of c past t
units_later c past all t e = ap (λ (k : Ticket). numbered_units 0 (units c k)) e

pub effects_later : (c : ConfigNumbers) (later past : Past) (t : ℕ) → IsLegal c (later ++ past)
    → Tickets.ticket (later ++ past) t ≡ Tickets.ticket past t → Effects c past t → Effects c (later ++ past) t
effects_later c later past t h k e =
    subst (λ (us : List (ℕ × Range)). list_all (λ u. is_some (effect (later ++ past) t u.0)) us ≡ true)
    (sym (units_later c past (later ++ past) t k))
    (all_more (λ u. is_some (effect past t u.0)) (λ u. is_some (effect (later ++ past) t u.0)) (units_of c past t)
    (λ u s. let x = some_effect (effect past t u.0) s in ap is_some (effect_later c later past t u.0 x.0 h x.1)) e)

pub none_no_later : (c : ConfigNumbers) (later past : Past) (t : ℕ) → IsLegal c (later ++ past) → IsLegal c past
    → Tickets.ticket (later ++ past) t ≡ Tickets.ticket past t → Effects c past t
    → some_no c (later ++ past) t ≡ some_no c past t
none_no_later c later past t h l k e =
    ap (λ (us : List (ℕ × Range)). list_any (λ u. says_no (later ++ past) t u.0) us)
    (units_later c past (later ++ past) t k)
    ∙ any_same (λ u. is_some (effect past t u.0)) (λ u. says_no (later ++ past) t u.0) (λ u. says_no past t u.0)
    (units_of c past t) (λ u s. no_same c later past t u.0 h l s) e

pub reads_by : (c : ConfigNumbers) (later past : Past) (t : ℕ) (o : Option Op) → IsLegal c (later ++ past)
    → Tickets.ticket (later ++ past) t ≡ Tickets.ticket past t → Effects c past t
    → read_data_by c (later ++ past) t o ≡ read_data_by c past t o
reads_by c later past t None h k e = refl
reads_by c later past t (Some Op.Write) h k e = refl
reads_by c later past t (Some Op.WriteZeroes) h k e = refl
reads_by c later past t (Some Op.Compare) h k e = refl
reads_by c later past t (Some Op.Pair) h k e = refl
reads_by c later past t (Some Op.Read) h k e =
    ap (λ (us : List (ℕ × Range)).
    flat_map (λ u. flat_map (contents_at (effect (later ++ past) t u.0)) (blocks_from u.1.slba u.1.blocks)) us)
    (units_later c past (later ++ past) t k)
    ∙ flat_same (λ u. is_some (effect past t u.0))
    (λ u. flat_map (contents_at (effect (later ++ past) t u.0)) (blocks_from u.1.slba u.1.blocks))
    (λ u. flat_map (contents_at (effect past t u.0)) (blocks_from u.1.slba u.1.blocks)) (units_of c past t)
    (λ u s. let x = some_effect (effect past t u.0) s in
    ap (λ (o : Option Past). flat_map (contents_at o) (blocks_from u.1.slba u.1.blocks))
    (effect_later c later past t u.0 x.0 h x.1 ∙ sym x.1)) e

-- 2/85 of a Compare by itself
pub any_more : {X : Type 0} (p q : X → Bool) (xs : List X) → ((x : X) → p x ≡ true → q x ≡ true) → list_any p xs ≡ true
    → list_any q xs ≡ true
any_more p q [] f h = h
any_more p q (x ∷ xs) f h = elim (or_cases (p x) (list_any p xs) h) [
  | inl e ↦ or_left (q x) (list_any q xs) (f x e)
  | inr e ↦ or_right (q x) (list_any q xs) (any_more p q xs f e)
]

-- ---- a no is of what compares

no_compares : (o : Option Past) (k : Ticket) (r : Range) → no_at o k r ≡ true → has_compare (op k) ≡ true
no_compares None k r h = absurd (let f : false ≡ true = h in cc)
no_compares (Some e) k r h = (and_parts _ _ h).0

pub some_compares : (c : ConfigNumbers) (past : Past) (t : ℕ) → some_no c past t ≡ true
    → has_compare (op (Tickets.ticket past t)) ≡ true
some_compares c past t h =
    let x = any_in (λ u. says_no past t u.0) (units_of c past t) h in
    no_compares (effect past t x.0.0) (Tickets.ticket past t) (unit_range past t x.0.0) x.2

all_third : {X : Type 0} (p q r : X → Bool) (xs : List X) → ((x : X) → p x ≡ true → q x ≡ false → r x ≡ true)
    → list_all p xs ≡ true → list_any q xs ≡ false → list_all r xs ≡ true
all_third p q r [] f h k = refl
all_third p q r (x ∷ xs) f h k =
    let a = and_parts (p x) (list_all p xs) h in
    let b = or_parts (q x) (list_any q xs) k in
    and_from _ _ (f x a.0 b.0) (all_third p q r xs f a.1 b.1)

-- where all units have their effects and none says no, each that compares says yes
pub equal_units : (c : ConfigNumbers) (past : Past) (q j : ℕ) (bytes : List ℕ) (d : IsDone c past q j Op.Compare bytes)
    → list_all (λ u. says_yes past d.ticket u.0) (units_of c past d.ticket) ≡ true
equal_units c past q j bytes d =
    all_third (λ u. is_some (effect past d.ticket u.0)) (λ u. says_no past d.ticket u.0)
    (λ u. says_yes past d.ticket u.0) (units_of c past d.ticket)
    (λ u s n. not_no (effect past d.ticket u.0) (Tickets.ticket past d.ticket) (unit_range past d.ticket u.0) s n
    (ap has_compare d.does)) d.effects d.none_no
