-- What the effects of a ticket found is what its completion carries.
use Rattle.std.proofs.Common.{◌≡◌, ℕ, zero, suc, ◌+◌, ◌-◌, ◌≤◌, ◌<◌, Bool, true, false, ◌&&◌, cond, List, [], ◌∷◌, ◌++◌}
use Rattle.std.proofs.Common.{length, refl, sym, ap, ap₂, ◌∙◌, Option, Some, None, is_some, inl, inr, arith, eqb}
use Rattle.std.proofs.Common.{eqb-true, nat_lt, lt-ltb, add-one, slice_get}
use Rattle.std.specs.List.{flat_map}
use Rattle.std.proofs.lemmas.List.{append-nil, append_assoc}
use Rattle.std.proofs.lemmas.Bool.{and_parts, cases_lt, lt-leb}
use Rattle.nvme_model.specs.declared.array.Range.{Range}
use Rattle.nvme_model.specs.declared.config.ConfigNumbers.{ConfigNumbers}
use Rattle.nvme_model.specs.declared.entry.Entry.{Entry}
use Rattle.nvme_model.specs.declared.operation.Op.{Op}
use Rattle.nvme_model.specs.declared.status.Status.{Status}
use Rattle.nvme_model.specs.Array.{blocks_from}
use Rattle.nvme_model.specs.History.{Past}
use Rattle.nvme_model.specs.Legal.{IsLegal}
use Rattle.nvme_model.specs.Open.{unit_range}
use Rattle.nvme_model.specs.Operations.{op, units}
use Rattle.nvme_model.specs.Owed.{completion_data, contents_at, numbered_units, read_data_by}
use Rattle.nvme_model.specs.Placed.{effect}
use Rattle.nvme_model.specs.Statuses.{is_success}
use Rattle.nvme_model.specs.Tickets
use Rattle.nvme_model.specs.Tickets.{Ticket}
use Rattle.nvme_model.specs.Value.{value}
use Rattle.history_check.specs.Effects.{found, placed, read_at, does_read}
use Rattle.history_check.specs.Judged.{checked_data, read_by}
use Rattle.history_check.specs.Tables.{flight}
use Rattle.nvme_model.proofs.NextPost.{granted_unit, same_range}
use Rattle.nvme_model.proofs.Pairs.{marked_here}
use Rattle.nvme_model.proofs.Rules.{follows}
use Rattle.nvme_model.proofs.StepCounts.{grants_within}
use Rattle.nvme_model.proofs.Posted.{flat_none}
use Rattle.history_check.proofs.Placing.{stays, effect_placed, effect_granted, marked_may}

-- ---- the pieces of a list, by number

abbrev pub pieces : (ℕ → List ℕ) → ℕ → ℕ → List ℕ
pieces g v zero = []
pieces g v (suc n) = g v ++ pieces g (suc v) n

pieces_more : (g : ℕ → List ℕ) (v n : ℕ) → pieces g v (suc n) ≡ pieces g v n ++ g (v + n)
pieces_more g v zero = append-nil (g v) ∙ ap g same
  where
    same : v ≡ v + 0
    same = omega arith
pieces_more g v (suc n) =
    ap (λ (ys : List ℕ). g v ++ ys) (pieces_more g (suc v) n ∙ ap (λ m. pieces g (suc v) n ++ g m) same)
    ∙ sym (append_assoc (g v) (pieces g (suc v) n) (g (v + suc n)))
  where
    same : suc v + n ≡ v + suc n
    same = omega arith

pieces_same : (g k : ℕ → List ℕ) (v n : ℕ) → ((u : ℕ) → u < v + n → g u ≡ k u) → pieces g v n ≡ pieces k v n
pieces_same g k v zero h = refl
pieces_same g k v (suc n) h =
    ap₂ (λ (xs ys : List ℕ). xs ++ ys) (h v (omega arith)) (pieces_same g k (suc v) n (λ u l. h u (omega (arith, l))))

-- without those that are empty
pieces_few : (g : ℕ → List ℕ) (p m : ℕ) → ((u : ℕ) → p ≤ u → g u ≡ []) → pieces g 0 (m + p) ≡ pieces g 0 p
pieces_few g p zero h = ap (pieces g 0) same
  where
    same : 0 + p ≡ p
    same = omega arith
pieces_few g p (suc m) h =
    ap (pieces g 0) same ∙ pieces_more g 0 (m + p)
    ∙ ap (λ (ys : List ℕ). pieces g 0 (m + p) ++ ys) (h (0 + (m + p)) (omega arith))
    ∙ append-nil (pieces g 0 (m + p)) ∙ pieces_few g p m h
  where
    same : suc m + p ≡ suc (m + p)
    same = omega arith

-- ---- what a unit's effect found

abbrev pub at_effect : Option Past → Ticket → Range → List ℕ
at_effect o k r = cond (does_read (op k)) (flat_map (contents_at o) (blocks_from r.slba r.blocks)) []

abbrev pub piece : Past → ℕ → ℕ → List ℕ
piece past t u = at_effect (effect past t u) (Tickets.ticket past t) (unit_range past t u)

no_piece : (o : Option Past) (k : Ticket) (r : Range) → is_some o ≡ false → at_effect o k r ≡ []
no_piece None k r e = ap (λ (xs : List ℕ). cond (does_read (op k)) xs []) (flat_none (blocks_from r.slba r.blocks))
    ∙ go (does_read (op k))
  where
    go : (x : Bool) → ◌≡◌ {A = List ℕ} (cond x [] []) []
    go true = refl
    go false = refl
no_piece (Some before) k r e = absurd (let f : true ≡ false = e in cc)

has_effect : (c : ConfigNumbers) (past : Past) (t u : ℕ) → IsLegal c past → u < placed past t
    → is_some (effect past t u) ≡ true
has_effect c past t u h l = effect_placed c past t u h ∙ lt-ltb u (placed past t) l

keeps : (c : ConfigNumbers) (past : Past) (e : Entry) (t u : ℕ) → IsLegal c (e ∷ past) → IsLegal c past
    → u < 0 + placed past t → piece (e ∷ past) t u ≡ piece past t u
keeps c past e t u h before l =
    let m = stays c past e t u h (has_effect c past t u before (omega (arith, l))) in
    (λ i. at_effect (m.effect i) (m.ticket i) (m.range i))

kept_pieces : (c : ConfigNumbers) (past : Past) (e : Entry) (t : ℕ) → IsLegal c (e ∷ past)
    → found past t ≡ pieces (piece past t) 0 (placed past t)
    → found past t ≡ pieces (piece (e ∷ past) t) 0 (placed past t)
kept_pieces c past e t h ih = ih
    ∙ sym (pieces_same (piece (e ∷ past) t) (piece past t) 0 (placed past t)
    (λ u l. keeps c past e t u h (follows c past e h).before l))

pub found_pieces : (c : ConfigNumbers) (past : Past) (t : ℕ) → IsLegal c past
    → found past t ≡ pieces (piece past t) 0 (placed past t)
found_pieces c [] t h = refl
found_pieces c (Entry.Block b ∷ past) t h =
    let w = follows c past (Entry.Block b) h in
    go (b.effect && eqb b.ticket t) refl (kept_pieces c past (Entry.Block b) t h (found_pieces c past t w.before))
  where
    later : Past
    later = Entry.Block b ∷ past

    r : Range
    r = unit_range past b.ticket b.unit

    here : (b.effect && eqb b.ticket t) ≡ true
        → read_at (value past) (Tickets.ticket past b.ticket) r ≡ piece later t (0 + placed past t)
    here e =
        let a = and_parts b.effect (eqb b.ticket t) e in
        let same = eqb-true b.ticket t a.1 in
        let at : b.unit ≡ 0 + placed past t = marked_may c past b h a.0 ∙ ap (placed past) same
        ∙ zero_more (placed past t) in
        ap (λ (o : Option Past). at_effect o (Tickets.ticket past b.ticket) r) (sym (marked_here past b a.0))
        ∙ ap₂ (piece later) same at
      where
        zero_more : (n : ℕ) → n ≡ 0 + n
        zero_more n = omega arith

    go : (x : Bool) → (b.effect && eqb b.ticket t) ≡ x → found past t ≡ pieces (piece later t) 0 (placed past t)
        → found past t ++ cond x (read_at (value past) (Tickets.ticket past b.ticket) r) []
        ≡ pieces (piece later t) 0 (placed past t + cond x 1 0)
    go true e ih =
        ap₂ (λ (xs ys : List ℕ). xs ++ ys) ih (here e) ∙ sym (pieces_more (piece later t) 0 (placed past t))
        ∙ ap (pieces (piece later t) 0) (sym (add-one (placed past t)))
    go false e ih = append-nil (found past t) ∙ ih ∙ ap (pieces (piece later t) 0) (no_more (placed past t))
      where
        no_more : (n : ℕ) → n ≡ n + 0
        no_more n = omega arith
found_pieces c (Entry.Publish e ∷ past) t h =
    kept_pieces c past (Entry.Publish e) t h (found_pieces c past t (follows c past (Entry.Publish e) h).before)
found_pieces c (Entry.Fetch e ∷ past) t h =
    kept_pieces c past (Entry.Fetch e) t h (found_pieces c past t (follows c past (Entry.Fetch e) h).before)
found_pieces c (Entry.Grant e ∷ past) t h =
    kept_pieces c past (Entry.Grant e) t h (found_pieces c past t (follows c past (Entry.Grant e) h).before)
found_pieces c (Entry.Post e ∷ past) t h =
    kept_pieces c past (Entry.Post e) t h (found_pieces c past t (follows c past (Entry.Post e) h).before)
found_pieces c (Entry.Reap e ∷ past) t h =
    kept_pieces c past (Entry.Reap e) t h (found_pieces c past t (follows c past (Entry.Reap e) h).before)

-- ---- over the units of the ticket

flat_pieces : (f : ℕ × Range → List ℕ) (g : ℕ → List ℕ) (v : ℕ) (rs : List Range)
    → ((i j : ℕ) (r : Range) → slice_get rs i ≡ Some r → j ≡ v + i → f (j, r) ≡ g j)
    → flat_map f (numbered_units v rs) ≡ pieces g v (length rs)
flat_pieces f g v [] h = refl
flat_pieces f g v (r ∷ rs) h =
    ap₂ (λ (xs ys : List ℕ). xs ++ ys) (h 0 v r refl (omega arith))
    (flat_pieces f g (suc v) rs (λ i j s e m. h (suc i) j s e (omega (arith, m))))

unit_piece : (c : ConfigNumbers) (past : Past) (t u : ℕ) (r : Range) → IsLegal c past
    → slice_get (units c (Tickets.ticket past t)) u ≡ Some r
    → at_effect (effect past t u) (Tickets.ticket past t) r ≡ piece past t u
unit_piece c past t u r h e = go (is_some (effect past t u)) refl
  where
    go : (x : Bool) → is_some (effect past t u) ≡ x
        → at_effect (effect past t u) (Tickets.ticket past t) r ≡ piece past t u
    go false n = no_piece (effect past t u) (Tickets.ticket past t) r n
        ∙ sym (no_piece (effect past t u) (Tickets.ticket past t) (unit_range past t u) n)
    go true s =
        let x = granted_unit c past t u h (effect_granted c past t u h s) in
        let same : r ≡ unit_range past t u = same_range r x.0.range (sym e ∙ x.1.at) ∙ sym x.1.facts.range
        ∙ ap₂ (unit_range past) x.1.ticket x.1.unit in
        ap (at_effect (effect past t u) (Tickets.ticket past t)) same

placed_within : (c : ConfigNumbers) (past : Past) (t : ℕ) → IsLegal c past
    → placed past t ≤ length (units c (Tickets.ticket past t))
placed_within c past t h = elim (cases_lt (length (units c (Tickets.ticket past t))) (placed past t)) [
  | inr l ↦ l
  | inl l ↦
      let u = length (units c (Tickets.ticket past t)) in
      absurd (omega (arith, effect_granted c past t u h (has_effect c past t u h l), grants_within c past t h))
]

pub found_is : (c : ConfigNumbers) (past : Past) (t : ℕ) → IsLegal c past → op (Tickets.ticket past t) ≡ Some Op.Read
    → read_data_by c past t (Some Op.Read) ≡ found past t
found_is c past t h reading =
    let rs = units c (Tickets.ticket past t) in
    let p = placed past t in
    let n : length rs ≡ (length rs - p) + p = omega (arith, placed_within c past t h) in
    flat_pieces (λ u. flat_map (contents_at (effect past t u.0)) (blocks_from u.1.slba u.1.blocks)) (piece past t) 0 rs
    (λ i j r e m. one i j r e (omega (arith, m)))
    ∙ ap (pieces (piece past t) 0) n
    ∙ pieces_few (piece past t) p (length rs - p)
    (λ u l. no_piece (effect past t u) (Tickets.ticket past t) (unit_range past t u)
    (effect_placed c past t u h ∙ not_below u p l))
    ∙ sym (found_pieces c past t h)
  where
    one : (i j : ℕ) (r : Range) → slice_get (units c (Tickets.ticket past t)) i ≡ Some r → j ≡ i
        → flat_map (contents_at (effect past t j)) (blocks_from r.slba r.blocks) ≡ piece past t j
    one i j r e m =
        sym (ap (λ o. cond (does_read o) (flat_map (contents_at (effect past t j)) (blocks_from r.slba r.blocks)) [])
        reading)
        ∙ unit_piece c past t j r h (ap (slice_get (units c (Tickets.ticket past t))) m ∙ e)

    not_below : (u p : ℕ) → p ≤ u → nat_lt u p ≡ false
    not_below u p l = lt-leb (suc u) p (omega (arith, l))

-- ---- the data of a completion

pub data_is : (c : ConfigNumbers) (past : Past) (t : ℕ) (s : Status) → IsLegal c past
    → completion_data c past t s ≡ checked_data (flight past t) s
data_is c past t s h = ap (λ (xs : List ℕ). cond (is_success s) xs [])
    (go (op (Tickets.ticket past t)) (found_is c past t h))
  where
    go : (o : Option Op) → (o ≡ Some Op.Read → read_data_by c past t (Some Op.Read) ≡ found past t)
        → read_data_by c past t o ≡ read_by o (found past t)
    go None e = refl
    go (Some Op.Read) e = e refl
    go (Some Op.Compare) e = refl
    go (Some Op.Write) e = refl
    go (Some Op.WriteZeroes) e = refl
    go (Some Op.Pair) e = refl
