-- What a history makes of a slice, and what holds at each place of it.
use Rattle.nvme_model.specs.Slots
use Rattle.nvme_model.specs.Tickets
use Rattle.std.proofs.Common.{◌≡◌, ℕ, Bool, true, false, not, ◌&&◌, cond, List, [], ◌∷◌, map, sym, ap, ◌∙◌, subst}
use Rattle.std.proofs.Common.{Option, Some, None, inl, inr, eqb, slice_get}
use Rattle.std.proofs.lemmas.Bool.{cond-false}
use Rattle.nvme_model.specs.Array.{has_block}
use Rattle.nvme_model.specs.History.{Past}
use Rattle.nvme_model.specs.Open.{unit_range}
use Rattle.nvme_model.specs.Operations.{has_compare, op, write_data}
use Rattle.nvme_model.specs.Value.{all_equal, value, writes}
use Rattle.nvme_model.specs.declared.config.ConfigNumbers.{ConfigNumbers}
use Rattle.nvme_model.specs.declared.entry.BlockLine.{BlockLine}
use Rattle.nvme_model.specs.declared.entry.Entry.{Entry}
use Rattle.host_laws.proofs.Elements.{In}
use Rattle.refutation.specs.Orders.{IsWay, held_by}
use Rattle.refutation.specs.Pieces.{Slice}
use Rattle.trace.specs.declared.options.TraceOptions.{TraceOptions}
use Rattle.trace.specs.declared.seen.Seen.{Seen}
use Rattle.refutation.specs.Apart.{held_at_first}
use Rattle.refutation.specs.EffectOrders.{EffectName}
use Rattle.refutation.specs.Slices.{piece_of, ticket_of}
use Rattle.refutation.specs.Told.{is_sure}
use Rattle.refutation.proofs.KeptEffects.{HoldsAt}
use Rattle.refutation.proofs.Outside.{OutLast, effect_named, name_at}
use Rattle.refutation.proofs.SliceLists.{number_from}

-- ---- what a history makes of a slice

-- it isn't sure, and says no
abbrev pub is_skipped : ConfigNumbers → List Seen → Past → BlockLine → Bool
is_skipped c trace past b =
    let n = name_at past b in
    not (is_sure c trace n.queue n.number n.unit)
    && (has_compare (op (ticket_of trace n))
    && not (all_equal (value past) (ticket_of trace n) (unit_range past b.ticket b.unit)))

-- the number of the piece that it is, where it is one
abbrev pub number_at : ConfigNumbers → List Seen → List EffectName → Past → BlockLine → Option ℕ
number_at c trace names past b =
    cond (b.effect && not (is_skipped c trace past b)) (number_from 0 names (name_at past b)) None

abbrev pub with_number : Option ℕ → List ℕ → List ℕ
with_number None made = made
with_number (Some i) made = i ∷ made

-- the pieces that were made, the newest first
abbrev pub made : ConfigNumbers → List Seen → List EffectName → Past → List ℕ
made c trace names [] = []
made c trace names (Entry.Block b ∷ past) = with_number (number_at c trace names past b) (made c trace names past)
made c trace names (_ ∷ past) = made c trace names past

-- the slice of these effects
abbrev pub slice_by : TraceOptions → ConfigNumbers → List Seen → List EffectName → List ℕ → Slice
slice_by options c trace names blocks = map (piece_of options c trace blocks names) names

-- ---- what holds at each place

-- each piece that was made is an effect before
abbrev pub AllMade : ConfigNumbers → List Seen → List EffectName → Past → Type 0
AllMade c trace names past = (i : ℕ) → In i (made c trace names past)
    → (n : EffectName) × (before : Past) × (slice_get names i ≡ Some n) × (effect_named past n ≡ Some before)

-- each sure effect before is made
abbrev pub SureMade : ConfigNumbers → List Seen → List EffectName → Past → Type 0
SureMade c trace names past = (i : ℕ) (n : EffectName) (before : Past) → slice_get names i ≡ Some n
    → is_sure c trace n.queue n.number n.unit ≡ true → effect_named past n ≡ Some before
    → In i (made c trace names past)

pub record Walk (options : TraceOptions) (aside : Option ℕ) (c : ConfigNumbers) (trace : List Seen)
    (names : List EffectName) (blocks : List ℕ) (past : Past) : Type 0 where
  pub way : IsWay (held_at_first options) (slice_by options c trace names blocks) (made c trace names past)
  pub all : AllMade c trace names past
  pub sure : SureMade c trace names past
  pub holds : HoldsAt
      (held_by (held_at_first options) (slice_by options c trace names blocks) (made c trace names past)) past
      (OutLast aside c trace names past) blocks

-- ---- an entry that is no effect

-- an entry that leaves pieces, effects and blocks as they were
pub carried : (options : TraceOptions) (aside : Option ℕ) (c : ConfigNumbers) (trace : List Seen)
    (names : List EffectName)
    (blocks : List ℕ) (past : Past) (e : Entry)
    → made c trace names (e ∷ past) ≡ made c trace names past
    → ((n : EffectName) → effect_named (e ∷ past) n ≡ effect_named past n)
    → ((l : ℕ) → value (e ∷ past) l ≡ value past l) → Walk options aside c trace names blocks past
    → Walk options aside c trace names blocks (e ∷ past)
carried options aside c trace names blocks past e kept same unwritten w =
    record {
      way = subst (λ (xs : List ℕ). IsWay (held_at_first options) (slice_by options c trace names blocks) xs)
          (sym kept) w.way;
      all = λ i m.
          let r = w.all i (subst (λ (xs : List ℕ). In i xs) kept m) in
          (r.0, r.1, r.2, same r.0 ∙ r.3);
      sure = λ i n before g s f.
          subst (λ (xs : List ℕ). In i xs) (sym kept) (w.sure i n before g s (sym (same n) ∙ f));
      holds = λ l h. elim (w.holds l h) [
        | inl x ↦ inl
            (ap (λ (xs : List ℕ). held_by (held_at_first options) (slice_by options c trace names blocks) xs l) kept
            ∙ (x ∙ sym (unwritten l)))
        | inr z ↦ elim z [
          | inl x ↦ inr (inl (ap (λ (xs : List ℕ).
              held_by (held_at_first options) (slice_by options c trace names blocks) xs l) kept ∙ x))
          | inr x ↦ inr (inr (record {
            by = x.by;
            other = x.other;
            before = x.before;
            is = same x.by ∙ x.is;
            may = x.may;
            out = x.out;
            wrote = unwritten l ∙ x.wrote;
            last = λ y f g s. x.last y f (sym (same y) ∙ g) s;
          }))
        ]
      ];
    }

pub same_with : (options : TraceOptions) (aside : Option ℕ) (c : ConfigNumbers) (trace : List Seen)
    (names : List EffectName)
    (blocks : List ℕ) (past : Past)
    (b : BlockLine) → b.effect ≡ false → Walk options aside c trace names blocks past
    → Walk options aside c trace names blocks (Entry.Block b ∷ past)
same_with options aside c trace names blocks past b e w = carried options aside c trace names blocks past
    (Entry.Block b) kept same unwritten w
  where
    none : (x : Bool) → b.effect ≡ false → (b.effect && x) ≡ false
    none x f = ap (λ (y : Bool). y && x) f

    kept : made c trace names (Entry.Block b ∷ past) ≡ made c trace names past
    kept = ap (λ (o : Option ℕ). with_number o (made c trace names past))
        (cond-false (b.effect && not (is_skipped c trace past b)) (number_from 0 names (name_at past b)) None
        (none (not (is_skipped c trace past b)) e))

    same : (n : EffectName) → effect_named (Entry.Block b ∷ past) n ≡ effect_named past n
    same n = ap (λ (x : Bool). cond (x && eqb (Tickets.ticket past b.ticket).queue n.queue
        && eqb (Slots.fetched_before past b.ticket) n.number && eqb b.unit n.unit) (Some past) (effect_named past n)) e

    unwritten : (l : ℕ) → value (Entry.Block b ∷ past) l ≡ value past l
    unwritten l =
        let k = Tickets.ticket past b.ticket in
        let r = unit_range past b.ticket b.unit in
        ap (λ (x : Bool). cond (x && has_block r l && writes (value past) k r) (write_data k l) (value past l)) e
