-- An effect outside a slice that left what an effect of the slice found.
use Rattle.nvme_model.specs.Tickets
use Rattle.std.proofs.Common.{◌≡◌, ℕ, ◌<◌, Bool, true, false, not, ◌&&◌, ◌||◌, List, [], ◌∷◌, ◌++◌}
use Rattle.std.proofs.Common.{append_assoc, length, refl, sym, ap, ◌∙◌, subst, Option, Some, None, arith}
use Rattle.std.specs.List.{flat_map, range_with_len}
use Rattle.std.proofs.lemmas.Bool.{and_parts}
use Rattle.std.proofs.lemmas.Option.{slice_get_within}
use Rattle.nvme_model.specs.History.{Past}
use Rattle.nvme_model.specs.Legal.{IsLegal}
use Rattle.nvme_model.specs.Open.{unit_range}
use Rattle.nvme_model.specs.Operations.{write_data}
use Rattle.nvme_model.specs.Queues.{published_entries}
use Rattle.nvme_model.specs.Slots.{fetched_before}
use Rattle.nvme_model.specs.Tickets.{Ticket, command}
use Rattle.nvme_model.specs.Value.{value}
use Rattle.nvme_model.specs.declared.config.ConfigNumbers.{ConfigNumbers}
use Rattle.nvme_model.specs.declared.entry.BlockLine.{BlockLine}
use Rattle.nvme_model.specs.declared.entry.Entry.{Entry}
use Rattle.nvme_model.specs.declared.submission.Submission.{Submission}
use Rattle.nvme_model.proofs.Beginnings.{earlier}
use Rattle.nvme_model.proofs.Cut.{clash}
use Rattle.host_laws.proofs.Elements.{In, all_in, any_in}
use Rattle.host_laws.proofs.Reaps.{published_real}
use Rattle.trace.specs.Aside.{own}
use Rattle.trace.specs.Observed.{observed}
use Rattle.trace.specs.declared.options.TraceOptions.{TraceOptions}
use Rattle.trace.specs.declared.seen.Seen.{Seen}
use Rattle.refutation.specs.Effects.{effect_by, is_effect_of}
use Rattle.refutation.specs.Lines.{published_in}
use Rattle.refutation.specs.EffectOrders.{EffectName, comes_before}
use Rattle.refutation.specs.Slices.{effects_in, effects_of_command, is_covered, is_named}
use Rattle.refutation.specs.Slices.{may_be_found, may_write, none_else, surely_writes, ticket_of}
use Rattle.refutation.specs.Told.{told_units}
use Rattle.refutation.proofs.Lines.{published_seen}
use Rattle.refutation.proofs.NamedEffects.{EffectBy, by_effect, by_here, by_later, effect_of, effect_said}
use Rattle.refutation.proofs.NamedEffects.{entries_of}
use Rattle.refutation.proofs.NamedEffects.{none_before}
use Rattle.refutation.proofs.OwnEffects.{OwnEffect, Told}
use Rattle.refutation.proofs.OwnLines.{is_other, own_published}
use Rattle.refutation.proofs.OwnOrders.{own_range, writer_other}
use Rattle.refutation.proofs.SliceLists.{in_flat, in_map, in_numbers}
use Rattle.refutation.proofs.ToldTickets.{told_effect}

-- what was before an effect by its name
abbrev pub effect_named : Past → EffectName → Option Past
effect_named past n = effect_by past n.queue n.number n.unit

-- the name of the effect that a Block entry is
abbrev pub name_at : Past → BlockLine → EffectName
name_at past b =
    record {
      queue = (Tickets.ticket past b.ticket).queue;
      number = fetched_before past b.ticket;
      unit = b.unit;
    }

pub named_here : (past : Past) (b : BlockLine) → b.effect ≡ true
    → is_effect_of past b (name_at past b).queue (name_at past b).number (name_at past b).unit ≡ true
named_here past b e =
    effect_said past b (name_at past b).queue (name_at past b).number b.unit
    (record { effect = e; queue = refl; number = refl; unit = refl })

-- ---- beginnings of a history

abbrev pub Part : Past → Past → Type 0
Part whole past = (later : Past) × (whole ≡ later ++ past)

pub part_tail : (whole : Past) (e : Entry) (past : Past) → Part whole (e ∷ past) → Part whole past
part_tail whole e past p = (p.0 ++ (e ∷ []), p.1 ∙ sym (append_assoc p.0 (e ∷ []) past))

pub part_legal : (c : ConfigNumbers) (whole past : Past) → IsLegal c whole → Part whole past → IsLegal c past
part_legal c whole past h p = earlier c p.0 past (subst (λ (x : Past). IsLegal c x) p.1 h)

pub to_whole : (c : ConfigNumbers) (whole past : Past) (n : EffectName) (before : Past) → IsLegal c whole
    → Part whole past → effect_named past n ≡ Some before → effect_named whole n ≡ Some before
to_whole c whole past n before h p e =
    subst (λ (x : Past). effect_named x n ≡ Some before) (sym p.1)
    (by_later c p.0 past n.queue n.number n.unit before (subst (λ (x : Past). IsLegal c x) p.1 h) e)

-- what was before an effect that was before another
pub from_before : (c : ConfigNumbers) (past : Past) (y n : EffectName) (before first : Past) → IsLegal c past
    → effect_named past y ≡ Some before → effect_named before n ≡ Some first → effect_named past n ≡ Some first
from_before c past y n before first h e f =
    let at = by_effect past y.queue y.number y.unit before e in
    let all : IsLegal c (at.later ++ (Entry.Block at.block ∷ before)) = subst (λ (x : Past). IsLegal c x) at.is h in
    subst (λ (x : Past). effect_named x n ≡ Some first) (sym at.is)
    (by_later c at.later (Entry.Block at.block ∷ before) n.queue n.number n.unit first all
    (by_later c (Entry.Block at.block ∷ []) before n.queue n.number n.unit first
    (earlier c at.later (Entry.Block at.block ∷ before) all) f))

-- ---- the effect of a Block entry

pub effect_here : (options : TraceOptions) (aside : Option ℕ) (c : ConfigNumbers) (whole past : Past) (b : BlockLine)
    → IsLegal c whole → Told options aside c whole → is_other aside (name_at past b).queue ≡ true
    → Part whole (Entry.Block b ∷ past) → b.effect ≡ true
    → OwnEffect aside c whole (name_at past b) past b (unit_range past b.ticket b.unit)
effect_here options aside c whole past b h d o p e =
    let n = name_at past b in
    let here = named_here past b e in
    let at : EffectBy whole n.queue n.number n.unit past = record { later = p.0; block = b; is = p.1; here = here } in
    let told = told_effect c whole (observed c whole) n.queue n.number n.unit past at h
    (published_seen c whole n.queue) in
    record {
      other = o;
      here = record {
        legal = h;
        tidy = d.tidy n.queue o;
        there = to_whole c whole (Entry.Block b ∷ past) n past h p (by_here past b n.queue n.number n.unit here);
        told = told;
        marked = e;
        range = told.range;
        same = refl;
      };
      range = own_range aside c (observed c whole) n o ∙ told.range;
    }

-- an effect of a history is one of its trace
pub in_effects : (aside : Option ℕ) (c : ConfigNumbers) (whole : Past) (n : EffectName) (before : Past)
    → IsLegal c whole
    → is_other aside n.queue ≡ true → effect_named whole n ≡ Some before
    → In n (effects_in c (own aside (observed c whole)))
in_effects aside c whole n before h o e =
    let trace = own aside (observed c whole) in
    let entries : published_entries whole n.queue ≡ published_in trace n.queue =
    published_seen c whole n.queue ∙ sym (own_published aside (observed c whole) n.queue o) in
    let at = by_effect whole n.queue n.number n.unit before e in
    let s = entries_of c whole n.queue n.number n.unit before at
    (effect_of c whole n.queue n.number n.unit before at h) in
    let told = told_effect c whole trace n.queue n.number n.unit before at h entries in
    let first = command (Tickets.ticket before at.block.ticket) 0 in
    let real = published_real c whole n.queue n.number first h s.first in
    let number : n.number < length (published_in trace n.queue) =
    subst (λ (xs : List Submission). n.number < length xs) entries
    (slice_get_within (published_entries whole n.queue) n.number first s.first) in
    let unit = slice_get_within (told_units c trace n.queue n.number) n.unit
    (unit_range before at.block.ticket at.block.unit) told.range in
    in_flat (λ q. flat_map (effects_of_command c trace q) (range_with_len 0 (length (published_in trace q))))
    (range_with_len 1 c.pairs) n.queue n (in_numbers 1 c.pairs n.queue real.0 (omega (arith, real.1)))
    (in_flat (effects_of_command c trace n.queue) (range_with_len 0 (length (published_in trace n.queue))) n.number n
    (in_numbers 0 (length (published_in trace n.queue)) n.number (omega arith) (omega (arith, number)))
    (in_map (λ u. let m : EffectName = record { queue = n.queue; number = n.number; unit = u } in m)
    (range_with_len 0 (length (told_units c trace n.queue n.number))) n.unit
    (in_numbers 0 (length (told_units c trace n.queue n.number)) n.unit (omega arith) (omega (arith, unit)))))

-- ---- the last effect that wrote a block, where it isn't of the slice

pub record OutLast (aside : Option ℕ) (c : ConfigNumbers) (trace : List Seen) (names : List EffectName) (past : Past)
    (l : ℕ)
    : Type 0 where
  pub by : EffectName
  pub other : is_other aside by.queue ≡ true
  pub before : Past
  pub is : effect_named past by ≡ Some before
  pub may : may_write c trace by l ≡ true
  pub out : is_named names by ≡ false
  pub wrote : value past l ≡ write_data (ticket_of trace by) l
  pub last : (x : EffectName) (e : Past) → effect_named past x ≡ Some e → surely_writes c trace x l ≡ true
      → effect_named e by ≡ None

-- it can't have left what fits
pub outside_clash : (options : TraceOptions) (aside : Option ℕ) (c : ConfigNumbers) (whole past : Past) (b : BlockLine)
    (names : List EffectName) (l : ℕ) (fits : List ℕ → Bool) → IsLegal c whole → Told options aside c whole
    → is_other aside (name_at past b).queue ≡ true → Part whole (Entry.Block b ∷ past)
    → b.effect ≡ true → OutLast aside c (own aside (observed c whole)) names past l
    → none_else options c (own aside (observed c whole)) names (name_at past b) l fits ≡ true
    → fits (value past l) ≡ true → ⊥
outside_clash options aside c whole past b names l fits h d o p e newest none fit =
    let trace = own aside (observed c whole) in
    let n = name_at past b in
    let y = newest.by in
    let x = (effect_here options aside c whole past b h d o p e).here in
    let tail = part_tail whole (Entry.Block b) past p in
    let legal = part_legal c whole past h tail in
    let first : effect_named past n ≡ None = none_before c past b n.queue n.number n.unit
    (part_legal c whole (Entry.Block b ∷ past) h p) (named_here past b e) in
    let there = to_whole c whole past y newest.before h tail newest.is in
    let all = all_in
    (λ m. is_named names m || not (may_be_found options c trace l m n && fits (write_data (ticket_of trace m) l)))
    (effects_in c trace) y none (in_effects aside c whole y newest.before h newest.other there) in
    let not_after : comes_before options c trace n y ≡ true → ⊥ =
    λ q.
    let f = d.order n y newest.before o newest.other q there in
    let g = from_before c past y n newest.before f.0 legal newest.is f.1 in
    none_some past n first f.0 g in
    let not_covered : is_covered options c trace l y n ≡ true → ⊥ =
    λ q.
    let w = any_in (λ m. surely_writes c trace m l && comes_before options c trace y m
    && comes_before options c trace m n)
    (effects_in c trace) q in
    let s = and_parts (surely_writes c trace w.0 l
    && comes_before options c trace y w.0) (comes_before options c trace w.0 n) w.2 in
    let t = and_parts (surely_writes c trace w.0 l) (comes_before options c trace y w.0) s.0 in
    let ow = writer_other aside c (observed c whole) w.0 l t.0 in
    let f = d.order w.0 n past ow o s.1 x.there in
    let g = d.order y w.0 f.0 newest.other ow t.1 (to_whole c whole past w.0 f.0 h tail f.1) in
    none_some f.0 y (newest.last w.0 f.0 f.1 t.0) g.0 g.1 in
    refuted (is_named names y) (may_write c trace y l) (comes_before options c trace n y)
    (is_covered options c trace l y n)
    (fits (write_data (ticket_of trace y) l)) all newest.out newest.may not_after not_covered
    (ap fits (sym newest.wrote) ∙ fit)
  where
    none_some : (q : Past) (m : EffectName) → effect_named q m ≡ None → (f : Past) → effect_named q m ≡ Some f → ⊥
    none_some q m z f g = let w : None ≡ Some f = sym z ∙ g in cc

    refuted : (named may after covered fit : Bool) → (named || not ((may && not after && not covered) && fit)) ≡ true
        → named ≡ false → may ≡ true → (after ≡ true → ⊥) → (covered ≡ true → ⊥) → fit ≡ true → ⊥
    refuted true may after covered fit a out m f g z = clash true refl out
    refuted false false after covered fit a out m f g z = clash false m refl
    refuted false true true covered fit a out m f g z = f refl
    refuted false true false true fit a out m f g z = g refl
    refuted false true false false false a out m f g z = clash false z refl
    refuted false true false false true a out m f g z = clash false a refl
