-- A takeover whose dead name doesn't hold the slot differs; once a name is taken, it never holds the slot again.
use Rattle.nvme_model.specs.Tickets
use Rattle.std.proofs.Common.{◌≡◌, ℕ, suc, Bool, true, false, not, ◌&&◌, ◌∷◌, refl, sym, ap, ◌∙◌}
use Rattle.std.proofs.Common.{subst, Option, Some, None, inl, inr, arith, eq-eqb, eqb, slice_get}
use Rattle.std.proofs.lemmas.Bool.{and_from, cases_eq}
use Rattle.nvme_model.specs.Answered.{no_at}
use Rattle.nvme_model.specs.History.{Past}
use Rattle.nvme_model.specs.Legal.{IsLegal}
use Rattle.nvme_model.specs.Open.{unit_range}
use Rattle.nvme_model.specs.Operations.{has_compare, op}
use Rattle.nvme_model.specs.Placed.{effect}
use Rattle.nvme_model.specs.Queues.{published_entries}
use Rattle.nvme_model.specs.Slots.{Name, fetched_before, holder, name_of}
use Rattle.nvme_model.specs.Tickets.{Ticket, command, first_fields}
use Rattle.nvme_model.specs.Value.{all_equal, value}
use Rattle.nvme_model.specs.Verdict.{taken_entries}
use Rattle.nvme_model.specs.declared.array.Range.{Range}
use Rattle.nvme_model.specs.declared.config.ConfigNumbers.{ConfigNumbers}
use Rattle.nvme_model.specs.declared.entry.Entry.{Entry}
use Rattle.nvme_model.specs.declared.operation.Op.{Op}
use Rattle.nvme_model.specs.declared.status.Verdict.{Verdict}
use Rattle.nvme_model.specs.declared.submission.Submission.{Submission}
use Rattle.nvme_model.proofs.Beginnings.{earlier}
use Rattle.nvme_model.proofs.Cut.{clash}
use Rattle.host_laws.specs.Calls.{PairDiffers, takes, yes_at}
use Rattle.host_laws.proofs.Calls.{takes_parts}
use Rattle.host_laws.proofs.Discipline.{InArea}
use Rattle.host_laws.proofs.Elements.{In, each_in, same_some}
use Rattle.host_laws.proofs.SwapTickets.{on_one}
use Rattle.host_laws.proofs.Taken.{ticket_taken}
use Rattle.host_laws.proofs.Verdicts.{VerdictIs, fuse, one_not_two}
use Rattle.host_laws.specs.Effects.{HasEffect}
use Rattle.host_laws.specs.Rules.{takeover_disciplined}
use Rattle.host_laws.specs.Takeovers.{Takeover, is_taken, takeovers}
use Rattle.host_laws.proofs.TakeoverDiscipline.{kept_earlier}
use Rattle.host_laws.proofs.Effects.{takeover_pair, yes_effect}
use Rattle.host_laws.proofs.Entries.{EntryPair, TakeoverOf, takeovers_are}
use Rattle.host_laws.proofs.Givers.{lost_at, lost_on}
use Rattle.host_laws.proofs.Taking.{taken_parts, took_parts}
use Rattle.host_laws.proofs.Releases.{pair_op}

-- ---- the entries of a pair's ticket

-- those that a pair's ticket took
pub record Pairs (past : Past) (t q j : ℕ) : Type 0 where
  pub number : fetched_before past t ≡ j
  pub first : slice_get (published_entries past q) j ≡ Some (command (Tickets.ticket past t) 0)
  pub second : slice_get (published_entries past q) (suc j) ≡ Some (command (Tickets.ticket past t) 1)

pub pairs : (c : ConfigNumbers) (past : Past) (t q j l : ℕ) → IsLegal c past → takes past t q j ≡ true
    → op (Tickets.ticket past t) ≡ Some Op.Pair → EntryPair (published_entries past q) j l → Pairs past t q j
pairs c past t q j l h k p e =
    let x = takes_parts past t q j k in
    let tk = Tickets.ticket past t in
    let v = pair_op tk.verdict (first_fields tk) p in
    let f = ticket_taken c past t h x.some x.known in
    let pair = subst (λ (w : Verdict). VerdictIs w (command tk 0) (command tk 1)) v f.verdict in
    let second : slice_get (published_entries past q) (suc (fetched_before past t)) ≡ Some (command tk 1) =
    subst (λ (r : ℕ). slice_get (published_entries past r) (suc (fetched_before past t)) ≡ Some (command tk 1)) x.queue
    (f.second (ap taken_entries v)) in
    let first : slice_get (published_entries past q) (fetched_before past t) ≡ Some (command tk 0) =
    subst (λ (r : ℕ). slice_get (published_entries past r) (fetched_before past t) ≡ Some (command tk 0)) x.queue
    f.first in
    let two : taken_entries tk.verdict ≡ 2 = ap taken_entries v in
    elim (cases_eq (fetched_before past t) j) [
      | inl n ↦ record {
        number = n;
        first = ap (slice_get (published_entries past q)) (sym n) ∙ first;
        second = ap (λ (m : ℕ). slice_get (published_entries past q) (suc m)) (sym n) ∙ second;
      }
      | inr n ↦
          let m : j ≡ suc (fetched_before past t) = omega (arith, n, x.low, x.high, two) in
          let same = same_some e.old (command tk 1) (slice_get (published_entries past q) j) e.first
          (ap (slice_get (published_entries past q)) m ∙ second) in
          clash (eqb (fuse e.old) 2) (ap (λ (z : Submission). eqb (fuse z) 2) same ∙ pair.second)
          (one_not_two (fuse e.old) (on_one e.old e.new e.pair).first)
    ]

takeover_entries : (past : Past) (w : Takeover) → In w (takeovers past)
    → EntryPair (published_entries past w.queue) w.number w.lba
takeover_entries past w i = (each_in (TakeoverOf past) (takeovers past) w (takeovers_are past) i).entries

-- ---- a takeover whose dead name doesn't hold the slot differs

-- a pair's effect says yes or no
yes_or_no : (o : Option Past) (k : Ticket) (r : Range) (e : Past) → o ≡ Some e → op k ≡ Some Op.Pair
    → (yes_at o k r ≡ true → ⊥) → no_at o k r ≡ true
yes_or_no None k r e s p f = absurd (let g : None ≡ Some e = s in cc)
yes_or_no (Some x) k r e s p f = go (all_equal (value x) k r) refl
  where
    go : (b : Bool) → all_equal (value x) k r ≡ b → (has_compare (op k) && not (all_equal (value x) k r)) ≡ true
    go true m = absurd (f (and_from _ _ (ap has_compare p) m))
    go false m = and_from _ _ (ap has_compare p) (ap not m)

pub not_held_differs : (c : ConfigNumbers) (past : Past) (w : Takeover) (e : HasEffect past w.queue w.number)
    → IsLegal c past → In w (takeovers past) → (holder e.before w.lba ≡ Some w.dead → ⊥)
    → PairDiffers past w.queue w.number
not_held_differs c past w e h i lost =
    let x = pairs c past e.ticket w.queue w.number w.lba h e.takes e.pair (takeover_entries past w i) in
    let p = takeover_pair past e.ticket w i e.pair x.first x.second in
    record {
      ticket = e.ticket;
      takes = e.takes;
      first = x.first;
      second = x.second;
      pair = e.pair;
      no = yes_or_no (effect past e.ticket 0) (Tickets.ticket past e.ticket) (unit_range past e.ticket 0) e.before
          e.effect e.pair (λ y.
          let f = yes_effect c past e.ticket w.lba h e.pair y p.slba p.one in
          let same = same_some f.before e.before (effect past e.ticket 0) f.effect e.effect in
          lost (subst (λ (z : Past). holder z w.lba ≡ Some w.dead) same (ap name_of f.old ∙ p.bytes.dead)));
    }

-- ---- once a name is taken, it never holds the slot again

apart_names : (n m : Name) → eqb n.host m.host ≡ false → n ≡ m → ⊥
apart_names n m f e = clash (eqb n.host m.host) (eq-eqb n.host m.host (ap (λ (x : Name). x.host) e)) f

pub taken_gone : (c : ConfigNumbers) (slots : Range) (past : Past) (l : ℕ) (n : Name) → IsLegal c past
    → takeover_disciplined c slots past ≡ true → InArea slots l → is_taken past l n ≡ true → holder past l ≡ Some n
    → ⊥
taken_gone c slots past l n h d a t =
    let x = taken_parts past l n t in
    let w = x.takeover in
    let k = took_parts past w.queue w.number x.took in
    let y = pairs c past k.ticket w.queue w.number w.lba h k.takes k.pair (takeover_entries past w x.there) in
    let p = takeover_pair past k.ticket w x.there k.pair y.first y.second in
    let e = yes_effect c past k.ticket w.lba h k.pair k.yes p.slba p.one in
    let apart = (each_in (TakeoverOf past) (takeovers past) w (takeovers_are past) x.there).apart in
    let legal = subst (λ (z : Past). IsLegal c z) e.is h in
    let kept = subst (λ (z : Past). takeover_disciplined c slots z ≡ true) e.is d in
    let from : holder e.before l ≡ Some n =
    subst (λ (i : ℕ). holder e.before i ≡ Some n) x.lba (ap name_of e.old ∙ (p.bytes.dead ∙ ap Some x.dead)) in
    let to : holder (Entry.Block e.block ∷ e.before) l ≡ Some w.name =
    subst (λ (i : ℕ). holder (Entry.Block e.block ∷ e.before) i ≡ Some w.name) x.lba (ap name_of e.new
    ∙ p.bytes.name) in
    let lost = lost_at c slots e.before e.block l n w.name (earlier c e.later (Entry.Block e.block ∷ e.before) legal)
    (kept_earlier c slots e.later (Entry.Block e.block ∷ e.before) kept) a from to
    (λ q. apart_names w.dead w.name apart (x.dead ∙ q)) in
    subst (λ (z : Past). holder z l ≡ Some n → ⊥) (sym e.is)
    (lost_on c slots e.later (Entry.Block e.block ∷ e.before) l n legal kept a lost).lost
