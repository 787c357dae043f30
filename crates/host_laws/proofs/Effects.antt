-- The effect of a pair that says yes, and of a takeover.
use Rattle.nvme_model.specs.Tickets
use Rattle.std.proofs.Common.{◌≡◌, ℕ, zero, suc, ◌+◌, ◌≤◌, ◌<◌, true, ◌∷◌, ◌++◌}
use Rattle.std.proofs.Common.{sym, ap, ◌∙◌, subst, subst₂, Some, inl, inr, arith}
use Rattle.std.proofs.Common.{slice_get}
use Rattle.std.proofs.lemmas.Bool.{cases_eq}
use Rattle.ticket_laws.proofs.Later.{ticket_later}
use Rattle.nvme_model.specs.EntryBytes.{block_count, slba, sqe_fields}
use Rattle.nvme_model.specs.History.{Past}
use Rattle.nvme_model.specs.Legal.{IsLegal}
use Rattle.nvme_model.specs.Open.{grants_of, unit_range}
use Rattle.nvme_model.specs.Operations.{compare_data, op, write_data}
use Rattle.nvme_model.specs.Placed.{effect}
use Rattle.nvme_model.specs.Queues.{published_entries}
use Rattle.nvme_model.specs.Slots.{name_of}
use Rattle.nvme_model.specs.Tickets.{command, first_fields, numbers_down, tickets}
use Rattle.nvme_model.specs.Value.{all_equal, value}
use Rattle.nvme_model.specs.declared.array.Range.{Range}
use Rattle.nvme_model.specs.declared.config.ConfigNumbers.{ConfigNumbers}
use Rattle.nvme_model.specs.declared.entry.BlockLine.{BlockLine}
use Rattle.nvme_model.specs.declared.entry.Entry.{Entry}
use Rattle.nvme_model.specs.declared.operation.Op.{Op}
use Rattle.nvme_model.specs.declared.submission.Submission.{Submission}
use Rattle.nvme_model.proofs.Beginnings.{earlier}
use Rattle.host_laws.specs.Calls.{PairSwaps, says_yes}
use Rattle.host_laws.proofs.Elements.{In, each_in, same_some}
use Rattle.host_laws.proofs.Later.{block_facts, effect_at, grants_later, pair_range, range_at}
use Rattle.host_laws.proofs.SwapTickets.{on_one}
use Rattle.host_laws.proofs.Won.{effect_writes, whole, yes_some}
use Rattle.host_laws.specs.Effects.{TakesOver}
use Rattle.host_laws.specs.Takeovers.{Takeover, takeovers}
use Rattle.host_laws.proofs.Entries.{TakeoverData, TakeoverOf, takeovers_are}
use Rattle.host_laws.proofs.Movers.{takeover_data}

-- the place of a pair's effect, and what lies in its block before and behind it
pub record YesEffect (past : Past) (t l : ℕ) : Type 0 where
  pub later : Past
  pub block : BlockLine
  pub before : Past
  pub is : past ≡ later ++ (Entry.Block block ∷ before)
  pub effect : effect past t 0 ≡ Some before
  pub marked : block.effect ≡ true
  pub ticket : block.ticket ≡ t
  pub unit : block.unit ≡ 0
  pub known : t ≤ tickets before
  pub same : Tickets.ticket before t ≡ Tickets.ticket past t
  pub old : value before l ≡ compare_data (Tickets.ticket past t) l
  pub new : value (Entry.Block block ∷ before) l ≡ write_data (Tickets.ticket past t) l

pub yes_effect : (c : ConfigNumbers) (past : Past) (t l : ℕ) → IsLegal c past
    → op (Tickets.ticket past t) ≡ Some Op.Pair → says_yes past t 0 ≡ true
    → slba (first_fields (Tickets.ticket past t)) ≡ l → block_count (first_fields (Tickets.ticket past t)) ≡ 1
    → YesEffect past t l
yes_effect c past t l h p y a o =
    let k = Tickets.ticket past t in
    let e = yes_some (effect past t 0) k (unit_range past t 0) y in
    let at = effect_at past t 0 e.0 e.1 in
    let all = subst (λ (x : Past). IsLegal c x) at.is h in
    let legal = earlier c at.later (Entry.Block at.block ∷ e.0) all in
    let facts = block_facts c e.0 at.block legal in
    let ke : Tickets.ticket e.0 at.block.ticket ≡ k =
    ap (Tickets.ticket e.0) at.ticket
    ∙ (sym (ticket_later c at.later (Entry.Block at.block ∷ e.0) t all (omega (arith, facts.known, at.ticket)))
    ∙ ap (λ (x : Past). Tickets.ticket x t) (sym at.is)) in
    let re = pair_range c e.0 at.block.ticket at.block.unit (ap op ke ∙ p) facts.range ∙ ap whole ke in
    let number : 0 < grants_of past t =
    subst (λ (x : Past). 0 < grants_of x t) (sym at.is)
    (grants_later at.later (Entry.Block at.block ∷ e.0) t 0
    (subst₂ (λ (x y : ℕ). y < grants_of e.0 x) at.ticket at.unit facts.number)) in
    let rb = pair_range c past t 0 p (range_at c past t 0 h number) in
    let w = effect_writes e.0 at.block k l ke re p at.effect
    (subst (λ (r : Range). all_equal (value e.0) k r ≡ true) rb e.2) a o in
    record {
      later = at.later;
      block = at.block;
      before = e.0;
      is = at.is;
      effect = e.1;
      marked = at.effect;
      ticket = at.ticket;
      unit = at.unit;
      known = omega (arith, facts.known, at.ticket);
      same = ap (Tickets.ticket e.0) (sym at.ticket) ∙ ke;
      old = w.0;
      new = w.1;
    }

-- ---- a takeover's

-- the entries of a takeover's ticket
pub record TakeoverPair (past : Past) (t : ℕ) (w : Takeover) : Type 0 where
  pub slba : slba (first_fields (Tickets.ticket past t)) ≡ w.lba
  pub one : block_count (first_fields (Tickets.ticket past t)) ≡ 1
  pub bytes : TakeoverData w (compare_data (Tickets.ticket past t) w.lba) (write_data (Tickets.ticket past t) w.lba)

pub takeover_pair : (past : Past) (t : ℕ) (w : Takeover) → In w (takeovers past)
    → op (Tickets.ticket past t) ≡ Some Op.Pair
    → slice_get (published_entries past w.queue) w.number ≡ Some (command (Tickets.ticket past t) 0)
    → slice_get (published_entries past w.queue) (suc w.number) ≡ Some (command (Tickets.ticket past t) 1)
    → TakeoverPair past t w
takeover_pair past t w i p first second =
    let k = Tickets.ticket past t in
    let g = each_in (TakeoverOf past) (takeovers past) w (takeovers_are past) i in
    let old = same_some g.entries.old (command k 0) (slice_get (published_entries past w.queue) w.number)
    g.entries.first first in
    let new = same_some g.entries.new (command k 1) (slice_get (published_entries past w.queue) (suc w.number))
    g.entries.second second in
    let at : slba (first_fields k) ≡ w.lba =
    sym (ap (λ (z : Submission). slba (sqe_fields z.entry)) old) ∙ sym g.entries.lba in
    record {
      slba = at;
      one = sym (ap (λ (z : Submission). block_count (sqe_fields z.entry)) old)
          ∙ (on_one g.entries.old g.entries.new g.entries.pair).one;
      bytes = takeover_data k w w.lba p (sym at)
          (subst₂ (λ (y z : Submission). TakeoverData w y.payload z.payload) old new g.bytes);
    }

pub takes_over : (c : ConfigNumbers) (past : Past) (w : Takeover) → IsLegal c past → In w (takeovers past)
    → (s : PairSwaps past w.queue w.number) → TakesOver past w
takes_over c past w h i s =
    let p = takeover_pair past s.ticket w i s.pair s.first s.second in
    let e = yes_effect c past s.ticket w.lba h s.pair s.yes p.slba p.one in
    record {
      later = e.later;
      block = e.block;
      before = e.before;
      is = e.is;
      from = ap name_of e.old ∙ p.bytes.dead;
      to = ap name_of e.new ∙ p.bytes.name;
    }

-- ---- which takeovers took effect

pub in_numbers : (n t : ℕ) → 1 ≤ t → t ≤ n → In t (numbers_down n)
in_numbers zero t a b = absurd (omega (arith, a, b))
in_numbers (suc n) t a b = elim (cases_eq t (suc n)) [
  | inl e ↦ inl e
  | inr d ↦ inr (in_numbers n t a (omega (arith, b, d)))
]
