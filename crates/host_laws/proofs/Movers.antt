-- A ticket that writes a block of the slot area is of a claim, a release or a takeover.
use Rattle.nvme_model.specs.Tickets
use Rattle.std.proofs.Common.{◌≡◌, ℕ, suc, ◌≤◌, true, false, ◌||◌, refl, sym, ap, ◌∙◌}
use Rattle.std.proofs.Common.{subst, subst₂, Some, inl, inr, ◌⊎◌, arith, eqb, slice_get}
use Rattle.std.proofs.lemmas.Bool.{or_left}
use Rattle.nvme_model.specs.EntryBytes.{block_count, slba, sqe_fields}
use Rattle.nvme_model.specs.History.{Past}
use Rattle.nvme_model.specs.Legal.{IsLegal}
use Rattle.nvme_model.specs.Operations.{compare_data, has_write, op, op_by, write_data}
use Rattle.nvme_model.specs.Queues.{published_entries}
use Rattle.nvme_model.specs.Slots.{Swap, fetched_before, name_of, swaps}
use Rattle.nvme_model.specs.Tickets.{Ticket, command, first_fields, tickets}
use Rattle.nvme_model.specs.Verdict.{taken_entries}
use Rattle.nvme_model.specs.declared.array.Range.{Range}
use Rattle.nvme_model.specs.declared.config.ConfigNumbers.{ConfigNumbers}
use Rattle.nvme_model.specs.declared.operation.Op.{Op}
use Rattle.nvme_model.specs.declared.status.Verdict.{Verdict}
use Rattle.nvme_model.specs.declared.submission.Submission.{Submission}
use Rattle.nvme_model.proofs.Cut.{clash}
use Rattle.host_laws.proofs.Discipline.{SwapAt}
use Rattle.host_laws.proofs.Elements.{In, each_in, same_some}
use Rattle.host_laws.proofs.Names.{name_length}
use Rattle.host_laws.proofs.SwapEntries.{SwapData, SwapOf, swaps_are}
use Rattle.host_laws.proofs.SwapTickets.{Meets, SwapTicket, on_one, swap_data, touching, whole, writes_of}
use Rattle.host_laws.proofs.Taken.{Taken, ticket_taken}
use Rattle.host_laws.proofs.Verdicts.{VerdictIs, fuse}
use Rattle.host_laws.specs.Rules.{takeover_disciplined}
use Rattle.host_laws.specs.Takeovers.{Takeover, takeovers}
use Rattle.host_laws.proofs.TakeoverDiscipline.{MoveAt, TakeoverAt, moved_by}
use Rattle.host_laws.proofs.Entries.{EntryPair, TakeoverData, TakeoverOf, takeovers_are}

-- a ticket of a takeover of the slot at block l
pub record TakeoverTicket (past : Past) (t l : ℕ) : Type 0 where
  pub takeover : Takeover
  pub there : In takeover (takeovers past)
  pub queue : takeover.queue ≡ (Tickets.ticket past t).queue
  pub number : takeover.number ≡ fetched_before past t
  pub lba : takeover.lba ≡ l
  pub op : op (Tickets.ticket past t) ≡ Some Op.Pair
  pub slba : slba (first_fields (Tickets.ticket past t)) ≡ l
  pub one : block_count (first_fields (Tickets.ticket past t)) ≡ 1
  pub bytes : TakeoverData takeover (compare_data (Tickets.ticket past t) l) (write_data (Tickets.ticket past t) l)
  pub apart : eqb takeover.dead.host takeover.name.host ≡ false

abbrev pub MoveTicket : Past → ℕ → ℕ → Type 0
MoveTicket past t l = SwapTicket past t l ⊎ TakeoverTicket past t l

pub takeover_data : (k : Ticket) (w : Takeover) (l : ℕ) → op k ≡ Some Op.Pair → l ≡ slba (first_fields k)
    → TakeoverData w (command k 0).payload (command k 1).payload → TakeoverData w (compare_data k l) (write_data k l)
takeover_data k w l o e d =
    let old = whole (command k 0).payload l (slba (first_fields k)) e (name_length _ _ d.dead) in
    let new = whole (command k 1).payload l (slba (first_fields k)) e (name_length _ _ d.name) in
    record { dead = ap name_of old ∙ d.dead; name = rw (o) (ap name_of new ∙ d.name) }

-- ---- the pair of a ticket

-- the entries of a pair's ticket are these two
record TicketPair (past : Past) (t l : ℕ) (a b : Submission) : Type 0 where
  op : op (Tickets.ticket past t) ≡ Some Op.Pair
  slba : slba (first_fields (Tickets.ticket past t)) ≡ l
  one : block_count (first_fields (Tickets.ticket past t)) ≡ 1
  first : a ≡ command (Tickets.ticket past t) 0
  second : b ≡ command (Tickets.ticket past t) 1

abbrev pub swap_entries : (past : Past) (s : Swap) → In s (swaps past)
    → EntryPair (published_entries past s.queue) s.number s.lba
swap_entries past s i =
    let f = each_in (SwapOf past) (swaps past) s (swaps_are past) i in
    record { old = f.old; new = f.new; first = f.first; second = f.second; pair = f.pair; lba = f.lba }

on_pair : (past : Past) (t l q j m : ℕ) (slots : Range) → (Tickets.ticket past t).verdict ≡ Verdict.Pair
    → Taken (published_entries past (Tickets.ticket past t).queue) (fetched_before past t) (Tickets.ticket past t)
    → Meets slots (Tickets.ticket past t) l → (e : EntryPair (published_entries past q) j m)
    → q ≡ (Tickets.ticket past t).queue → j ≡ fetched_before past t
    → TicketPair past t l e.old e.new × (m ≡ l)
on_pair past t l q j m slots v k meets e on number =
    let tk = Tickets.ticket past t in
    let second = k.second (ap taken_entries v) in
    let first2 = subst (λ (r : ℕ). slice_get (published_entries past r) j ≡ Some e.old) on e.first in
    let second2 = subst (λ (r : ℕ). slice_get (published_entries past r) (suc j) ≡ Some e.new) on e.second in
    let old = same_some e.old (command tk 0) _ first2 (ap (slice_get (published_entries past tk.queue)) number
    ∙ k.first) in
    let new = same_some e.new (command tk 1) _ second2
    (ap (λ (i : ℕ). slice_get (published_entries past tk.queue) (suc i)) number ∙ second) in
    let one : block_count (first_fields tk) ≡ 1 =
    sym (ap (λ (x : Submission). block_count (sqe_fields x.entry)) old) ∙ (on_one e.old e.new e.pair).one in
    let at : slba (first_fields tk) ≡ l = omega (arith, one, meets.low, meets.high) in (
      record {
        op = ap (λ (x : Verdict). op_by x (first_fields tk)) v;
        slba = at;
        one = one;
        first = old;
        second = new;
      },
      e.lba ∙ (ap (λ (x : Submission). slba (sqe_fields x.entry)) old ∙ at),
    )

-- the second entry of a move isn't a command by itself
not_single : (past : Past) (q i j l : ℕ) (s : Submission) → EntryPair (published_entries past q) j l → suc j ≡ i
    → slice_get (published_entries past q) i ≡ Some s → eqb (fuse s) 2 ≡ false → ⊥
not_single past q i j l s e n g f =
    let same = same_some e.new s (slice_get (published_entries past q) (suc j)) e.second
    (ap (slice_get (published_entries past q)) n ∙ g) in
    clash (eqb (fuse e.new) 2) (on_one e.old e.new e.pair).second (ap (λ (x : Submission). eqb (fuse x) 2) same ∙ f)

move_single : (past : Past) (q i : ℕ) (s : Submission) → MoveAt past q i
    → slice_get (published_entries past q) i ≡ Some s → eqb (fuse s) 2 ≡ false → ⊥
move_single past q i s (inl w) g f =
    let e = swap_entries past w.swap w.there in
    not_single past q i w.swap.number w.swap.lba s
    (subst (λ (r : ℕ). EntryPair (published_entries past r) w.swap.number w.swap.lba) w.queue e) w.number g f
move_single past q i s (inr w) g f =
    let e = (each_in (TakeoverOf past) (takeovers past) w.takeover (takeovers_are past) w.there).entries in
    not_single past q i w.takeover.number w.takeover.lba s
    (subst (λ (r : ℕ). EntryPair (published_entries past r) w.takeover.number w.takeover.lba) w.queue e) w.number g f

swap_of_ticket : (past : Past) (t l : ℕ) (slots : Range) → (Tickets.ticket past t).verdict ≡ Verdict.Pair
    → Taken (published_entries past (Tickets.ticket past t).queue) (fetched_before past t) (Tickets.ticket past t)
    → Meets slots (Tickets.ticket past t) l
    → SwapAt past (Tickets.ticket past t).queue (suc (fetched_before past t)) → SwapTicket past t l
swap_of_ticket past t l slots v k m s =
    let f = each_in (SwapOf past) (swaps past) s.swap (swaps_are past) s.there in
    let number : s.swap.number ≡ fetched_before past t = omega (arith, s.number) in
    let e = swap_entries past s.swap s.there in
    let p = on_pair past t l s.swap.queue s.swap.number s.swap.lba slots v k m e s.queue number in
    record {
      swap = s.swap;
      there = s.there;
      queue = s.queue;
      number = number;
      lba = p.1;
      op = p.0.op;
      slba = p.0.slba;
      one = p.0.one;
      bytes = swap_data (Tickets.ticket past t) s.swap l p.0.op (sym p.0.slba)
          (subst₂ (λ (x y : Submission). SwapData s.swap x.payload y.payload) p.0.first p.0.second f.bytes);
    }

takeover_of_ticket : (past : Past) (t l : ℕ) (slots : Range) → (Tickets.ticket past t).verdict ≡ Verdict.Pair
    → Taken (published_entries past (Tickets.ticket past t).queue) (fetched_before past t) (Tickets.ticket past t)
    → Meets slots (Tickets.ticket past t) l
    → TakeoverAt past (Tickets.ticket past t).queue (suc (fetched_before past t)) → TakeoverTicket past t l
takeover_of_ticket past t l slots v k m s =
    let f = each_in (TakeoverOf past) (takeovers past) s.takeover (takeovers_are past) s.there in
    let number : s.takeover.number ≡ fetched_before past t = omega (arith, s.number) in
    let p = on_pair past t l s.takeover.queue s.takeover.number s.takeover.lba slots v k m f.entries s.queue number in
    record {
      takeover = s.takeover;
      there = s.there;
      queue = s.queue;
      number = number;
      lba = p.1;
      op = p.0.op;
      slba = p.0.slba;
      one = p.0.one;
      bytes = takeover_data (Tickets.ticket past t) s.takeover l p.0.op (sym p.0.slba)
          (subst₂ (λ (x y : Submission). TakeoverData s.takeover x.payload y.payload) p.0.first p.0.second f.bytes);
      apart = f.apart;
    }

pub move_ticket : (c : ConfigNumbers) (slots : Range) (past : Past) (t l : ℕ) → IsLegal c past
    → takeover_disciplined c slots past ≡ true → 1 ≤ t → t ≤ tickets past
    → has_write (op (Tickets.ticket past t)) ≡ true → Meets slots (Tickets.ticket past t) l → MoveTicket past t l
move_ticket c slots past t l h d a b w m = by_verdict (Tickets.ticket past t).verdict refl (ticket_taken c past t h a b)
  where
    by_verdict : (v : Verdict) → (Tickets.ticket past t).verdict ≡ v
        → Taken (published_entries past (Tickets.ticket past t).queue) (fetched_before past t) (Tickets.ticket past t)
        → MoveTicket past t l
    by_verdict (Verdict.SingleFailed s) e k =
        clash false (subst (λ (v : Verdict). has_write (op_by v (first_fields (Tickets.ticket past t))) ≡ true) e w)
        refl
    by_verdict (Verdict.PairFailed s r) e k =
        clash false (subst (λ (v : Verdict). has_write (op_by v (first_fields (Tickets.ticket past t))) ≡ true) e w)
        refl
    by_verdict Verdict.Single e k =
        let writes = writes_of (first_fields (Tickets.ticket past t))
        (subst (λ (v : Verdict). has_write (op_by v (first_fields (Tickets.ticket past t))) ≡ true) e w) in
        let s = moved_by c slots past (Tickets.ticket past t).queue (fetched_before past t)
        (command (Tickets.ticket past t) 0) d k.first
        (touching slots (command (Tickets.ticket past t) 0) l writes m.low m.high m.from m.to) in
        let normal = (subst (λ (v : Verdict).
        VerdictIs v (command (Tickets.ticket past t) 0) (command (Tickets.ticket past t) 1)) e k.verdict).1 in
        absurd (move_single past (Tickets.ticket past t).queue (fetched_before past t)
        (command (Tickets.ticket past t) 0) s k.first normal)
    by_verdict Verdict.Pair e k =
        let pair = subst (λ (v : Verdict).
        VerdictIs v (command (Tickets.ticket past t) 0) (command (Tickets.ticket past t) 1)) e k.verdict in
        let second = k.second (ap taken_entries e) in
        elim (moved_by c slots past (Tickets.ticket past t).queue (suc (fetched_before past t))
        (command (Tickets.ticket past t) 1) d second
        (touching slots (command (Tickets.ticket past t) 1) l (or_left _ _ pair.writes)
        (omega (arith, m.low, pair.slba)) (omega (arith, m.high, pair.slba, pair.blocks)) m.from m.to)) [
          | inl s ↦ inl (swap_of_ticket past t l slots e k m s)
          | inr s ↦ inr (takeover_of_ticket past t l slots e k m s)
        ]
