-- A ticket that writes a block of the slot area is of a claim or a release.
use Rattle.nvme_model.specs.Tickets
use Rattle.std.proofs.Common.{◌≡◌, ℕ, suc, ◌+◌, ◌-◌, ◌*◌, ◌≤◌, ◌<◌, Bool, true, false, ◌||◌, cond, List, length, refl}
use Rattle.std.proofs.Common.{sym, ap, ◌∙◌, subst, Some, None, arith, eqb, eqb-true, lt-ltb, slice_get, take, drop}
use Rattle.std.proofs.lemmas.Bool.{and_parts, and_from, or_left}
use Rattle.std.proofs.lemmas.List.{take_all}
use Rattle.nvme_model.specs.declared.config.ConfigNumbers.{ConfigNumbers}
use Rattle.nvme_model.specs.EntryBytes.{Sqe, sqe_fields, slba, block_count}
use Rattle.nvme_model.specs.Commands.{is_write, is_compare, is_read, is_write_zeroes}
use Rattle.nvme_model.specs.History.{Past}
use Rattle.nvme_model.specs.Tickets.{Ticket, tickets, command, first_fields}
use Rattle.nvme_model.specs.Queues.{published_entries}
use Rattle.nvme_model.specs.Operations.{op, op_by, op_of_fields, has_write, compare_data, write_data}
use Rattle.nvme_model.specs.Slots.{Swap, name_of, is_pair_on_one, swaps, touches, disciplined, fetched_before}
use Rattle.nvme_model.specs.Legal.{IsLegal}
use Rattle.nvme_model.specs.declared.array.Range.{Range}
use Rattle.nvme_model.specs.declared.operation.Op.{Op}
use Rattle.nvme_model.specs.declared.status.Verdict.{Verdict}
use Rattle.nvme_model.specs.declared.submission.Submission.{Submission}
use Rattle.nvme_model.specs.Verdict.{taken_entries}
use Rattle.nvme_model.proofs.Cut.{clash}
use Rattle.host_laws.proofs.Elements.{In, each_in, same_some}
use Rattle.host_laws.proofs.Names.{name_length}
use Rattle.host_laws.proofs.Verdicts.{fuse, VerdictIs}
use Rattle.host_laws.proofs.Taken.{Taken, ticket_taken}
use Rattle.host_laws.proofs.SwapEntries.{SwapData, SwapOf, swaps_are}
use Rattle.host_laws.proofs.Discipline.{swapped_by}

pub record OnOne (a b : Submission) : Type 0 where
  pub compares : is_compare (sqe_fields a.entry) ≡ true
  pub writes : is_write (sqe_fields b.entry) ≡ true
  pub first : eqb (fuse a) 1 ≡ true
  pub second : eqb (fuse b) 2 ≡ true
  pub slba : slba (sqe_fields a.entry) ≡ slba (sqe_fields b.entry)
  pub one : block_count (sqe_fields a.entry) ≡ 1
  pub second_one : block_count (sqe_fields b.entry) ≡ 1

pub on_one : (a b : Submission) → is_pair_on_one a b ≡ true → OnOne a b
on_one a b h =
    let a1 = and_parts _ _ h in
    let a2 = and_parts _ _ a1.0 in
    let a3 = and_parts _ _ a2.0 in
    let a4 = and_parts _ _ a3.0 in
    let a5 = and_parts _ _ a4.0 in
    let a6 = and_parts _ _ a5.0 in
    record {
      compares = a6.0;
      writes = a6.1;
      first = a5.1;
      second = a4.1;
      slba = eqb-true _ _ a3.1;
      one = eqb-true _ _ a2.1;
      second_one = eqb-true _ _ a1.1;
    }

pub record SwapTicket (past : Past) (t l : ℕ) : Type 0 where
  pub swap : Swap
  pub there : In swap (swaps past)
  pub queue : swap.queue ≡ (Tickets.ticket past t).queue
  pub number : swap.number ≡ fetched_before past t
  pub lba : swap.lba ≡ l
  pub op : op (Tickets.ticket past t) ≡ Some Op.Pair
  pub slba : slba (first_fields (Tickets.ticket past t)) ≡ l
  pub one : block_count (first_fields (Tickets.ticket past t)) ≡ 1
  pub bytes : SwapData swap (compare_data (Tickets.ticket past t) l) (write_data (Tickets.ticket past t) l)

-- the data of one block is the whole payload
pub whole : (bs : List ℕ) (l s : ℕ) → l ≡ s → length bs ≡ 512 → take 512 (drop (512 * (l - s)) bs) ≡ bs
whole bs l s e n =
    let z : 512 * (l - s) ≡ 0 = omega (arith, e) in
    rw (z) (take_all 512 bs (omega (arith, n)))

pub swap_data : (k : Ticket) (s : Swap) (l : ℕ) → op k ≡ Some Op.Pair → l ≡ slba (first_fields k)
    → SwapData s (command k 0).payload (command k 1).payload → SwapData s (compare_data k l) (write_data k l)
swap_data k s l o e d =
    record {
      claim = λ c.
          let f = d.claim c in
          let old = whole (command k 0).payload l (slba (first_fields k)) e (ap length f.0) in
          let new = whole (command k 1).payload l (slba (first_fields k)) e (name_length _ _ f.1) in
          (old ∙ f.0, rw (o) (ap name_of new ∙ f.1));
      release = λ c.
          let f = d.release c in
          let old = whole (command k 0).payload l (slba (first_fields k)) e (name_length _ _ f.0) in
          let new = whole (command k 1).payload l (slba (first_fields k)) e (ap length f.1) in
          (ap name_of old ∙ f.0, rw (o) (new ∙ f.1));
    }

pub record Meets (slots : Range) (k : Ticket) (l : ℕ) : Type 0 where
  pub low : slba (first_fields k) ≤ l
  pub high : l < slba (first_fields k) + block_count (first_fields k)
  pub from : slots.slba ≤ l
  pub to : l < slots.slba + slots.blocks

pub writes_of : (e : Sqe) → has_write (op_of_fields e) ≡ true → (is_write e || is_write_zeroes e) ≡ true
writes_of e h = go (is_write e) (is_read e) (is_compare e) (is_write_zeroes e) h
  where
    go : (a b d z : Bool) → has_write
        (cond a (Some Op.Write) (cond b (Some Op.Read) (cond d (Some Op.Compare) (cond z (Some Op.WriteZeroes) None))))
        ≡ true → (a || z) ≡ true
    go true b d z h = refl
    go false true d z h = clash false h refl
    go false false true z h = clash false h refl
    go false false false true h = refl
    go false false false false h = clash false h refl

-- a write of a block of the area touches it
pub touching : (slots : Range) (s : Submission) (l : ℕ)
    → (is_write (sqe_fields s.entry) || is_write_zeroes (sqe_fields s.entry)) ≡ true → slba (sqe_fields s.entry) ≤ l
    → l < slba (sqe_fields s.entry) + block_count (sqe_fields s.entry)
    → slots.slba ≤ l → l < slots.slba + slots.blocks → touches slots s ≡ true
touching slots s l w a b d e =
    let some = and_from _ _ (lt-ltb 0 (block_count (sqe_fields s.entry)) (omega (arith, a, b)))
    (lt-ltb 0 slots.blocks (omega (arith, d, e))) in
    let begins = lt-ltb (slba (sqe_fields s.entry)) (slots.slba + slots.blocks) (omega (arith, a, e)) in
    let ends = lt-ltb slots.slba (slba (sqe_fields s.entry) + block_count (sqe_fields s.entry))
    (omega (arith, b, d)) in
    and_from _ _ w (and_from _ _ some (and_from _ _ begins ends))

pub swap_ticket : (c : ConfigNumbers) (slots : Range) (past : Past) (t l : ℕ) → IsLegal c past
    → disciplined c slots past ≡ true → 1 ≤ t → t ≤ tickets past
    → has_write (op (Tickets.ticket past t)) ≡ true → Meets slots (Tickets.ticket past t) l → SwapTicket past t l
swap_ticket c slots past t l h d a b w m = by_verdict (Tickets.ticket past t).verdict refl (ticket_taken c past t h a b)
  where
    by_verdict : (v : Verdict) → (Tickets.ticket past t).verdict ≡ v
        → Taken (published_entries past (Tickets.ticket past t).queue) (fetched_before past t) (Tickets.ticket past t)
        → SwapTicket past t l
    by_verdict (Verdict.SingleFailed s) e k =
        clash false (subst (λ (v : Verdict). has_write (op_by v (first_fields (Tickets.ticket past t))) ≡ true) e w)
        refl
    by_verdict (Verdict.PairFailed s r) e k =
        clash false (subst (λ (v : Verdict). has_write (op_by v (first_fields (Tickets.ticket past t))) ≡ true) e w)
        refl
    by_verdict Verdict.Single e k =
        let writes = writes_of (first_fields (Tickets.ticket past t))
        (subst (λ (v : Verdict). has_write (op_by v (first_fields (Tickets.ticket past t))) ≡ true) e w) in
        let s = swapped_by c slots past (Tickets.ticket past t).queue (fetched_before past t)
        (command (Tickets.ticket past t) 0) d k.first
        (touching slots (command (Tickets.ticket past t) 0) l writes m.low m.high m.from m.to) in
        let f = each_in (SwapOf past) (swaps past) s.swap (swaps_are past) s.there in
        let second = subst (λ (q : ℕ). slice_get (published_entries past q) (suc s.swap.number) ≡ Some f.new) s.queue
        f.second in
        let same = same_some f.new (command (Tickets.ticket past t) 0)
        (slice_get (published_entries past (Tickets.ticket past t).queue) (suc s.swap.number)) second
        (ap (slice_get (published_entries past (Tickets.ticket past t).queue)) s.number ∙ k.first) in
        let normal = (subst (λ (v : Verdict).
        VerdictIs v (command (Tickets.ticket past t) 0) (command (Tickets.ticket past t) 1)) e k.verdict).1 in
        clash (eqb (fuse f.new) 2) (on_one f.old f.new f.pair).second
        (ap (λ (x : Submission). eqb (fuse x) 2) same ∙ normal)
    by_verdict Verdict.Pair e k =
        let pair = subst (λ (v : Verdict).
        VerdictIs v (command (Tickets.ticket past t) 0) (command (Tickets.ticket past t) 1)) e k.verdict in
        let second = k.second (ap taken_entries e) in
        let s = swapped_by c slots past (Tickets.ticket past t).queue (suc (fetched_before past t))
        (command (Tickets.ticket past t) 1) d second
        (touching slots (command (Tickets.ticket past t) 1) l (or_left _ _ pair.writes)
        (omega (arith, m.low, pair.slba)) (omega (arith, m.high, pair.slba, pair.blocks)) m.from m.to) in
        let f = each_in (SwapOf past) (swaps past) s.swap (swaps_are past) s.there in
        let number : s.swap.number ≡ fetched_before past t = omega (arith, s.number) in
        let first2 = subst (λ (q : ℕ). slice_get (published_entries past q) s.swap.number ≡ Some f.old) s.queue
        f.first in
        let second2 = subst (λ (q : ℕ). slice_get (published_entries past q) (suc s.swap.number) ≡ Some f.new) s.queue
        f.second in
        let old = same_some f.old (command (Tickets.ticket past t) 0) _ first2
        (ap (slice_get (published_entries past (Tickets.ticket past t).queue)) number ∙ k.first) in
        let new = same_some f.new (command (Tickets.ticket past t) 1) _ second2
        (ap (slice_get (published_entries past (Tickets.ticket past t).queue)) s.number ∙ second) in
        let one : block_count (first_fields (Tickets.ticket past t)) ≡ 1 =
        sym (ap (λ (x : Submission). block_count (sqe_fields x.entry)) old) ∙ (on_one f.old f.new f.pair).one in
        let at : slba (first_fields (Tickets.ticket past t)) ≡ l = omega (arith, one, m.low, m.high) in
        let paired : op (Tickets.ticket past t) ≡ Some Op.Pair =
        ap (λ (v : Verdict). op_by v (first_fields (Tickets.ticket past t))) e in
        record {
          swap = s.swap;
          there = s.there;
          queue = s.queue;
          number = number;
          lba = f.lba ∙ (ap (λ (x : Submission). slba (sqe_fields x.entry)) old ∙ at);
          op = paired;
          slba = at;
          one = one;
          bytes = swap_data (Tickets.ticket past t) s.swap l paired (sym at)
              (subst (λ (x : Submission). SwapData s.swap x.payload (command (Tickets.ticket past t) 1).payload) old
              (subst (λ (x : Submission). SwapData s.swap f.old.payload x.payload) new f.bytes));
        }
