-- The effect of a claim or a release whose success was reaped.
use Rattle.nvme_model.specs.Tickets
use Rattle.std.proofs.Common.{◌≡◌, ℕ, suc, ◌+◌, ◌<◌, true, false, not, ◌&&◌, List, [], ◌∷◌, ◌++◌, refl, sym, ap, ◌∙◌}
use Rattle.std.proofs.Common.{subst, subst₂, Option, Some, None, inl, inr, arith, eqb, lt-ltb, ltb-true, le-leb}
use Rattle.std.proofs.Common.{slice_get}
use Rattle.std.proofs.lemmas.Bool.{and_parts, and_from, or_right, cases_lt, cond-true}
use Rattle.ticket_laws.proofs.Later.{ticket_later}
use Rattle.nvme_model.specs.declared.config.ConfigNumbers.{ConfigNumbers}
use Rattle.nvme_model.specs.EntryBytes.{sqe_fields, slba, block_count}
use Rattle.nvme_model.specs.Verdict.{taken_entries, passed}
use Rattle.nvme_model.specs.Array.{has_block}
use Rattle.nvme_model.specs.History.{Past}
use Rattle.nvme_model.specs.Tickets.{Ticket, command, first_fields, posts_of}
use Rattle.nvme_model.specs.Queues.{published_entries}
use Rattle.nvme_model.specs.Operations.{op, has_write, has_compare, compare_data, write_data, op_by}
use Rattle.nvme_model.specs.Open.{grants_of, unit_range}
use Rattle.nvme_model.specs.Value.{value, all_equal, writes}
use Rattle.nvme_model.specs.Placed.{effect}
use Rattle.host_laws.specs.Calls.{says_yes, yes_at, cqe_status}
use Rattle.nvme_model.specs.Slots.{Swap, swaps, reaped_success, fetched_before}
use Rattle.nvme_model.specs.Legal.{IsLegal}
use Rattle.nvme_model.specs.declared.array.Range.{Range}
use Rattle.nvme_model.specs.declared.operation.Op.{Op}
use Rattle.nvme_model.specs.declared.status.Verdict.{Verdict}
use Rattle.nvme_model.specs.declared.submission.Submission.{Submission}
use Rattle.nvme_model.specs.declared.entry.BlockLine.{BlockLine}
use Rattle.nvme_model.specs.declared.entry.Entry.{Entry}
use Rattle.nvme_model.proofs.Rules.{follows}
use Rattle.nvme_model.proofs.Beginnings.{earlier}
use Rattle.nvme_model.proofs.Cut.{clash}
use Rattle.host_laws.proofs.Elements.{In, each_in, same_some}
use Rattle.host_laws.proofs.Verdicts.{fuse, one_not_two, VerdictIs}
use Rattle.host_laws.proofs.Statuses.{post_is}
use Rattle.host_laws.proofs.Outcomes.{pair_says_yes, passes}
use Rattle.host_laws.proofs.Later.{published_later, grants_later, effect_at, block_facts, range_at}
use Rattle.host_laws.proofs.Later.{pair_range}
use Rattle.host_laws.proofs.PostedAnswers.{reaped_posted_at}
use Rattle.host_laws.proofs.Calls.{success_is}
use Rattle.host_laws.proofs.SwapEntries.{SwapData, SwapIs, SwapOf, swaps_are}
use Rattle.host_laws.proofs.SwapTickets.{on_one, swap_data}
use Rattle.host_laws.proofs.Changes.{one_equal}
use Rattle.host_laws.proofs.Successes.{success_reaped}

-- the swap's effect: what lay there before, and after
pub record Won (past : Past) (s : Swap) : Type 0 where
  pub later : Past
  pub block : BlockLine
  pub before : Past
  pub is : past ≡ later ++ (Entry.Block block ∷ before)
  pub effect : block.effect ≡ true
  pub bytes : SwapData s (value before s.lba) (value (Entry.Block block ∷ before) s.lba)

abbrev pub whole : Ticket → Range
whole k = record { slba = slba (first_fields k); blocks = block_count (first_fields k) }

pub effect_writes : (e : Past) (b : BlockLine) (k : Ticket) (l : ℕ) → Tickets.ticket e b.ticket ≡ k
    → unit_range e b.ticket b.unit ≡ whole k → op k ≡ Some Op.Pair → b.effect ≡ true
    → all_equal (value e) k (whole k) ≡ true → slba (first_fields k) ≡ l → block_count (first_fields k) ≡ 1
    → (value e l ≡ compare_data k l) × (value (Entry.Block b ∷ e) l ≡ write_data k l)
effect_writes e b k l ke re p m y s o =
    let old = one_equal (value e) k (whole k) l s o y in
    let here : has_block (whole k) l ≡ true =
    and_from _ _ (le-leb (slba (first_fields k)) l (omega (arith, s)))
    (lt-ltb l (slba (first_fields k) + block_count (first_fields k)) (omega (arith, s, o))) in
    let wrote : writes (value e) k (whole k) ≡ true =
    and_from _ _ (ap has_write p) (or_right (not (has_compare (op k))) (all_equal (value e) k (whole k)) y) in
    let all : (b.effect && has_block (unit_range e b.ticket b.unit) l
    && writes (value e) (Tickets.ticket e b.ticket) (unit_range e b.ticket b.unit)) ≡ true =
    subst₂ (λ (x : Ticket) (r : Range). (b.effect && has_block r l && writes (value e) x r) ≡ true) (sym ke) (sym re)
    (and_from _ _ (and_from _ _ m here) wrote) in (
      old,
      cond-true (b.effect && has_block (unit_range e b.ticket b.unit) l
          && writes (value e) (Tickets.ticket e b.ticket) (unit_range e b.ticket b.unit))
          (write_data (Tickets.ticket e b.ticket) l) (value e l) all
          ∙ ap (λ (x : Ticket). write_data x l) ke,
    )

pub yes_some : (o : Option Past) (k : Ticket) (r : Range) → yes_at o k r ≡ true
    → (e : Past) × (o ≡ Some e) × (all_equal (value e) k r ≡ true)
yes_some None k r h = absurd (let f : false ≡ true = h in cc)
yes_some (Some e) k r h = (e, refl, (and_parts _ _ h).1)

-- of a pair's ticket
won_ticket : (c : ConfigNumbers) (past : Past) (t : ℕ) (s : Swap) → IsLegal c past
    → op (Tickets.ticket past t) ≡ Some Op.Pair → says_yes past t 0 ≡ true
    → slba (first_fields (Tickets.ticket past t)) ≡ s.lba → block_count (first_fields (Tickets.ticket past t)) ≡ 1
    → SwapData s (command (Tickets.ticket past t) 0).payload (command (Tickets.ticket past t) 1).payload → Won past s
won_ticket c past t s h p y a o d =
    let k = Tickets.ticket past t in
    let e = yes_some (effect past t 0) k (unit_range past t 0) y in
    let at = effect_at past t 0 e.0 e.1 in
    let legal = earlier c at.later (Entry.Block at.block ∷ e.0) (subst (λ (x : Past). IsLegal c x) at.is h) in
    let facts = block_facts c e.0 at.block legal in
    let ke : Tickets.ticket e.0 at.block.ticket ≡ k =
    ap (Tickets.ticket e.0) at.ticket
    ∙ (sym (ticket_later c at.later (Entry.Block at.block ∷ e.0) t (subst (λ (x : Past). IsLegal c x) at.is h)
    (omega (arith, facts.known, at.ticket))) ∙ ap (λ (x : Past). Tickets.ticket x t) (sym at.is)) in
    let re = pair_range c e.0 at.block.ticket at.block.unit (ap op ke ∙ p) facts.range ∙ ap whole ke in
    let number : 0 < grants_of past t =
    subst (λ (x : Past). 0 < grants_of x t) (sym at.is)
    (grants_later at.later (Entry.Block at.block ∷ e.0) t 0
    (subst₂ (λ (x y : ℕ). y < grants_of e.0 x) at.ticket at.unit facts.number)) in
    let rb = pair_range c past t 0 p (range_at c past t 0 h number) in
    let w = effect_writes e.0 at.block k s.lba ke re p at.effect
    (subst (λ (r : Range). all_equal (value e.0) k r ≡ true) rb e.2) a o in
    record {
      later = at.later;
      block = at.block;
      before = e.0;
      is = at.is;
      effect = at.effect;
      bytes = subst₂ (λ (x y : List ℕ). SwapData s x y) (sym w.0) (sym w.1) (swap_data k s s.lba p (sym a) d);
    }

record AtPost (past : Past) (t : ℕ) (s : Swap) : Type 0 where
  op : op (Tickets.ticket past t) ≡ Some Op.Pair
  verdict : (Tickets.ticket past t).verdict ≡ Verdict.Pair
  slba : slba (first_fields (Tickets.ticket past t)) ≡ s.lba
  one : block_count (first_fields (Tickets.ticket past t)) ≡ 1
  bytes : SwapData s (command (Tickets.ticket past t) 0).payload (command (Tickets.ticket past t) 1).payload

record Numbers (past all : Past) (t : ℕ) (s : Swap) : Type 0 where
  first : slice_get (published_entries all s.queue) (fetched_before past t) ≡ Some (command (Tickets.ticket past t) 0)
  second : taken_entries (Tickets.ticket past t).verdict ≡ 2
      → slice_get (published_entries all s.queue) (suc (fetched_before past t))
      ≡ Some (command (Tickets.ticket past t) 1)
  below : posts_of past t < taken_entries (Tickets.ticket past t).verdict
  number : fetched_before past t + posts_of past t ≡ suc s.number

at_post : (past all : Past) (t : ℕ) (s : Swap) (v : Verdict) → (Tickets.ticket past t).verdict ≡ v → passed v ≡ true
    → VerdictIs v (command (Tickets.ticket past t) 0) (command (Tickets.ticket past t) 1)
    → Numbers past all t s → SwapIs (published_entries all s.queue) s → AtPost past t s
at_post past all t s (Verdict.SingleFailed x) e p k n f = clash false p refl
at_post past all t s (Verdict.PairFailed x y) e p k n f = clash false p refl
at_post past all t s Verdict.Single e p k n f =
    let few : posts_of past t < 1 = subst (λ (v : Verdict). posts_of past t < taken_entries v) e n.below in
    let same = same_some f.new (command (Tickets.ticket past t) 0)
    (slice_get (published_entries all s.queue) (suc s.number)) f.second
    (ap (slice_get (published_entries all s.queue)) (omega (arith, n.number, few)) ∙ n.first) in
    clash (eqb (fuse f.new) 2) (on_one f.old f.new f.pair).second (ap (λ (x : Submission). eqb (fuse x) 2) same ∙ k.1)
at_post past all t s Verdict.Pair e p k n f =
    let few : posts_of past t < 2 = subst (λ (v : Verdict). posts_of past t < taken_entries v) e n.below in
    elim (cases_lt (posts_of past t) 1) [
      | inl z ↦
          let same = same_some f.new (command (Tickets.ticket past t) 0)
          (slice_get (published_entries all s.queue) (suc s.number)) f.second
          (ap (slice_get (published_entries all s.queue)) (omega (arith, n.number, z)) ∙ n.first) in
          clash (eqb (fuse f.new) 2) (on_one f.old f.new f.pair).second
          (ap (λ (x : Submission). eqb (fuse x) 2) same
          ∙ one_not_two (fuse (command (Tickets.ticket past t) 0)) k.first)
      | inr z ↦
          let at : s.number ≡ fetched_before past t = omega (arith, n.number, z, few) in
          let old = same_some f.old (command (Tickets.ticket past t) 0)
          (slice_get (published_entries all s.queue) s.number) f.first
          (ap (slice_get (published_entries all s.queue)) at ∙ n.first) in
          let new = same_some f.new (command (Tickets.ticket past t) 1)
          (slice_get (published_entries all s.queue) (suc s.number)) f.second
          (ap (λ (i : ℕ). slice_get (published_entries all s.queue) (suc i)) at ∙ n.second (ap taken_entries e)) in
          record {
            op = ap (λ (v : Verdict). op_by v (first_fields (Tickets.ticket past t))) e;
            verdict = e;
            slba = sym (ap (λ (x : Submission). slba (sqe_fields x.entry)) old) ∙ sym f.lba;
            one = sym (ap (λ (x : Submission). block_count (sqe_fields x.entry)) old)
                ∙ (on_one f.old f.new f.pair).one;
            bytes = subst₂ (λ (x y : Submission). SwapData s x.payload y.payload) old new f.bytes;
          }
    ]

won_earlier : (e : Entry) (past : Past) (s : Swap) → Won past s → Won (e ∷ past) s
won_earlier e past s w =
    record {
      later = e ∷ w.later;
      block = w.block;
      before = w.before;
      is = ap (λ (p : Past). e ∷ p) w.is;
      effect = w.effect;
      bytes = w.bytes;
    }

won_later : (later past : Past) (s : Swap) → Won past s → Won (later ++ past) s
won_later [] past s w = w
won_later (e ∷ later) past s w = won_earlier e (later ++ past) s (won_later later past s w)

pub won : (c : ConfigNumbers) (past : Past) (s : Swap) → IsLegal c past → In s (swaps past)
    → reaped_success c past s.queue (suc s.number) ≡ true → Won past s
won c past s h i r =
    let found = success_reaped c past s.queue (suc s.number) h r in
    let at = reaped_posted_at c past s.queue (suc s.number) found.post found.reaped in
    let legal = earlier c at.later (Entry.Post found.post ∷ at.before) (subst (λ (x : Past). IsLegal c x) at.is h) in
    let p = post_is c at.before found.post legal in
    let k = Tickets.ticket at.before found.post.ticket in
    let owes = p.owed ∙ ap Some (success_is (cqe_status found.post.cqe) found.says) in
    let ok = passes c at.before found.post.ticket (posts_of at.before found.post.ticket) k.verdict (command k 0)
    (command k 1) refl p.taken.verdict owes in
    let all : Past = at.later ++ (Entry.Post found.post ∷ at.before) in
    let f = each_in (SwapOf all) (swaps all) s (swaps_are all) (subst (λ (x : Past). In s (swaps x)) at.is i) in
    let numbers : Numbers at.before all found.post.ticket s =
    record {
      first = published_later at.later (Entry.Post found.post ∷ at.before) s.queue
          (fetched_before at.before found.post.ticket) (command k 0)
          (subst (λ (q : ℕ). slice_get (published_entries at.before q) (fetched_before at.before found.post.ticket)
          ≡ Some (command k 0)) at.queue p.taken.first);
      second = λ two. published_later at.later (Entry.Post found.post ∷ at.before) s.queue
          (suc (fetched_before at.before found.post.ticket)) (command k 1)
          (subst (λ (q : ℕ). slice_get (published_entries at.before q)
          (suc (fetched_before at.before found.post.ticket)) ≡ Some (command k 1)) at.queue (p.taken.second two));
      below = subst (λ (n : ℕ). posts_of at.before found.post.ticket < n) p.taken.count (ltb-true _ _ p.in_flight);
      number = at.number;
    } in
    let a = at_post at.before all found.post.ticket s k.verdict refl ok p.taken.verdict numbers f in
    let yes = pair_says_yes c at.before found.post.ticket (posts_of at.before found.post.ticket) a.verdict owes in
    let w = won_ticket c at.before found.post.ticket s (follows c at.before (Entry.Post found.post) legal).before a.op
    yes a.slba a.one a.bytes in
    subst (λ (x : Past). Won x s) (sym at.is)
    (won_later at.later (Entry.Post found.post ∷ at.before) s (won_earlier (Entry.Post found.post) at.before s w))
