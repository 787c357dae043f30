-- What a Read of one block was answered is the block's value at one moment, between its start and its answer.
use Rattle.std.proofs.Common.{Bool, List, None, Ok, Option, Some, [], ap, cond, eqb, eqb-true, false, refl, slice_get}
use Rattle.std.proofs.Common.{append_assoc, subst, sym, true, ℕ, ◌++◌, ◌&&◌, ◌∙◌, ◌∷◌, ◌≡◌}
use Rattle.std.specs.Prelude.{bytes_eq, is_some, nat_le}
use Rattle.std.specs.List.{flat_map, list_all}
use Rattle.std.proofs.lemmas.Bool.{and_parts}
use Rattle.std.proofs.lemmas.List.{append-nil}
use Rattle.slot_alloc.proofs.Taking.{alone_before, grown}
use Rattle.plain_lemmas.proofs.Lists.{bytes_eq_true}
use Rattle.nvme_model.specs.Array.{blocks_from, zeros}
use Rattle.nvme_model.specs.Config.{completion_queue}
use Rattle.nvme_model.specs.EntryBytes.{block_count, slba, sqe_fields}
use Rattle.nvme_model.specs.History.{Past}
use Rattle.nvme_model.specs.Legal.{IsLegal}
use Rattle.nvme_model.specs.Operations.{op, units_by}
use Rattle.nvme_model.specs.Owed.{completion_data, contents_at, numbered_units, read_data_by, units_of}
use Rattle.nvme_model.specs.Passes.{entries}
use Rattle.nvme_model.specs.Placed.{effect}
use Rattle.nvme_model.specs.Queues.{published_entries}
use Rattle.nvme_model.specs.Slots.{Name, name_of}
use Rattle.nvme_model.specs.Statuses.{success}
use Rattle.nvme_model.specs.Tickets
use Rattle.nvme_model.specs.Tickets.{command, first_fields}
use Rattle.nvme_model.specs.Value.{value}
use Rattle.nvme_model.specs.declared.array.Range.{Range}
use Rattle.nvme_model.specs.declared.config.ConfigNumbers.{ConfigNumbers}
use Rattle.nvme_model.specs.declared.entry.Entry.{Entry}
use Rattle.nvme_model.specs.declared.operation.Op.{Op}
use Rattle.nvme_model.specs.declared.submission.Submission.{Submission}
use Rattle.nvme_model.proofs.Cut.{atomic_one, cut-atomic}
use Rattle.host_laws.specs.Calls.{IsDone}
use Rattle.host_laws.proofs.Elements.{same_some}
use Rattle.host_laws.proofs.Later.{some_effect}
use Rattle.driver_calls.proofs.Commands.{halves}
use Rattle.driver_calls.proofs.Telling.{log_tells}
use Rattle.driver_calls.proofs.Views.{since_none}
use Rattle.driver_calls.specs.Entries.{IsCommand, first_opcode}
use Rattle.driver_calls.specs.Log.{is_tidy, sent}
use Rattle.driver_calls.specs.Says.{CallSays, IsAfter, ReplySays}
use Rattle.driver_calls.specs.Views.{IsAlone, PortView, ViewFollows, log_of, owns, since}
use Rattle.driver_calls.specs.declared.event.PortEvent.{PortEvent}
use Rattle.driver_calls.specs.declared.reply.Reply.{Reply}
use Rattle.slot_takeover.specs.Holders.{IsReadIn, WasHeldSo, holder_in, holder_named}
use Rattle.slot_takeover.specs.declared.holder.Holder.{Holder}

-- ---- where an effect stands that wasn't there at the start

record Behind (start past before : Past) : Type 0 where
  pub later : Past
  pub since : Past
  pub is : past ≡ later ++ (since ++ start)
  pub at : before ≡ since ++ start

further : (e : Entry) (start past before : Past) → Behind start past before → Behind start (e ∷ past) before
further e start past before x =
    record {
      later = e ∷ x.later;
      since = x.since;
      is = ap (λ (p : Past). e ∷ p) x.is;
      at = x.at;
    }

same_past : (a b : Past) → Some a ≡ Some b → b ≡ a
same_past a b h = cc

behind : (more start : Past) (t u : ℕ) (before : Past) → effect start t u ≡ None
    → effect (more ++ start) t u ≡ Some before → Behind start (more ++ start) before
behind [] start t u before none h = absurd (let f : None ≡ Some before = sym none ∙ h in cc)
behind (Entry.Block b ∷ more) start t u before none h =
    go (b.effect && eqb b.ticket t && eqb b.unit u) h (λ e. behind more start t u before none e)
  where
    go : (x : Bool) → cond x (Some (more ++ start)) (effect (more ++ start) t u) ≡ Some before
        → (effect (more ++ start) t u ≡ Some before → Behind start (more ++ start) before)
        → Behind start (Entry.Block b ∷ (more ++ start)) before
    go true e k =
        record {
          later = Entry.Block b ∷ [];
          since = more;
          is = refl;
          at = same_past (more ++ start) before e;
        }
    go false e k = further (Entry.Block b) start (more ++ start) before (k e)
behind (e ∷ more) start t u before none h = further e start (more ++ start) before (behind more start t u before none h)

-- ---- a Read of one block

record ReadsOne (past : Past) (t l : ℕ) (bytes : List ℕ) : Type 0 where
  pub before : Past
  pub stands : effect past t 0 ≡ Some before
  pub found : bytes ≡ value before l

-- it has one unit
one_unit : (c : ConfigNumbers) (past : Past) (t l : ℕ) → op (Tickets.ticket past t) ≡ Some Op.Read
    → slba (first_fields (Tickets.ticket past t)) ≡ l → block_count (first_fields (Tickets.ticket past t)) ≡ 1
    → units_of c past t ≡ (0, record { slba = l; blocks = 1 }) ∷ []
one_unit c past t l o s n =
    let k = Tickets.ticket past t in
    let same : units_by c.atomic (op k) (slba (first_fields k)) (block_count (first_fields k))
    ≡ units_by c.atomic (Some Op.Read) l 1 = λ i. units_by c.atomic (o i) (s i) (n i) in
    ap (numbered_units 0) (same ∙ cut-atomic c.atomic l 1 (atomic_one c.atomic l))

-- the contents of the blocks of some units, at their effects
abbrev data_of : Past → ℕ → List (ℕ × Range) → List ℕ
data_of past t us =
    flat_map (λ u. flat_map (contents_at (effect past t u.0)) (blocks_from u.1.slba u.1.blocks)) us

one_block : (o : Option Past) (before : Past) (l : ℕ) → o ≡ Some before → (contents_at o l ++ []) ++ [] ≡ value before l
one_block o before l e =
    append-nil (contents_at o l ++ []) ∙ (append-nil (contents_at o l) ∙ ap (λ (x : Option Past). contents_at x l) e)

reads_one : (c : ConfigNumbers) (past : Past) (q j l : ℕ) (bytes : List ℕ) (d : IsDone c past q j Op.Read bytes)
    → slba (first_fields (Tickets.ticket past d.ticket)) ≡ l
    → block_count (first_fields (Tickets.ticket past d.ticket)) ≡ 1 → ReadsOne past d.ticket l bytes
reads_one c past q j l bytes d s n =
    let t = d.ticket in
    let us = one_unit c past t l d.does s n in
    let some : (is_some (effect past t 0) && true) ≡ true =
    subst (λ (xs : List (ℕ × Range)). list_all (λ u. is_some (effect past t u.0)) xs ≡ true) us d.effects in
    let e = some_effect (effect past t 0) (and_parts (is_some (effect past t 0)) true some).0 in
    let found : completion_data c past t success ≡ data_of past t (units_of c past t) =
    ap (read_data_by c past t) d.does in
    record {
      before = e.0;
      stands = e.1;
      found = d.reads ∙ (found ∙ (ap (data_of past t) us ∙ one_block (effect past t 0) e.0 l e.1));
    }

-- ---- the entry, in the history and in the log of a port that alone uses its queues

-- the block that a Read begins at, and how many it has
reads_block : (s : Submission) (opcode cid l : ℕ) (payload : List ℕ) → IsCommand s opcode 0 cid l 1 payload
    → (slba (sqe_fields s.entry) ≡ l) × (block_count (sqe_fields s.entry) ≡ 1)
reads_block s opcode cid l payload c = (ap slba c.entry.1 ∙ halves l, ap block_count c.entry.1)

-- of all replies only a Read's has data
read_said : (c : ConfigNumbers) (start past : Past) (q j : ℕ) (o : Op) (bytes : List ℕ)
    → ReplySays c start past q j o (Reply.Read bytes) → (d : IsDone c past q j Op.Read bytes) × IsAfter start d.ticket
read_said c start past q j Op.Read bytes h = h
read_said c start past q j Op.Write bytes h = absurd h
read_said c start past q j Op.WriteZeroes bytes h = absurd h
read_said c start past q j Op.Compare bytes h = absurd h
read_said c start past q j Op.Pair bytes h = absurd h

owned_queue : (v : PortView) (q : ℕ) → owns v q ≡ true → completion_queue v.config q ≡ v.queue
owned_queue v q h =
    eqb-true (completion_queue v.config q) v.queue
    (and_parts (nat_le 1 q && nat_le q v.config.pairs) (eqb (completion_queue v.config q) v.queue) h).1

-- the entry is published in the history, as the log has it
published : (before : List PortEvent) (v : PortView) (q j : ℕ) (s : Submission) → IsLegal v.config (entries v.seen)
    → owns v q ≡ true → is_tidy (since before (log_of v)) ≡ true → IsAlone before v
    → slice_get (sent (since before (log_of v)) q) j ≡ Some s
    → slice_get (published_entries (entries v.seen) q) j ≡ Some s
published before v q j s legal own tidy alone there =
    let whole : since before (log_of v) ≡ log_of v =
    ap (λ (b : List PortEvent). since b (log_of v)) alone.none ∙ since_none (log_of v) in
    let t = log_tells v.config v.queue v.pass v.seen legal alone.sole (ap is_tidy (sym whole) ∙ tidy) in
    ap (λ (xs : List Submission). slice_get xs j) (t.entries_are q (owned_queue v q own))
    ∙ (ap (λ (log : List PortEvent). slice_get (sent log q) j) (sym whole) ∙ there)

-- ---- the moment

pub record Moment (start past : Past) (l : ℕ) (bytes : List ℕ) : Type 0 where
  pub later : Past
  pub since : Past
  pub is : past ≡ later ++ (since ++ start)
  pub found : bytes ≡ value (since ++ start) l

read_then : (before : List PortEvent) (start a : PortView) (q j l : ℕ) (o : Op) (bytes : List ℕ)
    → ViewFollows start a → IsLegal a.config (entries a.seen) → owns a q ≡ true
    → is_tidy (since before (log_of a)) ≡ true → IsReadIn (since before (log_of a)) q j l
    → CallSays a.config (entries start.seen) (entries a.seen) q j o (Some (Ok (Reply.Read bytes))) → IsAlone before a
    → Moment (entries start.seen) (entries a.seen) l bytes
read_then before start a q j l o bytes f legal own tidy r says alone =
    let past = entries a.seen in
    let said = read_said a.config (entries start.seen) past q j o bytes says.0 in
    let d = said.0 in
    let s = same_some (command (Tickets.ticket past d.ticket) 0) r.entry (slice_get (published_entries past q) j)
    d.first (published before a q j r.entry legal own tidy alone r.there) in
    let b = reads_block r.entry (first_opcode Op.Read) r.cid l [] r.is in
    let x = reads_one a.config past q j l bytes d
    (ap (λ (e : Submission). slba (sqe_fields e.entry)) s ∙ b.0)
    (ap (λ (e : Submission). block_count (sqe_fields e.entry)) s ∙ b.1) in
    let k = behind (entries f.goes_on.0) (entries start.seen) d.ticket 0 x.before (said.1 0)
    (subst (λ (p : Past). effect p d.ticket 0 ≡ Some x.before) (grown start a f) x.stands) in
    record {
      later = k.later;
      since = k.since;
      is = grown start a f ∙ k.is;
      found = x.found ∙ ap (λ (p : Past). value p l) k.at;
    }

append_over : (more later rest : Past) → more ++ (later ++ rest) ≡ (more ++ later) ++ rest
append_over more later rest = sym (append_assoc more later rest)

-- it stands in what is seen later, too
pub read_moment : (before : List PortEvent) (start a b : PortView) (q j l : ℕ) (o : Op) (bytes : List ℕ)
    → ViewFollows start a → ViewFollows a b → IsLegal a.config (entries a.seen) → owns a q ≡ true
    → is_tidy (since before (log_of a)) ≡ true → IsReadIn (since before (log_of a)) q j l
    → (IsAlone before a
    → CallSays a.config (entries start.seen) (entries a.seen) q j o (Some (Ok (Reply.Read bytes))))
    → IsAlone before b → Moment (entries start.seen) (entries b.seen) l bytes
read_moment before start a b q j l o bytes f g legal own tidy r says alone =
    let then = alone_before before a b g alone in
    let m = read_then before start a q j l o bytes f legal own tidy r (says then) then in
    record {
      later = entries g.goes_on.0 ++ m.later;
      since = m.since;
      is = grown a b g ∙ (ap (λ (p : Past). entries g.goes_on.0 ++ p) m.is
          ∙ append_over (entries g.goes_on.0) m.later (m.since ++ entries start.seen));
      found = m.found;
    }

pub held_so : (start past : Past) (l : ℕ) (bytes : List ℕ) (h : Holder) → Moment start past l bytes
    → h ≡ holder_in bytes → WasHeldSo start past l h
held_so start past l bytes h m e =
    record { later = m.later; since = m.since; is = m.is; says = e ∙ ap holder_in m.found }

-- ---- what a holder says of a block

named : (o : Option Name) (n : Name) → Holder.Of n ≡ holder_named o → o ≡ Some n
named None n h = absurd (let e : Holder.Of n ≡ Holder.Foreign = h in cc)
named (Some m) n h = let e : Holder.Of n ≡ Holder.Of m = h in cc

pub name_told : (bytes : List ℕ) (n : Name) → Holder.Of n ≡ holder_in bytes → name_of bytes ≡ Some n
name_told bytes n h = go (bytes_eq bytes zeros) h
  where
    go : (b : Bool) → Holder.Of n ≡ cond b Holder.Free (holder_named (name_of bytes)) → name_of bytes ≡ Some n
    go true e = absurd (let f : Holder.Of n ≡ Holder.Free = e in cc)
    go false e = named (name_of bytes) n e

not_free : (o : Option Name) → Holder.Free ≡ holder_named o → ⊥
not_free None h = let e : Holder.Free ≡ Holder.Foreign = h in cc
not_free (Some m) h = let e : Holder.Free ≡ Holder.Of m = h in cc

pub free_told : (bytes : List ℕ) → Holder.Free ≡ holder_in bytes → bytes ≡ zeros
free_told bytes h = go (bytes_eq bytes zeros) refl h
  where
    go : (b : Bool) → bytes_eq bytes zeros ≡ b → Holder.Free ≡ cond b Holder.Free (holder_named (name_of bytes))
        → bytes ≡ zeros
    go true e f = bytes_eq_true bytes zeros e
    go false e f = absurd (not_free (name_of bytes) f)
