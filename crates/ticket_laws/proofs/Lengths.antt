-- Each block is 512 bytes: those of the volume, and those of the data beside commands.
use Rattle.std.proofs.Common.{◌≡◌, ℕ, zero, suc, ◌+◌, ◌-◌, ◌*◌, ◌≤◌, ◌<◌, Bool, true, false, ◌&&◌, ◌||◌, cond, List, []}
use Rattle.std.proofs.Common.{◌∷◌, length, take, drop, min, refl, sym, ap, ◌∙◌, subst, Option, Some, None, is_some}
use Rattle.std.proofs.Common.{arith, eqb, eqb-true, slice_get}
use Rattle.std.proofs.lemmas.List.{length-take, length-drop, length-replicate}
use Rattle.std.proofs.lemmas.Bool.{cond-true}
use Rattle.std.proofs.Math.Nat.{mod-lt}
use Rattle.nvme_model.specs.declared.array.Range.{Range}
use Rattle.nvme_model.specs.declared.config.AtomicParameters.{AtomicParameters}
use Rattle.nvme_model.specs.declared.config.ConfigNumbers.{ConfigNumbers}
use Rattle.nvme_model.specs.declared.operation.Op.{Op}
use Rattle.nvme_model.specs.declared.operation.Found.{Found}
use Rattle.nvme_model.specs.declared.status.Verdict.{Verdict}
use Rattle.nvme_model.specs.declared.entry.GrantLine.{GrantLine}
use Rattle.nvme_model.specs.declared.entry.BlockLine.{BlockLine}
use Rattle.nvme_model.specs.declared.entry.Entry.{Entry}
use Rattle.nvme_model.specs.Array.{zeros}
use Rattle.nvme_model.specs.EntryBytes.{Sqe, sqe_fields, slba, block_count}
use Rattle.nvme_model.specs.Commands.{is_write, is_read, is_compare, is_write_zeroes, data_length}
use Rattle.nvme_model.specs.Cut.{cut_within, longest}
use Rattle.nvme_model.specs.History.{Past}
use Rattle.nvme_model.specs.Tickets
use Rattle.nvme_model.specs.Tickets.{Ticket, command, first_fields}
use Rattle.nvme_model.specs.Operations.{op, op_by, op_of_fields, has_compare, has_write, is_pair, units, units_by}
use Rattle.nvme_model.specs.Operations.{write_data, write_data_by}
use Rattle.nvme_model.specs.Open.{granted, open_units, blocks_made, is_written}
use Rattle.nvme_model.specs.Answered.{may_find}
use Rattle.nvme_model.specs.Medium.{medium}
use Rattle.nvme_model.specs.Legal.{IsLegal}
use Rattle.nvme_model.proofs.Lists.{Each, each_map, each_find, each_get, each_filter}
use Rattle.nvme_model.proofs.Cut.{clash, longest_facts}
use Rattle.nvme_model.proofs.Rules.{follows}
use Rattle.nvme_model.proofs.Blocks.{may_block}
use Rattle.nvme_model.proofs.NextPost.{unit_at}
use Rattle.nvme_model.proofs.Checked.{TicketChecked, ticket_checked}

-- ---- the units of a range lie in it

-- a unit lies in the n blocks from s
pub record Within (s n : ℕ) (r : Range) : Type 0 where
  pub low : s ≤ r.slba
  pub high : r.slba + r.blocks ≤ s + n

cut_lies : (k : ℕ) (c : AtomicParameters) (s n : ℕ) → Each (Within s n) (cut_within k c s n)
cut_lies k c s zero = tt
cut_lies zero c s (suc n) = tt
cut_lies (suc k) c s (suc n) =
    let m = longest c s (suc n) in
    let within : m ≤ suc n = (longest_facts c s n).within in (
      record { low = omega arith; high = omega (arith, within) },
      each_map (Within (s + m) (suc n - m)) (Within s (suc n))
          (λ r l. record { low = omega (arith, l.low); high = omega (arith, l.high, within) })
          (cut_within k c (s + m) (suc n - m)) (cut_lies k c (s + m) (suc n - m)),
    )

-- each unit of a command
pub units_lie : (c : AtomicParameters) (o : Option Op) (s n : ℕ) → Each (Within s n) (units_by c o s n)
units_lie c None s n = tt
units_lie c (Some Op.Pair) s n = (record { low = omega arith; high = omega arith }, tt)
units_lie c (Some Op.Read) s n = cut_lies n c s n
units_lie c (Some Op.Compare) s n = cut_lies n c s n
units_lie c (Some Op.Write) s n = cut_lies n c s n
units_lie c (Some Op.WriteZeroes) s n = cut_lies n c s n

-- a granted unit lies in its ticket's range
abbrev pub InTicket : Past → GrantLine → Type 0
InTicket past g = let e = first_fields (Tickets.ticket past g.ticket) in Within (slba e) (block_count e) g.range

pub granted_lie : (c : ConfigNumbers) (past : Past) → IsLegal c past → Each (InTicket past) (granted past)
granted_lie c past h =
    each_map (λ g. slice_get (units c (Tickets.ticket past g.ticket)) g.unit ≡ Some g.range) (InTicket past)
    (λ g e. let k = Tickets.ticket past g.ticket in
    each_get (Within (slba (first_fields k)) (block_count (first_fields k))) (units c k) g.unit g.range
    (units_lie c.atomic (op k) (slba (first_fields k)) (block_count (first_fields k))) e)
    (granted past) (unit_at c past h)

-- ---- the data beside commands

zeros_length : length zeros ≡ 512
zeros_length = let z : ℕ = 0 in length-replicate 512 z

fields_write : (e : Sqe) → op_of_fields e ≡ Some Op.Write → is_write e ≡ true
fields_write e h = go (is_write e) (is_read e) (is_compare e) (is_write_zeroes e) h
  where
    go : (w r m z : Bool) → cond w (Some Op.Write)
        (cond r (Some Op.Read) (cond m (Some Op.Compare) (cond z (Some Op.WriteZeroes) None))) ≡ Some Op.Write
        → w ≡ true
    go true r m z h = refl
    go false true m z h = absurd cc
    go false false true z h = absurd cc
    go false false false true h = absurd cc
    go false false false false h = absurd cc

fields_compare : (e : Sqe) → op_of_fields e ≡ Some Op.Compare → is_compare e ≡ true
fields_compare e h = go (is_write e) (is_read e) (is_compare e) (is_write_zeroes e) h
  where
    go : (w r m z : Bool) → cond w (Some Op.Write)
        (cond r (Some Op.Read) (cond m (Some Op.Compare) (cond z (Some Op.WriteZeroes) None))) ≡ Some Op.Compare
        → m ≡ true
    go true r m z h = absurd cc
    go false true m z h = absurd cc
    go false false true z h = refl
    go false false false true h = absurd cc
    go false false false false h = absurd cc

has_data : (e : Sqe) → (is_write e || is_compare e) ≡ true → data_length e ≡ 512 * block_count e
has_data e h = cond-true _ _ _ h

or_either : (x y : Bool) → y ≡ true → (x || y) ≡ true
or_either true y h = refl
or_either false y h = h

-- the data of a ticket that passed its checks, by what it does
pub record HasData (k : Ticket) : Type 0 where
  pub compare : has_compare (op k) ≡ true → length (command k 0).payload ≡ 512 * block_count (first_fields k)
  pub write : op k ≡ Some Op.Write → length (command k 0).payload ≡ 512 * block_count (first_fields k)
  pub pair : op k ≡ Some Op.Pair → length (command k 1).payload ≡ 512 * block_count (first_fields k)

pub has_data_if : (c : ConfigNumbers) (k : Ticket) → TicketChecked c k → HasData k
has_data_if c k t =
    record {
      compare = λ h. t.first.payload ∙ has_data (first_fields k) (compares h);
      write = λ h. t.first.payload
          ∙ has_data (first_fields k) (ap (λ x. x || is_compare (first_fields k)) (is_a_write k.verdict h));
      pair = λ h. let p = t.pair (ap is_pair h) in
          p.second.payload ∙ has_data second (ap (λ x. x || is_compare second) p.write)
          ∙ ap (λ n. 512 * n) (sym p.length);
    }
  where
    e : Sqe
    e = first_fields k

    second : Sqe
    second = sqe_fields (command k 1).entry

    is_a_write : (v : Verdict) → op_by v e ≡ Some Op.Write → is_write e ≡ true
    is_a_write Verdict.Single h = fields_write e h
    is_a_write Verdict.Pair h = absurd cc
    is_a_write (Verdict.SingleFailed s) h = absurd cc
    is_a_write (Verdict.PairFailed s r) h = absurd cc

    single : (v : Verdict) → op_by v e ≡ Some Op.Compare → is_compare e ≡ true
    single Verdict.Single h = fields_compare e h
    single Verdict.Pair h = absurd cc
    single (Verdict.SingleFailed s) h = absurd cc
    single (Verdict.PairFailed s r) h = absurd cc

    by_op : (o : Option Op) → op k ≡ o → has_compare o ≡ true → (is_write e || is_compare e) ≡ true
    by_op (Some Op.Compare) q h = or_either (is_write e) (is_compare e) (single k.verdict q)
    by_op (Some Op.Pair) q h = or_either (is_write e) (is_compare e) (t.pair (ap is_pair q)).compare
    by_op None q h = clash false h refl
    by_op (Some Op.Read) q h = clash false h refl
    by_op (Some Op.Write) q h = clash false h refl
    by_op (Some Op.WriteZeroes) q h = clash false h refl

    compares : has_compare (op k) ≡ true → (is_write e || is_compare e) ≡ true
    compares h = by_op (op k) refl h

-- one block of data
pub block_length : (s n l : ℕ) (bytes : List ℕ) → length bytes ≡ 512 * n → s ≤ l → l < s + n
    → length (take 512 (drop (512 * (l - s)) bytes)) ≡ 512
block_length s n l bytes e a b =
    length-take 512 (drop (512 * (l - s)) bytes)
    ∙ few (length (drop (512 * (l - s)) bytes)) (length-drop (512 * (l - s)) bytes)
  where
    few : (m : ℕ) → m ≡ length bytes - 512 * (l - s) → min 512 m ≡ 512
    few m q = omega (arith, e, a, b, q)

-- what a ticket writes at a block of its range
pub written_length : (c : ConfigNumbers) (k : Ticket) (l : ℕ) → TicketChecked c k → has_write (op k) ≡ true
    → slba (first_fields k) ≤ l → l < slba (first_fields k) + block_count (first_fields k)
    → length (write_data k l) ≡ 512
written_length c k l t w a b = go (op k) refl w
  where
    d : HasData k
    d = has_data_if c k t

    go : (o : Option Op) → op k ≡ o → has_write o ≡ true → length (write_data_by o k l) ≡ 512
    go (Some Op.Write) q h =
        block_length (slba (first_fields k)) (block_count (first_fields k)) l (command k 0).payload (d.write q) a b
    go (Some Op.Pair) q h = block_length (slba (first_fields k)) (block_count (first_fields k)) l (command k 1).payload
        (d.pair q) a b
    go (Some Op.WriteZeroes) q h = zeros_length
    go None q h = clash false h refl
    go (Some Op.Read) q h = clash false h refl
    go (Some Op.Compare) q h = clash false h refl

-- ---- the volume

writes_if : (o : Option Op) (n j : ℕ) (f : Found) → may_find o n j f ≡ true → is_written f ≡ true → has_write o ≡ true
writes_if (Some Op.Write) n j f h w = refl
writes_if (Some Op.WriteZeroes) n j f h w = refl
writes_if (Some Op.Pair) n j f h w = refl
writes_if None n j f h w = clash false h refl
writes_if (Some Op.Read) n j Found.Written h w = clash false h refl
writes_if (Some Op.Read) n j Found.Read h w = clash false w refl
writes_if (Some Op.Read) n j Found.Equal h w = clash false w refl
writes_if (Some Op.Read) n j Found.Differs h w = clash false w refl
writes_if (Some Op.Compare) n j Found.Written h w = clash false h refl
writes_if (Some Op.Compare) n j Found.Read h w = clash false w refl
writes_if (Some Op.Compare) n j Found.Equal h w = clash false w refl
writes_if (Some Op.Compare) n j Found.Differs h w = clash false w refl

-- each Block names a block of its ticket's range
pub block_lies : (c : ConfigNumbers) (past : Past) (b : BlockLine) → IsLegal c (Entry.Block b ∷ past)
    → (slba (first_fields (Tickets.ticket past b.ticket)) ≤ b.lba)
    × (b.lba < slba (first_fields (Tickets.ticket past b.ticket))
    + block_count (first_fields (Tickets.ticket past b.ticket)))
block_lies c past b h =
    let before = (follows c past (Entry.Block b) h).before in
    let m = may_block c past b h in
    let f = each_find (InTicket past) (λ x. eqb x.ticket b.ticket) (open_units past) m.0
    (each_filter (InTicket past) (InTicket past) _ (λ x p e. p) (granted past) (granted_lie c past before)) m.1 in
    subst (λ (t : ℕ). (slba (first_fields (Tickets.ticket past t)) ≤ b.lba)
    × (b.lba < slba (first_fields (Tickets.ticket past t)) + block_count (first_fields (Tickets.ticket past t))))
    m.2.ticket (
      omega (arith, f.0.low, m.2.lba),
      omega (arith, f.0.high, m.2.lba, mod-lt (length (blocks_made past m.0.ticket m.0.unit)) m.2.unended.facts.some),
    )

pub medium_length : (c : ConfigNumbers) (past : Past) (l : ℕ) → IsLegal c past → length (medium past l) ≡ 512
medium_length c [] l h = zeros_length
medium_length c (Entry.Block b ∷ past) l h =
    go (is_written b.found) (eqb b.lba l) refl refl (medium_length c past l (follows c past (Entry.Block b) h).before)
  where
    k : Ticket
    k = Tickets.ticket past b.ticket

    go : (w x : Bool) → is_written b.found ≡ w → eqb b.lba l ≡ x → length (medium past l) ≡ 512
        → length (cond (w && x) (write_data k l) (medium past l)) ≡ 512
    go false x e d ih = ih
    go true false e d ih = ih
    go true true e d ih =
        let before = (follows c past (Entry.Block b) h).before in
        let m = may_block c past b h in
        let w = writes_if (op k) _ _ b.found m.2.word e in
        let lies = block_lies c past b h in
        let same = eqb-true b.lba l d in
        written_length c k l (ticket_checked c past b.ticket before (some (op k) w)) w (omega (arith, lies.0, same))
        (omega (arith, lies.1, same))
      where
        some : (o : Option Op) → has_write o ≡ true → is_some o ≡ true
        some (Some o) w = refl
        some None w = clash false w refl
medium_length c (Entry.Publish e ∷ past) l h = medium_length c past l (follows c past (Entry.Publish e) h).before
medium_length c (Entry.Fetch e ∷ past) l h = medium_length c past l (follows c past (Entry.Fetch e) h).before
medium_length c (Entry.Grant e ∷ past) l h = medium_length c past l (follows c past (Entry.Grant e) h).before
medium_length c (Entry.Post e ∷ past) l h = medium_length c past l (follows c past (Entry.Post e) h).before
medium_length c (Entry.Reap e ∷ past) l h = medium_length c past l (follows c past (Entry.Reap e) h).before
