-- The stage of a ticket after a Block.
use Rattle.std.proofs.Common.{◌≡◌, ◌+◌, ◌≤◌, ◌==◌, ◌||◌, ◌&&◌, ◌∙◌, ◌∷◌, Bool, List, None, Option, Some, [], add-one}
use Rattle.std.proofs.Common.{ap, arith, cond, drop, false, length, le-leb, nat_le, ne_eqb, option_map, refl, suc, sym}
use Rattle.std.proofs.Common.{true, zero, ℕ}
use Rattle.std.specs.Prelude.{is_none}
use Rattle.std.proofs.lemmas.Bool.Decides.{nat_tests}
use Rattle.std.specs.List.{find, list_any}
use Rattle.std.proofs.lemmas.Bool.{lt-leb, or_parts}
use Rattle.std.proofs.lemmas.List.Sums.{sum_by-cons}
use Rattle.nvme_model.specs.Answered.{may_find}
use Rattle.nvme_model.specs.declared.array.Range.{Range}
use Rattle.nvme_model.specs.declared.config.ConfigNumbers.{ConfigNumbers}
use Rattle.nvme_model.specs.declared.entry.BlockLine.{BlockLine}
use Rattle.nvme_model.specs.declared.entry.Entry.{Entry}
use Rattle.nvme_model.specs.declared.entry.GrantLine.{GrantLine}
use Rattle.nvme_model.specs.declared.operation.Found.{Found}
use Rattle.nvme_model.specs.declared.operation.Op.{Op}
use Rattle.nvme_model.specs.declared.status.Verdict.{Verdict}
use Rattle.nvme_model.specs.EntryBytes.{Sqe, block_count, slba}
use Rattle.nvme_model.specs.History.{Past}
use Rattle.nvme_model.specs.Legal.{IsLegal}
use Rattle.nvme_model.specs.Open
use Rattle.nvme_model.specs.Open.{blocks_made, differed, granted, grants_of, is_differs, open_units, steps_needed}
use Rattle.nvme_model.specs.Operations.{op, op_by, units}
use Rattle.nvme_model.specs.Tickets.{first_fields, ticket}
use Rattle.nvme_model.proofs.Blocks.{MayBlock, may_block, same_made}
use Rattle.nvme_model.proofs.Finished.{differed_closed}
use Rattle.nvme_model.proofs.Granted.{units_some}
use Rattle.nvme_model.proofs.Holding.{range_of_entry}
use Rattle.nvme_model.proofs.Lists.{Each, each_filter, each_find}
use Rattle.nvme_model.proofs.Medium.{is_open}
use Rattle.nvme_model.proofs.Placed.{block_unposted}
use Rattle.nvme_model.proofs.Rules.{follows}
use Rattle.ticket_laws.specs.Standing.{OpenUnit, Standing, has_run, blocks_left, on_differs, on_success}
use Rattle.ticket_laws.specs.Standing.{owed_by_standing}
use Rattle.ticket_laws.specs.Standing.{owed_running, remaining, standing, still_owed, unit_of}
use Rattle.ticket_laws.proofs.Joined.{IsLast, open_last}
use Rattle.ticket_laws.proofs.Left.{blocks_of_all}
use Rattle.ticket_laws.proofs.Opening.{ends_with}
use Rattle.ticket_laws.proofs.Standings.{after_block, block_off, block_on}
use Rattle.block_exec.specs.Course.{unit_noted}
use Rattle.block_exec.specs.Progress.{UnitProgress, unit_has_ended, needed}
use Rattle.block_exec.proofs.Histories.{steps_needed-needed}
use Rattle.job_table.specs.Shown.{run_of, stage_by, standing_stage}
use Rattle.job_table.specs.Stages.{between, moved_to, noted_in}
use Rattle.job_table.specs.declared.progress.TicketStage.{TicketStage}
use Rattle.job_table.specs.declared.progress.TicketStage.TheVariants.{Open, Owing, Waiting}

-- no block is left where no unit is
pub none_behind : (rs : List Range) (n : ℕ) → Each (λ r. 1 ≤ r.blocks) rs
    → nat_le (length rs) n ≡ (blocks_of_all (drop n rs) == 0)
none_behind [] zero e = le-leb 0 0 (omega arith)
none_behind [] (suc n) e = le-leb 0 (suc n) (omega arith)
none_behind (r ∷ rs) zero e =
    lt-leb (suc (length rs)) 0 (omega arith)
    ∙ sym (ne_eqb (blocks_of_all (r ∷ rs)) 0
    (λ q. omega (arith, q, e.0, sum_by-cons (λ (x : Range). x.blocks) r rs)))
none_behind (r ∷ rs) (suc n) e = next (length rs) n ∙ none_behind rs n e.1
  where
    next : (a b : ℕ) → nat_le (suc a) (suc b) ≡ nat_le a b
    next a b = grind (arith, nat_tests)

-- an operation is of a verdict that passed
pub owed_by_op : (c : ConfigNumbers) (s : Standing) (o : Op) (v : Verdict) (e : Sqe) → op_by v e ≡ Some o
    → owed_by_standing c s v ≡ owed_running c s (op s.ticket)
owed_by_op c s o Verdict.Single e h = refl
owed_by_op c s o Verdict.Pair e h = refl
owed_by_op c s o (Verdict.SingleFailed f) e h = absurd (let x : None ≡ Some o = h in cc)
owed_by_op c s o (Verdict.PairFailed f r) e h = absurd (let x : None ≡ Some o = h in cc)

some_op : (o : Option Op) (n j : ℕ) (f : Found) → may_find o n j f ≡ true → (x : Op) × (o ≡ Some x)
some_op None n j f e = absurd cc
some_op (Some x) n j f e = (x, refl)

-- where a ticket stands whose unit has ended
module _ (c : ConfigNumbers) (s : Standing) (o : Op) (does : op s.ticket ≡ Some o) (posts : s.posts ≡ 0) where
  owed_is : still_owed c s ≡ owed_running c s (Some o)
  owed_is = (λ z. drop (posts z) (owed_by_op c s o s.ticket.verdict (first_fields s.ticket) does z))
      ∙ ap (owed_running c s) does

  differs_then : s.differs ≡ true → stage_by c s (Some o) None ≡ Owing (on_differs o)
  differs_then d =
      ap (λ (b : Bool). cond (cond b 0 (remaining c s) == 0) (Owing (still_owed c s))
      (Waiting o s.opened (blocks_left c s))) d
      ∙ ap Owing (owed_is ∙ ap (λ (b : Bool). cond b (on_differs o) (cond (has_run c s) (on_success o) [])) d)

  ended_then : s.differs ≡ false → s.unit ≡ None → stage_by c s (Some o) None ≡ between o s.opened (blocks_left c s)
  ended_then d n = go ((blocks_left c s).blocks == 0) refl
    where
      go : (b : Bool) → ((blocks_left c s).blocks == 0) ≡ b
          → cond b (Owing (still_owed c s)) (Waiting o s.opened (blocks_left c s))
          ≡ cond b (Owing (on_success o)) (Waiting o s.opened (blocks_left c s))
      go false e = refl
      go true e =
          let one : 1 ≤ block_count (first_fields s.ticket) = omega arith in
          let last : nat_le (length (units c s.ticket)) s.opened ≡ true =
          none_behind (units c s.ticket) s.opened
          (units_some c.atomic (op s.ticket) (slba (first_fields s.ticket)) (block_count (first_fields s.ticket)) one)
          ∙ ap (λ (b : Bool). cond b 0 (remaining c s) == 0) (sym d) ∙ e in
          let run : has_run c s ≡ true = (λ z. last z && is_none (n z)) in
          ap Owing (owed_is ∙ (λ z. cond (d z) (on_differs o) (cond (run z) (on_success o) [])))

pub found_any : {X : Type 0} (f : X → Bool) (xs : List X) (x : X) → find f xs ≡ Some x → list_any f xs ≡ true
found_any f [] x e = absurd cc
found_any f (y ∷ ys) x e = go (f y) (found_any f ys x) e
  where
    go : (b : Bool) → (find f ys ≡ Some x → list_any f ys ≡ true) → cond b (Some y) (find f ys) ≡ Some x
        → (b || list_any f ys) ≡ true
    go true ih e = refl
    go false ih e = ih e

or_nothing : (a b : Bool) → b ≡ false → (a || b) ≡ a
or_nothing true b e = refl
or_nothing false b e = e

module _ (c : ConfigNumbers) (past : Past) (b : BlockLine) (h : IsLegal c (Entry.Block b ∷ past)) (g : GrantLine)
    (found : find (λ x. x.ticket == b.ticket) (open_units past) ≡ Some g) (may : MayBlock past b g) (o : Op)
    (does : op (ticket past b.ticket) ≡ Some o) where
  abbrev t : ℕ
  t = b.ticket

  abbrev s : Standing
  s = standing past t

  abbrev made : List BlockLine
  made = blocks_made past g.ticket g.unit

  abbrev p : UnitProgress
  p = run_of o (unit_of past g)

  before : IsLegal c past
  before = (follows c past (Entry.Block b) h).before

  none_so_far : list_any (λ x. is_differs x.found) made ≡ false
  none_so_far = (or_parts (nat_le (steps_needed (ticket past g.ticket) g.range.blocks) (length made))
      (list_any (λ x. is_differs x.found) made) may.unended.goes_on).1

  ends_is : ends_with past b ≡ unit_has_ended (unit_noted p b.found)
  ends_is =
      (λ z. Open.has_ended (Entry.Block b ∷ past) (sym may.ticket z) (may.unit z)
      (range_of_entry past b g may z).blocks)
      ∙ ap (λ (xs : List BlockLine). nat_le (steps_needed (ticket past g.ticket) g.range.blocks) (length xs)
      || list_any (λ x. is_differs x.found) xs) (same_made b g.ticket g.unit made (sym may.ticket) may.unit)
      ∙ ap (λ n. nat_le n (suc (length made)) || (is_differs b.found || list_any (λ x. is_differs x.found) made))
      (steps_needed-needed (ticket past g.ticket) o g.range.blocks (ap (λ u. op (ticket past u)) may.ticket ∙ does))
      ∙ ap (λ x. nat_le (needed o g.range.blocks) (suc (length made)) || x)
      (or_nothing (is_differs b.found) (list_any (λ x. is_differs x.found) made) none_so_far)

  none_differed : differed past t ≡ false
  none_differed = go (differed past t) refl
    where
      go : (d : Bool) → differed past t ≡ d → d ≡ false
      go false e = refl
      go true e = absurd (let both : true ≡ false =
          sym (found_any (λ (x : GrantLine). x.ticket == t) (open_units past) g found)
          ∙ differed_closed c past t before e in cc)

  last : suc g.unit ≡ s.opened
  last =
      let opens = each_filter (IsLast past) (λ x. IsLast past x × (is_open past x ≡ true)) (is_open past)
      (λ x y e. (y, e)) (granted past) (open_last c past before) in
      let x = each_find _ (λ y. y.ticket == t) (open_units past) g opens found in
      x.0.0 x.0.1 ∙ ap (grants_of past) may.ticket

  left_same : (u : Option OpenUnit) → is_differs b.found ≡ false
      → blocks_left c (after_block past b u) ≡ blocks_left c s
  left_same u d = ap (λ (x : Bool). record (blocks_left c s) { blocks = cond (x || differed past t) 0 (remaining c s) })
      d

  stage_was : standing_stage c s ≡ Open p g.unit (blocks_left c s)
  stage_was = (λ z. stage_by c s (does z) (option_map (unit_of past) (found z)))

  moved : standing_stage c (standing (Entry.Block b ∷ past) t)
      ≡ moved_to (unit_noted p b.found) g.unit (blocks_left c s)
  moved = go (is_differs b.found) refl (unit_has_ended (unit_noted p b.found)) refl
    where
      go : (d : Bool) → is_differs b.found ≡ d → (e : Bool) → unit_has_ended (unit_noted p b.found) ≡ e
          → standing_stage c (standing (Entry.Block b ∷ past) t)
          ≡ moved_to (unit_noted p b.found) g.unit (blocks_left c s)
      go true d true e =
          ap (standing_stage c) (block_off c past b h (ends_is ∙ e))
          ∙ ap (λ (x : Option Op). stage_by c (after_block past b None) x None) does
          ∙ differs_then c (after_block past b None) o does (block_unposted c past b h)
          (ap (λ (x : Bool). x || differed past t) d)
          ∙ ap (λ (x : Bool). cond x (Owing (on_differs o))
          (cond (unit_has_ended (unit_noted p b.found)) (between o (g.unit + 1) (blocks_left c s))
          (Open (unit_noted p b.found) g.unit (blocks_left c s)))) (sym d)
      go true d false e = absurd
          (let both : true ≡ false = sym d
          ∙ (or_parts (nat_le (needed o g.range.blocks) (suc (length made))) (is_differs b.found) e).1 in cc)
      go false d true e =
          let next : s.opened ≡ g.unit + 1 = sym last ∙ sym (add-one g.unit) in
          ap (standing_stage c) (block_off c past b h (ends_is ∙ e))
          ∙ ap (λ (x : Option Op). stage_by c (after_block past b None) x None) does
          ∙ ended_then c (after_block past b None) o does (block_unposted c past b h) ((λ z. d z || none_differed z))
          refl
          ∙ (λ z. between o (next z) (left_same None d z))
          ∙ (λ z. cond (sym d z) (Owing (on_differs o))
          (cond (sym e z) (between o (g.unit + 1) (blocks_left c s))
          (Open (unit_noted p b.found) g.unit (blocks_left c s))))
      go false d false e =
          let u : OpenUnit = record { line = g; made = length made + 1 } in
          ap (standing_stage c) (block_on c past b g h found may (ends_is ∙ e))
          ∙ ap (λ (x : Option Op). stage_by c (after_block past b (Some u)) x (Some u)) does
          ∙ (λ z. Open (record { op = o; range = g.range; made = add-one (length made) z; differed = sym d z }) g.unit
          (left_same (Some u) d z))
          ∙ (λ z. cond (sym d z) (Owing (on_differs o))
          (cond (sym e z) (between o (g.unit + 1) (blocks_left c s))
          (Open (unit_noted p b.found) g.unit (blocks_left c s))))

  blocked_by : standing_stage c (standing (Entry.Block b ∷ past) t) ≡ noted_in (standing_stage c s) b.found
  blocked_by = moved ∙ ap (λ (x : TicketStage). noted_in x b.found) (sym stage_was)

pub blocked : (c : ConfigNumbers) (past : Past) (b : BlockLine) → IsLegal c (Entry.Block b ∷ past)
    → standing_stage c (standing (Entry.Block b ∷ past) b.ticket)
    ≡ noted_in (standing_stage c (standing past b.ticket)) b.found
blocked c past b h =
    let m = may_block c past b h in
    let x = some_op (op (ticket past b.ticket)) m.0.range.blocks (length (blocks_made past m.0.ticket m.0.unit)) b.found
    m.2.word in
    blocked_by c past b h m.0 m.1 m.2 x.0 x.1
