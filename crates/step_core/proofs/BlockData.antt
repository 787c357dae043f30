-- The open unit of a Block: its data, and what its next Block finds.
use Rattle.std.proofs.Common.{◌≡◌, ℕ, zero, suc, ◌+◌, ◌-◌, ◌*◌, ◌≤◌, ◌<◌, Bool, true, false, cond, List, [], drop}
use Rattle.std.proofs.Common.{length, length-append, take, nat_le, bytes_eq, refl, sym, ap, ◌∙◌, subst, Option, Some}
use Rattle.std.proofs.Common.{None, is_some, inl, inr, arith, eqb-true, replicate, slice_get, ◌==◌}
use Rattle.std.specs.Prelude.{is_none}
use Rattle.std.specs.List.{find, list_any}
use Rattle.std.specs.Option.{option_map}
use Rattle.std.proofs.Math.Nat.{mod-lt}
use Rattle.std.proofs.lemmas.Bool.{not-false, or_parts}
use Rattle.std.proofs.lemmas.List.{length-replicate}
use Rattle.nvme_model.specs.declared.array.Range.{Range}
use Rattle.nvme_model.specs.declared.config.ConfigNumbers.{ConfigNumbers}
use Rattle.nvme_model.specs.declared.entry.GrantLine.{GrantLine}
use Rattle.nvme_model.specs.declared.operation.Found.{Found}
use Rattle.nvme_model.specs.declared.operation.Op.{Op}
use Rattle.nvme_model.specs.declared.step.Step.{Step}
use Rattle.nvme_model.specs.Array.{zeros}
use Rattle.nvme_model.specs.EntryBytes.{block_count, slba}
use Rattle.nvme_model.specs.History.{Past}
use Rattle.nvme_model.specs.Legal.{IsLegal}
use Rattle.nvme_model.specs.Medium.{medium}
use Rattle.nvme_model.specs.Open.{blocks_made, granted, grants_of, is_differs, open_units}
use Rattle.nvme_model.specs.Open
use Rattle.nvme_model.specs.Operations.{compare_data, has_compare, op, units}
use Rattle.nvme_model.specs.Refusals.{conditions, has_open, refusal}
use Rattle.ticket_laws.specs.Standing.{blocks_left, standing, unit_of}
use Rattle.nvme_model.specs.Steps.{marked}
use Rattle.nvme_model.specs.Tickets.{Ticket, command, first_fields, ticket}
use Rattle.nvme_model.proofs.Blocks.{OpenFacts, open_facts}
use Rattle.nvme_model.proofs.Checked.{ticket_checked}
use Rattle.nvme_model.proofs.Ended.{found_some, granted_op}
use Rattle.ticket_laws.proofs.Joined.{IsLast, open_last}
use Rattle.ticket_laws.proofs.Lengths.{HasData, InTicket, Within, granted_lie, has_data_if}
use Rattle.nvme_model.proofs.Lists.{Each, each_filter, each_find}
use Rattle.nvme_model.proofs.Medium.{is_open}
use Rattle.nvme_model.proofs.NextPost.{unit_at}
use Rattle.nvme_model.proofs.Rules.{none_holds}
use Rattle.block_exec.specs.Bytes.{compare_length, data_at}
use Rattle.block_exec.specs.Course.{next_done}
use Rattle.block_exec.specs.Progress.{UnitProgress, found_by, unit_has_ended, needed, next_block, next_place}
use Rattle.block_exec.specs.Units.{progress_of, unit_compare}
use Rattle.block_exec.specs.declared.run.Done.{Done}
use Rattle.block_exec.proofs.Histories.{unit_has_ended-progress_of}
use Rattle.block_exec.proofs.Parts.{data_at-unit_compare, length-unit_compare}
use Rattle.job_table.specs.Keeping.{finds_equal}
use Rattle.job_table.specs.Parts.{HasPart, part_end, part_of}
use Rattle.job_table.specs.Shown.{stage_by}
use Rattle.job_table.specs.declared.progress.TicketStage.TheVariants.{Open}
use Rattle.job_table.specs.Tickets.{compare_bytes, job_at, job_by, read_bytes_by}
use Rattle.rings.specs.Tables.{IsTable}
use Rattle.step_core.proofs.Granting.{any_found, job_stage}

-- ---- the unit that a Block is of

-- g is the open unit of ticket t, which does o
pub record IsUnit (c : ConfigNumbers) (past : Past) (t : ℕ) (g : GrantLine) (o : Op) : Type 0 where
  pub found : find (λ x. x.ticket == t) (open_units past) ≡ Some g
  pub does : op (ticket past t) ≡ Some o
  pub facts : OpenFacts past g
  pub own : g.ticket ≡ t
  pub last : suc g.unit ≡ grants_of past t
  pub inside : Within (slba (first_fields (ticket past t))) (block_count (first_fields (ticket past t))) g.range
  pub place : slice_get (units c (ticket past t)) g.unit ≡ Some g.range

some_is : {X : Type 0} (o : Option X) → is_some o ≡ true → (x : X) × (o ≡ Some x)
some_is None e = absurd cc
some_is (Some x) e = (x, refl)

opens_each : (P : GrantLine → Type 0) (past : Past) → Each P (granted past)
    → Each (λ x. P x × (is_open past x ≡ true)) (open_units past)
opens_each P past h = each_filter P (λ x. P x × (is_open past x ≡ true)) (is_open past) (λ x p e. (p, e)) (granted past)
    h

-- the unit that stands open
pub unit_there : (c : ConfigNumbers) (past : Past) (t : ℕ) → IsLegal c past → has_open past t ≡ true
    → (g : GrantLine) × (o : Op) × IsUnit c past t g o
unit_there c past t h up =
    let x = found_some (λ g. g.ticket == t) (open_units past) (any_found (λ g. g.ticket == t) (open_units past) ∙ up) in
    let g : GrantLine = x.0 in
    let facts = each_find (OpenFacts past) (λ y. y.ticket == t) (open_units past) g (open_facts c past h) x.1 in
    let own : g.ticket ≡ t = eqb-true g.ticket t facts.1 in
    let works = each_find _ (λ y. y.ticket == t) (open_units past) g
    (opens_each (λ y. is_some (op (ticket past y.ticket)) ≡ true) past (granted_op c past h)) x.1 in
    let last = each_find _ (λ y. y.ticket == t) (open_units past) g (opens_each (IsLast past) past (open_last c past h))
    x.1 in
    let lies = each_find _ (λ y. y.ticket == t) (open_units past) g
    (opens_each (InTicket past) past (granted_lie c past h)) x.1 in
    let there = each_find _ (λ y. y.ticket == t) (open_units past) g
    (opens_each (λ y. slice_get (units c (ticket past y.ticket)) y.unit ≡ Some y.range) past (unit_at c past h))
    x.1 in
    let o = some_is (op (ticket past t)) (ap (λ (s : ℕ). is_some (op (ticket past s))) (sym own) ∙ works.0.0) in (
      g,
      o.0,
      record {
        found = x.1;
        does = o.1;
        facts = facts.0;
        own = own;
        last = last.0.0 last.0.1 ∙ ap (grants_of past) own;
        inside = subst (λ (s : ℕ).
            Within (slba (first_fields (ticket past s))) (block_count (first_fields (ticket past s))) g.range) own
            lies.0.0;
        place = ap (λ (s : ℕ). slice_get (units c (ticket past s)) g.unit) (sym own) ∙ there.0.0;
      },
    )

-- where nothing refuses a Block there is one
pub unit_found : (c : ConfigNumbers) (past : Past) (t : ℕ) → IsLegal c past → refusal c past (Step.Block t) ≡ None
    → (g : GrantLine) × (o : Op) × IsUnit c past t g o
unit_found c past t h none =
    let rows = none_holds (conditions c past (Step.Block t)) (ap is_none none) in
    unit_there c past t h (not-false (has_open past t) rows.1.0)

-- ---- parts of data

take_none : (n : ℕ) → take n (let none : List ℕ = [] in none) ≡ []
take_none zero = refl
take_none (suc n) = refl

drop_none : (n : ℕ) → drop n (let none : List ℕ = [] in none) ≡ []
drop_none zero = refl
drop_none (suc n) = refl

-- no data has no part
none_part : (s : ℕ) (r : Range) → part_of [] s r ≡ []
none_part s r = ap (take (512 * r.blocks)) (drop_none (512 * (r.slba - s))) ∙ take_none (512 * r.blocks)

-- what a unit compares with is its part of the Compare's data
pub compare_part : (k : Ticket) (o : Op) (r : Range) → op k ≡ Some o
    → part_of (compare_bytes k) (slba (first_fields k)) r ≡ unit_compare o k r
compare_part k o r e = ap
    (λ (w : Option Op). part_of (cond (has_compare w) (command k 0).payload []) (slba (first_fields k)) r) e ∙ by o
  where
    by : (o : Op) → part_of (cond (has_compare (Some o)) (command k 0).payload []) (slba (first_fields k)) r
        ≡ unit_compare o k r
    by Op.Compare = refl
    by Op.Pair = refl
    by Op.Read = none_part (slba (first_fields k)) r
    by Op.Write = none_part (slba (first_fields k)) r
    by Op.WriteZeroes = none_part (slba (first_fields k)) r

-- ---- what a Block finds

found_same : (o : Op) (n j : ℕ) (a b : Bool) → (has_compare (Some o) ≡ true → a ≡ b)
    → found_by o n j a ≡ found_by o n j b
found_same Op.Read n j a b e = refl
found_same Op.Write n j a b e = refl
found_same Op.WriteZeroes n j a b e = refl
found_same Op.Compare n j a b e = ap (found_by Op.Compare n j) (e refl)
found_same Op.Pair n j a b e = ap (found_by Op.Pair n j) (e refl)

-- whether a block is the Compare's data counts where there is one
pub done_same : (p : UnitProgress) (a b : Bool) → (has_compare (Some p.op) ≡ true → a ≡ b)
    → next_done p a ≡ next_done p b
done_same p a b e =
    let says : Found → Done =
    λ x. record {
      lba = next_block p;
      found = x;
      effect = marked (Some p.op) p.range.blocks p.made x;
      ended = unit_has_ended (record p { made = suc p.made; differed = is_differs x });
    } in
    ap says (found_same p.op p.range.blocks p.made a b e)

-- ---- where its ticket stands, and what its next Block requires

module _ (c : ConfigNumbers) (past : Past) (t : ℕ) (h : IsLegal c past) (g : GrantLine) (o : Op)
    (u : IsUnit c past t g o) where
  -- its unit goes on
  pub unended : unit_has_ended (progress_of past t g.unit o g.range) ≡ false
  unended =
      unit_has_ended-progress_of past t g.unit o g.range u.does
      ∙ ap (λ (s : ℕ). Open.has_ended past s g.unit g.range.blocks) (sym u.own) ∙ u.facts.goes_on

  -- nothing of it differs
  pub same_so_far : list_any (λ b. is_differs b.found) (blocks_made past t g.unit) ≡ false
  same_so_far = (or_parts (nat_le (needed o g.range.blocks) (length (blocks_made past t g.unit)))
      (list_any (λ b. is_differs b.found) (blocks_made past t g.unit)) unended).1

  -- and its ticket stands so
  pub stage_is : (job_at c past t).progress.stage
      ≡ Open (progress_of past t g.unit o g.range) g.unit (blocks_left c (standing past t))
  stage_is =
      job_stage c (standing past t)
      ∙ ap (λ (x : Option GrantLine). stage_by c (standing past t) (op (ticket past t)) (option_map (unit_of past) x))
      u.found
      ∙ ap (λ (w : Option Op). stage_by c (standing past t) w (Some (unit_of past g))) u.does
      ∙ (λ z. Open (record {
        op = o;
        range = g.range;
        made = length (blocks_made past (u.own z) g.unit);
        differed = sym same_so_far z;
      }) g.unit (blocks_left c (standing past t)))

  -- the block that is due is one of the unit
  pub place_within : next_place (progress_of past t g.unit o g.range) < g.range.blocks
  place_within = mod-lt (length (blocks_made past t g.unit)) u.facts.facts.some

  some : is_some (op (ticket past t)) ≡ true
  some = ap is_some u.does

  -- and of the volume
  pub range_inside : g.range.slba + g.range.blocks ≤ c.blocks
  range_inside = omega (arith, u.inside.high, (ticket_checked c past t h some).first.inside)

  data_is : HasData (ticket past t)
  data_is = has_data_if c (ticket past t) (ticket_checked c past t h some)

  pub compare_there : HasPart (compare_bytes (ticket past t)) (slba (first_fields (ticket past t))) g.range
  compare_there = go (has_compare (op (ticket past t))) refl
    where
      go : (b : Bool) → has_compare (op (ticket past t)) ≡ b
          → HasPart (cond b (command (ticket past t) 0).payload []) (slba (first_fields (ticket past t))) g.range
      go true e = inr (omega (arith, data_is.compare e, u.inside.low, u.inside.high))
      go false e = inl refl

  pub compare_long : length (part_of (compare_bytes (ticket past t)) (slba (first_fields (ticket past t))) g.range)
      ≡ compare_length o g.range.blocks
  compare_long =
      ap length (compare_part (ticket past t) o g.range u.does)
      ∙ length-unit_compare o (ticket past t) g.range
      (λ e. omega (arith, data_is.compare (ap has_compare u.does ∙ e), u.inside.low, u.inside.high))

  pub read_long : (read : List ℕ) → o ≡ Op.Read
      → part_end (slba (first_fields (ticket past t))) g.range
      ≤ length (read_bytes_by (op (ticket past t)) (ticket past t) read)
  read_long read e =
      let total : ℕ = 512 * block_count (first_fields (ticket past t)) in
      subst (λ (w : Option Op). part_end (slba (first_fields (ticket past t))) g.range
      ≤ length (read_bytes_by w (ticket past t) read)) (sym (u.does ∙ ap Some e))
      (omega (
        arith,
        length-append read (replicate (total - length read) 0),
        length-replicate {A = ℕ} (total - length read) 0,
        u.inside.low,
        u.inside.high,
      ))

  -- its next Block finds what the history says
  pub finds_same : (v : List (List ℕ)) → IsTable (medium past) c.blocks v → has_compare (Some o) ≡ true
      → (let p = progress_of past t g.unit o g.range in
      finds_equal (job_at c past t) p v
      ≡ bytes_eq (medium past (next_block p)) (compare_data (ticket past t) (next_block p)))
  unfolding job_by
  finds_same v table e =
      let p : UnitProgress = progress_of past t g.unit o g.range in
      let lies : next_block p < c.blocks = omega (arith, range_inside, place_within) in
      ap (λ (xs : List ℕ). bytes_eq xs
      (data_at (part_of (compare_bytes (ticket past t)) (slba (first_fields (ticket past t))) g.range)
      (next_place p))) (table.at (next_block p) zeros lies)
      ∙ ap (λ (xs : List ℕ). bytes_eq (medium past (next_block p)) (data_at xs (next_place p)))
      (compare_part (ticket past t) o g.range u.does)
      ∙ ap (bytes_eq (medium past (next_block p)))
      (data_at-unit_compare (ticket past t) o g.range (next_place p) e u.inside.low place_within)
