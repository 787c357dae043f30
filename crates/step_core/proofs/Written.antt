-- What a ticket still writes, as its units are opened and their Blocks are made.
use Rattle.std.proofs.Common.{◌≡◌, ℕ, zero, suc, ◌+◌, ◌-◌, ◌%◌, ◌≤◌, ◌<◌, Bool, true, false, cond, List, [], ◌∷◌, drop}
use Rattle.std.proofs.Common.{get_or, length, length-append, take, nat_lt, refl, sym, ap, ◌∙◌, subst, Option, Some}
use Rattle.std.proofs.Common.{None, is_some, option_map, inl, inr, arith, leb-false, ltb-false, slice_get, ◌==◌}
use Rattle.std.proofs.Math.Nat.{mod-eq-sub-mod, mod-eq_of_lt}
use Rattle.std.proofs.lemmas.Bool.{cases_lt, or_parts}
use Rattle.std.proofs.lemmas.List.{get_or-drop, get_or_append_left, get_or_push, length-drop}
use Rattle.nvme_model.specs.Array.{zeros}
use Rattle.nvme_model.specs.declared.array.Range.{Range}
use Rattle.nvme_model.specs.declared.config.ConfigNumbers.{ConfigNumbers}
use Rattle.nvme_model.specs.declared.entry.GrantLine.{GrantLine}
use Rattle.nvme_model.specs.declared.operation.Found.{Found}
use Rattle.nvme_model.specs.declared.operation.Op.{Op}
use Rattle.nvme_model.specs.EntryBytes.{block_count, slba}
use Rattle.nvme_model.specs.History.{Past}
use Rattle.nvme_model.specs.Legal.{IsLegal}
use Rattle.nvme_model.specs.Open.{blocks_made, differed, grants_of, is_written, open_units}
use Rattle.nvme_model.specs.Operations.{op, units, units_by, write_data, write_data_by}
use Rattle.nvme_model.specs.Refusals.{has_open}
use Rattle.nvme_model.specs.Tickets.{Ticket, command, first_fields, ticket}
use Rattle.nvme_model.proofs.Cut.{cut-is}
use Rattle.nvme_model.proofs.Finished.{differed_closed}
use Rattle.ticket_laws.specs.Standing.{OpenUnit, Standing, fresh_standing, had, standing, unit_of}
use Rattle.ticket_laws.proofs.Left.{blocks_of_all, take_one_more}
use Rattle.block_exec.specs.Bytes.{block_at, first_blocks, data_at, needs_box_by, written_by}
use Rattle.block_exec.specs.Progress.{compared_as, found_by, needed, next_block}
use Rattle.block_exec.specs.Units.{progress_of}
use Rattle.job_table.specs.Keeping.{CanMake}
use Rattle.job_table.specs.Tickets.{job_at, job_by, left_in, pair_written, still_written, write_blocks, write_blocks_by}
use Rattle.job_table.specs.Tickets.{written_so_far}
use Rattle.step_core.proofs.BlockData.{IsUnit, compare_long, compare_there, range_inside, read_long, unended}
use Rattle.step_core.proofs.Granting.{any_found}
use Rattle.step_core.proofs.ReadBytes.{cut_place}

-- ---- blocks of data

pub length-first_blocks : (n : ℕ) (bytes : List ℕ) → length (first_blocks n bytes) ≡ n
length-first_blocks zero bytes = refl
length-first_blocks (suc n) bytes =
    omega (arith, length-append (first_blocks n bytes) (data_at bytes n ∷ []), length-first_blocks n bytes)

block_in : (n : ℕ) (bytes : List ℕ) (i : ℕ) (d : List ℕ) → i < n → get_or (first_blocks n bytes) i d ≡ data_at bytes i
block_in zero bytes i d l = absurd (omega (arith, l))
block_in (suc n) bytes i d l = elim (cases_lt i n) [
  | inl below ↦ get_or_append_left (first_blocks n bytes) (data_at bytes n ∷ []) d i
      (omega (arith, below, length-first_blocks n bytes)) ∙ block_in n bytes i d below
  | inr high ↦ let same : n ≡ i = omega (arith, l, high) in
      get_or_push (first_blocks n bytes) (data_at bytes n) d i (length-first_blocks n bytes ∙ same)
      ∙ ap (data_at bytes) same
]

-- the first of them behind k others
first_left : (n : ℕ) (bytes : List ℕ) (k : ℕ) → k < n → block_at (drop k (first_blocks n bytes)) 0 ≡ data_at bytes k
first_left n bytes k l =
    get_or-drop k (first_blocks n bytes) 0 zeros ∙ ap (λ i. get_or (first_blocks n bytes) i zeros) (plus k)
    ∙ block_in n bytes k zeros l
  where
    plus : (k : ℕ) → k + 0 ≡ k
    plus k = omega arith

-- there is one
some_left : (n : ℕ) (bytes : List ℕ) (k : ℕ) → k < n → 0 < length (drop k (first_blocks n bytes))
some_left n bytes k l = omega (arith, l, length-drop k (first_blocks n bytes), length-first_blocks n bytes)

-- ---- a ticket that was just fetched writes all

pub fresh_blocks : (c : ConfigNumbers) (k : Ticket) → still_written c (fresh_standing k) ≡ write_blocks k
fresh_blocks c k = by (op k)
  where
    by : (o : Option Op) → drop (written_so_far c (fresh_standing k) o) (write_blocks_by o k) ≡ write_blocks_by o k
    by None = refl
    by (Some Op.Read) = refl
    by (Some Op.Compare) = refl
    by (Some Op.Write) = refl
    by (Some Op.WriteZeroes) = refl
    by (Some Op.Pair) = refl

-- ---- a pair has one unit

one_unit : (x y : Range) (i : ℕ) → slice_get (x ∷ []) i ≡ Some y → (i ≡ 0) × (x ≡ y)
one_unit x y zero e = (refl, some_inj e)
  where
    some_inj : Some x ≡ Some y → x ≡ y
    some_inj h = cc
one_unit x y (suc zero) e = absurd (let f : None ≡ Some y = e in cc)
one_unit x y (suc (suc i)) e = absurd (let f : None ≡ Some y = e in cc)

-- ---- a Grant leaves what is still written

-- where this unit is open
abbrev pub with_unit : Standing → GrantLine → Standing
with_unit s g = record s { opened = s.opened + 1; unit = Some (record { line = g; made = 0 }) }

pub granted_blocks : (c : ConfigNumbers) (s : Standing) (g : GrantLine) → s.unit ≡ None → s.differs ≡ false
    → slice_get (units c s.ticket) s.opened ≡ Some g.range → still_written c s ≡ still_written c (with_unit s g)
granted_blocks c s g closed calm next = ap (λ n. drop n (write_blocks s.ticket)) (count (op s.ticket) refl)
  where
    opened_more : (a b n : ℕ) → b ≡ a + n → a - 0 ≡ b - (n - 0)
    opened_more a b n e = omega (arith, e)

    nothing : (n : ℕ) → 0 ≡ 0 - n
    nothing n = omega arith

    count : (o : Option Op) → op s.ticket ≡ o → written_so_far c s o ≡ written_so_far c (with_unit s g) o
    count None e = refl
    count (Some Op.Read) e = refl
    count (Some Op.Compare) e = refl
    count (Some Op.WriteZeroes) e = refl
    count (Some Op.Write) e =
        ap (λ (u : Option OpenUnit). had c s - left_in u) closed
        ∙ opened_more (had c s) (had c (with_unit s g)) g.range.blocks
        (take_one_more s.opened g.range (units c s.ticket) next)
    count (Some Op.Pair) e =
        let first = one_unit _ g.range s.opened
        (ap (λ (w : Option Op). slice_get
        (units_by c.atomic w (slba (first_fields s.ticket)) (block_count (first_fields s.ticket))) s.opened) (sym e)
        ∙ next) in
        ap (pair_written c s) closed ∙ ap (λ b. cond b 0 (had c s)) calm
        ∙ ap (λ (i : ℕ). blocks_of_all (take i (units c s.ticket))) first.0 ∙ nothing g.range.blocks

-- ---- where the open unit has come

module _ (c : ConfigNumbers) (past : Past) (t : ℕ) (h : IsLegal c past) (g : GrantLine) where
  abbrev k : Ticket
  k = ticket past t

  abbrev s : Standing
  s = standing past t

  abbrev start : ℕ
  start = slba (first_fields (ticket past t))

  abbrev count : ℕ
  count = block_count (first_fields (ticket past t))

  abbrev made : ℕ
  made = length (blocks_made past t g.unit)

  unit_is : (o : Op) → IsUnit c past t g o → (standing past t).unit ≡ Some (unit_of past g)
  unit_is o u = ap (λ (x : Option GrantLine). option_map (unit_of past) x) u.found

  pub made_is : (o : Op) → IsUnit c past t g o → length (blocks_made past g.ticket g.unit) ≡ made
  made_is o u = ap (λ (i : ℕ). length (blocks_made past i g.unit)) u.own

  pub goes_on : (o : Op) → IsUnit c past t g o → made < needed o g.range.blocks
  goes_on o u = leb-false (needed o g.range.blocks) made (or_parts _ _ (unended c past t h g o u)).0

  pub had_is : (o : Op) → IsUnit c past t g o → had c s ≡ blocks_of_all (take g.unit (units c k)) + g.range.blocks
  had_is o u = ap (λ (i : ℕ). blocks_of_all (take i (units c k))) opened
      ∙ take_one_more g.unit g.range (units c k) u.place
    where
      opened : grants_of past t ≡ g.unit + 1
      opened = omega (arith, u.last)

  -- its ticket found no difference
  pub calm : (o : Op) → IsUnit c past t g o → differed past t ≡ false
  calm o u = go (differed past t) refl
    where
      there : has_open past t ≡ true
      there = sym (any_found (λ (x : GrantLine). x.ticket == t) (open_units past)) ∙ ap is_some u.found

      go : (b : Bool) → differed past t ≡ b → differed past t ≡ false
      go false e = e
      go true e = absurd (let both : true ≡ false = sym there ∙ differed_closed c past t h e in cc)

  -- ---- a Write

  pub starts : IsUnit c past t g Op.Write → g.range.slba ≡ start + blocks_of_all (take g.unit (units c k))
  starts u =
      let cut : units c k ≡ units_by c.atomic (Some Op.Write) start count =
      ap (λ (w : Option Op). units_by c.atomic w start count) u.does in
      cut_place c.atomic (units_by c.atomic (Some Op.Write) start count) start count g.unit g.range
      (cut-is c.atomic start count) (ap (λ (rs : List Range). slice_get rs g.unit) (sym cut) ∙ u.place)
      ∙ ap (λ (rs : List Range). start + blocks_of_all (take g.unit rs)) (sym cut)

  pub write_count : IsUnit c past t g Op.Write → written_so_far c s (Some Op.Write) ≡ g.range.slba - start + made
  write_count u =
      ap (λ (x : Option OpenUnit). had c s - left_in x) (unit_is Op.Write u)
      ∙ numbers (had c s) (blocks_of_all (take g.unit (units c k))) g.range.blocks
      (length (blocks_made past g.ticket g.unit)) made g.range.slba start (had_is Op.Write u) (starts u)
      (made_is Op.Write u) (goes_on Op.Write u)
    where
      numbers : (had before n m' m at from : ℕ) → had ≡ before + n → at ≡ from + before → m' ≡ m → m < n
          → had - (n - m') ≡ at - from + m
      numbers had before n m' m at from a b e l = omega (arith, a, b, e, l)

  write_block_is : IsUnit c past t g Op.Write
      → next_block (progress_of past t g.unit Op.Write g.range) ≡ g.range.slba + made
  write_block_is u = ap (λ i. g.range.slba + i) (mod-eq_of_lt (goes_on Op.Write u))

  write_within : (u : IsUnit c past t g Op.Write) → written_so_far c s (Some Op.Write) < count
  write_within u = omega (arith, write_count u, goes_on Op.Write u, u.inside.low, u.inside.high)

  write_place : (u : IsUnit c past t g Op.Write)
      → written_so_far c s (Some Op.Write) ≡ next_block (progress_of past t g.unit Op.Write g.range) - start
  write_place u = omega (arith, write_count u, write_block_is u, u.inside.low)

  -- ---- a pair

  whole : IsUnit c past t g Op.Pair → (g.unit ≡ 0) × (record { slba = start; blocks = count } ≡ g.range)
  whole u = one_unit _ g.range g.unit
      (ap (λ (w : Option Op). slice_get (units_by c.atomic w start count) g.unit) (sym u.does) ∙ u.place)

  pub pair_count : IsUnit c past t g Op.Pair → written_so_far c s (Some Op.Pair) ≡ made - g.range.blocks
  pair_count u = ap (pair_written c s) (unit_is Op.Pair u) ∙ ap (λ (i : ℕ). i - g.range.blocks) (made_is Op.Pair u)

  pub pair_had : IsUnit c past t g Op.Pair → had c s ≡ g.range.blocks
  pair_had u = let none : blocks_of_all (take g.unit (units c k)) ≡ 0 =
      ap (λ (i : ℕ). blocks_of_all (take i (units c k))) (whole u).0 in omega (arith, had_is Op.Pair u, none)

  pair_within : (u : IsUnit c past t g Op.Pair) → written_so_far c s (Some Op.Pair) < count
  pair_within u = omega (
    arith,
    pair_count u,
    goes_on Op.Pair u,
    ap (λ (r : Range). r.blocks) (whole u).1,
    u.facts.facts.some,
  )

  pair_place : (u : IsUnit c past t g Op.Pair) → g.range.blocks ≤ made
      → written_so_far c s (Some Op.Pair) ≡ next_block (progress_of past t g.unit Op.Pair g.range) - start
  pair_place u high =
      let below : made - g.range.blocks < g.range.blocks = omega (arith, goes_on Op.Pair u, high) in
      let place : made % g.range.blocks ≡ made - g.range.blocks = mod-eq-sub-mod high ∙ mod-eq_of_lt below in
      omega (arith, pair_count u, place, ap (λ (r : Range). r.slba) (whole u).1)

  -- ---- what its next Block requires and writes

  -- it has a box where it needs one
  box_there : (o : Op) → IsUnit c past t g o → needs_box_by o g.range.blocks made ≡ true
      → 0 < length (drop (written_so_far c s (Some o)) (write_blocks_by (Some o) k))
  box_there Op.Write u e = some_left count (command k 0).payload (written_so_far c s (Some Op.Write)) (write_within u)
  box_there Op.Pair u e = some_left count (command k 1).payload (written_so_far c s (Some Op.Pair)) (pair_within u)
  box_there Op.Read u e = absurd cc
  box_there Op.Compare u e = absurd cc
  box_there Op.WriteZeroes u e = absurd cc

  -- it writes what the ticket writes there
  data_is : (o : Op) → IsUnit c past t g o → (e : Bool) → is_written (found_by o g.range.blocks made e) ≡ true
      → written_by o (block_at (drop (written_so_far c s (Some o)) (write_blocks_by (Some o) k)) 0)
      ≡ write_data_by (Some o) k (next_block (progress_of past t g.unit o g.range))
  data_is Op.Write u e w =
      first_left count (command k 0).payload (written_so_far c s (Some Op.Write)) (write_within u)
      ∙ ap (data_at (command k 0).payload) (write_place u)
  data_is Op.Pair u e w =
      first_left count (command k 1).payload (written_so_far c s (Some Op.Pair)) (pair_within u)
      ∙ ap (data_at (command k 1).payload) (pair_place u (by (nat_lt made g.range.blocks) refl w))
    where
      compared : (e : Bool) → is_written (compared_as e) ≡ true → g.range.blocks ≤ made
      compared true h = absurd cc
      compared false h = absurd cc

      by : (b : Bool) → nat_lt made g.range.blocks ≡ b → is_written (cond b (compared_as e) Found.Written) ≡ true
          → g.range.blocks ≤ made
      by true l h = compared e h
      by false l h = ltb-false made g.range.blocks l
  data_is Op.WriteZeroes u e w = refl
  data_is Op.Read u e w = absurd cc
  data_is Op.Compare u true w = absurd cc
  data_is Op.Compare u false w = absurd cc

  pub written_now : (o : Op) → IsUnit c past t g o → (e : Bool) → is_written (found_by o g.range.blocks made e) ≡ true
      → written_by o (block_at (still_written c s) 0) ≡ write_data k (next_block (progress_of past t g.unit o g.range))
  written_now o u e w =
      ap (λ (x : Option Op). written_by o (block_at (drop (written_so_far c s x) (write_blocks_by x k)) 0)) u.does
      ∙ data_is o u e w ∙ ap (λ (x : Option Op). write_data_by x k (next_block (progress_of past t g.unit o g.range)))
      (sym u.does)

  -- its next Block can be made
  pub can_make : (o : Op) → IsUnit c past t g o → (v : List (List ℕ)) → length v ≡ c.blocks
      → CanMake (job_at c past t) (progress_of past t g.unit o g.range) v
  unfolding job_by
  can_make o u v size = record {
    within = omega (arith, size, range_inside c past t h g o u);
    start = u.inside.low;
    has_compare = compare_there c past t h g o u;
    compare = compare_long c past t h g o u;
    write = λ e. box_in o u e;
    read = read_long c past t h g o u (standing past t).read;
  }
    where
      box_in : (o : Op) → IsUnit c past t g o → needs_box_by o g.range.blocks made ≡ true
          → 0 < length (still_written c s)
      box_in o u e = subst (λ (x : Option Op). 0 < length (drop (written_so_far c s x) (write_blocks_by x k)))
          (sym u.does) (box_there o u e)
