-- A trace tells the same order of effects and the same slices as what it reads.
use Rattle.std.proofs.Common.{◌≡◌, ℕ, suc, ◌+◌, ◌-◌, ◌%◌, Bool, true, false, not, ◌&&◌, ◌||◌, cond, List, [], ◌∷◌}
use Rattle.std.proofs.Common.{Option, None, Some, bytes_eq, is_none, length, map, slice_get, nat_le, nat_lt}
use Rattle.std.proofs.Common.{refl}
use Rattle.std.proofs.Common.{ap, ap₂, ◌∙◌, subst, subst₂, eqb}
use Rattle.std.proofs.Math.Path.{fun_ext}
use Rattle.std.specs.List.{filter, flat_map, list_all, list_any, range_with_len}
use Rattle.nvme_model.specs.Config.{completion_queue}
use Rattle.nvme_model.specs.EntryBytes.{cqe_fields}
use Rattle.nvme_model.specs.Operations.{compare_data, has_write, is_pair, op, write_data}
use Rattle.nvme_model.specs.Verdict.{is_in}
use Rattle.nvme_model.specs.declared.array.Range.{Range}
use Rattle.nvme_model.specs.declared.config.ConfigNumbers.{ConfigNumbers}
use Rattle.nvme_model.specs.declared.operation.Op.{Op}
use Rattle.trace.specs.Options.{ReadsAs, ReadsReap}
use Rattle.trace.specs.declared.options.TraceOptions.{TraceOptions}
use Rattle.trace.specs.declared.seen.ReapedLine.{ReapedLine}
use Rattle.trace.specs.declared.seen.Seen.{Seen}
use Rattle.trace.proofs.Pointwise.{same_length}
use Rattle.refutation.specs.Pieces.{Held, Piece}
use Rattle.refutation.specs.EffectOrders.{EffectName, before_post, comes_before, ends_before, is_earlier_unit}
use Rattle.refutation.specs.EffectOrders.{is_fetched_later, is_made_by_post, is_told_by_head, last_entry, longer}
use Rattle.refutation.specs.EffectOrders.{most_fetched, through_entries, through_reaps}
use Rattle.refutation.specs.LineRules.{least_fetched}
use Rattle.refutation.specs.Lines.{answer_in, before_entry, published_in, reaped_in}
use Rattle.refutation.specs.Slices.{answer_data, answer_of, blocks_of, differs_of, each_once, effects_in}
use Rattle.refutation.specs.Slices.{effects_of_command, finds_of, found_block, is_block_of, is_covered, is_named}
use Rattle.refutation.specs.Slices.{is_piece, looks, may_be_found, may_write, none_else, numbers_where, piece_of}
use Rattle.refutation.specs.Slices.{range_of, says_failed, slice_names, slice_of, surely_writes, ticket_of}
use Rattle.refutation.specs.Slices.{writes_of}
use Rattle.refutation.specs.Told.{is_sure, says_differs, says_done, told_units}
use Rattle.refutation.proofs.ReadCommands.{found_alike, says_alike, told_alike}
use Rattle.refutation.proofs.ReadFields.{sqhd_read, sqid_read}
use Rattle.refutation.proofs.ReadLines.{AnswersRead, Reads, before_reads, same_answer, same_count, same_least}
use Rattle.refutation.proofs.ReadLines.{same_reaped}

-- ---- what is read of answers

same_done : (o : TraceOptions) (a b : Option ReapedLine) → AnswersRead o a b → says_done a ≡ says_done b
same_done o None None h = refl
same_done o None (Some t) h = absurd h
same_done o (Some r) None h = absurd h
same_done o (Some r) (Some t) h = (says_alike o r.cqe t.cqe h.1).done

same_differs : (o : TraceOptions) (a b : Option ReapedLine) → AnswersRead o a b → says_differs a ≡ says_differs b
same_differs o None None h = refl
same_differs o None (Some t) h = absurd h
same_differs o (Some r) None h = absurd h
same_differs o (Some r) (Some t) h = (says_alike o r.cqe t.cqe h.1).differs

same_failed : (o : TraceOptions) (a b : Option ReapedLine) → AnswersRead o a b → says_failed a ≡ says_failed b
same_failed o None None h = refl
same_failed o None (Some t) h = absurd h
same_failed o (Some r) None h = absurd h
same_failed o (Some r) (Some t) h = ap not (says_alike o r.cqe t.cqe h.1).done

same_none : (o : TraceOptions) (a b : Option ReapedLine) → AnswersRead o a b → is_none a ≡ is_none b
same_none o None None h = refl
same_none o None (Some t) h = absurd h
same_none o (Some r) None h = absurd h
same_none o (Some r) (Some t) h = refl

same_data : (o : TraceOptions) (a b : Option ReapedLine) → AnswersRead o a b → answer_data a ≡ answer_data b
same_data o None None h = refl
same_data o None (Some t) h = absurd h
same_data o (Some r) None h = absurd h
same_data o (Some r) (Some t) h = h.2

-- ---- commands

module _ (o : TraceOptions) (c : ConfigNumbers) where
  same_cut : (seen trace : List Seen) (q j : ℕ) → Reads o seen trace → told_units c seen q j ≡ told_units c trace q j
  same_cut seen trace q j h =
      let k = told_alike o seen trace q j h in
      ap₂ (λ (n : ℕ) (us : List Range). cond (nat_le n c.blocks) us []) (ap₂ (λ (m n : ℕ). m + n) k.slba k.blocks)
      (k.units c)

  pub same_sure : (seen trace : List Seen) (q j u : ℕ) → Reads o seen trace
      → is_sure c seen q j u ≡ is_sure c trace q j u
  same_sure seen trace q j u h =
      let a = same_answer o seen trace q j h in
      ap₂ (λ (n : ℕ) (d : Bool). nat_lt u n && (d || (says_differs (answer_in seen q j) && eqb n 1)))
      (ap length (same_cut seen trace q j h)) (same_done o (answer_in seen q j) (answer_in trace q j) a)
      ∙ ap (λ (d : Bool). nat_lt u (length (told_units c trace q j))
      && (says_done (answer_in trace q j) || (d && eqb (length (told_units c trace q j)) 1)))
      (same_differs o (answer_in seen q j) (answer_in trace q j) a)

  -- ---- the order by lines

  same_ends : (seen trace : List Seen) (a b : EffectName) → Reads o seen trace
      → ends_before c seen a b ≡ ends_before c trace a b
  same_ends seen trace a b h =
      ap (λ (x : Option Op). is_sure c (before_entry seen b.queue (cond (is_pair x) (suc b.number) b.number)) a.queue
      a.number a.unit) (told_alike o seen trace b.queue b.number h).op
      ∙ same_sure (before_entry seen b.queue (last_entry trace b.queue b.number))
      (before_entry trace b.queue (last_entry trace b.queue b.number)) a.queue a.number a.unit
      (before_reads o seen trace b.queue (last_entry trace b.queue b.number) h)

  -- ---- the order by SQHD

  longer_reads : (a b x y : List Seen) → Reads o a x → Reads o b y → Reads o (longer a b) (longer x y)
  longer_reads a b x y h g =
      subst₂ (λ (m n : ℕ). Reads o (longer a b) (cond (nat_lt m n) y x)) (same_length (ReadsAs o) a x h)
      (same_length (ReadsAs o) b y g) (by (nat_lt (length a) (length b)))
    where
      by : (z : Bool) → Reads o (cond z b a) (cond z y x)
      by true = g
      by false = h

  entries_read : (seen trace : List Seen) (q n : ℕ) → Reads o seen trace
      → Reads o (through_entries seen q n) (through_entries trace q n)
  entries_read [] [] q n h = tt
  entries_read [] (t ∷ trace) q n h = absurd h
  entries_read (s ∷ seen) [] q n h = absurd h
  entries_read (s ∷ seen) (t ∷ trace) q n h =
      subst (λ (k : ℕ).
      Reads o (cond (nat_le n (length (published_in seen q))) (through_entries seen q n) (s ∷ seen))
      (cond (nat_le n k) (through_entries trace q n) (t ∷ trace))) (same_count o seen trace q h.1)
      (by (nat_le n (length (published_in seen q))) (entries_read seen trace q n h.1))
    where
      by : (z : Bool) → Reads o (through_entries seen q n) (through_entries trace q n)
          → Reads o (cond z (through_entries seen q n) (s ∷ seen)) (cond z (through_entries trace q n) (t ∷ trace))
      by true ih = ih
      by false ih = h

  reaps_read : (seen trace : List Seen) (n i : ℕ) → Reads o seen trace
      → Reads o (through_reaps seen n i) (through_reaps trace n i)
  reaps_read [] [] n i h = tt
  reaps_read [] (t ∷ trace) n i h = absurd h
  reaps_read (s ∷ seen) [] n i h = absurd h
  reaps_read (s ∷ seen) (t ∷ trace) n i h =
      subst (λ (k : ℕ). Reads o (cond (nat_le i (reaped_in seen n)) (through_reaps seen n i) (s ∷ seen))
      (cond (nat_le i k) (through_reaps trace n i) (t ∷ trace))) (same_reaped o seen trace n h.1)
      (by (nat_le i (reaped_in seen n)) (reaps_read seen trace n i h.1))
    where
      by : (z : Bool) → Reads o (through_reaps seen n i) (through_reaps trace n i)
          → Reads o (cond z (through_reaps seen n i) (s ∷ seen)) (cond z (through_reaps trace n i) (t ∷ trace))
      by true ih = ih
      by false ih = h

  posts_read : (seen trace : List Seen) (n : ℕ) → o.ignored.sqhd ≡ false → Reads o seen trace
      → Reads o (before_post c seen n) (before_post c trace n)
  posts_read [] [] n kept h = tt
  posts_read [] (t ∷ trace) n kept h = absurd h
  posts_read (s ∷ seen) [] n kept h = absurd h
  posts_read (Seen.Published p ∷ seen) (Seen.Published t ∷ trace) n kept h = posts_read seen trace n kept h.1
  posts_read (Seen.Published p ∷ seen) (Seen.Reaped t ∷ trace) n kept h = absurd h.0
  posts_read (Seen.Reaped r ∷ seen) (Seen.Published t ∷ trace) n kept h = absurd h.0
  posts_read (Seen.Reaped r ∷ seen) (Seen.Reaped t ∷ trace) n kept h =
      subst (λ (k : ℕ). Reads o (before_post c (Seen.Reaped r ∷ seen) n)
      (cond (eqb k n)
      (longer (before_post c trace n)
      (longer (through_entries trace (cqe_fields t.cqe).sqid
      (least_fetched c (Seen.Reaped t ∷ trace) (cqe_fields t.cqe).sqid))
      (through_reaps trace n (reaped_in trace n + 2 - c.cq_size)))) (before_post c trace n))) h.0.0
      (by (eqb r.queue n) (posts_read seen trace n kept h.1))
    where
      entries : Reads o (through_entries seen (cqe_fields r.cqe).sqid
          (least_fetched c (Seen.Reaped r ∷ seen) (cqe_fields r.cqe).sqid))
          (through_entries trace (cqe_fields t.cqe).sqid
          (least_fetched c (Seen.Reaped t ∷ trace) (cqe_fields t.cqe).sqid))
      entries =
          let q = sqid_read o r.cqe t.cqe h.0.1 in
          let same : least_fetched c (Seen.Reaped r ∷ seen) (cqe_fields r.cqe).sqid
          ≡ least_fetched c (Seen.Reaped t ∷ trace) (cqe_fields t.cqe).sqid =
          same_least o c (Seen.Reaped r ∷ seen) (Seen.Reaped t ∷ trace) (cqe_fields r.cqe).sqid kept h
          ∙ ap (least_fetched c (Seen.Reaped t ∷ trace)) q in
          subst₂ (λ (x k : ℕ). Reads o (through_entries seen (cqe_fields r.cqe).sqid
          (least_fetched c (Seen.Reaped r ∷ seen) (cqe_fields r.cqe).sqid)) (through_entries trace x k)) q same
          (entries_read seen trace (cqe_fields r.cqe).sqid
          (least_fetched c (Seen.Reaped r ∷ seen) (cqe_fields r.cqe).sqid) h.1)

      reaps : Reads o (through_reaps seen n (reaped_in seen n + 2 - c.cq_size))
          (through_reaps trace n (reaped_in trace n + 2 - c.cq_size))
      reaps =
          subst (λ (k : ℕ). Reads o (through_reaps seen n (reaped_in seen n + 2 - c.cq_size))
          (through_reaps trace n (k + 2 - c.cq_size))) (same_reaped o seen trace n h.1)
          (reaps_read seen trace n (reaped_in seen n + 2 - c.cq_size) h.1)

      by : (z : Bool) → Reads o (before_post c seen n) (before_post c trace n)
          → Reads o
          (cond z (longer (before_post c seen n)
          (longer (through_entries seen (cqe_fields r.cqe).sqid
          (least_fetched c (Seen.Reaped r ∷ seen) (cqe_fields r.cqe).sqid))
          (through_reaps seen n (reaped_in seen n + 2 - c.cq_size)))) (before_post c seen n))
          (cond z (longer (before_post c trace n)
          (longer (through_entries trace (cqe_fields t.cqe).sqid
          (least_fetched c (Seen.Reaped t ∷ trace) (cqe_fields t.cqe).sqid))
          (through_reaps trace n (reaped_in trace n + 2 - c.cq_size)))) (before_post c trace n))
      by true ih = longer_reads (before_post c seen n) _ (before_post c trace n) _ ih
          (longer_reads (through_entries seen (cqe_fields r.cqe).sqid
          (least_fetched c (Seen.Reaped r ∷ seen) (cqe_fields r.cqe).sqid))
          (through_reaps seen n (reaped_in seen n + 2 - c.cq_size))
          (through_entries trace (cqe_fields t.cqe).sqid
          (least_fetched c (Seen.Reaped t ∷ trace) (cqe_fields t.cqe).sqid))
          (through_reaps trace n (reaped_in trace n + 2 - c.cq_size)) entries reaps)
      by false ih = ih

  same_fetched : (seen trace : List Seen) (r t : ReapedLine) (b : EffectName) → o.ignored.sqhd ≡ false
      → Reads o seen trace → ReadsReap o r t → is_fetched_later c seen r b ≡ is_fetched_later c trace t b
  same_fetched seen trace r t b kept h g =
      let q = sqid_read o r.cqe t.cqe g.1 in
      let count : length (published_in seen (cqe_fields r.cqe).sqid)
      ≡ length (published_in trace (cqe_fields t.cqe).sqid) =
      same_count o seen trace (cqe_fields r.cqe).sqid h ∙ ap (λ (x : ℕ). length (published_in trace x)) q in
      let most : most_fetched c seen r ≡ most_fetched c trace t =
      ap₂ (λ (n head : ℕ). n - (n + (c.sq_size - head % c.sq_size)) % c.sq_size) count
      (sqhd_read o r.cqe t.cqe kept g.1) in
      ap₂ (λ (x m : ℕ). eqb x b.queue && nat_le m b.number) q most

  same_made : (seen trace : List Seen) (r t : ReapedLine) (a : EffectName) → o.ignored.sqhd ≡ false
      → Reads o seen trace → ReadsReap o r t → is_made_by_post c seen r a ≡ is_made_by_post c trace t a
  same_made seen trace r t a kept h g =
      let here = same_sure (Seen.Reaped r ∷ seen) (Seen.Reaped t ∷ trace) a.queue a.number a.unit (g, h) in
      let before = same_sure (before_post c (Seen.Reaped r ∷ seen) r.queue)
      (before_post c (Seen.Reaped t ∷ trace) r.queue) a.queue a.number a.unit
      (posts_read (Seen.Reaped r ∷ seen) (Seen.Reaped t ∷ trace) r.queue kept (g, h)) in
      ap₂ (λ (x y : Bool). (eqb (completion_queue c a.queue) r.queue && x) || y) here before
      ∙ ap (λ (n : ℕ). (eqb (completion_queue c a.queue) n
      && is_sure c (Seen.Reaped t ∷ trace) a.queue a.number a.unit)
      || is_sure c (before_post c (Seen.Reaped t ∷ trace) n) a.queue a.number a.unit) g.0

  same_head_order : (seen trace : List Seen) (a b : EffectName) → o.ignored.sqhd ≡ false → Reads o seen trace
      → is_told_by_head c seen a b ≡ is_told_by_head c trace a b
  same_head_order [] [] a b kept h = refl
  same_head_order [] (t ∷ trace) a b kept h = absurd h
  same_head_order (s ∷ seen) [] a b kept h = absurd h
  same_head_order (Seen.Published p ∷ seen) (Seen.Published t ∷ trace) a b kept h =
      same_head_order seen trace a b kept h.1
  same_head_order (Seen.Published p ∷ seen) (Seen.Reaped t ∷ trace) a b kept h = absurd h.0
  same_head_order (Seen.Reaped r ∷ seen) (Seen.Published t ∷ trace) a b kept h = absurd h.0
  same_head_order (Seen.Reaped r ∷ seen) (Seen.Reaped t ∷ trace) a b kept h =
      ap₂ (λ (x y : Bool). x || y)
      (ap₂ (λ (x y : Bool). x
      && y) (same_fetched seen trace r t b kept h.1 h.0) (same_made seen trace r t a kept h.1 h.0))
      (same_head_order seen trace a b kept h.1)

  pub same_order : (seen trace : List Seen) (a b : EffectName) → Reads o seen trace
      → comes_before o c seen a b ≡ comes_before o c trace a b
  same_order seen trace a b h =
      ap₂ (λ (x y : Bool). (x || is_earlier_unit a b) || y) (same_ends seen trace a b h)
      (by o.contents_unknown o.ignored.sqhd refl)
    where
      by : (y z : Bool) → o.ignored.sqhd ≡ z
          → ((not y && not z) && is_told_by_head c seen a b) ≡ ((not y && not z) && is_told_by_head c trace a b)
      by true z e = refl
      by false true e = refl
      by false false e = same_head_order seen trace a b e h

  -- ---- what is written

  same_may_write : (seen trace : List Seen) (n : EffectName) (l : ℕ) → Reads o seen trace
      → may_write c seen n l ≡ may_write c trace n l
  same_may_write seen trace n l h =
      let k = told_alike o seen trace n.queue n.number h in
      ap₂ (λ (x : Option Op) (us : List Range). has_write x && is_block_of (slice_get us n.unit) l
      && not (says_failed (answer_of seen n))) k.op (same_cut seen trace n.queue n.number h)
      ∙ ap (λ (f : Bool). has_write (op (ticket_of trace n)) && is_block_of (range_of c trace n) l && not f)
      (same_failed o (answer_of seen n) (answer_of trace n) (same_answer o seen trace n.queue n.number h))

  same_surely : (seen trace : List Seen) (n : EffectName) (l : ℕ) → Reads o seen trace
      → surely_writes c seen n l ≡ surely_writes c trace n l
  same_surely seen trace n l h =
      let k = told_alike o seen trace n.queue n.number h in
      ap₂ (λ (x : Option Op) (us : List Range). has_write x && is_block_of (slice_get us n.unit) l
      && says_done (answer_of seen n)) k.op (same_cut seen trace n.queue n.number h)
      ∙ ap (λ (f : Bool). has_write (op (ticket_of trace n)) && is_block_of (range_of c trace n) l && f)
      (same_done o (answer_of seen n) (answer_of trace n) (same_answer o seen trace n.queue n.number h))

  same_of_command : (seen trace : List Seen) (q j : ℕ) → Reads o seen trace
      → effects_of_command c seen q j ≡ effects_of_command c trace q j
  same_of_command seen trace q j h =
      ap (λ (n : ℕ). map (λ u. let m : EffectName = record { queue = q; number = j; unit = u } in m)
      (range_with_len 0 n)) (ap length (same_cut seen trace q j h))

  same_effects : (seen trace : List Seen) → Reads o seen trace → effects_in c seen ≡ effects_in c trace
  same_effects seen trace h =
      ap (λ (f : ℕ → List EffectName). flat_map f (range_with_len 1 c.pairs))
      (fun_ext (λ q.
      ap₂ (λ (f : ℕ → List EffectName) (n : ℕ). flat_map f (range_with_len 0 n))
      (fun_ext (λ j. same_of_command seen trace q j h)) (same_count o seen trace q h)))

  same_covered : (seen trace : List Seen) (l : ℕ) (y r : EffectName) → Reads o seen trace
      → is_covered o c seen l y r ≡ is_covered o c trace l y r
  same_covered seen trace l y r h =
      ap₂ (λ (p : EffectName → Bool) (ns : List EffectName). list_any p ns)
      (fun_ext (λ x.
      ap₂ (λ (s t : Bool). s && t)
      (ap₂ (λ (s t : Bool). s && t) (same_surely seen trace x l h) (same_order seen trace y x h))
      (same_order seen trace x r h))) (same_effects seen trace h)

  same_found_by : (seen trace : List Seen) (l : ℕ) (y r : EffectName) → Reads o seen trace
      → may_be_found o c seen l y r ≡ may_be_found o c trace l y r
  same_found_by seen trace l y r h =
      ap₂ (λ (s t : Bool). s && t)
      (ap₂ (λ (s t : Bool). s && not t) (same_may_write seen trace y l h) (same_order seen trace r y h))
      (ap not (same_covered seen trace l y r h))

  same_none_else : (seen trace : List Seen) (names : List EffectName) (r : EffectName) (l : ℕ) (fits : List ℕ → Bool)
      → Reads o seen trace → none_else o c seen names r l fits ≡ none_else o c trace names r l fits
  same_none_else seen trace names r l fits h =
      ap₂ (λ (p : EffectName → Bool) (ns : List EffectName). list_all p ns)
      (fun_ext (λ y.
      ap₂ (λ (s : Bool) (d : List ℕ). is_named names y || not (s && fits d)) (same_found_by seen trace l y r h)
      ((told_alike o seen trace y.queue y.number h).written l))) (same_effects seen trace h)

  -- ---- pieces

  same_ranges : (seen trace : List Seen) (n : EffectName) → Reads o seen trace → range_of c seen n ≡ range_of c trace n
  same_ranges seen trace n h = ap (λ (us : List Range). slice_get us n.unit) (same_cut seen trace n.queue n.number h)

  same_finds : (seen trace : List Seen) (blocks : List ℕ) (names : List EffectName) (n : EffectName)
      → Reads o seen trace → finds_of o c seen blocks names n ≡ finds_of o c trace blocks names n
  same_finds seen trace blocks names n h =
      let a = same_answer o seen trace n.queue n.number h in
      let k = told_alike o seen trace n.queue n.number h in
      let found : (l : ℕ) → found_block (op (ticket_of seen n)) (ticket_of seen n) (answer_data (answer_of seen n)) l
      ≡ found_block (op (ticket_of trace n)) (ticket_of trace n) (answer_data (answer_of trace n)) l =
      λ l. ap (λ (d : List ℕ). found_block (op (ticket_of seen n)) (ticket_of seen n) d l)
      (same_data o (answer_of seen n) (answer_of trace n) a)
      ∙ found_alike (ticket_of seen n) (ticket_of trace n) (answer_data (answer_of trace n)) l k in
      ap₂ (λ (x : Option Op) (d : Bool). finds (looks x) d (range_of c seen n)
      (found_block (op (ticket_of seen n)) (ticket_of seen n) (answer_data (answer_of seen n)))
      (λ x. none_else o c seen names n x.0 (λ d. bytes_eq d x.1))) k.op
      (same_differs o (answer_of seen n) (answer_of trace n) a)
      ∙ ap₂ (λ (r : Option Range) (f : ℕ → List ℕ). finds (looks (op (ticket_of trace n)))
      (says_differs (answer_of trace n)) r f (λ x. none_else o c seen names n x.0 (λ d. bytes_eq d x.1)))
      (same_ranges seen trace n h) (fun_ext found)
      ∙ ap (finds (looks (op (ticket_of trace n))) (says_differs (answer_of trace n)) (range_of c trace n)
      (found_block (op (ticket_of trace n)) (ticket_of trace n) (answer_data (answer_of trace n))))
      (fun_ext (λ x. same_none_else seen trace names n x.0 (λ d. bytes_eq d x.1) h))
    where
      finds : Bool → Bool → Option Range → (ℕ → List ℕ) → (Held → Bool) → List Held
      finds x d r f p =
          cond (x && not d) (filter p (map (λ l. (l, f l)) (filter (λ l. is_in l blocks) (blocks_of r)))) []

  same_differing : (seen trace : List Seen) (blocks : List ℕ) (names : List EffectName) (n : EffectName)
      → Reads o seen trace → differs_of o c seen blocks names n ≡ differs_of o c trace blocks names n
  same_differing seen trace blocks names n h =
      let k = told_alike o seen trace n.queue n.number h in
      ap₂ (λ (d : Bool) (r : Option Range). differing d (blocks_of r) (compare_data (ticket_of seen n))
      (λ l x. none_else o c seen names n l (λ y. not (bytes_eq y x))))
      (same_differs o (answer_of seen n) (answer_of trace n) (same_answer o seen trace n.queue n.number h))
      (same_ranges seen trace n h)
      ∙ ap₂ (differing (says_differs (answer_of trace n)) (blocks_of (range_of c trace n))) (fun_ext k.compared)
      (fun_ext (λ l. fun_ext (λ x. same_none_else seen trace names n l (λ y. not (bytes_eq y x)) h)))
    where
      differing : Bool → List ℕ → (ℕ → List ℕ) → (ℕ → List ℕ → Bool) → List (List Held)
      differing d ls f p =
          cond (d && list_all (λ l. is_in l blocks && p l (f l)) ls) (map (λ l. (l, f l)) ls ∷ []) []

  same_writing : (seen trace : List Seen) (blocks : List ℕ) (n : EffectName) → Reads o seen trace
      → writes_of c seen blocks n ≡ writes_of c trace blocks n
  same_writing seen trace blocks n h =
      let k = told_alike o seen trace n.queue n.number h in
      ap₂ (λ (x : Option Op) (d : Bool). writing x d (range_of c seen n) (write_data (ticket_of seen n))) k.op
      (same_differs o (answer_of seen n) (answer_of trace n) (same_answer o seen trace n.queue n.number h))
      ∙ ap₂ (writing (op (ticket_of trace n)) (says_differs (answer_of trace n))) (same_ranges seen trace n h)
      (fun_ext k.written)
    where
      writing : Option Op → Bool → Option Range → (ℕ → List ℕ) → List Held
      writing x d r f =
          cond (has_write x && not d) (map (λ l. (l, f l)) (filter (λ l. is_in l blocks) (blocks_of r))) []

  same_piece : (seen trace : List Seen) (blocks : List ℕ) (names : List EffectName) (n : EffectName)
      → Reads o seen trace → piece_of o c seen blocks names n ≡ piece_of o c trace blocks names n
  same_piece seen trace blocks names n h =
      ap₂ (λ (s : Bool) (ms : List ℕ). of_parts s ms (finds_of o c seen blocks names n)
      (differs_of o c seen blocks names n) (writes_of c seen blocks n)) (same_sure seen trace n.queue n.number n.unit h)
      (ap (λ (p : EffectName → Bool). numbers_where p 0 names) (fun_ext (λ m. same_order seen trace m n h)))
      ∙ ap₂ (λ (f : List Held) (d : List (List Held)). of_parts (is_sure c trace n.queue n.number n.unit)
      (numbers_where (λ m. comes_before o c trace m n) 0 names) f d (writes_of c seen blocks n))
      (same_finds seen trace blocks names n h) (same_differing seen trace blocks names n h)
      ∙ ap (of_parts (is_sure c trace n.queue n.number n.unit)
      (numbers_where (λ m. comes_before o c trace m n) 0 names) (finds_of o c trace blocks names n)
      (differs_of o c trace blocks names n)) (same_writing seen trace blocks n h)
    where
      of_parts : Bool → List ℕ → List Held → List (List Held) → List Held → Piece
      of_parts s ms f d w = record { sure = s; behind = ms; finds = f; differs = d; writes = w }

  same_is_piece : (seen trace : List Seen) (n : EffectName) → Reads o seen trace
      → is_piece c seen n ≡ is_piece c trace n
  same_is_piece seen trace n h =
      ap₂ (λ (s a : Bool). s || (a && has_write (op (ticket_of seen n))))
      (same_sure seen trace n.queue n.number n.unit h)
      (same_none o (answer_of seen n) (answer_of trace n) (same_answer o seen trace n.queue n.number h))
      ∙ ap (λ (x : Option Op). is_sure c trace n.queue n.number n.unit || (is_none (answer_of trace n) && has_write x))
      (told_alike o seen trace n.queue n.number h).op

  same_names : (seen trace : List Seen) (commands : List (ℕ × ℕ)) → Reads o seen trace
      → slice_names c seen commands ≡ slice_names c trace commands
  same_names seen trace commands h =
      ap₂ (λ (p : EffectName → Bool) (f : ℕ × ℕ → List EffectName). each_once (filter p (flat_map f commands)))
      (fun_ext (λ n. same_is_piece seen trace n h)) (fun_ext (λ m. same_of_command seen trace m.0 m.1 h))

  pub same_slice : (seen trace : List Seen) (commands : List (ℕ × ℕ)) (blocks : List ℕ) → Reads o seen trace
      → slice_of o c seen commands blocks ≡ slice_of o c trace commands blocks
  same_slice seen trace commands blocks h =
      ap (λ (names : List EffectName). map (piece_of o c seen blocks names) names) (same_names seen trace commands h)
      ∙ ap (λ (f : EffectName → Piece). map f (slice_names c trace commands))
      (fun_ext (λ n. same_piece seen trace blocks (slice_names c trace commands) n h))
