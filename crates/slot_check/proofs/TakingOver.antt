-- A Block that is the effect of a takeover and says yes takes its slot over, and no other Block does.
use Rattle.nvme_model.specs.Tickets
use Rattle.nvme_model.proofs.Pairs
use Rattle.std.proofs.Common.{le-leb}
use Rattle.std.proofs.Common.{◌≡◌, ℕ, zero, suc, ◌+◌, ◌*◌, ◌%◌, ◌≤◌, Bool, true, false, not, ◌&&◌, ◌||◌, cond, List, []}
use Rattle.std.proofs.Common.{◌∷◌, length, refl, sym, ap, ◌∙◌, arith, subst, subst₂, Some, None, Option}
use Rattle.std.proofs.Common.{eqb, eqb-true, eq-eqb, inl, inr, map, nat_le, slice_get}
use Rattle.std.specs.Bool.{beq}
use Rattle.std.specs.List.{find, list_all, list_any}
use Rattle.std.specs.Str.{bytes_eq}
use Rattle.std.proofs.lemmas.Bool.{and_from, and_parts, cases_Bool, cond-false, not-false, or_cases, or_left, or_parts}
use Rattle.std.proofs.lemmas.Bool.{not-true, or_right}
use Rattle.plain_lemmas.proofs.Bools.{same_tests}
use Rattle.nvme_model.specs.Array.{blocks_from, has_block}
use Rattle.nvme_model.specs.Answered.{may_find, right_answers}
use Rattle.nvme_model.specs.EntryBytes.{Sqe, block_count, slba, sqe_fields}
use Rattle.nvme_model.specs.History.{Past}
use Rattle.nvme_model.specs.Legal.{IsLegal}
use Rattle.nvme_model.specs.Open.{blocks_made, has_ended, is_differs, is_equal, open_units, unit_range}
use Rattle.nvme_model.specs.Operations.{compare_data, has_compare, is_pair, op, op_by, units_by}
use Rattle.nvme_model.specs.Placed.{effect}
use Rattle.nvme_model.specs.Queues.{published_entries}
use Rattle.nvme_model.specs.Slots.{Name, fetched_before, name_of}
use Rattle.nvme_model.specs.Tickets.{Ticket, command, first_fields, tickets}
use Rattle.nvme_model.specs.Value.{all_equal, value}
use Rattle.nvme_model.specs.Verdict.{taken_entries}
use Rattle.nvme_model.specs.declared.array.Range.{Range}
use Rattle.nvme_model.specs.declared.config.ConfigNumbers.{ConfigNumbers}
use Rattle.nvme_model.specs.declared.entry.BlockLine.{BlockLine}
use Rattle.nvme_model.specs.declared.entry.Entry.{Entry}
use Rattle.nvme_model.specs.declared.entry.GrantLine.{GrantLine}
use Rattle.nvme_model.specs.declared.operation.Found.{Found}
use Rattle.nvme_model.specs.declared.operation.Op.{Op}
use Rattle.nvme_model.specs.declared.status.Verdict.{Verdict}
use Rattle.nvme_model.specs.declared.submission.Submission.{Submission}
use Rattle.nvme_model.proofs.Blocks.{MayBlock, lbas, made_in_order, may_block, same_made}
use Rattle.nvme_model.proofs.Placed.{block_fetched, block_unposted}
use Rattle.nvme_model.proofs.Rules.{follows}
use Rattle.nvme_model.proofs.Pairs.{marked_here}
use Rattle.nvme_model.proofs.Cut.{clash}
use Rattle.host_laws.specs.Calls.{says_yes, yes_at}
use Rattle.host_laws.proofs.Calls.{takes_from, takes_parts}
use Rattle.host_laws.proofs.Elements.{In, each_in, in_filter, of_filter, same_some}
use Rattle.host_laws.proofs.Later.{block_facts, pair_range}
use Rattle.host_laws.proofs.Names.{name_eq, name_same}
use Rattle.host_laws.proofs.SwapTickets.{on_one}
use Rattle.host_laws.proofs.Taken.{ticket_taken}
use Rattle.host_laws.proofs.TicketsApart.{taken_some}
use Rattle.host_laws.proofs.Verdicts.{VerdictIs, fuse}
use Rattle.host_laws.specs.Rules.{takeovers_within}
use Rattle.host_laws.specs.Takeovers.{Takeover, is_taken, takeovers, took_effect}
use Rattle.host_laws.proofs.Entries.{TakeoverOf, takeovers_are}
use Rattle.host_laws.proofs.Losing.{pairs}
use Rattle.host_laws.proofs.Taking.{TakenBy, TookBy, taken_from, taken_later, taken_parts, took_from, took_parts}
use Rattle.slot_check.specs.Progress.{KeptProgress, KnowsProgress, flying_of}
use Rattle.slot_check.specs.Takeovers.{KeptTakeovers, KnowsTakeovers, begins_at, takes_name}
use Rattle.slot_check.specs.declared.progress.Flying.{Flying}
use Rattle.slot_check.proofs.Standing.{took_before}

-- ---- an effect of a pair of one block says yes where no compare differed

abbrev compares : Found → Bool
compares f = is_equal f || is_differs f

equal_found : (q : Bool) (f : Found) → compares f ≡ true → is_differs f ≡ false
    → (not (compares f) || beq (is_equal f) q) ≡ true → q ≡ true
equal_found true f c d h = refl
equal_found false Found.Equal c d h = h
equal_found false Found.Differs c d h = clash true refl d
equal_found false Found.Read c d h = c
equal_found false Found.Written c d h = c

-- what a list of Blocks of a unit of one block says
two_made : (past : Past) (k : Ticket) (r : Range) (b a : BlockLine) → r.blocks ≡ 1 → a.lba ≡ r.slba + 0 % r.blocks
    → compares a.found ≡ true → is_differs a.found ≡ false
    → right_answers (Some past) k (b ∷ a ∷ []) ≡ true → all_equal (value past) k r ≡ true
two_made past k r b a one at c d right =
    let x = and_parts _ _ right in
    let y = and_parts (not (compares a.found) || beq (is_equal a.found)
    (bytes_eq (value past a.lba) (compare_data k a.lba))) true x.1 in
    let same : bytes_eq (value past a.lba) (compare_data k a.lba) ≡ true =
    equal_found (bytes_eq (value past a.lba) (compare_data k a.lba)) a.found c d y.0 in
    let lba : a.lba ≡ r.slba = at ∙ (λ i. r.slba + 0 % one i) ∙ omega arith in
    ap (λ (n : ℕ). list_all (λ l. bytes_eq (value past l) (compare_data k l)) (blocks_from r.slba n)) one
    ∙ and_from _ _ (ap (λ (l : ℕ). bytes_eq (value past l) (compare_data k l)) (sym lba) ∙ same) refl

module _ (c : ConfigNumbers) (past : Past) (b : BlockLine) (h : IsLegal c (Entry.Block b ∷ past)) where
  abbrev k : Ticket
  k = Tickets.ticket past b.ticket

  abbrev r : Range
  r = unit_range past b.ticket b.unit

  before : IsLegal c past
  before = (follows c past (Entry.Block b) h).before

  pub all_same : b.effect ≡ true → is_differs b.found ≡ false → op k ≡ Some Op.Pair → r.blocks ≡ 1
      → all_equal (value past) k r ≡ true
  all_same e d p one = go (blocks_made past b.ticket b.unit) refl
    where
      m : (g : GrantLine) × (find (λ g. eqb g.ticket b.ticket) (open_units past) ≡ Some g) × MayBlock past b g
      m = may_block c past b h

      on : has_ended past b.ticket b.unit r.blocks ≡ false
      on = Pairs.goes_on past b m.0 m.2

      go : (made : List BlockLine) → blocks_made past b.ticket b.unit ≡ made → all_equal (value past) k r ≡ true
      go [] q = Pairs.says_yes c past b m.0 before m.2 e (ap has_compare p) d
          (ap (λ (xs : List BlockLine). suc (length xs)) q ∙ sym one)
      go (a ∷ []) q =
          let parts = or_parts _ _ on in
          let words = Pairs.compare_words c past b.ticket b.unit before (block_fetched c past b h).1 (ap has_compare p)
          (omega (arith, ap (λ (xs : List BlockLine). length xs) q, one)) in
          let words2 : list_all (λ x. compares x.found) (a ∷ []) ≡ true =
          subst (λ (xs : List BlockLine). list_all (λ x. compares x.found) xs ≡ true) q words in
          let differs : list_any (λ x. is_differs x.found) (a ∷ []) ≡ false =
          subst (λ (xs : List BlockLine). list_any (λ x. is_differs x.found) xs ≡ false) q parts.1 in
          let order = subst (λ (xs : List BlockLine). InOrder xs) q (made_in_order c past b.ticket b.unit before) in
          let at : a.lba ≡ r.slba + 0 % r.blocks = heads _ _ _ _ order in
          let right : right_answers (Some past) k (b ∷ a ∷ []) ≡ true =
          subst₂ (λ (o : Option Past) (xs : List BlockLine). right_answers o k xs ≡ true) (marked_here past b e)
          (same_made b b.ticket b.unit (blocks_made past b.ticket b.unit) refl refl
          ∙ ap (λ (xs : List BlockLine). b ∷ xs) q) m.2.right in
          two_made past k r b a one at (and_parts _ _ words2).0 (or_parts _ _ differs).0 right
        where
          InOrder : List BlockLine → Type 0
          InOrder xs = map (λ (x : BlockLine). x.lba) xs ≡ lbas r.slba r.blocks (length xs)

          heads : (x y : ℕ) (xs ys : List ℕ) → x ∷ xs ≡ y ∷ ys → x ≡ y
          heads x y xs ys e = cc
      go (a ∷ a2 ∷ rest) q =
          let parts = or_parts _ _ on in
          let two : nat_le 2 (length (a ∷ a2 ∷ rest)) ≡ false =
          (λ i. nat_le (cond (is_pair (sym p i)) (2 * sym one i) (sym one i)) (length (sym q i))) ∙ parts.0 in
          clash (nat_le 2 (length (a ∷ a2 ∷ rest))) (le-leb 2 (length (a ∷ a2 ∷ rest)) (omega arith)) two

  -- ---- the ticket of a takeover's first entry

  some : 1 ≤ b.ticket
  some = (block_fetched c past b h).0

  known : b.ticket ≤ tickets past
  known = (block_fetched c past b h).1

  -- a Block is of a verdict that passed; with FUSE 01b it is a pair's
  pair_verdict : (v : Verdict) (x y : Submission) (e : Sqe) (n j : ℕ) → VerdictIs v x y → eqb (fuse x) 1 ≡ true
      → may_find (op_by v e) n j b.found ≡ true → v ≡ Verdict.Pair
  pair_verdict Verdict.Pair x y e n j i f w = refl
  pair_verdict Verdict.Single x y e n j i f w = clash (eqb (fuse x) 1) f i.0
  pair_verdict (Verdict.SingleFailed s) x y e n j i f w = clash false w refl
  pair_verdict (Verdict.PairFailed s t) x y e n j i f w = clash false w refl

  -- what a Block's ticket is, where its first entry is a takeover's
  record Takes (w : Takeover) : Type 0 where
    pair : op k ≡ Some Op.Pair
    one : r.blocks ≡ 1
    unit : b.unit ≡ 0

  takes_of : (w : Takeover) → In w (takeovers past) → w.queue ≡ k.queue → w.number ≡ fetched_before past b.ticket
      → Takes w
  takes_of w i q n =
      let f = each_in (TakeoverOf past) (takeovers past) w (takeovers_are past) i in
      let t = ticket_taken c past b.ticket before some known in
      let m = may_block c past b h in
      let old : f.entries.old ≡ command k 0 =
      same_some f.entries.old (command k 0) (slice_get (published_entries past k.queue) (fetched_before past b.ticket))
      (subst₂ (λ (x y : ℕ). slice_get (published_entries past x) y ≡ Some f.entries.old) q n f.entries.first)
      t.first in
      let both = on_one f.entries.old f.entries.new f.entries.pair in
      let v = pair_verdict k.verdict (command k 0) (command k 1) (first_fields k) _ _ t.verdict
      (ap (λ (x : Submission). eqb (fuse x) 1) (sym old) ∙ both.first) (Pairs.word_at past b m.0 m.2) in
      let pair : op k ≡ Some Op.Pair = ap (λ (x : Verdict). op_by x (first_fields k)) v in
      let facts = block_facts c past b h in
      let range = pair_range c past b.ticket b.unit pair facts.range in
      record {
        pair = pair;
        one = ap (λ (x : Range). x.blocks) range
            ∙ (ap (λ (x : Submission). block_count (sqe_fields x.entry)) (sym old) ∙ both.one);
        unit = unit_zero (record { slba = slba (first_fields k); blocks = block_count (first_fields k) }) r b.unit
            (subst (λ (o : Option Op). slice_get (units_by c.atomic o (slba (first_fields k))
            (block_count (first_fields k))) b.unit ≡ Some r) pair facts.range);
      }
    where
      unit_zero : (x y : Range) (u : ℕ) → slice_get (x ∷ []) u ≡ Some y → u ≡ 0
      unit_zero x y zero e = refl
      unit_zero x y (suc u) e = absurd (let f : None ≡ Some y = e in cc)

  -- ---- the slot is taken over

  took : (w : Takeover) → In w (takeovers past) → w.queue ≡ k.queue → w.number ≡ fetched_before past b.ticket
      → b.effect ≡ true → is_differs b.found ≡ false
      → took_effect (Entry.Block b ∷ past) w.queue w.number ≡ true
  took w i q n e d =
      let t = takes_of w i q n in
      let here : effect (Entry.Block b ∷ past) b.ticket 0 ≡ Some past =
      subst (λ (u : ℕ). effect (Entry.Block b ∷ past) b.ticket u ≡ Some past) t.unit (marked_here past b e) in
      let same = all_same e d t.pair t.one in
      took_from (Entry.Block b ∷ past) w.queue w.number (record {
        ticket = b.ticket;
        takes = takes_from (Entry.Block b ∷ past) b.ticket w.queue w.number (taken_entries k.verdict) some known
            (sym q) refl (omega (arith, n)) (omega (arith, n, taken_some k.verdict));
        pair = t.pair;
        yes = ap (λ (o : Option Past). yes_at o k (unit_range past b.ticket 0)) here
            ∙ and_from _ _ (ap has_compare t.pair)
            (subst (λ (u : ℕ). all_equal (value past) k (unit_range past b.ticket u) ≡ true) t.unit same);
      })

  -- ---- in the tables

  find_in : (test : Takeover → Bool) (ws : List Takeover) (w : Takeover) → find test ws ≡ Some w
      → In w ws × (test w ≡ true)
  find_in test [] w e = absurd (let f : None ≡ Some w = e in cc)
  find_in test (x ∷ ws) w e = go (test x) refl e (find_in test ws w)
    where
      go : (y : Bool) → test x ≡ y → cond y (Some x) (find test ws) ≡ Some w
          → (find test ws ≡ Some w → In w ws × (test w ≡ true)) → In w (x ∷ ws) × (test w ≡ true)
      go true q f ih =
          let same : w ≡ x = sym (same_some x w (Some x) refl f) in
          (inl same, ap test same ∙ q)
      go false q f ih = let z = ih f in (inr z.0, z.1)

  found : (test : Takeover → Bool) (ws : List Takeover) (w : Takeover) → In w ws → test w ≡ true
      → (x : Takeover) × (find test ws ≡ Some x)
  found test [] w i e = absurd i
  found test (x ∷ ws) w i e = go (test x) refl i (λ j. found test ws w j e)
    where
      go : (y : Bool) → test x ≡ y → In w (x ∷ ws)
          → (In w ws → (z : Takeover) × (find test ws ≡ Some z))
          → (z : Takeover) × (cond y (Some x) (find test ws) ≡ Some z)
      go true q j ih = (x, refl)
      go false q (inl j) ih = clash (test w) e (ap test j ∙ q)
      go false q (inr j) ih = ih j

  -- two takeovers that begin at one entry are of one slot and one dead name
  alike : (v w : Takeover) → In v (takeovers past) → In w (takeovers past) → v.queue ≡ w.queue → v.number ≡ w.number
      → (v.lba ≡ w.lba) × (v.dead ≡ w.dead)
  alike v w i j q n =
      let f = each_in (TakeoverOf past) (takeovers past) v (takeovers_are past) i in
      let g = each_in (TakeoverOf past) (takeovers past) w (takeovers_are past) j in
      let old : f.entries.old ≡ g.entries.old =
      same_some f.entries.old g.entries.old (slice_get (published_entries past w.queue) w.number)
      (subst₂ (λ (x y : ℕ). slice_get (published_entries past x) y ≡ Some f.entries.old) q n f.entries.first)
      g.entries.first in (
        f.entries.lba ∙ (ap (λ (x : Submission). slba (sqe_fields x.entry)) old ∙ sym g.entries.lba),
        same_some v.dead w.dead (name_of g.entries.old.payload)
            (ap (λ (x : Submission). name_of x.payload) (sym old) ∙ f.bytes.dead) g.bytes.dead,
      )

  module _ (slots : Range) (kept : KeptTakeovers) (x : KnowsTakeovers c slots past kept) where
    -- the takeover that is kept of the ticket is of this name
    abbrev Hit : ℕ → Name → Bool
    Hit l n = takes_name l n (kept.begun k.queue (fetched_before past b.ticket))

    back : (l : ℕ) (n : Name) → b.effect ≡ true → is_differs b.found ≡ false → Hit l n ≡ true
        → is_taken (Entry.Block b ∷ past) l n ≡ true
    back l n e d hit = go (kept.begun k.queue (fetched_before past b.ticket)) refl hit
      where
        go : (o : Option Takeover) → kept.begun k.queue (fetched_before past b.ticket) ≡ o
            → takes_name l n o ≡ true → is_taken (Entry.Block b ∷ past) l n ≡ true
        go None q y = clash false y refl
        go (Some w) q y =
            let z = and_parts _ _ y in
            let f = find_in (begins_at k.queue (fetched_before past b.ticket))
            (takeovers_within slots (takeovers past)) w
            (sym (x.begun k.queue (fetched_before past b.ticket)) ∙ q) in
            let i = of_filter (λ (v : Takeover). has_block slots v.lba) (takeovers past) w f.0 in
            let at = and_parts _ _ f.1 in
            taken_from (Entry.Block b ∷ past) l n (record {
              takeover = w;
              there = i;
              lba = eqb-true w.lba l z.0;
              dead = name_eq w.dead n z.1;
              took = took w i (eqb-true w.queue k.queue at.0)
                  (eqb-true w.number (fetched_before past b.ticket) at.1) e d;
            })

    -- a takeover that took effect only now is that one
    hits : (l : ℕ) (n : Name) (w : Takeover) → In w (takeovers past) → has_block slots l ≡ true → w.lba ≡ l
        → w.dead ≡ n → w.queue ≡ k.queue → w.number ≡ fetched_before past b.ticket → Hit l n ≡ true
    hits l n w i v at dead q m =
        let test = begins_at k.queue (fetched_before past b.ticket) in
        let f = found test (takeovers_within slots (takeovers past)) w
        (in_filter (λ (y : Takeover). has_block slots y.lba) (takeovers past) w i (ap (has_block slots) at ∙ v))
        (and_from _ _ (eq-eqb w.queue k.queue q) (eq-eqb w.number (fetched_before past b.ticket) m)) in
        let g = find_in test (takeovers_within slots (takeovers past)) f.0 f.1 in
        let z = and_parts _ _ g.1 in
        let j = of_filter (λ (y : Takeover). has_block slots y.lba) (takeovers past) f.0 g.0 in
        let same = alike f.0 w j i (eqb-true f.0.queue k.queue z.0 ∙ sym q)
        (eqb-true f.0.number (fetched_before past b.ticket) z.1 ∙ sym m) in
        ap (takes_name l n) (x.begun k.queue (fetched_before past b.ticket) ∙ f.1)
        ∙ and_from _ _ (eq-eqb f.0.lba l (same.0 ∙ at)) (name_same f.0.dead n (same.1 ∙ dead))

    -- the answer of an effect that stands there now
    now : (t : ℕ) → b.ticket ≡ t → b.unit ≡ 0 → b.effect ≡ true → says_yes (Entry.Block b ∷ past) t 0 ≡ true
        → is_differs b.found ≡ false
    now t et eu e y = elim (cases_Bool (is_differs b.found)) [
      | inr d ↦ d
      | inl d ↦
          let m = may_block c past b h in
          let no = Pairs.says_no c past b m.0 m.2 e d in
          let here : effect (Entry.Block b ∷ past) b.ticket b.unit ≡ Some past = marked_here past b e in
          let yes : says_yes (Entry.Block b ∷ past) b.ticket b.unit ≡ true =
          subst₂ (λ (i u : ℕ). says_yes (Entry.Block b ∷ past) i u ≡ true) (sym et) (sym eu) y in
          let both : (has_compare (op k) && all_equal (value past) k r) ≡ true =
          ap (λ (o : Option Past). yes_at o k r) (sym here) ∙ yes in
          clash (all_equal (value past) k r) (and_parts _ _ both).1 no
    ]

    forth : (l : ℕ) (n : Name) → has_block slots l ≡ true → is_taken (Entry.Block b ∷ past) l n ≡ true
        → (((b.effect && not (is_differs b.found)) && Hit l n) || is_taken past l n) ≡ true
    forth l n v f =
        let t = taken_parts (Entry.Block b ∷ past) l n f in
        let y = took_parts (Entry.Block b ∷ past) t.takeover.queue t.takeover.number t.took in
        go t y (b.effect && eqb b.ticket y.ticket && eqb b.unit 0) refl
      where
        go : (t : TakenBy (Entry.Block b ∷ past) l n)
            (y : TookBy (Entry.Block b ∷ past) t.takeover.queue t.takeover.number) (z : Bool)
            → (b.effect && eqb b.ticket y.ticket && eqb b.unit 0) ≡ z
            → (((b.effect && not (is_differs b.found)) && Hit l n) || is_taken past l n) ≡ true
        go t y false e =
            or_right ((b.effect && not (is_differs b.found)) && Hit l n) (is_taken past l n)
            (taken_from past l n (record {
              takeover = t.takeover;
              there = t.there;
              lba = t.lba;
              dead = t.dead;
              took = took_before c (Entry.Block b) past t.takeover.queue t.takeover.number h y
                  (cond-false (b.effect && eqb b.ticket y.ticket && eqb b.unit 0) (Some past)
                  (effect past y.ticket 0) e);
            }))
        go t y true e =
            let a = and_parts (b.effect && eqb b.ticket y.ticket) (eqb b.unit 0) e in
            let d = and_parts b.effect (eqb b.ticket y.ticket) a.0 in
            let et = eqb-true b.ticket y.ticket d.1 in
            let of = each_in (TakeoverOf past) (takeovers past) t.takeover (takeovers_are past) t.there in
            let p = pairs c (Entry.Block b ∷ past) y.ticket t.takeover.queue t.takeover.number t.takeover.lba h y.takes
            y.pair of.entries in
            let q = (takes_parts (Entry.Block b ∷ past) y.ticket t.takeover.queue t.takeover.number y.takes).queue in
            or_left ((b.effect && not (is_differs b.found)) && Hit l n) (is_taken past l n)
            (and_from _ _
            (and_from _ _ d.0 (ap not (now y.ticket et (eqb-true b.unit 0 a.1) d.0 y.yes)))
            (hits l n t.takeover t.there v t.lba t.dead
            (sym q ∙ ap (λ (i : ℕ). (Tickets.ticket past i).queue) (sym et))
            (sym p.number ∙ ap (fetched_before past) (sym et))))

    pub taken_now : (l : ℕ) (n : Name) → has_block slots l ≡ true
        → (((b.effect && not (is_differs b.found)) && Hit l n) || is_taken past l n)
        ≡ is_taken (Entry.Block b ∷ past) l n
    taken_now l n v = same_tests _ _ (λ y. elim (or_cases _ _ y) [
      | inl z ↦
          let a = and_parts (b.effect && not (is_differs b.found)) (Hit l n) z in
          let d = and_parts b.effect (not (is_differs b.found)) a.0 in
          back l n d.0 (not-true (is_differs b.found) d.1) a.1
      | inr z ↦ taken_later c (Entry.Block b ∷ []) past l n h z
    ]) (forth l n v)

  -- ---- what is kept

  -- the ticket as it is kept
  pub flies : (progress : KeptProgress) (f : Flying) → KnowsProgress c past progress
      → progress.flying b.ticket ≡ Some f → (f.queue ≡ k.queue) × (f.next ≡ fetched_before past b.ticket)
  flies progress f p e =
      let same = same_some f (flying_of past b.ticket) (progress.flying b.ticket) e
      (p.flying b.ticket (not-false _ (follows c past (Entry.Block b) h).allowed.0)) in (
        ap (λ (y : Flying). y.queue) same,
        ap (λ (y : Flying). y.next) same ∙ omega (arith, block_unposted c past b h),
      )

  pub no_flying : (progress : KeptProgress) → KnowsProgress c past progress → progress.flying b.ticket ≡ None → ⊥
  no_flying progress p e =
      let f : None ≡ Some (flying_of past b.ticket) =
      sym e ∙ p.flying b.ticket (not-false _ (follows c past (Entry.Block b) h).allowed.0) in
      cc

  -- a Block moves no count
  pub block_progress : (progress : KeptProgress) → KnowsProgress c past progress
      → KnowsProgress c (Entry.Block b ∷ past) progress
  block_progress progress p =
      record {
        published = p.published;
        fetched = p.fetched;
        posted = p.posted;
        reaped = p.reaped;
        flying = p.flying;
        waiting = p.waiting;
      }

  pub block_knows : (slots : Range) (kept m : KeptTakeovers) → KnowsTakeovers c slots past kept
      → ((q j : ℕ) → m.begun q j ≡ kept.begun q j) → ((q : ℕ) → m.cut q ≡ kept.cut q)
      → ((l : ℕ) (n : Name) → m.taken l n ≡ (((b.effect && not (is_differs b.found))
      && takes_name l n (kept.begun k.queue (fetched_before past b.ticket))) || kept.taken l n))
      → KnowsTakeovers c slots (Entry.Block b ∷ past) m
  block_knows slots kept m x begun cut taken =
      record {
        begun = λ q j. begun q j ∙ x.begun q j;
        taken = λ l n v. taken l n
            ∙ ap (λ (y : Bool). ((b.effect && not (is_differs b.found))
            && takes_name l n (kept.begun k.queue (fetched_before past b.ticket))) || y) (x.taken l n v)
            ∙ taken_now slots kept x l n v;
        cut = λ q. cut q ∙ x.cut q;
      }
