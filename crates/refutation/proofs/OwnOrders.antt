-- What a trace tells of the commands of its own queues, with the lines of the pair that it lacks and without.
use Rattle.std.proofs.Common.{◌≡◌, ℕ, suc, Bool, true, false, not, ◌&&◌, ◌||◌, cond, List, [], ◌∷◌, ◌++◌, refl}
use Rattle.std.proofs.Common.{sym, ap, ap₂, ◌∙◌, Option, Some, None, eqb, eqb-true, get_or, is_none, nat_lt}
use Rattle.std.proofs.Common.{length, slice_get}
use Rattle.std.proofs.lemmas.Bool.{and_parts, or_left}
use Rattle.nvme_model.specs.Config.{completion_queue, is_accepted}
use Rattle.nvme_model.specs.EntryBytes.{cqe_fields, sqe_fields}
use Rattle.nvme_model.specs.History.{Past}
use Rattle.nvme_model.specs.Legal.{IsLegal}
use Rattle.nvme_model.specs.Operations.{has_write, is_pair, op, units}
use Rattle.nvme_model.specs.Tickets.{Ticket}
use Rattle.nvme_model.specs.declared.array.Range.{Range}
use Rattle.nvme_model.specs.declared.config.ConfigNumbers.{ConfigNumbers}
use Rattle.nvme_model.specs.declared.submission.Submission.{Submission}
use Rattle.nvme_model.proofs.Cut.{clash}
use Rattle.trace.specs.Aside.{aside_pair, is_aside, own}
use Rattle.trace.specs.Observed.{observed}
use Rattle.trace.specs.declared.options.TraceOptions.{TraceOptions}
use Rattle.trace.specs.declared.seen.ReapedLine.{ReapedLine}
use Rattle.trace.specs.declared.seen.Seen.{Seen}
use Rattle.trace.proofs.Aside.{own_all}
use Rattle.refutation.specs.Apart.{asks_heads}
use Rattle.refutation.specs.Effects.{effect_by}
use Rattle.refutation.specs.EffectOrders.{EffectName, comes_before, ends_before, is_earlier_unit, is_told_by_head}
use Rattle.refutation.specs.EffectOrders.{last_entry}
use Rattle.refutation.specs.Lines.{answer_in, answered, before_entry, is_number, is_tidy, published_in}
use Rattle.refutation.specs.Slices.{answer_of, is_block_of, is_piece, range_of, surely_writes, ticket_of}
use Rattle.refutation.specs.Told.{is_inside, is_sure, says_differs, says_done, told_ticket, told_units}
use Rattle.refutation.specs.Told.{told_verdict}
use Rattle.refutation.proofs.HeadOrders.{HasSlots}
use Rattle.refutation.proofs.Lines.{tidy_each, tidy_on}
use Rattle.refutation.proofs.OrderRules.{comes_first_on}
use Rattle.refutation.proofs.OwnLines.{is_other, own_answer, own_before, own_published, own_tidy}
use Rattle.refutation.proofs.OwnReaps.{aside_narrow}

-- ---- commands

abbrev ticket_by : List Submission → ℕ → ℕ → Ticket
ticket_by entries q j =
    let none : Submission = record { entry = []; payload = [] } in
    let first = get_or entries j none in
    record {
      queue = q;
      commands = first ∷ get_or entries (suc j) none ∷ [];
      verdict = told_verdict (sqe_fields first.entry).fuse;
    }

pub own_ticket : (n : Option ℕ) (seen : List Seen) (q j : ℕ) → is_other n q ≡ true
    → told_ticket (own n seen) q j ≡ told_ticket seen q j
own_ticket n seen q j o = ap (λ (l : List Submission). ticket_by l q j) (own_published n seen q o)

pub own_units : (n : Option ℕ) (c : ConfigNumbers) (seen : List Seen) (q j : ℕ) → is_other n q ≡ true
    → told_units c (own n seen) q j ≡ told_units c seen q j
own_units n c seen q j o =
    ap (λ (k : Ticket). cond (is_inside c k) (units c k) []) (own_ticket n seen q j o)

pub own_sure : (n : Option ℕ) (c : ConfigNumbers) (seen : List Seen) (q j u : ℕ) → is_other n q ≡ true
    → is_sure c (own n seen) q j u ≡ is_sure c seen q j u
own_sure n c seen q j u o =
    ap₂ (λ (us : List Range) (a : Option ReapedLine).
    nat_lt u (length us) && (says_done a || (says_differs a && eqb (length us) 1))) (own_units n c seen q j o)
    (own_answer n seen q j o)

pub own_range : (n : Option ℕ) (c : ConfigNumbers) (seen : List Seen) (m : EffectName) → is_other n m.queue ≡ true
    → range_of c (own n seen) m ≡ range_of c seen m
own_range n c seen m o = ap (λ (us : List Range). slice_get us m.unit) (own_units n c seen m.queue m.number o)

-- ---- the order

own_ends : (n : Option ℕ) (c : ConfigNumbers) (seen : List Seen) (a b : EffectName) → is_other n a.queue ≡ true
    → is_other n b.queue ≡ true → ends_before c (own n seen) a b ≡ ends_before c seen a b
own_ends n c seen a b oa ob =
    let last : last_entry (own n seen) b.queue b.number ≡ last_entry seen b.queue b.number =
    ap (λ (k : Ticket). cond (is_pair (op k)) (suc b.number) b.number) (own_ticket n seen b.queue b.number ob) in
    ap (λ (k : ℕ). is_sure c (before_entry (own n seen) b.queue k) a.queue a.number a.unit) last
    ∙ (ap (λ (t : List Seen). is_sure c t a.queue a.number a.unit)
    (sym (own_before n seen b.queue (last_entry seen b.queue b.number) ob))
    ∙ own_sure n c (before_entry seen b.queue (last_entry seen b.queue b.number)) a.queue a.number a.unit oa)

-- an order that the trace tells is the history's
pub order_own : (o : TraceOptions) (c : ConfigNumbers) (past : Past) (a b : EffectName) (before : Past) → HasSlots c
    → is_accepted c ≡ true → IsLegal c past → is_tidy (own (aside_pair o c) (observed c past)) ≡ true
    → is_other (aside_pair o c) a.queue ≡ true → is_other (aside_pair o c) b.queue ≡ true
    → comes_before o c (own (aside_pair o c) (observed c past)) a b ≡ true
    → effect_by past b.queue b.number b.unit ≡ Some before
    → (first : Past) × (effect_by before a.queue a.number a.unit ≡ Some first)
order_own o c past a b before s acc h d oa ob e f =
    comes_first_on o c past a b before s h
    (own_tidy (aside_pair o c) (observed c past) a.queue (aside_narrow o c acc) oa d) heads told f
  where
    known : (z : Bool) → o.contents_unknown ≡ z → (not z && not o.ignored.sqhd) ≡ true
        → own (aside_pair o c) (observed c past) ≡ observed c past
    known true z w = clash false w refl
    known false z w =
        ap (λ (x : Bool). own (cond x (Some c.pairs) None) (observed c past)) z ∙ own_all (observed c past)

    same : asks_heads o ≡ true → own (aside_pair o c) (observed c past) ≡ observed c past
    same w =
        known o.contents_unknown refl w

    heads : asks_heads o ≡ true → (q : ℕ) → completion_queue c q ≡ completion_queue c b.queue
        → tidy_on q (observed c past) ≡ true
    heads w q on = tidy_each q (observed c past) (ap is_tidy (sym (same w)) ∙ d)

    told : comes_before o c (observed c past) a b ≡ true
    told = by (asks_heads o) refl e
      where
        ends : ends_before c (own (aside_pair o c) (observed c past)) a b ≡ ends_before c (observed c past) a b
        ends = own_ends (aside_pair o c) c (observed c past) a b oa ob

        by : (z : Bool) → asks_heads o ≡ z
            → (ends_before c (own (aside_pair o c) (observed c past)) a b || is_earlier_unit a b
            || (z && is_told_by_head c (own (aside_pair o c) (observed c past)) a b)) ≡ true
            → (ends_before c (observed c past) a b || is_earlier_unit a b
            || (asks_heads o && is_told_by_head c (observed c past) a b)) ≡ true
        by false z w =
            ap₂ (λ (x y : Bool). x || is_earlier_unit a b || (y && is_told_by_head c (observed c past) a b)) (sym ends)
            z ∙ w
        by true z w =
            ap (λ (y : Bool). ends_before c (observed c past) a b || is_earlier_unit a b
            || (y && is_told_by_head c (observed c past) a b)) z
            ∙ (ap (λ (t : List Seen). ends_before c t a b || is_earlier_unit a b || is_told_by_head c t a b)
            (sym (same z)) ∙ w)

-- ---- the pair's own queue

own_none : (n : Option ℕ) (seen : List Seen) (q : ℕ) → is_other n q ≡ false → published_in (own n seen) q ≡ []
own_none n [] q o = refl
own_none n (Seen.Published p ∷ seen) q o = by (is_aside n (Seen.Published p)) refl (own_none n seen q o)
  where
    other : (m : Option ℕ) → is_aside m (Seen.Published p) ≡ false → is_other m q ≡ false → eqb p.queue q ≡ false
    other None e z = clash true refl z
    other (Some k) e z = go (eqb p.queue q) refl (eqb q k) refl z
      where
        go : (x : Bool) → eqb p.queue q ≡ x → (y : Bool) → eqb q k ≡ y → not y ≡ false → x ≡ false
        go false f y g w = refl
        go true f false g w = clash true refl w
        go true f true g w =
            let same : eqb p.queue k ≡ true =
            ap (λ (i : ℕ). eqb i k) (eqb-true p.queue q f) ∙ g in
            clash (eqb p.queue k) same e

    by : (b : Bool) → is_aside n (Seen.Published p) ≡ b → published_in (own n seen) q ≡ []
        → published_in (cond b (own n seen) (Seen.Published p ∷ own n seen)) q ≡ []
    by true e ih = ih
    by false e ih =
        ap₂ (λ (l : List Submission) (x : Bool). l ++ cond x p.batch []) ih (other n e o)
own_none n (Seen.Reaped r ∷ seen) q o = by (is_aside n (Seen.Reaped r)) (own_none n seen q o)
  where
    by : (b : Bool) → published_in (own n seen) q ≡ []
        → published_in (cond b (own n seen) (Seen.Reaped r ∷ own n seen)) q ≡ []
    by true ih = ih
    by false ih = ih

own_silent : (n : Option ℕ) (seen : List Seen) (q j : ℕ) → is_other n q ≡ false → answer_in (own n seen) q j ≡ None
own_silent n [] q j o = refl
own_silent n (Seen.Published p ∷ seen) q j o = by (is_aside n (Seen.Published p)) (own_silent n seen q j o)
  where
    by : (b : Bool) → answer_in (own n seen) q j ≡ None
        → answer_in (cond b (own n seen) (Seen.Published p ∷ own n seen)) q j ≡ None
    by true ih = ih
    by false ih = ih
own_silent n (Seen.Reaped r ∷ seen) q j o = by (is_aside n (Seen.Reaped r)) refl (own_silent n seen q j o)
  where
    other : (m : Option ℕ) → is_aside m (Seen.Reaped r) ≡ false → is_other m q ≡ false
        → eqb (cqe_fields r.cqe).sqid q ≡ false
    other None e z = clash true refl z
    other (Some k) e z = go (eqb (cqe_fields r.cqe).sqid q) refl (eqb q k) refl z
      where
        go : (x : Bool) → eqb (cqe_fields r.cqe).sqid q ≡ x → (y : Bool) → eqb q k ≡ y → not y ≡ false → x ≡ false
        go false f y g w = refl
        go true f false g w = clash true refl w
        go true f true g w =
            let same : eqb (cqe_fields r.cqe).sqid k ≡ true =
            ap (λ (i : ℕ). eqb i k) (eqb-true (cqe_fields r.cqe).sqid q f) ∙ g in
            clash (eqb (cqe_fields r.cqe).sqid k) same e

    by : (b : Bool) → is_aside n (Seen.Reaped r) ≡ b → answer_in (own n seen) q j ≡ None
        → answer_in (cond b (own n seen) (Seen.Reaped r ∷ own n seen)) q j ≡ None
    by true e ih = ih
    by false e ih =
        ap₂ (λ (x : Bool) (a : Option ReapedLine).
        cond (x && is_number j (answered (own n seen) r.cqe)) (Some r) a) (other n e o) ih

-- a slice has no effect of it
pub piece_other : (n : Option ℕ) (c : ConfigNumbers) (seen : List Seen) (m : EffectName)
    → is_piece c (own n seen) m ≡ true → is_other n m.queue ≡ true
piece_other n c seen m h = by (is_other n m.queue) refl
  where
    writes_none : (q j : ℕ) → has_write (op (ticket_by [] q j)) ≡ false
    writes_none q j = refl

    off : (x : Bool) → (x && (false || (false && eqb (length (told_units c (own n seen) m.queue m.number)) 1))) ≡ false
    off true = refl
    off false = refl

    by : (z : Bool) → is_other n m.queue ≡ z → z ≡ true
    by true z = refl
    by false z =
        let answer = own_silent n seen m.queue m.number z in
        let entries = own_none n seen m.queue z in
        let sure : is_sure c (own n seen) m.queue m.number m.unit ≡ false =
        ap (λ (a : Option ReapedLine). nat_lt m.unit (length (told_units c (own n seen) m.queue m.number))
        && (says_done a || (says_differs a && eqb (length (told_units c (own n seen) m.queue m.number)) 1))) answer
        ∙ off (nat_lt m.unit (length (told_units c (own n seen) m.queue m.number))) in
        let write : (is_none (answer_of (own n seen) m) && has_write (op (ticket_of (own n seen) m))) ≡ false =
        ap₂ (λ (a : Option ReapedLine) (l : List Submission).
        is_none a && has_write (op (ticket_by l m.queue m.number))) answer entries in
        let f : true ≡ false = sym h ∙ ap₂ (λ (x y : Bool). x || y) sure write in
        absurd cc

pub writer_other : (n : Option ℕ) (c : ConfigNumbers) (seen : List Seen) (m : EffectName) (l : ℕ)
    → surely_writes c (own n seen) m l ≡ true → is_other n m.queue ≡ true
writer_other n c seen m l h = by (is_other n m.queue) refl
  where
    done : says_done (answer_of (own n seen) m) ≡ true
    done = (and_parts (has_write (op (ticket_of (own n seen) m)) && is_block_of (range_of c (own n seen) m) l)
        (says_done (answer_of (own n seen) m)) h).1

    by : (z : Bool) → is_other n m.queue ≡ z → z ≡ true
    by true z = refl
    by false z = clash (says_done (answer_of (own n seen) m)) done (ap says_done (own_silent n seen m.queue m.number z))

pub sure_other : (n : Option ℕ) (c : ConfigNumbers) (seen : List Seen) (q j u : ℕ)
    → is_sure c (own n seen) q j u ≡ true → is_other n q ≡ true
sure_other n c seen q j u h =
    piece_other n c seen (record { queue = q; number = j; unit = u })
    (or_left _ (is_none (answer_in (own n seen) q j) && has_write (op (told_ticket (own n seen) q j))) h)
