-- The order of effects by places.
use Rattle.std.proofs.Common.{◌≡◌, ℕ, suc, ◌+◌, ◌≤◌, ◌<◌, Bool, true, false, ◌&&◌, ◌||◌, cond, List, [], ◌∷◌}
use Rattle.std.proofs.Common.{◌++◌, Option, None, Some, get_or, length, length-append, refl, sym, ap, ap₂, ◌∙◌, subst}
use Rattle.std.proofs.Common.{zero, ◌-◌, append_assoc, arith, eqb, eqb-true, inl, inr, nat_lt, ltb-true, lt-ltb}
use Rattle.std.proofs.lemmas.Bool.{and_parts, cases_Bool, cases_lt, cond-false, cond-true}
use Rattle.plain_lemmas.proofs.Bools.{or_turned}
use Rattle.nvme_model.specs.Config.{completion_queue}
use Rattle.nvme_model.specs.EntryBytes.{cqe_fields, sqe_fields}
use Rattle.nvme_model.specs.Operations.{units}
use Rattle.nvme_model.specs.Tickets.{Ticket}
use Rattle.nvme_model.specs.declared.array.Range.{Range}
use Rattle.nvme_model.specs.declared.config.ConfigNumbers.{ConfigNumbers}
use Rattle.nvme_model.specs.declared.submission.Submission.{Submission}
use Rattle.trace.specs.declared.options.TraceOptions.{TraceOptions}
use Rattle.trace.specs.declared.seen.ReapedLine.{ReapedLine}
use Rattle.trace.specs.declared.seen.Seen.{Seen}
use Rattle.refutation.specs.Apart.{asks_heads}
use Rattle.refutation.specs.EffectOrders.{EffectName, before_post, comes_before, ends_before, is_earlier_unit}
use Rattle.refutation.specs.EffectOrders.{is_fetched_later, is_made_by_post, is_told_by_head, last_entry, longer}
use Rattle.refutation.specs.EffectOrders.{through_entries, through_reaps}
use Rattle.refutation.specs.LineRules.{least_fetched}
use Rattle.refutation.specs.Lines.{answer_in, answered, before_entry, is_number, published_in, reaped_in}
use Rattle.refutation.specs.Lines.{waiting_in}
use Rattle.refutation.specs.Places.{answer_place, comes_before_by_place, head_place, is_among, larger}
use Rattle.refutation.specs.Told.{is_sure, says_differs, says_done, told_units, told_verdict, is_inside}
use Rattle.refutation.proofs.BookAnswers.{unanswered}
use Rattle.refutation.proofs.LineOrders.{LinesBefore, lines_before}
use Rattle.refutation.proofs.PostOrders.{entries_end, published_grows, reaps_end}
use Rattle.refutation.proofs.Waiting.{none_before, number_is, waits_unanswered}

abbrev no_line : Option ReapedLine
no_line = None

-- ---- answers

place_within : (trace : List Seen) (q j i : ℕ) → answer_place trace q j ≡ Some i → i < length trace
place_within [] q j i e = absurd (let f : None ≡ Some i = e in cc)
place_within (Seen.Published p ∷ trace) q j i e = omega (arith, place_within trace q j i e)
place_within (Seen.Reaped r ∷ trace) q j i e =
    go (eqb (cqe_fields r.cqe).sqid q && is_number j (answered trace r.cqe)) e (place_within trace q j i)
  where
    go : (b : Bool) → cond b (Some (length trace)) (answer_place trace q j) ≡ Some i
        → (answer_place trace q j ≡ Some i → i < length trace) → i < suc (length trace)
    go true f ih = let g : Some (length trace) ≡ Some i = f in let h : length trace ≡ i = cc in omega (arith, h)
    go false f ih = omega (arith, ih f)

place_none : (trace : List Seen) (q j : ℕ) → answer_place trace q j ≡ None → answer_in trace q j ≡ None
place_none [] q j e = refl
place_none (Seen.Published p ∷ trace) q j e = place_none trace q j e
place_none (Seen.Reaped r ∷ trace) q j e =
    go (eqb (cqe_fields r.cqe).sqid q && is_number j (answered trace r.cqe)) e (place_none trace q j)
  where
    go : (b : Bool) → cond b (Some (length trace)) (answer_place trace q j) ≡ None
        → (answer_place trace q j ≡ None → answer_in trace q j ≡ None)
        → cond b (Some r) (answer_in trace q j) ≡ None
    go true f ih = absurd (let g : Some (length trace) ≡ None = f in cc)
    go false f ih = ih f

lengths : (more trace : List Seen) → length trace ≤ length (more ++ trace)
lengths more trace = omega (arith, length-append more trace)

less_not : (m n : ℕ) → nat_lt m n ≡ false → n ≤ m
less_not m n e = elim (cases_lt m n) [
  | inl l ↦ absurd (let f : true ≡ false = sym (lt-ltb m n l) ∙ e in cc)
  | inr l ↦ l
]

not_less : (m n : ℕ) → n ≤ m → nat_lt m n ≡ false
not_less m n l = elim (cases_Bool (nat_lt m n)) [
  | inl e ↦ absurd (omega (arith, l, ltb-true m n e))
  | inr e ↦ e
]

-- A beginning of a trace has the answers whose places are in it.
pub answers_by_place : (more trace : List Seen) (q j : ℕ) → answer_in trace q j
    ≡ cond (is_among (answer_place (more ++ trace) q j) (length trace)) (answer_in (more ++ trace) q j) None
answers_by_place [] trace q j = go (answer_place trace q j) refl
  where
    go : (o : Option ℕ) → answer_place trace q j ≡ o
        → answer_in trace q j ≡ cond (is_among o (length trace)) (answer_in trace q j) None
    go None e = place_none trace q j e
    go (Some i) e =
        sym (cond-true (nat_lt i (length trace)) (answer_in trace q j) None
        (lt-ltb i (length trace) (place_within trace q j i e)))
answers_by_place (Seen.Published p ∷ more) trace q j = answers_by_place more trace q j
answers_by_place (Seen.Reaped r ∷ more) trace q j =
    go (eqb s q && is_number j (answered (more ++ trace) r.cqe)) refl (answers_by_place more trace q j)
  where
    s : ℕ
    s = (cqe_fields r.cqe).sqid

    name : ℕ
    name = (cqe_fields r.cqe).cid

    here : Option ℕ
    here = answer_place (more ++ trace) q j

    old : Option ReapedLine
    old = answer_in (more ++ trace) q j

    go : (b : Bool) → (eqb s q && is_number j (answered (more ++ trace) r.cqe)) ≡ b
        → answer_in trace q j ≡ cond (is_among here (length trace)) old None
        → answer_in trace q j ≡ cond (is_among (cond b (Some (length (more ++ trace))) here) (length trace))
        (cond b (Some r) old) None
    go false e ih = ih
    go true e ih =
        let parts = and_parts (eqb s q) (is_number j (answered (more ++ trace) r.cqe)) e in
        let its : waiting_in (more ++ trace) q name ≡ Some j =
        subst (λ (n : ℕ). waiting_in (more ++ trace) n name ≡ Some j) (eqb-true s q parts.0)
        (number_is (answered (more ++ trace) r.cqe) j parts.1) in
        none_before more trace q j (waits_unanswered (more ++ trace) q name j its)
        ∙ sym (cond-false (nat_lt (length (more ++ trace)) (length trace)) (Some r) None
        (not_less (length (more ++ trace)) (length trace) (lengths more trace)))

-- ---- what is sure

get_or_before : (xs ys : List Submission) (j : ℕ) (s : Submission) → j < length xs
    → get_or (xs ++ ys) j s ≡ get_or xs j s
get_or_before [] ys j s l = absurd (omega (arith, l))
get_or_before (x ∷ xs) ys zero s l = refl
get_or_before (x ∷ xs) ys (suc j) s l = get_or_before xs ys j s (omega (arith, l))

-- an entry stays where it is
same_entry : (more trace : List Seen) (q j : ℕ) (s : Submission) → j < length (published_in trace q)
    → get_or (published_in (more ++ trace) q) j s ≡ get_or (published_in trace q) j s
same_entry [] trace q j s l = refl
same_entry (Seen.Published p ∷ more) trace q j s l =
    get_or_before (published_in (more ++ trace) q) (cond (eqb p.queue q) p.batch []) j s
    (omega (arith, l, published_grows more trace q))
    ∙ same_entry more trace q j s l
same_entry (Seen.Reaped r ∷ more) trace q j s l = same_entry more trace q j s l

abbrev no_command : Submission
no_command = record { entry = []; payload = [] }

-- the units of a command, by its first entry
abbrev units_of : ConfigNumbers → ℕ → Submission → List Range
units_of c q s =
    let k : Ticket = record {
      queue = q;
      commands = s ∷ no_command ∷ [];
      verdict = told_verdict (sqe_fields s.entry).fuse;
    } in
    cond (is_inside c k) (units c k) []

units_stay : (c : ConfigNumbers) (more trace : List Seen) (q j : ℕ) → j < length (published_in trace q)
    → told_units c (more ++ trace) q j ≡ told_units c trace q j
units_stay c more trace q j l = ap (units_of c q) (same_entry more trace q j no_command l)

and_no : (b : Bool) → (b && false) ≡ false
and_no true = refl
and_no false = refl

and_yes : (b : Bool) → (b && true) ≡ b
and_yes true = refl
and_yes false = refl

-- unit u of a command of n units is sure by this answer
abbrev says : ℕ → ℕ → Option ReapedLine → Bool
says n u a = nat_lt u n && (says_done a || (says_differs a && eqb n 1))

none_says : (n u : ℕ) → says n u None ≡ false
none_says n u = and_no (nat_lt u n)

-- What is sure in a beginning of a trace is what is sure and answered there.
pub sure_by_place : (c : ConfigNumbers) (more trace : List Seen) (q j u : ℕ) → is_sure c trace q j u
    ≡ (is_sure c (more ++ trace) q j u && is_among (answer_place (more ++ trace) q j) (length trace))
sure_by_place c more trace q j u =
    go (is_among (answer_place (more ++ trace) q j) (length trace)) (answers_by_place more trace q j)
  where
    whole : Option ReapedLine
    whole = answer_in (more ++ trace) q j

    here : ℕ
    here = length (told_units c trace q j)

    there : ℕ
    there = length (told_units c (more ++ trace) q j)

    go : (d : Bool) → answer_in trace q j ≡ cond d whole None
        → is_sure c trace q j u ≡ (is_sure c (more ++ trace) q j u && d)
    go false f = ap (says here u) f ∙ (none_says here u ∙ sym (and_no (is_sure c (more ++ trace) q j u)))
    go true f = by (answer_in trace q j) refl
      where
        by : (a : Option ReapedLine) → answer_in trace q j ≡ a
            → is_sure c trace q j u ≡ (is_sure c (more ++ trace) q j u && true)
        by None g =
            ap (says here u) g
            ∙ (none_says here u
            ∙ (sym (none_says there u)
            ∙ (ap (says there u) (sym g ∙ f) ∙ sym (and_yes (is_sure c (more ++ trace) q j u)))))
        by (Some r) g =
            let few : j < length (published_in trace q) =
            elim (cases_lt j (length (published_in trace q))) [
              | inl l ↦ l
              | inr l ↦ absurd (let h : Some r ≡ None = sym g ∙ unanswered trace q j l in cc)
            ] in
            ap (λ (x : List Range). says (length x) u (answer_in trace q j)) (sym (units_stay c more trace q j few))
            ∙ (ap (says there u) f ∙ sym (and_yes (is_sure c (more ++ trace) q j u)))

-- a beginning of a trace
abbrev Begins : List Seen → List Seen → Type 0
Begins whole first = (m : List Seen) × (whole ≡ m ++ first)

sure_in : (c : ConfigNumbers) (whole first : List Seen) (q j u : ℕ) → Begins whole first
    → is_sure c first q j u ≡ (is_sure c whole q j u && is_among (answer_place whole q j) (length first))
sure_in c whole first q j u x =
    subst (λ (t : List Seen). is_sure c first q j u
    ≡ (is_sure c t q j u && is_among (answer_place t q j) (length first)))
    (sym x.1) (sure_by_place c x.0 first q j u)

-- ---- beginnings

begins_on : (whole : List Seen) (s : Seen) (first : List Seen) → Begins whole (s ∷ first) → Begins whole first
begins_on whole s first x = (x.0 ++ s ∷ [], x.1 ∙ sym (append_assoc x.0 (s ∷ []) first))

begins_under : (s : Seen) (whole first : List Seen) → Begins whole first → Begins (s ∷ whole) first
begins_under s whole first x = (s ∷ x.0, ap (λ (l : List Seen). s ∷ l) x.1)

begins_longer : (whole xs ys : List Seen) → Begins whole xs → Begins whole ys → Begins whole (longer xs ys)
begins_longer whole xs ys x y = go (nat_lt (length xs) (length ys))
  where
    go : (b : Bool) → Begins whole (cond b ys xs)
    go true = y
    go false = x

begins_through : (whole first later : List Seen) → Begins whole later → Begins later first → Begins whole first
begins_through whole first later x y =
    (x.0 ++ y.0, x.1 ∙ (ap (λ (l : List Seen). x.0 ++ l) y.1 ∙ sym (append_assoc x.0 y.0 first)))

post_begins : (c : ConfigNumbers) (trace : List Seen) (n : ℕ) → Begins trace (before_post c trace n)
post_begins c [] n = ([], refl)
post_begins c (Seen.Published p ∷ trace) n =
    begins_under (Seen.Published p) trace (before_post c trace n) (post_begins c trace n)
post_begins c (Seen.Reaped r ∷ trace) n =
    begins_under (Seen.Reaped r) trace (before_post c (Seen.Reaped r ∷ trace) n)
    (go (eqb r.queue n) (post_begins c trace n))
  where
    entries : List Seen
    entries = through_entries trace (cqe_fields r.cqe).sqid
        (least_fetched c (Seen.Reaped r ∷ trace) (cqe_fields r.cqe).sqid)

    reaps : List Seen
    reaps = through_reaps trace n (reaped_in trace n + 2 - c.cq_size)

    go : (b : Bool) → Begins trace (before_post c trace n)
        → Begins trace (cond b (longer (before_post c trace n) (longer entries reaps)) (before_post c trace n))
    go false x = x
    go true x =
        begins_longer trace (before_post c trace n) (longer entries reaps) x
        (begins_longer trace entries reaps
        (entries_end trace (cqe_fields r.cqe).sqid (least_fetched c (Seen.Reaped r ∷ trace) (cqe_fields r.cqe).sqid))
        (reaps_end trace n (reaped_in trace n + 2 - c.cq_size)))

-- ---- among the larger of two numbers of lines

less_larger : (i m n : ℕ) → nat_lt i (larger m n) ≡ (nat_lt i m || nat_lt i n)
less_larger i m n = go (nat_lt m n) refl (nat_lt i m) refl (nat_lt i n) refl
  where
    go : (b : Bool) → nat_lt m n ≡ b → (x : Bool) → nat_lt i m ≡ x → (y : Bool) → nat_lt i n ≡ y
        → nat_lt i (cond b n m) ≡ (x || y)
    go true e true f true g = g
    go true e false f y g = g
    go true e true f false g = absurd (omega (arith, ltb-true m n e, ltb-true i m f, less_not i n g))
    go false e true f y g = f
    go false e false f false g = f
    go false e false f true g = absurd (omega (arith, less_not m n e, less_not i m f, ltb-true i n g))

among_larger : (o : Option ℕ) (m n : ℕ) → is_among o (larger m n) ≡ (is_among o m || is_among o n)
among_larger None m n = refl
among_larger (Some i) m n = less_larger i m n

among_none : (o : Option ℕ) → is_among o 0 ≡ false
among_none None = refl
among_none (Some i) = not_less i 0 (omega arith)

among_cond : (o : Option ℕ) (e : Bool) (n : ℕ) → is_among o (cond e n 0) ≡ (e && is_among o n)
among_cond o true n = refl
among_cond o false n = among_none o

-- ---- what SQHD tells

turned : (x p h : Bool) → ((x || p) || h) ≡ ((p || h) || x)
turned true true h = refl
turned true false true = refl
turned true false false = refl
turned false true h = refl
turned false false true = refl
turned false false false = refl

of_all : (s e l p h : Bool) → (((e && (s && l)) || (s && p)) || (s && h)) ≡ (s && ((p || h) || (e && l)))
of_all true e l p h = turned (e && l) p h
of_all false true l p h = refl
of_all false false l p h = refl

told_by_place : (c : ConfigNumbers) (whole trace : List Seen) (a b : EffectName) → Begins whole trace
    → is_told_by_head c trace a b
    ≡ (is_sure c whole a.queue a.number a.unit
    && is_among (answer_place whole a.queue a.number) (head_place c trace (completion_queue c a.queue) b))
told_by_place c whole [] a b x =
    sym (ap (λ (z : Bool). is_sure c whole a.queue a.number a.unit && z)
    (among_none (answer_place whole a.queue a.number))
    ∙ and_no (is_sure c whole a.queue a.number a.unit))
told_by_place c whole (Seen.Published p ∷ trace) a b x =
    told_by_place c whole trace a b (begins_on whole (Seen.Published p) trace x)
told_by_place c whole (Seen.Reaped r ∷ trace) a b x =
    go (is_fetched_later c trace r b) (told_by_place c whole trace a b (begins_on whole (Seen.Reaped r) trace x))
  where
    n : ℕ
    n = completion_queue c a.queue

    sure : Bool
    sure = is_sure c whole a.queue a.number a.unit

    place : Option ℕ
    place = answer_place whole a.queue a.number

    lines : List Seen
    lines = before_post c (Seen.Reaped r ∷ trace) r.queue

    rest : ℕ
    rest = head_place c trace n b

    here : (eqb n r.queue && is_sure c (Seen.Reaped r ∷ trace) a.queue a.number a.unit)
        ≡ (eqb n r.queue && (sure && is_among place (suc (length trace))))
    here = ap (λ (z : Bool). eqb n r.queue && z)
        (sure_in c whole (Seen.Reaped r ∷ trace) a.queue a.number a.unit x)

    before : is_sure c lines a.queue a.number a.unit ≡ (sure && is_among place (length lines))
    before =
        sure_in c whole lines a.queue a.number a.unit
        (begins_through whole lines (Seen.Reaped r ∷ trace) x (post_begins c (Seen.Reaped r ∷ trace) r.queue))

    go : (f : Bool) → is_told_by_head c trace a b ≡ (sure && is_among place rest)
        → ((f && is_made_by_post c trace r a) || is_told_by_head c trace a b)
        ≡ (sure && is_among place
        (cond f (larger (larger (length lines) rest) (cond (eqb n r.queue) (suc (length trace)) 0))
        rest))
    go false ih = ih
    go true ih =
        ap₂ (λ (y z : Bool). y || z) (ap₂ (λ (y z : Bool). y || z) here before) ih
        ∙ (of_all sure (eqb n r.queue) (is_among place (suc (length trace))) (is_among place (length lines))
        (is_among place rest)
        ∙ sym (ap (λ (z : Bool). sure && z)
        (among_larger place (larger (length lines) rest) (cond (eqb n r.queue) (suc (length trace)) 0)
        ∙ ap₂ (λ (y z : Bool). y || z) (among_larger place (length lines) rest)
        (among_cond place (eqb n r.queue) (suc (length trace))))))

-- ---- the order

of_three : (s x e i h : Bool) → (((s && x) || e) || (i && (s && h))) ≡ ((s && (x || (i && h))) || e)
of_three true true e i h = refl
of_three true false e i h = or_turned e (i && h)
of_three false x e true h = or_turned e false
of_three false x e false h = or_turned e false

pub ends_by_place : (c : ConfigNumbers) (trace : List Seen) (a b : EffectName) → ends_before c trace a b
    ≡ (is_sure c trace a.queue a.number a.unit && is_among (answer_place trace a.queue a.number)
    (length (before_entry trace b.queue (last_entry trace b.queue b.number))))
ends_by_place c trace a b =
    let x = lines_before trace b.queue (last_entry trace b.queue b.number) in
    sure_in c trace (before_entry trace b.queue (last_entry trace b.queue b.number)) a.queue a.number a.unit
    (x.more, x.is)

pub comes_by_place : (o : TraceOptions) (c : ConfigNumbers) (trace : List Seen) (a b : EffectName)
    → comes_before o c trace a b ≡ comes_before_by_place o c trace a b
comes_by_place o c trace a b =
    ap₂ (λ (y z : Bool). (y || is_earlier_unit a b) || (asks_heads o && z))
    (sure_in c trace first a.queue a.number a.unit (ends.more, ends.is))
    (told_by_place c trace trace a b ([], refl))
    ∙ (of_three sure (is_among place (length first)) (is_earlier_unit a b) (asks_heads o) (is_among place told)
    ∙ sym (ap (λ (z : Bool). (sure && z) || is_earlier_unit a b)
    (among_larger place (length first) (cond (asks_heads o) told 0)
    ∙ ap (λ (z : Bool). is_among place (length first) || z) (among_cond place (asks_heads o) told))))
  where
    first : List Seen
    first = before_entry trace b.queue (last_entry trace b.queue b.number)

    ends : LinesBefore trace b.queue (last_entry trace b.queue b.number)
    ends = lines_before trace b.queue (last_entry trace b.queue b.number)

    sure : Bool
    sure = is_sure c trace a.queue a.number a.unit

    place : Option ℕ
    place = answer_place trace a.queue a.number

    told : ℕ
    told = head_place c trace (completion_queue c a.queue) b
