-- What is posted is what the array's answers make of it.
use Rattle.std.proofs.Common.{◌≡◌, ℕ, suc, ◌+◌, Bool, true, false, not, ◌&&◌, ◌||◌, cond, List, [], ◌∷◌, ◌++◌, refl}
use Rattle.std.proofs.Common.{sym, ap, ap₂, ◌∙◌, subst, subst₂, Option, Some, None, inl, inr, arith, eqb, ◌<◌}
use Rattle.std.proofs.Common.{slice_get}
use Rattle.std.specs.List.{list_any, find, flat_map}
use Rattle.std.proofs.lemmas.Bool.{and_parts, cond-true, cond-false, cases_Bool, cases_lt}
use Rattle.plain_lemmas.proofs.Lists.{bytes_eq_true}
use Rattle.nvme_model.specs.declared.config.ConfigNumbers.{ConfigNumbers}
use Rattle.nvme_model.specs.Array.{blocks_from}
use Rattle.nvme_model.specs.Statuses.{is_success}
use Rattle.nvme_model.specs.History.{Past}
use Rattle.nvme_model.specs.Tickets
use Rattle.nvme_model.specs.Tickets.{Ticket, posts_of}
use Rattle.nvme_model.specs.Operations.{op, units, has_compare}
use Rattle.nvme_model.specs.Completions.{posted_completions, reaped_count}
use Rattle.nvme_model.specs.Open.{unit_range, grants_of}
use Rattle.nvme_model.specs.Value.{value, all_equal}
use Rattle.nvme_model.specs.Placed.{effect}
use Rattle.nvme_model.specs.Answered.{no_at, says_no}
use Rattle.nvme_model.specs.Owed.{owed, owed_after, owed_by, numbered_units, units_of, all_ended, all_done, some_no}
use Rattle.nvme_model.specs.Owed.{contents_at, read_data_by, completion_data}
use Rattle.nvme_model.specs.Sequential.{ArrayAnswer, ArrayReply, ArrayMachine, answer_by, effect_answers, answer_for}
use Rattle.nvme_model.specs.Sequential.{array_answer, is_no}
use Rattle.nvme_model.specs.Sequential.{bytes_of, said_no, sequential, statuses_by, statuses_after, sequential_statuses}
use Rattle.nvme_model.specs.Sequential.{data_by, sequential_data, IsPosted, IsReaped}
use Rattle.nvme_model.specs.Legal.{IsLegal, post_fits, is_cqe}
use Rattle.nvme_model.specs.declared.array.Range.{Range}
use Rattle.nvme_model.specs.declared.operation.Op.{Op}
use Rattle.nvme_model.specs.declared.status.Status.{Status}
use Rattle.nvme_model.specs.declared.status.Verdict.{Verdict}
use Rattle.nvme_model.specs.declared.entry.PostLine.{PostLine}
use Rattle.nvme_model.specs.declared.entry.ReapLine.{ReapLine}
use Rattle.nvme_model.specs.declared.entry.Entry.{Entry}
use Rattle.nvme_model.proofs.Rules.{follows}
use Rattle.nvme_model.proofs.Apart.{ticket_kept}
use Rattle.nvme_model.proofs.Blocks.{no_blocks, at_key, grants_before, range_before}
use Rattle.nvme_model.proofs.Pairs.{no_blocks_yet}
use Rattle.nvme_model.proofs.Effects.{no_effect}
use Rattle.nvme_model.proofs.NextPost.{granted_unit, same_range, same_place}
use Rattle.nvme_model.proofs.BlockLists.{bytes_listed}
use Rattle.nvme_model.proofs.Sequential.{sequential_is}
use Rattle.nvme_model.proofs.Cut.{clash}

-- ---- the answer of a unit

abbrev at_effect : Option Past → Ticket → Range → Option ArrayAnswer
at_effect None k r = None
at_effect (Some before) k r = Some (answer_by (value before) (op k) k r)

abbrev Answered : Past → ℕ → ℕ → Type 0
Answered past t u = answer_for (effect_answers past) t u
    ≡ at_effect (effect past t u) (Tickets.ticket past t) (unit_range past t u)

-- where it has no effect there is no answer, whatever ticket and range it is asked with
none_yet : (past : Past) (t u : ℕ) (k : Ticket) (r : Range) → effect past t u ≡ None → Answered past t u
    → answer_for (effect_answers past) t u ≡ at_effect (effect past t u) k r
none_yet past t u k r e h =
    h ∙ (ap (λ (o : Option Past). at_effect o (Tickets.ticket past t) (unit_range past t u)) e
    ∙ sym (ap (λ (o : Option Past). at_effect o k r) e))

answered : (c : ConfigNumbers) (past : Past) (t u : ℕ) → IsLegal c past → Answered past t u
answered c [] t u h = refl
answered c (Entry.Fetch f ∷ past) t u h =
    let before = (follows c past (Entry.Fetch f) h).before in
    elim (cases_lt (Tickets.tickets past) t) [
      | inl l ↦ none_yet past t u (Tickets.ticket (Entry.Fetch f ∷ past) t) (unit_range past t u)
          (no_effect past t u (no_blocks_yet c past t u before l)) (answered c past t u before)
      | inr l ↦ subst (λ (k : Ticket). answer_for (effect_answers past) t u
          ≡ at_effect (effect past t u) k (unit_range past t u)) (sym (ticket_kept c past f t h l))
          (answered c past t u before)
    ]
answered c (Entry.Grant g ∷ past) t u h =
    let before = (follows c past (Entry.Grant g) h).before in
    elim (cases_Bool (eqb g.ticket t && eqb g.unit u)) [
      | inl e ↦ none_yet past t u (Tickets.ticket past t) (unit_range (Entry.Grant g ∷ past) t u)
          (no_effect past t u (no_blocks c past t u before (grants_before c past g t u h e)))
          (answered c past t u before)
      | inr e ↦ subst (λ (r : Range). answer_for (effect_answers past) t u
          ≡ at_effect (effect past t u) (Tickets.ticket past t) r) (sym (range_before past g t u e))
          (answered c past t u before)
    ]
answered c (Entry.Block b ∷ past) t u h =
    go b.effect (eqb b.ticket t && eqb b.unit u) refl (answered c past t u (follows c past (Entry.Block b) h).before)
  where
    reply : ArrayReply
    reply = record {
      ticket = b.ticket;
      unit = b.unit;
      answer = answer_by (value past) (op (Tickets.ticket past b.ticket)) (Tickets.ticket past b.ticket)
          (unit_range past b.ticket b.unit);
    }

    rest : Option ArrayReply
    rest = find (λ a. eqb a.ticket t && eqb a.unit u) (effect_answers past)

    triple : (x a b : Bool) → (x && a && b) ≡ (x && (a && b))
    triple true a b = refl
    triple false a b = refl

    own : (eqb b.ticket t && eqb b.unit u) ≡ true
        → reply.answer ≡ answer_by (value past) (op (Tickets.ticket past t)) (Tickets.ticket past t)
        (unit_range past t u)
    own e = at_key (λ i j. reply.answer
        ≡ answer_by (value past) (op (Tickets.ticket past i)) (Tickets.ticket past i) (unit_range past i j)) b t u e
        refl

    go : (x y : Bool) → (eqb b.ticket t && eqb b.unit u) ≡ y → Answered past t u
        → array_answer (find (λ a. eqb a.ticket t
        && eqb a.unit u) (cond x (reply ∷ effect_answers past) (effect_answers past)))
        ≡ at_effect (cond (x && eqb b.ticket t && eqb b.unit u) (Some past) (effect past t u)) (Tickets.ticket past t)
        (unit_range past t u)
    go false y e ih = ih
    go true true e ih =
        ap array_answer (cond-true (eqb b.ticket t && eqb b.unit u) (Some reply) rest e)
        ∙ (ap Some (own e) ∙ ap (λ (o : Option Past). at_effect o (Tickets.ticket past t) (unit_range past t u))
        (sym (cond-true (true && eqb b.ticket t && eqb b.unit u) (Some past) (effect past t u)
        (triple true (eqb b.ticket t) (eqb b.unit u) ∙ e))))
    go true false e ih =
        ap array_answer (cond-false (eqb b.ticket t && eqb b.unit u) (Some reply) rest e)
        ∙ (ih ∙ ap (λ (o : Option Past). at_effect o (Tickets.ticket past t) (unit_range past t u))
        (sym (cond-false (true && eqb b.ticket t && eqb b.unit u) (Some past) (effect past t u)
        (triple true (eqb b.ticket t) (eqb b.unit u) ∙ e))))
answered c (e ∷ past) t u h = answered c past t u (follows c past e h).before

-- the same of the machine
machine_answered : (c : ConfigNumbers) (past : Past) (t u : ℕ) → IsLegal c past
    → answer_for (sequential c past).replies t u
    ≡ at_effect (effect past t u) (Tickets.ticket past t) (unit_range past t u)
machine_answered c past t u h = ap (λ (m : ArrayMachine). answer_for m.replies t u) (sequential_is c past h)
    ∙ answered c past t u h

-- ---- it says no

no_by : (o : Option Op) (f : ℕ → List ℕ) (k : Ticket) (r : Range)
    → is_no (Some (answer_by f o k r)) ≡ (has_compare o && not (all_equal f k r))
no_by None f k r = refl
no_by (Some Op.Read) f k r = refl
no_by (Some Op.Compare) f k r = refl
no_by (Some Op.Write) f k r = refl
no_by (Some Op.WriteZeroes) f k r = refl
no_by (Some Op.Pair) f k r = refl

same_no : (o : Option Past) (k : Ticket) (r : Range) → is_no (at_effect o k r) ≡ no_at o k r
same_no None k r = refl
same_no (Some before) k r = no_by (op k) (value before) k r

pub says_no_by_machine : (c : ConfigNumbers) (past : Past) (t u : ℕ) → IsLegal c past
    → is_no (answer_for (sequential c past).replies t u) ≡ says_no past t u
says_no_by_machine c past t u h = ap is_no (machine_answered c past t u h)
    ∙ same_no (effect past t u) (Tickets.ticket past t) (unit_range past t u)

any_same : (p q : ℕ × Range → Bool) → ((x : ℕ × Range) → p x ≡ q x) → (xs : List (ℕ × Range))
    → list_any p xs ≡ list_any q xs
any_same p q f [] = refl
any_same p q f (x ∷ xs) = ap₂ (λ (a b : Bool). a || b) (f x) (any_same p q f xs)

said_is_no : (c : ConfigNumbers) (past : Past) (t : ℕ) → IsLegal c past → said_no c past t ≡ some_no c past t
said_is_no c past t h = any_same (λ u. is_no (answer_for (sequential c past).replies t u.0)) (λ u. says_no past t u.0)
    (λ x. says_no_by_machine c past t x.0 h) (units_of c past t)

-- ---- what was read

flat_numbered : (f g : ℕ × Range → List ℕ) (v : ℕ) (rs : List Range)
    → ((i j : ℕ) (r : Range) → slice_get rs i ≡ Some r → j ≡ v + i → f (j, r) ≡ g (j, r))
    → flat_map f (numbered_units v rs) ≡ flat_map g (numbered_units v rs)
flat_numbered f g v [] h = refl
flat_numbered f g v (r ∷ rs) h =
    ap₂ (λ (x y : List ℕ). x ++ y) (h 0 v r refl (omega arith))
    (flat_numbered f g (suc v) rs (λ i j s e m. h (suc i) j s e (omega (arith, m))))

pub flat_none : (xs : List ℕ) → flat_map (contents_at None) xs ≡ []
flat_none [] = refl
flat_none (x ∷ xs) = flat_none xs

unit_bytes : (c : ConfigNumbers) (past : Past) (t u : ℕ) (r : Range) → IsLegal c past
    → op (Tickets.ticket past t) ≡ Some Op.Read → slice_get (units c (Tickets.ticket past t)) u ≡ Some r
    → bytes_of (answer_for (sequential c past).replies t u)
    ≡ flat_map (contents_at (effect past t u)) (blocks_from r.slba r.blocks)
unit_bytes c past t u r h o e =
    ap bytes_of (machine_answered c past t u h)
    ∙ elim (cases_lt u (grants_of past t)) [
      | inl l ↦ by_effect (effect past t u) (unit_range past t u) (range_is l)
      | inr l ↦ no_bytes (effect past t u) (no_effect past t u (no_blocks c past t u h l))
    ]
  where
    range_is : (u < grants_of past t) → unit_range past t u ≡ r
    range_is l =
        let x = granted_unit c past t u h l in
        subst₂ (λ (i j : ℕ). unit_range past i j ≡ r) x.1.ticket x.1.unit
        (x.1.facts.range ∙ same_range x.0.range r (sym x.1.at ∙ e))

    by_effect : (q : Option Past) (s : Range) → s ≡ r
        → bytes_of (at_effect q (Tickets.ticket past t) s) ≡ flat_map (contents_at q) (blocks_from r.slba r.blocks)
    by_effect None s z = sym (flat_none (blocks_from r.slba r.blocks))
    by_effect (Some before) s z =
        ap (λ (p : Option Op). bytes_of (Some (answer_by (value before) p (Tickets.ticket past t) s))) o
        ∙ (bytes_listed (value before) (blocks_from s.slba s.blocks)
        ∙ ap (λ (x : Range). flat_map (value before) (blocks_from x.slba x.blocks)) z)

    no_bytes : (q : Option Past) → q ≡ None
        → bytes_of (at_effect q (Tickets.ticket past t) (unit_range past t u))
        ≡ flat_map (contents_at q) (blocks_from r.slba r.blocks)
    no_bytes q z = subst (λ (p : Option Past). bytes_of (at_effect p (Tickets.ticket past t) (unit_range past t u))
        ≡ flat_map (contents_at p) (blocks_from r.slba r.blocks)) (sym z)
        (sym (flat_none (blocks_from r.slba r.blocks)))

read_same : (c : ConfigNumbers) (past : Past) (t : ℕ) (o : Option Op) → IsLegal c past → op (Tickets.ticket past t) ≡ o
    → data_by c past t o ≡ read_data_by c past t o
read_same c past t (Some Op.Read) h e =
    flat_numbered (λ u. bytes_of (answer_for (sequential c past).replies t u.0))
    (λ u. flat_map (contents_at (effect past t u.0)) (blocks_from u.1.slba u.1.blocks)) 0
    (units c (Tickets.ticket past t))
    (λ i j r a m. unit_bytes c past t j r h e (ap (slice_get (units c (Tickets.ticket past t))) (same_place j i m) ∙ a))
read_same c past t None h e = refl
read_same c past t (Some Op.Compare) h e = refl
read_same c past t (Some Op.Write) h e = refl
read_same c past t (Some Op.WriteZeroes) h e = refl
read_same c past t (Some Op.Pair) h e = refl

data_same : (c : ConfigNumbers) (past : Past) (t : ℕ) (s : Status) → IsLegal c past
    → sequential_data c past t s ≡ completion_data c past t s
data_same c past t s h =
    ap (λ (xs : List ℕ). cond (is_success s) xs []) (read_same c past t (op (Tickets.ticket past t)) h refl)

-- ---- the statuses

abbrev none : List Status
none = []

none_at : {A : Type 0} (i : ℕ) (s : Status) → slice_get none i ≡ Some s → A
none_at i s e = absurd (let f : None ≡ Some s = e in cc)

one_status : (x d : Bool) (a b : List Status) (i : ℕ) (s : Status) → slice_get (cond x a (cond d b [])) i ≡ Some s
    → slice_get (cond x a b) i ≡ Some s
one_status true d a b i s e = e
one_status false true a b i s e = e
one_status false false a b i s e = none_at i s e

two_statuses : (x z d : Bool) (a b : List Status) (i : ℕ) (s : Status) → (d ≡ true → z ≡ true)
    → slice_get (cond (x && z) a (cond d b [])) i ≡ Some s → slice_get (cond x a b) i ≡ Some s
two_statuses true true d a b i s w e = e
two_statuses true false true a b i s w e = clash false (w refl) refl
two_statuses true false false a b i s w e = none_at i s e
two_statuses false z true a b i s w e = e
two_statuses false z false a b i s w e = none_at i s e

passed_status : (c : ConfigNumbers) (past : Past) (t : ℕ) (o : Option Op) (i : ℕ) (s : Status)
    → slice_get (owed_by c past t o) i ≡ Some s → slice_get (statuses_by o (some_no c past t)) i ≡ Some s
passed_status c past t None i s e = e
passed_status c past t (Some Op.Pair) i s e =
    two_statuses (some_no c past t) (all_ended c past t) (all_done c past t) _ _ i s (λ d. (and_parts _ _ d).0) e
passed_status c past t (Some Op.Read) i s e = one_status (some_no c past t) (all_done c past t) _ _ i s e
passed_status c past t (Some Op.Compare) i s e = one_status (some_no c past t) (all_done c past t) _ _ i s e
passed_status c past t (Some Op.Write) i s e = one_status (some_no c past t) (all_done c past t) _ _ i s e
passed_status c past t (Some Op.WriteZeroes) i s e = one_status (some_no c past t) (all_done c past t) _ _ i s e

status_by : (c : ConfigNumbers) (past : Past) (t : ℕ) (v : Verdict) (i : ℕ) (s : Status)
    → slice_get (owed_after c past t (Tickets.ticket past t) v) i ≡ Some s
    → slice_get (statuses_after v (op (Tickets.ticket past t)) (some_no c past t)) i ≡ Some s
status_by c past t (Verdict.SingleFailed q) i s e = e
status_by c past t (Verdict.PairFailed q r) i s e = e
status_by c past t Verdict.Single i s e = passed_status c past t (op (Tickets.ticket past t)) i s e
status_by c past t Verdict.Pair i s e = passed_status c past t (op (Tickets.ticket past t)) i s e

same_status : (c : ConfigNumbers) (past : Past) (t i : ℕ) (s : Status) → IsLegal c past
    → slice_get (owed c past t) i ≡ Some s → slice_get (sequential_statuses c past t) i ≡ Some s
same_status c past t i s h e =
    let k = Tickets.ticket past t in
    subst (λ (b : Bool). slice_get (statuses_after k.verdict (op k) b) i ≡ Some s) (sym (said_is_no c past t h))
    (status_by c past t k.verdict i s e)

-- ---- the theorems

pub posted_by_machine : (c : ConfigNumbers) (past : Past) (p : PostLine) → IsLegal c (Entry.Post p ∷ past)
    → IsPosted c past p
posted_by_machine c past p h =
    let f = follows c past (Entry.Post p) h in
    go (slice_get (owed c past p.ticket) (posts_of past p.ticket)) refl f.before f.fits
  where
    go : (o : Option Status) → slice_get (owed c past p.ticket) (posts_of past p.ticket) ≡ o → IsLegal c past
        → post_fits c past p o ≡ true → IsPosted c past p
    go None e b f = clash false f refl
    go (Some s) e b f =
        let a = and_parts _ _ f in (
          s,
          same_status c past p.ticket (posts_of past p.ticket) s b e,
          bytes_eq_true _ _ a.0,
          bytes_eq_true _ _ a.1
              ∙ sym (data_same c past p.ticket s b),
        )

pub reaped_is_posted : (c : ConfigNumbers) (past : Past) (r : ReapLine) → IsLegal c (Entry.Reap r ∷ past)
    → IsReaped c past r
reaped_is_posted c past r h =
    go (slice_get (posted_completions c past r.queue) (reaped_count past r.queue)) refl
    (follows c past (Entry.Reap r) h).fits
  where
    go : (o : Option PostLine) → slice_get (posted_completions c past r.queue) (reaped_count past r.queue) ≡ o
        → is_cqe o r.cqe ≡ true → IsReaped c past r
    go None e f = clash false f refl
    go (Some p) e f = (p, e, sym (bytes_eq_true _ _ f))
