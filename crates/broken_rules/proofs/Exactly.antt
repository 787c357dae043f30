-- An entry breaks no rule exactly where it may follow a legal history.
use Rattle.std.proofs.Common.{◌≡◌, ℕ, ◌%◌, ◌+◌, ◌-◌, ◌&&◌, ◌||◌, Bool, true, false, not, cond, List, [], ◌∷◌, ◌++◌}
use Rattle.std.proofs.Common.{length, refl, sym, ap, ap₂, ◌∙◌, Option, Some, None, is_none, is_some, option_map}
use Rattle.std.proofs.Common.{bytes_eq, eqb, get_or, nat_lt, slice_get}
use Rattle.std.specs.Bool.{beq}
use Rattle.std.specs.List.{find}
use Rattle.std.proofs.lemmas.Bool.{and_right, eq-eqb}
use Rattle.std.proofs.lemmas.Slice.Eq.{bytes_eq-Decides}
use Rattle.nvme_model.specs.Answered.{may_find, right_answers}
use Rattle.nvme_model.specs.Completions.{completion, posted_completions, reaped_count}
use Rattle.nvme_model.specs.History.{Past, step_of}
use Rattle.nvme_model.specs.Legal.{block_fits, fits, is_cqe, is_range, legal, post_fits}
use Rattle.nvme_model.specs.Open.{blocks_made, grants_of, is_differs, is_equal, is_written, open_units}
use Rattle.nvme_model.specs.Operations.{is_exclusive, mode, op}
use Rattle.nvme_model.specs.Owed.{completion_data, owed}
use Rattle.nvme_model.specs.Placed.{effect, may_be_effect}
use Rattle.nvme_model.specs.Refusals.{next_unit, refusal}
use Rattle.nvme_model.specs.Tickets.{Ticket, next_verdict, posts_of, ticket, tickets}
use Rattle.nvme_model.specs.Verdict.{same_verdict}
use Rattle.nvme_model.specs.declared.array.Range.{Range}
use Rattle.nvme_model.specs.declared.config.ConfigNumbers.{ConfigNumbers}
use Rattle.nvme_model.specs.declared.entry.BlockLine.{BlockLine}
use Rattle.nvme_model.specs.declared.entry.Entry.{Entry}
use Rattle.nvme_model.specs.declared.entry.GrantLine.{GrantLine}
use Rattle.nvme_model.specs.declared.entry.PostLine.{PostLine}
use Rattle.nvme_model.specs.declared.entry.ReapLine.{ReapLine}
use Rattle.nvme_model.specs.declared.operation.Found.{Found}
use Rattle.nvme_model.specs.declared.operation.Op.{Op}
use Rattle.nvme_model.specs.declared.refusal.Why.{Why}
use Rattle.nvme_model.specs.declared.status.Status.{Status}
use Rattle.broken_rules.specs.Broken.{block_wrong, first_broken, post_wrong, refused_or, wrong}
use Rattle.broken_rules.specs.Rows.{completion_or, data_broken, grant_broken, is_word, reap_broken, word_due}
use Rattle.broken_rules.specs.Unlike.{bytes_apart, cqe_unlike, first_apart, phase_of, row_or, status_bits, two_at}
use Rattle.broken_rules.specs.declared.broken.Broken.{Broken}
use Rattle.broken_rules.specs.declared.unlike.Unlike.{Unlike}
use Rattle.broken_rules.specs.declared.words.Words.{Words}

-- ---- rows

two_rows : (a b : Bool) (x y : Broken) → is_none (cond (not a) (Some x) (cond (not b) (Some y) None)) ≡ (a && b)
two_rows true true x y = refl
two_rows true false x y = refl
two_rows false b x y = refl

three_rows : (a b d : Bool) (x y z : Broken)
    → is_none (cond (not a) (Some x) (cond (not b) (Some y) (cond (not d) (Some z) None))) ≡ (a && b && d)
three_rows true true true x y z = refl
three_rows true true false x y z = refl
three_rows true false d x y z = refl
three_rows false b d x y z = refl

none_or : (o : Option Why) (more : Option Broken) → is_none (refused_or o more) ≡ (is_none o && is_none more)
none_or None more = refl
none_or (Some why) more = refl

-- ---- a completion

same_not : (n m : ℕ) → n ≡ m → not (eqb n m) ≡ false
same_not n m e = ap not (eq-eqb n m e)

skip : (n : ℕ) (u : Unlike) (more : Option Unlike) → is_none more ≡ true
    → is_none (row_or (not (eqb n n)) u more) ≡ true
skip n u more e = ap (λ b. is_none (row_or b u more)) (same_not n n refl) ∙ e

unlike_self : (xs : List ℕ) → is_none (cqe_unlike xs xs) ≡ true
unlike_self xs =
    skip (two_at 10 xs) _ _ (skip (two_at 12 xs) _ _
    (skip (status_bits (two_at 14 xs)) _ _ (skip (two_at 8 xs) _ _ (skip (phase_of (two_at 14 xs)) _ _
    (ap (λ b. is_none (cond b None
    (Some (Unlike.Byte (first_apart xs xs) (get_or xs (first_apart xs xs) 0) (get_or xs (first_apart xs xs) 0)))))
    ((bytes_eq-Decides xs xs).1 refl))))))

row_some : (n m : ℕ) (u : Unlike) (more : Option Unlike) → is_none more ≡ false
    → is_none (row_or (not (eqb n m)) u more) ≡ false
row_some n m u more e = by (not (eqb n m))
  where
    by : (h : Bool) → is_none (row_or h u more) ≡ false
    by true = refl
    by false = e

apart_some : (found due : List ℕ) → bytes_eq found due ≡ false → is_none (bytes_apart found due) ≡ false
apart_some found due e =
    ap (λ b. is_none (cond b None
    (Some (Unlike.Byte (first_apart found due) (get_or found (first_apart found due) 0)
    (get_or due (first_apart found due) 0))))) e

unlike_apart : (found due : List ℕ) → bytes_eq found due ≡ false → is_none (cqe_unlike found due) ≡ false
unlike_apart found due e =
    let a = row_some (two_at 10 found) (two_at 10 due) (Unlike.Sqid (two_at 10 found) (two_at 10 due)) in
    let b = row_some (two_at 12 found) (two_at 12 due) (Unlike.Cid (two_at 12 found) (two_at 12 due)) in
    let d = row_some (status_bits (two_at 14 found)) (status_bits (two_at 14 due))
    (Unlike.Status (status_bits (two_at 14 found)) (status_bits (two_at 14 due))) in
    let f = row_some (two_at 8 found) (two_at 8 due) (Unlike.Sqhd (two_at 8 found) (two_at 8 due)) in
    let g = row_some (phase_of (two_at 14 found)) (phase_of (two_at 14 due))
    (Unlike.Phase (phase_of (two_at 14 found)) (phase_of (two_at 14 due))) in
    a _ (b _ (d _ (f _ (g (bytes_apart found due) (apart_some found due e)))))

unlike_same : (found due : List ℕ) → bytes_eq found due ≡ true → is_none (cqe_unlike found due) ≡ true
unlike_same found due e = ap (λ (xs : List ℕ). is_none (cqe_unlike xs due)) ((bytes_eq-Decides found due).0 e)
    ∙ unlike_self due

unlike_none : (found due : List ℕ) → is_none (cqe_unlike found due) ≡ bytes_eq found due
unlike_none found due = by (bytes_eq found due) (unlike_same found due) (unlike_apart found due)
  where
    by : (b : Bool) → (b ≡ true → is_none (cqe_unlike found due) ≡ true)
        → (b ≡ false → is_none (cqe_unlike found due) ≡ false) → is_none (cqe_unlike found due) ≡ b
    by true f g = f refl
    by false f g = g refl

bytes_turned : (xs ys : List ℕ) → bytes_eq xs ys ≡ bytes_eq ys xs
bytes_turned xs ys = by (bytes_eq xs ys) (bytes_eq ys xs) refl refl
  where
    by : (a b : Bool) → bytes_eq xs ys ≡ a → bytes_eq ys xs ≡ b → a ≡ b
    by true true p q = refl
    by false false p q = refl
    by true false p q = sym ((bytes_eq-Decides ys xs).1 (sym ((bytes_eq-Decides xs ys).0 p))) ∙ q
    by false true p q = sym p ∙ (bytes_eq-Decides xs ys).1 (sym ((bytes_eq-Decides ys xs).0 q))

-- ---- each kind of entry

grant_none : (g : GrantLine) (opened : ℕ) (o : Option Range) (m : _)
    → is_none (grant_broken g opened o m)
    ≡ (eqb g.unit opened && is_range o g.range && beq (is_exclusive g.mode) (is_exclusive m))
grant_none g opened None m = by (eqb g.unit opened)
  where
    by : (u : Bool) → false ≡ (u && false && beq (is_exclusive g.mode) (is_exclusive m))
    by true = refl
    by false = refl
grant_none g opened (Some r) m =
    three_rows (eqb g.unit opened) ((eqb r.slba g.range.slba) && (eqb r.blocks g.range.blocks))
    (beq (is_exclusive g.mode) (is_exclusive m)) _ _ _

pub word_is : (o : Option Op) (n j : ℕ) (f : Found) → is_word (word_due o n j) f ≡ may_find o n j f
word_is None n j f = refl
word_is (Some Op.Read) n j f = refl
word_is (Some Op.Compare) n j f = refl
word_is (Some Op.Write) n j f = refl
word_is (Some Op.WriteZeroes) n j f = refl
word_is (Some Op.Pair) n j f = by (nat_lt j n)
  where
    by : (b : Bool) → is_word (cond b Words.Compared Words.Written) f
        ≡ cond b (is_equal f || is_differs f) (is_written f)
    by true = refl
    by false = refl

block_rows : (a l w e m y q z : Bool) (r1 r2 r3 r4 r5 r6 r7 : Broken) → (m ≡ true → y ≡ false) → (q ≡ false → z ≡ false)
    → is_none (cond (not a) (Some r1)
    (cond (not l) (Some r2) (cond (not w) (Some r3)
    (cond (e && m) (Some r4)
    (cond (e && not y) (Some r5) (cond (not q) (Some r6) (cond (not z) (Some r7) None)))))))
    ≡ (a && l && w && (not e || y) && z)
block_rows false l w e m y q z r1 r2 r3 r4 r5 r6 r7 f g = refl
block_rows true false w e m y q z r1 r2 r3 r4 r5 r6 r7 f g = refl
block_rows true true false e m y q z r1 r2 r3 r4 r5 r6 r7 f g = refl
block_rows true true true false m y true true r1 r2 r3 r4 r5 r6 r7 f g = refl
block_rows true true true false m y true false r1 r2 r3 r4 r5 r6 r7 f g = refl
block_rows true true true false m y false z r1 r2 r3 r4 r5 r6 r7 f g = sym (g refl)
block_rows true true true true true y q z r1 r2 r3 r4 r5 r6 r7 f g = ap (λ x. x && z) (sym (f refl))
block_rows true true true true false false q z r1 r2 r3 r4 r5 r6 r7 f g = refl
block_rows true true true true false true true true r1 r2 r3 r4 r5 r6 r7 f g = refl
block_rows true true true true false true true false r1 r2 r3 r4 r5 r6 r7 f g = refl
block_rows true true true true false true false z r1 r2 r3 r4 r5 r6 r7 f g = sym (g refl)

answers_more : (o : Option Past) (k : Ticket) (x : Bool) (b : BlockLine) (made : List BlockLine)
    → right_answers o k made ≡ false → right_answers o k (cond x (b ∷ []) [] ++ made) ≡ false
answers_more None k x b made h = h
answers_more (Some before) k true b made h = and_right _ _ h
answers_more (Some before) k false b made h = h

block_none : (past : Past) (b : BlockLine) (o : Option GrantLine) → is_none (block_wrong past b o) ≡ block_fits past b o
block_none past b None = refl
block_none past b (Some g) =
    let k = ticket past b.ticket in
    let j = length (blocks_made past g.ticket g.unit) in
    let after = Entry.Block b ∷ past in
    let o = effect after b.ticket b.unit in
    block_rows (eqb b.unit g.unit) (eqb b.lba (g.range.slba + j % g.range.blocks))
    (is_word (word_due (op k) g.range.blocks j) b.found) b.effect (is_some (effect past b.ticket b.unit))
    (may_be_effect past b.ticket b.unit)
    (right_answers o k (blocks_made past b.ticket b.unit)) (right_answers o k (blocks_made after b.ticket b.unit)) _ _ _
    _ _ _ _
    (λ h. ap (λ x. not x && (eqb b.unit 0 || is_some (effect past b.ticket (b.unit - 1)))) h)
    (answers_more o k (eqb b.ticket b.ticket && eqb b.unit b.unit) b (blocks_made past b.ticket b.unit))
    ∙ ap (λ w. eqb b.unit g.unit && eqb b.lba (g.range.slba + j % g.range.blocks) && w
    && (not b.effect || may_be_effect past b.ticket b.unit)
    && right_answers o k (blocks_made after b.ticket b.unit)) (word_is (op k) g.range.blocks j b.found)

completion_none : (o : Option Unlike) (more : Option Broken)
    → is_none (completion_or o more) ≡ (is_none o && is_none more)
completion_none None more = refl
completion_none (Some u) more = refl

data_none : (found due : List ℕ) → is_none (data_broken found due) ≡ bytes_eq found due
data_none found due = by (bytes_eq found due) (eqb (length found) (length due)) _ _
  where
    by : (b d : Bool) (x y : Broken) → is_none (cond b None (cond d (Some x) (Some y))) ≡ b
    by true d x y = refl
    by false true x y = refl
    by false false x y = refl

post_none : (c : ConfigNumbers) (past : Past) (p : PostLine) (o : Option Status)
    → is_none (post_wrong c past p o) ≡ post_fits c past p o
post_none c past p None = refl
post_none c past p (Some s) =
    completion_none (cqe_unlike p.cqe (completion c past p.ticket s))
    (data_broken p.payload (completion_data c past p.ticket s))
    ∙ ap₂ (λ a b. a && b) (unlike_none p.cqe (completion c past p.ticket s))
    (data_none p.payload (completion_data c past p.ticket s))

reap_none : (r : ReapLine) (o : Option PostLine)
    → is_none (reap_broken r (option_map (λ (p : PostLine). p.cqe) o)) ≡ is_cqe o r.cqe
reap_none r None = refl
reap_none r (Some p) = mapped (cqe_unlike r.cqe p.cqe) ∙ unlike_none r.cqe p.cqe ∙ bytes_turned r.cqe p.cqe
  where
    mapped : (o : Option Unlike) → is_none (option_map Broken.Reaped o) ≡ is_none o
    mapped None = refl
    mapped (Some u) = refl

wrong_none : (c : ConfigNumbers) (past : Past) (e : Entry) → is_none (wrong c past e) ≡ fits c past e
wrong_none c past (Entry.Publish p) = refl
wrong_none c past (Entry.Fetch f) =
    two_rows (eqb f.ticket (tickets past + 1)) (same_verdict f.verdict (next_verdict c past f.queue)) _ _
wrong_none c past (Entry.Grant g) =
    grant_none g (grants_of past g.ticket) (next_unit c past g.ticket) (mode (ticket past g.ticket))
wrong_none c past (Entry.Block b) = block_none past b (find (λ g. eqb g.ticket b.ticket) (open_units past))
wrong_none c past (Entry.Post p) = post_none c past p (slice_get (owed c past p.ticket) (posts_of past p.ticket))
wrong_none c past (Entry.Reap r) =
    reap_none r (slice_get (posted_completions c past r.queue) (reaped_count past r.queue))

pub exactly : (c : ConfigNumbers) (past : Past) (e : Entry) → is_none (first_broken c past e) ≡ legal c (e ∷ past)
exactly c past e = by (legal c past)
    ∙ ap (λ x. legal c past && x)
    (none_or (refusal c past (step_of e)) (wrong c past e)
    ∙ ap (λ x. is_none (refusal c past (step_of e)) && x) (wrong_none c past e))
  where
    by : (l : Bool) → is_none (cond l (refused_or (refusal c past (step_of e)) (wrong c past e)) (Some Broken.Earlier))
        ≡ (l && is_none (refused_or (refusal c past (step_of e)) (wrong c past e)))
    by true = refl
    by false = refl
