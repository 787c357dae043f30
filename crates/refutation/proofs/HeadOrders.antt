-- A completion tells that an effect was there before another command was fetched.
use Rattle.std.proofs.Common.{◌≡◌, ℕ, ◌+◌, ◌-◌, ◌%◌, ◌≤◌, ◌<◌, true, false, ◌&&◌, ◌||◌, List, [], ◌∷◌}
use Rattle.std.proofs.Common.{◌++◌, append_assoc, length, refl, sym, ap, ap₂, ◌∙◌, subst, Option, Some, None, inl, inr}
use Rattle.std.proofs.Common.{arith, eq-eqb, eqb, eqb-true, leb-true, nat_le, nat_lt, slice_get}
use Rattle.std.proofs.lemmas.Bool.{and_parts, cond-true, or_cases}
use Rattle.nvme_model.specs.Completions.{reaped_count}
use Rattle.nvme_model.specs.Config.{completion_queue, config_fault, is_accepted}
use Rattle.nvme_model.specs.EntryBytes.{cqe_fields}
use Rattle.nvme_model.specs.History.{Past}
use Rattle.nvme_model.specs.Legal.{IsLegal}
use Rattle.nvme_model.specs.Queues.{fetched_count}
use Rattle.nvme_model.specs.declared.config.ConfigNumbers.{ConfigNumbers}
use Rattle.nvme_model.specs.declared.entry.Entry.{Entry}
use Rattle.nvme_model.specs.declared.entry.PostLine.{PostLine}
use Rattle.nvme_model.specs.declared.entry.ReapLine.{ReapLine}
use Rattle.nvme_model.proofs.Accepted.{accepted}
use Rattle.nvme_model.proofs.Beginnings.{earlier}
use Rattle.nvme_model.proofs.Cut.{clash}
use Rattle.nvme_model.proofs.Rules.{follows}
use Rattle.ticket_laws.proofs.Counts.{fetched_within}
use Rattle.host_laws.specs.Calls.{PostedAnswer, ReapAnswers, reaped_post}
use Rattle.host_laws.proofs.OneAnswer.{reaped_at}
use Rattle.host_laws.proofs.Reaps.{reap_answers}
use Rattle.trace.specs.Observed.{next_payload, observed, shown}
use Rattle.trace.specs.declared.seen.ReapedLine.{ReapedLine}
use Rattle.trace.specs.declared.seen.Seen.{Seen}
use Rattle.trace.proofs.Beginnings.{goes_on}
use Rattle.refutation.specs.Effects.{effect_by}
use Rattle.refutation.specs.EffectOrders.{EffectName, before_post, is_fetched_later, is_made_by_post}
use Rattle.refutation.specs.EffectOrders.{is_told_by_head, most_fetched}
use Rattle.refutation.specs.Lines.{answer_in, published_in}
use Rattle.refutation.specs.Told.{is_sure, says_differs, says_done, told_units}
use Rattle.refutation.proofs.Heads.{FitsHead, Head, head_is, head_of, heads}
use Rattle.refutation.proofs.LastLine.{reap_of}
use Rattle.refutation.proofs.LeastFetched.{HeadOf, reaped_head}
use Rattle.refutation.proofs.LineOrders.{beginning, sure_effect}
use Rattle.refutation.proofs.Lines.{answer_post, names_queue, none_is, on_before, published_seen, tidy_on}
use Rattle.refutation.proofs.NamedEffects.{behind, by_effect, by_later, effect_of}
use Rattle.refutation.proofs.Postings.{Posting, PostingOf, effect_at_post, none_unfetched, posted_first, posting}
use Rattle.refutation.proofs.PostOrders.{AreTidy, Behind, most_above, post_behind, published_grows}

-- ---- the slots of an accepted configuration

abbrev pub HasSlots : ConfigNumbers → Type 0
HasSlots c = FitsHead c × (1 ≤ c.cq_size)

pub has_slots : (c : ConfigNumbers) → is_accepted c ≡ true → HasSlots c
has_slots c a =
    let x = accepted c (none_is (config_fault c) a) in
    ((omega (arith, x.least_sq_slots), omega (arith, x.most_sq_slots)), omega (arith, x.least_cq_slots))

-- ---- the Reap that a line shows

record ReapPlace (c : ConfigNumbers) (past : Past) (r : ReapedLine) (trace : List Seen) : Type 0 where
  later : Past
  before : Past
  is : past ≡ later ++ (Entry.Reap (reap_of r) ∷ before)
  seen : observed c before ≡ trace
  shown : observed c (Entry.Reap (reap_of r) ∷ before) ≡ Seen.Reaped r ∷ trace

place_on : (c : ConfigNumbers) (e : Entry) (past : Past) (r : ReapedLine) (trace : List Seen) → ReapPlace c past r trace
    → ReapPlace c (e ∷ past) r trace
place_on c e past r trace x =
    record {
      later = e ∷ x.later;
      before = x.before;
      is = ap (λ (p : Past). e ∷ p) x.is;
      seen = x.seen;
      shown = x.shown;
    }

abbrev line_of : ConfigNumbers → Past → ReapLine → ReapedLine
line_of c past l = record { queue = l.queue; cqe = l.cqe; payload = next_payload c past l.queue }

place_here : (c : ConfigNumbers) (past : Past) (l : ReapLine) (r : ReapedLine) (trace : List Seen)
    → line_of c past l ≡ r
    → observed c past ≡ trace → ReapPlace c (Entry.Reap l ∷ past) r trace
place_here c past l r trace same seen =
    let line : l ≡ reap_of r = ap reap_of same in
    record {
      later = [];
      before = past;
      is = ap (λ (x : ReapLine). Entry.Reap x ∷ past) line;
      seen = seen;
      shown = ap (λ (x : ReapLine). observed c (Entry.Reap x ∷ past)) (sym line)
          ∙ ap₂ (λ (x : ReapedLine) (t : List Seen). Seen.Reaped x ∷ t) same seen;
    }

reap_place : (c : ConfigNumbers) (past : Past) (r : ReapedLine) (trace : List Seen)
    → observed c past ≡ Seen.Reaped r ∷ trace → ReapPlace c past r trace
reap_place c [] r trace e = absurd (let f : [] ≡ Seen.Reaped r ∷ trace = e in cc)
reap_place c (Entry.Publish p ∷ past) r trace e =
    absurd (let f : Seen.Published p ∷ observed c past ≡ Seen.Reaped r ∷ trace = e in cc)
reap_place c (Entry.Reap l ∷ past) r trace e =
    let f : Seen.Reaped (line_of c past l) ∷ observed c past ≡ Seen.Reaped r ∷ trace = e in
    place_here c past l r trace (let x = f in cc) (let x = f in cc)
reap_place c (Entry.Fetch x ∷ past) r trace e = place_on c (Entry.Fetch x) past r trace (reap_place c past r trace e)
reap_place c (Entry.Grant x ∷ past) r trace e = place_on c (Entry.Grant x) past r trace (reap_place c past r trace e)
reap_place c (Entry.Block x ∷ past) r trace e = place_on c (Entry.Block x) past r trace (reap_place c past r trace e)
reap_place c (Entry.Post x ∷ past) r trace e = place_on c (Entry.Post x) past r trace (reap_place c past r trace e)

-- ---- the line that tells it

record Telling (c : ConfigNumbers) (trace : List Seen) (a b : EffectName) : Type 0 where
  more : List Seen
  line : ReapedLine
  before : List Seen
  is : trace ≡ more ++ (Seen.Reaped line ∷ before)
  fetched : is_fetched_later c before line b ≡ true
  made : is_made_by_post c before line a ≡ true

telling_on : (c : ConfigNumbers) (s : Seen) (trace : List Seen) (a b : EffectName) → Telling c trace a b
    → Telling c (s ∷ trace) a b
telling_on c s trace a b x =
    record {
      more = s ∷ x.more;
      line = x.line;
      before = x.before;
      is = ap (λ (t : List Seen). s ∷ t) x.is;
      fetched = x.fetched;
      made = x.made;
    }

telling : (c : ConfigNumbers) (trace : List Seen) (a b : EffectName) → is_told_by_head c trace a b ≡ true
    → Telling c trace a b
telling c [] a b h = clash false h refl
telling c (Seen.Published p ∷ trace) a b h = telling_on c (Seen.Published p) trace a b (telling c trace a b h)
telling c (Seen.Reaped r ∷ trace) a b h =
    elim (or_cases (is_fetched_later c trace r b && is_made_by_post c trace r a) (is_told_by_head c trace a b) h) [
      | inl x ↦
          let y = and_parts (is_fetched_later c trace r b) (is_made_by_post c trace r a) x in
          record { more = []; line = r; before = trace; is = refl; fetched = y.0; made = y.1 }
      | inr x ↦ telling_on c (Seen.Reaped r) trace a b (telling c trace a b x)
    ]

-- ---- the Post of that completion

record PostOfLine (c : ConfigNumbers) (past : Past) (r : ReapLine) : Type 0 where
  answers : ReapAnswers c past r
  head : HeadOf c past r answers
  at : PostingOf c past r.queue (reaped_count past r.queue) head.head
  fetched : fetched_count at.at.before (cqe_fields r.cqe).sqid ≡ head.head.1
  says : (cqe_fields r.cqe).sqhd ≡ head.head.1 % c.sq_size
  legal : IsLegal c at.at.before

post_of_line : (c : ConfigNumbers) (past : Past) (r : ReapLine) (k : ℕ) → FitsHead c
    → IsLegal c (Entry.Reap r ∷ past) → tidy_on k (observed c past) ≡ true → PostOfLine c past r
post_of_line c past r k s h d =
    let before = (follows c past (Entry.Reap r) h).before in
    let x = reap_answers c past r h in
    let y = reaped_head c past r x in
    let p = posting c past r.queue (reaped_count past r.queue) y.head y.at in
    let sqid = names_queue c past r x k d in
    let all : IsLegal c (p.at.later ++ (Entry.Post p.at.post ∷ p.at.before)) =
    subst (λ (q : Past). IsLegal c q) p.at.is before in
    record {
      answers = x;
      head = y;
      at = p;
      fetched = ap (fetched_count p.at.before) (sqid ∙ sym y.queue) ∙ p.fetched;
      says = ap (λ (b : List ℕ). (cqe_fields b).sqhd) (sym y.cqe)
          ∙ (head_is c past r.queue (reaped_count past r.queue) y.head s before y.at).says;
      legal = (follows c p.at.before (Entry.Post p.at.post)
          (earlier c p.at.later (Entry.Post p.at.post ∷ p.at.before) all)).before;
    }

-- it had fetched no more than SQHD says
fetched_few : (c : ConfigNumbers) (past : Past) (r : ReapedLine) (x : PostOfLine c past (reap_of r)) → FitsHead c
    → fetched_count x.at.at.before (cqe_fields r.cqe).sqid ≤ most_fetched c (observed c past) r
fetched_few c past r x s =
    let q = (cqe_fields r.cqe).sqid in
    let g = x.at.at.before in
    let f = fetched_count g q in
    let n = length (published_in (observed c past) q) in
    let within = fetched_within c g q x.legal in
    let more = goes_on c (x.at.at.later ++ (Entry.Post x.at.at.post ∷ [])) g in
    let whole : past ≡ (x.at.at.later ++ (Entry.Post x.at.at.post ∷ [])) ++ g =
    x.at.at.is ∙ sym (append_assoc x.at.at.later (Entry.Post x.at.at.post ∷ []) g) in
    let seen : observed c past ≡ more.0 ++ observed c g = ap (observed c) whole ∙ more.1 in
    let grows = published_grows more.0 (observed c g) q in
    let few : f ≤ n =
    omega (
      arith,
      within,
      ap length (published_seen c g q),
      grows,
      ap
          (λ (t : List Seen). length (published_in t q)) seen,
    ) in
    let head : (cqe_fields r.cqe).sqhd ≡ f % c.sq_size = x.says ∙ ap (λ (z : ℕ). z % c.sq_size) (sym x.fetched) in
    subst (λ (z : ℕ). f ≤ n - (n + (c.sq_size - z % c.sq_size)) % c.sq_size) (sym head)
    (most_above c.sq_size n f s.0 few)

-- ---- what is answered on the same completion queue was posted by then

sure_answered : (c : ConfigNumbers) (trace : List Seen) (q j u : ℕ) → is_sure c trace q j u ≡ true
    → (r : ReapedLine) × (answer_in trace q j ≡ Some r)
sure_answered c trace q j u h =
    by (answer_in trace q j) (and_parts (nat_lt u (length (told_units c trace q j)))
    (says_done (answer_in trace q j)
    || (says_differs (answer_in trace q j) && eqb (length (told_units c trace q j)) 1)) h).1
  where
    by : (o : Option ReapedLine) → (says_done o || (says_differs o && eqb (length (told_units c trace q j)) 1)) ≡ true
        → (r : ReapedLine) × (o ≡ Some r)
    by None e = clash false e refl
    by (Some r) e = (r, refl)

answered_posting : (c : ConfigNumbers) (past : Past) (n i k : ℕ) (h : Head) (a : EffectName) (post : PostLine)
    (first : Past) (p : PostingOf c past n i h) (x : Posting c past n k) → IsLegal c past → IsLegal c x.before
    → h.0 ≡ record { queue = a.queue; number = a.number; post = post } → i ≤ k
    → effect_by past a.queue a.number a.unit ≡ Some first → effect_by x.before a.queue a.number a.unit ≡ Some first
answered_posting c past n i k h a post first p x l g same few f =
    let answer = p.answer ∙ same in
    let effect = effect_at_post c past n i a.queue a.number a.unit first p.at l
    (ap (λ (y : PostedAnswer). y.queue) answer) (ap (λ (y : PostedAnswer). y.number) answer) f in
    let m = posted_first c past n i k p.at x few in
    subst (λ (q : Past). effect_by q a.queue a.number a.unit ≡ Some first) (sym m.1)
    (by_later c m.0 p.at.before a.queue a.number a.unit first (subst (λ (q : Past). IsLegal c q) m.1 g) effect)

-- the place of a reaped completion in its queue
record ReapedHead (c : ConfigNumbers) (past : Past) (r : ReapLine) (q j : ℕ) : Type 0 where
  index : ℕ
  head : Head
  post : PostLine
  at : slice_get (heads c past r.queue) index ≡ Some head
  same : head.0 ≡ record { queue = q; number = j; post = post }
  few : index ≤ reaped_count past r.queue

reaped_place : (c : ConfigNumbers) (past : Past) (r : ReapLine) (q j : ℕ) (p : PostLine)
    → completion_queue c q ≡ r.queue
    → reaped_post c (Entry.Reap r ∷ past) q j ≡ Some p → ReapedHead c past r q j
reaped_place c past r q j p own e =
    let z = reaped_at c (Entry.Reap r ∷ past) q j p e in
    let w = head_of c past (completion_queue c q) z.index (record { queue = q; number = j; post = p }) z.at in
    let below : z.index < reaped_count (Entry.Reap r ∷ past) r.queue =
    subst (λ (n : ℕ). z.index < reaped_count (Entry.Reap r ∷ past) n) own z.below in
    let one = cond-true {A = ℕ} (eqb r.queue r.queue) 1 0 (eq-eqb r.queue r.queue refl) in
    record {
      index = z.index;
      head = w.0;
      post = p;
      at = subst (λ (n : ℕ). slice_get (heads c past n) z.index ≡ Some w.0) own w.1;
      same = w.2;
      few = omega (arith, below, one);
    }

made_on_queue : (c : ConfigNumbers) (past : Past) (r : ReapLine) (a : EffectName) (x : PostOfLine c past r)
    → IsLegal c (Entry.Reap r ∷ past) → tidy_on a.queue (observed c past) ≡ true
    → completion_queue c a.queue ≡ r.queue
    → is_sure c (observed c (Entry.Reap r ∷ past)) a.queue a.number a.unit ≡ true
    → (first : Past) × (effect_by x.at.at.before a.queue a.number a.unit ≡ Some first)
made_on_queue c past r a x h d own e =
    let line = sure_answered c (observed c (Entry.Reap r ∷ past)) a.queue a.number a.unit e in
    let there = sure_effect c (Entry.Reap r ∷ past) a.queue a.number a.unit h d e in
    let post = answer_post c (Entry.Reap r ∷ past) a.queue a.number line.0 h d line.1 in
    let z = reaped_place c past r a.queue a.number post.0 own post.1 in (
      there.0,
      answered_posting c past r.queue z.index (reaped_count past r.queue) z.head a z.post there.0
          (posting c past r.queue z.index z.head z.at) x.at.at (follows c past (Entry.Reap r) h).before x.legal z.same
          z.few there.1,
    )

-- a beginning of a history shows a tidy trace where the history does
tidy_start : (c : ConfigNumbers) (past later start : Past) (q : ℕ) → past ≡ later ++ start
    → tidy_on q (observed c past) ≡ true → tidy_on q (observed c start) ≡ true
tidy_start c past later start q e d =
    let more = goes_on c later start in
    on_before q more.0 (observed c start)
    (subst (λ (t : List Seen). tidy_on q t ≡ true) more.1
    (subst (λ (p : Past). tidy_on q (observed c p) ≡ true) e d))

-- what is sure in a beginning has its effect in the history
sure_behind : (c : ConfigNumbers) (past : Past) (lines : List Seen) (a : EffectName) → IsLegal c past
    → tidy_on a.queue (observed c past) ≡ true → Behind c past lines → is_sure c lines a.queue a.number a.unit ≡ true
    → (first : Past) × (effect_by past a.queue a.number a.unit ≡ Some first)
sure_behind c past lines a h d b e =
    let legal : IsLegal c (b.later ++ b.start) = subst (λ (p : Past). IsLegal c p) b.is h in
    let there = sure_effect c b.start a.queue a.number a.unit (earlier c b.later b.start legal)
    (tidy_start c past b.later b.start a.queue b.is d)
    (subst (λ (t : List Seen). is_sure c t a.queue a.number a.unit ≡ true) (sym b.seen) e) in (
      there.0,
      subst (λ (p : Past). effect_by p a.queue a.number a.unit ≡ Some there.0) (sym b.is)
          (by_later c b.later b.start a.queue a.number a.unit there.0 legal there.1),
    )

made_before : (c : ConfigNumbers) (past : Past) (r : ReapLine) (a : EffectName) (x : PostOfLine c past r) → HasSlots c
    → IsLegal c (Entry.Reap r ∷ past) → tidy_on a.queue (observed c past) ≡ true
    → AreTidy c r.queue (observed c past)
    → is_sure c (before_post c (observed c (Entry.Reap r ∷ past)) r.queue) a.queue a.number a.unit ≡ true
    → (first : Past) × (effect_by x.at.at.before a.queue a.number a.unit ≡ Some first)
made_before c past r a x s h d all e =
    let k = reaped_count past r.queue in
    let g = x.at.at.before in
    let y : Posting c ([] ++ (Entry.Reap r ∷ past)) r.queue k = record {
      later = Entry.Reap r ∷ x.at.at.later;
      post = x.at.at.post;
      before = g;
      is = ap (λ (p : Past). Entry.Reap r ∷ p) x.at.at.is;
      count = x.at.at.count;
      own = x.at.at.own;
    } in
    let one = cond-true {A = ℕ} (eqb r.queue r.queue) 1 0 (eq-eqb r.queue r.queue refl) in
    let b : Behind c g (before_post c (observed c (Entry.Reap r ∷ past)) r.queue) =
    post_behind c [] (Entry.Reap r ∷ past) r.queue k y s.0 s.1 h all (omega (arith, one)) in
    let tidy = tidy_start c past (x.at.at.later ++ (Entry.Post x.at.at.post ∷ [])) g a.queue
    (x.at.at.is ∙ sym (append_assoc x.at.at.later (Entry.Post x.at.at.post ∷ []) g)) d in
    sure_behind c g (before_post c (observed c (Entry.Reap r ∷ past)) r.queue) a x.legal tidy b e

-- ---- the order

told_at : (c : ConfigNumbers) (whole later past : Past) (r : ReapedLine) (a b : EffectName) (before : Past) → HasSlots c
    → IsLegal c whole → whole ≡ later ++ (Entry.Reap (reap_of r) ∷ past) → tidy_on a.queue (observed c past) ≡ true
    → AreTidy c (completion_queue c b.queue) (observed c past)
    → observed c (Entry.Reap (reap_of r) ∷ past) ≡ Seen.Reaped r ∷ observed c past
    → is_fetched_later c (observed c past) r b ≡ true → is_made_by_post c (observed c past) r a ≡ true
    → effect_by whole b.queue b.number b.unit ≡ Some before
    → (first : Past) × (effect_by before a.queue a.number a.unit ≡ Some first)
told_at c whole later past r a b before s h is d alls shown fetched made e =
    let legal : IsLegal c (Entry.Reap (reap_of r) ∷ past) =
    earlier c later (Entry.Reap (reap_of r) ∷ past) (subst (λ (p : Past). IsLegal c p) is h) in
    let x = post_of_line c past (reap_of r) a.queue s.0 legal d in
    let g = x.at.at.before in
    let y = and_parts (eqb (cqe_fields r.cqe).sqid b.queue)
    (nat_le (most_fetched c (observed c past) r) b.number) fetched in
    let few = fetched_few c past r x s.0 in
    let queue = eqb-true (cqe_fields r.cqe).sqid b.queue y.0 in
    let on : completion_queue c b.queue ≡ r.queue =
    ap (completion_queue c) (sym queue ∙ names_queue c past (reap_of r) x.answers a.queue d) ∙ x.answers.own in
    let most = leb-true (most_fetched c (observed c past) r) b.number y.1 in
    let none = none_unfetched c g b.queue b.number b.unit x.legal
    (omega (arith, few, most, ap (fetched_count g) queue)) in
    let first : (first : Past) × (effect_by g a.queue a.number a.unit ≡ Some first) =
    elim (or_cases (eqb (completion_queue c a.queue) r.queue
    && is_sure c (Seen.Reaped r ∷ observed c past) a.queue a.number a.unit)
    (is_sure c (before_post c (Seen.Reaped r ∷ observed c past) r.queue) a.queue a.number a.unit) made) [
      | inl z ↦
          let w = and_parts (eqb (completion_queue c a.queue) r.queue)
          (is_sure c (Seen.Reaped r ∷ observed c past) a.queue a.number a.unit) z in
          made_on_queue c past (reap_of r) a x legal d (eqb-true (completion_queue c a.queue) r.queue w.0)
          (ap (λ (t : List Seen). is_sure c t a.queue a.number a.unit) shown ∙ w.1)
      | inr z ↦ made_before c past (reap_of r) a x s legal d
          (subst (λ (k : ℕ). AreTidy c k (observed c past)) on alls)
          (ap (λ (t : List Seen). is_sure c (before_post c t r.queue) a.queue a.number a.unit) shown ∙ z)
    ] in
    let rest : Past = later ++ (Entry.Reap (reap_of r) ∷ (x.at.at.later ++ (Entry.Post x.at.at.post ∷ []))) in
    let all : whole ≡ rest ++ g = is ∙ split later x.at.at.later x.at.at.post past g x.at.at.is in
    let e2 : effect_by (rest ++ g) b.queue b.number b.unit ≡ Some before =
    subst (λ (p : Past). effect_by p b.queue b.number b.unit ≡ Some before) all e in
    let after = behind rest g b.queue b.number b.unit before e2 none in
    let of = effect_of c whole b.queue b.number b.unit before (by_effect whole b.queue b.number b.unit before e) h in (
      first.0,
      subst (λ (p : Past). effect_by p a.queue a.number a.unit ≡ Some first.0) (sym after.1)
          (by_later c after.0 g a.queue a.number a.unit first.0
          (subst (λ (p : Past). IsLegal c p) after.1 of.legal_before) first.1),
    )
  where
    split : (l m : Past) (p : PostLine) (past g : Past) → past ≡ m ++ (Entry.Post p ∷ g)
        → l ++ (Entry.Reap (reap_of r) ∷ past) ≡ (l ++ (Entry.Reap (reap_of r) ∷ (m ++ (Entry.Post p ∷ [])))) ++ g
    split l m p past g f =
        ap (λ (z : Past). l ++ (Entry.Reap (reap_of r) ∷ z)) (f ∙ sym (append_assoc m (Entry.Post p ∷ []) g))
        ∙ sym (append_assoc l (Entry.Reap (reap_of r) ∷ (m ++ (Entry.Post p ∷ []))) g)

pub told_by_head : (c : ConfigNumbers) (past : Past) (a b : EffectName) (before : Past) → HasSlots c → IsLegal c past
    → tidy_on a.queue (observed c past) ≡ true → AreTidy c (completion_queue c b.queue) (observed c past)
    → is_told_by_head c (observed c past) a b ≡ true
    → effect_by past b.queue b.number b.unit ≡ Some before
    → (first : Past) × (effect_by before a.queue a.number a.unit ≡ Some first)
told_by_head c past a b before s h d all e f =
    let t = telling c (observed c past) a b e in
    let start = beginning c past t.more (Seen.Reaped t.line ∷ t.before) t.is in
    let place = reap_place c start.1 t.line t.before start.3 in
    let is : past ≡ (start.0 ++ place.later) ++ (Entry.Reap (reap_of t.line) ∷ place.before) =
    start.2 ∙ (ap (λ (p : Past). start.0 ++ p) place.is
    ∙ sym (append_assoc start.0 place.later (Entry.Reap (reap_of t.line) ∷ place.before))) in
    let tidy : (q : ℕ) → tidy_on q (observed c past) ≡ true → tidy_on q (observed c place.before) ≡ true = λ q y.
    ap (tidy_on q) place.seen
    ∙ on_before q (t.more ++ (Seen.Reaped t.line ∷ [])) t.before
    (ap (tidy_on q) (append_assoc t.more (Seen.Reaped t.line ∷ []) t.before ∙ sym t.is) ∙ y) in
    told_at c past (start.0 ++ place.later) place.before t.line a b before s h is (tidy a.queue d)
    (λ q y. tidy q (all q y))
    (place.shown ∙ ap (λ (x : List Seen). Seen.Reaped t.line ∷ x) (sym place.seen))
    (ap (λ (x : List Seen). is_fetched_later c x t.line b) place.seen ∙ t.fetched)
    (ap (λ (x : List Seen). is_made_by_post c x t.line a) place.seen ∙ t.made) f
