-- The effects of the pair that a trace lacks stand before all others.
use Rattle.std.proofs.Common.{◌≡◌, ℕ, zero, suc, ◌+◌, ◌-◌, ◌<◌, ◌≤◌, ◌==◌, ◌⊎◌, Bool, true, false, not, cond}
use Rattle.std.proofs.Common.{List, [], ◌∷◌, ◌++◌, length, refl, sym, ap, ◌∙◌, subst, Option, Some, None, inl, inr}
use Rattle.std.proofs.Common.{arith}
use Rattle.std.proofs.Common.{append_assoc, eq-eqb, eqb, eqb-true, slice_get}
use Rattle.std.specs.Option.{is_some}
use Rattle.std.proofs.lemmas.Bool.{and_parts}
use Rattle.std.proofs.lemmas.List.{append-nil, length-append}
use Rattle.std.proofs.lemmas.Option.{slice_get_within}
use Rattle.nvme_model.specs.Config.{completion_queue, is_accepted}
use Rattle.nvme_model.specs.EntryBytes.{cqe_fields}
use Rattle.nvme_model.specs.History.{Past}
use Rattle.nvme_model.specs.Legal.{IsLegal}
use Rattle.nvme_model.specs.Queues.{published_entries}
use Rattle.nvme_model.specs.Tickets.{command, ticket}
use Rattle.nvme_model.specs.declared.config.ConfigNumbers.{ConfigNumbers}
use Rattle.nvme_model.specs.declared.entry.Entry.{Entry}
use Rattle.nvme_model.specs.declared.entry.PostLine.{PostLine}
use Rattle.nvme_model.specs.declared.entry.PublishLine.{PublishLine}
use Rattle.nvme_model.specs.declared.entry.ReapLine.{ReapLine}
use Rattle.nvme_model.specs.declared.submission.Submission.{Submission}
use Rattle.nvme_model.proofs.Beginnings.{earlier}
use Rattle.nvme_model.proofs.Rules.{follows}
use Rattle.host_laws.specs.Calls.{PostedAnswer, reaped_post}
use Rattle.host_laws.proofs.OneAnswer.{reaped_at}
use Rattle.host_laws.proofs.Reaps.{reap_answers, reaped_later}
use Rattle.trace.specs.Aside.{aside_pair, comes_first, in_turn, is_aside, none_seen, out_aside, own}
use Rattle.trace.specs.Observed.{next_payload, observed}
use Rattle.trace.specs.declared.options.TraceOptions.{TraceOptions}
use Rattle.trace.specs.declared.seen.Seen.{Seen}
use Rattle.refutation.specs.Effects.{effect_by}
use Rattle.refutation.specs.Lines.{published_in}
use Rattle.refutation.proofs.Heads.{head_of}
use Rattle.refutation.proofs.Lines.{published_seen}
use Rattle.refutation.proofs.NamedEffects.{by_effect, by_later, effect_of, entries_of, none_unpublished}
use Rattle.refutation.proofs.OwnLines.{is_other, own_published}
use Rattle.refutation.proofs.OwnReaps.{named}
use Rattle.refutation.proofs.Postings.{Posting, effect_at_post, posting}

-- ---- how many numbers below k pass a test

abbrev count : (ℕ → Bool) → ℕ → ℕ
count f zero = 0
count f (suc k) = count f k + cond (f k) 1 0

few : (f : ℕ → Bool) (k : ℕ) → count f k ≤ k
few f zero = omega arith
few f (suc k) = by (f k) (few f k)
  where
    by : (b : Bool) → count f k ≤ k → count f k + cond b 1 0 ≤ suc k
    by true l = omega (arith, l)
    by false l = omega (arith, l)

more : (f g : ℕ → Bool) (k : ℕ) → ((i : ℕ) → f i ≡ true → g i ≡ true) → count f k ≤ count g k
more f g zero h = omega arith
more f g (suc k) h = by (more f g k h) (f k) refl (g k) refl
  where
    by : count f k ≤ count g k → (x : Bool) → f k ≡ x → (y : Bool) → g k ≡ y
        → count f k + cond x 1 0 ≤ count g k + cond y 1 0
    by l true e true z = omega (arith, l)
    by l true e false z = absurd (let w : true ≡ false = sym (h k e) ∙ z in cc)
    by l false e true z = omega (arith, l)
    by l false e false z = omega (arith, l)

one_more : (f g : ℕ → Bool) (k i : ℕ) → ((j : ℕ) → f j ≡ true → g j ≡ true) → i < k → f i ≡ false → g i ≡ true
    → suc (count f k) ≤ count g k
one_more f g zero i h l a b = absurd (omega (arith, l))
one_more f g (suc k) i h l a b = at (eqb i k) refl (λ m. one_more f g k i h m a b)
  where
    last : f k ≡ false → g k ≡ true → suc (count f k + cond (f k) 1 0) ≤ count g k + cond (g k) 1 0
    last x y =
        let m = more f g k h in
        let p : cond {A = ℕ} (f k) 1 0 ≡ 0 = ap (λ (z : Bool). cond z 1 0) x in
        let q : cond {A = ℕ} (g k) 1 0 ≡ 1 = ap (λ (z : Bool). cond z 1 0) y in
        omega (arith, m, p, q)

    before : suc (count f k) ≤ count g k → (x : Bool) → f k ≡ x → (y : Bool) → g k ≡ y
        → suc (count f k + cond x 1 0) ≤ count g k + cond y 1 0
    before m true e true z = omega (arith, m)
    before m true e false z = absurd (let w : true ≡ false = sym (h k e) ∙ z in cc)
    before m false e true z = omega (arith, m)
    before m false e false z = omega (arith, m)

    other : eqb i k ≡ false → i < k
    other e = omega (arith, l, not_same e)
      where
        not_same : eqb i k ≡ false → i ≡ k → ⊥
        not_same e s = let w : true ≡ false = sym (eq-eqb i k s) ∙ e in cc

    at : (z : Bool) → eqb i k ≡ z → (i < k → suc (count f k) ≤ count g k)
        → suc (count f k + cond (f k) 1 0) ≤ count g k + cond (g k) 1 0
    at true e ih =
        let s = eqb-true i k e in
        last (subst (λ (j : ℕ). f j ≡ false) s a) (subst (λ (j : ℕ). g j ≡ true) s b)
    at false e ih = before (ih (other e)) (f k) refl (g k) refl

longer : (f : ℕ → Bool) (m k : ℕ) → count f m ≤ count f (m + k)
longer f m zero = let e : m + 0 ≡ m = omega arith in let same = ap (count f) e in omega (arith, same)
longer f m (suc k) =
    let e : m + suc k ≡ suc (m + k) = omega arith in
    let same : count f (m + suc k) ≡ count f (m + k) + cond (f (m + k)) 1 0 = ap (count f) e in
    omega (arith, longer f m k, same)

-- as many as there are: each passes
all_pass : (f : ℕ → Bool) (k i : ℕ) → k ≤ count f k → i < k → f i ≡ true
all_pass f zero i h l = absurd (omega (arith, l))
all_pass f (suc k) i h l = by (λ m n. all_pass f k i m n) (f k) refl (eqb i k) refl
  where
    by : (k ≤ count f k → i < k → f i ≡ true) → (x : Bool) → f k ≡ x → (z : Bool) → eqb i k ≡ z → f i ≡ true
    by ih false e z w =
        let p : cond {A = ℕ} (f k) 1 0 ≡ 0 = ap (λ (y : Bool). cond y 1 0) e in
        absurd (omega (arith, h, few f k, p))
    by ih true e true w = subst (λ (j : ℕ). f j ≡ true) (sym (eqb-true i k w)) e
    by ih true e false w =
        let p : cond {A = ℕ} (f k) 1 0 ≡ 1 = ap (λ (y : Bool). cond y 1 0) e in
        ih (omega (arith, h, p)) (omega (arith, l, not_same w))
      where
        not_same : eqb i k ≡ false → i ≡ k → ⊥
        not_same w s = let v : true ≡ false = sym (eq-eqb i k s) ∙ w in cc

-- ---- no command is out: each entry was answered

abbrev is_answered : ConfigNumbers → Past → ℕ → ℕ → Bool
is_answered c past q j = is_some (reaped_post c past q j)

stays_answered : (c : ConfigNumbers) (e : Entry) (past : Past) (q j : ℕ) → IsLegal c (e ∷ past)
    → is_answered c past q j ≡ true → is_answered c (e ∷ past) q j ≡ true
stays_answered c e past q j h = by (reaped_post c past q j) refl
  where
    by : (o : Option PostLine) → reaped_post c past q j ≡ o → is_some o ≡ true
        → is_some (reaped_post c (e ∷ past) q j) ≡ true
    by None z f = absurd (let g : false ≡ true = f in cc)
    by (Some p) z f = ap is_some (reaped_later c (e ∷ []) past q j p h z)

-- of the entries of submission queue n as many are answered as aren't out
abbrev AreCounted : ConfigNumbers → Past → ℕ → Type 0
AreCounted c past n =
    length (published_entries past n)
    ≤ out_aside (Some n) (observed c past) + count (is_answered c past n) (length (published_entries past n))

counted_publish : (c : ConfigNumbers) (past : Past) (p : PublishLine) (n : ℕ) → IsLegal c (Entry.Publish p ∷ past)
    → AreCounted c past n → AreCounted c (Entry.Publish p ∷ past) n
counted_publish c past p n h ih = by (eqb p.queue n)
  where
    f : ℕ → Bool
    f = is_answered c past n

    out : ℕ
    out = out_aside (Some n) (observed c past)

    by : (b : Bool) → length (published_entries past n ++ cond b p.batch [])
        ≤ cond b (out + length p.batch) out + count f (length (published_entries past n ++ cond b p.batch []))
    by true =
        let l = length-append (published_entries past n) p.batch in
        let m = longer f (length (published_entries past n)) (length p.batch) in
        omega (arith, ih, m, l, ap (count f) l)
    by false =
        let l = ap length (append-nil (published_entries past n)) in
        omega (arith, ih, l, ap (count f) l)

counted_reap : (c : ConfigNumbers) (past : Past) (r : ReapLine) (n : ℕ) → is_accepted c ≡ true
    → IsLegal c (Entry.Reap r ∷ past) → AreCounted c past n → AreCounted c (Entry.Reap r ∷ past) n
counted_reap c past r n a h ih = by (eqb (cqe_fields r.cqe).sqid n) refl
  where
    k : ℕ
    k = length (published_entries past n)

    f : ℕ → Bool
    f = is_answered c past n

    g : ℕ → Bool
    g = is_answered c (Entry.Reap r ∷ past) n

    out : ℕ
    out = out_aside (Some n) (observed c past)

    stays : (j : ℕ) → f j ≡ true → g j ≡ true
    stays j = stays_answered c (Entry.Reap r) past n j h

    by : (b : Bool) → eqb (cqe_fields r.cqe).sqid n ≡ b → k ≤ cond b (out - 1) out + count g k
    by false e = omega (arith, ih, more f g k stays)
    by true e =
        let x = reap_answers c past r h in
        let queue : x.queue ≡ n = sym (named c past r x a) ∙ eqb-true (cqe_fields r.cqe).sqid n e in
        let there : slice_get (published_entries past n) x.number ≡ Some x.entry =
        subst (λ (q : ℕ). slice_get (published_entries past q) x.number ≡ Some x.entry) queue x.published in
        let before : f x.number ≡ false =
        subst (λ (q : ℕ). is_some (reaped_post c past q x.number) ≡ false) queue (ap is_some x.unreaped) in
        let now : g x.number ≡ true =
        subst (λ (q : ℕ). is_some (reaped_post c (Entry.Reap r ∷ past) q x.number) ≡ true) queue
        (ap is_some x.reaped) in
        let one = one_more f g k x.number stays
        (slice_get_within (published_entries past n) x.number x.entry there) before now in
        omega (arith, ih, one)

counted : (c : ConfigNumbers) (past : Past) (n : ℕ) → is_accepted c ≡ true → IsLegal c past → AreCounted c past n
counted c [] n a h = omega arith
counted c (Entry.Publish p ∷ past) n a h =
    counted_publish c past p n h (counted c past n a (follows c past (Entry.Publish p) h).before)
counted c (Entry.Reap r ∷ past) n a h =
    counted_reap c past r n a h (counted c past n a (follows c past (Entry.Reap r) h).before)
counted c (Entry.Fetch e ∷ past) n a h = counted c past n a (follows c past (Entry.Fetch e) h).before
counted c (Entry.Grant e ∷ past) n a h = counted c past n a (follows c past (Entry.Grant e) h).before
counted c (Entry.Block e ∷ past) n a h = counted c past n a (follows c past (Entry.Block e) h).before
counted c (Entry.Post e ∷ past) n a h = counted c past n a (follows c past (Entry.Post e) h).before

pub all_answered : (c : ConfigNumbers) (past : Past) (n j : ℕ) → is_accepted c ≡ true → IsLegal c past
    → out_aside (Some n) (observed c past) ≡ 0 → j < length (published_entries past n)
    → (p : PostLine) × (reaped_post c past n j ≡ Some p)
all_answered c past n j a h out l = by (reaped_post c past n j) refl
    (all_pass (is_answered c past n) (length (published_entries past n)) j
    (omega (arith, counted c past n a h, out)) l)
  where
    by : (o : Option PostLine) → reaped_post c past n j ≡ o → is_some (reaped_post c past n j) ≡ true
        → (p : PostLine) × (reaped_post c past n j ≡ Some p)
    by None e f = absurd (let g : false ≡ true = sym (ap is_some e) ∙ f in cc)
    by (Some p) e f = (p, e)

-- ---- the beginning of a history that has the pair's lines

-- No other queue's entry is published in the beginning. All of the pair's are, and are answered there, unless the
-- history is no longer.
pub record PairFirst (c : ConfigNumbers) (n : ℕ) (past : Past) : Type 0 where
  pub later : Past
  pub start : Past
  pub is : past ≡ later ++ start
  pub none : own (Some n) (observed c start) ≡ []
  pub kept : (later ≡ [])
      ⊎ ((published_entries past n ≡ published_entries start n) × (out_aside (Some n) (observed c start) ≡ 0))

-- no other line was seen: all of it is such a beginning
all_pair : (c : ConfigNumbers) (n : ℕ) (past : Past) → own (Some n) (observed c past) ≡ [] → PairFirst c n past
all_pair c n past e = record { later = []; start = past; is = refl; none = e; kept = inl refl }

-- one entry more that isn't the pair's
pair_behind : (c : ConfigNumbers) (n : ℕ) (e : Entry) (past : Past)
    → published_entries (e ∷ past) n ≡ published_entries past n → out_aside (Some n) (observed c past) ≡ 0
    → PairFirst c n past → PairFirst c n (e ∷ past)
pair_behind c n e past same out x = go x.kept
  where
    go : (x.later ≡ [])
        ⊎ ((published_entries past n ≡ published_entries x.start n) × (out_aside (Some n) (observed c x.start) ≡ 0))
        → PairFirst c n (e ∷ past)
    go (inr k) = record {
      later = e ∷ x.later;
      start = x.start;
      is = ap (λ (l : Past). e ∷ l) x.is;
      none = x.none;
      kept = inr (same ∙ k.0, k.1);
    }
    go (inl k) =
        let start : past ≡ x.start = x.is ∙ ap (λ (l : Past). l ++ x.start) k in
        record {
          later = e ∷ [];
          start = past;
          is = refl;
          none = ap (λ (p : Past). own (Some n) (observed c p)) start ∙ x.none;
          kept = inr (same, out);
        }

-- one entry more that nobody sees
pair_unseen : (c : ConfigNumbers) (n : ℕ) (e : Entry) (past : Past)
    → published_entries (e ∷ past) n ≡ published_entries past n → observed c (e ∷ past) ≡ observed c past
    → PairFirst c n past → PairFirst c n (e ∷ past)
pair_unseen c n e past same seen x = go x.kept
  where
    go : (x.later ≡ [])
        ⊎ ((published_entries past n ≡ published_entries x.start n) × (out_aside (Some n) (observed c x.start) ≡ 0))
        → PairFirst c n (e ∷ past)
    go (inr k) = record {
      later = e ∷ x.later;
      start = x.start;
      is = ap (λ (l : Past). e ∷ l) x.is;
      none = x.none;
      kept = inr (same ∙ k.0, k.1);
    }
    go (inl k) =
        let start : past ≡ x.start = x.is ∙ ap (λ (l : Past). l ++ x.start) k in
        all_pair c n (e ∷ past)
        (ap (own (Some n)) seen ∙ (ap (λ (p : Past). own (Some n) (observed c p)) start ∙ x.none))

none_there : (seen : List Seen) → none_seen seen ≡ true → seen ≡ []
none_there [] h = refl
none_there (s ∷ seen) h = absurd (let f : false ≡ true = h in cc)

-- one line more
pair_line : (c : ConfigNumbers) (n : ℕ) (e : Entry) (s : Seen) (past : Past)
    → observed c (e ∷ past) ≡ s ∷ observed c past
    → in_turn (Some n) (observed c past) s ≡ true
    → (is_aside (Some n) s ≡ false → published_entries (e ∷ past) n ≡ published_entries past n)
    → PairFirst c n past → PairFirst c n (e ∷ past)
pair_line c n e s past seen turn same x = by (is_aside (Some n) s) refl turn
  where
    by : (b : Bool) → is_aside (Some n) s ≡ b
        → cond b (none_seen (own (Some n) (observed c past))) (out_aside (Some n) (observed c past) == 0) ≡ true
        → PairFirst c n (e ∷ past)
    by true z t =
        all_pair c n (e ∷ past)
        (ap (own (Some n)) seen
        ∙ (ap (λ (b : Bool). cond b (own (Some n) (observed c past)) (s ∷ own (Some n) (observed c past))) z
        ∙ none_there (own (Some n) (observed c past)) t))
    by false z t = pair_behind c n e past (same z) (eqb-true (out_aside (Some n) (observed c past)) 0 t) x

pub pair_first : (c : ConfigNumbers) (n : ℕ) (past : Past) → comes_first (Some n) (observed c past) ≡ true
    → PairFirst c n past
pair_first c n [] f = all_pair c n [] refl
pair_first c n (Entry.Publish p ∷ past) f =
    let x = and_parts (comes_first (Some n) (observed c past))
    (in_turn (Some n) (observed c past) (Seen.Published p)) f in
    pair_line c n (Entry.Publish p) (Seen.Published p) past refl x.1
    (λ z. ap (λ (b : Bool). published_entries past n ++ cond b p.batch []) z ∙ append-nil (published_entries past n))
    (pair_first c n past x.0)
pair_first c n (Entry.Reap r ∷ past) f =
    let line : Seen =
    Seen.Reaped (record { queue = r.queue; cqe = r.cqe; payload = next_payload c past r.queue }) in
    let x = and_parts (comes_first (Some n) (observed c past)) (in_turn (Some n) (observed c past) line) f in
    pair_line c n (Entry.Reap r) line past refl x.1 (λ z. refl) (pair_first c n past x.0)
pair_first c n (Entry.Fetch e ∷ past) f = pair_unseen c n (Entry.Fetch e) past refl refl (pair_first c n past f)
pair_first c n (Entry.Grant e ∷ past) f = pair_unseen c n (Entry.Grant e) past refl refl (pair_first c n past f)
pair_first c n (Entry.Block e ∷ past) f = pair_unseen c n (Entry.Block e) past refl refl (pair_first c n past f)
pair_first c n (Entry.Post e ∷ past) f = pair_unseen c n (Entry.Post e) past refl refl (pair_first c n past f)

-- ---- its effects are in that beginning, and no others

-- an answered entry's effects are where it was answered
answered_there : (c : ConfigNumbers) (later start : Past) (q j u : ℕ) (before : Past) (p : PostLine)
    → IsLegal c (later ++ start) → reaped_post c start q j ≡ Some p → effect_by (later ++ start) q j u ≡ Some before
    → effect_by start q j u ≡ Some before
answered_there c later start q j u before p h e f =
    let legal = earlier c later start h in
    let n = completion_queue c q in
    let z = reaped_at c start q j p e in
    let w = head_of c start n z.index (record { queue = q; number = j; post = p }) z.at in
    let y = posting c start n z.index w.0 w.1 in
    let answer = y.answer ∙ w.2 in
    let x : Posting c (later ++ start) n z.index = record {
      later = later ++ y.at.later;
      post = y.at.post;
      before = y.at.before;
      is = ap (λ (l : Past). later ++ l) y.at.is
          ∙ sym (append_assoc later y.at.later (Entry.Post y.at.post ∷ y.at.before));
      count = y.at.count;
      own = y.at.own;
    } in
    let there = effect_at_post c (later ++ start) n z.index q j u before x h
    (ap (λ (a : PostedAnswer). a.queue) answer) (ap (λ (a : PostedAnswer). a.number) answer) f in
    let is : start ≡ (y.at.later ++ (Entry.Post y.at.post ∷ [])) ++ y.at.before =
    y.at.is ∙ sym (append_assoc y.at.later (Entry.Post y.at.post ∷ []) y.at.before) in
    subst (λ (l : Past). effect_by l q j u ≡ Some before) (sym is)
    (by_later c (y.at.later ++ (Entry.Post y.at.post ∷ [])) y.at.before q j u before
    (subst (λ (l : Past). IsLegal c l) is legal) there)

-- in a history that explains a trace, the beginning with the effects of the pair that the trace lacks
pub record Cut (n : Option ℕ) (whole : Past) : Type 0 where
  pub later : Past
  pub start : Past
  pub is : whole ≡ later ++ start
  pub none : (q j u : ℕ) → is_other n q ≡ true → effect_by start q j u ≡ None
  pub all : (q j u : ℕ) (before : Past) → is_other n q ≡ false → effect_by whole q j u ≡ Some before
      → effect_by start q j u ≡ Some before

cut_pair : (c : ConfigNumbers) (n : ℕ) (whole : Past) → is_accepted c ≡ true → IsLegal c whole
    → PairFirst c n whole → Cut (Some n) whole
cut_pair c n whole a h x = record {
  later = x.later;
  start = x.start;
  is = x.is;
  none = λ q j u o. none_unpublished c x.start q j u legal
      (omega (
        arith,
        ap length (published_seen c x.start q
            ∙ (sym (own_published (Some n) (observed c x.start) q o)
            ∙ ap (λ (t : List Seen). published_in t q) x.none)),
      ));
  all = λ q j u before o f. all q j u before (same q (eqb q n) refl o) f x.kept;
}
  where
    whole_legal : IsLegal c (x.later ++ x.start)
    whole_legal = subst (λ (l : Past). IsLegal c l) x.is h

    legal : IsLegal c x.start
    legal = earlier c x.later x.start whole_legal

    same : (q : ℕ) (b : Bool) → eqb q n ≡ b → not b ≡ false → q ≡ n
    same q true e z = eqb-true q n e
    same q false e z = absurd (let f : true ≡ false = z in cc)

    all : (q j u : ℕ) (before : Past) → q ≡ n → effect_by whole q j u ≡ Some before
        → (x.later ≡ [])
        ⊎ ((published_entries whole n ≡ published_entries x.start n)
        × (out_aside (Some n) (observed c x.start) ≡ 0))
        → effect_by x.start q j u ≡ Some before
    all q j u before e f (inl k) =
        subst (λ (l : Past). effect_by l q j u ≡ Some before) (x.is ∙ ap (λ (l : Past). l ++ x.start) k) f
    all q j u before e f (inr k) =
        let at = by_effect whole q j u before f in
        let s = entries_of c whole q j u before at (effect_of c whole q j u before at h) in
        let there : slice_get (published_entries x.start q) j ≡ Some (command (ticket before at.block.ticket) 0) =
        ap (λ (l : List Submission). slice_get l j)
        (ap (published_entries x.start) e ∙ (sym k.0 ∙ ap (published_entries whole) (sym e))) ∙ s.first in
        let answer = all_answered c x.start q j a legal
        (ap (λ (i : ℕ). out_aside (Some i) (observed c x.start)) e ∙ k.1)
        (slice_get_within (published_entries x.start q) j (command (ticket before at.block.ticket) 0) there) in
        answered_there c x.later x.start q j u before answer.0 whole_legal answer.1
        (subst (λ (l : Past). effect_by l q j u ≡ Some before) x.is f)

pub cut : (o : TraceOptions) (c : ConfigNumbers) (whole : Past) → is_accepted c ≡ true → IsLegal c whole
    → comes_first (aside_pair o c) (observed c whole) ≡ true → Cut (aside_pair o c) whole
cut o c whole a h f = by o.contents_unknown f
  where
    by : (b : Bool) → comes_first (cond b (Some c.pairs) None) (observed c whole) ≡ true
        → Cut (cond b (Some c.pairs) None) whole
    by true g = cut_pair c c.pairs whole a h (pair_first c c.pairs whole g)
    by false g = record {
      later = whole;
      start = [];
      is = sym (append-nil whole);
      none = λ q j u z. refl;
      all = λ q j u before z e. absurd (let w : true ≡ false = z in cc);
    }
