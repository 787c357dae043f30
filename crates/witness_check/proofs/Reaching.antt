-- How far the Publishes that came reach in a trace, and which of its lines comes next.
use Rattle.std.proofs.Common.{◌≡◌, ℕ, zero, suc, ◌+◌, ◌*◌, ◌<◌, ◌≤◌, ◌⊎◌, Bool, true, false, cond, List, [], ◌∷◌}
use Rattle.std.proofs.Common.{length, take, Option, Some, None, slice_get, refl, sym, ap, ◌∙◌, subst, arith, inl, inr}
use Rattle.std.proofs.Common.{eqb, ltb-false, nat_lt}
use mathlib.Core.List.{reverse}
use Rattle.std.proofs.lemmas.Bool.{cases_eq, cases_lt, le-ltb, lt-ltb, or_parts}
use Rattle.std.proofs.lemmas.Option.{slice_get_within}
use Rattle.nvme_model.specs.History.{Past}
use Rattle.nvme_model.specs.Legal.{IsLegal}
use Rattle.nvme_model.specs.declared.config.ConfigNumbers.{ConfigNumbers}
use Rattle.nvme_model.specs.declared.entry.Entry.{Entry}
use Rattle.nvme_model.specs.declared.entry.PublishLine.{PublishLine}
use Rattle.nvme_model.proofs.Rules.{follows}
use Rattle.trace.specs.Aside.{is_aside}
use Rattle.trace.specs.Observed.{shown}
use Rattle.trace.specs.declared.seen.Seen.{Seen}
use Rattle.witness_check.specs.Delayed.{EachCame, StandsIn, count, is_reap, lane}
use Rattle.witness_check.specs.Delays.{AreIn, IsLeft, IsNext, IsReach, IsTurned, is_reap_entry, lane_of_entry}
use Rattle.witness_check.specs.Delays.{lane_sought, lanes_of}
use Rattle.witness_check.specs.Lanes.{IsLeftOver, IsNextPlace, places, slot}
use Rattle.witness_check.specs.Turns.{is_aside_entry}
use Rattle.witness_check.proofs.Counting.{count_one_more, count_other, count_own, counts_up, parted_at, place_of_parts}
use Rattle.witness_check.proofs.Placing.{number_own, places_other, slot_none, slot_own}
use Rattle.witness_check.proofs.Queues.{reap_has_queue}
use Rattle.witness_check.proofs.Turns.{one_there, same_pair}

-- ---- lanes with a place of their own

-- a slot is of a lane
pub slot_of : (size l k : ℕ) → 2 ≤ k → slot size l ≡ k → l ≡ k
slot_of size l k some e = elim (cases_lt l size) [
  | inl h ↦ sym (slot_own size l h) ∙ e
  | inr h ↦ absurd (omega (arith, slot_none size l h, e, some))
]

pub number_is_count : (size l : ℕ) (lines : List Seen) → 2 ≤ l → l < size
    → length (places size l lines) ≡ count l lines
number_is_count size l [] some low = refl
number_is_count size l (s ∷ lines) some low =
    let before = number_is_count size l lines some low in
    elim (cases_eq (lane s) l) [
      | inl same ↦
          let here : slot size (lane s) ≡ l = ap (slot size) same ∙ slot_own size l low in
          omega (arith, number_own size l s lines here, count_own l s lines same, before)
      | inr apart ↦
          ap length (places_other size l s lines (λ e. apart (slot_of size (lane s) l some e))) ∙ before
          ∙ sym (count_other l s lines apart)
    ]

-- no line that came has the slot of lanes that have none
none_out : (size k : ℕ) (came : List Seen) → k < 2 → AreIn size came → length (places size k came) ≡ 0
none_out size k [] low h = refl
none_out size k (s ∷ came) low h =
    ap length (places_other size k s came
    (λ e. let w : lane s ≡ k = sym (slot_own size (lane s) h.1) ∙ e in omega (arith, w, h.0, low)))
    ∙ none_out size k came low h.2

none_there : (size l : ℕ) (came : List Seen) → (l < 2) ⊎ (size ≤ l) → AreIn size came → count l came ≡ 0
none_there size l [] out h = refl
none_there size l (s ∷ came) out h =
    count_other l s came (λ e. by e out) ∙ none_there size l came out h.2
  where
    by : lane s ≡ l → (l < 2) ⊎ (size ≤ l) → ⊥
    by e (inl low) = omega (arith, e, low, h.0)
    by e (inr high) = omega (arith, e, high, h.1)

-- ---- what didn't come

module _ (size : ℕ) (trace came : List Seen) (own : AreIn size came) where
  pub left_by_count : (n : ℕ) → IsLeftOver size trace came n → IsLeft trace came n
  left_by_count n h = (h.0, h.1, by (cases_lt (lane h.0) 2) (cases_lt (lane h.0) size))
    where
      by : (lane h.0 < 2) ⊎ (2 ≤ lane h.0) → (lane h.0 < size) ⊎ (size ≤ lane h.0)
          → count (lane h.0) came ≤ count (lane h.0) (reverse (take n trace))
      by (inl low) in_table = omega (arith, none_there size (lane h.0) came (inl low) own)
      by (inr some) (inr high) = omega (arith, none_there size (lane h.0) came (inr high) own)
      by (inr some) (inl low) =
          let at = slot_own size (lane h.0) low in
          let l : length (places size (lane h.0) came) ≤ length (places size (lane h.0) (reverse (take n trace))) =
          subst (λ k. length (places size k came) ≤ length (places size k (reverse (take n trace)))) at h.2 in
          omega (
            arith,
            l,
            number_is_count size (lane h.0) came some low,
            number_is_count size (lane h.0) (reverse (take n trace)) some low,
          )

  pub left_by_number : (n : ℕ) → IsLeft trace came n → IsLeftOver size trace came n
  left_by_number n h = (h.0, h.1, by (cases_lt (lane h.0) 2) (cases_lt (lane h.0) size))
    where
      k : ℕ
      k = slot size (lane h.0)

      by : (lane h.0 < 2) ⊎ (2 ≤ lane h.0) → (lane h.0 < size) ⊎ (size ≤ lane h.0)
          → length (places size k came) ≤ length (places size k (reverse (take n trace)))
      by (inl low) (inl within) =
          omega (arith, none_out size k came (omega (arith, slot_own size (lane h.0) within, low)) own)
      by (inl low) (inr high) =
          omega (arith, none_out size k came (omega (arith, slot_none size (lane h.0) high)) own)
      by (inr some) (inr high) =
          omega (arith, none_out size k came (omega (arith, slot_none size (lane h.0) high)) own)
      by (inr some) (inl low) =
          let at = slot_own size (lane h.0) low in
          subst (λ j. length (places size j came) ≤ length (places size j (reverse (take n trace)))) (sym at)
          (omega (
            arith,
            h.2,
            number_is_count size (lane h.0) came some low,
            number_is_count size (lane h.0) (reverse (take n trace)) some low,
          ))

-- where nothing is left each line came
pub each_came : (trace came : List Seen) → ((n : ℕ) → IsLeft trace came n → ⊥) → EachCame (reverse trace) came
each_came trace came none = λ later before s e.
    let at = place_of_parts trace later before s e in
    elim (cases_lt (count (lane s) before) (count (lane s) came)) [
      | inl below ↦ below
      | inr high ↦ absurd (none (length before)
          (s, at.0, subst (λ (ys : List Seen). count (lane s) came ≤ count (lane s) ys) (sym at.1) high))
    ]

-- ---- the line that comes next

pub next_none : (size : ℕ) (trace came : List Seen) (l : ℕ) → 2 ≤ l → l < size
    → IsNextPlace size trace came (slot size l) None → IsNext trace came l (length trace) None
next_none size trace came l some low h = (
  refl,
  sym (number_is_count size l (reverse trace) some low)
      ∙ subst (λ k. length (places size k (reverse trace)) ≡ length (places size k came)) (slot_own size l low) h
      ∙ number_is_count size l came some low,
)

pub next_some : (size : ℕ) (trace came : List Seen) (l p : ℕ) → 2 ≤ l → l < size
    → (h : IsNextPlace size trace came (slot size l) (Some p)) → IsNext trace came l p (Some h.0)
next_some size trace came l p some low h =
    let own = slot_own size l low in
    let same : lane h.0 ≡ l = slot_of size (lane h.0) l some (h.2 ∙ own) in (
      h.1,
      same,
      sym (number_is_count size l (reverse (take p trace)) some low)
          ∙ subst (λ k. length (places size k (reverse (take p trace))) ≡ length (places size k came)) own h.3
          ∙ number_is_count size l came some low,
    )

-- it stands in the trace, where it isn't turned
pub stands_next : (trace came : List Seen) (reach p : ℕ) (t : Seen) → IsReach trace came reach
    → IsNext trace came (lane t) p (Some t) → (is_reap t ≡ true → reach ≤ p) → StandsIn (reverse trace) came t
stands_next trace came reach p t r h behind =
    let w = parted_at trace p t h.0 in (
      w.0,
      reverse (take p trace),
      w.1,
      h.2,
      λ is q. omega (arith, r.has q, counts_up (2 * q) trace reach p (behind is)),
    )

-- ---- how far the Publishes reach

pub turned_before : (trace came : List Seen) (reach p : ℕ) → IsReach trace came reach → p < reach
    → IsTurned trace came p
turned_before trace came reach p r low = by r.least
  where
    by : (reach ≡ 0) ⊎ ((q : ℕ) × ((m : ℕ) → m < reach
        → count (2 * q) (reverse (take m trace)) < count (2 * q) came)) → IsTurned trace came p
    by (inl e) = absurd (omega (arith, e, low))
    by (inr h) = (h.0, h.1 p low)

pub not_turned : (trace came : List Seen) (reach p : ℕ) → IsReach trace came reach → reach ≤ p
    → IsTurned trace came p → ⊥
not_turned trace came reach p r behind h =
    omega (arith, h.1, r.has h.0, counts_up (2 * h.0) trace reach p behind)

pub reach_none : (trace : List Seen) → IsReach trace [] 0
reach_none trace = record { low = omega arith; has = λ q. omega arith; least = inl refl }

-- a Reap more
pub reach_reap : (trace came : List Seen) (reach : ℕ) (t : Seen) → IsReach trace came reach → is_reap t ≡ true
    → IsReach trace (t ∷ came) reach
reach_reap trace came reach (Seen.Published t) r is = absurd (let w : false ≡ true = is in cc)
reach_reap trace came reach (Seen.Reaped t) r is =
    record { low = r.low; has = λ q. omega (arith, same q, r.has q); least = by r.least }
  where
    same : (q : ℕ) → count (2 * q) (Seen.Reaped t ∷ came) ≡ count (2 * q) came
    same q = count_other (2 * q) (Seen.Reaped t) came (λ e. let w : 2 * t.queue + 1 ≡ 2 * q = e in omega (arith, w))

    by : (reach ≡ 0) ⊎ ((q : ℕ) × ((m : ℕ) → m < reach
        → count (2 * q) (reverse (take m trace)) < count (2 * q) came))
        → (reach ≡ 0) ⊎ ((q : ℕ) × ((m : ℕ) → m < reach
        → count (2 * q) (reverse (take m trace)) < count (2 * q) (Seen.Reaped t ∷ came)))
    by (inl e) = inl e
    by (inr h) = inr (h.0, λ m l. omega (arith, h.1 m l, same h.0))

-- a Publish more
module _ (trace came : List Seen) (reach p : ℕ) (x : PublishLine) (r : IsReach trace came reach)
    (at : slice_get trace p ≡ Some (Seen.Published x))
    (n : count (2 * x.queue) (reverse (take p trace)) ≡ count (2 * x.queue) came) where
  abbrev this : Seen
  this = Seen.Published x

  reaches : (far q : ℕ) → p < far → reach ≤ far → count (2 * q) (this ∷ came) ≤ count (2 * q) (reverse (take far trace))
  reaches far q low more = elim (cases_eq (2 * x.queue) (2 * q)) [
    | inl same ↦
        let here : count (2 * q) (reverse (take (p + 1) trace)) ≡ count (2 * q) (reverse (take p trace)) + 1 =
        ap (count (2 * q)) (one_there trace p this at) ∙ count_own (2 * q) this (reverse (take p trace)) same in
        let m : count (2 * q) (reverse (take p trace)) ≡ count (2 * q) came =
        subst (λ l. count l (reverse (take p trace)) ≡ count l came) same n in
        omega (
          arith,
          count_own (2 * q) this came same,
          here,
          m,
          counts_up (2 * q) trace (p + 1) far (omega (arith, low)),
        )
    | inr apart ↦ omega (
      arith,
      count_other (2 * q) this came apart,
      r.has q,
      counts_up (2 * q) trace reach far more,
    )
  ]

  pub reach_publish : IsReach trace (this ∷ came) (cond (nat_lt p reach) reach (p + 1))
  reach_publish = elim (cases_lt p reach) [
    | inl low ↦ subst (λ (b : Bool). IsReach trace (this ∷ came) (cond b reach (p + 1))) (sym (lt-ltb p reach low))
        (record { low = r.low; has = λ q. reaches reach q low (omega arith); least = longer low r.least })
    | inr high ↦ subst (λ (b : Bool). IsReach trace (this ∷ came) (cond b reach (p + 1))) (sym (le-ltb p reach high))
        (record {
          low = omega (arith, slice_get_within trace p this at);
          has = λ q. reaches (p + 1) q (omega arith) (omega (arith, high));
          least = inr (
            x.queue,
            λ m l. omega (
              arith,
              counts_up (2 * x.queue) trace m p (omega (arith, l)),
              n,
              count_own (2 * x.queue) this came refl,
            ),
          );
        })
  ]
    where
      longer : p < reach → (reach ≡ 0) ⊎ ((q : ℕ) × ((m : ℕ) → m < reach
          → count (2 * q) (reverse (take m trace)) < count (2 * q) came))
          → (reach ≡ 0) ⊎ ((q : ℕ) × ((m : ℕ) → m < reach
          → count (2 * q) (reverse (take m trace)) < count (2 * q) (this ∷ came)))
      longer low (inl e) = inl e
      longer low (inr h) = inr (h.0, λ m l. omega (arith, h.1 m l, count_one_more (2 * h.0) this came))

-- ---- what hosts see of an entry

none : (b : Bool) → cond b None None ≡ let o : Option ℕ = None in o
none true = refl
none false = refl

pub none_shown : (a : Option ℕ) (c : ConfigNumbers) (past : Past) (e : Entry) → shown c past e ≡ None
    → lane_sought a e ≡ None
none_shown a c past (Entry.Publish p) h = absurd (let w : Some (Seen.Published p) ≡ None = h in cc)
none_shown a c past (Entry.Reap r) h =
    absurd (let w : shown c past (Entry.Reap r) ≡ None = h in cc)
none_shown a c past (Entry.Fetch f) h = none (is_aside_entry a (Entry.Fetch f))
none_shown a c past (Entry.Grant g) h = none (is_aside_entry a (Entry.Grant g))
none_shown a c past (Entry.Block b) h = none (is_aside_entry a (Entry.Block b))
none_shown a c past (Entry.Post p) h = none (is_aside_entry a (Entry.Post p))

pub aside_shown : (a : Option ℕ) (c : ConfigNumbers) (past : Past) (e : Entry) (s : Seen) → shown c past e ≡ Some s
    → is_aside a s ≡ true → lane_sought a e ≡ None
aside_shown a c past e s is h =
    ap (λ b. cond b None (lane_of_entry e)) (sym (same_pair a c past e 0 s is).0 ∙ h)

pub same_some : (u v : Seen) → Some u ≡ Some v → u ≡ v
same_some u v e = cc

-- the lane and the kind of what is seen of an entry
shown_lane : (c : ConfigNumbers) (past : Past) (e : Entry) (s : Seen) → shown c past e ≡ Some s
    → (lane_of_entry e ≡ Some (lane s)) × (is_reap_entry e ≡ is_reap s)
shown_lane c past (Entry.Publish p) s h =
    let w : Seen.Published p ≡ s = (let v : Some (Seen.Published p) ≡ Some s = h in cc) in
    subst (λ (y : Seen). (lane_of_entry (Entry.Publish p) ≡ Some (lane y))
    × (is_reap_entry (Entry.Publish p) ≡ is_reap y)) w (refl, refl)
shown_lane c past (Entry.Reap r) s h = by s h
  where
    by : (y : Seen) → shown c past (Entry.Reap r) ≡ Some y
        → (lane_of_entry (Entry.Reap r) ≡ Some (lane y)) × (is_reap_entry (Entry.Reap r) ≡ is_reap y)
    by y h =
        subst (λ (y : Seen). (lane_of_entry (Entry.Reap r) ≡ Some (lane y))
        × (is_reap_entry (Entry.Reap r) ≡ is_reap y)) (same_some _ y h) (refl, refl)
shown_lane c past (Entry.Fetch f) s h = absurd (let w : None ≡ Some s = h in cc)
shown_lane c past (Entry.Grant g) s h = absurd (let w : None ≡ Some s = h in cc)
shown_lane c past (Entry.Block b) s h = absurd (let w : None ≡ Some s = h in cc)
shown_lane c past (Entry.Post p) s h = absurd (let w : None ≡ Some s = h in cc)

pub own_shown : (a : Option ℕ) (c : ConfigNumbers) (past : Past) (e : Entry) (s : Seen) → shown c past e ≡ Some s
    → is_aside a s ≡ false → (lane_sought a e ≡ Some (lane s)) × (is_reap_entry e ≡ is_reap s)
own_shown a c past e s is h =
    let w = shown_lane c past e s is in
    (ap (λ b. cond b None (lane_of_entry e)) (sym (same_pair a c past e 0 s is).0 ∙ h) ∙ w.0, w.1)

-- of a legal one it is one of those that there are
pub lane_is_there : (c : ConfigNumbers) (past : Past) (e : Entry) (s : Seen) → IsLegal c (e ∷ past)
    → shown c past e ≡ Some s → (2 ≤ lane s) × (lane s < lanes_of c)
lane_is_there c past e s h is = by e h (shown_lane c past e s is).0
  where
    enough : (2 * c.pairs + 2 ≤ lanes_of c) × (2 * c.cqs + 2 ≤ lanes_of c)
    enough = elim (cases_lt c.pairs c.cqs) [
      | inl l ↦
          let w : lanes_of c ≡ 2 * c.cqs + 2 = ap (λ b. cond b (2 * c.cqs) (2 * c.pairs) + 2) (lt-ltb c.pairs c.cqs l)
          in
          (omega (arith, w, l), omega (arith, w))
      | inr l ↦
          let w : lanes_of c ≡ 2 * c.pairs + 2 =
          ap (λ b. cond b (2 * c.cqs) (2 * c.pairs) + 2) (le-ltb c.pairs c.cqs l) in
          (omega (arith, w), omega (arith, w, l))
    ]

    one : (q : ℕ) → eqb q 0 ≡ false → 1 ≤ q
    one zero e = absurd (let f : true ≡ false = e in cc)
    one (suc q) e = omega arith

    by : (e : Entry) → IsLegal c (e ∷ past) → lane_of_entry e ≡ Some (lane s) → (2 ≤ lane s) × (lane s < lanes_of c)
    by (Entry.Publish p) h is =
        let l : lane s ≡ 2 * p.queue = (let v : Some (2 * p.queue) ≡ Some (lane s) = is in cc) in
        let q = or_parts (eqb p.queue 0) (nat_lt c.pairs p.queue) (follows c past (Entry.Publish p) h).allowed.0 in
        (omega (arith, l, one p.queue q.0), omega (arith, l, ltb-false _ _ q.1, enough.0))
    by (Entry.Reap r) h is =
        let l : lane s ≡ 2 * r.queue + 1 = (let v : Some (2 * r.queue + 1) ≡ Some (lane s) = is in cc) in
        let q = reap_has_queue c past r h in
        (omega (arith, l, q.low), omega (arith, l, q.high, enough.1))
    by (Entry.Fetch f) h is = absurd (let w : None ≡ Some (lane s) = is in cc)
    by (Entry.Grant g) h is = absurd (let w : None ≡ Some (lane s) = is in cc)
    by (Entry.Block b) h is = absurd (let w : None ≡ Some (lane s) = is in cc)
    by (Entry.Post p) h is = absurd (let w : None ≡ Some (lane s) = is in cc)
