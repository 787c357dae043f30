-- The places of a trace's lines that wait, by slot.
use Rattle.std.proofs.Common.{◌≡◌, ◌≢◌, ℕ, zero, suc, ◌+◌, ◌<◌, ◌≤◌, ◌⊎◌, Bool, true, false, cond, List, [], ◌∷◌, ◌++◌}
use Rattle.std.proofs.Common.{drop, get_or, length, replicate, set, take, Option, Some, None, slice_get, refl, sym, ap}
use Rattle.std.proofs.Common.{◌∙◌, subst, arith, inl, inr, eq-eqb, ne_eqb, length-append, nat_lt}
use mathlib.Core.List.{reverse}
use Rattle.std.proofs.lemmas.Bool.{cases_eq, cases_lt, lt-ltb, le-ltb}
use Rattle.std.proofs.lemmas.List.{drop-append-le, length-reverse, length-take-le, take_all}
use Rattle.std.proofs.lemmas.Option.{slice_get_past, slice_get_within}
use Rattle.rings.specs.Tables.{IsTable}
use Rattle.rings.proofs.Tables.{IsTable-replicate, IsTable-set}
use Rattle.trace.specs.declared.seen.Seen.{Seen}
use Rattle.witness_check.specs.Delayed.{lane}
use Rattle.witness_check.specs.Lanes.{AreLanes, IsFirstLeft, IsLeftOver, IsNextPlace, IsSought, LanesRun, earlier_of}
use Rattle.witness_check.specs.Lanes.{places, slot}
use Rattle.witness_check.proofs.Counting.{later_of}
use Rattle.witness_check.proofs.Turns.{one_there}

-- ---- lists of places

drop_next : (u : ℕ) (xs : List ℕ) → drop (suc u) xs ≡ drop 1 (drop u xs)
drop_next zero xs = refl
drop_next (suc u) [] = refl
drop_next (suc u) (x ∷ xs) = drop_next u xs

pub front_of : (u : ℕ) (xs : List ℕ) → slice_get (drop u xs) 0 ≡ slice_get xs u
front_of zero xs = refl
front_of (suc u) [] = refl
front_of (suc u) (x ∷ xs) = front_of u xs

get_last : (ps : List ℕ) (x j p : ℕ) → slice_get (ps ++ x ∷ []) j ≡ Some p
    → (slice_get ps j ≡ Some p) ⊎ ((j ≡ length ps) × (p ≡ x))
get_last [] x zero p e = inr (refl, (let w : Some x ≡ Some p = e in cc))
get_last [] x (suc j) p e = absurd (let w : None ≡ Some p = e in cc)
get_last (y ∷ ps) x zero p e = inl e
get_last (y ∷ ps) x (suc j) p e = by (get_last ps x j p e)
  where
    by : (slice_get ps j ≡ Some p) ⊎ ((j ≡ length ps) × (p ≡ x))
        → (slice_get ps j ≡ Some p) ⊎ ((suc j ≡ length (y ∷ ps)) × (p ≡ x))
    by (inl h) = inl h
    by (inr h) = inr (ap suc h.0, h.1)

there : (xs : List Seen) (n : ℕ) → n < length xs → (t : Seen) × (slice_get xs n ≡ Some t)
there [] n l = absurd (omega (arith, l))
there (x ∷ xs) zero l = (x, refl)
there (x ∷ xs) (suc n) l = there xs n (omega (arith, l))

get_there : (ps : List ℕ) (u : ℕ) → u < length ps → (f : ℕ) × (slice_get ps u ≡ Some f)
get_there [] u l = absurd (omega (arith, l))
get_there (p ∷ ps) zero l = (p, refl)
get_there (p ∷ ps) (suc u) l = get_there ps u (omega (arith, l))

module _ (size : ℕ) where
  -- ---- slots

  pub slot_own : (l : ℕ) → l < size → slot size l ≡ l
  slot_own l h = ap (λ b. cond b l 0) (lt-ltb l size h)

  pub slot_none : (l : ℕ) → size ≤ l → slot size l ≡ 0
  slot_none l h = ap (λ b. cond b l 0) (le-ltb l size h)

  pub slot_below : (l : ℕ) → 0 < size → slot size l < size
  slot_below l some = elim (cases_lt l size) [
    | inl h ↦ omega (arith, slot_own l h, h)
    | inr h ↦ omega (arith, slot_none l h, some)
  ]

  -- ---- one line more

  -- how many places there are
  abbrev pub number : ℕ → List Seen → ℕ
  number k lines = length (places size k lines)

  pub places_own : (k : ℕ) (s : Seen) (lines : List Seen) → slot size (lane s) ≡ k
      → places size k (s ∷ lines) ≡ places size k lines ++ length lines ∷ []
  places_own k s lines e =
      ap (λ b. cond b (places size k lines ++ length lines ∷ []) (places size k lines)) (eq-eqb _ _ e)

  pub places_other : (k : ℕ) (s : Seen) (lines : List Seen) → slot size (lane s) ≢ k
      → places size k (s ∷ lines) ≡ places size k lines
  places_other k s lines n =
      ap (λ b. cond b (places size k lines ++ length lines ∷ []) (places size k lines)) (ne_eqb _ _ n)

  pub number_own : (k : ℕ) (s : Seen) (lines : List Seen) → slot size (lane s) ≡ k
      → number k (s ∷ lines) ≡ number k lines + 1
  number_own k s lines e =
      ap length (places_own k s lines e) ∙ length-append (places size k lines) (length lines ∷ [])

  pub number_more : (k : ℕ) (s : Seen) (lines : List Seen) → number k lines ≤ number k (s ∷ lines)
  number_more k s lines = elim (cases_eq (slot size (lane s)) k) [
    | inl same ↦ omega (arith, number_own k s lines same)
    | inr apart ↦ omega (arith, ap length (places_other k s lines apart))
  ]

  numbers_more : (k : ℕ) (more lines : List Seen) → number k lines ≤ number k (more ++ lines)
  numbers_more k [] lines = omega arith
  numbers_more k (s ∷ more) lines = omega (arith, numbers_more k more lines, number_more k s (more ++ lines))

  module _ (xs : List Seen) where
    -- of the first lines of a trace
    abbrev pub first : ℕ → List Seen
    first n = reverse (take n xs)

    pub numbers_up : (k n m : ℕ) → n ≤ m → number k (first n) ≤ number k (first m)
    numbers_up k n m low =
        let w = later_of xs n m low in
        subst (λ (ys : List Seen). number k (first n) ≤ number k ys) (sym w.1) (numbers_more k w.0 (first n))

    first_long : (n : ℕ) → n ≤ length xs → length (first n) ≡ n
    first_long n l = length-reverse (take n xs) ∙ length-take-le n xs l

    -- what stands at a place of them
    abbrev pub IsAt : ℕ → ℕ → ℕ → Type 0
    IsAt k j p =
        (t : Seen) × (slice_get xs p ≡ Some t) × (slot size (lane t) ≡ k) × (number k (first p) ≡ j)

    pub placed : (k n j p : ℕ) → n ≤ length xs → slice_get (places size k (first n)) j ≡ Some p → IsAt k j p
    placed k zero j p l e = absurd (let w : None ≡ Some p = sym (slice_get_past [] j (omega arith)) ∙ e in cc)
    placed k (suc n) j p l e =
        let w = there xs n (omega (arith, l)) in
        let more : suc n ≡ n + 1 = omega arith in
        let is : first (suc n) ≡ w.0 ∷ first n =
        ap (λ m. reverse (take m xs)) more ∙ one_there xs n w.0 w.1 in
        by (placed k n j p low) w.0 w.1 (subst (λ (ys : List Seen). slice_get (places size k ys) j ≡ Some p) is e)
        (cases_eq (slot size (lane w.0)) k)
      where
        low : n ≤ length xs
        low = omega (arith, l)

        by : (slice_get (places size k (first n)) j ≡ Some p → IsAt k j p) → (t : Seen) → slice_get xs n ≡ Some t
            → slice_get (places size k (t ∷ first n)) j ≡ Some p
            → (slot size (lane t) ≡ k) ⊎ (slot size (lane t) ≢ k) → IsAt k j p
        by before t at f (inr apart) =
            before (subst (λ (ps : List ℕ). slice_get ps j ≡ Some p) (places_other k t (first n) apart) f)
        by before t at f (inl same) =
            last (get_last (places size k (first n)) (length (first n)) j p
            (subst (λ (ps : List ℕ). slice_get ps j ≡ Some p) (places_own k t (first n) same) f))
          where
            last : (slice_get (places size k (first n)) j ≡ Some p)
                ⊎ ((j ≡ number k (first n)) × (p ≡ length (first n))) → IsAt k j p
            last (inl h) = before h
            last (inr h) =
                let here : n ≡ p = sym (h.1 ∙ first_long n low) in
                subst (λ m. IsAt k j m) here (t, at, same, sym h.0)

    -- the number of a line grows behind it
    pub number_behind : (k p m : ℕ) (t : Seen) → slice_get xs p ≡ Some t → slot size (lane t) ≡ k → p < m
        → number k (first p) < number k (first m)
    number_behind k p m t at same l =
        omega (
          arith,
          numbers_up k (p + 1) m (omega (arith, l)),
          ap (number k) (one_there xs p t at),
          number_own k t (first p) same,
        )

-- ---- what is kept

-- of no line
pub lanes_none : (size : ℕ) (trace : List Seen) (ws : List (List ℕ)) → ws ≡ replicate size []
    → AreLanes size trace [] (record { waiting = ws; read = 0 })
lanes_none size trace ws is =
    record {
      within = omega arith;
      waits = IsTable-replicate (λ k. drop 0 (places size k (reverse (take 0 trace)))) size [] ws is (λ k. refl);
      few = λ k low. omega arith;
    }

module _ (size : ℕ) (trace came : List Seen) (x : LanesRun) (some : 0 < size) (h : AreLanes size trace came x) where
  abbrev read_lines : List Seen
  read_lines = reverse (take x.read trace)

  abbrev left_at : ℕ → List ℕ
  left_at k = drop (number size k came) (places size k read_lines)

  -- one line more is read
  pub read_more : (t : Seen) (i : ℕ) (us : List (List ℕ)) → slice_get trace x.read ≡ Some t
      → i ≡ slot size (lane t) → us ≡ set x.waiting i (get_or x.waiting i [] ++ x.read ∷ [])
      → AreLanes size trace came (record { waiting = us; read = x.read + 1 })
  read_more t i us at place is =
      record {
        within = omega (arith, slice_get_within trace x.read t at);
        waits = subst (λ (vs : List (List ℕ)). IsTable g size vs) (sym is)
            (IsTable-set left_at g size i x.waiting (get_or x.waiting i [] ++ x.read ∷ []) h.waits low own others);
        few = λ k below.
            let up : number size k read_lines ≤ number size k (reverse (take (x.read + 1) trace)) =
            numbers_up size trace k x.read (x.read + 1) (omega arith) in
            omega (arith, h.few k below, up);
      }
    where
      g : ℕ → List ℕ
      g k = drop (number size k came) (places size k (reverse (take (x.read + 1) trace)))

      low : i < size
      low = omega (arith, place, slot_below size (lane t) some)

      more : reverse (take (x.read + 1) trace) ≡ t ∷ read_lines
      more = one_there trace x.read t at

      long : length read_lines ≡ x.read
      long = length-reverse (take x.read trace) ∙ length-take-le x.read trace h.within

      own : get_or x.waiting i [] ++ x.read ∷ [] ≡ g i
      own =
          ap (λ (ps : List ℕ). ps ++ x.read ∷ []) (h.waits.at i [] low)
          ∙ ap (λ n. left_at i ++ n ∷ []) (sym long)
          ∙ sym (drop-append-le (number size i came) (places size i read_lines) (length read_lines ∷ []) (h.few i low))
          ∙ ap (drop (number size i came)) (sym (places_own size i t read_lines (sym place)))
          ∙ ap (λ (ys : List Seen). drop (number size i came) (places size i ys)) (sym more)

      others : (k : ℕ) → k ≢ i → g k ≡ left_at k
      others k apart =
          ap (λ (ys : List Seen). drop (number size k came) (places size k ys)) more
          ∙ ap (drop (number size k came)) (places_other size k t read_lines (λ e. apart (sym e ∙ sym place)))

  -- the first place of a lane
  pub first_waits : (k p : ℕ) → k < size → slice_get (get_or x.waiting k []) 0 ≡ Some p
      → slice_get (places size k read_lines) (number size k came) ≡ Some p
  first_waits k p low e =
      sym (front_of (number size k came) (places size k read_lines))
      ∙ ap (λ (ps : List ℕ). slice_get ps 0) (sym (h.waits.at k [] low)) ∙ e

  -- is that of the line that comes next
  pub next_place : (k p : ℕ) → k < size → slice_get (get_or x.waiting k []) 0 ≡ Some p
      → IsNextPlace size trace came k (Some p)
  next_place k p low e = placed size trace k x.read (number size k came) p h.within (first_waits k p low e)

  -- none waits of all lines
  pub no_place_left : (k : ℕ) → k < size → slice_get (get_or x.waiting k []) 0 ≡ None → x.read ≡ length trace
      → IsNextPlace size trace came k None
  no_place_left k low e all = by (cases_lt (number size k came) (number size k read_lines))
    where
      whole : reverse (take x.read trace) ≡ reverse trace
      whole = ap reverse (take_all x.read trace (omega (arith, all)))

      by : (number size k came < number size k read_lines) ⊎ (number size k read_lines ≤ number size k came)
          → number size k (reverse trace) ≡ number size k came
      by (inl l) =
          let f = get_there (places size k read_lines) (number size k came) l in
          let w : None ≡ Some f.0 =
          sym e ∙ ap (λ (ps : List ℕ). slice_get ps 0) (h.waits.at k [] low)
          ∙ front_of (number size k came) (places size k read_lines) ∙ f.1 in
          absurd (let v : None ≡ Some f.0 = w in cc)
      by (inr l) = omega (arith, l, h.few k low, ap (number size k) whole)

  -- it came
  pub came_more : (t : Seen) (k p : ℕ) (us : List (List ℕ)) → k < size → slot size (lane t) ≡ k
      → slice_get (get_or x.waiting k []) 0 ≡ Some p → us ≡ set x.waiting k (drop 1 (get_or x.waiting k []))
      → AreLanes size trace (t ∷ came) (record { waiting = us; read = x.read })
  came_more t k p us low same e is =
      record {
        within = h.within;
        waits = subst (λ (vs : List (List ℕ)). IsTable g size vs) (sym is)
            (IsTable-set left_at g size k x.waiting (drop 1 (get_or x.waiting k [])) h.waits low own others);
        few = λ j below. elim (cases_eq j k) [
          | inl is ↦
              let w = slice_get_within (places size k read_lines) (number size k came) p (first_waits k p low e) in
              subst (λ m. number size m (t ∷ came) ≤ number size m read_lines) (sym is)
              (omega (arith, w, number_own size k t came same))
          | inr apart ↦
              omega (arith, h.few j below, ap length (places_other size j t came (λ f. apart (sym f ∙ same))))
        ];
      }
    where
      g : ℕ → List ℕ
      g j = drop (number size j (t ∷ came)) (places size j read_lines)

      own : drop 1 (get_or x.waiting k []) ≡ g k
      own =
          let more : suc (number size k came) ≡ number size k (t ∷ came) =
          omega (arith, number_own size k t came same) in
          ap (drop 1) (h.waits.at k [] low) ∙ sym (drop_next (number size k came) (places size k read_lines))
          ∙ ap (λ n. drop n (places size k read_lines)) more

      others : (j : ℕ) → j ≢ k → g j ≡ left_at j
      others j apart =
          ap (λ (ps : List ℕ). drop (length ps) (places size j read_lines))
          (places_other size j t came (λ f. apart (sym f ∙ same)))

  -- what is found of a lane
  pub sought : (l k : ℕ) (p : Option ℕ) (us : List (List ℕ)) → k ≡ slot size l
      → (slice_get (get_or x.waiting k []) 0 ≡ None → x.read ≡ length trace)
      → p ≡ slice_get (get_or x.waiting k []) 0 → us ≡ set x.waiting k (drop 1 (get_or x.waiting k []))
      → IsSought size trace came (Some l) p (record { waiting = us; read = x.read })
  sought l k None us at all e is = (
    subst (λ j. IsNextPlace size trace came j None) at (no_place_left k below (sym e) (all (sym e))),
    λ t some same. absurd (some refl),
  )
    where
      below : k < size
      below = omega (arith, at, slot_below size l some)
  sought l k (Some p) us at all e is = (
    subst (λ j. IsNextPlace size trace came j (Some p)) at (next_place k p below (sym e)),
    λ t some same. came_more t k p us below (same ∙ sym at) (sym e) is,
  )
    where
      below : k < size
      below = omega (arith, at, slot_below size l some)

  -- ---- what didn't come

  -- what was read and didn't come waits behind the first of its slot
  pub left_waits : (m : ℕ) → m < x.read → IsLeftOver size trace came m
      → (k f : ℕ) × (k < size) × (slice_get (get_or x.waiting k []) 0 ≡ Some f) × (f ≤ m)
  left_waits m read left =
      let k = slot size (lane left.0) in
      let low : k < size = slot_below size (lane left.0) some in
      let behind = number_behind size trace k m x.read left.0 left.1 refl read in
      let f = get_there (places size k read_lines) (number size k came) (omega (arith, behind, left.2)) in
      let front : slice_get (get_or x.waiting k []) 0 ≡ Some f.0 =
      ap (λ (ps : List ℕ). slice_get ps 0) (h.waits.at k [] low)
      ∙ front_of (number size k came) (places size k read_lines) ∙ f.1 in
      let at = placed size trace k x.read (number size k came) f.0 h.within f.1 in (
        k,
        f.0,
        low,
        front,
        elim (cases_lt m f.0) [
          | inl high ↦
              absurd (omega (arith, number_behind size trace k m f.0 left.0 left.1 refl high, at.3, left.2))
          | inr below ↦ below
        ],
      )

-- ---- the first that is left

-- a place that may be the first: that of the line that is read next, or one that waits first at a slot below n
abbrev pub MayBeFirst : List Seen → LanesRun → ℕ → ℕ → Type 0
MayBeFirst trace x n p =
    ((p ≡ x.read) × (x.read < length trace))
    ⊎ ((k : ℕ) × (k < n) × (slice_get (get_or x.waiting k []) 0 ≡ Some p))

-- the least of these
pub record IsLeast (trace : List Seen) (x : LanesRun) (n : ℕ) (first : Option ℕ) : Type 0 where
  pub one : (p : ℕ) → first ≡ Some p → MayBeFirst trace x n p
  pub least : (p : ℕ) → MayBeFirst trace x n p → (m : ℕ) × (first ≡ Some m) × (m ≤ p)

pub least_unread : (trace : List Seen) (x : LanesRun) → x.read < length trace → IsLeast trace x 0 (Some x.read)
least_unread trace x l =
    record {
      one = λ p e. inl (sym (let w : Some x.read ≡ Some p = e in cc), l);
      least = λ p c. by p c;
    }
  where
    by : (p : ℕ) → MayBeFirst trace x 0 p → (m : ℕ) × (Some x.read ≡ Some m) × (m ≤ p)
    by p (inl h) = (x.read, refl, omega (arith, h.0))
    by p (inr h) = absurd (omega (arith, h.1))

pub least_none : (trace : List Seen) (x : LanesRun) → length trace ≤ x.read → IsLeast trace x 0 None
least_none trace x l =
    record { one = λ p e. absurd (let w : None ≡ Some p = e in cc); least = λ p c. by p c }
  where
    by : (p : ℕ) → MayBeFirst trace x 0 p → (m : ℕ) × (None ≡ Some m) × (m ≤ p)
    by p (inl h) = absurd (omega (arith, h.1, l))
    by p (inr h) = absurd (omega (arith, h.1))

earlier_one : (a b : Option ℕ) (p : ℕ) → earlier_of a b ≡ Some p → (a ≡ Some p) ⊎ (b ≡ Some p)
earlier_one None b p e = inr e
earlier_one (Some a) None p e = inl e
earlier_one (Some a) (Some b) p e = by (nat_lt b a) e
  where
    by : (c : Bool) → cond c (Some b) (Some a) ≡ Some p → (Some a ≡ Some p) ⊎ (Some b ≡ Some p)
    by true e = inr e
    by false e = inl e

earlier_left : (a : ℕ) (b : Option ℕ) → (m : ℕ) × (earlier_of (Some a) b ≡ Some m) × (m ≤ a)
earlier_left a None = (a, refl, omega arith)
earlier_left a (Some b) = elim (cases_lt b a) [
  | inl l ↦ (b, ap (λ c. cond c (Some b) (Some a)) (lt-ltb b a l), omega (arith, l))
  | inr l ↦ (a, ap (λ c. cond c (Some b) (Some a)) (le-ltb b a l), omega arith)
]

earlier_right : (a : Option ℕ) (b : ℕ) → (m : ℕ) × (earlier_of a (Some b) ≡ Some m) × (m ≤ b)
earlier_right None b = (b, refl, omega arith)
earlier_right (Some a) b = elim (cases_lt b a) [
  | inl l ↦ (b, ap (λ c. cond c (Some b) (Some a)) (lt-ltb b a l), omega arith)
  | inr l ↦ (a, ap (λ c. cond c (Some b) (Some a)) (le-ltb b a l), l)
]

pub least_next : (trace : List Seen) (x : LanesRun) (n : ℕ) (first next : Option ℕ) → IsLeast trace x n first
    → next ≡ earlier_of first (slice_get (get_or x.waiting n []) 0) → IsLeast trace x (n + 1) next
least_next trace x n first next h is =
    record {
      one = λ p e. by p (earlier_one first here p (sym is ∙ e));
      least = λ p c. of_each p c;
    }
  where
    here : Option ℕ
    here = slice_get (get_or x.waiting n []) 0

    wider : (p : ℕ) → MayBeFirst trace x n p → MayBeFirst trace x (n + 1) p
    wider p (inl c) = inl c
    wider p (inr c) = inr (c.0, omega (arith, c.1), c.2)

    by : (p : ℕ) → (first ≡ Some p) ⊎ (here ≡ Some p) → MayBeFirst trace x (n + 1) p
    by p (inl e) = wider p (h.one p e)
    by p (inr e) = inr (n, omega arith, e)

    of_first : (p m : ℕ) → first ≡ Some m → m ≤ p → (j : ℕ) × (next ≡ Some j) × (j ≤ p)
    of_first p m e l =
        let w = earlier_left m here in
        (w.0, is ∙ ap (λ o. earlier_of o here) e ∙ w.1, omega (arith, w.2, l))

    of_each : (p : ℕ) → MayBeFirst trace x (n + 1) p → (j : ℕ) × (next ≡ Some j) × (j ≤ p)
    of_each p (inl c) = let w = h.least p (inl c) in of_first p w.0 w.1 w.2
    of_each p (inr c) = elim (cases_lt c.0 n) [
      | inl below ↦ let w = h.least p (inr (c.0, below, c.2)) in of_first p w.0 w.1 w.2
      | inr above ↦
          let same : c.0 ≡ n = omega (arith, c.1, above) in
          let e : here ≡ Some p = ap (λ k. slice_get (get_or x.waiting k []) 0) (sym same) ∙ c.2 in
          let w = earlier_right first p in
          (w.0, is ∙ ap (earlier_of first) e ∙ w.1, w.2)
    ]

module _ (size : ℕ) (trace came : List Seen) (x : LanesRun) (some : 0 < size) (h : AreLanes size trace came x) where
  -- one that may be first didn't come
  first_is_left : (p : ℕ) → MayBeFirst trace x size p → IsLeftOver size trace came p
  first_is_left p (inl c) =
      let t = there trace p (omega (arith, c.0, c.1)) in
      let k = slot size (lane t.0) in
      let low : k < size = slot_below size (lane t.0) some in
      (t.0, t.1, subst (λ m. number size k came ≤ number size k (reverse (take m trace))) (sym c.0) (h.few k low))
  first_is_left p (inr c) =
      let at = next_place size trace came x some h c.0 p c.1 c.2 in
      let w : number size c.0 came ≤ number size c.0 (reverse (take p trace)) = omega (arith, at.3) in (
        at.0,
        at.1,
        subst (λ k. number size k came ≤ number size k (reverse (take p trace))) (sym at.2) w,
      )

  -- and what didn't come isn't before each of them
  left_is_behind : (m : ℕ) → IsLeftOver size trace came m → (p : ℕ) × MayBeFirst trace x size p × (p ≤ m)
  left_is_behind m left = elim (cases_lt m x.read) [
    | inl read ↦
        let w = left_waits size trace came x some h m read left in
        (w.1, inr (w.0, w.2, w.3), w.4)
    | inr later ↦
        let low = slice_get_within trace m left.0 left.1 in
        (x.read, inl (refl, omega (arith, low, later)), later)
  ]

  pub first_found : (first : Option ℕ) → IsLeast trace x size first → IsFirstLeft size trace came first
  first_found None l = λ m left.
      let w = left_is_behind m left in
      let f = l.least w.0 w.1 in
      absurd (let v : None ≡ Some f.0 = f.1 in cc)
  first_found (Some p) l = (
    first_is_left p (l.one p refl),
    λ m below left.
        let w = left_is_behind m left in
        let f = l.least w.0 w.1 in
        let same : p ≡ f.0 = (let v : Some p ≡ Some f.0 = f.1 in cc) in
        absurd (omega (arith, w.2, f.2, same, below)),
  )
