-- How many lines of a lane there are, and which of a trace stands for one that came.
use Rattle.std.proofs.Common.{◌≡◌, ℕ, zero, suc, ◌+◌, ◌*◌, ◌<◌, ◌≤◌, cond, List, [], ◌∷◌, ◌++◌, drop, length, take}
use Rattle.std.proofs.Common.{Some, slice_get, refl, sym, ap, ◌∙◌, subst, arith, inl, inr, eq-eqb, append_assoc}
use Rattle.std.proofs.Common.{ne_eqb, take-append-drop}
use mathlib.Core.List.{reverse}
use Rattle.std.proofs.lemmas.Bool.{cases_eq}
use Rattle.std.proofs.lemmas.List.{length-reverse, reverse-append, reverse-reverse, take-append-le}
use Rattle.trace.specs.Options.{Pointwise, ReadsAs}
use Rattle.trace.specs.declared.options.TraceOptions.{TraceOptions}
use Rattle.trace.specs.declared.seen.Seen.{Seen}
use Rattle.witness_check.specs.Delayed.{EachStandsIn, StandsIn, count, is_reap, lane}
use Rattle.witness_check.proofs.Judging.{Parts, at_end, two_parts}
use Rattle.witness_check.proofs.Turns.{one_there}

-- ---- one line more

pub count_own : (l : ℕ) (s : Seen) (lines : List Seen) → lane s ≡ l → count l (s ∷ lines) ≡ count l lines + 1
count_own l s lines e = ap (λ b. cond b (count l lines + 1) (count l lines)) (eq-eqb _ _ e)

pub count_other : (l : ℕ) (s : Seen) (lines : List Seen) → (lane s ≡ l → ⊥) → count l (s ∷ lines) ≡ count l lines
count_other l s lines n = ap (λ b. cond b (count l lines + 1) (count l lines)) (ne_eqb _ _ n)

pub count_one_more : (l : ℕ) (s : Seen) (lines : List Seen) → count l lines ≤ count l (s ∷ lines)
count_one_more l s lines = elim (cases_eq (lane s) l) [
  | inl same ↦ omega (arith, count_own l s lines same)
  | inr apart ↦ omega (arith, count_other l s lines apart)
]

pub count_more : (l : ℕ) (more lines : List Seen) → count l lines ≤ count l (more ++ lines)
count_more l [] lines = omega arith
count_more l (s ∷ more) lines = omega (arith, count_more l more lines, count_one_more l s (more ++ lines))

-- a line of a lane stands behind fewer than there are
pub count_within : (l : ℕ) (later before : List Seen) (s : Seen) → lane s ≡ l
    → count l before < count l (later ++ (s ∷ before))
count_within l later before s e = omega (arith, count_own l s before e, count_more l later (s ∷ before))

-- ---- beginnings of a trace

-- a longer one has more lines behind a shorter one's
pub later_of : (xs : List Seen) (n m : ℕ) → n ≤ m
    → (more : List Seen) × (reverse (take m xs) ≡ more ++ reverse (take n xs))
later_of xs n m l =
    let f = front xs n m l in
    (reverse f.0, ap reverse f.1 ∙ reverse-append (take n xs) f.0)
  where
    front : (xs : List Seen) (n m : ℕ) → n ≤ m → (rest : List Seen) × (take m xs ≡ take n xs ++ rest)
    front xs zero m l = (take m xs, refl)
    front xs (suc n) zero l = absurd (omega (arith, l))
    front [] (suc n) (suc m) l = ([], refl)
    front (x ∷ xs) (suc n) (suc m) l =
        let f = front xs n m (omega (arith, l)) in
        (f.0, ap (λ (ys : List Seen). x ∷ ys) f.1)

pub counts_up : (l : ℕ) (xs : List Seen) (n m : ℕ) → n ≤ m
    → count l (reverse (take n xs)) ≤ count l (reverse (take m xs))
counts_up l xs n m low =
    let w = later_of xs n m low in
    subst (λ (ys : List Seen). count l (reverse (take n xs)) ≤ count l ys) (sym w.1)
    (count_more l w.0 (reverse (take n xs)))

-- what stands at a place, and what before it
pub parted_at : (xs : List Seen) (p : ℕ) (t : Seen) → slice_get xs p ≡ Some t
    → (later : List Seen) × (reverse xs ≡ later ++ (t ∷ reverse (take p xs)))
parted_at xs p t e = (
  reverse (drop (p + 1) xs),
  sym (ap (λ (ys : List Seen). reverse ys) (take-append-drop (p + 1) xs))
      ∙ reverse-append (take (p + 1) xs) (drop (p + 1) xs)
      ∙ ap (λ (ys : List Seen). reverse (drop (p + 1) xs) ++ ys) (one_there xs p t e),
)

-- and back
pub place_of_parts : (xs later before : List Seen) (t : Seen) → reverse xs ≡ later ++ (t ∷ before)
    → (slice_get xs (length before) ≡ Some t) × (reverse (take (length before) xs) ≡ before)
place_of_parts xs later before t e =
    let long = length-reverse before in
    let turned : xs ≡ (reverse before ++ t ∷ []) ++ reverse later =
    sym (reverse-reverse xs) ∙ ap reverse e ∙ reverse-append later (t ∷ before)
    ∙ ap (λ (zs : List Seen). zs ++ reverse later) (reverse-append (t ∷ []) before) in
    let flat : xs ≡ reverse before ++ (t ∷ reverse later) =
    turned ∙ append_assoc (reverse before) (t ∷ []) (reverse later) in (
      ap (λ zs. slice_get zs (length before)) turned ∙ at_end (reverse before) t (reverse later) (length before) long,
      ap (λ (zs : List Seen). reverse (take (length before) zs)) flat
          ∙ ap reverse (subst (λ n. take n (reverse before ++ (t ∷ reverse later)) ≡ reverse before) long
          (take-append-le (length (reverse before)) (reverse before) (t ∷ reverse later) (omega arith)
          ∙ whole (reverse before)))
          ∙ reverse-reverse before,
    )
  where
    whole : (ys : List Seen) → take (length ys) ys ≡ ys
    whole [] = refl
    whole (y ∷ ys) = ap (λ (zs : List Seen). y ∷ zs) (whole ys)

-- ---- one line stands for one that came

-- of two lines of a lane behind as many, both are one
pub one_line : (later more before earlier : List Seen) (s t : Seen) → later ++ (s ∷ before) ≡ more ++ (t ∷ earlier)
    → lane s ≡ lane t → count (lane s) before ≡ count (lane s) earlier → (s ≡ t) × (before ≡ earlier)
one_line later more before earlier s t e same n = by (two_parts later more before earlier s t e)
  where
    by : Parts s before t earlier → (s ≡ t) × (before ≡ earlier)
    by (inl h) = h
    by (inr (inl h)) =
        let w : count (lane s) earlier ≡ count (lane s) (h.0 ++ (s ∷ before)) = ap (count (lane s)) h.1 in
        absurd (omega (arith, w, n, count_within (lane s) h.0 before s refl))
    by (inr (inr h)) =
        let w : count (lane s) before ≡ count (lane s) (h.0 ++ (t ∷ earlier)) = ap (count (lane s)) h.1 in
        absurd (omega (arith, w, n, count_within (lane s) h.0 earlier t (sym same)))

-- lines that stand for each other are of one lane and one kind
pub same_lane : (o : TraceOptions) (s t : Seen) → ReadsAs o s t → lane s ≡ lane t
same_lane o (Seen.Published p) (Seen.Published t) h = ap (λ q. 2 * q) h.0
same_lane o (Seen.Published p) (Seen.Reaped t) h = absurd h
same_lane o (Seen.Reaped r) (Seen.Published t) h = absurd h
same_lane o (Seen.Reaped r) (Seen.Reaped t) h = ap (λ q. 2 * q + 1) h.0

pub same_kind : (s t : Seen) → lane s ≡ lane t → is_reap s ≡ is_reap t
same_kind (Seen.Published p) (Seen.Published t) h = refl
same_kind (Seen.Published p) (Seen.Reaped t) h = absurd (omega (arith, h))
same_kind (Seen.Reaped r) (Seen.Published t) h = absurd (omega (arith, h))
same_kind (Seen.Reaped r) (Seen.Reaped t) h = refl

-- the lines of a trace that stand for what was seen are known by it
pub one_list : (o : TraceOptions) (trace xs cs ds : List Seen) → Pointwise (ReadsAs o) xs cs
    → Pointwise (ReadsAs o) xs ds → EachStandsIn trace cs → EachStandsIn trace ds → cs ≡ ds
one_list o trace [] [] [] h g a b = refl
one_list o trace [] [] (d ∷ ds) h g a b = absurd g
one_list o trace [] (c ∷ cs) ds h g a b = absurd h
one_list o trace (x ∷ xs) [] ds h g a b = absurd h
one_list o trace (x ∷ xs) (c ∷ cs) [] h g a b = absurd g
one_list o trace (x ∷ xs) (c ∷ cs) (d ∷ ds) h g a b =
    let rest : cs ≡ ds = one_list o trace xs cs ds h.1 g.1 a.1 b.1 in
    let u : StandsIn trace cs c = a.0 in
    let v : StandsIn trace ds d = b.0 in
    let same : lane c ≡ lane d = sym (same_lane o x c h.0) ∙ same_lane o x d g.0 in
    let n : count (lane c) u.1 ≡ count (lane c) v.1 =
    u.3 ∙ ap (count (lane c)) rest ∙ ap (λ l. count l ds) same ∙ sym v.3 ∙ ap (λ l. count l v.1) (sym same) in
    let one = one_line u.0 v.0 u.1 v.1 c d (sym u.2 ∙ v.2) same n in
    ap (λ (y : Seen). y ∷ cs) one.0 ∙ ap (λ (ys : List Seen). d ∷ ys) rest

-- the last ones stand there too
pub last_stand : (trace later came : List Seen) → EachStandsIn trace (later ++ came) → EachStandsIn trace came
last_stand trace [] came h = h
last_stand trace (s ∷ later) came h = last_stand trace later came h.1
