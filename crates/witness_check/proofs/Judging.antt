-- What is said of a history and a trace.
use Rattle.std.proofs.Common.{◌≡◌, ℕ, zero, suc, ◌+◌, ◌<◌, ◌≤◌, ◌⊎◌, true, false, cond, List, [], ◌∷◌, ◌++◌, length}
use Rattle.std.proofs.Common.{take, Option, Some, None, slice_get, refl, sym, ap, ◌∙◌, subst, arith, inl, inr}
use Rattle.std.proofs.Common.{length-append}
use mathlib.Core.List.{reverse}
use Rattle.std.proofs.lemmas.Bool.{and_parts}
use Rattle.std.proofs.lemmas.List.{length-reverse, length-take-le, reverse-append, reverse-reverse, take_all}
use Rattle.nvme_model.specs.FirstBad.{IsFirstBad, first_bad_of}
use Rattle.nvme_model.specs.History.{Past}
use Rattle.nvme_model.specs.Legal.{IsLegal, IsLegalFile}
use Rattle.nvme_model.specs.declared.config.ConfigNumbers.{ConfigNumbers}
use Rattle.nvme_model.proofs.FirstBad.{first_is_some, legal_is_none, one_first, some_is_first}
use Rattle.trace.specs.Aside.{aside_pair, comes_first, in_turn, own}
use Rattle.trace.specs.Observed.{Explains, observed}
use Rattle.trace.specs.Options.{Pointwise, ReadsAs}
use Rattle.trace.specs.declared.options.TraceOptions.{TraceOptions}
use Rattle.trace.specs.declared.seen.Seen.{Seen}
use Rattle.trace.proofs.Aside.{first_before, own_behind}
use Rattle.trace.proofs.Pointwise.{parted, same_length}
use Rattle.witness_check.specs.Compared.{Compared, IsComparedTo, IsSeenTo, IsVerdict}
use Rattle.witness_check.specs.Differing.{Differ, DifferFirst, DiffersBehind, StandsFor}
use Rattle.witness_check.specs.declared.comparison.TraceVerdict.{TraceVerdict}
use Rattle.witness_check.specs.declared.comparison.TraceVerdict.TheVariants.{Bad, Explained, Unlike}
use Rattle.witness_check.specs.declared.difference.Difference.{Difference}
use Rattle.witness_check.specs.declared.difference.Difference.TheVariants.{HistoryEnds}
use Rattle.witness_check.proofs.Comparing.{no_place}
use Rattle.witness_check.proofs.Differing.{alike, one_difference}

-- ---- of what is kept

module _ (o : TraceOptions) (c : ConfigNumbers) (trace : List Seen) (past : Past) (x : Compared)
    (h : IsComparedTo o c trace past x) where
  pub said_bad : (k : ℕ) → x.bad ≡ Some k → IsVerdict o c past trace (Bad k)
  said_bad k e =
      some_is_first c (reverse past) k (ap (first_bad_of c) (reverse-reverse past) ∙ sym h.first ∙ e)

  legal_if : x.bad ≡ None → IsLegal c past
  legal_if e = no_place c past (sym e ∙ h.first)

  -- what was seen differs
  pub said_unlike : (d : Difference) → x.bad ≡ None → x.unlike ≡ Some d → IsVerdict o c past trace (Unlike x.next d)
  said_unlike d e is =
      let s = subst (λ u. IsSeenTo o (aside_pair o c) trace (observed c past) x.next x.out u) is (h.seen e) in
      (legal_if e, s.0, s.1, inr (s.2, s.3, s.4, s.5, s.6, s.7))

  module _ (good : x.bad ≡ None) (same : x.unlike ≡ None) where
    so_far : IsSeenTo o (aside_pair o c) trace (observed c past) x.next x.out None
    so_far = subst (λ u. IsSeenTo o (aside_pair o c) trace (observed c past) x.next x.out u) same (h.seen good)

    -- the trace goes on
    pub said_more : x.next ≤ length trace → IsVerdict o c past trace (Unlike x.next HistoryEnds)
    said_more l =
        let s = so_far in
        (legal_if good, s.0, s.1, inl (s.3, omega (arith, s.1, l), refl))

    -- it has ended
    pub said_explained : length trace < x.next → IsVerdict o c past trace Explained
    said_explained l =
        let s = so_far in (
          legal_if good,
          (
            s.3.1.0,
            subst (λ (ts : List Seen). Pointwise (ReadsAs o) (own (aside_pair o c) (observed c past)) (reverse ts))
                (take_all s.0 trace (omega (arith, s.1, l))) s.3.1.1,
          ),
        )

-- ---- places in lists

-- what stands within a beginning
get_taken : (n m : ℕ) (xs : List Seen) → n < m → slice_get (take m xs) n ≡ slice_get xs n
get_taken n zero xs l = absurd (omega (arith, l))
get_taken n (suc m) [] l = refl
get_taken zero (suc m) (x ∷ xs) l = refl
get_taken (suc n) (suc m) (x ∷ xs) l = get_taken n m xs (omega (arith, l))

-- what stands behind a list
pub at_end : (xs : List Seen) (x : Seen) (more : List Seen) (n : ℕ) → length xs ≡ n
    → slice_get ((xs ++ x ∷ []) ++ more) n ≡ Some x
at_end [] x more zero e = refl
at_end [] x more (suc n) e = absurd (omega (arith, e))
at_end (y ∷ ys) x more zero e = absurd (omega (arith, e))
at_end (y ∷ ys) x more (suc n) e = at_end ys x more n (omega (arith, e))

-- one of two parts of a list lies within the other
abbrev pub Parts : Seen → List Seen → Seen → List Seen → Type 0
Parts s before t earlier =
    ((s ≡ t) × (before ≡ earlier))
    ⊎ (((more : List Seen) × (earlier ≡ more ++ (s ∷ before))) ⊎ ((more : List Seen) × (before ≡ more ++ (t ∷
    earlier))))

head_same : (x y : Seen) (xs ys : List Seen) → x ∷ xs ≡ y ∷ ys → (x ≡ y) × (xs ≡ ys)
head_same x y xs ys e = (cc, cc)

pub two_parts : (later more before earlier : List Seen) (s t : Seen) → later ++ (s ∷ before) ≡ more ++ (t ∷ earlier)
    → Parts s before t earlier
two_parts [] [] before earlier s t e = inl (head_same s t before earlier e)
two_parts [] (x ∷ more) before earlier s t e = inr (inr (more, (head_same s x before (more ++ (t ∷ earlier)) e).1))
two_parts (x ∷ later) [] before earlier s t e =
    inr (inl (later, sym (head_same x t (later ++ (s ∷ before)) earlier e).1))
two_parts (x ∷ later) (y ∷ more) before earlier s t e =
    two_parts later more before earlier s t (head_same x y (later ++ (s ∷ before)) (more ++ (t ∷ earlier)) e).1

-- ---- what stands for a trace

module _ (o : TraceOptions) (a : Option ℕ) (trace : List Seen) where
  -- how many lines
  pub stands_long : (seen : List Seen) (n : ℕ) → StandsFor o a seen trace n → length (own a seen) ≡ n
  stands_long seen n h =
      same_length (ReadsAs o) (own a seen) (reverse (take n trace)) h.1.1 ∙ length-reverse (take n trace)
      ∙ length-take-le n trace h.0

  -- a line that something stands for is there
  found : (later before : List Seen) (s v : Seen) (ys vs : List Seen) (n m : ℕ) → n < m → length vs ≡ n
      → reverse (take m trace) ≡ ys ++ (v ∷ vs) → slice_get trace n ≡ Some v
  found later before s v ys vs n m l long e =
      let turned : take m trace ≡ (reverse vs ++ v ∷ []) ++ reverse ys =
      sym (reverse-reverse (take m trace)) ∙ ap reverse e ∙ reverse-append ys (v ∷ vs)
      ∙ ap (λ (zs : List Seen). zs ++ reverse ys) (reverse-append (v ∷ []) vs) in
      sym (get_taken n m trace l) ∙ ap (λ zs. slice_get zs n) turned
      ∙ at_end (reverse vs) v (reverse ys) n (length-reverse vs ∙ long)

  -- nothing differs within what stands for a trace
  pub never_there : (all later before : List Seen) (s : Seen) (n m : ℕ) (d : Difference) → all ≡ later ++ (s ∷ before)
      → StandsFor o a all trace m → StandsFor o a before trace n → DiffersBehind o a before s (slice_get trace n) d → ⊥
  never_there all later before s n m d is h g (inl late) =
      let first = first_before a later (s ∷ before) (subst (λ (xs : List Seen). comes_first a xs ≡ true) is h.1.0) in
      let turn : in_turn a before s ≡ true = (and_parts (comes_first a before) (in_turn a before s) first).1 in
      let w : false ≡ true = sym late.0 ∙ turn in
      cc
  never_there all later before s n m d is h g (inr other) =
      let reads = subst (λ (xs : List Seen). Pointwise (ReadsAs o) xs (reverse (take m trace)))
      (ap (own a) is ∙ own_behind a later (s ∷ before)
      ∙ ap (λ b. own a later ++ cond b (own a before) (s ∷ own a before)) other.1) h.1.1 in
      let p = parted (ReadsAs o) (own a later) (s ∷ own a before) (reverse (take m trace)) reads in
      by p.0 p.1 p.2 p.4
    where
      by : (ys vs : List Seen) → reverse (take m trace) ≡ ys ++ vs → Pointwise (ReadsAs o) (s ∷ own a before) vs → ⊥
      by ys [] e r = absurd r
      by ys (v ∷ vs) e r =
          let long : length vs ≡ n = sym (same_length (ReadsAs o) (own a before) vs r.1) ∙ stands_long before n g in
          let whole : length (reverse (take m trace)) ≡ m = length-reverse (take m trace) ∙ length-take-le m trace h.0
          in
          let less : n < m = omega (arith, sym whole ∙ ap length e ∙ length-append ys (v ∷ vs), long) in
          let there = found later before s v ys vs n m less long e in
          alike o s v d r.0 (subst (λ u. Differ o (Some s) u d) there other.2)

  -- one thing differs behind what was seen
  one_behind : (before : List Seen) (s : Seen) (next : Option Seen) (d e : Difference)
      → DiffersBehind o a before s next d → DiffersBehind o a before s next e → d ≡ e
  one_behind before s next d e (inl h) (inl g) = h.1 ∙ sym g.1
  one_behind before s next d e (inl h) (inr g) = absurd (let w : false ≡ true = sym h.0 ∙ g.0 in cc)
  one_behind before s next d e (inr h) (inl g) = absurd (let w : false ≡ true = sym g.0 ∙ h.0 in cc)
  one_behind before s next d e (inr h) (inr g) = one_difference o (Some s) next d e h.2 g.2

  -- one place is first
  one_first_place : (seen : List Seen) (n m : ℕ) (d e : Difference) → DifferFirst o a seen trace n d
      → DifferFirst o a seen trace m e → (n ≡ m) × (d ≡ e)
  one_first_place seen n m d e (inl h) (inl g) =
      (sym (stands_long seen n h.0) ∙ stands_long seen m g.0, h.2 ∙ sym g.2)
  one_first_place seen n m d e (inl h) (inr g) = absurd (never_there seen g.0 g.1 g.2 m n e g.3 h.0 g.4 g.5)
  one_first_place seen n m d e (inr h) (inl g) = absurd (never_there seen h.0 h.1 h.2 n m d h.3 g.0 h.4 h.5)
  one_first_place seen n m d e (inr h) (inr g) = by (two_parts h.0 g.0 h.1 g.1 h.2 g.2 (sym h.3 ∙ g.3))
    where
      by : Parts h.2 h.1 g.2 g.1 → (n ≡ m) × (d ≡ e)
      by (inl p) =
          let same : n ≡ m = sym (stands_long h.1 n h.4) ∙ ap (λ xs. length (own a xs)) p.1 ∙ stands_long g.1 m g.4 in
          let one = subst (λ k. DiffersBehind o a h.1 h.2 (slice_get trace k) d) same h.5 in
          let two = subst (λ (xs : List Seen). DiffersBehind o a xs h.2 (slice_get trace m) d) p.1 one in
          let three = subst (λ (y : Seen). DiffersBehind o a g.1 y (slice_get trace m) d) p.0 two in
          (same, one_behind g.1 g.2 (slice_get trace m) d e three g.5)
      by (inr (inl p)) = absurd (never_there g.1 p.0 h.1 h.2 n m d p.1 g.4 h.4 h.5)
      by (inr (inr p)) = absurd (never_there h.1 p.0 g.1 g.2 m n e p.1 h.4 g.4 g.5)

-- ---- one verdict

module _ (o : TraceOptions) (c : ConfigNumbers) (past : Past) (trace : List Seen) where
  -- a legal history has no first bad place
  pub legal_or_bad : (k : ℕ) → IsLegal c past → IsFirstBad c (reverse past) k → ⊥
  legal_or_bad k l h =
      let file : IsLegalFile c (reverse past) = subst (IsLegal c) (sym (reverse-reverse past)) l in
      let f : Some k ≡ None = sym (first_is_some c (reverse past) k h) ∙ legal_is_none c (reverse past) file in
      cc

  -- where it explains the trace nothing differs
  alike_or_unlike : (n : ℕ) (d : Difference) → Explains o c past (reverse trace)
      → DifferFirst o (aside_pair o c) (observed c past) trace n d → ⊥
  alike_or_unlike n d h g =
      let a = aside_pair o c in
      let whole : StandsFor o a (observed c past) trace (length trace) = (
        omega arith,
        (
          h.1.0,
          subst (λ (ts : List Seen). Pointwise (ReadsAs o) (own a (observed c past)) (reverse ts))
              (sym (take_all (length trace) trace (omega arith))) h.1.1,
        ),
      ) in
      by whole g
    where
      by : StandsFor o (aside_pair o c) (observed c past) trace (length trace)
          → DifferFirst o (aside_pair o c) (observed c past) trace n d → ⊥
      by whole (inl k) =
          let a = aside_pair o c in
          let same : n ≡ length trace = sym (stands_long o a trace (observed c past) n k.0)
          ∙ stands_long o a trace (observed c past) (length trace) whole in
          absurd (omega (arith, same, k.1))
      by whole (inr k) =
          never_there o (aside_pair o c) trace (observed c past) k.0 k.1 k.2 n (length trace) d k.3 whole k.4 k.5

  pub one_verdict : (v w : TraceVerdict) → IsVerdict o c past trace v → IsVerdict o c past trace w → v ≡ w
  one_verdict Explained Explained h g = refl
  one_verdict Explained (Bad k) h g = absurd (legal_or_bad k h.0 g)
  one_verdict Explained (Unlike k d) h g = absurd (alike_or_unlike g.1 d h g.3)
  one_verdict (Bad k) Explained h g = absurd (legal_or_bad k g.0 h)
  one_verdict (Bad k) (Bad j) h g = ap Bad (one_first c (reverse past) k j h g)
  one_verdict (Bad k) (Unlike j d) h g = absurd (legal_or_bad k g.0 h)
  one_verdict (Unlike k d) Explained h g = absurd (alike_or_unlike h.1 d g h.3)
  one_verdict (Unlike k d) (Bad j) h g = absurd (legal_or_bad j h.0 g)
  one_verdict (Unlike k d) (Unlike j e) h g =
      let same = one_first_place o (aside_pair o c) trace (observed c past) h.1 g.1 d e h.3 g.3 in
      let place : k ≡ j = h.2 ∙ ap (λ n. n + 1) same.0 ∙ sym g.2 in
      ap (λ n. Unlike n d) place ∙ ap (Unlike j) same.1

  pub not_explained : (v : TraceVerdict) → IsVerdict o c past trace v → (v ≡ Explained → ⊥)
      → Explains o c past (reverse trace) → ⊥
  not_explained v h other g = other (one_verdict v Explained h g)
