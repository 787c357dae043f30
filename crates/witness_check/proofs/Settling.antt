-- What is said of a history and a trace with delays.
use Rattle.std.proofs.Common.{◌≡◌, ℕ, ◌+◌, ◌*◌, ◌⊎◌, true, false, cond, List, [], ◌∷◌, ◌++◌, length, take, Option}
use Rattle.std.proofs.Common.{Some, None, refl, sym, ap, ◌∙◌, subst, arith, inl, inr}
use mathlib.Core.List.{reverse}
use Rattle.std.proofs.lemmas.Bool.{and_parts}
use Rattle.nvme_model.specs.History.{Past}
use Rattle.nvme_model.specs.Legal.{IsLegal}
use Rattle.nvme_model.specs.declared.config.ConfigNumbers.{ConfigNumbers}
use Rattle.trace.specs.Aside.{ReadsTrace, aside_pair, comes_first, in_turn, is_aside, own}
use Rattle.trace.specs.Observed.{observed}
use Rattle.trace.specs.Options.{Pointwise, ReadsAs}
use Rattle.trace.specs.declared.options.TraceOptions.{TraceOptions}
use Rattle.trace.specs.declared.seen.Seen.{Seen}
use Rattle.trace.proofs.Aside.{first_before, own_behind}
use Rattle.trace.proofs.Pointwise.{parted}
use Rattle.witness_check.specs.Delayed.{EachCame, EachStandsIn, ExplainsDelayed, StandsIn, count, is_reap, lane}
use Rattle.witness_check.specs.Delays.{DelaysDiffer, DelaysRun, DiffersAt, DiffersNext, IsDelayedTo, IsDelayedVerdict}
use Rattle.witness_check.specs.Delays.{IsInStep, IsNext, IsSoFar, IsTurned, LineIsLeft, SeenDiffers, lanes_of}
use Rattle.witness_check.specs.Lanes.{IsFirstLeft}
use Rattle.witness_check.specs.declared.comparison.TraceVerdict.{TraceVerdict}
use Rattle.witness_check.specs.declared.comparison.TraceVerdict.TheVariants.{Bad, Explained, Unlike}
use Rattle.witness_check.specs.declared.difference.Difference.{Difference}
use Rattle.witness_check.specs.declared.difference.Difference.TheVariants.{Contents, HistoryEnds}
use Rattle.witness_check.proofs.Comparing.{no_place}
use Rattle.witness_check.proofs.Counting.{count_within, last_stand, one_line, one_list, parted_at, same_kind}
use Rattle.witness_check.proofs.Counting.{same_lane}
use Rattle.witness_check.proofs.Delaying.{so_far_alike, stands_whole}
use Rattle.witness_check.proofs.Differing.{alike}
use Rattle.witness_check.proofs.Judging.{legal_or_bad, said_bad}
use Rattle.witness_check.proofs.Reaching.{each_came, left_by_count, left_by_number}

-- ---- of what is kept

module _ (o : TraceOptions) (c : ConfigNumbers) (trace : List Seen) (past : Past) (x : DelaysRun)
    (h : IsDelayedTo o c trace past x) where
  pub delayed_bad : (k : ℕ) → x.compared.bad ≡ Some k → IsDelayedVerdict o c past trace (Bad k)
  delayed_bad k e = said_bad o c (reverse h.came) past x.compared h.compared k e

  legal_so : x.compared.bad ≡ None → IsLegal c past
  legal_so good = no_place c past (sym good ∙ h.compared.first)

  pub delayed_unlike : (d : Difference) → x.compared.bad ≡ None → x.unlike ≡ Some d
      → IsDelayedVerdict o c past trace (Unlike x.number d)
  delayed_unlike d good is =
      let s = subst (λ u. IsSoFar o c trace (observed c past) h.came x u) is (h.so_far good) in
      (legal_so good, s.1, s.2, inl s.3)

  module _ (good : x.compared.bad ≡ None) (same : x.unlike ≡ None) where
    pub in_step : IsInStep c trace h.came x
    in_step = subst (λ u. IsSoFar o c trace (observed c past) h.came x u) same (h.so_far good)

    reads : ReadsTrace o (aside_pair o c) (observed c past) h.came
    reads =
        stands_whole o (aside_pair o c) (observed c past) h.came (length h.came) refl
        (so_far_alike o c past x.compared h.came h.compared good in_step.alike in_step.next)

    -- a line is left
    pub delayed_left : (n k : ℕ) → k ≡ n + 1 → IsFirstLeft (lanes_of c) trace h.came (Some n)
        → IsDelayedVerdict o c past trace (Unlike k HistoryEnds)
    delayed_left n k e first = (
      legal_so good,
      n,
      e,
      inr (
        (
          h.came,
          reads,
          in_step.each,
          left_by_count (lanes_of c) trace h.came in_step.own n first.0,
          λ m low left. first.1 m low (left_by_number (lanes_of c) trace h.came in_step.own m left),
        ),
        refl,
      ),
    )

    -- none is
    pub delayed_explained : IsFirstLeft (lanes_of c) trace h.came None → IsDelayedVerdict o c past trace Explained
    delayed_explained none = (
      h.came,
      (legal_so good, reads),
      (
        in_step.each,
        each_came trace h.came (λ n left. none n (left_by_number (lanes_of c) trace h.came in_step.own n left)),
      ),
    )

-- ---- where it is explained nothing differs

module _ (o : TraceOptions) (a : Option ℕ) (trace seen came : List Seen) (reads : ReadsTrace o a seen came)
    (each : EachStandsIn (reverse trace) came) where
  -- what differs next doesn't differ from the line that came
  never_next : (before found : List Seen) (s v : Seen) (n : ℕ) (d : Difference) (next : Option Seen)
      → is_aside a s ≡ false → ReadsAs o s v → StandsIn (reverse trace) found v → IsNext trace found (lane s) n next
      → DiffersAt o trace found s n next d → ⊥
  never_next before found s v n d None mine read stands next differs =
      let w : count (lane s) (reverse trace) ≡ count (lane s) (stands.0 ++ (v ∷ stands.1)) =
      ap (count (lane s)) stands.2 in
      let same = same_lane o s v read in
      let m = subst (λ l. count l stands.1 ≡ count l found) (sym same) stands.3 in
      omega (arith, w, m, next.1, count_within (lane s) stands.0 stands.1 v (sym same))
  never_next before found s v n d (Some t) mine read stands next differs = by differs
    where
      same : lane s ≡ lane v
      same = same_lane o s v read

      one : (v ≡ t) × (stands.1 ≡ reverse (take n trace))
      one =
          let w = parted_at trace n t next.0 in
          one_line stands.0 w.0 stands.1 (reverse (take n trace)) v t (sym stands.2 ∙ w.1) (sym same ∙ sym next.1)
          (stands.3 ∙ sym (subst (λ l. count l (reverse (take n trace)) ≡ count l found) same next.2))

      kept : is_reap s ≡ true → IsTurned trace found n → ⊥
      kept reaps turned =
          let w = stands.4 (sym (same_kind s v same) ∙ reaps) turned.0 in
          let m = ap (count (2 * turned.0)) one.1 in
          omega (arith, w, m, turned.1)

      by : DiffersAt o trace found s n (Some t) d → ⊥
      by (inl h) = kept h.0 h.1
      by (inr h) = alike o s t d (subst (λ (y : Seen). ReadsAs o s y) one.0 read) h.1

  never_seen : (n : ℕ) (d : Difference) → SeenDiffers o a trace seen n d → ⊥
  never_seen n d h = by h.0 h.1 h.2 h.3 h.4 h.5 h.6 h.7
    where
      behind : (later before found : List Seen) (s : Seen) (next : Option Seen) → seen ≡ later ++ (s ∷ before)
          → ReadsTrace o a before found → EachStandsIn (reverse trace) found → is_aside a s ≡ false
          → IsNext trace found (lane s) n next → DiffersAt o trace found s n next d → ⊥
      behind later before found s next is old stands mine place differs =
          let w = subst (λ (xs : List Seen). Pointwise (ReadsAs o) xs came)
          (ap (own a) is ∙ own_behind a later (s ∷ before)
          ∙ ap (λ b. own a later ++ cond b (own a before) (s ∷ own a before)) mine) reads.1 in
          let p = parted (ReadsAs o) (own a later) (s ∷ own a before) came w in
          here p.0 p.1 (subst (λ (xs : List Seen). EachStandsIn (reverse trace) xs) p.2 each) p.4
        where
          here : (ys vs : List Seen) → EachStandsIn (reverse trace) (ys ++ vs)
              → Pointwise (ReadsAs o) (s ∷ own a before) vs → ⊥
          here ys [] all r = absurd r
          here ys (v ∷ vs) all r =
              let last = last_stand (reverse trace) ys (v ∷ vs) all in
              let same : vs ≡ found =
              one_list o (reverse trace) (own a before) vs found r.1 old.1 last.1 stands in
              never_next before found s v n d next mine r.0
              (subst (λ (xs : List Seen). StandsIn (reverse trace) xs v) same last.0) place differs

      by : (later before found : List Seen) (s : Seen) → seen ≡ later ++ (s ∷ before) → ReadsTrace o a before found
          → EachStandsIn (reverse trace) found → DiffersNext o a trace before found s n d → ⊥
      by later before found s is old stands h = turn h.3
        where
          turn : ((in_turn a before s ≡ false) × (d ≡ Contents))
              ⊎ ((in_turn a before s ≡ true) × (is_aside a s ≡ false) × DiffersAt o trace found s n h.0 d) → ⊥
          turn (inl late) =
              let first = first_before a later (s ∷ before)
              (subst (λ (xs : List Seen). comes_first a xs ≡ true) is reads.0) in
              let w : in_turn a before s ≡ true = (and_parts (comes_first a before) (in_turn a before s) first).1 in
              let v : false ≡ true = sym late.0 ∙ w in
              cc
          turn (inr w) = behind later before found s h.0 is old stands w.1 (h.2 w.1) w.2

  never_left : EachCame (reverse trace) came → (n : ℕ) → LineIsLeft o a trace seen n → ⊥
  never_left all n h =
      let same : came ≡ h.0 = one_list o (reverse trace) (own a seen) came h.0 reads.1 h.1.1 each h.2 in
      let t = h.3.0 in
      let w = parted_at trace n t h.3.1 in
      let l = all w.0 (reverse (take n trace)) t w.1 in
      omega (arith, l, h.3.2, ap (count (lane t)) same)

-- only what is said to be explained is
module _ (o : TraceOptions) (c : ConfigNumbers) (past : Past) (trace : List Seen) where
  pub not_delayed : (v : TraceVerdict) → IsDelayedVerdict o c past trace v → (v ≡ Explained → ⊥)
      → ExplainsDelayed o c past (reverse trace) → ⊥
  not_delayed Explained h other g = other refl
  not_delayed (Bad k) h other g = legal_or_bad o c past trace k g.1.0 h
  not_delayed (Unlike k d) h other g = by h.3
    where
      by : DelaysDiffer o (aside_pair o c) trace (observed c past) h.1 d → ⊥
      by (inl w) = never_seen o (aside_pair o c) trace (observed c past) g.0 g.1.1 g.2.0 h.1 d w
      by (inr w) = never_left o (aside_pair o c) trace (observed c past) g.0 g.1.1 g.2.0 g.2.1 h.1 w.0
