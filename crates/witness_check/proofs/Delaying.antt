-- What is kept of a history and a trace with delays, after one more entry.
use Rattle.std.proofs.Common.{◌≡◌, ℕ, ◌+◌, ◌-◌, cond, List, [], ◌∷◌, ◌++◌, length, take, Option, Some, None, slice_get}
use Rattle.std.proofs.Common.{refl, sym, ap, ◌∙◌, subst, arith}
use mathlib.Core.List.{reverse}
use Rattle.std.proofs.lemmas.List.{length-reverse, reverse-append, reverse-reverse, take-append-le, take_all}
use Rattle.nvme_model.specs.FirstBad.{earlier_or}
use Rattle.nvme_model.specs.History.{Past}
use Rattle.nvme_model.specs.Legal.{may_follow}
use Rattle.nvme_model.specs.declared.config.ConfigNumbers.{ConfigNumbers}
use Rattle.nvme_model.specs.declared.entry.Entry.{Entry}
use Rattle.trace.specs.Aside.{ReadsTrace, aside_pair, own}
use Rattle.trace.specs.Observed.{observed, shown, with_shown}
use Rattle.trace.specs.declared.options.TraceOptions.{TraceOptions}
use Rattle.trace.specs.declared.seen.Seen.{Seen}
use Rattle.witness_check.specs.Compared.{Compared, IsComparedTo, IsSeenTo}
use Rattle.witness_check.specs.Differing.{DiffersBehind, StandsFor}
use Rattle.witness_check.specs.declared.difference.Difference.{Difference}
use Rattle.witness_check.proofs.Judging.{never_there, stands_long}

-- ---- what stands for the lines that came

module _ (o : TraceOptions) (a : Option ℕ) where
  -- all of them
  pub stands_whole : (seen came : List Seen) (n : ℕ) → n ≡ length came → StandsFor o a seen (reverse came) n
      → ReadsTrace o a seen came
  stands_whole seen came n e h =
      subst (λ (ts : List Seen). ReadsTrace o a seen ts)
      (ap reverse (take_all n (reverse came) (omega (arith, e, length-reverse came))) ∙ reverse-reverse came) h.1

  -- and one more that came
  pub stands_more : (seen came : List Seen) (t : Seen) (n : ℕ) → StandsFor o a seen (reverse came) n
      → StandsFor o a seen (reverse (t ∷ came)) n
  stands_more seen came t n h =
      let is : reverse (t ∷ came) ≡ reverse came ++ t ∷ [] = reverse-append (t ∷ []) came in (
        omega (arith, h.0, length-reverse came, length-reverse (t ∷ came)),
        subst (λ (ts : List Seen). ReadsTrace o a seen (reverse ts))
            (sym (ap (take n) is ∙ take-append-le n (reverse came) (t ∷ []) h.0)) h.1,
      )

  -- ---- where something differs it is at the newest, if nothing did before

  module _ (lines seen : List Seen) (m : ℕ) (old : StandsFor o a seen lines m) where
    pub hidden_alike : (next out : ℕ) (d : Difference) → IsSeenTo o a lines seen next out (Some d) → ⊥
    hidden_alike next out d h =
        never_there o a lines seen h.2 h.3 h.4 h.0 m d h.5 old h.6 h.7

    pub shown_differs : (s : Seen) (next out : ℕ) (d : Difference) → IsSeenTo o a lines (s ∷ seen) next out (Some d)
        → DiffersBehind o a seen s (slice_get lines m) d
    shown_differs s next out d h = by h.0 h.2 h.3 h.4 h.5 h.6 h.7
      where
        by : (n : ℕ) (later before : List Seen) (t : Seen) → s ∷ seen ≡ later ++ (t ∷ before)
            → StandsFor o a before lines n → DiffersBehind o a before t (slice_get lines n) d
            → DiffersBehind o a seen s (slice_get lines m) d
        by n [] before t e stands differs =
            let one : t ≡ s = cc in
            let rest : before ≡ seen = cc in
            let place : n ≡ m =
            sym (stands_long o a lines before n stands) ∙ ap (λ xs. length (own a xs)) rest
            ∙ stands_long o a lines seen m old in
            subst (λ (y : Seen). DiffersBehind o a seen y (slice_get lines m) d) one
            (subst (λ (xs : List Seen). DiffersBehind o a xs t (slice_get lines m) d) rest
            (subst (λ k. DiffersBehind o a before t (slice_get lines k) d) place differs))
        by n (x ∷ later) before t e stands differs =
            let rest : seen ≡ later ++ (t ∷ before) = cc in
            absurd (never_there o a lines seen later before t n m d rest old stands differs)

-- ---- a comparison that goes on

module _ (o : TraceOptions) (c : ConfigNumbers) (past : Past) (x : Compared) where
  -- nothing differs so far
  pub so_far_alike : (came : List Seen) → IsComparedTo o c (reverse came) past x → x.bad ≡ None → x.unlike ≡ None
      → x.next ≡ length came + 1 → StandsFor o (aside_pair o c) (observed c past) (reverse came) (length came)
  so_far_alike came h good alike next =
      let s = subst (λ u. IsSeenTo o (aside_pair o c) (reverse came) (observed c past) x.next x.out u) alike
      (h.seen good) in
      let n : s.0 ≡ length came = omega (arith, s.1, next) in
      subst (λ k. StandsFor o (aside_pair o c) (observed c past) (reverse came) k) n s.3

  -- one line more came
  pub compared_more : (came : List Seen) (t : Seen) → IsComparedTo o c (reverse came) past x → x.bad ≡ None
      → x.unlike ≡ None → IsComparedTo o c (reverse (t ∷ came)) past x
  compared_more came t h good alike =
      record {
        reads = h.reads;
        apart = h.apart;
        counted = h.counted;
        first = h.first;
        follows = h.follows;
        seen = λ good.
            let s = subst (λ u. IsSeenTo o (aside_pair o c) (reverse came) (observed c past) x.next x.out u) alike
            (h.seen good) in
            subst (λ u. IsSeenTo o (aside_pair o c) (reverse (t ∷ came)) (observed c past) x.next x.out u) (sym alike)
            (s.0, s.1, s.2, stands_more o (aside_pair o c) (observed c past) came t s.0 s.3);
      }

  -- where no entry with this one is bad, none was before
  pub good_before : (lines : List Seen) (e : Entry) (y : Compared) → IsComparedTo o c lines (e ∷ past) y
      → y.bad ≡ None → IsComparedTo o c lines past x → x.bad ≡ None
  good_before lines e y h good g = by x.bad refl
    where
      by : (b : Option ℕ) → x.bad ≡ b → x.bad ≡ None
      by None is = is
      by (Some k) is =
          let w : Some k ≡ None =
          ap (λ p. earlier_or p (cond (may_follow c past e) None (Some (length past + 1)))) (sym is ∙ g.first)
          ∙ sym h.first ∙ good in
          absurd (let v : Some k ≡ None = w in cc)

  -- where something differs, it does after one entry more
  pub stays_unlike : (lines : List Seen) (e : Entry) (y : Compared) → IsComparedTo o c lines past x → x.bad ≡ None
      → (x.unlike ≡ None → ⊥) → IsComparedTo o c lines (e ∷ past) y → y.bad ≡ None → y.unlike ≡ None → ⊥
  stays_unlike lines e y g was unlike h good alike = by x.unlike refl (shown c past e) refl
    where
      a : Option ℕ
      a = aside_pair o c

      more : (s : Option Seen) (later seen before : List Seen) (t : Seen) → seen ≡ later ++ (t ∷ before)
          → with_shown s seen ≡ with_shown s later ++ (t ∷ before)
      more None later seen before t e = e
      more (Some s) later seen before t e = ap (λ (l : List Seen). s ∷ l) e

      by : (u : Option Difference) → x.unlike ≡ u → (s : Option Seen) → shown c past e ≡ s → ⊥
      by None is s at = unlike is
      by (Some d) is s at =
          let old = subst (λ u. IsSeenTo o a lines (observed c past) x.next x.out u) is (g.seen was) in
          let new = subst (λ u. IsSeenTo o a lines (observed c (e ∷ past)) y.next y.out u) alike (h.seen good) in
          never_there o a lines (observed c (e ∷ past)) (with_shown (shown c past e) old.2) old.3 old.4 old.0 new.0 d
          (more (shown c past e) old.2 (observed c past) old.3 old.4 old.5) new.3 old.6 old.7
