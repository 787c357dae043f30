-- What delays keep of the order of lines.
use Rattle.std.proofs.Common.{◌≡◌, ℕ, ◌+◌, ◌*◌, ◌<◌, ◌≤◌, true, false, List, [], ◌∷◌, ◌++◌, refl, sym, ap, ◌∙◌, subst}
use Rattle.std.proofs.Common.{append_assoc, arith, inl, inr}
use Rattle.nvme_model.specs.History.{Past}
use Rattle.nvme_model.specs.declared.config.ConfigNumbers.{ConfigNumbers}
use Rattle.trace.specs.Observed.{Explains}
use Rattle.trace.specs.declared.options.TraceOptions.{TraceOptions}
use Rattle.trace.specs.declared.seen.Seen.{Seen}
use Rattle.witness_check.specs.Delayed.{EachStandsIn, ExplainsDelayed, IsDelayed, StandsIn, count, is_reap, lane}
use Rattle.witness_check.proofs.Counting.{count_more, count_within, last_stand}
use Rattle.witness_check.proofs.Judging.{Parts, two_parts}

-- each line of a list stands in it
each_itself : (later came : List Seen) → EachStandsIn (later ++ came) came
each_itself later [] = tt
each_itself later (s ∷ came) = (
  (later, came, refl, refl, λ _ q. omega arith),
  subst (λ (xs : List Seen). EachStandsIn xs came) (append_assoc later (s ∷ []) came)
      (each_itself (later ++ s ∷ []) came),
)

pub delays_nothing : (trace : List Seen) → IsDelayed trace trace
delays_nothing trace = (
  each_itself [] trace,
  λ later before s e. subst (λ (xs : List Seen). count (lane s) before < count (lane s) xs) (sym e)
      (count_within (lane s) later before s refl),
)

pub without_delays : (o : TraceOptions) (c : ConfigNumbers) (past : Past) (trace : List Seen)
    → Explains o c past trace → ExplainsDelayed o c past trace
without_delays o c past trace h = (trace, h, delays_nothing trace)

-- a Publish that came before a Reap is logged before it
pub keeps_order : (came trace later between earlier : List Seen) (reap publish : Seen) → IsDelayed came trace
    → came ≡ later ++ (reap ∷ (between ++ (publish ∷ earlier))) → is_reap reap ≡ true → is_reap publish ≡ false
    → (after amid before : List Seen) × (trace ≡ after ++ (reap ∷ (amid ++ (publish ∷ before))))
    × (count (lane reap) (amid ++ (publish ∷ before)) ≡ count (lane reap) (between ++ (publish ∷ earlier)))
    × (count (lane publish) before ≡ count (lane publish) earlier)
keeps_order came trace later between earlier reap publish h is r p =
    let all : EachStandsIn trace (later ++ (reap ∷ (between ++ (publish ∷ earlier)))) =
    subst (EachStandsIn trace) is h.0 in
    let last = last_stand trace later (reap ∷ (between ++ (publish ∷ earlier))) all in
    let one : StandsIn trace (between ++ (publish ∷ earlier)) reap = last.0 in
    let two : StandsIn trace earlier publish = (last_stand trace between (publish ∷ earlier) last.1).0 in
    let more : count (lane publish) earlier < count (lane publish) one.1 = behind publish p one.1 (one.4 r) refl in
    by one two more (two_parts one.0 two.0 one.1 two.1 reap publish (sym one.2 ∙ two.2))
  where
    behind : (s : Seen) → is_reap s ≡ false → (before : List Seen)
        → ((q : ℕ) → count (2 * q) (between ++ (publish ∷ earlier)) ≤ count (2 * q) before)
        → s ≡ publish
        → count (lane s) earlier < count (lane s) before
    behind (Seen.Reaped x) it before all same = absurd (let w : true ≡ false = it in cc)
    behind (Seen.Published x) it before all same =
        let w : lane publish ≡ 2 * x.queue = ap lane (sym same) in
        omega (arith, all x.queue, count_within (2 * x.queue) between earlier publish w)

    by : (one : StandsIn trace (between ++ (publish ∷ earlier)) reap) (two : StandsIn trace earlier publish)
        → count (lane publish) earlier < count (lane publish) one.1 → Parts reap one.1 publish two.1
        → (after amid before : List Seen) × (trace ≡ after ++ (reap ∷ (amid ++ (publish ∷ before))))
        × (count (lane reap) (amid ++ (publish ∷ before)) ≡ count (lane reap) (between ++ (publish ∷ earlier)))
        × (count (lane publish) before ≡ count (lane publish) earlier)
    by one two more (inl s) = absurd (let w : true ≡ false = sym r ∙ ap is_reap s.0 ∙ p in cc)
    by one two more (inr (inl s)) =
        let w : count (lane publish) two.1 ≡ count (lane publish) (s.0 ++ (reap ∷ one.1)) =
        ap (count (lane publish)) s.1 in
        absurd (omega (
          arith,
          w,
          two.3,
          more,
          count_more (lane publish) s.0 (reap ∷ one.1),
          count_more (lane publish)
              (reap ∷ []) one.1,
        ))
    by one two more (inr (inr s)) = (
      one.0,
      s.0,
      two.1,
      one.2 ∙ ap (λ (xs : List Seen). one.0 ++ (reap ∷ xs)) s.1,
      sym (ap (count (lane reap)) s.1) ∙ one.3,
      two.3,
    )
