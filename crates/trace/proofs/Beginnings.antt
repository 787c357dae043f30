-- What was seen of a beginning of a history is a beginning of what was seen of it.
use Rattle.std.proofs.Common.{◌≡◌, ◌≤◌, false, true, List, [], ◌∷◌, ◌++◌, length, Option, Some, None, refl, ap, sym}
use Rattle.std.proofs.Common.{◌∙◌, arith, length-append, subst}
use Rattle.nvme_model.specs.History.{Past}
use Rattle.nvme_model.specs.Legal.{IsLegal}
use Rattle.nvme_model.specs.declared.config.ConfigNumbers.{ConfigNumbers}
use Rattle.nvme_model.specs.declared.entry.Entry.{Entry}
use Rattle.nvme_model.proofs.Beginnings.{earlier}
use Rattle.trace.specs.Aside.{aside_pair, comes_first, own}
use Rattle.trace.specs.Options.{Pointwise, ReadsAs, no_options}
use Rattle.trace.specs.Observed.{Explains, is_seen, observed, shown, with_shown}
use Rattle.trace.specs.declared.options.TraceOptions.{TraceOptions}
use Rattle.trace.specs.declared.seen.Seen.{Seen}
use Rattle.trace.proofs.Aside.{all_first, first_before, own_all, own_behind, same_thing, thing_itself}
use Rattle.trace.proofs.Pointwise.{are_same, of_same, parted}

-- what was seen of a longer history goes on from what was seen of it
pub goes_on : (c : ConfigNumbers) (later past : Past)
    → (more : List Seen) × (observed c (later ++ past) ≡ more ++ observed c past)
goes_on c [] past = ([], refl)
goes_on c (e ∷ later) past = one_more (shown c (later ++ past) e) (goes_on c later past)
  where
    one_more : (s : Option Seen) → (more : List Seen) × (observed c (later ++ past) ≡ more ++ observed c past)
        → (more : List Seen) × (with_shown s (observed c (later ++ past)) ≡ more ++ observed c past)
    one_more None r = r
    one_more (Some s) r = (s ∷ r.0, ap (λ (l : List Seen). s ∷ l) r.1)

-- so a beginning of an explained trace is explained by a beginning of its history
pub beginning_explained : (o : TraceOptions) (c : ConfigNumbers) (later past : Past) (trace : List Seen)
    → Explains o c (later ++ past) trace
    → (more earlier : List Seen) × (trace ≡ more ++ earlier) × Explains o c past earlier
beginning_explained o c later past trace h =
    let n = aside_pair o c in
    let r = goes_on c later past in
    let first : comes_first n (r.0 ++ observed c past) ≡ true =
    subst (λ (seen : List Seen). comes_first n seen ≡ true) r.1 h.1.0 in
    let reads : Pointwise (ReadsAs o) (own n r.0 ++ own n (observed c past)) trace =
    subst (λ (seen : List Seen). Pointwise (ReadsAs o) seen trace)
    (ap (own n) r.1 ∙ own_behind n r.0 (observed c past)) h.1.1 in
    let p = parted (ReadsAs o) (own n r.0) (own n (observed c past)) trace reads in
    (p.0, p.1, p.2, (earlier c later past h.0, (first_before n r.0 (observed c past) first, p.4)))

-- without options what is explained is what was seen
pub all_explained : (c : ConfigNumbers) (past : Past) (trace : List Seen) → Explains no_options c past trace
    → IsLegal c past × (observed c past ≡ trace)
all_explained c past trace h = (
  h.0,
  sym (own_all (observed c past))
      ∙ are_same (ReadsAs no_options) same_thing (own None (observed c past)) trace h.1.1,
)

pub explains_all : (c : ConfigNumbers) (past : Past) (trace : List Seen) → IsLegal c past × (observed c past ≡ trace)
    → Explains no_options c past trace
explains_all c past trace h =
    let reads : Pointwise (ReadsAs no_options) (own None (observed c past)) (own None (observed c past)) =
    of_same (ReadsAs no_options) thing_itself (own None (observed c past)) in (
      h.0,
      (
        all_first (observed c past),
        subst (λ (t : List Seen). Pointwise (ReadsAs no_options) (own None (observed c past)) t)
            (own_all (observed c past) ∙ h.1) reads,
      ),
    )

-- and nothing that was seen goes
pub never_fewer : (c : ConfigNumbers) (later past : Past)
    → length (observed c past) ≤ length (observed c (later ++ past))
never_fewer c later past =
    let r = goes_on c later past in
    omega (arith, ap length r.1, length-append r.0 (observed c past))

-- ---- one more entry

-- a Publish or a Reap shows one thing
pub seen_more : (c : ConfigNumbers) (past : Past) (e : Entry) → is_seen e ≡ true
    → (s : Seen) × (observed c (e ∷ past) ≡ s ∷ observed c past)
seen_more c past (Entry.Publish p) h = (_, refl)
seen_more c past (Entry.Reap p) h = (_, refl)
seen_more c past (Entry.Fetch p) h = absurd (let n : false ≡ true = h in cc)
seen_more c past (Entry.Grant p) h = absurd (let n : false ≡ true = h in cc)
seen_more c past (Entry.Block p) h = absurd (let n : false ≡ true = h in cc)
seen_more c past (Entry.Post p) h = absurd (let n : false ≡ true = h in cc)

-- any other nothing
pub seen_same : (c : ConfigNumbers) (past : Past) (e : Entry) → is_seen e ≡ false
    → observed c (e ∷ past) ≡ observed c past
seen_same c past (Entry.Publish p) h = absurd (let n : true ≡ false = h in cc)
seen_same c past (Entry.Reap p) h = absurd (let n : true ≡ false = h in cc)
seen_same c past (Entry.Fetch p) h = refl
seen_same c past (Entry.Grant p) h = refl
seen_same c past (Entry.Block p) h = refl
seen_same c past (Entry.Post p) h = refl
