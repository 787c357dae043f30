-- The entry that this engine adds may follow: Publish, Fetch, Grant and Reap.
use Rattle.std.proofs.Common.{◌≡◌, ℕ, zero, suc, ◌+◌, ◌≤◌, ◌<◌, Bool, true, false, cond, List, [], ◌∷◌, length, refl}
use Rattle.std.proofs.Common.{sym, ap, ◌∙◌, subst, Option, Some, None, is_none, inl, inr, arith, eq-eqb, eqb-true, eqb}
use Rattle.std.proofs.Common.{leb-false, slice_get, length-append}
use Rattle.std.specs.Bool.{beq}
use Rattle.std.specs.Str.{bytes_eq}
use Rattle.std.proofs.lemmas.Bool.{and_from, or_parts, cases_lt, eqb-false}
use Rattle.nvme_model.specs.Config.{completion_queue}
use Rattle.nvme_model.specs.declared.config.ConfigNumbers.{ConfigNumbers}
use Rattle.nvme_model.specs.Verdict.{same_verdict}
use Rattle.nvme_model.specs.Tickets
use Rattle.nvme_model.specs.History.{Past, step_of}
use Rattle.nvme_model.specs.Open.{grants_of}
use Rattle.nvme_model.specs.Operations.{units, mode, is_exclusive}
use Rattle.nvme_model.specs.Completions.{posted_completions, reaped_count}
use Rattle.nvme_model.specs.Tickets.{tickets, next_verdict}
use Rattle.nvme_model.specs.Refusals.{refusal, conditions, next_unit}
use Rattle.nvme_model.specs.Legal.{IsLegal, may_follow, fits, is_range, is_cqe}
use Rattle.nvme_model.specs.Statuses.{same_status}
use Rattle.nvme_model.specs.Steps.{next_entry, grant_entry, reap_entry}
use Rattle.nvme_model.specs.declared.array.Range.{Range}
use Rattle.nvme_model.specs.declared.status.Status.{Status}
use Rattle.nvme_model.specs.declared.status.Verdict.{Verdict}
use Rattle.nvme_model.specs.declared.entry.PostLine.{PostLine}
use Rattle.nvme_model.specs.declared.submission.Submission.{Submission}
use Rattle.nvme_model.specs.declared.entry.Entry.{Entry}
use Rattle.nvme_model.specs.declared.step.Step.{Step}
use Rattle.nvme_model.proofs.Rules.{none_holds, follows}

-- ---- the same words

pub status_same : (s : Status) → same_status s s ≡ true
status_same s = and_from _ _ (eq-eqb s.sct s.sct refl) (eq-eqb s.sc s.sc refl)

verdict_same : (v : Verdict) → same_verdict v v ≡ true
verdict_same Verdict.Single = refl
verdict_same (Verdict.SingleFailed s) = status_same s
verdict_same Verdict.Pair = refl
verdict_same (Verdict.PairFailed s r) = and_from _ _ (status_same s) (status_same r)

range_same : (r : Range) → is_range (Some r) r ≡ true
range_same r = and_from _ _ (eq-eqb r.slba r.slba refl) (eq-eqb r.blocks r.blocks refl)

bool_same : (b : Bool) → beq b b ≡ true
bool_same true = refl
bool_same false = refl

pub bytes_same : (bs : List ℕ) → bytes_eq bs bs ≡ true
bytes_same [] = refl
bytes_same (b ∷ bs) = and_from _ _ (eq-eqb b b refl) (bytes_same bs)

-- ---- places in lists

pub some_at : {X : Type 0} (xs : List X) (i : ℕ) → i < length xs → (x : X) × (slice_get xs i ≡ Some x)
some_at [] i l = absurd (omega (arith, l))
some_at (x ∷ xs) zero l = (x, refl)
some_at (x ∷ xs) (suc i) l = some_at xs i (omega (arith, l))

pub below_if : {X : Type 0} (xs : List X) (i : ℕ) (o : Option X) → slice_get xs i ≡ o → is_none o ≡ false
    → i < length xs
below_if [] i o e n = absurd (let f : true ≡ false = ap is_none e ∙ n in cc)
below_if (x ∷ xs) zero o e n = omega arith
below_if (x ∷ xs) (suc i) o e n = omega (arith, below_if xs i o e n)

-- ---- the four kinds

-- an accepted step's entry may follow where it fits
follows_if : (c : ConfigNumbers) (past : Past) (e : Entry) → is_none (refusal c past (step_of e)) ≡ true
    → fits c past e ≡ true → may_follow c past e ≡ true
follows_if c past e r f = and_from _ _ r f

pub publish_follows : (c : ConfigNumbers) (past : Past) (q : ℕ) (batch : List Submission)
    → is_none (refusal c past (Step.Publish q batch)) ≡ true
    → may_follow c past (next_entry c past (Step.Publish q batch)) ≡ true
publish_follows c past q batch r = follows_if c past (next_entry c past (Step.Publish q batch)) r refl

pub fetch_follows : (c : ConfigNumbers) (past : Past) (q : ℕ) → is_none (refusal c past (Step.Fetch q)) ≡ true
    → may_follow c past (next_entry c past (Step.Fetch q)) ≡ true
fetch_follows c past q r =
    follows_if c past (next_entry c past (Step.Fetch q)) r
    (and_from _ _ (eq-eqb (tickets past + 1) (tickets past + 1) refl) (verdict_same (next_verdict c past q)))

grant_by : (c : ConfigNumbers) (past : Past) (t : ℕ) (r : Range) → next_unit c past t ≡ Some r
    → is_none (refusal c past (Step.Grant t)) ≡ true
    → may_follow c past (grant_entry past t (Some r)) ≡ true
grant_by c past t r e n =
    follows_if c past (grant_entry past t (Some r)) n
    (and_from _ _ (and_from _ _ (eq-eqb (grants_of past t) (grants_of past t) refl)
    (ap (λ (o : Option Range). is_range o r) e ∙ range_same r))
    (bool_same (is_exclusive (mode (Tickets.ticket past t)))))

pub grant_follows : (c : ConfigNumbers) (past : Past) (t : ℕ) → is_none (refusal c past (Step.Grant t)) ≡ true
    → may_follow c past (next_entry c past (Step.Grant t)) ≡ true
grant_follows c past t n =
    let none = none_holds (conditions c past (Step.Grant t)) n in
    let left = (or_parts _ _ (or_parts _ _ none.1.0).0).0 in
    let unit = some_at (units c (Tickets.ticket past t)) (grants_of past t) (leb-false _ _ left) in
    subst (λ (o : Option Range). may_follow c past (grant_entry past t o) ≡ true) (sym unit.1)
    (grant_by c past t unit.0 unit.1 n)

-- a completion is reaped once it was posted
pub reaped_posted : (c : ConfigNumbers) (past : Past) (q : ℕ) → IsLegal c past
    → reaped_count past q ≤ length (posted_completions c past q)
reaped_posted c [] q h = omega arith
reaped_posted c (Entry.Post p ∷ past) q h =
    let l = reaped_posted c past q (follows c past (Entry.Post p) h).before in
    omega (
      arith,
      l,
      length-append (posted_completions c past q)
          (cond (eqb (completion_queue c (Tickets.ticket past p.ticket).queue) q) (p ∷ []) []),
    )
reaped_posted c (Entry.Reap r ∷ past) q h =
    let f = follows c past (Entry.Reap r) h in
    one_reap (eqb r.queue q) refl f.fits (reaped_posted c past q f.before)
  where
    is_some : (o : Option PostLine) → is_cqe o r.cqe ≡ true → is_none o ≡ false
    is_some None e = sym e
    is_some (Some p) e = refl

    one_reap : (b : Bool) → eqb r.queue q ≡ b
        → is_cqe (slice_get (posted_completions c past r.queue) (reaped_count past r.queue)) r.cqe ≡ true
        → reaped_count past q ≤ length (posted_completions c past q)
        → reaped_count past q + cond b 1 0 ≤ length (posted_completions c past q)
    one_reap true e f l =
        let below = below_if (posted_completions c past r.queue) (reaped_count past r.queue) _ refl (is_some _ f) in
        omega (
          arith,
          subst (λ (i : ℕ). reaped_count past i < length (posted_completions c past i))
              (eqb-true r.queue q e) below,
        )
    one_reap false e f l = omega (arith, l)
reaped_posted c (e ∷ past) q h = reaped_posted c past q (follows c past e h).before

pub reap_follows : (c : ConfigNumbers) (past : Past) (q : ℕ) → IsLegal c past
    → is_none (refusal c past (Step.Reap q)) ≡ true → may_follow c past (next_entry c past (Step.Reap q)) ≡ true
reap_follows c past q h n =
    let none = none_holds (conditions c past (Step.Reap q)) n in
    let differ = eqb-false (length (posted_completions c past q)) (reaped_count past q) none.1.0 in
    let post = some_at (posted_completions c past q) (reaped_count past q) (below (reaped_posted c past q h) differ) in
    subst (λ (o : Option PostLine). may_follow c past (reap_entry q o) ≡ true) (sym post.1)
    (follows_if c past (reap_entry q (Some post.0)) n
    (ap (λ (o : Option PostLine). is_cqe o post.0.cqe) post.1 ∙ bytes_same post.0.cqe))
  where
    below : reaped_count past q ≤ length (posted_completions c past q)
        → (length (posted_completions c past q) ≡ reaped_count past q → ⊥)
        → reaped_count past q < length (posted_completions c past q)
    below l d = elim (cases_lt (reaped_count past q) (length (posted_completions c past q))) [
      | inl k ↦ k
      | inr k ↦ absurd (d (omega (arith, k, l)))
    ]
