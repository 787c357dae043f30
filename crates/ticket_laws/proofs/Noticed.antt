-- A completion that was posted is reaped, or is there.
use Rattle.std.proofs.Common.{None, Option, Some, [], ap, arith, cond, false, length, length-append, true, ℕ, ◌+◌, ◌++◌}
use Rattle.std.proofs.Common.{◌∙◌, ◌≡◌, ◌≤◌, ◌∷◌, Bool}
use Rattle.std.proofs.lemmas.Bool.Decides.{nat_tests}
use Rattle.std.specs.Prelude.{◌==◌}
use Rattle.nvme_model.specs.Completions.{posted_completions, reaped_count}
use Rattle.nvme_model.specs.Config.{completion_queue}
use Rattle.nvme_model.specs.History.{Past}
use Rattle.nvme_model.specs.Refusals.{refusal}
use Rattle.nvme_model.specs.Tickets
use Rattle.nvme_model.specs.declared.config.ConfigNumbers.{ConfigNumbers}
use Rattle.nvme_model.specs.declared.entry.Entry.{Entry}
use Rattle.nvme_model.specs.declared.refusal.Why.{Why}
use Rattle.nvme_model.specs.declared.step.Step.{Step}

-- no entry takes back a completion
pub posts_grow : (c : ConfigNumbers) (later past : Past) (q : ℕ)
    → length (posted_completions c past q) ≤ length (posted_completions c (later ++ past) q)
posts_grow c [] past q = omega arith
posts_grow c (Entry.Post p ∷ later) past q =
    let h = posts_grow c later past q in
    let n = length-append (posted_completions c (later ++ past) q)
    (cond (completion_queue c (Tickets.ticket (later ++ past) p.ticket).queue == q) (p ∷ []) []) in
    omega (arith, h, n)
posts_grow c (Entry.Publish p ∷ later) past q = posts_grow c later past q
posts_grow c (Entry.Fetch f ∷ later) past q = posts_grow c later past q
posts_grow c (Entry.Grant g ∷ later) past q = posts_grow c later past q
posts_grow c (Entry.Block b ∷ later) past q = posts_grow c later past q
posts_grow c (Entry.Reap r ∷ later) past q = posts_grow c later past q

reap_row : (a b : Bool) → cond a (Some Why.NoQueue) (cond b (Some Why.NoCompletion) None) ≡ Some Why.NoCompletion
    → b ≡ true
reap_row true b e = absurd (let f : Some Why.NoQueue ≡ Some Why.NoCompletion = e in cc)
reap_row false true e = Rattle.std.proofs.Common.refl
reap_row false false e = absurd (let f : None ≡ Some Why.NoCompletion = e in cc)

same_number : (m n : ℕ) → (m == n) ≡ true → m ≡ n
same_number m n e = grind (arith, nat_tests)

-- a later Reap of q is refused for want of a completion only where each that was posted by then is reaped
pub reaped_all : (c : ConfigNumbers) (later past : Past) (q : ℕ)
    → refusal c (later ++ past) (Step.Reap q) ≡ Some Why.NoCompletion
    → length (posted_completions c past q) ≤ reaped_count (later ++ past) q
reaped_all c later past q e =
    let same = same_number _ _ (reap_row _ _ e) in
    let grow = posts_grow c later past q in
    omega (arith, same, grow)
