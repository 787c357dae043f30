-- What the answer to a fused pair says of the history.
use Rattle.std.proofs.Common.{◌≡◌, ℕ, suc, Bool, true, false, cond, List, refl, ap, subst, Err, Ok, Some, inl, inr}
use Rattle.nvme_model.specs.History.{Past}
use Rattle.nvme_model.specs.Legal.{IsLegal}
use Rattle.nvme_model.specs.Operations.{is_pair}
use Rattle.nvme_model.specs.Statuses.{compare_failure, is_success, same_status}
use Rattle.nvme_model.specs.declared.config.ConfigNumbers.{ConfigNumbers}
use Rattle.nvme_model.specs.declared.entry.PostLine.{PostLine}
use Rattle.nvme_model.specs.declared.operation.Op.{Op}
use Rattle.nvme_model.proofs.Unwritten.{unwritten}
use Rattle.nvme_model.proofs.Cut.{clash}
use Rattle.host_laws.specs.Calls.{IsFused, reaped_post, cqe_status, takes}
use Rattle.host_laws.proofs.FailedCalls.{failed_checks}
use Rattle.host_laws.proofs.PairCalls.{pair_differs, pair_swaps}
use Rattle.host_laws.proofs.Seconds.{second_succeeds}
use Rattle.host_laws.proofs.Verdicts.{fuse, one_not_two, status_eq}
use Rattle.driver_calls.specs.Answers.{pair_answer_of}
use Rattle.driver_calls.specs.Says.{CallSays, IsAfter, pair_outcome}
use Rattle.driver_calls.specs.declared.event.CidState.{CidState}
use Rattle.driver_calls.specs.declared.reply.Reply.{Reply}
use Rattle.driver_calls.proofs.Singles.{IsStateOf}

-- entry j of submission queue q and the next are a fused pair, and were published after the start
pub record PairCall (c : ConfigNumbers) (start past : Past) (q j : ℕ) : Type 0 where
  pub legal : IsLegal c past
  pub fused : IsFused past q j
  pub after : (t : ℕ) → takes past t q j ≡ true → IsAfter start t

-- the answer to its two completions is true
both_say : (c : ConfigNumbers) (start past : Past) (q j : ℕ) (p r : PostLine) → PairCall c start past q j
    → reaped_post c past q j ≡ Some p → reaped_post c past q (suc j) ≡ Some r
    → CallSays c start past q j Op.Pair (Some (pair_answer_of (cqe_status p.cqe) (cqe_status r.cqe)))
both_say c start past q j p r x y z =
    go (is_success (cqe_status p.cqe)) (is_success (cqe_status r.cqe)) (same_status (cqe_status p.cqe) compare_failure)
    refl refl refl
  where
    go : (a b d : Bool) → is_success (cqe_status p.cqe) ≡ a → is_success (cqe_status r.cqe) ≡ b
        → same_status (cqe_status p.cqe) compare_failure ≡ d
        → CallSays c start past q j Op.Pair
        (Some (cond a (cond b (Ok Reply.Swapped) (Err (cqe_status r.cqe)))
        (cond d (Ok Reply.Differs) (Err (cqe_status p.cqe)))))
    go true true d e f g =
        let w = pair_swaps c past q j r x.fused.second x.legal x.fused.second_published x.fused.second_fuse z f in
        ((w, x.after w.ticket w.takes), ((p, y), (r, z)))
    go true false d e f g = clash (is_success (cqe_status r.cqe)) (second_succeeds c past q j p r x.legal x.fused y e z)
        f
    go false b true e f g =
        let w = pair_differs c past q j p x.fused.first x.legal x.fused.first_published x.fused.first_fuse y
        (status_eq (cqe_status p.cqe) compare_failure g) in
        ((w, unwritten c past w.ticket 0 x.legal (ap is_pair w.pair) w.no, x.after w.ticket w.takes), ((p, y), (r, z)))
    go false b false e f g =
        let failed = failed_checks c past q j p x.fused.first x.legal x.fused.first_published
        (one_not_two (fuse x.fused.first) x.fused.first_fuse) y e g in
        (((p, y, refl, e), g, failed), ((p, y), (r, z)))

-- so is the answer by its CIDs' states
pub pair_says : (c : ConfigNumbers) (start past : Past) (q j : ℕ) (s r : CidState) → PairCall c start past q j
    → IsStateOf c past q j s → IsStateOf c past q (suc j) r → CallSays c start past q j Op.Pair (pair_outcome s r)
pair_says c start past q j CidState.Idle r x y z = absurd y
pair_says c start past q j CidState.Waiting r x y z = inl y
pair_says c start past q j (CidState.Answered cqe payload) CidState.Idle x y z = absurd z
pair_says c start past q j (CidState.Answered cqe payload) CidState.Waiting x y z = inr z
pair_says c start past q j (CidState.Answered cqe payload) (CidState.Answered bytes second) x y z =
    subst (λ (a : List ℕ). CallSays c start past q j Op.Pair (Some (pair_answer_of (cqe_status a) (cqe_status bytes))))
    y.2
    (subst (λ (b : List ℕ).
    CallSays c start past q j Op.Pair (Some (pair_answer_of (cqe_status y.0.cqe) (cqe_status b))))
    z.2 (both_say c start past q j y.0 z.0 x y.1 z.1))
