-- What the answer to a command by itself says of the history.
use Rattle.std.proofs.Common.{◌≡◌, ℕ, Bool, true, false, ◌&&◌, cond, List, refl, ap, subst, Err, None, Ok, Option}
use Rattle.std.proofs.Common.{Result, Some}
use Rattle.nvme_model.specs.History.{Past}
use Rattle.nvme_model.specs.Legal.{IsLegal}
use Rattle.nvme_model.specs.Statuses.{compare_failure, is_success, same_status}
use Rattle.nvme_model.specs.declared.config.ConfigNumbers.{ConfigNumbers}
use Rattle.nvme_model.specs.declared.entry.PostLine.{PostLine}
use Rattle.nvme_model.specs.declared.operation.Op.{Op}
use Rattle.nvme_model.specs.declared.status.Status.{Status}
use Rattle.nvme_model.proofs.Cut.{clash}
use Rattle.host_laws.specs.Calls.{IsDone, IsSingle, reaped_post, cqe_status, takes}
use Rattle.host_laws.proofs.FailedCalls.{failed_checks}
use Rattle.host_laws.proofs.SingleCalls.{compare_differs, done, only_compares}
use Rattle.host_laws.proofs.Units.{equal_units}
use Rattle.host_laws.proofs.Verdicts.{no_pair, status_eq}
use Rattle.driver_calls.specs.Answers.{command_answer, is_compare_op, reply_of}
use Rattle.driver_calls.specs.Says.{FailedSays, IsAfter, IsEntryReaped, ReplySays, one_outcome}
use Rattle.driver_calls.specs.declared.event.CidState.{CidState}
use Rattle.driver_calls.specs.declared.reply.Reply.{Reply}

-- what the state of a CID says of the entry that it names
abbrev pub IsStateOf : ConfigNumbers → Past → ℕ → ℕ → CidState → Type 0
IsStateOf c past q j CidState.Idle = ⊥
IsStateOf c past q j CidState.Waiting = reaped_post c past q j ≡ None
IsStateOf c past q j (CidState.Answered cqe payload) =
    (p : PostLine) × (reaped_post c past q j ≡ Some p) × (p.cqe ≡ cqe) × (p.payload ≡ payload)

-- entry j of submission queue q is a command by itself that does o, and was published after the start
pub record SingleCall (c : ConfigNumbers) (start past : Past) (q j : ℕ) (o : Op) : Type 0 where
  pub legal : IsLegal c past
  pub single : IsSingle past q j o
  pub after : (t : ℕ) → takes past t q j ≡ true → IsAfter start t

-- ---- its replies

-- with success it is done
single_done : (c : ConfigNumbers) (start past : Past) (q j : ℕ) (o : Op) (p : PostLine) → SingleCall c start past q j o
    → reaped_post c past q j ≡ Some p → is_success (cqe_status p.cqe) ≡ true → IsDone c past q j o p.payload
single_done c start past q j o p x r y =
    let s = x.single in
    done c past q j p s.entry o x.legal s.published s.not_first s.not_second s.does (no_pair s.entry o s.does) r y

-- the reply to success is true
success_says : (c : ConfigNumbers) (start past : Past) (q j : ℕ) (o : Op) (p : PostLine) → SingleCall c start past q j o
    → reaped_post c past q j ≡ Some p → is_success (cqe_status p.cqe) ≡ true
    → ReplySays c start past q j o (reply_of o p.payload)
success_says c start past q j Op.Read p x r y = let d = single_done c start past q j Op.Read p x r y in
    (d, x.after d.ticket d.takes)
success_says c start past q j Op.Write p x r y = let d = single_done c start past q j Op.Write p x r y in
    (p.payload, d, x.after d.ticket d.takes)
success_says c start past q j Op.WriteZeroes p x r y = let d = single_done c start past q j Op.WriteZeroes p x r y in
    (p.payload, d, x.after d.ticket d.takes)
success_says c start past q j Op.Compare p x r y =
    let d = single_done c start past q j Op.Compare p x r y in
    (p.payload, d, equal_units c past q j p.payload d, x.after d.ticket d.takes)
success_says c start past q j Op.Pair p x r y =
    absurd (let f : true ≡ false = no_pair x.single.entry Op.Pair x.single.does in cc)

-- so is that to Compare Failure
difference_says : (c : ConfigNumbers) (start past : Past) (q j : ℕ) (o : Op) (p : PostLine)
    → SingleCall c start past q j o → reaped_post c past q j ≡ Some p → cqe_status p.cqe ≡ compare_failure
    → is_compare_op o ≡ true
    → ReplySays c start past q j o Reply.Differs
difference_says c start past q j Op.Compare p x r y k =
    let s = x.single in
    let d = compare_differs c past q j p s.entry Op.Compare x.legal s.published s.not_first s.not_second s.does
    (no_pair s.entry Op.Compare s.does) r y in
    (d, x.after d.ticket d.takes)
difference_says c start past q j Op.Read p x r y k = absurd (let f : false ≡ true = k in cc)
difference_says c start past q j Op.Write p x r y k = absurd (let f : false ≡ true = k in cc)
difference_says c start past q j Op.WriteZeroes p x r y k = absurd (let f : false ≡ true = k in cc)
difference_says c start past q j Op.Pair p x r y k = absurd (let f : false ≡ true = k in cc)

-- ---- its answer

-- what its answer says
pub record OneSays (c : ConfigNumbers) (start past : Past) (q j : ℕ) (o : Op)
    (P : Option (Result Reply Status) → Type 0) : Type 0 where
  pub none : reaped_post c past q j ≡ None → P None
  pub ok : (r : Reply) → ReplySays c start past q j o r → IsEntryReaped c past q j → P (Some (Ok r))
  pub err : (s : Status) → FailedSays c past q j s → IsEntryReaped c past q j → P (Some (Err s))

-- so is the answer to any completion
answered_says : (c : ConfigNumbers) (start past : Past) (q j : ℕ) (o : Op) (P : Option (Result Reply Status) → Type 0)
    (p : PostLine) → SingleCall c start past q j o → OneSays c start past q j o P
    → reaped_post c past q j ≡ Some p → P (Some (command_answer o (cqe_status p.cqe) p.payload))
answered_says c start past q j o P p x k r =
    go (is_success (cqe_status p.cqe)) (same_status (cqe_status p.cqe) compare_failure) (is_compare_op o) refl refl refl
  where
    go : (a b d : Bool) → is_success (cqe_status p.cqe) ≡ a → same_status (cqe_status p.cqe) compare_failure ≡ b
        → is_compare_op o ≡ d
        → P (Some (cond a (Ok (reply_of o p.payload)) (cond (b && d) (Ok Reply.Differs) (Err (cqe_status p.cqe)))))
    go true b d e f g = k.ok (reply_of o p.payload) (success_says c start past q j o p x r e) (p, r)
    go false true true e f g =
        k.ok Reply.Differs (difference_says c start past q j o p x r (status_eq (cqe_status p.cqe) compare_failure f) g)
        (p, r)
    go false true false e f g =
        let s = x.single in
        let compares = only_compares c past q j p s.entry o x.legal s.published s.not_first s.not_second s.does
        (no_pair s.entry o s.does) r (status_eq (cqe_status p.cqe) compare_failure f) in
        clash (is_compare_op o) (ap is_compare_op compares) g
    go false false d e f g =
        let s = x.single in
        k.err (cqe_status p.cqe) (
          (p, r, refl, e),
          f,
          failed_checks c past q j p s.entry x.legal s.published s.not_second r e f,
        ) (p, r)

-- so is the answer by its CID's state
pub single_says : (c : ConfigNumbers) (start past : Past) (q j : ℕ) (o : Op) (P : Option (Result Reply Status) → Type 0)
    (s : CidState) → SingleCall c start past q j o → OneSays c start past q j o P → IsStateOf c past q j s
    → P (one_outcome o s)
single_says c start past q j o P CidState.Idle x k h = absurd h
single_says c start past q j o P CidState.Waiting x k h = k.none h
single_says c start past q j o P (CidState.Answered cqe payload) x k h =
    subst (λ (bytes : List ℕ). P (Some (command_answer o (cqe_status bytes) payload))) h.2
    (subst (λ (data_of : List ℕ). P (Some (command_answer o (cqe_status h.0.cqe) data_of))) h.3
    (answered_says c start past q j o P h.0 x k h.1))
