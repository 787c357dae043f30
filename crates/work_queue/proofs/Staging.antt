-- A Work's stage is that of its ticket's entries, and its next task is in its place.
use Rattle.std.proofs.Common.{Bool, None, Option, Some, [], ap, arith, cond, false, is_some, length, not, refl, subst}
use Rattle.std.proofs.Common.{sym, true, ℕ, ◌&&◌, ◌-◌, ◌<◌, ◌∙◌, ◌≡◌, ◌||◌, ◌∷◌, slice_get}
use Rattle.std.specs.List.{find}
use Rattle.std.specs.Prelude.{nat_le, nat_lt, ◌==◌}
use Rattle.std.proofs.lemmas.Bool.Decides.{nat_tests}
use Rattle.nvme_model.specs.History.{Past}
use Rattle.nvme_model.specs.Legal.{IsLegal}
use Rattle.nvme_model.specs.Open.{differed, granted, open_units}
use Rattle.nvme_model.specs.Completions.{completion}
use Rattle.nvme_model.specs.Owed.{completion_data, owed}
use Rattle.nvme_model.specs.Refusals.{next_unit}
use Rattle.nvme_model.specs.Steps.{block_entry, grant_entry, next_entry, post_entry}
use Rattle.nvme_model.specs.Tickets.{posts_of}
use Rattle.nvme_model.specs.declared.array.Range.{Range}
use Rattle.nvme_model.specs.declared.config.ConfigNumbers.{ConfigNumbers}
use Rattle.nvme_model.specs.declared.entry.Entry.{Entry}
use Rattle.nvme_model.specs.declared.entry.FetchLine.{FetchLine}
use Rattle.nvme_model.specs.declared.entry.GrantLine.{GrantLine}
use Rattle.nvme_model.specs.declared.refusal.Why.{Why}
use Rattle.nvme_model.specs.declared.status.Status.{Status}
use Rattle.nvme_model.specs.declared.step.Step.{Step}
use Rattle.controller_interface.specs.State.{answer_of}
use Rattle.controller_interface.specs.declared.answer.Answer.{Answer}
use Rattle.ticket_laws.specs.Entries.{of_ticket, ticket_in}
use Rattle.ticket_laws.specs.Tasks.{Duty, duty_at, first_duty_stage, own_all_ended, own_open, own_stage, task_fault}
use Rattle.ticket_laws.specs.declared.stage.DutyStage.{DutyStage}
use Rattle.ticket_laws.proofs.NewEntries.{named_entry, of_ticket-own}
use Rattle.ticket_laws.proofs.OwnEntries.{own_differed}
use Rattle.ticket_laws.proofs.Stages.{block_stage, grant_stage, post_stage, run_over}
use Rattle.controller_interface.specs.State.{Accepts}
use Rattle.work_queue.specs.Duties.{task_step}
use Rattle.work_queue.specs.Stages.{answer_stage, next_task}
use Rattle.work_queue.specs.declared.task.Task.{Task}
use Rattle.work_queue.specs.declared.task.Task.TheVariants as task

whole : (n : ℕ) → n ≡ n - 0
whole n = omega arith

-- just after the Fetch
pub fetched_stage : (d : Duty) (t : ℕ) (f : FetchLine) → first_duty_stage d ≡ own_stage d t (Entry.Fetch f ∷ [])
fetched_stage d t f = λ i. record {
  left = whole (length d.units) i;
  owing = whole d.statuses i;
  is_open = false;
  differs = false;
}

-- ---- after a task

module _ (c : ConfigNumbers) (past : Past) (t : ℕ) where
  abbrev stage : DutyStage
  stage = own_stage (duty_at c past t) t (of_ticket t past)

  -- what the answer makes of it is what the entry makes of it
  abbrev Moves : Entry → Answer → Type 0
  Moves e a = answer_stage stage a ≡ own_stage (duty_at c (e ∷ past) t) t (e ∷ of_ticket t past)

  by_entry : (e x : Entry) (a : Answer) → e ≡ x → a ≡ answer_of c past e → Moves x (answer_of c past x) → Moves e a
  by_entry e x a is answer m =
      subst (λ (z : Entry × Answer). Moves z.0 z.1) (λ i. (sym is i, (ap (answer_of c past) (sym is) ∙ sym answer) i)) m

  grant_moves : (o : Option Range) → IsLegal c (grant_entry past t o ∷ past)
      → Moves (grant_entry past t o) (answer_of c past (grant_entry past t o))
  grant_moves None h = sym (grant_stage c past _ h)
  grant_moves (Some r) h = sym (grant_stage c past _ h)

  block_moves : (o : Option GrantLine) → IsLegal c (block_entry past t o ∷ past)
      → Moves (block_entry past t o) (answer_of c past (block_entry past t o))
  block_moves None h = sym (block_stage c past _ h)
  block_moves (Some g) h = sym (block_stage c past _ h)

  post_moves : (o : Option Status) → Moves (post_entry c past t o) (answer_of c past (post_entry c past t o))
  post_moves None = sym (post_stage (duty_at c past t) (of_ticket t past)
      (record { ticket = t; cqe = []; payload = [] }))
  post_moves (Some s) = sym
      (post_stage (duty_at c past t) (of_ticket t past)
      (record { ticket = t; cqe = completion c past t s; payload = completion_data c past t s }))

  pub task_moves : (k : Task) (e : Entry) (a : Answer) → IsLegal c (e ∷ past) → Accepts c past (task_step k t) e a
      → Moves e a
  task_moves task.Grant e a h s =
      by_entry e _ a s.1 s.2 (grant_moves (next_unit c past t) (subst (λ x. IsLegal c (x ∷ past)) s.1 h))
  task_moves task.Block e a h s =
      by_entry e _ a s.1 s.2 (block_moves (find (λ g. g.ticket == t) (open_units past))
      (subst (λ x. IsLegal c (x ∷ past)) s.1 h))
  task_moves task.Post e a h s = by_entry e _ a s.1 s.2 (post_moves (slice_get (owed c past t) (posts_of past t)))

  -- what it has to do stays
  grant_duty : (o : Option Range) → duty_at c (grant_entry past t o ∷ past) t ≡ duty_at c past t
  grant_duty None = refl
  grant_duty (Some r) = refl

  block_duty : (o : Option GrantLine) → duty_at c (block_entry past t o ∷ past) t ≡ duty_at c past t
  block_duty None = refl
  block_duty (Some g) = refl

  post_duty : (o : Option Status) → duty_at c (post_entry c past t o ∷ past) t ≡ duty_at c past t
  post_duty None = refl
  post_duty (Some s) = refl

  pub same_duty : (k : Task) (e : Entry) → e ≡ next_entry c past (task_step k t)
      → duty_at c (e ∷ past) t ≡ duty_at c past t
  same_duty task.Grant e is = ap (λ (x : Entry). duty_at c (x ∷ past) t) is ∙ grant_duty (next_unit c past t)
  same_duty task.Block e is = ap (λ (x : Entry). duty_at c (x ∷ past) t) is
      ∙ block_duty (find (λ g. g.ticket == t) (open_units past))
  same_duty task.Post e is = ap (λ (x : Entry). duty_at c (x ∷ past) t) is
      ∙ post_duty (slice_get (owed c past t) (posts_of past t))

  -- and its entry is of the ticket
  pub task_ticket : (k : Task) (e : Entry) → 0 < t → e ≡ next_entry c past (task_step k t) → ticket_in e ≡ t
  task_ticket task.Grant e some is = named_entry c past (Step.Grant t) e is some
  task_ticket task.Block e some is = named_entry c past (Step.Block t) e is some
  task_ticket task.Post e some is = named_entry c past (Step.Post t) e is some

  -- so where the ticket's entries are these, with this one more
  pub stage_after : (k : Task) (e : Entry) (a : Answer) (d : Duty) (its more : Past) (s : DutyStage) → 0 < t
      → IsLegal c (e ∷ past) → Accepts c past (task_step k t) e a → d ≡ duty_at c (e ∷ past) t
      → s ≡ own_stage d t its → more ≡ e ∷ its → of_ticket t (e ∷ past) ≡ more → answer_stage s a ≡ own_stage d t more
  stage_after k e a d its more s some h acc duty is grows all =
      let own : e ∷ of_ticket t past ≡ e ∷ its = sym (of_ticket-own t past e (task_ticket k e some acc.1))
      ∙ (all ∙ grows) in
      let rest : of_ticket t past ≡ its = cc in
      let before : own_stage d t its ≡ stage = λ i. own_stage ((duty ∙ same_duty k e acc.1) i) t (sym rest i) in
      let after : own_stage (duty_at c (e ∷ past) t) t (e ∷ of_ticket t past) ≡ own_stage d t more =
      λ i. own_stage (sym duty i) t ((own ∙ sym grows) i) in
      ap (λ x. answer_stage x a) (is ∙ before) ∙ (task_moves k e a h acc ∙ after)

-- ---- the task that is next

flying : (s p : ℕ) → ((s - p) == 0) ≡ false → not (nat_lt p s) ≡ false
flying s p e = grind (arith, nat_tests)

some_left : (m n : ℕ) → ((m - n) == 0) ≡ false → nat_le m n ≡ false
some_left m n e = grind (arith, nat_tests)

none_left : (m n : ℕ) → ((m - n) == 0) ≡ true → nat_le m n ≡ true
none_left m n e = grind (arith, nat_tests)

rows : (x y : Bool) → x ≡ false → y ≡ false → cond x (Some Why.NoTicket) (cond y (Some Why.WrongState) None) ≡ None
rows x y ex ey = λ i. cond (ex i) (Some Why.NoTicket) (cond (ey i) (Some Why.WrongState) None)

over : (o a d : Bool) → d ≡ true → (o && not (a || d)) ≡ false
over true true d e = refl
over true false d e = ap not e
over false a d e = refl

ran : (o a d : Bool) → a ≡ true → (o && not (a || d)) ≡ false
ran true a d e = λ i. not (e i || d)
ran false a d e = refl

module _ (c : ConfigNumbers) (past : Past) (t : ℕ) (h : IsLegal c past) where
  abbrev D : Duty
  D = duty_at c past t

  abbrev I : Past
  I = of_ticket t past

  by_tests : (k : Task) (a b e l : Bool) → ((own_stage D t I).owing == 0) ≡ a → own_open D.op I t ≡ b → differed I t ≡ e
      → ((own_stage D t I).left == 0) ≡ l
      → cond a None (cond b (Some task.Block) (cond (e || l) (Some task.Post) (Some task.Grant))) ≡ Some k
      → task_fault D t I (task_step k t) ≡ None
  by_tests k true b e l ea eb ee el is = absurd (let f : None ≡ Some k = is in cc)
  by_tests k false true e l ea eb ee el is =
      let same : task.Block ≡ k = cc in
      subst (λ k. task_fault D t I (task_step k t) ≡ None) same
      (rows _ _ (flying D.statuses (posts_of I t) ea) (ap not eb))
  by_tests k false false true l ea eb ee el is =
      let same : task.Post ≡ k = cc in
      subst (λ k. task_fault D t I (task_step k t) ≡ None) same
      (rows _ _ (flying D.statuses (posts_of I t) ea) (over (is_some D.op) (own_all_ended D I t) (differed I t) ee))
  by_tests k false false false true ea eb ee el is =
      let same : task.Post ≡ k = cc in
      let all = none_left (length D.units) (length (granted I)) el in
      subst (λ k. task_fault D t I (task_step k t) ≡ None) same
      (rows _ _ (flying D.statuses (posts_of I t) ea)
      (ran (is_some D.op) (own_all_ended D I t) (differed I t)
      (run_over c past t h (sym (own_differed t past) ∙ ee) all eb)))
  by_tests k false false false false ea eb ee el is =
      let same : task.Grant ≡ k = cc in
      subst (λ k. task_fault D t I (task_step k t) ≡ None) same
      (rows _ _ (flying D.statuses (posts_of I t) ea)
      (λ i. (some_left (length D.units) (length (granted I)) el i || ee i) || eb i))

  pub next_allowed : (k : Task) → next_task (own_stage D t I) ≡ Some k → task_fault D t I (task_step k t) ≡ None
  next_allowed k is = by_tests k _ _ _ _ refl refl refl refl is
