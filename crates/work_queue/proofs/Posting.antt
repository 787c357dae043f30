-- The completion that a Post answers is posted.
use Rattle.std.proofs.Common.{[], None, Option, Some, ap, eq-eqb, false, refl, subst, sym, ℕ, ◌++◌, ◌∙◌, ◌≡◌, ◌||◌, ◌∷◌}
use Rattle.std.proofs.Common.{if◌then◌else◌, slice_get}
use Rattle.std.specs.List.{find, list_any}
use Rattle.std.specs.Prelude.{bytes_eq, ◌==◌}
use Rattle.std.proofs.Math.Bool.{or-true}
use Rattle.std.proofs.lemmas.List.Folds.{list_any-append}
use Rattle.std.proofs.lemmas.Slice.Eq.{bytes_eq-Decides}
use Rattle.nvme_model.specs.Completions.{completion, posted_completions}
use Rattle.nvme_model.specs.Config.{completion_queue}
use Rattle.nvme_model.specs.History.{Past}
use Rattle.nvme_model.specs.Open.{open_units}
use Rattle.nvme_model.specs.Passes.{SharedPast, entries}
use Rattle.nvme_model.specs.Owed.{completion_data, owed}
use Rattle.nvme_model.specs.Refusals.{next_unit}
use Rattle.nvme_model.specs.Steps.{block_entry, grant_entry, post_entry}
use Rattle.nvme_model.specs.Tickets.{posts_of, ticket}
use Rattle.nvme_model.specs.declared.array.Range.{Range}
use Rattle.nvme_model.specs.declared.config.ConfigNumbers.{ConfigNumbers}
use Rattle.nvme_model.specs.declared.entry.Entry.{Entry}
use Rattle.nvme_model.specs.declared.entry.GrantLine.{GrantLine}
use Rattle.nvme_model.specs.declared.entry.PostLine.{PostLine}
use Rattle.nvme_model.specs.declared.status.Status.{Status}
use Rattle.controller_interface.specs.State.{Accepts, answer_of}
use Rattle.controller_interface.specs.declared.answer.Answer.{Answer}
use Rattle.meet_lock.specs.Passes.{Accepted, config_of, seen}
use Rattle.work_queue.specs.Duties.{task_step}
use Rattle.work_queue.specs.Engines.{EnginePass}
use Rattle.work_queue.specs.Posted.{IsAnswerPosted, IsPostedTo}
use Rattle.work_queue.specs.declared.task.Task.{Task}
use Rattle.work_queue.specs.declared.task.Task.TheVariants as task

-- so it is to the completion queue of ticket t
abbrev IsTicketPosted : ConfigNumbers → Past → ℕ → Answer → Type 0
IsTicketPosted c past t a = IsAnswerPosted c past (ticket past t).queue a

module _ (c : ConfigNumbers) (past : Past) where
  newest : (p : PostLine) → IsPostedTo c (Entry.Post p ∷ past) (completion_queue c (ticket past p.ticket).queue) p.cqe
  newest p =
      let q : ℕ = completion_queue c (ticket past p.ticket).queue in
      ap (λ b. list_any (λ (r : PostLine). bytes_eq r.cqe p.cqe)
      (posted_completions c past q ++ (if b then p ∷ [] else []))) (eq-eqb q q refl)
      ∙ (list_any-append (λ (r : PostLine). bytes_eq r.cqe p.cqe) (posted_completions c past q) (p ∷ [])
      ∙ (ap (λ b. list_any (λ (r : PostLine). bytes_eq r.cqe p.cqe) (posted_completions c past q) || (b || false))
      ((bytes_eq-Decides p.cqe p.cqe).1 refl)
      ∙ or-true (list_any (λ (r : PostLine). bytes_eq r.cqe p.cqe) (posted_completions c past q))))

  module _ (t : ℕ) where
    by_grant : (o : Option Range)
        → IsTicketPosted c (grant_entry past t o ∷ past) t (answer_of c past (grant_entry past t o))
    by_grant None = tt
    by_grant (Some r) = tt

    by_block : (o : Option GrantLine)
        → IsTicketPosted c (block_entry past t o ∷ past) t (answer_of c past (block_entry past t o))
    by_block None = tt
    by_block (Some g) = tt

    by_post : (o : Option Status)
        → IsTicketPosted c (post_entry c past t o ∷ past) t (answer_of c past (post_entry c past t o))
    by_post None = newest (record { ticket = t; cqe = []; payload = [] })
    by_post (Some s) = newest (record { ticket = t; cqe = completion c past t s; payload = completion_data c past t s })

    by_entry : (e x : Entry) (a : Answer) → e ≡ x → a ≡ answer_of c past e
        → IsTicketPosted c (x ∷ past) t (answer_of c past x)
        → IsTicketPosted c (e ∷ past) t a
    by_entry e x a is answer m =
        subst (λ (z : Entry × Answer). IsTicketPosted c (z.0 ∷ past) t z.1)
        (λ i. (sym is i, (ap (answer_of c past) (sym is) ∙ sym answer) i)) m

    pub answer_posted : (k : Task) (e : Entry) (a : Answer) → Accepts c past (task_step k t) e a
        → IsTicketPosted c (e ∷ past) t a
    answer_posted task.Grant e a s = by_entry e _ a s.1 s.2 (by_grant (next_unit c past t))
    answer_posted task.Block e a s = by_entry e _ a s.1 s.2 (by_block (find (λ g. g.ticket == t) (open_units past)))
    answer_posted task.Post e a s = by_entry e _ a s.1 s.2 (by_post (slice_get (owed c past t) (posts_of past t)))

pub told_posted : (p q : EnginePass) (k : Task) (t n : ℕ) (a : Answer) → config_of q ≡ config_of p
    → (ticket (entries (seen q)) t).queue ≡ n
    → Accepted Accepts p q (task_step k t) a → IsAnswerPosted (config_of q) (entries (seen q)) n a
told_posted p q k t n a same from h =
    subst (λ (m : ℕ). IsAnswerPosted (config_of q) (entries (seen q)) m a) from
    (subst (λ (z : ConfigNumbers × SharedPast). IsTicketPosted z.0 (entries z.1) t a) (λ i. (sym same i, sym h.ends i))
    (answer_posted (config_of p) (entries h.before) t k h.entry a h.says))
