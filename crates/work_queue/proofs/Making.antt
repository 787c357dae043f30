-- The Work of a ticket that was just fetched.
use Rattle.std.proofs.Common.{Bool, List, None, Option, Some, [], ap, arith, cond, eq-eqb, eqb, false, length, refl}
use Rattle.std.proofs.Common.{subst, sym, true, ℕ, ◌+◌, ◌∙◌, ◌≡◌, ◌||◌, ◌∷◌}
use Rattle.std.specs.List.{list_any}
use Rattle.std.proofs.lemmas.Bool.{cond-true}
use Rattle.nvme_model.specs.Commands.{is_compare, is_read, is_write, is_write_zeroes}
use Rattle.nvme_model.specs.EntryBytes.{block_count, slba}
use Rattle.nvme_model.specs.History.{Past}
use Rattle.nvme_model.specs.Legal.{IsLegal}
use Rattle.nvme_model.specs.Operations.{is_pair, op, op_of_fields, units, units_by}
use Rattle.nvme_model.specs.Tickets
use Rattle.nvme_model.specs.Tickets.{Ticket, fetched_ticket, first_fields, next_verdict, tickets}
use Rattle.nvme_model.specs.Verdict.{taken_entries}
use Rattle.nvme_model.specs.declared.config.ConfigNumbers.{ConfigNumbers}
use Rattle.nvme_model.specs.declared.entry.Entry.{Entry}
use Rattle.nvme_model.specs.declared.entry.FetchLine.{FetchLine}
use Rattle.nvme_model.specs.declared.operation.Op.{Op}
use Rattle.nvme_model.specs.declared.status.Verdict.{Verdict}
use Rattle.nvme_model.specs.declared.step.Step.{Step}
use Rattle.nvme_model.specs.declared.submission.Submission.{Submission}
use Rattle.controller_interface.specs.State.{answer_of, judged_by, work_of}
use Rattle.controller_interface.specs.Works.{TicketWork}
use Rattle.controller_interface.specs.declared.answer.Answer.{Answer}
use Rattle.ticket_laws.specs.Entries.{ticket_in}
use Rattle.ticket_laws.specs.Tasks.{first_duty_stage, own_stage}
use Rattle.work_queue.proofs.Staging.{fetched_stage}
use Rattle.ticket_laws.proofs.Later.{fetched_commands}
use Rattle.controller_interface.specs.State.{Accepts}
use Rattle.work_queue.specs.Duties.{IsWorkAt, duty_of, is_fetch_of}

-- ---- what a ticket has to do is what its Work says

no_pair : (a b d e : Bool)
    → is_pair (cond a (Some Op.Write)
    (cond b (Some Op.Read) (cond d (Some Op.Compare) (cond e (Some Op.WriteZeroes) None)))) ≡ false
no_pair true b d e = refl
no_pair false true d e = refl
no_pair false false true e = refl
no_pair false false false true = refl
no_pair false false false false = refl

by_op : (c : ConfigNumbers) (t : ℕ) (k : Ticket) (o : Option Op) → is_pair o ≡ false
    → duty_of (record { ticket = t; atomic = c.atomic; judged = judged_by k o }) ≡ record {
      statuses = 1;
      op = o;
      units = units_by c.atomic o (slba (first_fields k)) (block_count (first_fields k));
    }
by_op c t k None e = refl
by_op c t k (Some Op.Read) e = refl
by_op c t k (Some Op.Compare) e = refl
by_op c t k (Some Op.Write) e = refl
by_op c t k (Some Op.WriteZeroes) e = refl
by_op c t k (Some Op.Pair) e = absurd (let f : true ≡ false = e in cc)

by_verdict : (c : ConfigNumbers) (t q : ℕ) (ks : List Submission) (v : Verdict)
    → duty_of (work_of c t (record { queue = q; commands = ks; verdict = v }))
    ≡ record {
      statuses = taken_entries v;
      op = op (record { queue = q; commands = ks; verdict = v });
      units = units c (record { queue = q; commands = ks; verdict = v });
    }
by_verdict c t q ks Verdict.Single =
    let k : Ticket = record { queue = q; commands = ks; verdict = Verdict.Single } in
    let f = first_fields k in
    by_op c t k (op_of_fields f) (no_pair (is_write f) (is_read f) (is_compare f) (is_write_zeroes f))
by_verdict c t q ks Verdict.Pair = refl
by_verdict c t q ks (Verdict.SingleFailed s) = refl
by_verdict c t q ks (Verdict.PairFailed s r) = refl

-- the line of the next Fetch of queue q
abbrev line : ConfigNumbers → Past → ℕ → FetchLine
line c past q = record { queue = q; ticket = tickets past + 1; verdict = next_verdict c past q }

-- ---- and the Work is that of the ticket

pub fresh_work : (c : ConfigNumbers) (past : Past) (q : ℕ) → IsLegal c past
    → IsLegal c (Entry.Fetch (line c past q) ∷ past)
    → Rattle.nvme_model.specs.Refusals.refusal c past (Step.Fetch q) ≡ None
    → IsWorkAt c (Entry.Fetch (line c past q) ∷ past)
    (work_of c (tickets past + 1) (fetched_ticket past q (next_verdict c past q))) q
fresh_work c past q h now none =
    let f : FetchLine = line c past q in
    let t : ℕ = tickets past + 1 in
    let k : Ticket = fetched_ticket past q f.verdict in
    let here : Tickets.ticket (Entry.Fetch f ∷ past) t ≡ k = cond-true (eqb t t) _ _ (eq-eqb t t refl) in
    let all : length k.commands ≡ taken_entries f.verdict = fetched_commands c past q h none in
    let is : duty_of (work_of c t k) ≡ record { statuses = length k.commands; op = op k; units = units c k } =
    by_verdict c t q k.commands f.verdict ∙ (λ i. record { statuses = sym all i; op = op k; units = units c k }) in
    record {
      some = omega arith;
      known = omega arith;
      stands = ap (λ b. b || list_any (is_fetch_of t) past) (eq-eqb t t refl);
      duty = is ∙ ap (λ (x : Ticket). record { statuses = length x.commands; op = op x; units = units c x }) (sym here);
      from = ap (λ (x : Ticket). x.queue) here;
      legal = now;
    }

-- a Fetch is answered with it
pub fetched_work : (c : ConfigNumbers) (past : Past) (q : ℕ) (e : Entry) (a : Answer) (w : TicketWork) → IsLegal c past
    → IsLegal c (e ∷ past) → Accepts c past (Step.Fetch q) e a → a ≡ Answer.Fetched w
    → (ticket_in e ≡ w.ticket) × IsWorkAt c (e ∷ past) w q
    × (first_duty_stage (duty_of w) ≡ own_stage (duty_of w) w.ticket (e ∷ [])) × (is_fetch_of w.ticket e ≡ true)
fetched_work c past q e a w h now s is =
    let made : TicketWork = work_of c (tickets past + 1) (fetched_ticket past q (next_verdict c past q)) in
    let same : Answer.Fetched made ≡ Answer.Fetched w = sym (s.2 ∙ ap (answer_of c past) s.1) ∙ is in
    let work : made ≡ w = cc in (
      ap ticket_in s.1 ∙ ap (λ (x : TicketWork). x.ticket) work,
      subst (λ (z : Entry × TicketWork). IsWorkAt c (z.0 ∷ past) z.1 q) (λ i. (sym s.1 i, work i))
          (fresh_work c past q h (subst (λ (z : Entry). IsLegal c (z ∷ past)) s.1 now) s.0),
      fetched_stage (duty_of w) w.ticket (line c past q)
          ∙ ap (λ (z : Entry). own_stage (duty_of w) w.ticket (z ∷ [])) (sym s.1),
      ap (is_fetch_of w.ticket) s.1 ∙ eq-eqb (tickets past + 1) w.ticket (ap (λ (x : TicketWork). x.ticket) work),
    )
