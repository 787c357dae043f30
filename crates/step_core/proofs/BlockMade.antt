-- A Block that isn't refused: what the calls that make it require, what it answers, and the fields after it.
use Rattle.std.proofs.Common.{◌≡◌, ℕ, suc, ◌-◌, Bool, true, false, cond, List, ◌∷◌, map, refl, sym, ap, ap₂, ◌∙◌, subst}
use Rattle.std.proofs.Common.{Ok, Some, None, not, ◌==◌}
use Rattle.std.specs.Prelude.{is_none, is_some}
use Rattle.std.proofs.lemmas.Bool.{not-false}
use Rattle.nvme_model.specs.declared.config.ConfigNumbers.{ConfigNumbers}
use Rattle.nvme_model.specs.declared.entry.BlockLine.{BlockLine}
use Rattle.nvme_model.specs.declared.entry.Entry.{Entry}
use Rattle.nvme_model.specs.declared.entry.GrantLine.{GrantLine}
use Rattle.nvme_model.specs.declared.operation.Op.{Op}
use Rattle.nvme_model.specs.declared.step.Step.{Step}
use Rattle.nvme_model.specs.History.{Past}
use Rattle.nvme_model.specs.Legal.{IsLegal}
use Rattle.nvme_model.specs.Medium.{medium}
use Rattle.nvme_model.specs.Open.{open_units}
use Rattle.nvme_model.specs.Refusals.{conditions, refusal}
use Rattle.ticket_laws.specs.Standing.{blocks_left, standing}
use Rattle.nvme_model.specs.Steps.{next_entry}
use Rattle.nvme_model.specs.Tickets.{in_flight}
use Rattle.nvme_model.specs.Kept.{ControllerInvariant}
use Rattle.ticket_laws.proofs.Opening.{block_open_beside, block_open_on}
use Rattle.nvme_model.proofs.Rules.{none_holds}
use Rattle.ticket_laws.proofs.Standings.{block_other}
use Rattle.range_reserve.specs.Reserved.{by_ticket, held_beside, held_of}
use Rattle.range_reserve.specs.declared.held.HeldRange.{HeldRange}
use Rattle.range_reserve.proofs.Granted.{held_beside-map}
use Rattle.range_reserve.proofs.Rising.{filter-by_ticket}
use Rattle.block_exec.specs.Bytes.{block_at, volume_with}
use Rattle.block_exec.specs.Course.{next_done}
use Rattle.block_exec.specs.Progress.{UnitProgress}
use Rattle.block_exec.specs.Units.{progress_of}
use Rattle.block_exec.specs.declared.run.Done.{Done}
use Rattle.rings.specs.Completions.{CompletionRing}
use Rattle.rings.specs.Submissions.{SubmissionRing}
use Rattle.job_table.specs.Jobs.{JobTable, has_job_of, job_of, replaced}
use Rattle.job_table.proofs.TicketLookups.{is_some-job_of}
use Rattle.job_table.specs.Keeping.{CanMake, Keeping, finds_equal, noted_job, read_of, written_on}
use Rattle.job_table.specs.Stages.{IfOpen, is_open, unit_in}
use Rattle.job_table.specs.declared.progress.TicketStage.{TicketStage}
use Rattle.job_table.specs.declared.progress.TicketStage.TheVariants.{Open}
use Rattle.rings.specs.Queues.{completion_ring, submission_ring}
use Rattle.job_table.specs.Tickets.{job_at}
use Rattle.step_core.specs.Kept.{CoreFields, IsCoreOf}
use Rattle.rings.specs.Tables.{IsTable}
use Rattle.controller_interface.specs.State.{Room, ControllerState, Serves, TakesRoom, answer_of}
use Rattle.controller_interface.specs.declared.answer.Answer.{Answer}
use Rattle.step_core.proofs.BlockData.{IsUnit, done_same, finds_same, stage_is, unit_found}
use Rattle.step_core.proofs.BlockKept.{read_now, volume_now}
use Rattle.step_core.proofs.Blocked.{done_is, done_now, ended_is, entry_is, is_equal, job_now, line_now}
use Rattle.step_core.proofs.Moves.{job_found, jobs_moved, legal_after, stepped as next_kept}
use Rattle.rings.proofs.Tables.{IsTable-same}
use Rattle.step_core.proofs.Written.{can_make}
use Rattle.step_core.proofs.WrittenOn.{write_now}

-- ---- the rings are as they were

submission_kept : (c : ConfigNumbers) (past : Past) (b : BlockLine) (q : ℕ)
    → submission_ring c (Entry.Block b ∷ past) q ≡ submission_ring c past q
unfolding submission_ring
submission_kept c past b q = refl

completion_kept : (c : ConfigNumbers) (past : Past) (b : BlockLine) (q : ℕ)
    → completion_ring c (Entry.Block b ∷ past) q ≡ completion_ring c past q
unfolding completion_ring
completion_kept c past b q = refl

-- ---- what making a Block says, by the unit that is open

-- the call that made it says so
pub record IsMade (y : Keeping) (v : List (List ℕ)) (d : Done) (v' : List (List ℕ)) (y' : Keeping) : Type 0 where
  pub done : IfOpen y.progress.stage (λ p. d ≡ next_done p (finds_equal y p v))
  pub volume : IfOpen y.progress.stage (λ p. v' ≡ volume_with p v (block_at y.write 0) d.found)
  pub job : IfOpen y.progress.stage (λ p. y' ≡ noted_job y p v d.found)

module _ (c : ConfigNumbers) (past : Past) (fields : CoreFields) (k : IsCoreOf c past fields) (t : ℕ)
    (none : refusal c past (Step.Block t) ≡ None) where
  abbrev v : List (List ℕ)
  v = fields.volume

  abbrev s : List SubmissionRing
  s = fields.submission

  abbrev q : List CompletionRing
  q = fields.completion

  abbrev j : JobTable
  j = fields.jobs

  abbrev r : List HeldRange
  r = fields.held

  abbrev n : ℕ
  n = fields.tickets

  there : job_of j.jobs t ≡ Some (job_at c past t)
  there =
      let rows = none_holds (conditions c past (Step.Block t)) (ap is_none none) in
      ap (λ (x : JobTable). job_of x.jobs t) k.jobs ∙ job_found c past t k.run.legal
      ∙ ap (λ b. cond b (Some (job_at c past t)) None) (not-false (in_flight past t) rows.0)

  -- its ticket has a job
  pub has_job : has_job_of j.jobs t ≡ true
  has_job = sym (is_some-job_of j.jobs t) ∙ ap is_some there

  module _ (y : Keeping) (f : Some y ≡ job_of j.jobs t) where
    job_is : y ≡ job_at c past t
    job_is = some_inj (f ∙ there)
      where
        some_inj : Some y ≡ Some (job_at c past t) → y ≡ job_at c past t
        some_inj h = cc

    stands_open : (g : GrantLine) (o : Op) → IsUnit c past t g o
        → y.progress.stage ≡ Open (progress_of past t g.unit o g.range) g.unit (blocks_left c (standing past t))
    stands_open g o u = ap (λ (x : Keeping). x.progress.stage) job_is ∙ stage_is c past t k.run.legal g o u

    -- a unit of it is open
    pub opened : is_open y.progress.stage ≡ true
    opened = let u = unit_found c past t k.run.legal none in ap is_open (stands_open u.0 u.1 u.2)

    -- its next Block can be made
    pub ready : IfOpen y.progress.stage (λ p. CanMake y p v)
    ready =
        let u = unit_found c past t k.run.legal none in
        subst (λ (x : Keeping). IfOpen x.progress.stage (λ p. CanMake x p v)) (sym job_is)
        (subst (λ (s : TicketStage). IfOpen s (λ p. CanMake (job_at c past t) p v))
        (sym (stage_is c past t k.run.legal u.0 u.1 u.2))
        (can_make c past t k.run.legal u.0 u.1 u.2 v k.volume.size))

    module _ (n' : ℕ) (number : n' ≡ unit_in (job_at c past t).progress.stage) (d : Done) (v' : List (List ℕ))
        (y' : Keeping) (m : IsMade y v d v' y') where
      -- what a clause says of the job's open unit it says of the ticket's
      at_run : (g : GrantLine) (o : Op) → IsUnit c past t g o → (P : Keeping → UnitProgress → Type 0)
          → IfOpen y.progress.stage (P y) → P (job_at c past t) (progress_of past t g.unit o g.range)
      at_run g o u P h =
          subst (λ (s : TicketStage). IfOpen s (P (job_at c past t))) (stage_is c past t k.run.legal g o u)
          (subst (λ (x : Keeping). IfOpen x.progress.stage (P x)) job_is h)

      same : (g : GrantLine) (o : Op) → IsUnit c past t g o
          → next_done (progress_of past t g.unit o g.range)
          (finds_equal (job_at c past t) (progress_of past t g.unit o g.range) v) ≡ done_now past t g o
      same g o u =
          let p : UnitProgress = progress_of past t g.unit o g.range in
          done_same p (finds_equal (job_at c past t) p v) (is_equal past t g o)
          (finds_same c past t k.run.legal g o u v k.volume)

      says : (g : GrantLine) (o : Op) → IsUnit c past t g o → d ≡ done_now past t g o
      says g o u = at_run g o u (λ x p. d ≡ next_done p (finds_equal x p v)) m.done ∙ same g o u

      line_is : (g : GrantLine) (o : Op) → IsUnit c past t g o
          → Entry.Block (record { ticket = t; unit = n'; lba = d.lba; found = d.found; effect = d.effect })
          ≡ Entry.Block (line_now past t g o)
      line_is g o u =
          (λ z. Entry.Block (record {
            ticket = t;
            unit = (number ∙ ap unit_in (stage_is c past t k.run.legal g o u)) z;
            lba = (says g o u z).lba;
            found = (says g o u z).found;
            effect = (says g o u z).effect;
          }))

      -- its line is the next entry
      pub next_is : Entry.Block (record { ticket = t; unit = n'; lba = d.lba; found = d.found; effect = d.effect })
          ≡ next_entry c past (Step.Block t)
      next_is = let u = unit_found c past t k.run.legal none in line_is u.0 u.1 u.2 ∙ entry_is c past t u.0 u.1 u.2

      legal_then : (g : GrantLine) (o : Op) → IsUnit c past t g o → IsLegal c (Entry.Block (line_now past t g o) ∷ past)
      legal_then g o u = legal_after c past (Step.Block t) (Entry.Block (line_now past t g o)) k.run none
          (entry_is c past t g o u)

      -- and it answers what that says
      pub answer_is : Answer.Blocked d ≡ answer_of c past (next_entry c past (Step.Block t))
      answer_is =
          let u = unit_found c past t k.run.legal none in
          ap Answer.Blocked (says u.0 u.1 u.2 ∙ done_is c past t u.0 u.1 u.2 (legal_then u.0 u.1 u.2) k.run.legal)
          ∙ ap (answer_of c past) (entry_is c past t u.0 u.1 u.2)

      -- so the step is done
      pub block_does : (x : ControllerState) (p p' f f' : ℕ) (w w' : Room) (h past' : Past)
          → record { config = c; past = past; forgotten = f; promised = p; room = w } ≡ x → f' ≡ f → h ≡ past
          → past' ≡ Entry.Block (record { ticket = t; unit = n'; lba = d.lba; found = d.found; effect = d.effect }) ∷ h
          → p' ≡ p - 1 → TakesRoom (Step.Block t) w w'
          → Serves x (Step.Block t) (Ok (Answer.Blocked d))
          (record { config = c; past = past'; forgotten = f'; promised = p'; room = w' })
      block_does x p p' f f' w w' h past' view lost same_past is_past is_left takes =
          subst (λ (y : ControllerState). Serves y (Step.Block t) (Ok (Answer.Blocked d))
          (record { config = c; past = past'; forgotten = f'; promised = p'; room = w' })) view (
            (none, refl, answer_is),
            (λ z. record {
              config = c;
              past = (is_past ∙ ap₂ (λ (e : Entry) (w : Past). e ∷ w) next_is same_past) z;
              forgotten = lost z;
              promised = is_left z;
              room = w';
            }),
            takes,
          )

      -- the fields after it
      pub kept : (h past' : Past) (r' : List HeldRange) → h ≡ past
          → past' ≡ Entry.Block (record { ticket = t; unit = n'; lba = d.lba; found = d.found; effect = d.effect }) ∷ h
          → r' ≡ cond d.ended (held_beside r t) r
          → IsCoreOf c past' (record fields {
            volume = v';
            jobs = record { limit = j.limit; jobs = replaced j.jobs t y' };
            held = r';
          })
      kept h past' r' same_past is_past is_r = let u = unit_found c past t k.run.legal none in by u.0 u.1 u.2
        where
          by : (g : GrantLine) (o : Op) → IsUnit c past t g o
              → IsCoreOf c past' (record fields {
                volume = v';
                jobs = record { limit = j.limit; jobs = replaced j.jobs t y' };
                held = r';
              })
          by g o u =
              let legal = legal_then g o u in
              subst (λ (p : Past). IsCoreOf c p
              (record fields {
                volume = v';
                jobs = record { limit = j.limit; jobs = replaced j.jobs t y' };
                held = r';
              })) (sym (is_past ∙ ap₂ (λ (e : Entry) (w : Past). e ∷ w) (line_is g o u) same_past))
              (record {
                accepted = k.accepted;
                volume = subst (IsTable (medium (Entry.Block (line_now past t g o) ∷ past)) c.blocks)
                    (sym (written g o u)) (volume_now c past t g o u k.run.legal v k.volume);
                submission = IsTable-same (λ i. submission_ring c past (suc i))
                    (λ i. submission_ring c (Entry.Block (line_now past t g o) ∷ past) (suc i)) c.pairs s k.submission
                    (λ i. submission_kept c past (line_now past t g o) (suc i));
                in_use = k.in_use;
                completion = IsTable-same (λ i. completion_ring c past (suc i))
                    (λ i. completion_ring c (Entry.Block (line_now past t g o) ∷ past) (suc i)) c.cqs q k.completion
                    (λ i. completion_kept c past (line_now past t g o) (suc i));
                jobs =
                    (λ z. record { limit = (k.jobs z).limit; jobs = replaced (k.jobs z).jobs t (own g o u z) })
                    ∙ (λ z. record {
                      limit = c.jobs;
                      jobs = jobs_moved c past (Entry.Block (line_now past t g o)) t
                          (λ w ne. block_other c past (line_now past t g o) w legal ne) z;
                    });
                held = is_r ∙ (λ z. cond (says g o u z).ended (held_beside (k.held z) t) (k.held z))
                    ∙ held_now g o u (done_now past t g o).ended refl;
                count = k.count;
                run = subst (λ (x : Entry). ControllerInvariant c (x ∷ past)) (sym (entry_is c past t g o u))
                    (next_kept c past (Step.Block t) k.run none);
              })
            where
              written : (g : GrantLine) (o : Op) → IsUnit c past t g o
                  → v' ≡ volume_with (progress_of past t g.unit o g.range) v (block_at (job_at c past t).write 0)
                  (done_now past t g o).found
              written g o u =
                  at_run g o u (λ x w. v' ≡ volume_with w v (block_at x.write 0) d.found) m.volume
                  ∙ ap (λ (e : Done). volume_with (progress_of past t g.unit o g.range) v
                  (block_at (job_at c past t).write 0) e.found) (says g o u)

              own : (g : GrantLine) (o : Op) → IsUnit c past t g o
                  → y' ≡ job_at c (Entry.Block (line_now past t g o) ∷ past) t
              own g o u =
                  let p : UnitProgress = progress_of past t g.unit o g.range in
                  let x : Keeping = job_at c past t in
                  at_run g o u (λ x p. y' ≡ noted_job x p v d.found) m.job
                  ∙ (λ z. noted_job x p v (says g o u z).found)
                  ∙ job_now c past t g o u (legal_then g o u) k.run.legal
                  (written_on o (done_now past t g o).found x.write)
                  (read_of x.read x.slba p v (done_now past t g o).found) (write_now c past t k.run.legal g o u)
                  (read_now c past t g o u k.run.legal v k.volume)

              held_now : (g : GrantLine) (o : Op) → IsUnit c past t g o → (b : Bool) → (done_now past t g o).ended ≡ b
                  → cond b (held_beside (by_ticket (map held_of (open_units past))) t)
                  (by_ticket (map held_of (open_units past)))
                  ≡ by_ticket (map held_of (open_units (Entry.Block (line_now past t g o) ∷ past)))
              held_now g o u true e =
                  filter-by_ticket (λ h. not (h.ticket == t)) (map held_of (open_units past))
                  ∙ ap by_ticket (held_beside-map (open_units past) t)
                  ∙ ap (λ (gs : List GrantLine). by_ticket (map held_of gs))
                  (sym (block_open_beside c past (line_now past t g o) (legal_then g o u)
                  (sym (ended_is c past t g o u (legal_then g o u) k.run.legal) ∙ e)))
              held_now g o u false e =
                  ap (λ (gs : List GrantLine). by_ticket (map held_of gs))
                  (sym (block_open_on c past (line_now past t g o) k.run.legal
                  (sym (ended_is c past t g o u (legal_then g o u) k.run.legal) ∙ e)))
