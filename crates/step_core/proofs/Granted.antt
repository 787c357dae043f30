-- A Grant that isn't refused: what the calls that make it require, and the fields after it.
use Rattle.std.proofs.Common.{◌≡◌, ℕ, suc, true, false, cond, List, ◌∷◌, drop, map, option_map, refl, sym, ap}
use Rattle.std.proofs.Common.{◌∙◌, subst, Option, Some, None, is_some}
use Rattle.std.proofs.Common.{◌==◌}
use Rattle.std.proofs.lemmas.Bool.{or_parts}
use Rattle.nvme_model.specs.declared.array.Range.{Range}
use Rattle.nvme_model.specs.declared.config.ConfigNumbers.{ConfigNumbers}
use Rattle.nvme_model.specs.declared.entry.Entry.{Entry}
use Rattle.nvme_model.specs.declared.entry.GrantLine.{GrantLine}
use Rattle.nvme_model.specs.declared.step.Step.{Step}
use Rattle.nvme_model.specs.History.{Past}
use Rattle.nvme_model.specs.Legal.{IsLegal}
use Rattle.nvme_model.specs.Medium.{medium}
use Rattle.nvme_model.specs.Open.{conflict, differed, grants_of, open_units}
use Rattle.nvme_model.specs.Operations.{mode, op}
use Rattle.nvme_model.specs.Refusals.{conflicts_open, next_unit}
use Rattle.ticket_laws.specs.Standing.{Standing, open_unit, standing, unit_of}
use Rattle.nvme_model.specs.Steps.{grant_entry}
use Rattle.nvme_model.specs.Tickets.{cids, first_fields, ticket}
use Rattle.nvme_model.specs.EntryBytes.{slba}
use Rattle.nvme_model.specs.Kept.{ControllerInvariant}
use Rattle.ticket_laws.proofs.Left.{next_unit_left}
use Rattle.ticket_laws.proofs.Opening.{grant_open}
use Rattle.nvme_model.proofs.Rules.{MayGrant, may_grant}
use Rattle.ticket_laws.proofs.Standings.{grant_here, grant_other}
use Rattle.range_reserve.specs.Reserved.{by_ticket, has_conflict, holds_range, held_of, insert_held}
use Rattle.range_reserve.proofs.Rising.{list_any-by_ticket}
use Rattle.range_reserve.specs.declared.held.HeldRange.{HeldRange}
use Rattle.range_reserve.proofs.Granted.{has_conflict-map, holds_range-map}
use Rattle.nvme_model.specs.Array.{IsRange}
use Rattle.nvme_model.proofs.UnitsWork.{units_of_op}
use Rattle.rings.specs.Completions.{CompletionRing}
use Rattle.rings.specs.Submissions.{SubmissionRing}
use Rattle.job_table.specs.Jobs.{JobTable, has_job_of as has_ticket_in, job_of, replaced}
use Rattle.job_table.proofs.TicketLookups.{is_some-job_of}
use Rattle.job_table.specs.Keeping.{Keeping, opened_job}
use Rattle.job_table.specs.Shown.{standing_stage}
use Rattle.job_table.specs.Stages.{IsFirstUnit, opened_in}
use Rattle.job_table.specs.declared.progress.TicketStage.{TicketStage}
use Rattle.job_table.proofs.Granted.{granted, none_found}
use Rattle.job_table.proofs.Waits.{Waits, first_of, opens}
use Rattle.job_table.specs.Tickets.{compare_bytes, job_at, job_by, read_bytes_by, still_written}
use Rattle.rings.specs.Queues.{completion_ring, submission_ring}
use Rattle.step_core.specs.Kept.{CoreFields, IsCoreOf}
use Rattle.step_core.specs.Found.{IsNextStep}
use Rattle.step_core.specs.declared.controller.next.ReadyStep.{ReadyStep}
use Rattle.step_core.proofs.Bounds.{unit_range_is}
use Rattle.step_core.proofs.Granting.{job_stage}
use Rattle.step_core.proofs.Moves.{job_found, jobs_moved, legal_after, stepped}
use Rattle.rings.proofs.Tables.{IsTable-same}
use Rattle.step_core.proofs.Written.{granted_blocks, with_unit}

-- ---- the job of a ticket with a unit just opened

-- only its stage is another
opened_is : (c : ConfigNumbers) (s : Standing) (g : GrantLine)
    → opened_in (standing_stage c s) g.range ≡ standing_stage c (with_unit s g)
    → still_written c s ≡ still_written c (with_unit s g) → opened_job (job_by c s) g.range ≡ job_by c (with_unit s g)
unfolding job_by
opened_is c s g e w =
    (λ z. record {
      queue = s.ticket.queue;
      progress = record { stage = e z; cids = drop s.posts (cids s.ticket) };
      slba = slba (first_fields s.ticket);
      compare = compare_bytes s.ticket;
      write = w z;
      read = read_bytes_by (op s.ticket) s.ticket s.read;
    })

-- ---- the rings are as they were

submission_kept : (c : ConfigNumbers) (past : Past) (g : GrantLine) (q : ℕ)
    → submission_ring c (Entry.Grant g ∷ past) q ≡ submission_ring c past q
unfolding submission_ring
submission_kept c past g q = refl

completion_kept : (c : ConfigNumbers) (past : Past) (g : GrantLine) (q : ℕ)
    → completion_ring c (Entry.Grant g ∷ past) q ≡ completion_ring c past q
unfolding completion_ring
completion_kept c past g q = refl

-- ---- what a Grant's line says

line_mode : (past : Past) (t : ℕ) (o : Option Range) (g : GrantLine) → Entry.Grant g ≡ grant_entry past t o
    → g.mode ≡ mode (ticket past t)
line_mode past t None g e =
    let w : g ≡ record { ticket = t; unit = 0; range = record { slba = 0; blocks = 0 }; mode = mode (ticket past t) } =
    cc in ap (λ (x : GrantLine). x.mode) w
line_mode past t (Some r) g e =
    let w : g ≡ record { ticket = t; unit = grants_of past t; range = r; mode = mode (ticket past t) } = cc in
    ap (λ (x : GrantLine). x.mode) w

module _ (c : ConfigNumbers) (past : Past) (fields : CoreFields) (k : IsCoreOf c past fields) (g : GrantLine)
    (a : IsNextStep c past (ReadyStep.Grant g)) where
  abbrev v : List (List ℕ)
  v = fields.volume

  abbrev s : List SubmissionRing
  s = fields.submission

  abbrev q : List CompletionRing
  q = fields.completion

  abbrev j : JobTable
  j = fields.jobs

  abbrev r : List HeldRange
  r = fields.held

  abbrev n : ℕ
  n = fields.tickets

  legal : IsLegal c (Entry.Grant g ∷ past)
  legal = legal_after c past (Step.Grant g.ticket) (Entry.Grant g) k.run a.0 a.1

  may : MayGrant c past g
  may = may_grant c past g legal

  next : next_unit c past g.ticket ≡ Some g.range
  next = may.range

  some : is_some (op (ticket past g.ticket)) ≡ true
  some = units_of_op c.atomic (op (ticket past g.ticket)) _ _ (grants_of past g.ticket) g.range next

  goes_on : differed past g.ticket ≡ false
  goes_on = (or_parts _ (differed past g.ticket) may.left).1

  -- its ticket holds no range
  pub free : holds_range r g.ticket ≡ false
  free = ap (λ (hs : List HeldRange). holds_range hs g.ticket) k.held
      ∙ list_any-by_ticket (λ h. h.ticket == g.ticket) (map held_of (open_units past))
      ∙ holds_range-map (open_units past) g.ticket ∙ may.closed

  -- the range is apart from those that are held
  pub apart : has_conflict r g.range g.mode ≡ false
  apart =
      ap (λ (hs : List HeldRange). has_conflict hs g.range g.mode) k.held
      ∙ list_any-by_ticket (λ h. conflict g.range g.mode h.range h.mode) (map held_of (open_units past))
      ∙ has_conflict-map (open_units past) g.range g.mode
      ∙ (λ z. conflicts_open past (line_mode past g.ticket (next_unit c past g.ticket) g a.1 z) (sym next z))
      ∙ may.apart

  -- it is a range of blocks
  pub range_is : IsRange g.range
  range_is = unit_range_is c past g.ticket k.run.legal k.accepted some (grants_of past g.ticket) g.range next

  -- none of its units is open
  closed : open_unit past g.ticket ≡ None
  closed = ap (option_map (unit_of past))
      (none_found (λ (y : GrantLine). y.ticket == g.ticket) (open_units past) may.closed)

  -- a unit of it may be opened
  waiting : Waits c (standing past g.ticket) g.range (op (ticket past g.ticket)) (open_unit past g.ticket)
  waiting =
      opens c (standing past g.ticket) g.range (op (ticket past g.ticket)) (open_unit past g.ticket) some closed
      (sym (next_unit_left c past g.ticket goes_on) ∙ next) range_is.0

  there : job_of j.jobs g.ticket ≡ Some (job_at c past g.ticket)
  there =
      ap (λ (x : JobTable). job_of x.jobs g.ticket) k.jobs ∙ job_found c past g.ticket k.run.legal
      ∙ ap (λ b. cond b (Some (job_at c past g.ticket)) None) may.in_flight

  -- its ticket has a job
  pub has_job : has_ticket_in j.jobs g.ticket ≡ true
  has_job = sym (is_some-job_of j.jobs g.ticket) ∙ ap is_some there

  module _ (x : Keeping) (f : Some x ≡ job_of j.jobs g.ticket) where
    job_is : x ≡ job_at c past g.ticket
    job_is = some_inj (f ∙ there)
      where
        some_inj : Some x ≡ Some (job_at c past g.ticket) → x ≡ job_at c past g.ticket
        some_inj h = cc

    -- its unit is the next one
    pub first : IsFirstUnit x.progress.stage g.range
    first =
        subst (λ (y : TicketStage). IsFirstUnit y g.range)
        (sym (ap (λ (y : Keeping). y.progress.stage) job_is ∙ job_stage c (standing past g.ticket)))
        (first_of c (standing past g.ticket) g.range (op (ticket past g.ticket)) (open_unit past g.ticket) waiting
        range_is.0)

    own : opened_job x g.range ≡ job_at c (Entry.Grant g ∷ past) g.ticket
    own =
        ap (λ (y : Keeping). opened_job y g.range) job_is
        ∙ opened_is c (standing past g.ticket) g (sym moved ∙ ap (standing_stage c) here)
        (granted_blocks c (standing past g.ticket) g closed goes_on next)
        ∙ ap (job_by c) (sym here)
      where
        here : standing (Entry.Grant g ∷ past) g.ticket ≡ with_unit (standing past g.ticket) g
        here = grant_here c past g legal

        moved : standing_stage c (standing (Entry.Grant g ∷ past) g.ticket)
            ≡ opened_in (standing_stage c (standing past g.ticket)) g.range
        moved = granted c past g legal

    -- the fields after it
    pub kept : (h past' : Past) (y : Keeping) (r' : List HeldRange) → h ≡ past → past' ≡ Entry.Grant g ∷ h
        → y ≡ opened_job x g.range → r' ≡ insert_held (record { ticket = g.ticket; range = g.range; mode = g.mode }) r
        → IsCoreOf c past' (record fields {
          jobs = record { limit = j.limit; jobs = replaced j.jobs g.ticket y };
          held = r';
        })
    kept h past' y r' same_past is_past is_y is_r =
        subst (λ (p : Past). IsCoreOf c p
        (record fields { jobs = record { limit = j.limit; jobs = replaced j.jobs g.ticket y }; held = r' }))
        (sym (is_past ∙ ap (λ (w : Past). Entry.Grant g ∷ w) same_past))
        (record {
          accepted = k.accepted;
          volume = IsTable-same (medium past) (medium (Entry.Grant g ∷ past)) c.blocks v k.volume (λ l. refl);
          submission = IsTable-same (λ i. submission_ring c past (suc i))
              (λ i. submission_ring c (Entry.Grant g ∷ past) (suc i)) c.pairs s k.submission
              (λ i. submission_kept c past g (suc i));
          in_use = k.in_use;
          completion = IsTable-same (λ i. completion_ring c past (suc i))
              (λ i. completion_ring c (Entry.Grant g ∷ past) (suc i)) c.cqs q k.completion
              (λ i. completion_kept c past g (suc i));
          jobs =
              (λ z. record { limit = (k.jobs z).limit; jobs = replaced (k.jobs z).jobs g.ticket ((is_y ∙ own) z) })
              ∙ (λ z. record {
                limit = c.jobs;
                jobs = jobs_moved c past (Entry.Grant g) g.ticket (λ u ne. grant_other c past g u legal ne) z;
              });
          held = is_r ∙ ap (insert_held (record { ticket = g.ticket; range = g.range; mode = g.mode })) k.held
              ∙ ap (λ (gs : List GrantLine). by_ticket (map held_of gs)) (sym (grant_open c past g legal));
          count = k.count;
          run = subst (λ (x : Entry). ControllerInvariant c (x ∷ past)) (sym a.1)
              (stepped c past (Step.Grant g.ticket) k.run a.0);
        })
