-- A Block that isn't refused: its line, and the fields after it.
use Rattle.std.proofs.Common.{◌≡◌, ℕ, ◌+◌, Bool, true, false, cond, List, ◌∷◌, drop, length, bytes_eq, refl, sym, ap}
use Rattle.std.proofs.Common.{◌∙◌, subst, Option, Some, None}
use Rattle.nvme_model.specs.declared.array.Range.{Range}
use Rattle.nvme_model.specs.declared.config.ConfigNumbers.{ConfigNumbers}
use Rattle.nvme_model.specs.declared.entry.BlockLine.{BlockLine}
use Rattle.nvme_model.specs.declared.entry.Entry.{Entry}
use Rattle.nvme_model.specs.declared.entry.GrantLine.{GrantLine}
use Rattle.nvme_model.specs.declared.operation.Op.{Op}
use Rattle.nvme_model.specs.declared.step.Step.{Step}
use Rattle.nvme_model.specs.EntryBytes.{slba}
use Rattle.nvme_model.specs.History.{Past}
use Rattle.nvme_model.specs.Legal.{IsLegal}
use Rattle.nvme_model.specs.Medium.{medium}
use Rattle.nvme_model.specs.Open.{blocks_made}
use Rattle.nvme_model.specs.Open
use Rattle.nvme_model.specs.Operations.{compare_data, op}
use Rattle.ticket_laws.specs.Standing.{OpenUnit, standing}
use Rattle.nvme_model.specs.Steps.{block_entry, next_entry}
use Rattle.nvme_model.specs.Tickets.{cids, first_fields, posts_of, ticket}
use Rattle.nvme_model.proofs.Blocks.{MayBlock, may_block}
use Rattle.nvme_model.proofs.Holding.{range_of_entry}
use Rattle.ticket_laws.proofs.Opening.{ends_with}
use Rattle.ticket_laws.proofs.Standings.{after_block, block_off, block_on}
use Rattle.block_exec.specs.Course.{next_done}
use Rattle.block_exec.specs.Progress.{unit_has_ended, next_block}
use Rattle.block_exec.specs.Units.{progress_of}
use Rattle.block_exec.specs.declared.run.Done.{Done}
use Rattle.block_exec.proofs.Histories.{block_entry-next_done, unit_has_ended-progress_of, progress_of-stepped}
use Rattle.job_table.specs.Shown.{standing_stage}
use Rattle.job_table.specs.Stages.{noted_in}
use Rattle.job_table.proofs.Blocked.{blocked}
use Rattle.job_table.specs.Tickets.{compare_bytes, job_at, job_by, read_bytes_by, still_written}
use Rattle.controller_interface.specs.State.{done_of}
use Rattle.step_core.proofs.BlockData.{IsUnit, unended}

-- ---- what a Block of an open unit says

-- the next Block of this unit finds the Compare's data
abbrev pub is_equal : Past → ℕ → GrantLine → Op → Bool
is_equal past t g o = let l = next_block (progress_of past t g.unit o g.range) in
    bytes_eq (medium past l) (compare_data (ticket past t) l)

-- what it says
abbrev pub done_now : Past → ℕ → GrantLine → Op → Done
done_now past t g o = next_done (progress_of past t g.unit o g.range) (is_equal past t g o)

-- as a line
abbrev pub line_now : Past → ℕ → GrantLine → Op → BlockLine
line_now past t g o = let d = done_now past t g o in
    record { ticket = t; unit = g.unit; lba = d.lba; found = d.found; effect = d.effect }

-- and where it is open then
abbrev pub unit_now : Past → ℕ → GrantLine → Op → Option OpenUnit
unit_now past t g o = cond (done_now past t g o).ended None
    (Some (record { line = g; made = length (blocks_made past g.ticket g.unit) + 1 }))

module _ (c : ConfigNumbers) (past : Past) (t : ℕ) (g : GrantLine) (o : Op) (u : IsUnit c past t g o) where
  -- it is the next entry
  pub entry_is : Entry.Block (line_now past t g o) ≡ next_entry c past (Step.Block t)
  entry_is = sym (ap (block_entry past t) u.found ∙ block_entry-next_done past t g o u.does)

  module _ (legal : IsLegal c (Entry.Block (line_now past t g o) ∷ past)) (h : IsLegal c past) where
    may : MayBlock past (line_now past t g o) g
    may =
        let m = may_block c past (line_now past t g o) legal in
        subst (MayBlock past (line_now past t g o)) (some_inj (sym m.1 ∙ u.found)) m.2
      where
        some_inj : {x : GrantLine} → Some x ≡ Some g → x ≡ g
        some_inj e = cc

    -- it ends the unit where the history says so
    pub ended_is : (done_now past t g o).ended ≡ ends_with past (line_now past t g o)
    ended_is =
        ap unit_has_ended (sym (progress_of-stepped past t g.unit o g.range (is_equal past t g o)
        (unended c past t h g o u)))
        ∙ unit_has_ended-progress_of (Entry.Block (line_now past t g o) ∷ past) t g.unit o g.range u.does
        ∙ ap (λ (r : Range). Open.has_ended (Entry.Block (line_now past t g o) ∷ past) t g.unit r.blocks)
        (sym (range_of_entry past (line_now past t g o) g may))

    -- what the call says is what is answered
    pub done_is : done_now past t g o ≡ done_of past (line_now past t g o)
    done_is = (λ z. record {
      lba = (done_now past t g o).lba;
      found = (done_now past t g o).found;
      effect = (done_now past t g o).effect;
      ended = ended_is z;
    })

    -- where the ticket stands then
    pub stands : standing (Entry.Block (line_now past t g o) ∷ past) t
        ≡ after_block past (line_now past t g o) (unit_now past t g o)
    stands = go (done_now past t g o).ended refl
      where
        go : (b : Bool) → (done_now past t g o).ended ≡ b
            → standing (Entry.Block (line_now past t g o) ∷ past) t
            ≡ after_block past (line_now past t g o)
            (cond b None (Some (record { line = g; made = length (blocks_made past g.ticket g.unit) + 1 })))
        go true e = block_off c past (line_now past t g o) legal (sym ended_is ∙ e)
        go false e = block_on c past (line_now past t g o) g legal u.found may (sym ended_is ∙ e)

    -- and its stage
    moved : noted_in (standing_stage c (standing past t)) (done_now past t g o).found
        ≡ standing_stage c (after_block past (line_now past t g o) (unit_now past t g o))
    moved = sym (blocked c past (line_now past t g o) legal) ∙ ap (standing_stage c) stands

    -- the job then, where this is what it still writes and has read
    pub job_now : (write : List (List ℕ)) (read : List ℕ)
        → write ≡ still_written c (after_block past (line_now past t g o) (unit_now past t g o))
        → read ≡ read_bytes_by (op (ticket past t)) (ticket past t)
        (after_block past (line_now past t g o) (unit_now past t g o)).read
        → record (job_at c past t) {
          progress = record (job_at c past t).progress
              { stage = noted_in (job_at c past t).progress.stage (done_now past t g o).found };
          write = write;
          read = read;
        }
        ≡ job_at c (Entry.Block (line_now past t g o) ∷ past) t
    unfolding job_by
    job_now write read w e =
        (λ z. record {
          queue = (ticket past t).queue;
          progress = record { stage = moved z; cids = drop (posts_of past t) (cids (ticket past t)) };
          slba = slba (first_fields (ticket past t));
          compare = compare_bytes (ticket past t);
          write = w z;
          read = e z;
        })
        ∙ ap (job_by c) (sym stands)
