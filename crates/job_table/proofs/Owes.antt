-- What a stage owes is what its ticket still owes.
use Rattle.std.proofs.Common.{◌≡◌, ◌==◌, ◌≤◌, ◌&&◌, ◌∙◌, Bool, List, None, Option, Some, [], ap, arith, cond, drop}
use Rattle.std.proofs.Common.{false, is_none, is_some, length, nat_le, option_map, refl, suc, sym, true, zero, ℕ}
use Rattle.std.specs.List.{find, list_any}
use Rattle.std.proofs.lemmas.Bool.{and_right}
use Rattle.nvme_model.specs.declared.config.ConfigNumbers.{ConfigNumbers}
use Rattle.nvme_model.specs.declared.entry.GrantLine.{GrantLine}
use Rattle.nvme_model.specs.declared.operation.Op.{Op}
use Rattle.nvme_model.specs.declared.status.Status.{Status}
use Rattle.nvme_model.specs.EntryBytes.{block_count, slba}
use Rattle.nvme_model.specs.History.{Past}
use Rattle.nvme_model.specs.Legal.{IsLegal}
use Rattle.nvme_model.specs.Open.{differed, open_units}
use Rattle.nvme_model.specs.Operations.{op, units}
use Rattle.nvme_model.specs.Tickets.{first_fields}
use Rattle.nvme_model.proofs.Finished.{differed_closed}
use Rattle.nvme_model.proofs.Granted.{units_some}
use Rattle.ticket_laws.specs.Standing.{OpenUnit, Standing, has_run, blocks_left, on_differs, on_success, open_unit}
use Rattle.ticket_laws.specs.Standing.{owed_running, remaining, standing, still_owed, unit_of}
use Rattle.job_table.specs.Shown.{stage_by, standing_stage}
use Rattle.job_table.specs.Stages.{owed_in}
use Rattle.job_table.specs.declared.progress.TicketStage.TheVariants.{Owing, Waiting}
use Rattle.job_table.proofs.Blocked.{found_any, none_behind, owed_by_op}

none_off : (n : ℕ) → drop n (let none : List Status = [] in none) ≡ []
none_off zero = refl
none_off (suc n) = refl

-- where some blocks are left nothing differed
some_left : (d : Bool) (n : ℕ) → (cond d 0 n == 0) ≡ false → (d ≡ false) × ((n == 0) ≡ false)
some_left false n e = (refl, e)
some_left true n e = absurd (let both : true ≡ false = e in cc)

module _ (c : ConfigNumbers) (s : Standing) (calm : is_some s.unit ≡ true → s.differs ≡ false) where
  -- nothing before it has run
  nothing : (o : Op) → op s.ticket ≡ Some o → s.differs ≡ false → has_run c s ≡ false → still_owed c s ≡ []
  nothing o does d r =
      ap (drop s.posts)
      (owed_by_op c s o s.ticket.verdict (first_fields s.ticket) does
      ∙ ap (owed_running c s) does
      ∙ (λ z. cond (d z) (on_differs o) (cond (r z) (on_success o) [])))
      ∙ none_off s.posts

  pub owed_is : owed_in (standing_stage c s) ≡ still_owed c s
  owed_is = go (op s.ticket) refl s.unit refl
    where
      go : (o : Option Op) → op s.ticket ≡ o → (u : Option OpenUnit) → s.unit ≡ u
          → owed_in (stage_by c s o u) ≡ still_owed c s
      go None e u f = refl
      go (Some o) e (Some u) f =
          let open_now : is_none s.unit ≡ false = ap is_none f in
          sym (nothing o e (calm (ap is_some f))
          (and_right (nat_le (length (units c s.ticket)) s.opened) (is_none s.unit) open_now))
      go (Some o) e None f = by ((blocks_left c s).blocks == 0) refl
        where
          by : (b : Bool) → ((blocks_left c s).blocks == 0) ≡ b
              → owed_in (cond b (Owing (still_owed c s)) (Waiting o s.opened (blocks_left c s))) ≡ still_owed c s
          by true q = refl
          by false q =
              let parts = some_left s.differs (remaining c s) q in
              let one : 1 ≤ block_count (first_fields s.ticket) = omega arith in
              let behind : nat_le (length (units c s.ticket)) s.opened ≡ false =
              none_behind (units c s.ticket) s.opened
              (units_some c.atomic (op s.ticket) (slba (first_fields s.ticket)) (block_count (first_fields s.ticket))
              one) ∙ parts.1 in
              sym (nothing o e parts.0 (ap (λ b. b && is_none s.unit) behind))

-- a ticket with an open unit has had no difference
calm_at : (c : ConfigNumbers) (past : Past) (t : ℕ) → IsLegal c past → is_some (open_unit past t) ≡ true
    → differed past t ≡ false
calm_at c past t h up = go (differed past t) refl
  where
    there : (o : Option GrantLine) → find (λ g. g.ticket == t) (open_units past) ≡ o
        → is_some (option_map (unit_of past) o) ≡ true → list_any (λ g. g.ticket == t) (open_units past) ≡ true
    there None e f = absurd cc
    there (Some g) e f = found_any (λ (x : GrantLine). x.ticket == t) (open_units past) g e

    go : (d : Bool) → differed past t ≡ d → d ≡ false
    go false e = refl
    go true e = absurd (let both : true ≡ false = sym (there (find (λ g. g.ticket == t) (open_units past)) refl up)
        ∙ differed_closed c past t h e in cc)

pub owes : (c : ConfigNumbers) (past : Past) (t : ℕ) → IsLegal c past
    → owed_in (standing_stage c (standing past t)) ≡ still_owed c (standing past t)
owes c past t h = owed_is c (standing past t) (calm_at c past t h)
