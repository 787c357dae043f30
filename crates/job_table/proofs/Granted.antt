-- The stage of a ticket after a Grant.
use Rattle.std.proofs.Common.{◌≡◌, ◌+◌, ◌≤◌, ◌==◌, ◌∙◌, ◌∷◌, Bool, List, None, Option, Some, [], ap, arith, cond, false}
use Rattle.std.proofs.Common.{is_some, ne_eqb, option_map, refl, sym, true, ℕ}
use Rattle.std.specs.List.{find, list_any}
use Rattle.std.proofs.lemmas.Bool.{or_parts}
use Rattle.nvme_model.specs.declared.config.ConfigNumbers.{ConfigNumbers}
use Rattle.nvme_model.specs.declared.entry.Entry.{Entry}
use Rattle.nvme_model.specs.declared.entry.GrantLine.{GrantLine}
use Rattle.nvme_model.specs.declared.operation.Op.{Op}
use Rattle.nvme_model.specs.EntryBytes.{block_count, slba}
use Rattle.nvme_model.specs.History.{Past}
use Rattle.nvme_model.specs.Legal.{IsLegal}
use Rattle.nvme_model.specs.Open.{differed, grants_of, open_units}
use Rattle.nvme_model.specs.Operations.{op}
use Rattle.nvme_model.specs.Tickets.{Ticket, first_fields, ticket}
use Rattle.nvme_model.proofs.Granted.{units_some}
use Rattle.nvme_model.proofs.Lists.{each_get}
use Rattle.nvme_model.proofs.Rules.{MayGrant, may_grant}
use Rattle.nvme_model.proofs.UnitsWork.{units_of_op}
use Rattle.ticket_laws.specs.Standing.{OpenUnit, Standing, blocks_left, standing, still_owed, unit_of, without}
use Rattle.ticket_laws.proofs.Left.{left_after, next_starts, next_unit_left}
use Rattle.ticket_laws.proofs.Standings.{grant_here}
use Rattle.job_table.specs.Shown.{stage_by, standing_stage}
use Rattle.job_table.specs.Stages.{opened_in}
use Rattle.job_table.specs.declared.progress.TicketStage.TheVariants.{Open, Owing, Waiting}

pub none_found : {X : Type 0} (f : X → Bool) (xs : List X) → list_any f xs ≡ false → find f xs ≡ None
none_found f [] e = refl
none_found f (x ∷ xs) e =
    let parts = or_parts (f x) (list_any f xs) e in
    ap (λ z. cond z (Some x) (find f xs)) parts.0 ∙ none_found f xs parts.1

pub granted : (c : ConfigNumbers) (past : Past) (g : GrantLine) → IsLegal c (Entry.Grant g ∷ past)
    → standing_stage c (standing (Entry.Grant g ∷ past) g.ticket)
    ≡ opened_in (standing_stage c (standing past g.ticket)) g.range
granted c past g h =
    let t : ℕ = g.ticket in
    let k : Ticket = ticket past t in
    let s : Standing = standing past t in
    let s' : Standing = record s { opened = s.opened + 1; unit = Some (record { line = g; made = 0 }) } in
    let may : MayGrant c past g = may_grant c past g h in
    let goes_on : differed past t ≡ false = (or_parts _ (differed past t) may.left).1 in
    let closed : s.unit ≡ None =
    ap (option_map (unit_of past)) (none_found (λ (x : GrantLine). x.ticket == t) (open_units past) may.closed) in
    let after : blocks_left c s' ≡ without (blocks_left c s) g.range.blocks =
    left_after c s s' g.range refl refl refl goes_on may.range in
    let some : is_some (op k) ≡ true =
    units_of_op c.atomic (op k) (slba (first_fields k)) (block_count (first_fields k)) (grants_of past t) g.range
    may.range in
    let one : 1 ≤ block_count (first_fields k) = omega arith in
    let least : 1 ≤ g.range.blocks =
    each_get _ _ (grants_of past t) g.range
    (units_some c.atomic (op k) (slba (first_fields k)) (block_count (first_fields k)) one) may.range in
    let fits : g.range.blocks ≤ (blocks_left c s).blocks =
    (next_starts c.atomic (op k) (blocks_left c s) g.range (sym (next_unit_left c past t goes_on) ∙ may.range)).1 in
    let there : ((blocks_left c s).blocks == 0) ≡ false =
    ne_eqb (blocks_left c s).blocks 0 (λ (e : (blocks_left c s).blocks ≡ 0). omega (arith, e, least, fits)) in
    let by : (o : Option Op) → is_some o ≡ true
    → stage_by c s' o (Some (record { line = g; made = 0 })) ≡ opened_in (stage_by c s o None) g.range =
    λ o e. elim o as (λ (x : Option Op). is_some x ≡ true
    → stage_by c s' x (Some (record { line = g; made = 0 })) ≡ opened_in (stage_by c s x None) g.range) [
      | None ↦ λ e. absurd cc
      | Some o ↦ λ e. (λ z. Open (record { op = o; range = g.range; made = 0; differed = false }) (may.unit z)
          (after z))
          ∙ ap (λ (b : Bool). opened_in
          (cond b (Owing (still_owed c s)) (Waiting o s.opened (blocks_left c s))) g.range)
          (sym there)
    ] e in
    ap (standing_stage c) (grant_here c past g h) ∙ by (op k) some
    ∙ ap (λ (u : Option OpenUnit). opened_in (stage_by c s (op k) u) g.range) (sym closed)
