use Rattle.std.proofs.Common.{Bool, Some, ap, ap₂, false, not, refl, rules, sym, true, ℕ, ◌&&◌, ◌||◌, ◌∙◌, ◌≡◌}
use Rattle.nvme_model.specs.Open.{is_differs}
use Rattle.nvme_model.specs.Slots.{fetched_before}
use Rattle.nvme_model.specs.Tickets
use Rattle.slot_check.specs.Progress.{progress_in}
use Rattle.slot_check.specs.Takeovers.{takeovers_kept, takes_name}
use Rattle.slot_check.proofs.TakingOver.{block_knows, block_progress, flies}
use Rattle.slot_check.proofs.tables.take_block.Goals as goal

pub returns-then-not-says_yes-clause-kept : goal.returns-then-not-says_yes-clause-kept
returns-then-not-says_yes-clause-kept c = λ d area past h legal.
    let b = c.args.line.now in
    let t = takeovers_kept c.args.tables.now.takeovers in
    let no : (b.effect && not (is_differs b.found)) ≡ false = sym c.if-not-says_yes.ensures.value in
    record {
      legal = legal;
      disciplined = h.disciplined;
      progress = block_progress d past b legal (progress_in c.args.tables.now.progress) h.progress;
      names = record { claim = h.names.claim; won = h.names.won; released = h.names.released };
      takeovers = block_knows d past b legal area t t h.takeovers (λ q j. refl) (λ q. refl)
          (λ l n. ap (λ (y : Bool). (y
          && takes_name l n (t.begun (Tickets.ticket past b.ticket).queue (fetched_before past b.ticket)))
          || t.taken l n) (sym no));
    }

pub returns-clause-kept : goal.returns-clause-kept
returns-clause-kept c = λ d area past h legal.
    let b = c.args.line.now in
    let t = takeovers_kept c.args.tables.now.takeovers in
    let yes : (b.effect && not (is_differs b.found)) ≡ true = sym c.if-not-says_yes.ensures.value in
    let there : (progress_in c.args.tables.now.progress).flying b.ticket ≡ Some c.in-Some.flying =
    search rules in
    let f = flies d past b legal (progress_in c.args.tables.now.progress) c.in-Some.flying h.progress there in
    record {
      legal = legal;
      disciplined = h.disciplined;
      progress = block_progress d past b legal (progress_in c.args.tables.now.progress) h.progress;
      names = record { claim = h.names.claim; won = h.names.won; released = h.names.released };
      takeovers = block_knows d past b legal area t (takeovers_kept c.take_effect.new.self) h.takeovers
          c.take_effect.ensures.begun c.take_effect.ensures.cut
          (λ l n. c.in_ok-take_effect.ensures.taken l n
          ∙ ap₂ (λ (q j : ℕ). takes_name l n (t.begun q j) || t.taken l n) f.0 f.1
          ∙ ap (λ (y : Bool). (y
          && takes_name l n (t.begun (Tickets.ticket past b.ticket).queue (fetched_before past b.ticket)))
          || t.taken l n) (sym yes));
    }
