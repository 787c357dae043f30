use Rattle.std.proofs.Common.{None, refl, sym, ◌∙◌, ◌≡◌}
use Rattle.nvme_model.specs.History.{Past}
use Rattle.slot_check.specs.Broken.{publish_broken}
use Rattle.slot_check.specs.Names.{names_in}
use Rattle.slot_check.specs.Takeovers.{takeovers_kept}
use Rattle.slot_check.specs.Watched.{IsSlotCheckState, slot_check_state_in}
use Rattle.slot_check.proofs.Publishing.{BatchIs, none_where, publish_keeps, whole_is}
use Rattle.slot_check.proofs.tables.take_publish.Goals as goal

pub returns-then-is_some-clause-broken : goal.returns-then-is_some-clause-broken
returns-then-is_some-clause-broken c =
    let line = c.args.line.now in
    let moves = c.in_ok-moves.moves in
    let batch : BatchIs c.args.slots line.queue c.published-first.result line.batch moves.swaps.items
    moves.takeovers.items = record {
      moves = rw c.as_slice-batch.ensures.value at c.in_ok-moves.ensures.swaps;
      takeovers = rw c.as_slice-batch.ensures.value at c.in_ok-moves.ensures.takeovers;
    } in
    λ past h.
    whole_is c.args.config.now c.args.slots past line (slot_check_state_in c.args.tables.now) c.published-first.result
    line.batch moves.swaps.items moves.takeovers.items c.judge_batch-broken.result h c.published-first.ensures.value
    refl batch c.judge_batch-broken.ensures.value

pub returns : goal.returns
returns c =
    let line = c.args.line.now in
    let moves = c.in_ok-moves.moves in
    let batch : BatchIs c.args.slots line.queue c.published-first.result line.batch moves.swaps.items
    moves.takeovers.items = record {
      moves = rw c.as_slice-batch.ensures.value at c.in_ok-moves.ensures.swaps;
      takeovers = rw c.as_slice-batch.ensures.value at c.in_ok-moves.ensures.takeovers;
    } in
    let none : c.judge_batch-broken.result ≡ None = none_where c.judge_batch-broken.result c.if-is_some.ensures in
    let broken : (past : Past)
    → IsSlotCheckState c.args.config.now c.args.slots past (slot_check_state_in c.args.tables.now)
    → None ≡ publish_broken c.args.config.now c.args.slots past line =
    λ past h. sym none
    ∙ whole_is c.args.config.now c.args.slots past line (slot_check_state_in c.args.tables.now)
    c.published-first.result line.batch moves.swaps.items moves.takeovers.items c.judge_batch-broken.result h
    c.published-first.ensures.value refl batch c.judge_batch-broken.ensures.value in
    record {
      broken = broken;
      kept = λ past h legal e.
          publish_keeps c.args.config.now c.args.slots past line (slot_check_state_in c.args.tables.now)
          (slot_check_state_in (record {
            progress = c.publish.new.self;
            names = c.add_all-2.new.self;
            takeovers = c.add_all.new.self;
          }))
          (names_in c.reserve.new.self) (takeovers_kept c.reserve-2.new.self) c.published-first.result
          line.batch moves.swaps.items moves.takeovers.items h
          legal c.published-first.ensures.value refl batch (sym (broken past h))
          (c.in_ok-publish.ensures.ok c.args.config.now past h.progress)
          (record {
            claim = c.reserve.ensures.claims;
            won = c.reserve.ensures.won;
            released = c.reserve.ensures.released;
            begun = c.reserve-2.ensures.begun;
            taken = c.reserve-2.ensures.taken;
            cut = c.reserve-2.ensures.cut;
            new_begun = rw c.as_slice-takeovers.ensures.value at c.add_all.ensures.begun;
            new_taken = c.add_all.ensures.taken;
            new_cut = rw c.as_slice-takeovers.ensures.value at c.add_all.ensures.cut;
            knows = rw c.as_slice-swaps.ensures.value at c.add_all-2.ensures.knows;
          });
      err = λ past h. tt;
    }
