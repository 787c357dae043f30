use Rattle.std.proofs.Common.{List, ap, ap₂, arith, drop, map, refl, ◌++◌, ◌+◌, ◌∙◌, ℕ}
use Rattle.std.specs.Option.{option_to_list}
use Rattle.nvme_model.specs.Array.{has_block}
use Rattle.nvme_model.specs.Slots.{Swap, in_area, swap_of, swaps_in}
use Rattle.host_laws.specs.Rules.{takeovers_within}
use Rattle.host_laws.specs.Takeovers.{Takeover, giving, takeover_of, takeovers_in}
use Rattle.slot_check.proofs.Batches.{IsByPairs, pairs_end, pairs_next}
use Rattle.slot_check.proofs.moves.moves_in_area.Goals as goal

swaps_are : (q : ℕ) → IsByPairs (swap_of q) (swaps_in q)
swaps_are q = record { none = λ j. refl; one = λ j a. refl; more = λ j a b rest. refl }

takeovers_are : (q : ℕ) → IsByPairs (takeover_of q) (takeovers_in q)
takeovers_are q = record { none = λ j. refl; one = λ j a. refl; more = λ j a b rest. refl }

pub loop-place-preserved : goal.loop-place-preserved
loop-place-preserved c =
    let slots = c.args.slots in
    let q = c.args.queue in
    let batch = c.args.batch.now in
    let at = c.loop-place.place in
    let after = drop (at + 1) batch in
    let a = c.index-batch-place.result in
    let b = c.index-batch-place-in-loop-place.result in
    record {
      within = omega (arith, c.loop-place-test.true);
      swaps = ap (λ (xs : List Swap). xs ++ in_area slots (swaps_in q (c.args.first + (at + 1)) after))
          c.in_ok-push_in_area.ensures.ok
          ∙ pairs_next (swap_of q) (swaps_in q) (swaps_are q) (λ s. has_block slots s.lba) c.args.first batch at a b
          c.loop-place.swaps.items (option_to_list c.swap_of.result) c.loop-place-test.true c.index-batch-place.is
          c.index-batch-place-in-loop-place.is c.swap_of.ensures.value
          ∙ c.loop-place.invariant.swaps;
      takeovers = ap (λ (xs : List Takeover). xs
          ++ takeovers_within slots (takeovers_in q (c.args.first + (at + 1)) after))
          c.in_ok-push_in_area-2.ensures.ok
          ∙ pairs_next (takeover_of q) (takeovers_in q) (takeovers_are q) (λ w. has_block slots w.lba) c.args.first
          batch at a b c.loop-place.takeovers.items (option_to_list c.takeover_of.result) c.loop-place-test.true
          c.index-batch-place.is c.index-batch-place-in-loop-place.is c.takeover_of.ensures.value
          ∙ c.loop-place.invariant.takeovers;
    }

pub returns : goal.returns
returns c =
    let slots = c.args.slots in
    let q = c.args.queue in
    let all = pairs_end (swap_of q) (swaps_in q) (swaps_are q) (λ s. has_block slots s.lba) c.args.first
    c.args.batch.now c.loop-place.place c.loop-place.swaps.items c.loop-place-test.false
    ∙ c.loop-place.invariant.swaps in
    record {
      swaps = c.in_ok-add_givings.ensures.ok ∙ ap₂ (λ (xs : List Swap) (ws : List Takeover). xs ++ map giving ws) all
          c.as_slice.ensures.value;
      takeovers = pairs_end (takeover_of q) (takeovers_in q) (takeovers_are q) (λ w. has_block slots w.lba)
          c.args.first c.args.batch.now c.loop-place.place c.loop-place.takeovers.items c.loop-place-test.false
          ∙ c.loop-place.invariant.takeovers;
    }
