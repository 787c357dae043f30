use Rattle.std.proofs.Common.{false, rules, subst, sym, true, ◌∙◌, ◌≡◌}
use Rattle.nvme_model.specs.declared.config.ConfigNumbers.{ConfigNumbers}
use Rattle.casdisk_texts.proofs.Answering.{history_then}
use Rattle.picture_svg.specs.Drawn.{HasDrawing, HasDrawn, has_no_slot, is_within}
use Rattle.picture_svg.proofs.Whole.{drawing_in, first_unread, unread_behind}
use Rattle.picture_svg.proofs.reading.read_drawing.Goals as goal

pub returns-in-Err-clause-unread : goal.returns-in-Err-clause-unread
returns-in-Err-clause-unread g c =
    let some_slot : has_no_slot c.args.options.now.aspect.lanes.slots ≡ false = search rules in
    (some_slot, first_unread c.args.options.now c.in-Err.fault _ _ c.in-Err.ensures.first, c.in-Err.ensures.unread)

pub returns-in-Ok-take_entries-clause-whole : goal.returns-in-Ok-take_entries-clause-whole
returns-in-Ok-take_entries-clause-whole g c =
    let config = c.in-Ok.lines.config in
    let read = c.in-Ok-take_entries.ensures.takes _ c.in-Ok.ensures.begun c.in-Ok-new.ensures.begun in
    let last = c.take_entries.new.taker in
    let slots = c.args.options.now.aspect.lanes.slots in
    let some_slot : has_no_slot slots ≡ false = search rules in
    let few : is_within slots c.numbers-blocks.result.blocks ≡ true = search rules in
    let within : is_within slots config.blocks ≡ true =
    subst (λ (d : ConfigNumbers). is_within slots d.blocks ≡ true) c.numbers-blocks.ensures.value few in (
      read.0,
      history_then
          (λ k past. (k ≡ config) × HasDrawn k last.options past last.config last.judge.checker last.judge.count
          last.judge.bad last.picture)
          (λ k past. HasDrawing k c.args.options.now past last.judge.bad.place last.judge.count last.picture) _
          (λ k past h.
          drawing_in k c.args.options.now last.options past last.config last.judge.checker last.judge.count
          last.judge.bad last.picture some_slot
          (subst (λ (d : ConfigNumbers). is_within slots d.blocks ≡ true) (sym h.0) within)
          (c.in-Ok-take_entries.ensures.kept ∙ c.in-Ok-new.ensures.options) h.1) read.1,
    )

pub returns-clause-unread : goal.returns-clause-unread
returns-clause-unread g c =
    let config = c.in-Ok.lines.config in
    let slots = c.args.options.now.aspect.lanes.slots in
    let some_slot : has_no_slot slots ≡ false = search rules in
    let few : is_within slots c.numbers-blocks.result.blocks ≡ true = search rules in
    let within : is_within slots config.blocks ≡ true =
    subst (λ (d : ConfigNumbers). is_within slots d.blocks ≡ true) c.numbers-blocks.ensures.value few in (
      some_slot,
      unread_behind c.args.options.now c.in-Err-take_entries.fault config _ within c.in-Ok.ensures.begun.config,
      c.in-Err-take_entries.ensures.takes _ c.in-Ok.ensures.begun c.in-Ok-new.ensures.begun,
    )
