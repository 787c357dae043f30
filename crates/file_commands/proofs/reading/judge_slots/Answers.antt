use Rattle.std.proofs.Common.{eqb, not, rules, subst, sym, ◌+◌, ◌∙◌, ◌≡◌, ◌≤◌}
use Rattle.nvme_model.specs.declared.config.ConfigNumbers.{ConfigNumbers}
use Rattle.casdisk_texts.proofs.Answering.{history_then}
use Rattle.slot_check.specs.Watched.{area_state}
use Rattle.file_commands.specs.Texts.{HasFound, IsWithin}
use Rattle.file_commands.specs.Wrong.{HasJudgedSlots}
use Rattle.file_commands.proofs.Found.{first_unread, found_in, unread_behind}
use Rattle.file_commands.proofs.reading.judge_slots.Goals as goal

pub returns-in-Err-clause-unread : goal.returns-in-Err-clause-unread
returns-in-Err-clause-unread g c =
    let some : 1 ≤ c.args.slots.blocks = search rules in
    (some, first_unread c.args.slots c.in-Err.fault _ _ c.in-Err.ensures.first, c.in-Err.ensures.unread)

pub returns-in-Ok-take_entries-clause-whole : goal.returns-in-Ok-take_entries-clause-whole
returns-in-Ok-take_entries-clause-whole g c =
    let why = not (eqb g.row.WHY 0) in
    let config = c.in-Ok.lines.config in
    let read = c.in-Ok-take_entries.ensures.takes _ c.in-Ok.ensures.begun c.in-Ok-new.ensures.begun in
    let last = c.take_entries.new.taker in
    let few : c.args.slots.slba + c.args.slots.blocks ≤ c.numbers-blocks.result.blocks = search rules in
    let within : IsWithin config c.args.slots = subst (λ (d : ConfigNumbers). IsWithin d c.args.slots)
    c.numbers-blocks.ensures.value few in (
      read.0,
      history_then
          (λ k past. (k ≡ config) × HasJudgedSlots why k last.slots past last.judge.checker last.judge.count
          last.judge.bad (area_state last.area) last.wrong)
          (λ k past. HasFound why k c.args.slots past c.found.result) _
          (λ k past h.
          found_in why k c.args.slots last.slots past last.judge.checker last.judge.count last.judge.bad
          (area_state last.area) last.wrong c.found.result c.found.ensures.value.0 c.found.ensures.value.1
          (sym (c.in-Ok-take_entries.ensures.kept ∙ c.in-Ok-new.ensures.slots))
          (subst (λ (d : ConfigNumbers). IsWithin d c.args.slots) (sym h.0) within) h.1) read.1,
    )

pub returns-clause-unread : goal.returns-clause-unread
returns-clause-unread g c =
    let slot : 1 ≤ c.args.slots.blocks = search rules in
    let few : c.args.slots.slba + c.args.slots.blocks ≤ c.numbers-blocks.result.blocks = search rules in
    let within : IsWithin c.in-Ok.lines.config c.args.slots = subst (λ (d : ConfigNumbers). IsWithin d c.args.slots)
    c.numbers-blocks.ensures.value few in (
      slot,
      unread_behind c.args.slots c.in-Err-take_entries.fault c.in-Ok.lines.config _ within
          c.in-Ok.ensures.begun.config,
      c.in-Err-take_entries.ensures.takes _ c.in-Ok.ensures.begun c.in-Ok-new.ensures.begun,
    )
