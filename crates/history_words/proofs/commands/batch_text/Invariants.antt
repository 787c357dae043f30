-- What was told, and the commands that are left.
use Rattle.std.proofs.Common.{◌≡◌, ◌++◌, drop}
use Rattle.std.specs.Prelude.{flat_map, string_bytes}
use Rattle.history_words.specs.Commands.{batch_told, next_told}
use Rattle.history_words.proofs.commands.batch_text.Given as goal

abbrev pub invariant-loop-item : goal.invariant-loop-item
invariant-loop-item l = batch_told l.items ≡ string_bytes l.text ++ flat_map next_told (drop l.item-index l.others)
