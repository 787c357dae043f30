use Rattle.std.proofs.Common.{subst, ◌≡◌}
use Rattle.std.specs.Prelude.{IfOk, string_bytes}
use Rattle.nvme_model.specs.EntryBytes.{Sqe}
use Rattle.history_words.specs.Commands.{command_told}
use Rattle.history_words.proofs.commands.command_words.Goals as goal

pub returns : goal.returns
returns c =
    record {
      value = subst (λ (s : Sqe). IfOk c.fields_text.result (λ text. string_bytes text ≡ command_told s))
          c.decode_sqe-sqe.ensures.value c.fields_text.ensures.value;
    }
