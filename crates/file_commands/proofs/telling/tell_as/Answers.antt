use Rattle.std.proofs.Common.{[], refl}
use Rattle.std.proofs.KnownBytes.{Appends-nil}
use Rattle.file_commands.specs.ToldText.{config_as, told_line, told_text}
use Rattle.casdisk_texts.proofs.Reaching.{runs_after}
use Rattle.file_commands.proofs.telling.tell_as.Goals as goal

pub returns-in_default-config_words : goal.returns-in_default-config_words
returns-in_default-config_words g c =
    let telling = c.args.telling in
    let text = config_as telling c.in_ok-numbers.numbers in
    record {
      tells = c.in_ok-numbers.ensures.front telling _ _
          (record { front = []; rest = text; whole = refl; written = Appends-nil _ });
    }

pub returns : goal.returns
returns g c =
    let telling = c.args.telling in
    let sent = rw (c.as_bytes.ensures.value, c.in-Ok-config_words.ensures.value, c.paint_of.ensures.value)
    at c.in-Ok-send_told.ensures.whole in
    let begun = c.in_ok-numbers.ensures.begun telling _ _ sent in
    let ran = c.run_lines.ensures.runs c.in_ok-numbers.numbers [] tt in
    record {
      tells = runs_after (told_text telling) (told_line telling) [] 2 _ _ _ _ _ _ _ c.run_lines.result begun ran;
    }
