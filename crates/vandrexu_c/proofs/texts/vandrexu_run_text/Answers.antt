use Rattle.std.proofs.Common.{Some, [], subst, ℕ}
use Rattle.casdisk_texts.specs.Running.{RunsScript}
use Rattle.casdisk_texts.specs.Said.{script_line}
use Rattle.casdisk_texts.specs.Script.{script_outcome}
use Rattle.vandrexu_c.proofs.texts.vandrexu_run_text.Goals as goal

pub returns : goal.returns
returns c =
    record {
      runs = (
        c.run_script-done.result,
        Some c.run_script-done.new.reader.now,
        c.run_script-done.new.writer.items,
        subst (λ (k : ℕ). RunsScript (script_outcome (λ d. script_line d k)) c.run_script-done.result
            (Some c.args.script.now) (Some c.run_script-done.new.reader.now) (Some [])
            (Some c.run_script-done.new.writer.items)) (c.from_bits_retain.ensures tt)
            (rw c.new-text.ensures.items at c.run_script-done.ensures.runs),
        rw (c.told_run.ensures, c.as_slice.ensures.value) at c.give.ensures,
      );
    }
