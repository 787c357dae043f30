use Rattle.std.proofs.Common.{◌≡◌, [], Err, None, Ok, false}
use Rattle.nvme_model.specs.History.{Past}
use Rattle.nvme_model.specs.declared.config.ConfigNumbers.{ConfigNumbers}
use Rattle.casdisk_texts.specs.Judged.{HasJudged}
use Rattle.casdisk_texts.specs.Meaning.{Meaning}
use Rattle.casdisk_texts.specs.Said.{script_line}
use Rattle.casdisk_texts.specs.Script.{script_outcome}
use Rattle.casdisk_texts.proofs.Checked.{made_answer}
use Rattle.casdisk_texts.proofs.Reaching.{front_here, makes_after, runs_after}
use Rattle.casdisk_texts.proofs.script.run_checked.Goals as goal

pub returns-in_default-new : goal.returns-in_default-new
returns-in_default-new g c =
    let kinds = c.args.kinds.0 in
    let config = c.in_ok-core.core.config in
    let begun = c.in_ok-core.ensures.begun (λ k. script_line k kinds) in
    record {
      runs = front_here (script_outcome (λ k. script_line k kinds)) (script_line config kinds) [] 2 _ _ None _ _ _
          begun;
    }

pub returns-in-Ok-run_lines : goal.returns-in-Ok-run_lines
returns-in-Ok-run_lines g c =
    let kinds = c.args.kinds.0 in
    let config = c.in_ok-core.core.config in
    let meaning : ConfigNumbers → Meaning = λ k. script_line k kinds in
    let begun = c.in_ok-core.ensures.begun meaning in
    let judged = rw c.config.ensures.value at c.in-Ok-new.ensures.begun in
    let last = c.run_lines.new.actor in
    let Stands : Past → Type 0 = λ past. (last.core.past ≡ past)
    × HasJudged false config past last.watch.checker last.watch.count last.watch.bad in
    let ran = c.in-Ok-run_lines.ensures.runs config [] (c.in_ok-core.ensures.empty, judged) in
    let made = c.in-Ok-run_lines.ensures.makes config [] (c.in_ok-core.ensures.empty, judged) in
    let all = runs_after (script_outcome meaning) (script_line config kinds) [] 2 _ _ _ _ _ _ _ (Ok tt) begun ran in
    let makes = makes_after (script_outcome meaning) (script_line config kinds) [] 2 _ _ _ _ _ (Ok tt) Stands begun
    made in
    record {
      runs = (
        all,
        made_answer meaning config last.core.past last.watch.checker last.watch.count last.watch.bad _
            c.in_ok-core.ensures.config makes,
      );
    }

pub returns : goal.returns
returns g c =
    let kinds = c.args.kinds.0 in
    let config = c.in_ok-core.core.config in
    let begun = c.in_ok-core.ensures.begun (λ k. script_line k kinds) in
    let judged = rw c.config.ensures.value at c.in-Ok-new.ensures.begun in
    record {
      runs = runs_after (script_outcome (λ k. script_line k kinds)) (script_line config kinds) [] 2 _ _ _ _ _ _ _
          (Err c.in-Err.fault) begun
          (c.in-Err.ensures.runs config [] (c.in_ok-core.ensures.empty, judged));
    }
