use Rattle.std.proofs.Common.{[]}
use Rattle.casdisk_texts.specs.Said.{script_line}
use Rattle.casdisk_texts.specs.Script.{script_outcome}
use Rattle.casdisk_texts.proofs.Reaching.{runs_after}
use Rattle.casdisk_texts.proofs.script.run_script.Goals as goal

pub returns : goal.returns
returns g c =
    let kinds = c.args.kinds.0 in
    let config = c.in_ok-core.core.config in
    let begun = c.in_ok-core.ensures.begun (λ c'. script_line c' kinds) in
    let ran = c.run_lines.ensures.runs config [] (c.in_ok-core.ensures.empty, tt) in
    record {
      runs = runs_after (script_outcome (λ c'. script_line c' kinds)) (script_line config kinds) [] 2 _ _ _ _ _ _ _
          c.run_lines.result begun ran;
    }
