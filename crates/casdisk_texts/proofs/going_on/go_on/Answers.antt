use Rattle.std.proofs.Common.{Err, Ok, refl, ◌∙◌}
use Rattle.casdisk_texts.specs.Remade.{continued}
use Rattle.casdisk_texts.specs.Said.{script_line}
use Rattle.casdisk_texts.proofs.Continuing.{has_config, reached_first, stops_first}
use Rattle.casdisk_texts.proofs.Reaching.{runs_after}
use Rattle.casdisk_texts.proofs.going_on.go_on.Goals as goal

pub returns-in-Err : goal.returns-in-Err
returns-in-Err g c =
    record {
      goes_on = stops_first c.args.core.config c.args.kinds.0 c.args.core.past c.in-Err.fault _ _ _
          c.in-Err.ensures.none;
    }

pub returns-in-Ok-run_lines : goal.returns-in-Ok-run_lines
returns-in-Ok-run_lines g c =
    let kinds = c.args.kinds.0 in
    let core = c.args.core in
    let config = c.in-Ok-read_first.config in
    let same = c.same_config.ensures.value.0 c.if-not-same_config.false ∙ c.config.ensures.value in
    let line = c.in-Ok-read_first.ensures.line in
    let reached = reached_first core.config kinds core.past config _ _ _ _ line _ same in
    let ran = c.in-Ok-run_lines.ensures.runs core.config core.past (refl, tt) in
    record {
      goes_on = (
        has_config core.config kinds core.past config _ _ _ _ line same,
        runs_after (continued core.config kinds core.past) (script_line core.config kinds) core.past 2 _ _ _ _ _ _ _
            (Ok tt) reached ran,
      );
    }

pub returns : goal.returns
returns g c =
    let kinds = c.args.kinds.0 in
    let core = c.args.core in
    let config = c.in-Ok-read_first.config in
    let same = c.same_config.ensures.value.0 c.if-not-same_config.false ∙ c.config.ensures.value in
    let reached = reached_first core.config kinds core.past config _ _ _ _ c.in-Ok-read_first.ensures.line _ same in
    let ran = c.in-Err-run_lines.ensures.runs core.config core.past (refl, tt) in
    record {
      goes_on = runs_after (continued core.config kinds core.past) (script_line core.config kinds) core.past 2 _ _ _ _
          _ _ _ (Err c.in-Err-run_lines.fault) reached ran;
    }
