use Rattle.std.proofs.Common.{◌≡◌, [], Err, None, Ok, Some, refl, sym, ◌∙◌}
use Rattle.nvme_model.specs.History.{Past}
use Rattle.nvme_model.specs.declared.config.ConfigNumbers.{ConfigNumbers}
use Rattle.controller_interface.specs.State.{ControllerState}
use Rattle.casdisk_texts.specs.Meaning.{Meaning}
use Rattle.casdisk_texts.specs.Remade.{HasRemade, first_other, remade_line}
use Rattle.casdisk_texts.specs.Script.{script_outcome}
use Rattle.casdisk_texts.proofs.Continuing.{Held, was_made}
use Rattle.casdisk_texts.proofs.Reaching.{makes_after, runs_after}
use Rattle.casdisk_texts.proofs.going_on.remake_history.Goals as goal

-- no entry was made yet
fresh : (core : ControllerState) → core.past ≡ [] → HasRemade core.config [] core None
fresh core empty = record { config = refl; first = refl; made = λ _. empty }

pub returns-in-Err-run_lines-clause-stopped : goal.returns-in-Err-run_lines-clause-stopped
returns-in-Err-run_lines-clause-stopped g c s =
    let kinds = c.args.kinds.0 in
    let core = c.in-Ok-begin_script.core in
    let meaning : ConfigNumbers → Meaning = λ k. remade_line k kinds in
    let ran = c.in-Err-run_lines.ensures.runs core.config [] (fresh core c.in-Ok-begin_script.ensures.empty) in (
      runs_after (script_outcome meaning) (remade_line core.config kinds) [] 2 _ _ _ _ _ _ _
          (Err c.in-Err-run_lines.fault) (c.in-Ok-begin_script.ensures.begun meaning) ran,
      refl,
    )

pub returns-in-Some-clause-stopped : goal.returns-in-Some-clause-stopped
returns-in-Some-clause-stopped g c s =
    let kinds = c.args.kinds.0 in
    let core = c.in-Ok-begin_script.core in
    let meaning : ConfigNumbers → Meaning = λ k. remade_line k kinds in
    let begun = c.in-Ok-begin_script.ensures.begun meaning in
    let start = fresh core c.in-Ok-begin_script.ensures.empty in
    let last = c.run_lines.new.actor in
    let Stands : Past → Type 0 = λ past. HasRemade core.config past last.core last.other in
    let all = runs_after (script_outcome meaning) (remade_line core.config kinds) [] 2 _ _ _ _ _ _ _ (Ok tt) begun
    (c.in-Ok-run_lines.ensures.runs core.config [] start) in
    let made = makes_after (script_outcome meaning) (remade_line core.config kinds) [] 2 _ _ _ _ _ (Ok tt) Stands begun
    (c.in-Ok-run_lines.ensures.makes core.config [] start) in (
      (
        all,
        was_made kinds core.config last.core last.other _ (λ k past. first_other k past ≡ Some c.in-Some.place)
            c.in-Ok-begin_script.ensures.config made (λ past r. sym r.first ∙ c.in-Some.is),
      ),
      refl,
    )

pub returns-clause-made : goal.returns-clause-made
returns-clause-made g c =
    let kinds = c.args.kinds.0 in
    let core = c.in-Ok-begin_script.core in
    let meaning : ConfigNumbers → Meaning = λ k. remade_line k kinds in
    let begun = c.in-Ok-begin_script.ensures.begun meaning in
    let start = fresh core c.in-Ok-begin_script.ensures.empty in
    let last = c.run_lines.new.actor in
    let Stands : Past → Type 0 = λ past. HasRemade core.config past last.core last.other in
    let all = runs_after (script_outcome meaning) (remade_line core.config kinds) [] 2 _ _ _ _ _ _ _ (Ok tt) begun
    (c.in-Ok-run_lines.ensures.runs core.config [] start) in
    let made = makes_after (script_outcome meaning) (remade_line core.config kinds) [] 2 _ _ _ _ _ (Ok tt) Stands begun
    (c.in-Ok-run_lines.ensures.makes core.config [] start) in (
      all,
      was_made kinds core.config last.core last.other _
          (Held last.core)
          c.in-Ok-begin_script.ensures.config made
          (λ past r. (r.config, r.made c.in_default-other.is, sym r.first ∙ c.in_default-other.is)),
    )
