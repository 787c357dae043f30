-- What was judged of the history that a script made.
use Rattle.std.proofs.Common.{◌≡◌, ℕ, List, None, Some, false}
use Rattle.std.specs.Prelude.{IfSome, Ok, Option, is_none}
use Rattle.history_check.specs.Kept.{CheckerRun}
use Rattle.line_text.specs.Lines.{whole_lines}
use Rattle.nvme_model.specs.History.{Past}
use Rattle.nvme_model.specs.declared.config.ConfigNumbers.{ConfigNumbers}
use Rattle.casdisk_texts.specs.Checked.{HasMade}
use Rattle.casdisk_texts.specs.Files.{IsAnswer}
use Rattle.casdisk_texts.specs.Judged.{HasJudged, answer_text}
use Rattle.casdisk_texts.specs.Meaning.{Meaning}
use Rattle.casdisk_texts.specs.Running.{Makes}
use Rattle.casdisk_texts.specs.Script.{first_config, script_outcome}
use Rattle.casdisk_texts.specs.declared.judging.FirstBad.{FirstBad}
use Rattle.casdisk_texts.proofs.Placing.{answered_by}

-- what the judge of a whole script has is what a check of its history answers
pub made_answer : (meaning : ConfigNumbers → Meaning) (c : ConfigNumbers) (now : Past) (x : CheckerRun) (count : ℕ)
    (bad : FirstBad) (r : Option (List ℕ)) → IfSome r (λ bytes. first_config (whole_lines bytes) ≡ Some c)
    → Makes (script_outcome meaning) (Ok tt) r (λ past. (now ≡ past) × HasJudged false c past x count bad)
    → IfSome r (HasMade meaning (λ k past. IsAnswer k past (is_none bad.place) (answer_text bad.place)))
made_answer meaning c now x count bad None known h = tt
made_answer meaning c now x count bad (Some bytes) known h =
    (c, known, answered_by c (script_outcome meaning bytes).past bad.place h.1.first.place)
