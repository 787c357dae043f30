-- The fields of answers as JSON objects.
use Rattle.std.specs.Prelude.{List, None, Option, Some, codes, ℕ}
use Rattle.witness_check.specs.declared.comparison.TraceVerdict.{TraceVerdict}
use Rattle.witness_check.specs.declared.comparison.TraceVerdict.TheVariants.{Bad, Explained, Unlike}
use Rattle.witness_check.specs.declared.difference.Difference.{Difference}
use Rattle.witness_check.specs.declared.difference.Difference.TheVariants.{Batch, Completion, Contents, Data}
use Rattle.witness_check.specs.declared.difference.Difference.TheVariants.{HistoryEnds, Kind, Order, Queue, TraceEnds}
use Rattle.casdisk_texts.specs.Objects.{AnswerFields, place_fields, plain_fields, with_rule}
use Rattle.casdisk_texts.specs.RuleNames.{rule_name, rule_numbers}
use Rattle.casdisk_texts.specs.declared.explaining.BadStep.{BadStep}
use Rattle.casdisk_texts.specs.declared.explaining.Explained.TheVariants as Explanation
use Rattle.casdisk_texts.specs.declared.explaining.Explained.{Explained as ExplainedHistory}

-- the answer on a history, by its first bad place
abbrev pub answer_fields : Option ℕ → AnswerFields
answer_fields None = plain_fields (codes "legal")
answer_fields (Some place) = place_fields (codes "bad") place

-- an entry that breaks a rule
abbrev pub step_fields : BadStep → AnswerFields
step_fields step =
    with_rule (answer_fields (Some step.place)) (Some (rule_name step.broken)) (rule_numbers step.broken)

-- what is said of a history
abbrev pub explained_fields : ExplainedHistory → AnswerFields
explained_fields Explanation.Legal = answer_fields None
explained_fields (Explanation.BadAt step) = step_fields step

-- the name of what differs
abbrev pub difference_name : Difference → List ℕ
difference_name TraceEnds = codes "trace ends"
difference_name HistoryEnds = codes "history ends"
difference_name Kind = codes "kind"
difference_name Queue = codes "queue"
difference_name Batch = codes "entries"
difference_name Completion = codes "completion"
difference_name Data = codes "data"
difference_name Contents = codes "contents"
difference_name Order = codes "order"

-- the verdict on a trace and a history
abbrev pub verdict_fields : TraceVerdict → AnswerFields
verdict_fields Explained = plain_fields (codes "explained")
verdict_fields (Bad place) = answer_fields (Some place)
verdict_fields (Unlike place difference) =
    record (plain_fields (codes "seen")) { place = Some place; rule = Some (difference_name difference) }
