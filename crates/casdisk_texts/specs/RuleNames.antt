-- The rules that an entry may break, by a name and by numbers.
use Rattle.std.specs.Prelude.{List, [], codes, ℕ, ◌%◌, ◌++◌, ◌/◌, ◌∷◌}
use Rattle.nvme_model.specs.Refusals.{refusal_number}
use Rattle.nvme_model.specs.declared.status.Verdict.{Verdict}
use Rattle.broken_rules.specs.declared.broken.Broken.{Broken}
use Rattle.broken_rules.specs.declared.unlike.Unlike.{Unlike}

-- what of a completion differs
abbrev pub unlike_name : Unlike → List ℕ
unlike_name (Unlike.Sqid found due) = codes "SQID"
unlike_name (Unlike.Cid found due) = codes "CID"
unlike_name (Unlike.Status found due) = codes "status"
unlike_name (Unlike.Sqhd found due) = codes "SQHD"
unlike_name (Unlike.Phase found due) = codes "phase tag"
unlike_name (Unlike.Byte place found due) = codes "byte"

-- the name of a rule
abbrev pub rule_name : Broken → List ℕ
rule_name Broken.Earlier = codes "earlier"
rule_name (Broken.Refused why) = codes "refused"
rule_name (Broken.Ticket found last) = codes "ticket"
rule_name (Broken.Verdict found due) = codes "verdict"
rule_name (Broken.Unit found due) = codes "unit"
rule_name (Broken.Range found due) = codes "range"
rule_name (Broken.Mode found due) = codes "mode"
rule_name (Broken.Block found due) = codes "block"
rule_name (Broken.Word found due) = codes "word"
rule_name (Broken.SecondMark unit) = codes "second mark"
rule_name (Broken.EarlyMark unit) = codes "early mark"
rule_name (Broken.Mark unit) = codes "mark"
rule_name (Broken.Answer lba found) = codes "answer"
rule_name (Broken.NothingOwed ticket) = codes "nothing owed"
rule_name (Broken.Completion unlike) = unlike_name unlike
rule_name (Broken.Length found due) = codes "length"
rule_name (Broken.Data place found due) = codes "data"
rule_name (Broken.Reaped unlike) = codes "another completion"

-- What differs of a completion: what stands there and what is due, of a status each its type and its code; of a byte
-- its place before both.
abbrev pub unlike_numbers : Unlike → List ℕ
unlike_numbers (Unlike.Sqid found due) = found ∷ due ∷ []
unlike_numbers (Unlike.Cid found due) = found ∷ due ∷ []
unlike_numbers (Unlike.Status found due) = found / 256 ∷ found % 256 ∷ due / 256 ∷ due % 256 ∷ []
unlike_numbers (Unlike.Sqhd found due) = found ∷ due ∷ []
unlike_numbers (Unlike.Phase found due) = found ∷ due ∷ []
unlike_numbers (Unlike.Byte place found due) = place ∷ found ∷ due ∷ []

-- what a Fetch says of its commands: how many there are, and of a status its type and its code
abbrev pub verdict_numbers : Verdict → List ℕ
verdict_numbers Verdict.Single = 1 ∷ []
verdict_numbers (Verdict.SingleFailed s) = 1 ∷ s.sct ∷ s.sc ∷ []
verdict_numbers Verdict.Pair = 2 ∷ []
verdict_numbers (Verdict.PairFailed s r) = 2 ∷ s.sct ∷ s.sc ∷ r.sct ∷ r.sc ∷ []

-- The numbers of a rule that is broken, in the order of its words: what stands there, and then what is due.
abbrev pub rule_numbers : Broken → List ℕ
rule_numbers Broken.Earlier = []
rule_numbers (Broken.Refused why) = refusal_number why ∷ []
rule_numbers (Broken.Ticket found last) = found ∷ last ∷ []
rule_numbers (Broken.Verdict found due) = verdict_numbers found ++ verdict_numbers due
rule_numbers (Broken.Unit found due) = found ∷ due ∷ []
rule_numbers (Broken.Range found due) = found.blocks ∷ found.slba ∷ due.blocks ∷ due.slba ∷ []
rule_numbers (Broken.Mode found due) = []
rule_numbers (Broken.Block found due) = found ∷ due ∷ []
rule_numbers (Broken.Word found due) = []
rule_numbers (Broken.SecondMark unit) = unit ∷ []
rule_numbers (Broken.EarlyMark unit) = unit ∷ []
rule_numbers (Broken.Mark unit) = unit ∷ []
rule_numbers (Broken.Answer lba found) = lba ∷ []
rule_numbers (Broken.NothingOwed ticket) = ticket ∷ []
rule_numbers (Broken.Completion unlike) = unlike_numbers unlike
rule_numbers (Broken.Length found due) = found ∷ due ∷ []
rule_numbers (Broken.Data place found due) = place ∷ found ∷ due ∷ []
rule_numbers (Broken.Reaped unlike) = unlike_numbers unlike
