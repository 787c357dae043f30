-- The lines of a history in words.
use Rattle.std.specs.Prelude.{Bool, List, [], codes, decimal, if◌then◌else◌, length, ℕ, ◌++◌, ◌==◌, ◌∷◌}
use Rattle.std.specs.List.{concat}
use Rattle.nvme_model.specs.EntryBytes.{cqe_fields}
use Rattle.nvme_model.specs.declared.array.Mode.{Mode}
use Rattle.nvme_model.specs.declared.config.ConfigNumbers.{ConfigNumbers}
use Rattle.nvme_model.specs.declared.entry.Entry.{Entry}
use Rattle.nvme_model.specs.declared.status.Verdict.{Verdict}
use Rattle.history.specs.Marks.{found_word}
use Rattle.history_words.specs.Commands.{batch_told}
use Rattle.history_words.specs.Completions.{completion_told}
use Rattle.history_words.specs.Names.{status_told}
use Rattle.history_words.specs.Texts.{blocks_told}
use Rattle.history_words.specs.declared.paint.Paint.{Paint}

-- ---- a configuration

-- the numbers by which commands are cut into units
abbrev pub cut_told : ConfigNumbers → List ℕ
cut_told c =
    concat (codes "AWUN " ∷ decimal c.atomic.awun ∷ codes ", ACWU " ∷ decimal c.atomic.acwu
    ∷ codes ", NABSN " ∷ decimal c.atomic.nabsn ∷ codes ", NABO " ∷ decimal c.atomic.nabo ∷ [])

-- the queues
abbrev pub queues_told : ConfigNumbers → List ℕ
queues_told c =
    concat (codes "submission queues " ∷ decimal c.pairs ∷ codes " of " ∷ decimal c.sq_size
    ∷ codes " slots, completion queues " ∷ decimal c.cqs ∷ codes " of " ∷ decimal c.cq_size ∷ codes " slots" ∷ [])

-- a configuration
abbrev pub config_told : ConfigNumbers → List ℕ
config_told c =
    concat (codes "config: blocks " ∷ decimal c.blocks ∷ codes ", " ∷ cut_told c ∷ codes ", " ∷ queues_told c
    ∷ codes ", tickets in flight at most " ∷ decimal c.jobs ∷ [])

-- ---- an entry

-- what a Fetch took, and the statuses where the checks failed
abbrev pub verdict_told : Verdict → List ℕ
verdict_told Verdict.Single = codes "one command"
verdict_told (Verdict.SingleFailed s) = codes "one command, " ++ status_told s
verdict_told Verdict.Pair = codes "a pair"
verdict_told (Verdict.PairFailed s r) = concat (codes "a pair, " ∷ status_told s ∷ codes " and " ∷ status_told r ∷ [])

-- how a unit holds its blocks
abbrev pub mode_told : Mode → List ℕ
mode_told Mode.Shared = codes "shared"
mode_told Mode.Exclusive = codes "exclusive"

-- whether a unit takes effect
abbrev pub effect_told : Bool → List ℕ
effect_told effect = if effect then codes ", takes effect" else []

-- how many bytes were read, where some were
abbrev pub read_told : List ℕ → List ℕ
read_told payload =
    if length payload == 0 then [] else concat (codes ", " ∷ decimal (length payload) ∷ codes " bytes read" ∷ [])

-- an entry
abbrev pub entry_told : Entry → List ℕ
entry_told (Entry.Publish p) = concat (codes "publish " ∷ decimal p.queue ∷ codes ": " ∷ batch_told p.batch ∷ [])
entry_told (Entry.Fetch f) =
    concat (codes "fetch " ∷ decimal f.queue ∷ codes ": ticket " ∷ decimal f.ticket ∷ codes ", "
    ∷ verdict_told f.verdict ∷ [])
entry_told (Entry.Grant g) =
    concat (codes "grant " ∷ decimal g.ticket ∷ codes ": unit " ∷ decimal g.unit ∷ codes ", "
    ∷ blocks_told g.range.slba g.range.blocks ∷ codes ", " ∷ mode_told g.mode ∷ [])
entry_told (Entry.Block b) =
    concat (codes "block " ∷ decimal b.ticket ∷ codes ": unit " ∷ decimal b.unit ∷ codes ", block " ∷ decimal b.lba
    ∷ codes ", " ∷ found_word b.found ∷ effect_told b.effect ∷ [])
entry_told (Entry.Post p) =
    concat (codes "post " ∷ decimal p.ticket ∷ codes ": " ∷ completion_told (cqe_fields p.cqe) ∷ read_told p.payload
    ∷ [])
entry_told (Entry.Reap r) =
    concat (codes "reap " ∷ decimal r.queue ∷ codes ": " ∷ completion_told (cqe_fields r.cqe) ∷ [])

-- ---- colours

-- the number of the colour of an entry's kind, as terminals have them
abbrev pub entry_color : Entry → List ℕ
entry_color (Entry.Publish p) = codes "36"
entry_color (Entry.Fetch f) = codes "34"
entry_color (Entry.Grant g) = codes "33"
entry_color (Entry.Block b) = codes "32"
entry_color (Entry.Post p) = codes "35"
entry_color (Entry.Reap r) = codes "31"

-- a text, in a colour where that is asked
abbrev pub painted : Paint → List ℕ → List ℕ → List ℕ
painted Paint.Plain color text = text
painted Paint.Colored color text =
    concat ((27 ∷ 91 ∷ []) ∷ color ∷ codes "m" ∷ text ∷ (27 ∷ 91 ∷ 48 ∷ 109 ∷ []) ∷ [])

-- the line of a configuration
abbrev pub config_painted : Paint → ConfigNumbers → List ℕ
config_painted paint c = painted paint (codes "37") (config_told c)

-- the line of an entry
abbrev pub entry_painted : Paint → Entry → List ℕ
entry_painted paint e = painted paint (entry_color e) (entry_told e)
