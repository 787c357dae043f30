-- What becomes of the entries that a Fetch takes, by the definitions of the verdict and of operations.
use Rattle.std.specs.Prelude.{List, None, Option, Some, [], false, map, take, true, ℕ, ◌∷◌, ◌≡◌}
use Rattle.nvme_model.specs.Array.{IsRange}
use Rattle.nvme_model.specs.Cells.{pair_fits}
use Rattle.nvme_model.specs.Cut.{cut}
use Rattle.nvme_model.specs.EntryBytes.{Sqe, block_count, slba}
use Rattle.nvme_model.specs.Operations.{is_pair}
use Rattle.nvme_model.specs.Verdict.{Item, taken_entries}
use Rattle.nvme_model.specs.declared.array.Range.{Range}
use Rattle.nvme_model.specs.declared.config.AtomicParameters.{AtomicParameters}
use Rattle.nvme_model.specs.declared.operation.Op.{Op}
use Rattle.nvme_model.specs.declared.status.Verdict.{Verdict}
use Rattle.fused_match.specs.declared.judged.Judged.{Judged}
use Rattle.fused_match.specs.declared.judged.Judged.TheVariants.{Flush, Single, Pair, SingleFailed, PairFailed}

-- the verdict that it is
abbrev pub verdict_by : Judged → Verdict
verdict_by Flush = Verdict.Single
verdict_by (Single o r) = Verdict.Single
verdict_by (Pair r) = Verdict.Pair
verdict_by (SingleFailed s) = Verdict.SingleFailed s
verdict_by (PairFailed s t) = Verdict.PairFailed s t

-- what is then done
abbrev pub operation_in : Judged → Option Op
operation_in (Single o r) = Some o
operation_in (Pair r) = Some Op.Pair
operation_in _ = None

-- its units, in order
abbrev pub units_in_order : AtomicParameters → Judged → List Range
units_in_order u (Single o r) = cut u r.slba r.blocks
units_in_order u (Pair r) = r ∷ []
units_in_order u _ = []

-- one command does no pair's work, and the blocks can be some of a volume
abbrev pub IsSound : Judged → Type 0
IsSound (Single o r) = (is_pair (Some o) ≡ false) × IsRange r
IsSound (Pair r) = IsRange r
IsSound _ = Unit {0}

-- and a pair fits one unit
abbrev pub IsSoundFor : AtomicParameters → Judged → Type 0
IsSoundFor u (Pair r) = IsSound (Pair r) × (pair_fits u r.slba r.blocks ≡ true)
IsSoundFor u j = IsSound j

-- the blocks of the first command are those that it names
abbrev pub NamesBlocks : Judged → Sqe → Type 0
NamesBlocks (Single o r) e = (r.slba ≡ slba e) × (r.blocks ≡ block_count e)
NamesBlocks (Pair r) e = (r.slba ≡ slba e) × (r.blocks ≡ block_count e)
NamesBlocks _ e = Unit {0}

-- the entries that wait: the first and the one behind it, if there is one
abbrev pub waiting_items : Item → Option Item → List Item
waiting_items first None = first ∷ []
waiting_items first (Some next) = first ∷ next ∷ []

-- the CIDs of those of one or two entries that are taken
abbrev pub cids_taken : Judged → Item → Option Item → List ℕ
cids_taken j first second = map (λ i. i.fields.cid) (take (taken_entries (verdict_by j)) (waiting_items first second))
