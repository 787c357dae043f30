-- A completion in words.
use Rattle.std.specs.Prelude.{List, [], codes, decimal, ℕ, ◌∷◌}
use Rattle.std.specs.List.{concat}
use Rattle.nvme_model.specs.EntryBytes.{Cqe}
use Rattle.nvme_model.specs.Statuses.{status}
use Rattle.history_words.specs.Names.{status_told}
use Rattle.history_words.specs.Texts.{where_set}

-- the fields that have to be zero, where they aren't
abbrev pub reserved_told : Cqe → List ℕ
reserved_told c =
    concat (where_set (codes "CRD") c.crd ∷ where_set (codes "More") c.more ∷ where_set (codes "DNR") c.dnr
    ∷ where_set (codes "DW0") c.dw0 ∷ where_set (codes "DW1") c.dw1 ∷ [])

-- a completion by its fields: `CID 9, Compare Failure (2/85), queue 2, SQHD 2, phase 1`
abbrev pub completion_told : Cqe → List ℕ
completion_told c =
    concat (codes "CID " ∷ decimal c.cid ∷ codes ", " ∷ status_told (status c.sct c.sc)
    ∷ codes ", queue " ∷ decimal c.sqid ∷ codes ", SQHD " ∷ decimal c.sqhd ∷ codes ", phase " ∷ decimal c.phase
    ∷ reserved_told c ∷ [])
