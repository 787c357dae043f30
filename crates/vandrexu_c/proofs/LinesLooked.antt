-- What is told of the lines of a disk's history that were found.
use Rattle.std.proofs.Common.{List, inl, inr, length, ℕ, ◌≡◌, ◌⊎◌}
use Rattle.c_handles.specs.Disks.{AsSeen, HasLooked}
use Rattle.c_handles.specs.Pieces.{IsPiece, lines_told}
use Rattle.c_handles.specs.declared.disk.Disk.{Disk}
use Rattle.c_handles.specs.declared.pieces.Piece.{Piece}
use Rattle.vandrexu_c.specs.DiskLooks.{TellsLines}
use Rattle.vandrexu_c.specs.HistoryLines.{CopiesLines, LacksRoomForLine}

-- a piece was found, and as many of its lines are copied as fit
pub piece_tells : (d e : Disk) (from : ℕ) (old new : List ℕ) (number needed next : ℕ) (p : Piece) → HasLooked d e
    → AsSeen e (λ s. IsPiece (lines_told s from) from (length old) p)
    → (number ≡ 0) ⊎ (number ≡ 103)
    → ((lines : List (List ℕ)) (f : ℕ) → IsPiece lines f (length old) p → number ≡ 0
    → CopiesLines lines f old new needed next)
    → ((lines : List (List ℕ)) (f : ℕ) → IsPiece lines f (length old) p → number ≡ 103
    → LacksRoomForLine lines (length old) needed)
    → TellsLines d e from old new number needed next
piece_tells d e from old new number needed next p looked seen which done small =
    record {
      looked = looked;
      told = elim (which) [
        | inl z ↦ inl (z, (seen.0, seen.1, seen.2, done (lines_told seen.0 from) from seen.3 z))
        | inr z ↦ inr (inl (z, (seen.0, seen.1, seen.2, small (lines_told seen.0 from) from seen.3 z)))
      ];
    }
