use Rattle.std.proofs.Common.{length, map, ◌+◌, ◌≡◌}
use Rattle.refutation.specs.Texts.{read_pieces}
use Rattle.refutation.proofs.reading.read_pieces.Given as goal

abbrev pub invariant-loop-rest : goal.invariant-loop-rest
invariant-loop-rest l =
    (l.number + length l.rest ≡ 3 + length l.pieces)
    × (read_pieces l.number l.refutation (map (λ w. w.now) l.rest)
    ≡ read_pieces 3 l.initial.refutation (map (λ w. w.now) l.pieces))

abbrev pub decreases-loop-rest : goal.decreases-loop-rest
decreases-loop-rest l = length l.rest
