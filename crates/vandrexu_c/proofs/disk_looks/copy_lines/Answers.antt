use Rattle.vandrexu_c.proofs.LinesLooked.{piece_tells}
use Rattle.vandrexu_c.proofs.disk_looks.copy_lines.Goals as goal

pub returns-in-Ok-clause-tells : goal.returns-in-Ok-clause-tells
returns-in-Ok-clause-tells c =
    piece_tells c.args.disk.now c.history.new.self c.args.from c.args.out.now c.copy_piece.new.out c.copy_piece.result
    c.copy_piece.new.needed c.copy_piece.new.next c.in-Ok.piece c.history.ensures.looked c.in-Ok.ensures.piece
    c.copy_piece.ensures.which c.copy_piece.ensures.done c.copy_piece.ensures.too_small
