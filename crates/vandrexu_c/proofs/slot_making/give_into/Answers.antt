use Rattle.vandrexu_c.proofs.Fresh.{refused_told}
use Rattle.vandrexu_c.proofs.slot_making.give_into.Goals as goal

pub returns-in-Err : goal.returns-in-Err
returns-in-Err c =
    let x = c.in-Err.ensures in
    record {
      same = x.same;
      done = λ none. absurd (refused_told c.args.disk.now c.args.number c.args.queue c.in-Err.told x.cause.cause none);
      failed = λ some. (c.requires.none, x.cause);
    }
