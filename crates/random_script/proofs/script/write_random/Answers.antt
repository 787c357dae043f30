use Rattle.random_script.proofs.Drawn.{written}
use Rattle.random_script.proofs.script.write_random.Goals as goal

pub returns : goal.returns
returns g c =
    record {
      writes = written c.args.kind c.args.config c.args.count c.in-Ok.lines.items c.print_script.result _ _
          c.in-Ok.ensures.lines (rw c.as_slice.ensures.value at c.print_script.ensures.whole)
          (rw c.as_slice.ensures.value at c.print_script.ensures.front)
          (rw c.as_slice.ensures.value at c.print_script.ensures.read);
    }
