use Rattle.std.proofs.Common.{List, ap, arith, map, ℕ, ◌∙◌}
use Rattle.std.proofs.lemmas.List.{take_all}
use Rattle.nvme_model.specs.Operations.{write_data}
use Rattle.refutation.specs.Slices.{ticket_of}
use Rattle.refutation_check.specs.Commands.{name_of}
use Rattle.refutation_check.specs.Known.{trace_of}
use Rattle.refutation_check.proofs.writes.written_on.Goals as goal

pub returns : goal.returns
returns c =
    let t = ticket_of (trace_of c.args.known.now) (name_of c.args.effect.now) in
    record {
      value = λ k.
          c.loop-block.invariant k
          ∙ ap (λ (ls : List ℕ). map (λ l. (l, write_data t l)) ls)
          (take_all c.loop-block.block-index c.args.blocks.now (omega (arith, c.loop-block-test.false)));
    }
