use Rattle.std.proofs.Common.{subst}
use Rattle.file_commands.specs.Refuting.{TellsRefuted}
use Rattle.file_commands.proofs.BothRead.{refuted}
use Rattle.file_commands.proofs.refuting.refute_as.Goals as goal

pub returns : goal.returns
returns g c =
    let seen = c.in-Ok.seen in
    record {
      refutes =
          refuted c.args.json seen.options seen.config seen.history seen.things.items
          c.in-Ok-read_certificate.certificate c.in_ok-refuted.refuted c.tell_verdict.result _ _ _ _ _ _
          c.in-Ok.ensures.whole c.in-Ok-read_certificate.ensures.whole c.in_ok-refuted.ensures.answer
          (subst (λ v. TellsRefuted c.args.json v c.in_ok-refuted.refuted c.tell_verdict.result
          (g.W.Write.contents c.args.writer.now) (g.W.Write.contents c.tell_verdict.new.writer))
          c.verdict_of-verdict.ensures.value c.tell_verdict.ensures.told);
    }
