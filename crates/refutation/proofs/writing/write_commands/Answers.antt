use Rattle.std.proofs.Common.{subst, sym}
use Rattle.std.specs.Io.KnownBytes.{Appends}
use Rattle.std.proofs.KnownBytes.{Appends-nil, Appends-trans}
use Rattle.line_text.proofs.Feeds.{feeds_none}
use Rattle.line_text.proofs.Known.{front_at, on_err}
use Rattle.refutation.specs.Texts.{command_line}
use Rattle.refutation.proofs.Feeds.{feeds_at, feeds_more}
use Rattle.refutation.proofs.writing.write_commands.Goals as goal

pub loop-queue-init : goal.loop-queue-init
loop-queue-init g c = subst (Appends _ _) (sym feeds_none) (Appends-nil _)

pub returns-in_err-write_command-clause-front : goal.returns-in_err-write_command-clause-front
returns-in_err-write_command-clause-front g c =
    on_err c.from_residual.result
    (front_at _ _ _ _ _ _ _
    (feeds_at command_line c.args.commands.now c.loop-queue.queue-index (0, 0) c.loop-queue-test.true)
    c.loop-queue.invariant c.in_err-write_command.ensures.front)

pub loop-queue-preserved : goal.loop-queue-preserved
loop-queue-preserved g c =
    subst (Appends _ _)
    (sym (feeds_more command_line c.args.commands.now c.loop-queue.queue-index (0, 0) c.loop-queue-test.true))
    (Appends-trans _ _ _ _ _ c.loop-queue.invariant c.in_ok-write_command.ensures.whole)
