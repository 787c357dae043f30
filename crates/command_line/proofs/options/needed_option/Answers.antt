use Rattle.std.proofs.Common.{ap, true}
use Rattle.clap.specs.Words.{Rule}
use Rattle.command_line.proofs.options.needed_option.Goals as goal

pub returns : goal.returns
returns c = rw c.required.ensures (ap (λ (r : Rule). record r { required = true }) c.number_option.ensures)
