use Rattle.std.proofs.Common.{[], ap, ◌∷◌}
use Rattle.clap.specs.Words.{Rule}
use Rattle.command_line.proofs.options.default_option.Goals as goal

pub returns : goal.returns
returns c =
    rw c.default_value.ensures
    (ap (λ (r : Rule). record r { defaults = c.args.default.now ∷ [] }) c.number_option.ensures)
