use Rattle.std.proofs.Common.{◌∙◌}
use Rattle.clap.specs.Words.{found_of}
use Rattle.clap.proofs.WalkLemmas.{one_text-rows}
use Rattle.command_line.proofs.options.flag_asked.Goals as goal

pub returns : goal.returns
returns c =
    let is = one_text-rows (found_of c.args.matches.now) c.args.name.now in
    record {
      says = record {
        left_out = λ e. c.get_flag.ensures.none (is ∙ e);
        named = λ e. c.get_flag.ensures.value (is ∙ e);
        by_default = λ e. c.get_flag.ensures.other (is ∙ e);
      };
    }
