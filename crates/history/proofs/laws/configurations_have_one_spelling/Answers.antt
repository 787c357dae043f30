use Rattle.std.proofs.Common.{sym, ap, ◌∙◌}
use Rattle.history.specs.ConfigLine.{config_in, config_line}
use Rattle.history.proofs.ConfigLaws.{config_again, config_is}
use Rattle.history.proofs.OneSpelling.{one_of}
use Rattle.history.proofs.laws.configurations_have_one_spelling.Goals as goal

pub returns : goal.returns
returns c = record {
  read_back = config_again;
  one_configuration = λ a b p q e.
      one_of (config_in (config_line a)) a b (config_again a p) (ap config_in e ∙ config_again b q);
  written_back = λ line c h. sym (config_is line c h);
}
