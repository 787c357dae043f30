use Rattle.host_laws.proofs.Without.{believed_as_before, disciplined_as_before, keeps_as_before}
use Rattle.host_laws.proofs.rule_laws.without_takeovers_all_is_as_before.Goals as goal

pub returns : goal.returns
returns c = record {
  believed = believed_as_before;
  keeps = keeps_as_before;
  disciplined = disciplined_as_before;
}
