use Rattle.trace.proofs.Beginnings.{all_explained, explains_all}
use Rattle.trace.proofs.seen_laws.no_option_leaves_nothing_out.Goals as goal

pub returns : goal.returns
returns c = λ n past trace. (all_explained n past trace, explains_all n past trace)
