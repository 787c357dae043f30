use Rattle.block_exec.proofs.Histories.{block_entry-next_done}
use Rattle.block_exec.proofs.laws.a_step_says_the_block_that_is_due.Goals as goal

pub returns : goal.returns
returns c = block_entry-next_done
