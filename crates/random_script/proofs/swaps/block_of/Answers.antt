use Rattle.random_script.proofs.Names.{small_block}
use Rattle.random_script.proofs.swaps.block_of.Goals as goal

pub returns : goal.returns
returns c = record { value = small_block c.args.host c.args.serial c.ranges.host.fits c.ranges.serial.fits }
