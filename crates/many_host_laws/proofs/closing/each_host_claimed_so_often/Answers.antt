use Rattle.many_host_laws.proofs.Rostering.{race_rounds}
use Rattle.many_host_laws.proofs.closing.each_host_claimed_so_often.Goals as goal

pub returns : goal.returns
returns c = λ config slots servers rounds passes past some count ended claimed whole legal.
    race_rounds config slots servers passes past some count ended whole legal rounds claimed
