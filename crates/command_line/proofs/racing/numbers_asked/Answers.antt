use Rattle.command_line.proofs.racing.numbers_asked.Goals as goal

pub returns-in_err-hosts-clause-only : goal.returns-in_err-hosts-clause-only
returns-in_err-hosts-clause-only c h w s r q says = let bad = c.in_err-hosts.ensures.only h says.of_hosts in absurd cc

pub returns-in_err-workers-clause-only : goal.returns-in_err-workers-clause-only
returns-in_err-workers-clause-only c h w s r q says = let bad = c.in_err-workers.ensures.only w says.of_workers in
    absurd cc

pub returns-in_err-slots-clause-only : goal.returns-in_err-slots-clause-only
returns-in_err-slots-clause-only c h w s r q says = let bad = c.in_err-slots.ensures.only s says.of_slots in absurd cc

pub returns-in_err-rounds-clause-only : goal.returns-in_err-rounds-clause-only
returns-in_err-rounds-clause-only c h w s r q says = let bad = c.in_err-rounds.ensures.only r says.of_rounds in
    absurd cc

pub returns-in_err-queues-clause-only : goal.returns-in_err-queues-clause-only
returns-in_err-queues-clause-only c h w s r q says = let bad = c.in_err-queues.ensures.only q says.of_queues in
    absurd cc
