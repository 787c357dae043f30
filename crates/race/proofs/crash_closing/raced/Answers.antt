use Rattle.std.proofs.Common.{IfSome, rules, subst, ◌≡◌}
use Rattle.nvme_model.specs.declared.config.ConfigNumbers.{ConfigNumbers}
use Rattle.race_numbers.specs.Races.{race_config}
use Rattle.race.proofs.crash_closing.raced.Goals as goal

pub returns-clause-config : goal.returns-clause-config
returns-clause-config g c =
    let e = c.play_of-play.ensures in
    let is : IfSome c.closed.result (λ core. core.config ≡ race_config c.args.race.now) =
    subst (λ (d : ConfigNumbers). IfSome c.closed.result (λ core. core.config ≡ d)) e.config
    c.closed.ensures in
    search rules
