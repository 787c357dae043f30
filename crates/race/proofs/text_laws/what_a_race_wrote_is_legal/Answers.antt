use Rattle.std.proofs.Common.{None, arith, subst, ◌≡◌, ◌∙◌}
use Rattle.nvme_model.specs.Config.{config_fault}
use Rattle.nvme_model.specs.declared.config.ConfigNumbers.{ConfigNumbers}
use Rattle.history.specs.ConfigLine.{HasConfigLine}
use Rattle.race_numbers.specs.Races.{race_config}
use Rattle.race.proofs.TextTelling.{race_says}
use Rattle.race.proofs.text_laws.what_a_race_wrote_is_legal.Goals as goal

pub returns : goal.returns
returns c =
    let few = c.args.race.now.hosts_fit.1 in
    let queues = c.args.race.now.queues_fit.1 in
    let is : HasConfigLine (race_config c.args.race.now) = record {
      blocks = omega arith;
      awun = omega arith;
      acwu = omega arith;
      nabsn = omega arith;
      nabo = omega arith;
      pairs = omega (arith, queues);
      sq_size = omega arith;
      cq_size = omega arith;
      jobs = omega arith;
      cqs = omega (arith, few);
    } in
    let accepted : config_fault (race_config c.args.race.now) ≡ None =
    subst (λ (k : ConfigNumbers). config_fault k ≡ None) (c.numbers.ensures.value ∙ c.config.ensures.value)
    c.numbers.ensures.accepted in
    λ text told left old new printed checked.
    race_says (race_config c.args.race.now) is accepted text told left old new printed checked
