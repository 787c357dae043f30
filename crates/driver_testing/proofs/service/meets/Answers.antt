use Rattle.driver_testing.proofs.service.meets.Goals as goal

pub returns-clause-one : goal.returns-clause-one
returns-clause-one c =
    let x = c.met-met.ensures in
    record {
      ready = x.one;
      begun =
          c.begun_stays.ensures c.args.one.now.host c.of-first.ensures x.first.1 c.args.one.now.stage
          c.requires.one.begun;
    }

pub returns-clause-two : goal.returns-clause-two
returns-clause-two c =
    let x = c.met-met.ensures in
    record {
      ready = x.two;
      begun =
          c.begun_stays-2.ensures c.args.two.now.host c.of-second.ensures x.second.1 c.args.two.now.stage
          c.requires.two.begun;
    }
