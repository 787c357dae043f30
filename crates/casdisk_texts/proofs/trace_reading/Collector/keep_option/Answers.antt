use Rattle.std.proofs.Common.{arith, sym, ◌∙◌}
use Rattle.casdisk_texts.proofs.Collected.{option_collected, option_crowded, option_late, option_stands}
use Rattle.casdisk_texts.proofs.trace_reading.Collector.keep_option.Goals as goal

pub returns-in_default-clause-taken : goal.returns-in_default-clause-taken
returns-in_default-clause-taken c = λ n past h.
    option_crowded c.args.self.now.wide c.args.self.now.history c.args.option.now past
    (sym c.config_after.ensures.value ∙ c.in_default.is)

pub returns-clause-taken : goal.returns-clause-taken
returns-clause-taken c = λ n past h.
    let x = c.args.self.now in
    let o = c.args.option.now in
    let is = sym c.config_after.ensures.value ∙ c.in-Some.is in (
      option_stands x.wide x.history c.in-Some.history x.rank o past h.last
          (omega (arith, c.if-self-rank.false, c.rank-rank.ensures.value)) is,
      rw (c.added_to-self.ensures.value, c.rank-rank.ensures.value)
          (option_collected n x.wide x.history c.in-Some.history x.options x.rank x.things.items o past h is),
    )

pub returns-then-self-rank-clause-taken : goal.returns-then-self-rank-clause-taken
returns-then-self-rank-clause-taken c = λ n past h.
    option_late _ c.args.self.now.rank c.args.option.now past h.last
    (omega (arith, c.if-self-rank.true, c.rank-rank.ensures.value))
