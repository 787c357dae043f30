use Rattle.std.proofs.Common.{rules}
use Rattle.slots_example.proofs.releases.Goals as goal

pub ends-requires-clause-own : goal.ends-requires-clause-own
ends-requires-clause-own g c = (
  c.requires.own.0,
  record {
    host = record {
      of = search rules;
      area_is = search rules;
      slots = search rules;
      host = search rules;
      queue = search rules;
      place = search rules;
    };
    slot_rules = search rules;
  },
)
