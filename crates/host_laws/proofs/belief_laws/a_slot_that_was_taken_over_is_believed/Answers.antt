use Rattle.host_laws.proofs.Elements.{contains_in}
use Rattle.host_laws.specs.Takeovers.{takeovers}
use Rattle.host_laws.proofs.Winning.{taker_given, taker_kept}
use Rattle.host_laws.proofs.belief_laws.a_slot_that_was_taken_over_is_believed.Goals as goal

pub returns : goal.returns
returns c = record {
  kept = λ n slots past w d v i s u. taker_kept n slots past w d v (contains_in (takeovers past) w i) s u;
  given = λ n past w i. taker_given n past w (contains_in (takeovers past) w i);
}
