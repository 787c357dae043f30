use Rattle.host_laws.proofs.Elements.{contains_in}
use Rattle.host_laws.specs.Takeovers.{takeovers}
use Rattle.host_laws.proofs.Effects.{takes_over}
use Rattle.host_laws.proofs.effect_laws.a_takeover_takes_the_slot_from_its_holder.Goals as goal

pub returns : goal.returns
returns c = λ n past w h i s. takes_over n past w h (contains_in (takeovers past) w i) s
