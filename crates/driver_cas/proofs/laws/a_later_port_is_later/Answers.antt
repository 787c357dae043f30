use Rattle.driver_cas.proofs.laws.a_later_port_is_later.Goals as goal

pub returns : goal.returns
returns g c = record { stays = λ a. g.met.P.Port.stays a; goes_on = λ a b c x y. g.met.P.Port.goes_on a b c x y }
