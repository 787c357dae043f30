use Rattle.std.proofs.Common.{ap, eqb, sym, ◌+◌, ◌∙◌}
use Rattle.std.specs.Prelude.{option_map}
use Rattle.rings.proofs.Positions.{place_in_rest}
use Rattle.rings.proofs.in_use.place_of.Goals as goal

pub returns-in-Some : goal.returns-in-Some
returns-in-Some c = record {
  value = ap (option_map (λ i. c.others_before-from.result + i)) (sym c.in-Some.is ∙ c.first_place.ensures.value)
      ∙ sym (place_in_rest (λ one. eqb one c.args.cid) c.others_before-from.result c.args.cids.now
      c.others_before-from.ensures.others c.others_before-from.ensures.within);
}

pub returns-in-None : goal.returns-in-None
returns-in-None c = record {
  value = ap (option_map (λ i. c.others_before-from.result + i)) (sym c.in-None.is ∙ c.first_place.ensures.value)
      ∙ sym (place_in_rest (λ one. eqb one c.args.cid) c.others_before-from.result c.args.cids.now
      c.others_before-from.ensures.others c.others_before-from.ensures.within);
}
