use Rattle.refutation.proofs.Places.{answers_by_place, comes_by_place, ends_by_place, sure_by_place}
use Rattle.refutation.proofs.place_laws.places_tell_the_order.Goals as goal

pub returns : goal.returns
returns c = record {
  answers = answers_by_place;
  sure = sure_by_place;
  lines = ends_by_place;
  order = comes_by_place;
}
