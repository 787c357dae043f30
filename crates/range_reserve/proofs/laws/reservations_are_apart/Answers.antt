use Rattle.range_reserve.proofs.Pairs.{alone, pair_at}
use Rattle.range_reserve.proofs.laws.reservations_are_apart.Goals as goal

pub returns : goal.returns
returns c = record {
  conflict = λ held i j g h a t. (pair_at held i j g h a t.0 t.1 t.2).conflict;
  ticket = λ held i j g h a t. (pair_at held i j g h a t.0 t.1 t.2).ticket;
  block = λ held i j l g h a t. alone g h l (pair_at held i j g h a t.0 t.1 t.2);
}
