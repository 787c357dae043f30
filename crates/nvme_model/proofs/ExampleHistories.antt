-- Which worked histories are legal.
use Rattle.std.specs.Prelude.{◌≡◌, refl, Some, None, true, false, reverse, take}
use Rattle.nvme_model.specs.FirstBad.{first_bad}
use Rattle.nvme_model.specs.Legal.{legal}
use Rattle.nvme_model.specs.Value.{value}
use Rattle.nvme_model.specs.Medium.{medium}
use Rattle.nvme_model.specs.declared.status.Verdict.{Verdict}
use Rattle.nvme_model.specs.Examples.{default, one, one_write_by, pair_by, lone_first, wrong_phase, lost_pair}

pub one_write_legal : legal default (reverse (one_write_by true)) ≡ true
one_write_legal = refl

-- without the mark the beginning of four is legal, and that of five isn't
pub unmarked_beginning : legal default (reverse (take 4 (one_write_by false))) ≡ true
unmarked_beginning = refl

pub unmarked_write : legal default (reverse (take 5 (one_write_by false))) ≡ false
unmarked_write = refl

pub unmarked_place : first_bad default (one_write_by false) ≡ Some 5
unmarked_place = refl

pub pair_legal : legal default (reverse (pair_by Verdict.Pair true 1)) ≡ true
pair_legal = refl

pub pair_marked_late : legal default (reverse (pair_by Verdict.Pair false 1)) ≡ true
pair_marked_late = refl

pub lone_first_beginning : legal default (reverse (take 1 lone_first)) ≡ true
lone_first_beginning = refl

pub lone_first_bad : legal default (reverse (take 2 lone_first)) ≡ false
lone_first_bad = refl

pub lone_first_place : first_bad default lone_first ≡ Some 2
lone_first_place = refl

pub wrong_phase_beginning : legal default (reverse (take 5 wrong_phase)) ≡ true
wrong_phase_beginning = refl

pub wrong_phase_bad : legal default (reverse (take 6 wrong_phase)) ≡ false
wrong_phase_bad = refl

pub wrong_phase_place : first_bad default wrong_phase ≡ Some 6
wrong_phase_place = refl

pub lost_pair_place : first_bad default lost_pair ≡ None
lost_pair_place = refl

pub lost_pair_legal : legal default (reverse lost_pair) ≡ true
lost_pair_legal = refl

pub lost_pair_value : value (reverse lost_pair) 3 ≡ one 0xa1
lost_pair_value = refl

pub lost_pair_medium : medium (reverse lost_pair) 3 ≡ one 0xa1
lost_pair_medium = refl
