use Rattle.driver_cas.proofs.Places.{place_there}
use Rattle.driver_cas.proofs.cid_table.CidTable.hold.Goals as goal

pub unwrap-place-requires : goal.unwrap-place-requires
unwrap-place-requires c = rw c.place.ensures.value (place_there _ _ _ c.requires.known c.requires.below)
