use Rattle.driver_tests.proofs.hostile.a_completion_counts_once.Goals as goal

pub is_told-requires : goal.is_told-requires
is_told-requires g c =
    let of = c.in-Ok.ensures.call.0 in
    c.polled-told.ensures.others c.in-Ok.one (c.in-Ok-begins.ensures.keeps c.in-Ok.one of)
    (c.in-Ok-begins.ensures.call.1 c.in-Ok.one of)
