use Rattle.std.proofs.Common.{Some, ap, ◌∙◌}
use Rattle.std.specs.Prelude.{slice_set}
use Rattle.c_handles.specs.Ended.{hosts_ended}
use Rattle.vandrexu_c.proofs.Again.{is_back, is_empty_at}
use Rattle.vandrexu_c.proofs.host_ending.again.Goals as goal

-- src/host_ending.rt:88:13
pub keep_ended-requires : goal.keep_ended-requires
keep_ended-requires c =
    let t = c.in-Some.ensures.taken in
    is_empty_at (hosts_ended c.args.disk.now) _ _ _ t.0.1 t.1

-- src/host_ending.rt:76:1
pub returns-in-Err-clause-kept : goal.returns-in-Err-clause-kept
returns-in-Err-clause-kept c =
    let t = c.in-Some.ensures.taken in
    let between = hosts_ended c.take_ended.new.disk in
    is_back (hosts_ended c.args.disk.now) between _ _ _ t.0.1 t.1
    (c.keep_ended.ensures.kept ∙ ap (λ e. slice_set between c.in-Some.place (Some e)) c.in-Err.ensures.back)
