use Rattle.std.proofs.Common.{Option, Some, subst, sym, ◌≡◌}
use Rattle.c_handles.specs.Handles.{disk_in}
use Rattle.c_handles.specs.Owned.{Keeps}
use Rattle.c_handles.specs.declared.disk.Disk.{Disk as TheDisk}
use Rattle.vandrexu_c.specs.DiskLooks.{TellsCount}
use Rattle.vandrexu_c.proofs.disk_looks.vandrexu_disk_history_count.Goals as goal

pub returns-clause-tells : goal.returns-clause-tells
returns-clause-tells c d h =
    let was = c.in-Some.ensures.value in
    let lent = c.as_mut.ensures.value in
    let back = c.as_mut.ensures.writes_back in
    let put = c.put.ensures in
    let begins : c.as_mut.result.now ≡ d = cc in
    let ends : disk_in c.put.new.self ≡ Some c.tell_count-told.new.disk = cc in
    subst (λ (o : Option TheDisk). Keeps o (λ (e : TheDisk). TellsCount d e c.args.count.now c.tell_count-told.new.count
    c.tell_count-told.result)) (sym ends)
    (subst (λ (x : TheDisk). TellsCount x c.tell_count-told.new.disk c.args.count.now c.tell_count-told.new.count
    c.tell_count-told.result) begins c.tell_count-told.ensures.tells)
