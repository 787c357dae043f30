use Rattle.std.proofs.Common.{Option, Some, subst, sym, ℕ, ◌-◌, ◌≡◌}
use Rattle.c_handles.specs.Disks.{ForgetTells}
use Rattle.c_handles.specs.Handles.{disk_in}
use Rattle.c_handles.specs.Owned.{Keeps}
use Rattle.c_handles.specs.declared.disk.Disk.{Disk as TheDisk}
use Rattle.vandrexu_c.proofs.disk_calls.vandrexu_disk_forget.Goals as goal

pub returns-clause-forgets : goal.returns-clause-forgets
returns-clause-forgets c d h =
    let was = c.in-Some.ensures.value in
    let lent = c.as_mut.ensures.value in
    let back = c.as_mut.ensures.writes_back in
    let put = c.put.ensures in
    let begins : c.as_mut.result.now ≡ d = cc in
    let ends : disk_in c.put.new.self ≡ Some c.forget-told.new.self = cc in
    let told = c.forget-told.result in
    let before : c.saturating_sub-before.result ≡ c.args.place - 1 = c.saturating_sub-before.ensures in
    subst (λ (o : Option TheDisk). Keeps o (λ (e : TheDisk). ForgetTells d (c.args.place - 1) e told)) (sym ends)
    (subst (λ (n : ℕ). ForgetTells d n c.forget-told.new.self told) before
    (subst (λ (x : TheDisk). ForgetTells x c.saturating_sub-before.result c.forget-told.new.self told) begins
    (record {
      same = c.forget-told.ensures.same;
      work = c.forget-told.ensures.work;
      knows = c.forget-told.ensures.knows;
      mine = c.forget-told.ensures.mine;
      told = c.forget-told.ensures.told;
    })))
