use Rattle.std.proofs.Common.{Some, ap, arith, inr, length, refl, sym, ◌<◌, ◌∙◌, ◌==◌, ◌≡◌, ℕ}
use Rattle.std.specs.List.{position}
use Rattle.std.specs.Prelude.{Option}
use Rattle.c_handles.specs.Ended.{host_place, hosts_ended}
use Rattle.c_handles.proofs.Lives.{nobody_at, somebody_at}
use Rattle.c_handles.specs.declared.disk.Disk.{Disk}
use Rattle.c_handles.proofs.ended.place_to_end.Goals as goal

-- a place of a host is one of those that ended
within : (d : Disk) (place : ℕ) → place < length d.numbers → place < length (hosts_ended d)
within d place below = omega (arith, below, d.queues, d.endings, d.ended.ok.0)

-- the place of a host by its number, which was told
placed : (d : Disk) (told n place : ℕ) {o : Option ℕ} → told ≡ n → o ≡ position (λ m. m == told) d.numbers
    → o ≡ Some place → host_place d n ≡ Some place
placed d told n place same value is = ap (λ (k : ℕ). host_place d k) (sym same) ∙ sym value ∙ is

-- src/ended.rt:73:1
pub returns-clause-lives : goal.returns-clause-lives
returns-clause-lives c =
    let d = c.args.disk.now in (
      placed d _ _ _ (c.host.ensures ∙ ap (λ k. k.host) c.driver.ensures) c.place.ensures.value c.in-Some.is,
      nobody_at (hosts_ended d) _ _ (within d _ c.in-Some.ensures.bound) c.index.ensures c.is_some.ensures
          c.if-is_some.false,
    )

-- src/ended.rt:85:9
pub returns-then-is_some-clause-cause : goal.returns-then-is_some-clause-cause
returns-then-is_some-clause-cause c =
    let d = c.args.disk.now in
    inr (
      refl,
      somebody_at (hosts_ended d) _ _ (within d _ c.in-Some.ensures.bound) c.index.ensures c.is_some.ensures
          c.if-is_some.true
          (placed d _ _ _ (c.host.ensures ∙ ap (λ k. k.host) c.driver.ensures) c.place.ensures.value c.in-Some.is),
    )
