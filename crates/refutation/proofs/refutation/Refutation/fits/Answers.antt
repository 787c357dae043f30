use Rattle.std.proofs.Common.{subst, ◌<◌, ◌^◌}
use Rattle.std.specs.List.{AllByRecursion}
use Rattle.refutation.specs.Refutations.{IsRefutation}
use Rattle.refutation.proofs.refutation.Refutation.fits.Goals as goal

pub returns : goal.returns
returns c = subst IsRefutation c.self.view_is (record {
  blocks_rise = c.self.invariant.0;
  commands_rise = c.self.invariant.1;
  lines_fit = c.lines_fit.ensures;
  blocks_fit = subst (AllByRecursion (λ b. b < 2 ^ 64)) c.as_slice.ensures.value c.blocks_fit.ensures;
  commands_fit = subst (AllByRecursion (λ m. (m.0 < 2 ^ 16) × (m.1 < 2 ^ 64))) c.as_slice-2.ensures.value
      c.commands_fit.ensures;
})
