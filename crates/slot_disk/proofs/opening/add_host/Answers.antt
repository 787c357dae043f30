use Rattle.std.specs.Arc.{arc_value}
use Rattle.std.proofs.Common.{[], rules, ◌++◌, ◌∷◌, ◌≡◌}
use Rattle.slot_disk.proofs.Passes.{passes_rest}
use Rattle.slot_disk.proofs.opening.add_host.Goals as goal

pub returns-clause-passes : goal.returns-clause-passes
returns-clause-passes c =
    let is : c.args.passes.now.items ≡ c.pop.new.self.items ++ c.in_ok-pass.pass ∷ [] = search rules in
    passes_rest (arc_value c.args.setting.now.engine) c.args.setting.now.config c.args.passes.now.items
    c.pop.new.self.items c.in_ok-pass.pass c.requires.passes is
