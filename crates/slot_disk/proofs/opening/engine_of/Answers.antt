use Rattle.std.specs.Arc.{arc_value}
use Rattle.std.proofs.Common.{[], ap, rules, subst, sym, ℕ, ◌+◌, ◌++◌, ◌∙◌, ◌∷◌, ◌≡◌}
use Rattle.nvme_model.specs.declared.config.ConfigNumbers.{ConfigNumbers}
use Rattle.slot_disk.specs.Hosts.{ArePasses, IsServer}
use Rattle.slot_disk.proofs.Passes.{AreNew, last_serves, rest_count, rest_host}
use Rattle.work_queue.specs.declared.engine.Engine.{Engine}
use Rattle.slot_disk.proofs.opening.engine_of.Goals as goal

pub returns-in-Ok-new-clause-server : goal.returns-in-Ok-new-clause-server
returns-in-Ok-new-clause-server c =
    let eng = c.in-Ok.engine in
    let config = c.args.config in
    let xs = c.pop.new.self.items in
    let some : c.from-hosts.result + 1 ≡ config.cqs + 1 =
    ap (λ (n : ℕ). n + 1) c.from-hosts.ensures ∙ ap (λ (k : ConfigNumbers). k.cqs + 1) c.numbers.ensures.value in
    let each : AreNew eng config (config.cqs + 1) c.in-Ok.passes.items =
    subst (λ (n : ℕ). AreNew eng config n c.in-Ok.passes.items) some c.in-Ok.ensures.each in
    let is : c.in-Ok.passes.items ≡ xs ++ c.in-Some.server ∷ [] = search rules in
    subst (λ (e : Engine). IsServer e config c.in-Some.server) (sym c.in-Ok-new.ensures.ok)
    (last_serves eng config c.in-Ok.passes.items xs c.in-Some.server each
    (sym c.in-Ok.passes.ok.0 ∙ (c.in-Ok.ensures.count ∙ some)) is)

pub returns-in-Ok-new-clause-passes : goal.returns-in-Ok-new-clause-passes
returns-in-Ok-new-clause-passes c =
    let eng = c.in-Ok.engine in
    let config = c.args.config in
    let xs = c.pop.new.self.items in
    let some : c.from-hosts.result + 1 ≡ config.cqs + 1 =
    ap (λ (n : ℕ). n + 1) c.from-hosts.ensures ∙ ap (λ (k : ConfigNumbers). k.cqs + 1) c.numbers.ensures.value in
    let each : AreNew eng config (config.cqs + 1) c.in-Ok.passes.items =
    subst (λ (n : ℕ). AreNew eng config n c.in-Ok.passes.items) some c.in-Ok.ensures.each in
    let is : c.in-Ok.passes.items ≡ xs ++ c.in-Some.server ∷ [] = search rules in (
      subst (λ (e : Engine). ArePasses e config xs) (sym c.in-Ok-new.ensures.ok)
          (rest_host eng config c.in-Ok.passes.items xs c.in-Some.server each is),
      c.pop.new.self.ok.0 ∙ rest_count config c.in-Ok.passes.items xs c.in-Some.server
          (sym c.in-Ok.passes.ok.0 ∙ (c.in-Ok.ensures.count ∙ some)) is,
    )
