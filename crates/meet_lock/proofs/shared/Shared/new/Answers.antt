use Rattle.std.proofs.Common.{Box, Global, List, Option, Some, [], ap, arith, refl, subst, sym, ◌+◌, ◌++◌, ◌∙◌, ◌≡◌}
use Rattle.std.proofs.Common.{◌∷◌}
use Rattle.atomic_table.specs.Table.{opening}
use Rattle.nvme_model.specs.History.{Past}
use Rattle.nvme_model.specs.Passes.{entries, places}
use Rattle.nvme_model.specs.declared.config.ConfigNumbers.{ConfigNumbers}
use Rattle.meet_lock.specs.declared.view.View.{View}
use Rattle.meet_lock.proofs.Places.{entries-unmade, places-unmade}
use Rattle.meet_lock.specs.Lock.{IsOneHistory, boxed, first_view}
use Rattle.meet_lock.proofs.Ends.{opens}
use Rattle.meet_lock.proofs.Views.{Seated}
use Rattle.meet_lock.proofs.shared.Shared.new.Goals as goal

pub new-requires-2 : goal.new-requires-2
new-requires-2 g c =
    let box : Box g.row.M.Denot Global = c.in-Ok-new.machine in
    let same : box.value ≡ c.args.machine = c.in-Ok-new.ensures.ok in
    let items = c.push_reserved.ensures.items ∙ ap (λ l. l ++ Some box ∷ []) c.in-Ok-with_capacity.ensures.items in
    let P : List (Option (Box g.row.M.Denot Global)) × g.row.M.Denot → Type 0 =
    λ p. IsOneHistory (boxed g.M.Machine.config) (boxed g.M.Machine.history) g.M.Machine.legal g.K.StepRight.owned
    (g.M.Machine.config p.1) c.args.passes (g.M.Machine.history p.1)
    (opening (0 ∷ []) p.0 (first_view (g.M.Machine.config p.1) c.args.passes (g.M.Machine.history p.1))) in
    subst P (λ i. (sym items i, (same ∙ sym c.of.ensures) i))
    (opens (boxed g.M.Machine.config) (boxed g.M.Machine.history) g.M.Machine.legal g.K.StepRight.owned
    (g.M.Machine.config box.value) c.args.passes (g.M.Machine.history box.value) box refl refl c.requires.some
    (subst (λ m. g.M.Machine.legal (g.M.Machine.config m) (g.M.Machine.history m)) (sym same) c.requires.legal))

pub returns-in-Ok-new-2-clause-each : goal.returns-in-Ok-new-2-clause-each
returns-in-Ok-new-2-clause-each g c = λ k p at.
    let n = c.deal.ensures.new k p at in
    let f = c.in-Ok-new-2.ensures.ok in
    let is = ap (λ (z : Seated g.row.M.Denot). z.0) f.4
    ∙ ap (λ m. first_view (g.M.Machine.config m) c.args.passes (g.M.Machine.history m)) c.of.ensures in
    let seen = n.4 ∙ ap (λ (x : View). x.seen) is in (
      n.0 ∙ f.2,
      (
        n.1,
        n.2 ∙ ap (λ (x : View). x.passes) is,
        n.3 ∙ ap (λ (x : View). x.config) is,
        seen,
        (λ i. places (n.1 i) (seen i)) ∙ places-unmade (k + 1) (g.M.Machine.history c.args.machine) (λ e. omega arith),
      ),
    )

pub returns-in-Ok-new-2-clause-knows : goal.returns-in-Ok-new-2-clause-knows
returns-in-Ok-new-2-clause-knows g c = λ k p at.
    let n = c.deal.ensures.new k p at in
    let f = c.in-Ok-new-2.ensures.ok in
    let is = ap (λ (z : Seated g.row.M.Denot). z.0) f.4
    ∙ ap (λ m. first_view (g.M.Machine.config m) c.args.passes (g.M.Machine.history m)) c.of.ensures in
    let config = n.3 ∙ ap (λ (x : View). x.config) is in
    let past = ap entries (n.4 ∙ ap (λ (x : View). x.seen) is) ∙ entries-unmade (g.M.Machine.history c.args.machine) in
    subst (λ (z : ConfigNumbers × Past). g.M.Machine.legal z.0 z.1) (λ i. (sym config i, sym past i)) c.requires.legal
