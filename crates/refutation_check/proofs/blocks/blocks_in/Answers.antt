use Rattle.std.proofs.Common.{IfOk, List, subst, ℕ, ◌∙◌, ◌≡◌}
use Rattle.std.specs.List.{filter}
use Rattle.nvme_model.specs.Verdict.{is_in}
use Rattle.refutation_check.proofs.blocks.blocks_in.Goals as goal

pub returns : goal.returns
returns c = record {
  value = λ k.
      subst
      (λ (xs : List ℕ). IfOk c.only_in.result (λ ls. ls.items ≡ filter (λ l. is_in l c.args.chosen.now.blocks.now) xs))
      (c.as_slice.ensures.value ∙ c.in_ok-blocks.ensures.value k) c.only_in.ensures.value;
}
