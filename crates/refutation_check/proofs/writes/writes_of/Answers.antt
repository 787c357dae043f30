use Rattle.std.proofs.Common.{IfOk, List, ap, map, subst, sym, ℕ, ◌∙◌, ◌≡◌}
use Rattle.nvme_model.specs.Operations.{write_data}
use Rattle.refutation.specs.Pieces.{Held}
use Rattle.refutation.specs.Slices.{ticket_of}
use Rattle.refutation_check.specs.Commands.{name_of}
use Rattle.refutation_check.specs.Known.{trace_of}
use Rattle.refutation_check.proofs.SliceEffects.{where_true}
use Rattle.refutation_check.proofs.writes.writes_of.Goals as goal

pub returns : goal.returns
returns c =
    let t = ticket_of (trace_of c.args.chosen.now.known) (name_of c.args.effect.now) in
    let written = λ (ls : List ℕ). map (λ l. (l, write_data t l)) ls in
    record {
      value = λ k.
          subst (λ (hs : List Held). IfOk c.written_on.result (λ made. made.items ≡ hs))
          (ap written (c.as_slice.ensures.value ∙ c.in_ok-blocks.ensures.value k)
          ∙ where_true _ _ (sym (c.has_written.ensures.value k) ∙ c.if-not-has_written.false))
          (c.written_on.ensures.value k);
    }
