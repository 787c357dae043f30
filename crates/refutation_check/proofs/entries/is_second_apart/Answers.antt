use Rattle.std.proofs.Common.{List, Some, ap, arith, slice_get, suc, sym, ℕ, ◌&&◌, ◌-◌, ◌∙◌, ◌≡◌}
use Rattle.std.specs.Prelude.{reverse}
use Rattle.nvme_model.specs.declared.status.Status.{Status}
use Rattle.host_laws.specs.Calls.{cqe_status}
use Rattle.trace.specs.declared.seen.Seen.{Seen}
use Rattle.refutation.specs.LineRules.{is_apart_from, is_second_apart}
use Rattle.refutation.specs.Lines.{answer_in, published_in}
use Rattle.refutation.specs.MayAnswer.{has_fuse}
use Rattle.refutation_check.proofs.entries.is_second_apart.Goals as goal

-- an entry and the one behind it
behind : (trace : List Seen) (q first second : ℕ) (s : Status) → second ≡ suc first
    → (has_fuse 1 (slice_get (published_in trace q) first) && has_fuse 2 (slice_get (published_in trace q) second)
    && is_apart_from (answer_in trace q first) s) ≡ is_second_apart trace q (Some second) s
behind trace q first second s e =
    ap (λ k. has_fuse 1 (slice_get (published_in trace q) first) && has_fuse 2 (slice_get (published_in trace q) k)
    && is_apart_from (answer_in trace q first) s) e
    ∙ ap (λ k. is_second_apart trace q (Some k) s) (sym e)

pub returns-else-second-eq0 : goal.returns-else-second-eq0
returns-else-second-eq0 c =
    let trace = reverse c.args.trace.now in
    let second = c.in-Some.second in
    let s = cqe_status c.args.line.now.cqe in
    let next : second ≡ suc (second - 1) = omega (arith, c.if-second-eq0.false) in
    record {
      value = λ is. c.are_apart.ensures.value is ∙ behind trace c.args.queue (second - 1) second s next
          ∙ ap (λ o. is_second_apart trace c.args.queue o s) (sym c.in-Some.is);
    }
