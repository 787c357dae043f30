use Rattle.std.proofs.Common.{reverse, subst}
use Rattle.std.specs.Prelude.{IfSome}
use Rattle.trace_search.specs.Found.{Refutes}
use Rattle.file_commands.proofs.observing.tell_unfound.Goals as goal

pub returns-in-Ok-tell_reason : goal.returns-in-Ok-tell_reason
returns-in-Ok-tell_reason g c =
    let seen = c.args.trace.now in
    record {
      told = (
        c.in-Some.refutation,
        subst (λ xs. Refutes seen.options seen.history (reverse xs) c.in-Some.refutation)
            c.as_slice-things.ensures.value
            (subst (λ f. IfSome f (Refutes seen.options seen.history (reverse c.as_slice-things.result.now)))
            c.in-Some.is c.in-Ok.ensures.found),
        c.in_ok-put_refutation.ensures.whole,
      );
    }
