use Rattle.witness_check.proofs.witness.told_reap.Goals as goal

pub returns-in-None : goal.returns-in-None
returns-in-None c =
    record {
      value = rw (c.in-Some.is, c.in-None.is) (c.same_or_unlike.ensures.value c.args.options.now _ _
          c.reap_differs.ensures.value);
    }

pub returns-in-Some-payload : goal.returns-in-Some-payload
returns-in-Some-payload c = record {
  value = rw (c.in-Some.is, c.in-Some-payload.is) (c.same_or_unlike-in-Some-payload.ensures.value c.args.options.now _ _
      (rw c.as_slice.ensures at c.reap_differs-in-Some-payload.ensures.value));
}
