use Rattle.witness_check.proofs.witness.told_publish.Goals as goal

pub returns-in-Some : goal.returns-in-Some
returns-in-Some c =
    record {
      value = rw c.in-Some.is (c.same_or_unlike.ensures.value c.args.options.now _ _
          c.publish_differs.ensures.value);
    }
