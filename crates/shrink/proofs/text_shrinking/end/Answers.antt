use Rattle.shrink.proofs.text_shrinking.end.Goals as goal

pub returns-in-Ok : goal.returns-in-Ok
returns-in-Ok g c =
    record {
      converses = λ begun whole h.
          let s = rw c.in-Smallest.is at h in
          (c.args.talk.now, c.args.lines.now, s, c.in-Ok.ensures.told);
    }
