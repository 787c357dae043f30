use Rattle.std.proofs.Common.{[], ◌∷◌, sym, ◌∙◌}
use Rattle.plain_lemmas.proofs.Options.{none_of}
use Rattle.nvme_model.specs.Legal.{IsLegal}
use Rattle.witness_check.proofs.Comparing.{no_place}
use Rattle.casdisk_texts.proofs.Answering.{has_history}
use Rattle.casdisk_texts.proofs.Followed.{bad_here, followed_whole, unfollowed}
use Rattle.casdisk_texts.proofs.following.follow_lines.Goals as goal

pub loop-number-init : goal.loop-number-init
loop-number-init g c = λ input begun judged none. ([], judged, none, begun.read)

pub returns-in-Err : goal.returns-in-Err
returns-in-Err g c = record {
  follows = λ input begun judged none.
      let at = c.loop-number.invariant input begun judged none in
      unfollowed c.args.lines.now.config at.0 input _ begun.config
      (no_place c.args.lines.now.config at.0 (sym at.2 ∙ at.1.first.place)) c.in-Err.fault
      (c.in-Err.ensures.given at.0 input at.3);
}

pub returns-in-Ok-None : goal.returns-in-Ok-None
returns-in-Ok-None g c = record {
  follows = λ input begun judged none.
      let at = c.loop-number.invariant input begun judged none in
      let end = rw c.in-Ok-None.field-0-is at (c.in-Ok-None.ensures.given at.0 input at.3) in
      followed_whole _ _ _ _ at.2 end.0
      (has_history c.args.lines.now.config at.0 IsLegal input begun.config end.1
      (no_place c.args.lines.now.config at.0 (sym at.2 ∙ at.1.first.place)));
}

pub returns-then-is_some : goal.returns-then-is_some
returns-then-is_some g c = record {
  follows = λ input begun judged none.
      let at = c.loop-number.invariant input begun judged none in
      let on = rw c.in-Ok-Some.field-0-is at (c.in-Ok-Some.ensures.given at.0 input at.3) in
      let bad = c.in-Ok.ensures.judged c.args.lines.now.config at.0 at.1 in
      bad_here c.args.lines.now.config (c.in-Ok-Some.entry ∷ at.0) input _ begun.config _ _ _ _
      (sym c.is_some.ensures ∙ c.if-is_some.true) on bad.first;
}

pub loop-number-preserved : goal.loop-number-preserved
loop-number-preserved g c = λ input begun judged none.
    let at = c.loop-number.invariant input begun judged none in
    let on = rw c.in-Ok-Some.field-0-is at (c.in-Ok-Some.ensures.given at.0 input at.3) in (
      c.in-Ok-Some.entry ∷ at.0,
      c.in-Ok.ensures.judged c.args.lines.now.config at.0 at.1,
      none_of _ (sym c.is_some.ensures ∙ c.if-is_some.false),
      on,
    )
