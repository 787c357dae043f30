use Rattle.std.proofs.Common.{eqb, not, ◌≡◌}
use Rattle.casdisk_texts.specs.Judged.{HasFirstBad, HasJudged}
use Rattle.casdisk_texts.proofs.Answering.{history_then}
use Rattle.casdisk_texts.proofs.judging.judge_text.Goals as goal

pub returns-in-Ok-take_entries-clause-whole : goal.returns-in-Ok-take_entries-clause-whole
returns-in-Ok-take_entries-clause-whole g c =
    let why = not (eqb g.row.WHY 0) in
    let read = c.in-Ok-take_entries.ensures.takes _ c.in_ok-lines.ensures.begun c.in-Ok.ensures.begun in
    let judge = c.take_entries.new.taker in (
      read.0,
      history_then
          (λ k past. (k ≡ c.in_ok-lines.lines.config) × HasJudged why k past judge.checker judge.count judge.bad)
          (λ k past. HasFirstBad why k past judge.bad) _ (λ k past h. h.1.first) read.1,
    )

pub returns-clause-unread : goal.returns-clause-unread
returns-clause-unread g c = c.in-Err.ensures.takes _ c.in_ok-lines.ensures.begun c.in-Ok.ensures.begun
