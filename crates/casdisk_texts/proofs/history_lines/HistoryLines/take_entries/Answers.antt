use Rattle.std.proofs.Common.{[], refl, ◌∙◌, ◌∷◌, ◌≡◌}
use Rattle.casdisk_texts.proofs.Answering.{has_history, stopped}
use Rattle.casdisk_texts.proofs.history_lines.HistoryLines.take_entries.Goals as goal

pub loop-number-init : goal.loop-number-init
loop-number-init g c = record { kept = refl; taken = λ input begun stands. ([], stands, begun.read) }

pub returns-in-Err-clause-takes : goal.returns-in-Err-clause-takes
returns-in-Err-clause-takes g c input begun stands =
    let at = c.loop-number.invariant.taken input begun stands in
    stopped at.0 c.in-Err.fault input _ (c.in-Err.ensures.given at.0 input at.2)

pub returns-in-Ok-None-clause-takes : goal.returns-in-Ok-None-clause-takes
returns-in-Ok-None-clause-takes g c input begun stands =
    let at = c.loop-number.invariant.taken input begun stands in
    let end = rw c.in-Ok-None.field-0-is at (c.in-Ok-None.ensures.given at.0 input at.2) in
    let config = c.args.self.now.config in (
      end.0,
      has_history config at.0 (λ k past. (k ≡ config) × g.T.EntryMeaning.stands c.loop-number.taker k past) input
          begun.config end.1 (refl, at.1),
    )

pub loop-number-preserved : goal.loop-number-preserved
loop-number-preserved g c =
    record {
      kept = c.in-Ok.ensures.kept ∙ c.loop-number.invariant.kept;
      taken = λ input begun stands.
          let at = c.loop-number.invariant.taken input begun stands in (
            c.in-Ok-Some.entry ∷ at.0,
            c.in-Ok.ensures.taken c.args.self.now.config at.0 at.1,
            rw c.in-Ok-Some.field-0-is at (c.in-Ok-Some.ensures.given at.0 input at.2),
          );
    }
