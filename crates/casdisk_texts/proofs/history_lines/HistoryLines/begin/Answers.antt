use Rattle.std.proofs.Common.{List, None, Option, ℕ}
use Rattle.std.proofs.lemmas.Result.{err_from_is_err_and}
use Rattle.casdisk_texts.specs.Files.{entry_added}
use Rattle.casdisk_texts.proofs.Answering.{unread}
use Rattle.casdisk_texts.proofs.history_lines.HistoryLines.begin.Goals as goal

pub returns-in_err-config : goal.returns-in_err-config
returns-in_err-config g c =
    let p = err_from_is_err_and c.from_residual.result c.from_residual.ensures.1 in
    let none : Option (List ℕ) = None in
    rw (p.1, p.2) (record {
      begun = tt;
      unread = unread c.in_err-config.field-0.0 _ _ none none c.in_err-config.ensures.read
          (c.in_err-config.ensures.stopped (λ c'. entry_added) none);
      first = c.in_err-config.ensures.first;
    })

pub returns-clause-begun : goal.returns-clause-begun
returns-clause-begun g c =
    let none : Option (List ℕ) = None in
    record {
      config = c.in_ok-config.ensures.config;
      read = c.in_ok-config.ensures.begun (λ c'. entry_added) none none tt;
    }
