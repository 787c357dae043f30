-- Whether an entry may follow.
use Rattle.std.proofs.Common.{◌≡◌, ◌&&◌, Bool, true, false, not, cond, ◌∷◌, Option, Some, is_none, refl, sym, ◌∙◌}
use Rattle.std.proofs.lemmas.Bool.{and_from}
use Rattle.history_check.specs.Judged.{judged}
use Rattle.history_check.specs.Tables.{tables}
use Rattle.history_check.proofs.Judging.{judged_is}
use Rattle.nvme_model.specs.History.{Past}
use Rattle.nvme_model.specs.Legal.{IsLegal, legal, may_follow}
use Rattle.nvme_model.specs.declared.config.ConfigNumbers.{ConfigNumbers}
use Rattle.nvme_model.specs.declared.entry.Entry.{Entry}
use Rattle.nvme_model.specs.declared.refusal.Why.{Why}
use Rattle.history_check.specs.Kept.{IsCheckerState, CheckerState}
use Rattle.history_check.specs.Steps.{Took}

-- one that the rules let through
pub legal_next : (c : ConfigNumbers) (past : Past) (k : CheckerState) (e : Entry) → IsCheckerState c past k
    → judged c (tables c past) e ≡ true → IsLegal c (e ∷ past)
legal_next c past k e keeps j =
    and_from (legal c past) (may_follow c past e) keeps.legal_so_far (judged_is c past e keeps.legal_so_far ∙ j)

-- one that they don't
pub took_not : (c : ConfigNumbers) (past : Past) (e : Entry) (after : CheckerState) → judged c (tables c past) e ≡ false
    → Took c past e false after
took_not c past e after j = record { answer = sym j; shows = λ f. absurd (let g : false ≡ true = f in cc) }

-- of a ticket that isn't in flight
pub none_flies : (b f : Bool) (o : Option Why) → b ≡ false → (is_none (cond (not b) (Some Why.NoTicket) o) && f) ≡ false
none_flies true f o e = absurd cc
none_flies false f o e = refl
