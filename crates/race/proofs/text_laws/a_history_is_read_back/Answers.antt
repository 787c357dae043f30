use Rattle.std.proofs.Common.{ap}
use Rattle.std.proofs.lemmas.List.Elements.{recursion_from_All}
use Rattle.history.specs.Lines.{HasLine}
use Rattle.casdisk_texts.specs.Script.{Outcome}
use Rattle.race.proofs.ReadBack.{config_read, file_read}
use Rattle.race.proofs.TextTelling.{answered}
use Rattle.race.proofs.text_laws.a_history_is_read_back.Goals as goal

pub returns-clause-config : goal.returns-clause-config
returns-clause-config c k es is have = config_read k es is (recursion_from_All HasLine es have)

pub returns-clause-end : goal.returns-clause-end
returns-clause-end c k es is accepted have =
    ap (λ (o : Outcome). o.end) (file_read k es is (recursion_from_All HasLine es have) accepted)

pub returns-clause-entries : goal.returns-clause-entries
returns-clause-entries c k es is accepted have =
    ap (λ (o : Outcome). o.past) (file_read k es is (recursion_from_All HasLine es have) accepted)

pub returns-clause-legal : goal.returns-clause-legal
returns-clause-legal c k past is accepted have legal = answered k past is accepted have legal
