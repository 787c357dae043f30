-- What a check says of the text of a legal history.
use Rattle.std.proofs.Common.{◌≡◌, ◌≢◌, ℕ, Bool, true, false, List, [], Option, Some, None, inl, inr, refl, sym, ap}
use Rattle.std.proofs.Common.{subst, ◌∙◌, reverse}
use Rattle.std.specs.Prelude.{All, Result, Ok, Err}
use Rattle.std.specs.Io.KnownBytes.{Appends}
use Rattle.std.proofs.lemmas.List.{reverse-reverse}
use Rattle.std.proofs.lemmas.List.Elements.{recursion_from_All}
use Rattle.line_text.specs.Known.{AppendsFront}
use Rattle.line_text.specs.Lines.{whole_lines}
use Rattle.nvme_model.specs.Config.{config_fault}
use Rattle.nvme_model.specs.History.{Past}
use Rattle.nvme_model.specs.Legal.{IsLegal}
use Rattle.nvme_model.specs.declared.config.ConfigNumbers.{ConfigNumbers}
use Rattle.nvme_model.proofs.FirstBad.{not_both}
use Rattle.history.specs.ConfigLine.{HasConfigLine}
use Rattle.history.specs.Lines.{HasLine}
use Rattle.race.specs.Races.{PrintsLegal}
use Rattle.history.specs.Texts.{history_text}
use Rattle.casdisk_texts.specs.Files.{ChecksText, EndsSo, IsAnswer, IsAnswerOf, IsUnread, file_of, legal_text}
use Rattle.casdisk_texts.specs.Script.{ScriptEnd, Outcome, bad_config, bad_line, cut, done, first_config}
use Rattle.casdisk_texts.specs.declared.fault.RunFault.{RunFault}
use Rattle.casdisk_texts.specs.declared.fault.RunFault.TheVariants.{BadConfig, BadLine, Input, NoMemory, Output}
use Rattle.race.specs.Told.{SaysLegal}
use Rattle.race.proofs.ReadBack.{config_read, file_read}

module _ (c : ConfigNumbers) (past : Past) (is : HasConfigLine c) (accepted : config_fault c ≡ None)
    (have : All HasLine (reverse past)) where
  ended : (file_of (history_text c (reverse past))).end ≡ done
  ended = ap (λ (o : Outcome). o.end)
      (file_read c (reverse past) is (recursion_from_All HasLine (reverse past) have) accepted)

  made : (file_of (history_text c (reverse past))).past ≡ past
  made = ap (λ (o : Outcome). o.past)
      (file_read c (reverse past) is (recursion_from_All HasLine (reverse past) have) accepted) ∙ reverse-reverse past

  begun : first_config (whole_lines (history_text c (reverse past))) ≡ Some c
  begun = config_read c (reverse past) is (recursion_from_All HasLine (reverse past) have)

  pub answered : IsLegal c past → IsAnswerOf (history_text c (reverse past)) true legal_text
  answered legal = (ended, (c, begun, (subst (IsLegal c) (sym made) legal, refl)))

  module _ (legal : IsLegal c past) where
    -- no other answer is one of it
    told : (answer : Bool) (said : List ℕ) → IsAnswer c past answer said → (answer ≡ true) × (said ≡ legal_text)
    told true said h = (refl, h.1)
    told false said h = absurd
        (not_both c (reverse past) h.0 (subst (IsLegal c) (sym (reverse-reverse past)) legal) h.1)

    only : (answer : Bool) (said : List ℕ) → IsAnswerOf (history_text c (reverse past)) answer said
        → (answer ≡ true) × (said ≡ legal_text)
    only answer said h =
        let same : h.1.0 ≡ c = cc (begun, h.1.1) in
        told answer said (subst (λ d. IsAnswer d past answer said) same
        (subst (λ p. IsAnswer h.1.0 p answer said) made h.1.2))

    -- it has no other end
    no_end : (e : ScriptEnd) → (e ≢ done) → EndsSo e (Some (history_text c (reverse past))) → ⊥
    no_end e other h = other (sym h ∙ ended)

    no_bad_line : (n : ℕ) (left : Option (List ℕ)) → IsUnread (BadLine n) (Some (history_text c (reverse past))) left
        → ⊥
    no_bad_line n left (inl h) = no_end (bad_line n) (λ e. cc) h
    no_bad_line n left (inr h) = no_end (cut n) (λ e. cc) h

    pub says : (res : Result Bool RunFault) (left old new : Option (List ℕ))
        → ChecksText res (Some (history_text c (reverse past))) left old new → SaysLegal res old new
    says (Ok answer) left old new h =
        let one = only answer h.1.0 h.1.1 in
        (one.0, subst (λ t. Appends old new t) one.1 h.1.2)
    says (Err Output) left old new h = subst (λ t. AppendsFront old new t) (only h.0 h.1 h.2).1 h.3
    says (Err Input) left old new h = h.1
    says (Err NoMemory) left old new h = h.1
    says (Err (BadLine n)) left old new h = absurd (no_bad_line n left h.0)
    says (Err (BadConfig n)) left old new h = absurd (no_end (bad_config n) (λ e. cc) h.0)

-- what a race wrote
pub race_says : (c : ConfigNumbers) → HasConfigLine c → config_fault c ≡ None
    → (written : List ℕ) (res : Result Bool RunFault) (left old new : Option (List ℕ))
    → PrintsLegal c (Some []) (Some written) → ChecksText res (Some written) left old new → SaysLegal res old new
race_says c is accepted written res left old new printed checked =
    says c printed.0 is accepted printed.2 printed.1 res left old new
    (subst (λ t. ChecksText res (Some t) left old new) printed.3 checked)
