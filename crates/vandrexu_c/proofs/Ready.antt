-- A step that is ready is one of a ticket.
use Rattle.std.proofs.Common.{◌≡◌, ℕ, Bool, List, None, Some, [], ◌∷◌, cond, false, refl, reverse, sym}
use Rattle.std.proofs.Common.{true, ◌∙◌}
use Rattle.std.specs.List.{find, flat_map}
use Rattle.nvme_model.specs.History.{Past}
use Rattle.nvme_model.specs.Steps.{is_ready, ready}
use Rattle.nvme_model.specs.Tickets.{numbers_down, tickets}
use Rattle.nvme_model.specs.declared.config.ConfigNumbers.{ConfigNumbers}
use Rattle.nvme_model.specs.declared.step.Step.{Step}
use Rattle.vandrexu_c.specs.Answers.{next_step_of}
use Rattle.vandrexu_c.specs.declared.answers.NextStep.{NextStep}

-- a step of a ticket
abbrev IsOfTicket : Step → Type 0
IsOfTicket s = (t : NextStep) × (next_step_of s ≡ Some t)

steps : ℕ → List Step
steps t = Step.Grant t ∷ Step.Block t ∷ Step.Post t ∷ []

-- the first for which a test holds, or one of those behind
first_or : (p : Step → Bool) (s x : Step) (xs : List Step) (P : Step → Type 0) → P x
    → (find p xs ≡ Some s → P s) → (b : Bool) → cond b (Some x) (find p xs) ≡ Some s → P s
first_or p s x xs P h f true e = let same : x ≡ s = cc in rw (sym same) h
first_or p s x xs P h f false e = f e

found : (p : Step → Bool) (s : Step) (ts : List ℕ) → find p (flat_map steps ts) ≡ Some s → IsOfTicket s
unfolding steps
found p s [] e = absurd (let g : None ≡ Some s = e in cc)
found p s (t ∷ ts) e =
    first_or p s (Step.Grant t) (Step.Block t ∷ Step.Post t ∷ flat_map steps ts) IsOfTicket
    (record { ticket = t; kind = 2 }, refl)
    (first_or p s (Step.Block t) (Step.Post t ∷ flat_map steps ts) IsOfTicket (record { ticket = t; kind = 3 }, refl)
    (first_or p s (Step.Post t) (flat_map steps ts) IsOfTicket (record { ticket = t; kind = 4 }, refl)
    (found p s ts) (p (Step.Post t))) (p (Step.Block t))) (p (Step.Grant t)) e

pub is_of_ticket : (c : ConfigNumbers) (past : Past) (s : Step) → ready c past ≡ Some s
    → (t : NextStep) × (next_step_of s ≡ Some t)
unfolding steps
is_of_ticket c past s e = found (is_ready c past) s (reverse (numbers_down (tickets past))) e

-- so it isn't none
pub no_step : (s : Step) → (t : NextStep) × (next_step_of s ≡ Some t) → next_step_of s ≡ None → ⊥
no_step s h n = let bad : None ≡ Some h.0 = sym n ∙ h.1 in cc
