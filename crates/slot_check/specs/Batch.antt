-- What the claims, releases and takeovers of a batch break, by what is kept.
use Rattle.std.specs.Prelude.{Bool, List, None, Option, Some, [], if◌then◌else◌, is_some, not, true, ◌&&◌, ◌++◌, ◌||◌}
use Rattle.std.specs.Prelude.{ℕ, ◌==◌, ◌∷◌}
use Rattle.std.specs.List.{list_any}
use Rattle.nvme_model.specs.Config.{completion_queue}
use Rattle.nvme_model.specs.Slots.{Name, Swap, releases}
use Rattle.nvme_model.specs.declared.config.ConfigNumbers.{ConfigNumbers}
use Rattle.host_laws.specs.Takeovers.{Takeover}
use Rattle.slot_check.specs.Broken.{first_of, release_fault}
use Rattle.slot_check.specs.Names.{KeptNames, believes, claims_name, gives, keeps_queue}
use Rattle.slot_check.specs.declared.broken.BrokenDiscipline.{BrokenDiscipline}
use Rattle.slot_check.specs.declared.broken.BrokenDiscipline.TheVariants.{NeverGiven, OwnQueue}

-- no name is in two claims of the batch, or in one of it and one that is kept
abbrev pub fresh_in : KeptNames → List Swap → Bool
fresh_in k [] = true
fresh_in k (s ∷ later) =
    (not s.claims || not (list_any (claims_name s.name) later || is_some (k.claim s.name))) && fresh_in k later

-- the first claim of the batch whose name is in another claim of it, or in one that is kept, by its block
abbrev pub claimed_twice_in : KeptNames → List Swap → Option ℕ
claimed_twice_in k [] = None
claimed_twice_in k (s ∷ later) =
    if s.claims && (list_any (claims_name s.name) later || is_some (k.claim s.name))
    then Some s.lba
    else claimed_twice_in k later

-- what a release breaks behind those of its batch before it, where these names were taken over
abbrev pub release_wrong_in : ConfigNumbers → KeptNames → (ℕ → Name → Bool) → List Swap → Swap
    → Option BrokenDiscipline
release_wrong_in c k taken earlier s =
    if s.claims
    then None
    else release_fault s.lba (believes k s.lba s.name && not (list_any (λ w. releases w s.lba s.name) earlier))
    (taken s.lba s.name) (keeps_queue c k s)

-- what the first wrong release breaks
abbrev pub release_broken_in : ConfigNumbers → KeptNames → (ℕ → Name → Bool) → List Swap → List Swap
    → Option BrokenDiscipline
release_broken_in c k taken earlier [] = None
release_broken_in c k taken earlier (s ∷ later) =
    first_of (release_wrong_in c k taken earlier s) (release_broken_in c k taken (earlier ++ s ∷ []) later)

-- the dead name was given the slot on another completion queue than the takeover's
abbrev pub takes_right_in : ConfigNumbers → KeptNames → Takeover → Bool
takes_right_in c k w =
    gives w.lba (λ s. not (completion_queue c s.queue == completion_queue c w.queue)) (k.claim w.dead)

-- what a takeover breaks
abbrev pub takeover_wrong_in : ConfigNumbers → KeptNames → Takeover → Option BrokenDiscipline
takeover_wrong_in c k w =
    if takes_right_in c k w
    then None
    else (if gives w.lba (λ _. true) (k.claim w.dead) then Some (OwnQueue w.lba) else Some (NeverGiven w.lba))

-- what the first wrong takeover breaks
abbrev pub takeover_broken_in : ConfigNumbers → KeptNames → List Takeover → Option BrokenDiscipline
takeover_broken_in c k [] = None
takeover_broken_in c k (w ∷ later) = first_of (takeover_wrong_in c k w) (takeover_broken_in c k later)
