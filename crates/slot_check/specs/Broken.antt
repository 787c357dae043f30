-- Which rule of the discipline with takeovers a Publish breaks first.
use Rattle.std.specs.Prelude.{Bool, List, None, Option, Some, [], if◌then◌else◌, length, max, not, suc, true, ℕ, ◌&&◌}
use Rattle.std.specs.Prelude.{◌++◌, ◌==◌, ◌∷◌}
use Rattle.std.specs.List.{find, list_any}
use Rattle.std.specs.Option.{option_map}
use Rattle.nvme_model.specs.Array.{has_block}
use Rattle.nvme_model.specs.Config.{completion_queue}
use Rattle.nvme_model.specs.EntryBytes.{slba, sqe_fields}
use Rattle.nvme_model.specs.History.{Past}
use Rattle.nvme_model.specs.Queues.{published_entries}
use Rattle.nvme_model.specs.Slots.{Name, Swap, in_area, releases, same_name, touches}
use Rattle.nvme_model.specs.declared.array.Range.{Range}
use Rattle.nvme_model.specs.declared.config.ConfigNumbers.{ConfigNumbers}
use Rattle.nvme_model.specs.declared.entry.Entry.{Entry}
use Rattle.nvme_model.specs.declared.entry.PublishLine.{PublishLine}
use Rattle.nvme_model.specs.declared.submission.Submission.{Submission}
use Rattle.host_laws.specs.Rules.{keeps_takeover_discipline, takeovers_within, takes_right}
use Rattle.host_laws.specs.Takeovers.{Takeover, is_given_on, is_kept, is_taken, moves, moves_in, takeovers}
use Rattle.host_laws.specs.Takeovers.{takeovers_in}
use Rattle.slot_check.specs.declared.broken.BrokenDiscipline.{BrokenDiscipline}
use Rattle.slot_check.specs.declared.broken.BrokenDiscipline.TheVariants.{ClaimedTwice, CutOff, NeverGiven, NoSwap}
use Rattle.slot_check.specs.declared.broken.BrokenDiscipline.TheVariants.{OtherQueue, OwnQueue, TakenOver, Unbelieved}

-- the block of the slot
abbrev pub broken_at : BrokenDiscipline → ℕ
broken_at (NoSwap l) = l
broken_at (ClaimedTwice l) = l
broken_at (Unbelieved l) = l
broken_at (TakenOver l) = l
broken_at (OtherQueue l) = l
broken_at (NeverGiven l) = l
broken_at (OwnQueue l) = l
broken_at (CutOff l) = l

-- the first block of the area that an entry touches, where it touches it
abbrev pub first_touched : Range → Submission → ℕ
first_touched slots s = max (slba (sqe_fields s.entry)) slots.slba

-- the first Write of a batch that touches the area and is no second of these claims, releases and takeovers, by the
-- first block of the area that it touches
abbrev pub write_alone : Range → ℕ → ℕ → List Submission → List Swap → Option ℕ
write_alone slots q j [] of = None
write_alone slots q j (s ∷ batch) of =
    if touches slots s && not (list_any (λ w. suc w.number == j) of)
    then Some (first_touched slots s)
    else write_alone slots q (suc j) batch of

-- the first claim or takeover of a batch whose name is in another one, of it or before it, by its block
abbrev pub claimed_twice : List Swap → List Swap → Option ℕ
claimed_twice [] before = None
claimed_twice (s ∷ later) before =
    if s.claims && list_any (λ w. w.claims && same_name w.name s.name) (later ++ before)
    then Some s.lba
    else claimed_twice later before

-- the first that there is
abbrev pub first_of : Option BrokenDiscipline → Option BrokenDiscipline → Option BrokenDiscipline
first_of (Some b) o = Some b
first_of None o = o

-- What a release of the slot at block l breaks, where its own host believes its name, or not, a takeover of that name
-- took effect, or not, and the name was given the slot on the release's completion queue, or not.
abbrev pub release_fault : ℕ → Bool → Bool → Bool → Option BrokenDiscipline
release_fault l believes taken given =
    if not believes
    then Some (Unbelieved l)
    else (if taken then Some (TakenOver l) else (if given then None else Some (OtherQueue l)))

-- What a release breaks: its own host doesn't believe its name, or one before it in the batch releases that name; or a
-- takeover of the name took effect; or it stands on another completion queue than what gave the slot to the name.
abbrev pub release_wrong : ConfigNumbers → Past → List Swap → Swap → Option BrokenDiscipline
release_wrong c past earlier s =
    if s.claims
    then None
    else release_fault s.lba (is_kept c past s.lba s.name && not (list_any (λ w. releases w s.lba s.name) earlier))
    (is_taken past s.lba s.name) (is_given_on c past (completion_queue c s.queue) s.lba s.name)

-- what the first wrong release of a batch breaks
abbrev pub release_broken : ConfigNumbers → Past → List Swap → List Swap → Option BrokenDiscipline
release_broken c past earlier [] = None
release_broken c past earlier (s ∷ later) =
    first_of (release_wrong c past earlier s) (release_broken c past (earlier ++ s ∷ []) later)

-- a claim or a takeover gave the slot at block l to this name
abbrev pub is_given : Past → ℕ → Name → Bool
is_given past l n = list_any (λ s. s.claims && (s.lba == l) && same_name s.name n) (moves past)

-- What a takeover breaks: its dead name wasn't given the slot, or was given it on the takeover's own completion queue.
abbrev pub takeover_wrong : ConfigNumbers → Past → Takeover → Option BrokenDiscipline
takeover_wrong c past w =
    if takes_right c past w
    then None
    else (if is_given past w.lba w.dead then Some (OwnQueue w.lba) else Some (NeverGiven w.lba))

-- what the first wrong one of these takeovers breaks
abbrev pub takeover_broken : ConfigNumbers → Past → List Takeover → Option BrokenDiscipline
takeover_broken c past [] = None
takeover_broken c past (w ∷ later) = first_of (takeover_wrong c past w) (takeover_broken c past later)

-- the takeover is of a slot of the area, from a name that was given it on completion queue q
abbrev pub cuts_off : ConfigNumbers → Range → Past → ℕ → Takeover → Bool
cuts_off c slots past q w = has_block slots w.lba && is_given_on c past q w.lba w.dead

-- the block of the slot whose takeover cut the host of completion queue q off, if one did: that of the newest Publish
abbrev pub cut_off_at : ConfigNumbers → Range → Past → ℕ → Option ℕ
cut_off_at c slots past q = option_map (λ w. w.lba) (find (cuts_off c slots past q) (takeovers past))

-- the first of a Write that is no part of a claim, a release or a takeover, of a name that is given a slot twice, of a
-- wrong release, of a wrong takeover, and of a takeover that cut the host off
abbrev pub slots_broken_by : Option ℕ → Option ℕ → Option BrokenDiscipline → Option BrokenDiscipline → Option ℕ
    → Option BrokenDiscipline
slots_broken_by write claim release takeover cut =
    first_of (option_map NoSwap write) (first_of (option_map ClaimedTwice claim)
    (first_of release (first_of takeover (option_map CutOff cut))))

-- The rule that a Publish breaks first: a Write in the area is no part of a claim, a release or a takeover; a name was
-- given a slot before; a release is wrong; a takeover is wrong; its host was cut off.
abbrev pub publish_broken : ConfigNumbers → Range → Past → PublishLine → Option BrokenDiscipline
publish_broken c slots past p =
    let j = length (published_entries past p.queue) in
    let of = in_area slots (moves_in p.queue j p.batch) in
    slots_broken_by (write_alone slots p.queue j p.batch of) (claimed_twice of (in_area slots (moves past)))
    (release_broken c past [] of)
    (takeover_broken c past (takeovers_within slots (takeovers_in p.queue j p.batch)))
    (cut_off_at c slots past (completion_queue c p.queue))

-- The rule that an entry breaks first behind this history; other steps than a Publish break none.
abbrev pub discipline_broken : ConfigNumbers → Range → Past → Entry → Option BrokenDiscipline
discipline_broken c slots past (Entry.Publish p) = publish_broken c slots past p
discipline_broken c slots past _ = None

-- the entry keeps the discipline with takeovers, where those before it did
abbrev pub keeps_takeovers_at : ConfigNumbers → Range → Past → Entry → Bool
keeps_takeovers_at c slots past (Entry.Publish p) = keeps_takeover_discipline c slots past p
keeps_takeovers_at c slots past _ = true
