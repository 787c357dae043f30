-- The discipline of a slot area in which there are takeovers, and hosts that are fenced.
use Rattle.std.specs.Prelude.{Bool, List, Some, [], false, length, not, true, ℕ, ◌&&◌, ◌==◌, ◌||◌, ◌≡◌, ◌∷◌}
use Rattle.std.specs.List.{filter, list_all, list_any}
use Rattle.nvme_model.specs.Array.{has_block}
use Rattle.nvme_model.specs.Config.{completion_queue}
use Rattle.nvme_model.specs.History.{Past}
use Rattle.nvme_model.specs.Queues.{published_entries}
use Rattle.nvme_model.specs.Slots.{Name, Swap, fresh_names, in_area, is_pair_on_one, name_of, only_swaps}
use Rattle.nvme_model.specs.Slots.{releases, same_name}
use Rattle.nvme_model.specs.declared.submission.Submission.{Submission}
use Rattle.host_laws.specs.Claims.{lba_of}
use Rattle.nvme_model.specs.declared.array.Range.{Range}
use Rattle.nvme_model.specs.declared.config.ConfigNumbers.{ConfigNumbers}
use Rattle.nvme_model.specs.declared.entry.Entry.{Entry}
use Rattle.nvme_model.specs.declared.entry.PublishLine.{PublishLine}
use Rattle.host_laws.specs.Takeovers.{Takeover, is_given_on, moves, moves_in, still_believed, takeovers}
use Rattle.host_laws.specs.Takeovers.{takeovers_in}

-- the entry is no Publish to a submission queue of completion queue q
abbrev pub is_silent : ConfigNumbers → ℕ → Entry → Bool
is_silent c q (Entry.Publish p) = not (completion_queue c p.queue == q)
is_silent c q _ = true

-- The host of completion queue q is fenced from a place on, where these are the entries behind that place: none of them
-- is a Publish of its queues.
abbrev pub IsFenced : ConfigNumbers → ℕ → Past → Type 0
IsFenced c q later = list_all (is_silent c q) later ≡ true

-- A takeover from a host of completion queue q was published, of a slot of the area: whoever published it counted on
-- that host being fenced.
abbrev pub is_cut_off : ConfigNumbers → Range → Past → ℕ → Bool
is_cut_off c slots past q =
    list_any (λ w. has_block slots w.lba && is_given_on c past q w.lba w.dead) (takeovers past)

-- Each release of a batch is of a name that is still believed of its slot just before the release's own entry, and
-- stands on the completion queue of the claim or the takeover that gave the slot to that name.
abbrev pub releases_right : ConfigNumbers → Past → List Swap → List Swap → Bool
releases_right c past earlier [] = true
releases_right c past earlier (s ∷ later) =
    (s.claims || (still_believed c past s.lba s.name && not (list_any (λ w. releases w s.lba s.name) earlier)
    && is_given_on c past (completion_queue c s.queue) s.lba s.name))
    && releases_right c past (s ∷ earlier) later

-- the takeover is of a name to which a claim or a takeover gave its slot before, on another completion queue
abbrev pub takes_right : ConfigNumbers → Past → Takeover → Bool
takes_right c past w =
    list_any (λ s. s.claims && (s.lba == w.lba) && same_name s.name w.dead
    && not (completion_queue c s.queue == completion_queue c w.queue)) (moves past)

-- the takeovers of slots of this area
abbrev pub takeovers_within : Range → List Takeover → List Takeover
takeovers_within slots of = filter (λ w. has_block slots w.lba) of

-- This Publish keeps the discipline of a slot area with takeovers, where those before it did. In the area only claims,
-- releases and takeovers write; each claim and each takeover has a name of its own; each release is of a name that is
-- still believed; each takeover is of a name that was given the slot on another completion queue; and the Publish is of
-- no host of whom a takeover was published before.
abbrev pub keeps_takeover_discipline : ConfigNumbers → Range → Past → PublishLine → Bool
keeps_takeover_discipline c slots past p =
    let j = length (published_entries past p.queue) in
    let of = in_area slots (moves_in p.queue j p.batch) in
    only_swaps slots p.queue j p.batch of && fresh_names of (in_area slots (moves past)) && releases_right c past [] of
    && list_all (takes_right c past) (takeovers_within slots (takeovers_in p.queue j p.batch))
    && not (is_cut_off c slots past (completion_queue c p.queue))

-- Every Publish does.
abbrev pub takeover_disciplined : ConfigNumbers → Range → Past → Bool
takeover_disciplined c slots [] = true
takeover_disciplined c slots (Entry.Publish p ∷ past) =
    takeover_disciplined c slots past && keeps_takeover_discipline c slots past p
takeover_disciplined c slots (_ ∷ past) = takeover_disciplined c slots past

-- The pair takes the slot at its block over from the dead name for the other.
pub record IsTakeover (a b : Submission) (dead n : Name) : Type 0 where
  pub pair : is_pair_on_one a b ≡ true
  pub old : name_of a.payload ≡ Some dead
  pub new : name_of b.payload ≡ Some n
  pub apart : (dead.host == n.host) ≡ false

-- the takeover that such a pair is, as the next two entries of a queue
abbrev pub takeover_line : Past → ℕ → Submission → Name → Name → Takeover
takeover_line past q a dead n =
    record { queue = q; number = length (published_entries past q); lba = lba_of a; dead = dead; name = n }

-- a claim or a takeover for this name stands in the slot area
abbrev pub is_name_used : Range → Past → Name → Bool
is_name_used slots past n = list_any (λ w. w.claims && same_name w.name n) (in_area slots (moves past))
