-- Slots of a host that died: a takeover gives a slot from a name of that host to a name of another host.
use Rattle.std.specs.Prelude.{Bool, List, None, Option, Some, [], true, if◌then◌else◌, length, map, not, suc, ℕ, ◌&&◌}
use Rattle.std.specs.Prelude.{◌++◌, ◌==◌, ◌∷◌}
use Rattle.std.specs.List.{list_any}
use Rattle.nvme_model.specs.Config.{completion_queue}
use Rattle.nvme_model.specs.EntryBytes.{slba, sqe_fields}
use Rattle.nvme_model.specs.History.{Past}
use Rattle.nvme_model.specs.Operations.{is_pair, op}
use Rattle.nvme_model.specs.Queues.{published_entries}
use Rattle.nvme_model.specs.Slots.{Name, Swap, is_pair_on_one, name_of, reaped_success, releases, same_name, swaps}
use Rattle.nvme_model.specs.Slots.{swaps_in}
use Rattle.nvme_model.specs.Tickets.{numbers_down, tickets}
use Rattle.nvme_model.specs.Tickets
use Rattle.nvme_model.specs.declared.config.ConfigNumbers.{ConfigNumbers}
use Rattle.nvme_model.specs.declared.entry.Entry.{Entry}
use Rattle.nvme_model.specs.declared.submission.Submission.{Submission}
use Rattle.host_laws.specs.Calls.{says_yes, takes}

-- A takeover: its queue, the number of its first entry there, its block, the name that it takes the slot from, and the
-- name that it gives the slot to.
pub record Takeover : Type 0 where
  pub queue : ℕ
  pub number : ℕ
  pub lba : ℕ
  pub dead : Name
  pub name : Name

-- a takeover from the one name to the other, if both are there and their hosts are apart
abbrev pub takeover_by : ℕ → ℕ → ℕ → Option Name → Option Name → List Takeover
takeover_by q j l None new = []
takeover_by q j l (Some m) None = []
takeover_by q j l (Some m) (Some n) =
    if not (m.host == n.host) then record { queue = q; number = j; lba = l; dead = m; name = n } ∷ [] else []

-- the takeover that two entries are, if they are one
abbrev pub takeover_of : ℕ → ℕ → Submission → Submission → List Takeover
takeover_of q j a b =
    if is_pair_on_one a b
    then takeover_by q j (slba (sqe_fields a.entry)) (name_of a.payload) (name_of b.payload)
    else []

-- the takeovers of a batch whose first entry has number j on queue q
abbrev pub takeovers_in : ℕ → ℕ → List Submission → List Takeover
takeovers_in q j [] = []
takeovers_in q j (a ∷ []) = []
takeovers_in q j (a ∷ b ∷ rest) = takeover_of q j a b ++ takeovers_in q (suc j) (b ∷ rest)

-- all takeovers that were published, those of the newest Publish first
abbrev pub takeovers : Past → List Takeover
takeovers [] = []
takeovers (Entry.Publish p ∷ past) =
    takeovers_in p.queue (length (published_entries past p.queue)) p.batch ++ takeovers past
takeovers (_ ∷ past) = takeovers past

-- a takeover as what gives a slot to its own name, as a claim does
abbrev pub giving : Takeover → Swap
giving w = record { claims = true; queue = w.queue; number = w.number; lba = w.lba; name = w.name }

-- the claims and releases of a batch, and its takeovers as what gives a slot
abbrev pub moves_in : ℕ → ℕ → List Submission → List Swap
moves_in q j batch = swaps_in q j batch ++ map giving (takeovers_in q j batch)

-- all claims and releases that were published, and all takeovers as what gives a slot
abbrev pub moves : Past → List Swap
moves past = swaps past ++ map giving (takeovers past)

-- the pair whose first is entry j of submission queue q has its effect, and it says yes
abbrev pub took_effect : Past → ℕ → ℕ → Bool
took_effect past q j =
    list_any (λ t. takes past t q j && is_pair (op (Tickets.ticket past t)) && says_yes past t 0)
    (numbers_down (tickets past))

-- a takeover of this name from the slot at block l took effect
abbrev pub is_taken : Past → ℕ → Name → Bool
is_taken past l n =
    list_any (λ w. (w.lba == l) && same_name w.dead n && took_effect past w.queue w.number) (takeovers past)

-- a claim or a takeover gave the slot at block l to this name, by an entry of a submission queue of completion queue q
abbrev pub is_given_on : ConfigNumbers → Past → ℕ → ℕ → Name → Bool
is_given_on c past q l n =
    list_any (λ w. w.claims && (w.lba == l) && same_name w.name n && (completion_queue c w.queue == q)) (moves past)

-- its own host believes the name of the slot at block l: success was reaped for its claim or its takeover, and its
-- release wasn't published
abbrev pub is_kept : ConfigNumbers → Past → ℕ → Name → Bool
is_kept c past l n =
    list_any (λ s. s.claims && (s.lba == l) && same_name s.name n && reaped_success c past s.queue (suc s.number))
    (moves past)
    && not (list_any (λ s. releases s l n) (swaps past))

-- The name is believed of the slot at block l, where there are takeovers: its own host believes it, and no takeover of
-- it took effect.
abbrev pub still_believed : ConfigNumbers → Past → ℕ → Name → Bool
still_believed c past l n = is_kept c past l n && not (is_taken past l n)
