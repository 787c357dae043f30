-- Worked histories, the oldest entry first.
use Rattle.std.specs.Prelude.{ℕ, ◌%◌, Bool, true, not, List, [], ◌∷◌, ◌++◌, replicate}
use Rattle.nvme_model.specs.declared.config.ConfigNumbers.{ConfigNumbers}
use Rattle.nvme_model.specs.EntryBytes.{two_bytes}
use Rattle.nvme_model.specs.Statuses.{status}
use Rattle.nvme_model.specs.declared.array.Mode.{Mode}
use Rattle.nvme_model.specs.declared.operation.Found.{Found}
use Rattle.nvme_model.specs.declared.status.Verdict.{Verdict}
use Rattle.nvme_model.specs.declared.submission.Submission.{Submission}
use Rattle.nvme_model.specs.declared.entry.Entry.{Entry}

-- eight blocks and two queue pairs
abbrev pub default : ConfigNumbers
default = record {
  blocks = 8;
  atomic = record { awun = 1; acwu = 1; nabsn = 0; nabo = 0 };
  pairs = 2;
  sq_size = 4;
  cq_size = 4;
  jobs = 8;
  cqs = 2;
}

-- the entry of `NAME F C S N`
abbrev pub entry : ℕ → ℕ → ℕ → ℕ → ℕ → List ℕ
entry opcode fuse cid slba nlb =
    opcode ∷ fuse ∷ (two_bytes cid
    ++ (1 ∷ 0 ∷ 0 ∷ 0 ∷ (replicate 32 0 ++ (slba % 256 ∷ replicate 7 0 ++ (nlb % 256 ∷ replicate 15 0)))))

-- a block of one byte
abbrev pub one : ℕ → List ℕ
one byte = replicate 512 byte

-- that entry, with the data beside it
abbrev pub submit : ℕ → ℕ → ℕ → ℕ → ℕ → List ℕ → Submission
submit opcode fuse cid slba nlb payload = record { entry = entry opcode fuse cid slba nlb; payload = payload }

-- a Publish to queue q
abbrev pub publish : ℕ → List Submission → Entry
publish q b = Entry.Publish (record { queue = q; batch = b })

-- the Fetch of queue q that makes ticket t
abbrev pub fetch : ℕ → ℕ → Verdict → Entry
fetch q t v = Entry.Fetch (record { queue = q; ticket = t; verdict = v })

-- the Grant of unit u of ticket t, of n blocks from s
abbrev pub grant : ℕ → ℕ → ℕ → ℕ → Mode → Entry
grant t u s n m = Entry.Grant (record { ticket = t; unit = u; range = record { slba = s; blocks = n }; mode = m })

-- a Block of unit u of ticket t at block l
abbrev pub block : ℕ → ℕ → ℕ → Found → Bool → Entry
block t u l f e = Entry.Block (record { ticket = t; unit = u; lba = l; found = f; effect = e })

-- a Post of ticket t
abbrev pub post : ℕ → List ℕ → List ℕ → Entry
post t cqe bytes = Entry.Post (record { ticket = t; cqe = cqe; payload = bytes })

-- a Reap of queue q
abbrev pub reap : ℕ → List ℕ → Entry
reap q cqe = Entry.Reap (record { queue = q; cqe = cqe })

-- sixteen bytes, of which the first eight are zero
abbrev pub cqe : ℕ → ℕ → ℕ → ℕ → ℕ → ℕ → ℕ → ℕ → List ℕ
cqe a b c d e f g h = replicate 8 0 ++ (a ∷ b ∷ c ∷ d ∷ e ∷ f ∷ g ∷ h ∷ [])

-- One Write, its effect marked or not.
abbrev pub one_write_by : Bool → List Entry
one_write_by mark =
    publish 1 (submit 1 0 1 3 0 (one 0xa1) ∷ [])
    ∷ fetch 1 1 Verdict.Single
    ∷ grant 1 0 3 1 Mode.Exclusive
    ∷ block 1 0 3 Found.Written mark
    ∷ post 1 (cqe 1 0 1 0 1 0 1 0) []
    ∷ reap 1 (cqe 1 0 1 0 1 0 1 0)
    ∷ []

-- a pair with these CIDs on block 3, from one byte to another
abbrev pub pair_on_3 : ℕ → ℕ → ℕ → ℕ → List Submission
pair_on_3 first second old new = submit 5 1 first 3 0 (one old) ∷ submit 1 2 second 3 0 (one new) ∷ []

-- A pair: block 3 from zeros to A1; the mark stands on the compare, or on the write.
abbrev pub pair_by : Verdict → Bool → ℕ → List Entry
pair_by verdict mark status =
    publish 1 (pair_on_3 7 8 0 0xa1)
    ∷ fetch 1 1 verdict
    ∷ grant 1 0 3 1 Mode.Exclusive
    ∷ block 1 0 3 Found.Equal mark
    ∷ block 1 0 3 Found.Written (not mark)
    ∷ post 1 (cqe 2 0 1 0 7 0 status 0) []
    ∷ post 1 (cqe 2 0 1 0 8 0 1 0) []
    ∷ reap 1 (cqe 2 0 1 0 7 0 1 0)
    ∷ reap 1 (cqe 2 0 1 0 8 0 1 0)
    ∷ []

-- a wrong verdict is bad at place 2
abbrev pub lone_first : List Entry
lone_first = pair_by (Verdict.SingleFailed (status 0 0x0a)) true 1

-- a completion of phase 0 is bad at place 6
abbrev pub wrong_phase : List Entry
wrong_phase = pair_by Verdict.Pair true 0

-- That pair, a Read that finds A1, and a pair on queue 2 that loses.
abbrev pub lost_pair : List Entry
lost_pair =
    pair_by Verdict.Pair true 1
    ++ (publish 1 (submit 2 0 9 3 0 [] ∷ [])
    ∷ fetch 1 2 Verdict.Single
    ∷ grant 2 0 3 1 Mode.Shared
    ∷ block 2 0 3 Found.Read true
    ∷ post 2 (cqe 3 0 1 0 9 0 1 0) (one 0xa1)
    ∷ reap 1 (cqe 3 0 1 0 9 0 1 0)
    ∷ publish 2 (pair_on_3 9 10 0 0xb2)
    ∷ fetch 2 3 Verdict.Pair
    ∷ grant 3 0 3 1 Mode.Exclusive
    ∷ block 3 0 3 Found.Differs true
    ∷ post 3 (cqe 2 0 2 0 9 0 0x0b 5) []
    ∷ post 3 (cqe 2 0 2 0 10 0 0x13 0) []
    ∷ reap 2 (cqe 2 0 2 0 9 0 0x0b 5)
    ∷ reap 2 (cqe 2 0 2 0 10 0 0x13 0)
    ∷ [])
