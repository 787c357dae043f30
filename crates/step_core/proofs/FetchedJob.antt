-- The job and the work of a ticket that was just fetched.
use Rattle.std.proofs.Common.{◌≡◌, ℕ, ◌-◌, ◌*◌, cond, List, [], replicate, Some}
use Rattle.std.proofs.Common.{refl, sym, ap, ◌∙◌, arith}
use Rattle.nvme_model.specs.EntryBytes.{block_count, slba}
use Rattle.nvme_model.specs.Operations.{has_compare, is_pair, op, op_of_fields}
use Rattle.ticket_laws.specs.Standing.{fresh_standing}
use Rattle.nvme_model.specs.Tickets.{Ticket, cids, command, first_fields}
use Rattle.nvme_model.specs.declared.array.Range.{Range}
use Rattle.nvme_model.specs.declared.config.ConfigNumbers.{ConfigNumbers}
use Rattle.nvme_model.specs.declared.operation.Op.{Op}
use Rattle.nvme_model.specs.declared.submission.Submission.{Submission}
use Rattle.nvme_model.proofs.NextPost.{not_pair}
use Rattle.nvme_model.proofs.Cut.{clash}
use Rattle.fused_match.specs.Judged.{NamesBlocks, operation_in, verdict_by}
use Rattle.fused_match.specs.declared.judged.Judged.{Judged}
use Rattle.fused_match.specs.declared.judged.Judged.TheVariants as judged
use Rattle.job_table.proofs.Fetched.{fetched}
use Rattle.step_core.specs.Found.{first_job}
use Rattle.job_table.specs.Beginning.{read_first}
use Rattle.step_core.specs.declared.controller.fetch.Front.{Front}
use Rattle.job_table.specs.Tickets.{job_by, read_bytes_by, write_blocks}
use Rattle.controller_interface.specs.State.{judged_by, judged_of}
use Rattle.step_core.proofs.Written.{fresh_blocks}

-- the ticket of these commands
abbrev pub ticket_by : ℕ → Judged → List Submission → Ticket
ticket_by q j commands = record { queue = q; commands = commands; verdict = verdict_by j }

-- what is judged is what the ticket does, and the blocks are those of its first command
pub record Names (j : Judged) (k : Ticket) : Type 0 where
  pub operation : operation_in j ≡ op k
  pub range : NamesBlocks j (first_fields k)

-- ---- what its Fetch found

-- a range by its two numbers
same_range : (r : Range) (s n : ℕ) → r.slba ≡ s → r.blocks ≡ n → r ≡ record { slba = s; blocks = n }
same_range r s n a b = (λ i. record { slba = a i; blocks = b i })

-- it is what the Fetch is answered with
pub judged_is : (q : ℕ) (j : Judged) (cs : List Submission) → Names j (ticket_by q j cs)
    → j ≡ judged_of (ticket_by q j cs) (verdict_by j)
judged_is q judged.Flush cs h = ap (judged_by (ticket_by q judged.Flush cs)) h.operation
judged_is q (judged.Single o r) cs h = ap (λ (x : Range). judged.Single o x) (same_range r _ _ h.range.0 h.range.1)
    ∙ ap (judged_by (ticket_by q (judged.Single o r) cs)) h.operation
judged_is q (judged.Pair r) cs h = ap (λ (x : Range). judged.Pair x) (same_range r _ _ h.range.0 h.range.1)
judged_is q (judged.SingleFailed s) cs h = refl
judged_is q (judged.PairFailed s r) cs h = refl

-- one command does no pair's work
pub no_pair : (q : ℕ) (r : Range) (cs : List Submission)
    → Names (judged.Single Op.Pair r) (ticket_by q (judged.Single Op.Pair r) cs) → ⊥
no_pair q r cs h = let k = ticket_by q (judged.Single Op.Pair r) cs in
    clash (is_pair (op_of_fields (first_fields k))) (sym (ap is_pair h.operation)) (not_pair (first_fields k))

-- ---- its job

-- the room for what one command reads
read_op : (k : Ticket) (o : Op) (r : Range) → r.blocks ≡ block_count (first_fields k)
    → read_first (judged.Single o r) ≡ read_bytes_by (Some o) k []
read_op k Op.Read r e = ap (λ (n : ℕ). replicate n 0) (whole r.blocks (block_count (first_fields k)) e)
  where
    whole : (a b : ℕ) → a ≡ b → 512 * a ≡ 512 * b - 0
    whole a b e = omega (arith, e)
read_op k Op.Compare r e = refl
read_op k Op.Write r e = refl
read_op k Op.WriteZeroes r e = refl
read_op k Op.Pair r e = refl

-- the room for what it reads
read_is : (q : ℕ) (j : Judged) (cs : List Submission) → Names j (ticket_by q j cs)
    → read_first j ≡ read_bytes_by (op (ticket_by q j cs)) (ticket_by q j cs) []
read_is q judged.Flush cs h = let k = ticket_by q judged.Flush cs in ap (λ o. read_bytes_by o k []) h.operation
read_is q (judged.Single o r) cs h = let k = ticket_by q (judged.Single o r) cs in
    read_op k o r h.range.1 ∙ ap (λ x. read_bytes_by x k []) h.operation
read_is q (judged.Pair r) cs h = refl
read_is q (judged.SingleFailed s) cs h = refl
read_is q (judged.PairFailed s r) cs h = refl

-- the job that is made is that of a ticket that has begun nothing
pub fresh_job : (c : ConfigNumbers) (q : ℕ) (f : Front) (cs : List Submission) (first : Submission)
    (write : List (List ℕ)) (read : List ℕ) → Names f.judged (ticket_by q f.judged cs)
    → f.cids ≡ cids (ticket_by q f.judged cs) → f.slba ≡ slba (first_fields (ticket_by q f.judged cs))
    → first ≡ command (ticket_by q f.judged cs) 0
    → write ≡ write_blocks (ticket_by q f.judged cs) → read ≡ read_first f.judged
    → first_job q f first write read ≡ job_by c (fresh_standing (ticket_by q f.judged cs))
unfolding job_by
fresh_job c q f cs first write read h ids start front wrote room =
    let k = ticket_by q f.judged cs in
    let e = h.operation in
    (λ i. record {
      queue = q;
      progress = record { stage = sym (fetched c k f.judged refl h.operation h.range) i; cids = ids i };
      slba = start i;
      compare = cond (has_compare (e i)) (front i).payload [];
      write = (wrote ∙ sym (fresh_blocks c k)) i;
      read = (room ∙ read_is q f.judged cs h) i;
    })
