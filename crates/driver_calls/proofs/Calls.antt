-- The entries of a call.
use Rattle.std.proofs.Common.{Bool, List, Some, [], ap, ap₂, arith, eq-eqb, eqb, false, length, map, refl, suc, sym}
use Rattle.std.proofs.Common.{take, true, ℕ, ◌%◌, ◌&&◌, ◌*◌, ◌+◌, ◌++◌, ◌-◌, ◌/◌, ◌<◌, ◌^◌, ◌||◌, ◌∙◌, ◌∷◌, ◌≡◌, ◌≤◌}
use Rattle.std.specs.List.{list_all, list_any}
use Rattle.nvme_model.specs.Array.{overlap}
use Rattle.nvme_model.specs.Commands.{is_compare, is_write}
use Rattle.nvme_model.specs.EntryBytes.{Sqe, block_count, slba}
use Rattle.nvme_model.specs.Operations.{command_count, has_write, op_of_fields}
use Rattle.nvme_model.specs.Slots.{is_pair_on_one, touches}
use Rattle.nvme_model.specs.declared.array.Range.{Range}
use Rattle.nvme_model.specs.declared.operation.Op.{Op}
use Rattle.nvme_model.specs.declared.submission.Submission.{Submission}
use Rattle.host_laws.proofs.Elements.{get_after}
use Rattle.host_laws.specs.Book.{cid_of}
use Rattle.host_laws.specs.Calls.{is_proper}
use Rattle.entry_codec.specs.Sqe.{command_fields}
use Rattle.driver_calls.specs.Says.{IsFusedIn, IsSingleIn}
use Rattle.driver_calls.specs.Entries.{IsBatch, IsCommand, first_opcode, payloads_of}
use Rattle.driver_calls.specs.declared.request.CallData.{CallData}
use Rattle.driver_calls.proofs.Commands.{command_cid, command_proper, command_touches}
use Rattle.nvme_model.proofs.Bools.{or_false}

-- one entry with the opcode of an operation that has one is a call of it
pub one_made : (o : Op) (l n first second : ℕ) (payload : List ℕ) (s : Submission) → command_count o ≡ 1
    → IsCommand s (first_opcode o) 0 first l n payload
    → IsBatch o l n first second (CallData.One payload) (s ∷ [])
one_made Op.Read l n first second payload s h c = c
one_made Op.Compare l n first second payload s h c = c
one_made Op.Write l n first second payload s h c = c
one_made Op.WriteZeroes l n first second payload s h c = c
one_made Op.Pair l n first second payload s h c = absurd (omega (arith, h))

-- a Compare and a Write, fused, are a call of an operation that has two
pub two_made : (o : Op) (l n first second : ℕ) (expected desired : List ℕ) (s t : Submission) → command_count o ≡ 2
    → IsCommand s 5 1 first l n expected → IsCommand t 1 2 second l n desired
    → IsBatch o l n first second (CallData.Two expected desired) (s ∷ t ∷ [])
two_made Op.Read l n first second expected desired s t h c d = absurd (omega (arith, h))
two_made Op.Compare l n first second expected desired s t h c d = absurd (omega (arith, h))
two_made Op.Write l n first second expected desired s t h c d = absurd (omega (arith, h))
two_made Op.WriteZeroes l n first second expected desired s t h c d = absurd (omega (arith, h))
two_made Op.Pair l n first second expected desired s t h c d = (c, d)

-- what holds of one command's entry, and of a fused pair's, holds of the entries of each call
pub by_call : (P : Op → CallData → List Submission → Type 0) (l n first second : ℕ)
    → ((o : Op) (payload : List ℕ) (s : Submission) → command_count o ≡ 1
    → IsCommand s (first_opcode o) 0 first l n payload → P o (CallData.One payload) (s ∷ []))
    → ((expected desired : List ℕ) (s t : Submission) → IsCommand s 5 1 first l n expected
    → IsCommand t 1 2 second l n desired → P Op.Pair (CallData.Two expected desired) (s ∷ t ∷ []))
    → (o : Op) (contents : CallData) (batch : List Submission) → IsBatch o l n first second contents batch
    → P o contents batch
by_call P l n first second one two Op.Read (CallData.One payload) (s ∷ []) c = one Op.Read payload s refl c
by_call P l n first second one two Op.Read (CallData.One payload) [] c = absurd c
by_call P l n first second one two Op.Read (CallData.One payload) (s ∷ t ∷ batch) c = absurd c
by_call P l n first second one two Op.Read (CallData.Two expected desired) batch c = absurd c
by_call P l n first second one two Op.Compare (CallData.One payload) (s ∷ []) c = one Op.Compare payload s refl c
by_call P l n first second one two Op.Compare (CallData.One payload) [] c = absurd c
by_call P l n first second one two Op.Compare (CallData.One payload) (s ∷ t ∷ batch) c = absurd c
by_call P l n first second one two Op.Compare (CallData.Two expected desired) batch c = absurd c
by_call P l n first second one two Op.Write (CallData.One payload) (s ∷ []) c = one Op.Write payload s refl c
by_call P l n first second one two Op.Write (CallData.One payload) [] c = absurd c
by_call P l n first second one two Op.Write (CallData.One payload) (s ∷ t ∷ batch) c = absurd c
by_call P l n first second one two Op.Write (CallData.Two expected desired) batch c = absurd c
by_call P l n first second one two Op.WriteZeroes (CallData.One payload) (s ∷ []) c =
    one Op.WriteZeroes payload s refl c
by_call P l n first second one two Op.WriteZeroes (CallData.One payload) [] c = absurd c
by_call P l n first second one two Op.WriteZeroes (CallData.One payload) (s ∷ t ∷ batch) c = absurd c
by_call P l n first second one two Op.WriteZeroes (CallData.Two expected desired) batch c = absurd c
by_call P l n first second one two Op.Pair (CallData.One payload) batch c = absurd c
by_call P l n first second one two Op.Pair (CallData.Two expected desired) [] c = absurd c
by_call P l n first second one two Op.Pair (CallData.Two expected desired) (s ∷ []) c = absurd c
by_call P l n first second one two Op.Pair (CallData.Two expected desired) (s ∷ t ∷ []) c =
    two expected desired s t c.0 c.1
by_call P l n first second one two Op.Pair (CallData.Two expected desired) (s ∷ t ∷ u ∷ batch) c = absurd c

pub call_count : (o : Op) (l n first second : ℕ) (contents : CallData) (batch : List Submission)
    → IsBatch o l n first second contents batch → length batch ≡ command_count o
call_count o l n first second contents batch =
    by_call (λ o contents batch. length batch ≡ command_count o) l n first second (λ o payload s h c. sym h)
    (λ expected desired s t c d. refl) o contents batch

pub call_payloads : (o : Op) (l n first second : ℕ) (contents : CallData) (batch : List Submission)
    → IsBatch o l n first second contents batch
    → map (λ (s : Submission). s.payload) batch ≡ payloads_of contents
call_payloads o l n first second contents batch =
    by_call (λ o contents batch. map (λ (s : Submission). s.payload) batch ≡ payloads_of contents) l n first second
    (λ o payload s h c. ap (λ (p : List ℕ). p ∷ []) c.beside)
    (λ expected desired s t c d. ap₂ (λ (p q : List ℕ). p ∷ q ∷ []) c.beside d.beside) o contents batch

pub call_cids : (o : Op) (l n first second : ℕ) (contents : CallData) (batch : List Submission)
    → IsBatch o l n first second contents batch
    → map cid_of batch ≡ take (command_count o) (first ∷ second ∷ [])
call_cids o l n first second contents batch =
    by_call (λ o contents batch. map cid_of batch ≡ take (command_count o) (first ∷ second ∷ [])) l n first second
    (λ o payload s h c. ap (λ (i : ℕ). i ∷ []) (command_cid s (first_opcode o) 0 first l n payload c)
    ∙ ap (λ (k : ℕ). take k (first ∷ second ∷ [])) (sym h))
    (λ expected desired s t c d.
    ap₂ (λ (i k : ℕ). i ∷ k ∷ []) (command_cid s 5 1 first l n expected c) (command_cid t 1 2 second l n desired d))
    o contents batch

-- the opcode of a command by itself is that of its operation
does : (o : Op) (cid l k : ℕ) → command_count o ≡ 1 → op_of_fields (command_fields (first_opcode o) 0 cid l k) ≡ Some o
does Op.Read cid l k h = refl
does Op.Compare cid l k h = refl
does Op.Write cid l k h = refl
does Op.WriteZeroes cid l k h = refl
does Op.Pair cid l k h = absurd (omega (arith, h))

pub call_single : (o : Op) (l n first second : ℕ) (contents : CallData) (before batch : List Submission)
    → IsBatch o l n first second contents batch → command_count o ≡ 1
    → IsSingleIn (before ++ batch) (length before) o
call_single o l n first second contents before batch =
    by_call (λ o contents batch. command_count o ≡ 1 → IsSingleIn (before ++ batch) (length before) o) l n first second
    (λ o payload s h c _. record {
      entry = s;
      there = get_after before (s ∷ []) 0 (length before) s (omega arith) refl;
      not_first = ap (λ (e : Sqe). eqb e.fuse 1) c.entry.1;
      not_second = ap (λ (e : Sqe). eqb e.fuse 2) c.entry.1;
      does = ap op_of_fields c.entry.1 ∙ does o first l (n - 1) h;
    })
    (λ expected desired s t c d h. absurd (omega (arith, h))) o contents batch

pub call_fused : (l n first second : ℕ) (contents : CallData) (before batch : List Submission)
    → IsBatch Op.Pair l n first second contents batch
    → IsFusedIn (before ++ batch) (length before)
call_fused l n first second contents before batch h =
    by_call (λ o contents batch. command_count o ≡ 2 → IsFusedIn (before ++ batch) (length before)) l n first second
    (λ o payload s h c k. absurd (omega (arith, h, k)))
    (λ expected desired s t c d _. record {
      first = s;
      second = t;
      first_there = get_after before (s ∷ t ∷ []) 0 (length before) s (omega arith) refl;
      second_there = get_after before (s ∷ t ∷ []) 1 (suc (length before)) t (omega arith) refl;
      first_fuse = ap (λ (e : Sqe). eqb e.fuse 1) c.entry.1;
      second_fuse = ap (λ (e : Sqe). eqb e.fuse 2) d.entry.1;
    }) Op.Pair contents batch h refl

-- no operation is a Flush
some_opcode : (o : Op) → 0 < first_opcode o
some_opcode Op.Read = omega arith
some_opcode Op.Compare = omega arith
some_opcode Op.Write = omega arith
some_opcode Op.WriteZeroes = omega arith
some_opcode Op.Pair = omega arith

pub call_proper : (o : Op) (l n first second : ℕ) (contents : CallData) (batch : List Submission) → n ≤ 65536
    → IsBatch o l n first second contents batch → list_all is_proper batch ≡ true
call_proper o l n first second contents batch most =
    by_call (λ o contents batch. list_all is_proper batch ≡ true) l n first second
    (λ o payload s h c. ap (λ (b : Bool). b && true)
    (command_proper s (first_opcode o) 0 first l n payload (some_opcode o) (omega arith) most c))
    (λ expected desired s t c d.
    ap₂ (λ (a b : Bool). a && (b && true)) (command_proper s 5 1 first l n expected (omega arith) (omega arith) most c)
    (command_proper t 1 2 second l n desired (omega arith) (omega arith) most d)) o contents batch

-- which operations write, by their opcodes
writes : (o : Op) (b : Bool) → command_count o ≡ 1
    → (((eqb (first_opcode o) 1 || eqb (first_opcode o) 8) && b) || false) ≡ (has_write (Some o) && b)
writes Op.Read b h = refl
writes Op.Compare b h = refl
writes Op.Write b h = or_false b
writes Op.WriteZeroes b h = or_false b
writes Op.Pair b h = absurd (omega (arith, h))

pub call_touches : (slots : Range) (o : Op) (l n first second : ℕ) (contents : CallData) (batch : List Submission)
    → 1 ≤ n → n ≤ 65536 → IsBatch o l n first second contents batch
    → list_any (touches slots) batch ≡ (has_write (Some o) && overlap (record { slba = l; blocks = n }) slots)
call_touches slots o l n first second contents batch some most =
    by_call (λ o contents batch. list_any (touches slots) batch
    ≡ (has_write (Some o) && overlap (record { slba = l; blocks = n }) slots)) l n first second
    (λ o payload s h c. ap (λ (b : Bool). b || false)
    (command_touches slots s (first_opcode o) 0 first l n payload some most c)
    ∙ writes o (overlap (record { slba = l; blocks = n }) slots) h)
    (λ expected desired s t c d.
    ap₂ (λ (a b : Bool). a || (b || false)) (command_touches slots s 5 1 first l n expected some most c)
    (command_touches slots t 1 2 second l n desired some most d)
    ∙ or_false (overlap (record { slba = l; blocks = n }) slots)) o contents batch

pub call_on_one : (l first second : ℕ) (contents : CallData) (s t : Submission)
    → IsBatch Op.Pair l 1 first second contents (s ∷ t ∷ []) → is_pair_on_one s t ≡ true
call_on_one l first second (CallData.One payload) s t c = absurd c
call_on_one l first second (CallData.Two expected desired) s t c =
    ap₂ (λ (e d : Sqe). is_compare e && is_write d && eqb e.fuse 1 && eqb d.fuse 2 && eqb (slba e) (slba d)
    && eqb (block_count e) 1 && eqb (block_count d) 1) c.0.entry.1 c.1.entry.1
    ∙ ap (λ (b : Bool). b && true && true) (eq-eqb (l % 2 ^ 32 + 2 ^ 32 * (l / 2 ^ 32)) _ refl)
