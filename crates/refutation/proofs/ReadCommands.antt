-- A trace tells the same of what commands do and whether they succeeded as what it reads.
use Rattle.nvme_model.specs.EntryBytes
use Rattle.nvme_model.specs.Operations
use Rattle.std.proofs.Common.{◌≡◌, ℕ, zero, suc, ◌+◌, ◌-◌, ◌*◌, ◌/◌, ◌%◌, ◌≤◌, Bool, true, false, not, ◌&&◌, cond}
use Rattle.std.proofs.Common.{List, [], ◌∷◌, Option, None, Some, drop, get_or, length, set, take, refl, sym, ap, ap₂}
use Rattle.std.proofs.Common.{◌∙◌}
use Rattle.std.proofs.Common.{arith, eqb, inl, inr, ◌^◌}
use Rattle.std.proofs.lemmas.Bool.{and_parts, cases_lt}
use Rattle.std.proofs.lemmas.List.{get_or-set_other, get_or-set_same, length-set, set_past}
use Rattle.nvme_model.specs.EntryBytes.{block_count, cqe_fields, field, slba, sqe_fields}
use Rattle.nvme_model.specs.Operations.{compare_data, op, op_by, op_of_fields, units, units_by, write_data}
use Rattle.nvme_model.specs.Operations.{write_data_by}
use Rattle.nvme_model.specs.Statuses.{compare_failure, is_success, same_status}
use Rattle.nvme_model.specs.Tickets.{Ticket, first_fields}
use Rattle.nvme_model.specs.declared.config.ConfigNumbers.{ConfigNumbers}
use Rattle.nvme_model.specs.declared.operation.Op.{Op}
use Rattle.nvme_model.specs.declared.status.Status.{Status}
use Rattle.nvme_model.specs.declared.status.Verdict.{Verdict}
use Rattle.nvme_model.specs.declared.submission.Submission.{Submission}
use Rattle.host_laws.specs.Calls.{cqe_status}
use Rattle.host_laws.proofs.Verdicts.{fuse, no_command, of_codes}
use Rattle.trace.specs.Options.{Pointwise, ReadsEntry, does_nothing, high_status, low_status, read_completion, refused}
use Rattle.trace.specs.Options.{with_one_status}
use Rattle.trace.specs.declared.options.TraceOptions.{TraceOptions}
use Rattle.trace.specs.declared.seen.Seen.{Seen}
use Rattle.refutation.specs.Lines.{published_in}
use Rattle.refutation.specs.Slices.{found_block}
use Rattle.refutation.specs.Told.{told_ticket, told_verdict}
use Rattle.refutation.proofs.ReadFields.{ends_read, field_below, word_is}
use Rattle.refutation.proofs.ReadLines.{Reads, published_reads, refused_field, same_fuse}

-- ---- success and Compare Failure are read as they are

-- what a status says of effects
pub record SaysAlike (a b : List ℕ) : Type 0 where
  pub done : is_success (cqe_status a) ≡ is_success (cqe_status b)
  pub differs : same_status (cqe_status a) compare_failure ≡ same_status (cqe_status b) compare_failure

get_past : (xs : List ℕ) (i d : ℕ) → length xs ≤ i → get_or xs i d ≡ d
get_past [] i d l = refl
get_past (x ∷ xs) zero d l = absurd (omega (arith, l))
get_past (x ∷ xs) (suc i) d l = get_past xs i d (omega (arith, l))

-- the word of a status that stands for all that say that nothing was done
one_word : (p k : ℕ) → let w = (p % 2 + 2) + 256 * (16 * k) in ((w / 512) % 8 ≡ 0) × ((w / 2) % 256 ≡ 1)
one_word p k = (omega arith, omega arith)

neither : (sct sc : ℕ) → sct ≡ 0 → sc ≡ 1
    → (is_success (of_codes sct sc) ≡ false) × (same_status (of_codes sct sc) compare_failure ≡ false)
neither sct sc e f = (
  ap₂ (λ (a b : ℕ). is_success (of_codes a b)) e f,
  ap₂
      (λ (a b : ℕ). same_status (of_codes a b) compare_failure) e f,
)

-- it says neither success nor Compare Failure
says_neither : (bytes : List ℕ) → is_success (cqe_status bytes) ≡ false
    → same_status (cqe_status bytes) compare_failure ≡ false
    → let low = set bytes 14 (low_status bytes % 2 + 2) in let now = set low 15 (high_status low / 16 * 16) in
    (is_success (cqe_status now) ≡ false) × (same_status (cqe_status now) compare_failure ≡ false)
says_neither bytes a b = elim (cases_lt 14 (length bytes)) [
  | inr past ↦
      let same : now ≡ bytes = set_past low 15 (high_status low / 16 * 16) (omega (arith, past, size))
      ∙ set_past bytes 14 (low_status bytes % 2 + 2) past in (
        ap (λ (x : List ℕ). is_success (cqe_status x)) same ∙ a,
        ap (λ (x : List ℕ). same_status (cqe_status x) compare_failure) same ∙ b,
      )
  | inl l ↦
      let first : low_status now ≡ low_status bytes % 2 + 2 =
      get_or-set_other low 15 14 (high_status low / 16 * 16) 0 (λ z. omega (arith, z))
      ∙ get_or-set_same bytes 14 (low_status bytes % 2 + 2) 0 l in
      let word : field 14 2 now ≡ (low_status bytes % 2 + 2) + 256 * (16 * (high_status low / 16)) =
      word_is now ∙ ap₂ (λ (x y : ℕ). x + 256 * y) first second in
      let w = one_word (low_status bytes) (high_status low / 16) in
      let n = neither ((field 14 2 now / 512) % 8) ((field 14 2 now / 2) % 256)
      (ap (λ (x : ℕ). (x / 512) % 8) word ∙ w.0) (ap (λ (x : ℕ). (x / 2) % 256) word ∙ w.1) in
      n
]
  where
    low : List ℕ
    low = set bytes 14 (low_status bytes % 2 + 2)

    now : List ℕ
    now = set low 15 (high_status low / 16 * 16)

    size : length low ≡ length bytes
    size = length-set bytes 14 (low_status bytes % 2 + 2)

    second : high_status now ≡ 16 * (high_status low / 16)
    second = elim (cases_lt 15 (length low)) [
      | inl m ↦ get_or-set_same low 15 (high_status low / 16 * 16) 0 m ∙ omega arith
      | inr m ↦
          let none = get_past low 15 0 m in
          ap high_status (set_past low 15 (high_status low / 16 * 16) m) ∙ omega (arith, none)
    ]

one_status : (any : Bool) (bytes : List ℕ) → SaysAlike (with_one_status any bytes) bytes
one_status any bytes = go (any && does_nothing (cqe_fields bytes)) refl
  where
    off : (s t u v : Bool) → (not (s && t) && not (u && v)) ≡ true → ((t && s) ≡ false) × ((v && u) ≡ false)
    off true true u v h = let f : false ≡ true = h in cc
    off false true true true h = let f : false ≡ true = h in cc
    off true false true true h = let f : false ≡ true = h in cc
    off false false true true h = let f : false ≡ true = h in cc
    off false true false true h = (refl, refl)
    off false true true false h = (refl, refl)
    off false true false false h = (refl, refl)
    off true false false true h = (refl, refl)
    off true false true false h = (refl, refl)
    off true false false false h = (refl, refl)
    off false false false true h = (refl, refl)
    off false false true false h = (refl, refl)
    off false false false false h = (refl, refl)

    go : (b : Bool) → (any && does_nothing (cqe_fields bytes)) ≡ b
        → SaysAlike (cond b (let low = set bytes 14 (low_status bytes % 2 + 2) in
        set low 15 (high_status low / 16 * 16)) bytes) bytes
    go false e = record { done = refl; differs = refl }
    go true e =
        let x = cqe_fields bytes in
        let n = off (eqb x.sc 0) (eqb x.sct 0) (eqb x.sc 133) (eqb x.sct 2)
        (and_parts any (does_nothing (cqe_fields bytes)) e).1 in
        let w = says_neither bytes n.0 n.1 in
        record { done = w.0 ∙ sym n.0; differs = w.1 ∙ sym n.1 }

pub says_alike : (o : TraceOptions) (a b : List ℕ) → read_completion o a ≡ read_completion o b → SaysAlike a b
says_alike o a b e =
    let x = one_status o.statuses_any a in
    let y = one_status o.statuses_any b in
    let read : cqe_status (with_one_status o.statuses_any a) ≡ cqe_status (with_one_status o.statuses_any b) =
    sym (ends_read o a).status ∙ (ap cqe_status e ∙ (ends_read o b).status) in
    record {
      done = sym x.done ∙ (ap is_success read ∙ y.done);
      differs = sym x.differs ∙ (ap (λ (s : Status). same_status s compare_failure) read ∙ y.differs);
    }

-- ---- a refused entry has the fields of the one that it stands for, but its namespace

pub record EntryAlike (e t : Submission) : Type 0 where
  pub opcode : (sqe_fields e.entry).opcode ≡ (sqe_fields t.entry).opcode
  pub fuse : fuse e ≡ fuse t
  pub slba : slba (sqe_fields e.entry) ≡ slba (sqe_fields t.entry)
  pub blocks : block_count (sqe_fields e.entry) ≡ block_count (sqe_fields t.entry)
  pub payload : e.payload ≡ t.payload

refused_above : (first count : ℕ) (bytes : List ℕ) → 8 ≤ first
    → field first count (refused bytes) ≡ field first count bytes
refused_above first count bytes l =
    field_below first count 7 0 (set (set (set bytes 4 0) 5 0) 6 0) (omega (arith, l))
    ∙ (field_below first count 6 0 (set (set bytes 4 0) 5 0) (omega (arith, l))
    ∙ (field_below first count 5 0 (set bytes 4 0) (omega (arith, l))
    ∙ field_below first count 4 0 bytes (omega (arith, l))))

entry_alike : (o : TraceOptions) (e t : Submission) → ReadsEntry o e t → EntryAlike e t
entry_alike o e t (p, inl h) =
    record {
      opcode = ap (λ (b : List ℕ). (sqe_fields b).opcode) h;
      fuse = same_fuse o e t (p, inl h);
      slba = ap (λ (b : List ℕ). slba (sqe_fields b)) h;
      blocks = ap (λ (b : List ℕ). block_count (sqe_fields b)) h;
      payload = p;
    }
entry_alike o e t (p, inr h) =
    record {
      opcode = ap (field 0 1) h.1 ∙ refused_field 0 1 t.entry (omega arith);
      fuse = same_fuse o e t (p, inr h);
      slba = ap (λ (b : List ℕ). slba (sqe_fields b)) h.1
          ∙ ap₂ (λ (x y : ℕ). x + 2 ^ 32 * y) (refused_above 40 4 t.entry (omega arith))
          (refused_above 44 4 t.entry (omega arith));
      blocks = ap (λ (b : List ℕ). block_count (sqe_fields b)) h.1
          ∙ ap (λ (x : ℕ). x % 65536 + 1) (refused_above 48 4 t.entry (omega arith));
      payload = p;
    }

pub get_alike : (o : TraceOptions) (es ts : List Submission) (i : ℕ) → Pointwise (ReadsEntry o) es ts
    → EntryAlike (get_or es i no_command) (get_or ts i no_command)
get_alike o [] [] i h = record { opcode = refl; fuse = refl; slba = refl; blocks = refl; payload = refl }
get_alike o [] (t ∷ ts) i h = absurd h
get_alike o (e ∷ es) [] i h = absurd h
get_alike o (e ∷ es) (t ∷ ts) zero h = entry_alike o e t h.0
get_alike o (e ∷ es) (t ∷ ts) (suc i) h = get_alike o es ts i h.1

-- ---- tickets that do the same

pub record DoesAlike (k m : Ticket) : Type 0 where
  pub op : op k ≡ op m
  pub units : (c : ConfigNumbers) → units c k ≡ units c m
  pub written : (l : ℕ) → write_data k l ≡ write_data m l
  pub compared : (l : ℕ) → compare_data k l ≡ compare_data m l
  pub slba : slba (first_fields k) ≡ slba (first_fields m)
  pub blocks : block_count (first_fields k) ≡ block_count (first_fields m)

block_at : ℕ → List ℕ → ℕ → List ℕ
block_at s payload l = take 512 (drop (512 * (l - s)) payload)

pub told_alike : (o : TraceOptions) (seen trace : List Seen) (q j : ℕ) → Reads o seen trace
    → DoesAlike (told_ticket seen q j) (told_ticket trace q j)
told_alike o seen trace q j h =
    record {
      op = does;
      units = λ c. ap₂ (λ (x : Option Op) (n : ℕ). units_by c.atomic x (EntryBytes.slba (first_fields k)) n) does
          first.blocks
          ∙ ap (λ (s : ℕ). units_by c.atomic (Operations.op m) s (block_count (first_fields m))) first.slba;
      written = λ l. by l (Operations.op k) ∙ ap (λ (x : Option Op). write_data_by x m l) does;
      compared = compared;
      slba = first.slba;
      blocks = first.blocks;
    }
  where
    k : Ticket
    k = told_ticket seen q j

    m : Ticket
    m = told_ticket trace q j

    first : EntryAlike (get_or (published_in seen q) j no_command) (get_or (published_in trace q) j no_command)
    first = get_alike o (published_in seen q) (published_in trace q) j (published_reads o seen trace q h)

    second : EntryAlike (get_or (published_in seen q) (suc j) no_command)
        (get_or (published_in trace q) (suc j) no_command)
    second = get_alike o (published_in seen q) (published_in trace q) (suc j) (published_reads o seen trace q h)

    does : Operations.op k ≡ Operations.op m
    does =
        ap (λ (f : ℕ). op_by (told_verdict f) (first_fields k)) first.fuse
        ∙ by_opcode m.verdict first.opcode
      where
        by_opcode : (v : Verdict) → (first_fields k).opcode ≡ (first_fields m).opcode
            → op_by v (first_fields k) ≡ op_by v (first_fields m)
        by_opcode Verdict.Single e =
            ap (λ (n : ℕ). cond (eqb n 1) (Some Op.Write) (cond (eqb n 2) (Some Op.Read)
            (cond (eqb n 5) (Some Op.Compare) (cond (eqb n 8) (Some Op.WriteZeroes) None)))) e
        by_opcode Verdict.Pair e = refl
        by_opcode (Verdict.SingleFailed s) e = refl
        by_opcode (Verdict.PairFailed s r) e = refl

    compared : (l : ℕ) → compare_data k l ≡ compare_data m l
    compared l = ap₂ (λ (s : ℕ) (p : List ℕ). take 512 (drop (512 * (l - s)) p)) first.slba first.payload

    by : (l : ℕ) (x : Option Op) → write_data_by x k l ≡ write_data_by x m l
    by l (Some Op.WriteZeroes) = refl
    by l (Some Op.Pair) = ap₂ (λ (s : ℕ) (p : List ℕ). take 512 (drop (512 * (l - s)) p)) first.slba second.payload
    by l (Some Op.Write) = compared l
    by l (Some Op.Read) = compared l
    by l (Some Op.Compare) = compared l
    by l None = compared l

pub found_alike : (k m : Ticket) (payload : List ℕ) (l : ℕ) → DoesAlike k m
    → found_block (op k) k payload l ≡ found_block (op m) m payload l
found_alike k m payload l h = by (op k) ∙ ap (λ (x : Option Op). found_block x m payload l) h.op
  where
    by : (x : Option Op) → found_block x k payload l ≡ found_block x m payload l
    by (Some Op.Read) = ap (λ (s : ℕ). take 512 (drop (512 * (l - s)) payload)) h.slba
    by (Some Op.Compare) = h.compared l
    by (Some Op.Write) = h.compared l
    by (Some Op.WriteZeroes) = h.compared l
    by (Some Op.Pair) = h.compared l
    by None = h.compared l
