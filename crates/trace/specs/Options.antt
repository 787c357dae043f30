-- How options read a trace: which of its lines a line of a history can stand for.
use Rattle.std.specs.Prelude.{Bool, List, ◌∷◌, false, get_or, if◌then◌else◌, not, set, true, ℕ, ◌%◌, ◌&&◌, ◌*◌, ◌+◌}
use Rattle.std.specs.Prelude.{[], ◌/◌, ◌==◌, ◌≡◌, ◌⊎◌}
use Rattle.nvme_model.specs.EntryBytes.{Cqe, cqe_fields}
use Rattle.nvme_model.specs.declared.entry.PublishLine.{PublishLine}
use Rattle.nvme_model.specs.declared.submission.Submission.{Submission}
use Rattle.trace.specs.declared.options.IgnoredFields.{IgnoredFields}
use Rattle.trace.specs.declared.options.TraceOptions.{TraceOptions}
use Rattle.trace.specs.declared.seen.ReapedLine.{ReapedLine}
use Rattle.trace.specs.declared.seen.Seen.{Seen}

-- Nothing is left out of what is compared, and all blocks are zeros at the beginning.
abbrev pub no_options : TraceOptions
no_options =
    record {
      contents_unknown = false;
      statuses_any = false;
      ignored = record { dnr = false; more = false; crd = false; dw0 = false; dw1 = false; sqhd = false };
    }

-- ---- completions

-- A status other than success and Compare Failure: the command did nothing.
abbrev pub does_nothing : Cqe → Bool
does_nothing e = not ((e.sc == 0) && (e.sct == 0)) && not ((e.sc == 133) && (e.sct == 2))

-- byte 14 of a completion: the phase tag, and the low bits of its status
abbrev pub low_status : List ℕ → ℕ
low_status bytes = get_or bytes 14 0

-- byte 15 of a completion: the high bits of its status, CRD, More and DNR
abbrev pub high_status : List ℕ → ℕ
high_status bytes = get_or bytes 15 0

-- where any status will do, one that says that nothing was done stands for all of them
abbrev pub with_one_status : Bool → List ℕ → List ℕ
with_one_status any bytes =
    if any && does_nothing (cqe_fields bytes)
    then (let low = set bytes 14 (low_status bytes % 2 + 2) in set low 15 (high_status low / 16 * 16))
    else bytes

-- Do Not Retry is zero, where it is ignored
abbrev pub without_dnr : Bool → List ℕ → List ℕ
without_dnr ignored bytes = if ignored then set bytes 15 (high_status bytes % 128) else bytes

-- More is zero, where it is ignored
abbrev pub without_more : Bool → List ℕ → List ℕ
without_more ignored bytes =
    if ignored then set bytes 15 (high_status bytes / 128 * 128 + high_status bytes % 64) else bytes

-- the Command Retry Delay is zero, where it is ignored
abbrev pub without_crd : Bool → List ℕ → List ℕ
without_crd ignored bytes =
    if ignored then set bytes 15 (high_status bytes / 64 * 64 + high_status bytes % 16) else bytes

-- DW0 is zero, where it is ignored
abbrev pub without_dw0 : Bool → List ℕ → List ℕ
without_dw0 ignored bytes = if ignored then set (set (set (set bytes 0 0) 1 0) 2 0) 3 0 else bytes

-- DW1 is zero, where it is ignored
abbrev pub without_dw1 : Bool → List ℕ → List ℕ
without_dw1 ignored bytes = if ignored then set (set (set (set bytes 4 0) 5 0) 6 0) 7 0 else bytes

-- the SQ Head Pointer is zero, where it is ignored
abbrev pub without_sqhd : Bool → List ℕ → List ℕ
without_sqhd ignored bytes = if ignored then set (set bytes 8 0) 9 0 else bytes

-- The bytes of a completion as options read it: two completions that are read as the same bytes aren't told apart.
abbrev pub read_completion : TraceOptions → List ℕ → List ℕ
read_completion o bytes =
    let i = o.ignored in
    without_sqhd i.sqhd (without_dw1 i.dw1 (without_dw0 i.dw0
    (without_crd i.crd (without_more i.more (without_dnr i.dnr (with_one_status o.statuses_any bytes))))))

-- ---- what was published

-- The bytes of an entry that a history has in place of one that was refused: those of namespace 0, so that it does
-- nothing and says so.
abbrev pub refused : List ℕ → List ℕ
refused bytes = set (set (set (set bytes 4 0) 5 0) 6 0) 7 0

-- An entry of a history stands for this one of a trace: it is the same, or, where any status will do, one that was
-- refused. Its data is the same.
abbrev pub ReadsEntry : TraceOptions → Submission → Submission → Type 0
ReadsEntry o e t =
    (e.payload ≡ t.payload) × ((e.entry ≡ t.entry) ⊎ ((o.statuses_any ≡ true) × (e.entry ≡ refused t.entry)))

-- two lists are of one length, and this holds of what stands at each place of them
abbrev pub Pointwise : {A : Type 0} → (A → A → Type 0) → List A → List A → Type 0
Pointwise R [] [] = Unit {0}
Pointwise R [] (y ∷ ys) = ⊥
Pointwise R (x ∷ xs) [] = ⊥
Pointwise R (x ∷ xs) (y ∷ ys) = R x y × Pointwise R xs ys

-- ---- lines

-- A Publish of a history stands for this one of a trace: its queue is the same, and each of its entries stands for the
-- one at its place.
abbrev pub ReadsPublish : TraceOptions → PublishLine → PublishLine → Type 0
ReadsPublish o p t = (p.queue ≡ t.queue) × Pointwise (ReadsEntry o) p.batch t.batch

-- A Reap of a history, with its data, stands for this one of a trace: queue and data are the same, and the completion
-- is read as the same bytes.
abbrev pub ReadsReap : TraceOptions → ReapedLine → ReapedLine → Type 0
ReadsReap o r t =
    (r.queue ≡ t.queue) × (read_completion o r.cqe ≡ read_completion o t.cqe) × (r.payload ≡ t.payload)

-- What hosts saw of a history stands for this line of a trace.
abbrev pub ReadsAs : TraceOptions → Seen → Seen → Type 0
ReadsAs o (Seen.Published p) (Seen.Published t) = ReadsPublish o p t
ReadsAs o (Seen.Published p) (Seen.Reaped t) = ⊥
ReadsAs o (Seen.Reaped r) (Seen.Published t) = ⊥
ReadsAs o (Seen.Reaped r) (Seen.Reaped t) = ReadsReap o r t
