-- Lines that options let pass, and their neighbours that they don't.
use Rattle.std.specs.Prelude.{Bool, List, [], false, refl, true, ℕ, ◌∷◌, ◌≡◌}
use Rattle.nvme_model.specs.Examples.{cqe, default, submit}
use Rattle.trace.specs.Options.{no_options}
use Rattle.trace.specs.declared.options.TraceOptions.{TraceOptions}
use Rattle.trace.specs.declared.seen.Seen.{Seen}
use Rattle.refutation.specs.ReadRules.{is_bad_read_line}

-- a Flush, and its completion with this SQHD and these last bytes
abbrev flushed : ℕ → ℕ → ℕ → List Seen
flushed head low high =
    Seen.Reaped (record { queue = 1; cqe = cqe head 0 1 0 5 0 low high; payload = [] })
    ∷ Seen.Published (record { queue = 1; batch = submit 0 0 5 0 0 [] ∷ [] }) ∷ []

-- these fields aren't compared, nor is the status
abbrev reading : (dnr sqhd any : Bool) → TraceOptions
reading dnr sqhd any =
    record {
      contents_unknown = false;
      statuses_any = any;
      ignored = record { dnr = dnr; more = false; crd = false; dw0 = false; dw1 = false; sqhd = sqhd };
    }

-- Do Not Retry
pub retry : is_bad_read_line no_options default (flushed 1 1 0x80) ≡ true
retry = refl

pub retry_ignored : is_bad_read_line (reading true false false) default (flushed 1 1 0x80) ≡ false
retry_ignored = refl

-- More isn't ignored with it
pub more_not_ignored : is_bad_read_line (reading true false false) default (flushed 1 1 0x40) ≡ true
more_not_ignored = refl

-- two entries aren't published
pub head : is_bad_read_line (reading true false false) default (flushed 2 1 0) ≡ true
head = refl

pub head_ignored : is_bad_read_line (reading false true false) default (flushed 2 1 0) ≡ false
head_ignored = refl

-- 'LBA Out of Range' of a Flush
pub status : is_bad_read_line (reading false true false) default (flushed 1 1 1) ≡ true
status = refl

pub any_status : is_bad_read_line (reading false false true) default (flushed 1 1 1) ≡ false
any_status = refl

-- no option leaves the phase tag out
pub phase : is_bad_read_line (reading true true true) default (flushed 1 0 0) ≡ true
phase = refl

pub right_phase : is_bad_read_line (reading true true true) default (flushed 1 1 0) ≡ false
right_phase = refl
