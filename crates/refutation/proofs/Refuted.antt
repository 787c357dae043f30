-- What is refuted has no explanation.
use Rattle.std.proofs.Common.{◌≡◌, ℕ, ◌-◌, true, ◌||◌, List, ◌++◌, inl, inr, length, nat_le}
use Rattle.std.proofs.Common.{subst}
use Rattle.std.proofs.Common.{sym, take, take-append-drop}
use Rattle.std.proofs.lemmas.Bool.{and_parts, or_cases}
use Rattle.nvme_model.specs.Config.{is_accepted}
use Rattle.nvme_model.specs.History.{Past}
use Rattle.nvme_model.specs.declared.config.ConfigNumbers.{ConfigNumbers}
use Rattle.trace.specs.Observed.{Explains}
use Rattle.trace.specs.declared.options.TraceOptions.{TraceOptions}
use Rattle.trace.specs.declared.seen.Seen.{Seen}
use Rattle.refutation.specs.Layers.{has_no_order}
use Rattle.refutation.proofs.Steps.{no_order}
use Rattle.refutation.specs.Apart.{held_at_first}
use Rattle.refutation.specs.Lines.{is_tidy}
use Rattle.refutation.specs.ReadRules.{is_bad_read_line}
use Rattle.refutation.specs.Refuted.{first_lines, is_refuted, lacks_order}
use Rattle.refutation.specs.Slices.{slice_of}
use Rattle.refutation.proofs.OwnRules.{nothing_reads}
use Rattle.refutation.proofs.WholeSlices.{order_as_read}

-- a slice that lacks an order refutes each trace that begins so
pub none_lacks : (o : TraceOptions) (c : ConfigNumbers) (past : Past) (more first : List Seen)
    (commands : List (ℕ × ℕ)) (blocks : List ℕ) → is_accepted c ≡ true
    → lacks_order o c first commands blocks ≡ true → Explains o c past (more ++ first) → ⊥
none_lacks o c past more first commands blocks a h x =
    let y = and_parts (is_tidy first) (has_no_order (held_at_first o) (slice_of o c first commands blocks)) h in
    let r = order_as_read o c past more first commands blocks a x y.0 in
    no_order (held_at_first o) (slice_of o c first commands blocks) r.0 y.1 r.1

pub none_refuted : (o : TraceOptions) (c : ConfigNumbers) (past : Past) (trace : List Seen) (lines : ℕ)
    (commands : List (ℕ × ℕ)) (blocks : List ℕ) → is_accepted c ≡ true
    → is_refuted o c trace lines commands blocks ≡ true → Explains o c past trace → ⊥
none_refuted o c past trace lines commands blocks a h x =
    let k = length trace - lines in
    let first = first_lines lines trace in
    let y = and_parts (nat_le lines (length trace))
    (is_bad_read_line o c first || lacks_order o c first commands blocks) h in
    let whole : Explains o c past (take k trace ++ first) =
    subst (λ (t : List Seen). Explains o c past t) (sym (take-append-drop k trace)) x in
    elim (or_cases (is_bad_read_line o c first) (lacks_order o c first commands blocks) y.1) [
      | inl bad ↦ nothing_reads o c past (take k trace) first a bad whole
      | inr lacks ↦ none_lacks o c past (take k trace) first commands blocks a lacks whole
    ]
