-- The first lines of a trace, the oldest line first and the newest first, and what refutes them.
use Rattle.std.proofs.Common.{Bool, List, ap, arith, drop, length, length-drop, sym, take, true, ℕ, ◌&&◌}
use Rattle.std.proofs.Common.{◌++◌, ◌-◌, ◌∙◌, ◌≡◌, ◌≤◌, ◌||◌}
use Rattle.std.specs.Prelude.{nat_le, reverse}
use Rattle.std.proofs.Math.Seq.{drop-append_seam}
use Rattle.std.proofs.lemmas.Bool.{le-leb}
use Rattle.std.proofs.lemmas.List.{length-reverse, reverse-append, take-append-drop}
use Rattle.nvme_model.specs.declared.config.ConfigNumbers.{ConfigNumbers}
use Rattle.trace.specs.declared.options.TraceOptions.{TraceOptions}
use Rattle.trace.specs.declared.seen.Seen.{Seen}
use Rattle.refutation.specs.Refutations.{Refutation}
use Rattle.refutation.specs.ReadRules.{is_bad_read_line}
use Rattle.refutation.specs.Refuted.{first_lines, is_refuted, lacks_order}

pub first_reversed : (xs : List Seen) (n : ℕ) → reverse (take n xs) ≡ first_lines n (reverse xs)
first_reversed xs n =
    let whole : reverse xs ≡ reverse (drop n xs) ++ reverse (take n xs) =
    ap reverse (sym (take-append-drop n xs)) ∙ reverse-append (take n xs) (drop n xs) in
    let many : length (reverse xs) - n ≡ length (reverse (drop n xs)) =
    omega (arith, length-reverse xs, length-reverse (drop n xs), length-drop n xs) in
    sym (ap (λ k. drop k (reverse xs)) many ∙ ap (drop (length (reverse (drop n xs)))) whole
    ∙ drop-append_seam (reverse (drop n xs)) (reverse (take n xs)))

-- Where a trace has so many lines, these alone are asked.
pub refuted_by_first : (o : TraceOptions) (c : ConfigNumbers) (xs first : List Seen) (n : ℕ) (r : Refutation)
    → (n ≤ length xs) × (first ≡ take n xs) → n ≡ r.lines
    → (is_bad_read_line o c (reverse first) || lacks_order o c (reverse first) r.commands r.blocks)
    ≡ is_refuted o c (reverse xs) r.lines r.commands r.blocks
refuted_by_first o c xs first n r has is =
    let asked = λ (trace : List Seen). is_bad_read_line o c trace || lacks_order o c trace r.commands r.blocks in
    let long = has.0 in
    let there : nat_le r.lines (length (reverse xs)) ≡ true = le-leb _ _ (omega (arith, length-reverse xs)) in
    let same : reverse first ≡ first_lines r.lines (reverse xs) =
    ap reverse (has.1 ∙ ap (λ k. take k xs) is) ∙ first_reversed xs r.lines in
    ap asked same ∙ ap (λ (enough : Bool). enough && asked (first_lines r.lines (reverse xs))) (sym there)
