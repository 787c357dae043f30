-- The units of a command that a trace publishes.
use Rattle.std.proofs.Common.{[], get_or, List, None, Option, Some, ap, refl, suc, sym, zero, ℕ, ◌∙◌, ◌∷◌, ◌≡◌}
use Rattle.std.proofs.Common.{Bool, cond, false, nat_le, slice_get, true}
use Rattle.std.proofs.lemmas.Option.{get_or_from_slice_get}
use Rattle.nvme_model.specs.Operations.{is_pair}
use Rattle.nvme_model.specs.declared.array.Range.{Range}
use Rattle.nvme_model.specs.declared.config.ConfigNumbers.{ConfigNumbers}
use Rattle.nvme_model.specs.declared.submission.Submission.{Submission}
use Rattle.trace.specs.declared.seen.Seen.{Seen}
use Rattle.refutation.specs.EffectOrders.{last_entry}
use Rattle.refutation.specs.Lines.{published_in}
use Rattle.refutation.specs.Told.{told_units}
use Rattle.refutation_check.specs.Commands.{entry_op, entry_units, found_last, found_units}

abbrev pub no_command : Submission
no_command = record { entry = []; payload = [] }

-- they are those of its entry
entry_told : (c : ConfigNumbers) (trace : List Seen) (q j : ℕ)
    → told_units c trace q j ≡ entry_units c (get_or (published_in trace q) j no_command)
entry_told c trace q j = refl

pub none_there : (xs : List Submission) (j : ℕ) → slice_get xs j ≡ None → get_or xs j no_command ≡ no_command
none_there [] j e = refl
none_there (x ∷ xs) zero e = absurd (let f : Some x ≡ None = e in cc)
none_there (x ∷ xs) (suc j) e = none_there xs j e

either : (b : Bool) (xs : List Range) → xs ≡ [] → cond b xs [] ≡ []
either true xs e = e
either false xs e = refl

none_of_none : (c : ConfigNumbers) → entry_units c no_command ≡ []
none_of_none c = either (nat_le 1 c.blocks) [] refl

pub told_by_entry : (c : ConfigNumbers) (trace : List Seen) (q j : ℕ) (o : Option Submission)
    → o ≡ slice_get (published_in trace q) j → told_units c trace q j ≡ found_units c o
told_by_entry c trace q j None e =
    entry_told c trace q j
    ∙ (ap (entry_units c) (none_there (published_in trace q) j (sym e)) ∙ none_of_none c)
told_by_entry c trace q j (Some s) e =
    entry_told c trace q j ∙ ap (entry_units c) (get_or_from_slice_get (published_in trace q) j s no_command (sym e))

-- the last entry of a command, by its first
pub last_by_entry : (trace : List Seen) (q j : ℕ) (o : Option Submission) → o ≡ slice_get (published_in trace q) j
    → last_entry trace q j ≡ found_last o j
last_by_entry trace q j None e =
    ap (λ (s : Submission). cond (is_pair (entry_op s)) (suc j) j) (none_there (published_in trace q) j (sym e))
last_by_entry trace q j (Some s) e =
    ap (λ (x : Submission). cond (is_pair (entry_op x)) (suc j) j)
    (get_or_from_slice_get (published_in trace q) j s no_command (sym e))
