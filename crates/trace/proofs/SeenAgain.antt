-- The line of what was seen is read as that.
use Rattle.std.proofs.Common.{◌≡◌, ℕ, List, [], ◌∷◌, None, Some, refl, ap, ◌∙◌, subst, arith}
use Rattle.std.specs.Prelude.{Result, codes, decimal}
use Rattle.std.specs.List.{slice_split, join_with_byte}
use Rattle.std.proofs.Math.Dec.{eqb}
use Rattle.hex.specs.Hex.{encode_upper}
use Rattle.history.specs.declared.line_fault.LineFault.{LineFault}
use Rattle.history.specs.Gives.{GivesRead}
use Rattle.history.specs.Lines.{entry_in, entry_line, entry_words_in, reap_in}
use Rattle.history.proofs.LinesAgain.{cqe_again, entry_again, number_16, payload_again}
use Rattle.line_text.specs.Digits.{bytes_in, fixed_in}
use Rattle.line_text.specs.Data.{data_text, data_in}
use Rattle.line_text.proofs.NumberLaws.{decimal_spaceless}
use Rattle.line_text.proofs.DataLaws.{data_spaceless}
use Rattle.line_text.proofs.WordLaws.{words_again, upper_without}
use Rattle.nvme_model.specs.declared.entry.Entry.{Entry}
use Rattle.trace.specs.declared.seen.ReapedLine.{ReapedLine}
use Rattle.trace.specs.declared.seen.Seen.{Seen}
use Rattle.trace.specs.SeenLines.{HasSeenLine, published_or, reaped_from, reaped_in, reaped_words, seen_in}
use Rattle.trace.specs.SeenLines.{seen_line}

-- the words of a Reap are read as it
reaped_back : (r : ReapedLine) → HasSeenLine (Seen.Reaped r) → reaped_in (reaped_words r) ≡ Some (Seen.Reaped r)
unfolding reaped_in
reaped_back r is =
    ap (λ o. reaped_from o (fixed_in 16 (bytes_in (encode_upper r.cqe))) (data_in 512 (data_text 512 r.payload)))
    (number_16 r.queue is.0)
    ∙ ap (λ o. reaped_from (Some r.queue) o (data_in 512 (data_text 512 r.payload))) (cqe_again r.cqe is.1 is.2)
    ∙ ap (reaped_from (Some r.queue) (Some r.cqe)) (payload_again r.payload is.3)

-- they aren't those of an entry
reaped_no_entry : (r : ReapedLine) → entry_words_in (reaped_words r) ≡ None
unfolding entry_words_in reap_in
reaped_no_entry r = refl

-- its line is split into them
reaped_split : (r : ReapedLine) → HasSeenLine (Seen.Reaped r)
    → slice_split (λ b. eqb b 32) (join_with_byte 32 (reaped_words r)) ≡ reaped_words r
reaped_split r is =
    words_again 32 (codes "reap") (decimal r.queue ∷ encode_upper r.cqe ∷ data_text 512 r.payload ∷ [])
    (refl, (refl, (refl, (refl, tt))))
    (decimal_spaceless r.queue (omega (arith, is.0)), (upper_without 32 r.cqe refl, (data_spaceless 512 r.payload, tt)))

-- the line of what was seen is read as that
pub seen_again : (s : Seen) → HasSeenLine s → seen_in (seen_line s) ≡ Some s
unfolding seen_in seen_line entry_in
seen_again (Seen.Published p) is =
    ap (λ o. published_or o (reaped_in (slice_split (λ b. eqb b 32) (entry_line (Entry.Publish p)))))
    (entry_again (Entry.Publish p) is)
seen_again (Seen.Reaped r) is =
    ap (λ words. published_or (entry_words_in words) (reaped_in words)) (reaped_split r is)
    ∙ ap (λ o. published_or o (reaped_in (reaped_words r))) (reaped_no_entry r)
    ∙ reaped_back r is

-- at the call
pub seen_only : (line : List ℕ) (r : Result Seen LineFault) (s : Seen) → GivesRead r (seen_in line) → HasSeenLine s
    → line ≡ seen_line s → GivesRead r (Some s)
seen_only line r s h is same = subst (GivesRead r) (ap seen_in same ∙ seen_again s is) h
