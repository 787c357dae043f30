-- What is read has the line that was read.
use Rattle.std.proofs.Common.{◌≡◌, ℕ, Bool, true, false, cond, List, [], ◌∷◌, None, Some, refl, sym, ap, ◌∙◌, arith}
use Rattle.std.specs.Prelude.{Option, Result, Ok, Err, IfOk, codes, decimal}
use Rattle.std.specs.List.{slice_split, join_with_byte}
use Rattle.std.specs.Str.{bytes_eq}
use Rattle.std.proofs.Math.Dec.{eqb}
use Rattle.std.proofs.lemmas.List.Splits.{join_with_byte-slice_split}
use Rattle.plain_lemmas.proofs.Lists.{bytes_eq_true}
use Rattle.hex.specs.Hex.{encode_upper}
use Rattle.history.specs.declared.line_fault.LineFault.{LineFault}
use Rattle.history.specs.Gives.{GivesRead}
use Rattle.history.specs.Lines.{entry_in}
use Rattle.history.proofs.LinesRead.{entry_is}
use Rattle.line_text.specs.Number.{number_in}
use Rattle.line_text.specs.Digits.{bytes_in, fixed_in}
use Rattle.line_text.specs.Data.{data_in}
use Rattle.line_text.proofs.NumberLaws.{number_is}
use Rattle.line_text.proofs.HexLaws.{bytes_is, fixed_is}
use Rattle.line_text.proofs.DataLaws.{data_is}
use Rattle.nvme_model.specs.declared.entry.Entry.{Entry}
use Rattle.trace.specs.declared.seen.Seen.{Seen}
use Rattle.trace.specs.SeenLines.{published_or, reaped_from, reaped_in, seen_in, seen_line}

-- the parts of a Reap that is read
reaped_parts : (a : Option ℕ) (b d : Option (List ℕ)) (s : Seen) → reaped_from a b d ≡ Some s
    → (q : ℕ) × (cqe : List ℕ) × (payload : List ℕ) × (a ≡ Some q) × (b ≡ Some cqe) × (d ≡ Some payload)
    × (Seen.Reaped (record { queue = q; cqe = cqe; payload = payload }) ≡ s)
reaped_parts None b d s h = absurd cc
reaped_parts (Some q) None d s h = absurd cc
reaped_parts (Some q) (Some x) None s h = absurd cc
reaped_parts (Some q) (Some x) (Some p) s h = (q, x, p, refl, refl, refl, cc)

-- words that are read are its own
reaped_line_is : (words : List (List ℕ)) (s : Seen) → reaped_in words ≡ Some s → join_with_byte 32 words ≡ seen_line s
unfolding reaped_in seen_line
reaped_line_is [] s h = absurd cc
reaped_line_is (k ∷ []) s h = absurd cc
reaped_line_is (k ∷ q ∷ []) s h = absurd cc
reaped_line_is (k ∷ q ∷ x ∷ []) s h = absurd cc
reaped_line_is (k ∷ q ∷ x ∷ d ∷ []) s h = by (bytes_eq k (codes "reap")) refl h
  where
    by : (b : Bool) → bytes_eq k (codes "reap") ≡ b
        → cond b (reaped_from (number_in 16 q) (fixed_in 16 (bytes_in x)) (data_in 512 d)) None ≡ Some s
        → join_with_byte 32 (k ∷ q ∷ x ∷ d ∷ []) ≡ seen_line s
    by true i h =
        let p = reaped_parts (number_in 16 q) (fixed_in 16 (bytes_in x)) (data_in 512 d) s h in
        ap (λ w. join_with_byte 32 (w ∷ q ∷ x ∷ d ∷ [])) (bytes_eq_true k (codes "reap") i)
        ∙ ap (λ w. join_with_byte 32 (codes "reap" ∷ w ∷ x ∷ d ∷ [])) (number_is 16 p.0 q p.3).0
        ∙ ap (λ w. join_with_byte 32 (codes "reap" ∷ decimal p.0 ∷ w ∷ d ∷ []))
        (bytes_is x p.1 (fixed_is 16 (bytes_in x) p.1 p.4).0)
        ∙ ap (λ w. join_with_byte 32 (codes "reap" ∷ decimal p.0 ∷ encode_upper p.1 ∷ w ∷ []))
        (data_is 512 d p.2 (omega arith) p.5)
        ∙ ap seen_line p.6
    by false i h = absurd cc
reaped_line_is (k ∷ q ∷ x ∷ d ∷ y ∷ words) s h = absurd cc

-- a line that is read is that of what was seen
pub seen_is : (line : List ℕ) (s : Seen) → seen_in line ≡ Some s → line ≡ seen_line s
unfolding seen_in seen_line
seen_is line s h = by (entry_in line) refl h
  where
    other : reaped_in (slice_split (λ b. eqb b 32) line) ≡ Some s → line ≡ seen_line s
    other e = sym (join_with_byte-slice_split 32 line) ∙ reaped_line_is (slice_split (λ b. eqb b 32) line) s e

    by : (o : Option Entry) → entry_in line ≡ o → published_or o (reaped_in (slice_split (λ b. eqb b 32) line)) ≡ Some s
        → line ≡ seen_line s
    by None e h = other h
    by (Some (Entry.Publish p)) e h =
        let same : Seen.Published p ≡ s = cc in
        entry_is line (Entry.Publish p) e ∙ ap seen_line same
    by (Some (Entry.Fetch p)) e h = other h
    by (Some (Entry.Grant p)) e h = other h
    by (Some (Entry.Block p)) e h = other h
    by (Some (Entry.Post p)) e h = other h
    by (Some (Entry.Reap p)) e h = other h

-- at the call
pub seen_found : (line : List ℕ) (r : Result Seen LineFault) → GivesRead r (seen_in line)
    → IfOk r (λ s. line ≡ seen_line s)
seen_found line (Ok s) h = seen_is line s h
seen_found line (Err f) h = tt
