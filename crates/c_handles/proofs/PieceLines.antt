-- Lines that are added one after the other.
use Rattle.std.proofs.Common.{List, None, Some, [], add-one, ap, append_assoc, arith, drop, get_or, inl, inr, length}
use Rattle.std.proofs.Common.{refl, subst, suc, sym, take, zero, ℕ, ◌+◌, ◌++◌, ◌-◌, ◌<◌, ◌∙◌, ◌∷◌, ◌≡◌, ◌≤◌}
use Rattle.std.proofs.Math.Seq.{take-append_seam, take-length}
use Rattle.std.proofs.lemmas.List.{length-append, length-drop, length-map, take_all}
use Rattle.std.proofs.lemmas.Option.{slice_get-map, slice_get_read, slice_get_within}
use Rattle.std.specs.Prelude.{option_map, slice_get}
use Rattle.line_text.specs.Lines.{with_feeds}
use Rattle.nvme_model.specs.declared.config.ConfigNumbers.{ConfigNumbers}
use Rattle.nvme_model.specs.declared.entry.Entry.{Entry}
use Rattle.history.specs.Lines.{entry_line}
use Rattle.history.specs.Texts.{history_lines}
use Rattle.c_handles.specs.Pieces.{AddsLine, IsPiece, text_of_first}
use Rattle.c_handles.specs.declared.pieces.Piece.{Piece}

-- one line more
next_feeds : (lines : List (List ℕ)) (n : ℕ) (line : List ℕ) → slice_get lines n ≡ Some line
    → with_feeds (take (suc n) lines) ≡ with_feeds (take n lines) ++ (line ++ 10 ∷ [])
unfolding with_feeds
next_feeds [] n line h = absurd (let e : None ≡ Some line = h in cc)
next_feeds (x ∷ xs) zero line h =
    let same : Some x ≡ Some line = h in
    let e : x ≡ line = cc in ap (λ (l : List ℕ). l ++ 10 ∷ []) e
next_feeds (x ∷ xs) (suc n) line h =
    let before : with_feeds (take (suc n) xs) ≡ with_feeds (take n xs) ++ (line ++ 10 ∷ []) = next_feeds xs n line h in
    ap (λ (l : List ℕ). x ++ 10 ∷ l) before
    ∙ sym (append_assoc x (10 ∷ with_feeds (take n xs)) (line ++ 10 ∷ []))

text_of_one_more : (lines : List (List ℕ)) (n : ℕ) (line : List ℕ) → slice_get lines n ≡ Some line
    → text_of_first (n + 1) lines ≡ text_of_first n lines ++ (line ++ 10 ∷ [])
text_of_one_more lines n line h = rw add-one (next_feeds lines n line h)

-- a line behind those that are left out
behind : (lines : List (List ℕ)) (from n : ℕ) → slice_get (drop from lines) n ≡ slice_get lines (from + n)
behind lines zero n = let e : n ≡ 0 + n = omega arith in ap (λ (k : ℕ). slice_get lines k) e
behind [] (suc from) n = refl
behind (x ∷ xs) (suc from) n =
    let e : suc (from + n) ≡ suc from + n = omega arith in
    behind xs from n ∙ ap (λ (k : ℕ). slice_get (x ∷ xs) k) e

-- how many lines a history has
pub length_of_lines : (c : ConfigNumbers) (es : List Entry) → length (history_lines c es) ≡ length es + 1
length_of_lines c es = rw add-one (ap suc (length-map es entry_line))

-- the line of an entry is the one behind those before it
line_of_entry : (c : ConfigNumbers) (es : List Entry) (place k : ℕ) (e : Entry) → place ≡ k + 1 → k < length es
    → e ≡ get_or es k e → slice_get (history_lines c es) place ≡ Some (entry_line e)
line_of_entry c es place k e at low is =
    rw (at, add-one) (slice_get-map entry_line es k
    ∙ ap (option_map entry_line) (slice_get_read es (length es) k e refl low is))

-- so it is added
pub adds_entry : (c : ConfigNumbers) (es : List Entry) (place k : ℕ) (e : Entry) (old new : List ℕ) → place ≡ k + 1
    → k < length es → e ≡ get_or es k e → new ≡ old ++ (entry_line e ++ 10 ∷ [])
    → AddsLine (history_lines c es) place old new
adds_entry c es place k e old new at low is added =
    record { line = entry_line e; is = line_of_entry c es place k e at low is; added = added }

-- so many of these lines were added, and fit
pub record Reached (lines : List (List ℕ)) (count room : ℕ) (text : List ℕ) : Type 0 where
  pub is : text ≡ text_of_first count lines
  pub fits : length text ≤ room

pub begun : (lines : List (List ℕ)) (from room : ℕ) (text : List ℕ) → text ≡ [] → Reached lines (from - from) room text
unfolding with_feeds
begun lines from room text none =
    let zeroth : from - from ≡ 0 = omega arith in
    let short : length text ≡ 0 = ap length none in
    record { is = none ∙ rw zeroth refl; fits = omega (arith, short) }

module _ (all : List (List ℕ)) (from place room : ℕ) (old new : List ℕ) (after : from ≤ place)
    (a : AddsLine all place old new) (r : Reached (drop from all) (place - from) room old) where
  line_is : slice_get (drop from all) (place - from) ≡ Some a.line
  line_is =
      let at : from + (place - from) ≡ place = omega (arith, after) in
      behind all from (place - from) ∙ ap (λ (k : ℕ). slice_get all k) at ∙ a.is

  there : place - from < length (drop from all)
  there = slice_get_within (drop from all) (place - from) a.line line_is

  grown : new ≡ text_of_first (place - from + 1) (drop from all)
  grown =
      a.added ∙ ap (λ (l : List ℕ). l ++ (a.line ++ 10 ∷ [])) r.is
      ∙ sym (text_of_one_more (drop from all) (place - from) a.line line_is)

  pub reached_next : length new ≤ room → Reached (drop from all) (place + 1 - from) room new
  reached_next h =
      let e : place - from + 1 ≡ place + 1 - from = omega (arith, after) in
      record { is = subst (λ (n : ℕ). new ≡ text_of_first n (drop from all)) e grown; fits = h }

  -- the next line doesn't fit
  pub stopped : (p : Piece) → p.text.items ≡ new → p.fit ≡ length old → p.next ≡ place → room < length new
      → IsPiece (drop from all) from room p
  stopped p text fit next short =
      let low : place - from ≤ length (drop from all) = omega (arith, there) in
      let long : length p.text.items ≡ length old + length (a.line ++ 10 ∷ []) =
      ap length (text ∙ a.added) ∙ length-append old (a.line ++ 10 ∷ []) in
      record {
        count = place - from;
        there = low;
        next = omega (arith, next, after);
        fit = fit ∙ ap length r.is;
        fits = rw fit r.fits;
        within = omega (arith, fit, long);
        begins = ap (λ (n : ℕ). take n p.text.items) fit
            ∙ ap (λ (l : List ℕ). take (length old) l) (text ∙ a.added)
            ∙ take-append_seam old (a.line ++ 10 ∷ []) ∙ r.is;
        ends = inr (there, text ∙ grown, rw text short);
      }

-- no line is left
pub ended : (all : List (List ℕ)) (from place count room : ℕ) (text : List ℕ) → count ≡ length all → count ≤ place
    → Reached (drop from all) (place - from) room text → (p : Piece) → p.text.items ≡ text → p.fit ≡ length text
    → p.next ≡ from + (count - from) → IsPiece (drop from all) from room p
ended all from place count room text of high r p is fit next =
    let many : length (drop from all) ≡ length all - from = length-drop from all in
    let low : length (drop from all) ≤ place - from = omega (arith, many, of, high) in
    let self : length (drop from all) ≤ length (drop from all) = omega arith in
    let whole : take (place - from) (drop from all) ≡ take (length (drop from all)) (drop from all) =
    take_all (place - from) (drop from all) low ∙ sym (take_all (length (drop from all)) (drop from all) self) in
    let same : text ≡ text_of_first (length (drop from all)) (drop from all) =
    r.is ∙ ap (λ (ls : List (List ℕ)). with_feeds ls) whole in
    record {
      count = length (drop from all);
      there = self;
      next = omega (arith, next, many, of);
      fit = fit ∙ ap length same;
      fits = rw fit r.fits;
      within = let long : length p.text.items ≡ length text = ap length is in omega (arith, fit, long);
      begins = ap (λ (n : ℕ). take n p.text.items) fit ∙ ap (λ (l : List ℕ). take (length text) l) is
          ∙ take-length text ∙ same;
      ends = inl (refl, is ∙ same);
    }
