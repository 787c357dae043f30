-- What a piece of a history says of the room that its lines are copied into.
use Rattle.std.proofs.Common.{List, [], ap, arith, drop, inl, inr, length, refl, suc, sym, take, zero, ℕ}
use Rattle.std.proofs.Common.{◌+◌, ◌++◌, ◌<◌, ◌∙◌, ◌∷◌, ◌≡◌, ◌≤◌, ◌≢◌, ◌⊎◌}
use Rattle.std.proofs.lemmas.List.{length-append}
use Rattle.line_text.specs.Lines.{with_feeds}
use Rattle.c_handles.specs.Pieces.{IsPiece, text_of_first}
use Rattle.c_handles.specs.declared.pieces.Piece.{Piece}
use Rattle.vandrexu_c.specs.HistoryLines.{CopiesLines, LacksRoomForLine}

-- each line has its line feed at least
no_bytes : (lines : List (List ℕ)) (n : ℕ) → n ≤ length lines → length (text_of_first n lines) ≡ 0 → n ≡ 0
unfolding with_feeds
no_bytes lines zero low none = refl
no_bytes [] (suc n) low none = absurd (omega (arith, low))
no_bytes (x ∷ xs) (suc n) low none =
    let bytes : length (x ++ (10 ∷ with_feeds (take n xs))) ≡ 0 = none in
    let split : length (x ++ (10 ∷ with_feeds (take n xs))) ≡ length x + length (10 ∷ with_feeds (take n xs)) =
    length-append x (10 ∷ with_feeds (take n xs)) in
    let feed : length (10 ∷ with_feeds (take n xs)) ≡ suc (length (with_feeds (take n xs))) = refl in
    absurd (omega (arith, bytes, split, feed))

zero_or_more : (n : ℕ) → (n ≡ 0) ⊎ (0 < n)
zero_or_more zero = inl refl
zero_or_more (suc n) = inr (omega arith)

-- how a piece ends
abbrev Ends : List (List ℕ) → Piece → ℕ → ℕ → Type 0
Ends lines p room count =
    ((count ≡ length lines) × (p.text.items ≡ text_of_first count lines))
    ⊎ ((count < length lines) × (p.text.items ≡ text_of_first (count + 1) lines) × (room < length p.text.items))

empty : (lines : List (List ℕ)) → 0 ≡ length lines → lines ≡ []
empty [] h = refl
empty (x ∷ xs) h = cc

-- where nothing fits and the text is empty there is no line
no_line : (lines : List (List ℕ)) (p : Piece) (room count : ℕ) → count ≡ 0 → length p.text.items ≡ 0
    → lines ≢ [] → Ends lines p room count → ⊥
no_line lines p room count first bare there (inl e) = there (empty lines (sym first ∙ e.0))
no_line lines p room count first bare there (inr e) = absurd (omega (arith, bare, e.2))

not_empty : (lines : List (List ℕ)) → 0 < length lines → lines ≢ []
not_empty [] h = absurd (omega (arith, h))
not_empty (x ∷ xs) h = λ e. cc

-- where nothing fits and the text isn't empty, it is the first line
lacks_first : (lines : List (List ℕ)) (room : ℕ) (p : Piece) (needed count : ℕ) → count ≡ 0
    → 0 < length p.text.items → needed ≡ length p.text.items → length (text_of_first count lines) ≡ 0
    → Ends lines p room count → LacksRoomForLine lines room needed
lacks_first lines room p needed count first some is none (inl e) =
    let bare : length p.text.items ≡ 0 = ap length e.1 ∙ none in absurd (omega (arith, bare, some))
lacks_first lines room p needed count first some is none (inr e) =
    let text : p.text.items ≡ text_of_first 1 lines =
    e.1 ∙ ap (λ (n : ℕ). text_of_first (n + 1) lines) first in
    record {
      there = not_empty lines (omega (arith, first, e.0));
      needed_is = is ∙ ap length text;
      short = rw is e.2;
    }

-- one line at least fits, where the text has any
some_copied : (lines : List (List ℕ)) (from : ℕ) (p : Piece) (room : ℕ) (h : IsPiece lines from room p)
    → (p.fit ≡ 0 → length p.text.items ≡ 0) → lines ≢ [] → 0 < h.count
unfolding with_feeds
some_copied lines from p room h none there =
    elim (zero_or_more h.count) [
      | inr more ↦ more
      | inl first ↦ absurd (no_line lines p room h.count first
          (none (h.fit ∙ ap (λ (n : ℕ). length (text_of_first n lines)) first)) there h.ends)
    ]

most_copied : (lines : List (List ℕ)) (from : ℕ) (p : Piece) (room : ℕ) (h : IsPiece lines from room p)
    → h.count < length lines → room < length (text_of_first (h.count + 1) lines)
most_copied lines from p room h less =
    elim (h.ends) [
      | inl e ↦ absurd (omega (arith, e.0, less))
      | inr e ↦ rw (sym (ap length e.1)) e.2
    ]

-- the lines that fit are copied, and where none does there is none
pub copies : (lines : List (List ℕ)) (from : ℕ) (p : Piece) (old new : List ℕ) (needed next : ℕ)
    → IsPiece lines from (length old) p → new ≡ take p.fit p.text.items ++ drop p.fit old → needed ≡ p.fit
    → next ≡ p.next → (p.fit ≡ 0 → length p.text.items ≡ 0) → CopiesLines lines from old new needed next
copies lines from p old new needed next h copied count_is next_is none =
    record {
      count = h.count;
      there = h.there;
      next_is = next_is ∙ h.next;
      needed_is = count_is ∙ h.fit;
      fits = rw count_is h.fits;
      copied = copied ∙ ap (λ (t : List ℕ). t ++ drop p.fit old) h.begins
          ∙ ap (λ (n : ℕ). text_of_first h.count lines ++ drop n old) (sym count_is);
      some = some_copied lines from p (length old) h none;
      most = most_copied lines from p (length old) h;
    }

-- not the first line fits
pub lacks : (lines : List (List ℕ)) (from room : ℕ) (p : Piece) (needed : ℕ) → IsPiece lines from room p
    → p.fit ≡ 0 → 0 < length p.text.items → needed ≡ length p.text.items → LacksRoomForLine lines room needed
lacks lines from room p needed h none some is =
    let first : h.count ≡ 0 = no_bytes lines h.count h.there (sym h.fit ∙ none) in
    lacks_first lines room p needed h.count first some is (sym h.fit ∙ none) h.ends
