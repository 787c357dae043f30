-- The lines of an input, and how a caller of `next_line` walks them.
use Rattle.std.proofs.Common.{◌≡◌, ◌≢◌, ℕ, Bool, true, false, cond, List, [], ◌∷◌, ◌++◌, refl, sym, ap, ◌∙◌}
use Rattle.std.proofs.Common.{append_assoc, append-nil}
use Rattle.std.specs.Prelude.{Option}
use Rattle.std.specs.List.{AllByRecursion}
use Rattle.std.proofs.Math.Dec.{eqb}
use Rattle.std.proofs.lemmas.Bool.{eqb-true, eqb-false}
use Rattle.line_text.specs.Lines.{NoFeed, lines_after, rest_after, whole_lines, rest_line, with_feeds, GivesBytes}

-- a byte that is no line feed
not_feed : (b : Bool) (x : ℕ) → eqb x 10 ≡ b → x ≢ 10 → b ≡ false
not_feed true x e h = absurd (h (eqb-true x 10 e))
not_feed false x e h = refl

-- ---- a line in front

-- a line behind `front` ends at its line feed
lines_of_line : (front line bs : List ℕ) → NoFeed line
    → lines_after front ((line ++ 10 ∷ []) ++ bs) ≡ (front ++ line) ∷ lines_after [] bs
unfolding lines_after
lines_of_line front [] bs h = ap (λ l. l ∷ lines_after [] bs) (sym (append-nil front))
lines_of_line front (x ∷ xs) bs h =
    rw (not_feed (eqb x 10) x refl h.0)
    (lines_of_line (front ++ x ∷ []) xs bs h.1 ∙ ap (λ l. l ∷ lines_after [] bs) (append_assoc front (x ∷ []) xs))

-- and what is behind it begins anew
rest_of_line : (front line bs : List ℕ) → NoFeed line → rest_after front ((line ++ 10 ∷ []) ++ bs) ≡ rest_after [] bs
unfolding rest_after
rest_of_line front [] bs h = refl
rest_of_line front (x ∷ xs) bs h = rw (not_feed (eqb x 10) x refl h.0) (rest_of_line (front ++ x ∷ []) xs bs h.1)

-- without a line feed no line ends
lines_of_rest : (front line : List ℕ) → NoFeed line → lines_after front line ≡ []
unfolding lines_after
lines_of_rest front [] h = refl
lines_of_rest front (x ∷ xs) h = rw (not_feed (eqb x 10) x refl h.0) (lines_of_rest (front ++ x ∷ []) xs h.1)

-- and all is the rest
rest_of_rest : (front line : List ℕ) → NoFeed line → rest_after front line ≡ front ++ line
unfolding rest_after
rest_of_rest front [] h = sym (append-nil front)
rest_of_rest front (x ∷ xs) h =
    rw (not_feed (eqb x 10) x refl h.0) (rest_of_rest (front ++ x ∷ []) xs h.1 ∙ append_assoc front (x ∷ []) xs)

-- a line and its line feed in front of an input are its first line
pub whole_lines-line : (line input : List ℕ) → NoFeed line
    → whole_lines ((line ++ 10 ∷ []) ++ input) ≡ line ∷ whole_lines input
whole_lines-line line input h = lines_of_line [] line input h

-- they change nothing of what stands behind the last line feed
pub rest_line-line : (line input : List ℕ) → NoFeed line → rest_line ((line ++ 10 ∷ []) ++ input) ≡ rest_line input
rest_line-line line input h = rest_of_line [] line input h

-- an input with no line feed has no whole line
pub whole_lines-rest : (rest : List ℕ) → NoFeed rest → whole_lines rest ≡ []
whole_lines-rest rest h = lines_of_rest [] rest h

-- all of it is the rest
pub rest_line-rest : (rest : List ℕ) → NoFeed rest → rest_line rest ≡ rest
rest_line-rest rest h = rest_of_rest [] rest h

-- ---- the answers of `next_line`

-- a whole line is the first of what was held, then read, and then may follow
pub whole_is_first : (old new : Option (List ℕ)) (before after line more : List ℕ)
    (g : GivesBytes old new before after (line ++ 10 ∷ [])) → NoFeed line
    → (whole_lines (before ++ (g.bytes ++ more)) ≡ line ∷ whole_lines (after ++ more))
    × (rest_line (before ++ (g.bytes ++ more)) ≡ rest_line (after ++ more))
whole_is_first old new before after line more g plain =
    let all : before ++ (g.bytes ++ more) ≡ (line ++ 10 ∷ []) ++ (after ++ more) =
    sym (append_assoc before g.bytes more) ∙ ap (λ l. l ++ more) g.moved
    ∙ append_assoc (line ++ 10 ∷ []) after more in (
      ap whole_lines all ∙ whole_lines-line line (after ++ more) plain,
      ap rest_line all
          ∙ rest_line-line line (after ++ more) plain,
    )

-- the rest is all of what was held and then read, and has no line feed
pub rest_is_last : (old new : Option (List ℕ)) (before after line : List ℕ) (g : GivesBytes old new before after line)
    → NoFeed line → after ≡ []
    → (whole_lines (before ++ g.bytes) ≡ []) × (rest_line (before ++ g.bytes) ≡ line)
rest_is_last old new before after line g plain none =
    let all : before ++ g.bytes ≡ line = g.moved ∙ ap (λ l. line ++ l) none ∙ append-nil line in
    (ap whole_lines all ∙ whole_lines-rest line plain, ap rest_line all ∙ rest_line-rest line plain)

-- ---- lines and input are one another's

-- the lines and the rest of `front` and an input join to both
joined_from : (front input : List ℕ) → with_feeds (lines_after front input) ++ rest_after front input ≡ front ++ input
unfolding lines_after rest_after with_feeds
joined_from front [] = sym (append-nil front)
joined_from front (b ∷ bs) = by_feed (eqb b 10) refl (λ begun. joined_from begun bs)
  where
    by_feed : (t : Bool) → eqb b 10 ≡ t
        → ((begun : List ℕ) → with_feeds (lines_after begun bs) ++ rest_after begun bs ≡ begun ++ bs)
        → with_feeds (cond t (front ∷ lines_after [] bs) (lines_after (front ++ b ∷ []) bs))
        ++ cond t (rest_after [] bs) (rest_after (front ++ b ∷ []) bs) ≡ front ++ (b ∷ bs)
    by_feed true e others =
        append_assoc front (10 ∷ with_feeds (lines_after [] bs)) (rest_after [] bs)
        ∙ ap (λ l. front ++ (10 ∷ l)) (others [])
        ∙ ap (λ c. front ++ (c ∷ bs)) (sym (eqb-true b 10 e))
    by_feed false e others = others (front ++ b ∷ []) ∙ append_assoc front (b ∷ []) bs

-- an input is its whole lines, each with its line feed, and then the rest
pub lines_joined : (input : List ℕ) → with_feeds (whole_lines input) ++ rest_line input ≡ input
lines_joined input = joined_from [] input

-- one more byte that is no line feed
no_feed_behind : (front : List ℕ) (b : ℕ) → NoFeed front → b ≢ 10 → NoFeed (front ++ b ∷ [])
no_feed_behind [] b h other = (other, tt)
no_feed_behind (x ∷ xs) b h other = (h.0, no_feed_behind xs b h.1 other)

-- lines and rest have no line feed
plain_from : (front input : List ℕ) → NoFeed front
    → AllByRecursion NoFeed (lines_after front input) × NoFeed (rest_after front input)
unfolding lines_after rest_after
plain_from front [] h = (tt, h)
plain_from front (b ∷ bs) h = by_feed (eqb b 10) refl (λ begun. plain_from begun bs)
  where
    by_feed : (t : Bool) → eqb b 10 ≡ t
        → ((begun : List ℕ) → NoFeed begun
        → AllByRecursion NoFeed (lines_after begun bs) × NoFeed (rest_after begun bs))
        → AllByRecursion NoFeed (cond t (front ∷ lines_after [] bs) (lines_after (front ++ b ∷ []) bs))
        × NoFeed (cond t (rest_after [] bs) (rest_after (front ++ b ∷ []) bs))
    by_feed true e others = ((h, (others [] tt).0), (others [] tt).1)
    by_feed false e others = others (front ++ b ∷ []) (no_feed_behind front b h (eqb-false b 10 e))

-- none of these has a line feed in it
pub lines_plain : (input : List ℕ) → AllByRecursion NoFeed (whole_lines input) × NoFeed (rest_line input)
lines_plain input = plain_from [] input tt

-- and lines without line feeds are the lines of what they are joined to
pub lines_again : (lines : List (List ℕ)) (rest : List ℕ) → AllByRecursion NoFeed lines → NoFeed rest
    → (whole_lines (with_feeds lines ++ rest) ≡ lines) × (rest_line (with_feeds lines ++ rest) ≡ rest)
unfolding with_feeds
lines_again [] rest p q = (whole_lines-rest rest q, rest_line-rest rest q)
lines_again (line ∷ lines) rest p q =
    let others = lines_again lines rest p.1 q in
    let all : (line ++ (10 ∷ with_feeds lines)) ++ rest ≡ (line ++ 10 ∷ []) ++ (with_feeds lines ++ rest) =
    append_assoc line (10 ∷ with_feeds lines) rest ∙ sym (append_assoc line (10 ∷ []) (with_feeds lines ++ rest)) in (
      ap whole_lines all ∙ whole_lines-line line (with_feeds lines ++ rest) p.0 ∙ ap (λ l. line ∷ l) others.0,
      ap rest_line all ∙ rest_line-line line (with_feeds lines ++ rest) p.0 ∙ others.1,
    )
