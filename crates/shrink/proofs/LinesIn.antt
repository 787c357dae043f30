-- Lines that were read, one by one.
use Rattle.std.proofs.Common.{Bool, List, None, Option, Some, [], append-nil, append_assoc, ap, length, refl, suc, sym}
use Rattle.std.proofs.Common.{eq-eqb, false, true≢false, ℕ, ◌++◌, ◌==◌, ◌∙◌, ◌∷◌, ◌≡◌}
use Rattle.std.proofs.KnownBytes.{Consumes-trans}
use Rattle.std.specs.Prelude.{IfSome}
use Rattle.std.specs.Io.KnownBytes.{IsAtEnd}
use Rattle.line_text.proofs.Feeds.{feeds_none}
use Rattle.line_text.specs.Lines.{GivesBytes, Loses, NoFeed, with_feeds}
use Rattle.shrink.specs.Reading.{IsBadEnd}

-- these lines were read, and these bytes are held
abbrev pub Took : List (List ℕ) → Option (List ℕ) → Option (List ℕ) → List ℕ → Type 0
Took lines None new held = Unit {0}
Took lines (Some xs) None held = ⊥
Took lines (Some xs) (Some ys) held = xs ≡ with_feeds lines ++ (held ++ ys)

-- a line behind others
feeds_more : (xs : List (List ℕ)) (x : List ℕ) → with_feeds (xs ++ x ∷ []) ≡ with_feeds xs ++ (x ++ 10 ∷ [])
unfolding with_feeds
feeds_more [] x = refl
feeds_more (y ∷ ys) x =
    ap (λ l. y ++ (10 ∷ l)) (feeds_more ys x) ∙ sym (append_assoc y (10 ∷ with_feeds ys) (x ++ 10 ∷ []))

-- nothing was read
pub took_none : (old : Option (List ℕ)) → Took [] old old []
took_none None = tt
took_none (Some xs) = ap (λ l. l ++ xs) (sym feeds_none)

-- what is held and then read
moved : (before bytes given after more : List ℕ) → before ++ bytes ≡ given ++ after
    → before ++ (bytes ++ more) ≡ given ++ (after ++ more)
moved before bytes given after more e =
    sym (append_assoc before bytes more) ∙ ap (λ l. l ++ more) e ∙ append_assoc given after more

-- a line was read
pub took_line : (lines : List (List ℕ)) (line : List ℕ) (old mid new : Option (List ℕ)) (before after : List ℕ)
    → Took lines old mid before → GivesBytes mid new before after (line ++ 10 ∷ [])
    → Took (lines ++ line ∷ []) old new after
took_line lines line None mid new before after t g = tt
took_line lines line (Some xs) None new before after t g = absurd t
took_line lines line (Some xs) (Some ys) None before after t g = absurd g.consumed
took_line lines line (Some xs) (Some ys) (Some zs) before after t g =
    t ∙ ap (λ l. with_feeds lines ++ (before ++ l)) g.consumed
    ∙ ap (λ l. with_feeds lines ++ l) (moved before g.bytes (line ++ 10 ∷ []) after zs g.moved)
    ∙ sym (append_assoc (with_feeds lines) (line ++ 10 ∷ []) (after ++ zs))
    ∙ ap (λ l. l ++ (after ++ zs)) (sym (feeds_more lines line))

-- some bytes were read
pub took_loses : (lines : List (List ℕ)) (old new : Option (List ℕ)) (held : List ℕ) → Took lines old new held
    → Loses old new
took_loses lines None new held t = ([], tt)
took_loses lines (Some xs) None held t = absurd t
took_loses lines (Some xs) (Some ys) held t =
    (with_feeds lines ++ held, t ∙ sym (append_assoc (with_feeds lines) held ys))

-- and then some more
pub took_more : (lines : List (List ℕ)) (old mid new : Option (List ℕ)) (before after given : List ℕ)
    → Took lines old mid before → GivesBytes mid new before after given → Loses old new
took_more lines old mid new before after given t g =
    let first = took_loses lines old mid before t in
    (first.0 ++ g.bytes, Consumes-trans old mid new first.0 g.bytes first.1 g.consumed)

-- the end was read behind this
pub took_rest : (lines : List (List ℕ)) (line : List ℕ) (old mid new : Option (List ℕ)) (before after : List ℕ)
    → Took lines old mid before → GivesBytes mid new before after line → after ≡ [] → IsAtEnd new
    → IfSome old (λ bytes. bytes ≡ with_feeds lines ++ line)
took_rest lines line None mid new before after t g end at = tt
took_rest lines line (Some xs) None new before after t g end at = absurd t
took_rest lines line (Some xs) (Some ys) None before after t g end at = absurd g.consumed
took_rest lines line (Some xs) (Some ys) (Some zs) before after t g end at =
    t ∙ ap (λ l. with_feeds lines ++ (before ++ l)) g.consumed
    ∙ ap (λ l. with_feeds lines ++ l) (moved before g.bytes line after zs g.moved)
    ∙ ap (λ l. with_feeds lines ++ (line ++ (l ++ zs))) end
    ∙ ap (λ l. with_feeds lines ++ (line ++ l)) at
    ∙ ap (λ l. with_feeds lines ++ l) (append-nil line)

-- nothing stands behind the last line feed
pub all_ended : (lines : List (List ℕ)) (line : List ℕ) (old : Option (List ℕ))
    → IfSome old (λ bytes. bytes ≡ with_feeds lines ++ line) → line ≡ []
    → IfSome old (λ bytes. bytes ≡ with_feeds lines)
all_ended lines line None e none = tt
all_ended lines line (Some xs) e none = e ∙ ap (λ l. with_feeds lines ++ l) none ∙ append-nil (with_feeds lines)

-- something does
pub bad_end : (lines : List (List ℕ)) (line : List ℕ) (old : Option (List ℕ))
    → IfSome old (λ bytes. bytes ≡ with_feeds lines ++ line) → NoFeed line → (line ≡ [] → ⊥)
    → IfSome old (IsBadEnd (suc (length lines)))
bad_end lines line None e none some = tt
bad_end lines line (Some xs) e none some =
    record { lines = lines; rest = line; is = e; no_feed = none; number = refl; some = λ n. absurd (some n) }

-- a line that isn't empty has a byte
pub some_byte : (n : ℕ) (xs : List ℕ) (b : Bool) → n ≡ length xs → b ≡ (n == 0) → b ≡ false → xs ≡ [] → ⊥
some_byte n xs b l is off e =
    true≢false (sym (eq-eqb n 0 (l ∙ ap (λ (ys : List ℕ). length ys) e)) ∙ sym is ∙ off)

-- there is no line
pub no_line : (lines : List (List ℕ)) (old : Option (List ℕ)) → IfSome old (λ bytes. bytes ≡ with_feeds lines)
    → lines ≡ [] → IfSome old (IsBadEnd 1)
no_line lines None e none = tt
no_line lines (Some xs) e none =
    record {
      lines = [];
      rest = [];
      is = e ∙ ap with_feeds none ∙ sym (append-nil (with_feeds []));
      no_feed = tt;
      number = refl;
      some = λ n. refl;
    }
