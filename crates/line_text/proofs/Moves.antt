-- Steps of a reader of lines.
use Rattle.std.proofs.Common.{◌≡◌, ℕ, List, [], ◌∷◌, ◌++◌, sym, ap, ◌∙◌, append_assoc, append-nil}
use Rattle.std.specs.Prelude.{Option}
use Rattle.std.specs.Io.KnownBytes.{Consumes, Keeps}
use Rattle.std.proofs.KnownBytes.{Consumes-trans, Consumes-kept}
use Rattle.line_text.specs.Lines.{NoFeed, GivesBytes}

-- two lists without a line feed have none when joined
pub no_feed_append : (xs ys : List ℕ) → NoFeed xs → NoFeed ys → NoFeed (xs ++ ys)
no_feed_append [] ys p q = q
no_feed_append (x ∷ xs) ys p q = (p.0, no_feed_append xs ys p.1 q)

-- the piece that a line feed ends makes the line whole
pub gives_feed : (a b : Option (List ℕ)) (before mid after line piece : List ℕ) → GivesBytes a b before mid line
    → mid ≡ piece ++ 10 ∷ after → GivesBytes a b before after ((line ++ piece) ++ 10 ∷ [])
gives_feed a b before mid after line piece g e =
    record {
      bytes = g.bytes;
      consumed = g.consumed;
      moved = g.moved ∙ ap (λ l. line ++ l) e ∙ sym (append_assoc line piece (10 ∷ after))
          ∙ sym (append_assoc (line ++ piece) (10 ∷ []) after);
    }

-- all that was held goes to the line
pub gives_all : (a b : Option (List ℕ)) (before mid after line piece : List ℕ) → GivesBytes a b before mid line
    → mid ≡ piece
    → after ≡ [] → GivesBytes a b before after (line ++ piece)
gives_all a b before mid after line piece g e none =
    record {
      bytes = g.bytes;
      consumed = g.consumed;
      moved = g.moved ∙ ap (λ l. line ++ l) e ∙ sym (append-nil (line ++ piece))
          ∙ ap (λ l. (line ++ piece) ++ l) (sym none);
    }

-- then more is read
pub gives_read : (a b c : Option (List ℕ)) (before line new held : List ℕ) → GivesBytes a b before held line → held ≡ []
    → Consumes b c new → GivesBytes a c before new line
gives_read a b c before line new held g none q =
    record {
      bytes = g.bytes ++ new;
      consumed = Consumes-trans a b c g.bytes new g.consumed q;
      moved = sym (append_assoc before g.bytes new)
          ∙ ap (λ l. l ++ new) (g.moved ∙ ap (λ l. line ++ l) none ∙ append-nil line);
    }

-- or nothing is
pub gives_kept : (a b c : Option (List ℕ)) (before line new held : List ℕ) → GivesBytes a b before held line → held ≡ []
    → new ≡ [] → Keeps b c → GivesBytes a c before new line
gives_kept a b c before line new held g none none' q =
    record {
      bytes = g.bytes;
      consumed = Consumes-kept a b c g.bytes g.consumed q;
      moved = g.moved ∙ ap (λ l. line ++ l) (none ∙ sym none');
    }
