-- Lines as a text, one by one.
use Rattle.std.proofs.Common.{List, Option, [], append-nil, append_assoc, ap, drop, get_or, length, refl, subst}
use Rattle.std.proofs.Common.{sym, ℕ, ◌+◌, ◌++◌, ◌<◌, ◌∙◌, ◌∷◌, ◌≡◌, ◌≤◌}
use Rattle.std.proofs.lemmas.List.{drop_all, drop_more}
use Rattle.std.proofs.KnownBytes.{Appends-trans}
use Rattle.std.specs.Io.KnownBytes.{Appends}
use Rattle.line_text.proofs.Feeds.{feeds_none}
use Rattle.history.proofs.LinesOut.{feeds_next}
use Rattle.line_text.specs.Known.{AppendsFront}
use Rattle.line_text.specs.Lines.{with_feeds}
use Rattle.line_text.proofs.Known.{front_at}

-- some lines are written, those from place k on are not
pub record Printed (lines : List (List ℕ)) (k : ℕ) (old new : Option (List ℕ)) : Type 0 where
  pub done : List ℕ
  pub whole : with_feeds lines ≡ done ++ with_feeds (drop k lines)
  pub written : Appends old new done

-- the line at place k, and those behind it
rest_next : (lines : List (List ℕ)) (k : ℕ) (e : List ℕ) → k < length lines → e ≡ get_or lines k e
    → with_feeds (drop k lines) ≡ (e ++ 10 ∷ []) ++ with_feeds (drop (k + 1) lines)
rest_next lines k e low at =
    ap with_feeds (drop_more lines k e low ∙ ap (λ (x : List ℕ). x ∷ drop (k + 1) lines) (sym at))
    ∙ feeds_next e (drop (k + 1) lines)

module _ (lines : List (List ℕ)) (k : ℕ) (old mid new : Option (List ℕ)) (e : List ℕ)
    (p : Printed lines k old mid) (low : k < length lines) (at : e ≡ get_or lines k e) where
  behind : with_feeds lines ≡ p.done ++ ((e ++ 10 ∷ []) ++ with_feeds (drop (k + 1) lines))
  behind = p.whole ∙ ap (λ l. p.done ++ l) (rest_next lines k e low at)

  pub printed_next : Appends mid new (e ++ 10 ∷ []) → Printed lines (k + 1) old new
  printed_next h =
      record {
        done = p.done ++ (e ++ 10 ∷ []);
        whole = behind ∙ sym (append_assoc p.done (e ++ 10 ∷ []) (with_feeds (drop (k + 1) lines)));
        written = Appends-trans old mid new p.done (e ++ 10 ∷ []) p.written h;
      }

  pub printed_stopped : AppendsFront mid new (e ++ 10 ∷ []) → AppendsFront old new (with_feeds lines)
  printed_stopped h = front_at old mid new p.done (e ++ 10 ∷ [])
      (with_feeds (drop (k + 1) lines)) (with_feeds lines) behind p.written h

pub printed_all : (lines : List (List ℕ)) (k : ℕ) (old new : Option (List ℕ)) → length lines ≤ k
    → Printed lines k old new → Appends old new (with_feeds lines)
printed_all lines k old new high p =
    let none : with_feeds (drop k lines) ≡ [] = ap with_feeds (drop_all k lines high) ∙ feeds_none in
    subst (λ (t : List ℕ). Appends old new t) (sym (p.whole ∙ ap (λ l. p.done ++ l) none ∙ append-nil p.done)) p.written

-- nothing is written yet
pub printed_none : (lines : List (List ℕ)) (old : Option (List ℕ)) → Appends old old [] → Printed lines 0 old old
printed_none lines old h = record { done = []; whole = refl; written = h }
