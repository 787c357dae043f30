-- A text of lines behind a configuration line, printed line by line.
use Rattle.std.proofs.Common.{All, List, Option, [], append-nil, append_assoc, ap, arith, drop, get_or}
use Rattle.std.proofs.Common.{length, map, slice_index_or, subst, sym, ℕ, ◌+◌, ◌++◌, ◌<◌, ◌∙◌, ◌∷◌, ◌≡◌, ◌≤◌}
use Rattle.std.proofs.lemmas.List.{drop_all, drop_more, get_or_default}
use borrow.Author.Count.{below_more}
use Rattle.std.proofs.KnownBytes.{Appends-trans}
use Rattle.std.specs.Io.KnownBytes.{Appends}
use Rattle.line_text.proofs.Feeds.{feeds_none}
use Rattle.line_text.specs.Known.{AppendsFront}
use Rattle.line_text.specs.Lines.{with_feeds}
use Rattle.line_text.proofs.Known.{front_at, front_first}
use Rattle.nvme_model.specs.declared.config.ConfigNumbers.{ConfigNumbers}
use Rattle.history.specs.ConfigLine.{config_line}

pub feeds_next : (line : List ℕ) (lines : List (List ℕ))
    → with_feeds (line ∷ lines) ≡ (line ++ 10 ∷ []) ++ with_feeds lines
unfolding with_feeds
feeds_next line lines = sym (append_assoc line (10 ∷ []) (with_feeds lines))

-- Things that have a line each, of which something holds where it is written.
module _ {E : Type 0} (line_of : E → List ℕ) (Holds : E → Type 0) where
  -- the configuration line, and the line of each
  abbrev pub text_of : ConfigNumbers → List E → List ℕ
  text_of c of = with_feeds (config_line c ∷ map line_of of)

  -- some lines are written, those from place k on are not, and of what is written it holds
  pub record Printed (c : ConfigNumbers) (of : List E) (k : ℕ) (old new : Option (List ℕ)) : Type 0 where
    pub done : List ℕ
    pub whole : text_of c of ≡ done ++ with_feeds (map line_of (drop k of))
    pub written : Appends old new done
    pub holds : (j : ℕ) → j < k → (d : E) → Holds (slice_index_or of j d)

  -- after the configuration line
  pub printed_none : (c : ConfigNumbers) (of : List E) (old new : Option (List ℕ))
      → Appends old new (config_line c ++ 10 ∷ []) → Printed c of 0 old new
  printed_none c of old new h =
      record {
        done = config_line c ++ 10 ∷ [];
        whole = feeds_next (config_line c) (map line_of of);
        written = h;
        holds = λ j low. absurd (omega (arith, low));
      }

  pub config_stopped : (c : ConfigNumbers) (of : List E) (old new : Option (List ℕ))
      → AppendsFront old new (config_line c ++ 10 ∷ []) → AppendsFront old new (text_of c of)
  config_stopped c of old new h =
      subst (λ (t : List ℕ). AppendsFront old new t) (sym (feeds_next (config_line c) (map line_of of)))
      (front_first old new (config_line c ++ 10 ∷ []) (with_feeds (map line_of of)) h)

  -- the line at place k, and those behind it
  rest_next : (of : List E) (k : ℕ) (e : E) → k < length of → e ≡ get_or of k e
      → with_feeds (map line_of (drop k of)) ≡ (line_of e ++ 10 ∷ []) ++ with_feeds (map line_of (drop (k + 1) of))
  rest_next of k e low at =
      ap (λ (es : List E). with_feeds (map line_of es))
      (drop_more of k e low ∙ ap (λ (x : E). x ∷ drop (k + 1) of) (sym at))
      ∙ feeds_next (line_of e) (map line_of (drop (k + 1) of))

  module _ (c : ConfigNumbers) (of : List E) (k : ℕ) (old mid new : Option (List ℕ)) (e : E)
      (p : Printed c of k old mid) (low : k < length of) (at : e ≡ get_or of k e) where
    behind : text_of c of ≡ p.done ++ ((line_of e ++ 10 ∷ []) ++ with_feeds (map line_of (drop (k + 1) of)))
    behind = p.whole ∙ ap (λ l. p.done ++ l) (rest_next of k e low at)

    pub printed_next : Holds e → Appends mid new (line_of e ++ 10 ∷ []) → Printed c of (k + 1) old new
    printed_next line h =
        record {
          holds = below_more (λ (j : ℕ). (d : E) → Holds (slice_index_or of j d)) k p.holds
              (λ d. subst Holds (at ∙ get_or_default of k e d low) line);
          done = p.done ++ (line_of e ++ 10 ∷ []);
          whole = behind ∙ sym (append_assoc p.done (line_of e ++ 10 ∷ [])
              (with_feeds (map line_of (drop (k + 1) of))));
          written = Appends-trans old mid new p.done (line_of e ++ 10 ∷ []) p.written h;
        }

    pub printed_stopped : AppendsFront mid new (line_of e ++ 10 ∷ []) → AppendsFront old new (text_of c of)
    printed_stopped h = front_at old mid new p.done (line_of e ++ 10 ∷ [])
        (with_feeds (map line_of (drop (k + 1) of))) (text_of c of) behind p.written h

  pub printed_lines : (c : ConfigNumbers) (of : List E) (k : ℕ) (old new : Option (List ℕ)) → length of ≤ k
      → Printed c of k old new → All Holds of
  printed_lines c of k old new high p = λ j d low. p.holds j (omega (arith, low, high)) d

  pub printed_all : (c : ConfigNumbers) (of : List E) (k : ℕ) (old new : Option (List ℕ)) → length of ≤ k
      → Printed c of k old new → Appends old new (text_of c of)
  printed_all c of k old new high p =
      let none : with_feeds (map line_of (drop k of)) ≡ [] =
      ap (λ (es : List E). with_feeds (map line_of es)) (drop_all k of high) ∙ feeds_none in
      subst (λ (t : List ℕ). Appends old new t) (sym (p.whole ∙ ap (λ l. p.done ++ l) none ∙ append-nil p.done))
      p.written
