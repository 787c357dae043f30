-- Lines that are shown, written piece by piece.
use Rattle.std.proofs.Common.{◌≡◌, ℕ, ◌==◌, Bool, true, List, [], ◌∷◌, ◌++◌, sym, ap, ◌∙◌, subst}
use Rattle.std.specs.Prelude.{Option, if◌then◌else◌}
use Rattle.std.specs.Int.RustNames.{bit_and}
use Rattle.std.specs.Io.KnownBytes.{Appends}
use Rattle.std.proofs.KnownBytes.{Appends-trans}
use Rattle.line_text.specs.Known.{AppendsFront}
use Rattle.line_text.proofs.Known.{front_first, front_second}
use Rattle.casdisk_texts.specs.Said.{shown_line}

module _ (kinds kind : ℕ) (line : List ℕ) (b : Bool) (is : b ≡ (bit_and kinds kind == kind)) (yes : b ≡ true) where
  shown_is : shown_line kinds kind line ≡ line ++ 10 ∷ []
  shown_is = ap (λ s. if s then line ++ 10 ∷ [] else []) (sym is ∙ yes)

  -- the line and its line feed were written
  pub shown_whole : (w v u : Option (List ℕ)) → Appends w v line → Appends v u (10 ∷ [])
      → Appends w u (shown_line kinds kind line)
  shown_whole w v u p q = subst (Appends w u) (sym shown_is) (Appends-trans w v u line (10 ∷ []) p q)

  -- a beginning of the line was
  pub shown_begun : (w v : Option (List ℕ)) → AppendsFront w v line → AppendsFront w v (shown_line kinds kind line)
  shown_begun w v h = subst (AppendsFront w v) (sym shown_is) (front_first w v line (10 ∷ []) h)

  -- the line was, and a beginning of its line feed
  pub shown_cut : (w v u : Option (List ℕ)) → Appends w v line → AppendsFront v u (10 ∷ [])
      → AppendsFront w u (shown_line kinds kind line)
  shown_cut w v u p h = subst (AppendsFront w u) (sym shown_is) (front_second w v u line (10 ∷ []) p h)
