-- A piece of a history some of whose entries were forgotten.
use Rattle.std.proofs.Common.{List, [], ap, arith, cond, drop, map, reverse, subst, suc, sym, zero, ℕ}
use Rattle.std.proofs.Common.{◌+◌, ◌<◌, ◌∙◌, ◌∷◌, ◌≡◌}
use Rattle.std.proofs.lemmas.Bool.{eq-eqb, ne_eqb}
use Rattle.std.proofs.lemmas.List.{drop-drop, drop-map}
use Rattle.nvme_model.specs.declared.config.ConfigNumbers.{ConfigNumbers}
use Rattle.nvme_model.specs.declared.entry.Entry.{Entry}
use Rattle.history.specs.ConfigLine.{config_line}
use Rattle.history.specs.Lines.{entry_line}
use Rattle.history.specs.Texts.{history_lines}
use Rattle.controller_interface.specs.State.{ControllerState}
use Rattle.c_handles.specs.Pieces.{IsPiece, lines_from, lines_told}
use Rattle.c_handles.specs.declared.pieces.Piece.{Piece}

-- where nothing was forgotten all lines are told
whole_lines : (s : ControllerState) (from : ℕ) → s.forgotten ≡ 0
    → drop from (history_lines s.config (drop s.forgotten (reverse s.past))) ≡ lines_told s from
whole_lines s zero bare =
    ap (λ (n : ℕ). history_lines s.config (drop n (reverse s.past))) bare
    ∙ sym (ap (λ b. cond b (lines_from s 0) (config_line s.config ∷ [])) (eq-eqb s.forgotten 0 bare))
whole_lines s (suc m) bare = ap (λ (n : ℕ). drop m (map entry_line (drop n (reverse s.past)))) bare

-- the lines of what is kept are those of the whole, so many places later
kept_lines : (s : ControllerState) (from behind : ℕ) → behind + s.forgotten ≡ from → 0 < behind
    → drop behind (history_lines s.config (drop s.forgotten (reverse s.past))) ≡ lines_told s from
kept_lines s from zero is some = absurd (omega (arith, some))
kept_lines s zero (suc k) is some = absurd (omega (arith, is))
kept_lines s (suc m) (suc k) is some =
    let at : s.forgotten + k ≡ m = omega (arith, is) in
    drop-map entry_line k (drop s.forgotten (reverse s.past))
    ∙ ap (map entry_line) (drop-drop k s.forgotten (reverse s.past))
    ∙ sym (drop-map entry_line (s.forgotten + k) (reverse s.past))
    ∙ ap (λ (n : ℕ). drop n (map entry_line (reverse s.past))) at

-- the same lines, so many places later
later : (lines : List (List ℕ)) (from from' by room : ℕ) (p q : Piece) → IsPiece lines from room p
    → q ≡ record p { next = p.next + by } → from + by ≡ from' → IsPiece lines from' room q
later lines from from' by room p q h is at =
    subst (IsPiece lines from' room) (sym is) (record {
      count = h.count;
      there = h.there;
      next = omega (arith, h.next, at);
      fit = h.fit;
      fits = h.fits;
      within = h.within;
      begins = h.begins;
      ends = h.ends;
    })

-- a piece of a history of which nothing was forgotten is one of what is told
pub whole_piece : (s : ControllerState) (c : ConfigNumbers) (es : List Entry) (from room : ℕ) (p : Piece)
    → c ≡ s.config → es ≡ drop s.forgotten (reverse s.past) → s.forgotten ≡ 0
    → IsPiece (drop from (history_lines c es)) from room p → IsPiece (lines_told s from) from room p
whole_piece s c es from room p same are bare h =
    subst (λ (ls : List (List ℕ)). IsPiece ls from room p)
    ((λ i. drop from (history_lines (same i) (are i))) ∙ whole_lines s from bare) h

-- so is a piece of what is kept
pub kept_piece : (s : ControllerState) (c : ConfigNumbers) (es : List Entry) (from behind room : ℕ) (p q : Piece)
    → c ≡ s.config → es ≡ drop s.forgotten (reverse s.past) → behind + s.forgotten ≡ from → 0 < behind
    → IsPiece (drop behind (history_lines c es)) behind room p → q ≡ record p { next = p.next + s.forgotten }
    → IsPiece (lines_told s from) from room q
kept_piece s c es from behind room p q same are is some h moved =
    later (lines_told s from) behind from s.forgotten room p q
    (subst (λ (ls : List (List ℕ)). IsPiece ls behind room p)
    ((λ i. drop behind (history_lines (same i) (are i))) ∙ kept_lines s from behind is some) h) moved is

-- and so is the configuration's line alone, where the entry behind it was forgotten
pub first_line : (s : ControllerState) (c : ConfigNumbers) (from room : ℕ) (p : Piece) → c ≡ s.config → from ≡ 0
    → 0 < s.forgotten → IsPiece (history_lines c []) 0 room p → IsPiece (lines_told s from) from room p
first_line s c zero room p same none some h =
    subst (λ (ls : List (List ℕ)). IsPiece ls 0 room p)
    (ap (λ (d : ConfigNumbers). config_line d ∷ []) same
    ∙ sym (ap (λ b. cond b (lines_from s 0) (config_line s.config ∷ []))
    (ne_eqb s.forgotten 0 (λ (e : s.forgotten ≡ 0). omega (arith, e, some))))) h
first_line s c (suc n) room p same none some h = absurd (omega (arith, none))
