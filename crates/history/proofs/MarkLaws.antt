-- The words for modes, findings and marks: what is read is spelled so, and what is spelled so is read.
use Rattle.std.proofs.Common.{◌≡◌, ℕ, Bool, true, false, cond, List, None, Some, refl, ap, ◌∙◌}
use Rattle.std.specs.Prelude.{codes}
use Rattle.std.specs.Str.{bytes_eq}
use Rattle.plain_lemmas.proofs.Lists.{bytes_eq_true}
use Rattle.line_text.specs.Words.{Without}
use Rattle.nvme_model.specs.declared.array.Mode.{Mode}
use Rattle.nvme_model.specs.declared.operation.Found.{Found}
use Rattle.history.specs.Marks.{mode_word, mode_in, found_word, found_in, mark_word, mark_in}

-- a mode that is read is spelled so
pub mode_is : (word : List ℕ) (m : Mode) → mode_in word ≡ Some m → word ≡ mode_word m
mode_is word m h = by (bytes_eq word (codes "r")) (bytes_eq word (codes "w")) refl refl h
  where
    by : (p q : Bool) → bytes_eq word (codes "r") ≡ p → bytes_eq word (codes "w") ≡ q
        → cond p (Some Mode.Shared) (cond q (Some Mode.Exclusive) None) ≡ Some m → word ≡ mode_word m
    by true q x y h = let same : Mode.Shared ≡ m = cc in bytes_eq_true word (codes "r") x ∙ ap mode_word same
    by false true x y h = let same : Mode.Exclusive ≡ m = cc in bytes_eq_true word (codes "w") y ∙ ap mode_word same
    by false false x y h = absurd cc

-- the word of a mode is read as that mode
pub mode_again : (m : Mode) → mode_in (mode_word m) ≡ Some m
mode_again Mode.Shared = refl
mode_again Mode.Exclusive = refl

-- and has no space
pub mode_spaceless : (m : Mode) → Without 32 (mode_word m)
mode_spaceless Mode.Shared = (refl, tt)
mode_spaceless Mode.Exclusive = (refl, tt)

-- what was found, as it is read, is spelled so
pub found_is : (word : List ℕ) (f : Found) → found_in word ≡ Some f → word ≡ found_word f
found_is word f h =
    by (bytes_eq word (codes "read")) (bytes_eq word (codes "equal")) (bytes_eq word (codes "differs"))
    (bytes_eq word (codes "written")) refl refl refl refl h
  where
    by : (p q r s : Bool) → bytes_eq word (codes "read") ≡ p → bytes_eq word (codes "equal") ≡ q
        → bytes_eq word (codes "differs") ≡ r → bytes_eq word (codes "written") ≡ s
        → cond p (Some Found.Read)
        (cond q (Some Found.Equal) (cond r (Some Found.Differs) (cond s (Some Found.Written) None))) ≡ Some f
        → word ≡ found_word f
    by true q r s x y z w h = let same : Found.Read ≡ f = cc in bytes_eq_true word (codes "read") x ∙ ap found_word same
    by false true r s x y z w h = let same : Found.Equal ≡ f = cc in
        bytes_eq_true word (codes "equal") y ∙ ap found_word same
    by false false true s x y z w h = let same : Found.Differs ≡ f = cc in
        bytes_eq_true word (codes "differs") z ∙ ap found_word same
    by false false false true x y z w h = let same : Found.Written ≡ f = cc in
        bytes_eq_true word (codes "written") w ∙ ap found_word same
    by false false false false x y z w h = absurd cc

-- the word of what was found is read as that
pub found_again : (f : Found) → found_in (found_word f) ≡ Some f
found_again Found.Read = refl
found_again Found.Equal = refl
found_again Found.Differs = refl
found_again Found.Written = refl

-- and has no space
pub found_spaceless : (f : Found) → Without 32 (found_word f)
found_spaceless Found.Read = (refl, (refl, (refl, (refl, tt))))
found_spaceless Found.Equal = (refl, (refl, (refl, (refl, (refl, tt)))))
found_spaceless Found.Differs = (refl, (refl, (refl, (refl, (refl, (refl, (refl, tt)))))))
found_spaceless Found.Written = (refl, (refl, (refl, (refl, (refl, (refl, (refl, tt)))))))

-- a mark that is read is spelled so
pub mark_is : (word : List ℕ) (b : Bool) → mark_in word ≡ Some b → word ≡ mark_word b
mark_is word b h = by (bytes_eq word (codes "*")) (bytes_eq word (codes "-")) refl refl h
  where
    by : (p q : Bool) → bytes_eq word (codes "*") ≡ p → bytes_eq word (codes "-") ≡ q
        → cond p (Some true) (cond q (Some false) None) ≡ Some b → word ≡ mark_word b
    by true q x y h = let same : true ≡ b = cc in bytes_eq_true word (codes "*") x ∙ ap mark_word same
    by false true x y h = let same : false ≡ b = cc in bytes_eq_true word (codes "-") y ∙ ap mark_word same
    by false false x y h = absurd cc

-- the word of a mark is read as that mark
pub mark_again : (b : Bool) → mark_in (mark_word b) ≡ Some b
mark_again true = refl
mark_again false = refl

-- and has no space
pub mark_spaceless : (b : Bool) → Without 32 (mark_word b)
mark_spaceless true = (refl, tt)
mark_spaceless false = (refl, tt)
