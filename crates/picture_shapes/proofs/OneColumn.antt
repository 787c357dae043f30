-- Each entry has one column.
use Rattle.std.proofs.Common.{Bool, List, None, Option, Some, [], ap, append-nil, cond, false, length, nat_lt, refl}
use Rattle.std.proofs.Common.{sym, true, ℕ, ◌++◌, ◌+◌, ◌∙◌, ◌∷◌, ◌≡◌}
use Rattle.nvme_model.specs.FirstBad.{first_bad_of}
use Rattle.nvme_model.specs.History.{Past}
use Rattle.nvme_model.specs.declared.config.ConfigNumbers.{ConfigNumbers}
use Rattle.nvme_model.specs.declared.entry.Entry.{Entry}
use Rattle.picture_shapes.specs.Columns.{column_of, columns_of}
use Rattle.picture_shapes.specs.Picture.{PictureState, head_of, picture_of, picture_step}
use Rattle.picture_shapes.specs.declared.head.Head.{Head}
use Rattle.picture_shapes.specs.declared.picture.Aspect.{Aspect}

-- what a step leaves of the ends of a picture, and the column that it adds
record Steps (from to : ℕ) (heads : List Head) (s : PictureState) : Type 0 where
  pub from_is : s.from ≡ from
  pub to_is : s.to ≡ to
  pub heads_are : s.heads ≡ heads

shown : (x : Bool) (heads : List Head) (h : Head) → cond x heads (heads ++ h ∷ []) ≡ heads ++ cond x [] (h ∷ [])
shown true heads h = sym (append-nil heads)
shown false heads h = refl

added : (x y : Bool) (s t : PictureState) (h : Head) → t.heads ≡ cond y s.heads (s.heads ++ h ∷ [])
    → (cond x s t).heads ≡ s.heads ++ cond x [] (cond y [] (h ∷ []))
added true y s t h e = sym (append-nil s.heads)
added false y s t h e = e ∙ shown y s.heads h

from_kept : (x : Bool) (s t : PictureState) → t.from ≡ s.from → (cond x s t).from ≡ s.from
from_kept true s t e = refl
from_kept false s t e = e

to_kept : (x : Bool) (s t : PictureState) → t.to ≡ s.to → (cond x s t).to ≡ s.to
to_kept true s t e = refl
to_kept false s t e = e

step : (c : ConfigNumbers) (w : List ℕ) (a b : Option ℕ) (n : ℕ) (e : Entry) (s : PictureState)
    → Steps s.from s.to (s.heads ++ column_of s.from s.to n e a) (picture_step c w a b n e s)
step c w (Some k) b n e s = record { from_is = refl; to_is = refl; heads_are = sym (append-nil s.heads) }
step c w None None n e s =
    record {
      from_is = from_kept (nat_lt s.to n) s _ refl;
      to_is = to_kept (nat_lt s.to n) s _ refl;
      heads_are = added (nat_lt s.to n) (nat_lt n s.from) s _ (head_of n e) refl;
    }
step c w None (Some k) n e s =
    record {
      from_is = from_kept (nat_lt s.to n) s _ refl;
      to_is = to_kept (nat_lt s.to n) s _ refl;
      heads_are = added (nat_lt s.to n) (nat_lt n s.from) s _ (head_of n e) refl;
    }

next : (c : ConfigNumbers) (from to : ℕ) (w : List ℕ) (a b : Option ℕ) (n : ℕ) (e : Entry) (s : PictureState)
    (heads : List Head) → Steps from to heads s
    → Steps from to (heads ++ column_of from to n e a) (picture_step c w a b n e s)
next c from to w a b n e s heads h =
    let one = step c w a b n e s in
    record {
      from_is = one.from_is ∙ h.from_is;
      to_is = one.to_is ∙ h.to_is;
      heads_are = one.heads_are ∙ ap (λ l. l ++ column_of s.from s.to n e a) h.heads_are
          ∙ ap (λ f. heads ++ column_of f s.to n e a) h.from_is ∙ ap (λ t. heads ++ column_of from t n e a) h.to_is;
    }

all : (c : ConfigNumbers) (from to : ℕ) (a : Aspect) (w : List ℕ) (past : Past)
    → Steps from to (columns_of c from to past) (picture_of c from to a w past)
all c from to a w [] = record { from_is = refl; to_is = refl; heads_are = refl }
all c from to a w (e ∷ past) =
    next c from to w (first_bad_of c past) (first_bad_of c (e ∷ past)) (length past + 1) e
    (picture_of c from to a w past) (columns_of c from to past) (all c from to a w past)

pub one_column : (c : ConfigNumbers) (from to : ℕ) (a : Aspect) (w : List ℕ) (past : Past)
    → (picture_of c from to a w past).heads ≡ columns_of c from to past
one_column c from to a w past = (all c from to a w past).heads_are
