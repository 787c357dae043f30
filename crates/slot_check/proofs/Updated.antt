-- What a change of a table leaves.
use Rattle.std.proofs.Common.{◌≡◌, ℕ, Bool, true, false, not, ◌&&◌, ◌||◌, cond, refl, sym, ◌∙◌, eqb}
use Rattle.nvme_model.specs.Slots.{Name, Swap, releases, same_name}

pub set_where : {X : Type 0} (b s : Bool) (x o n : X) → s ≡ true → n ≡ cond b x o → n ≡ cond (b && s) x o
set_where true true x o n e h = h
set_where false true x o n e h = h
set_where b false x o n e h = absurd cc

pub won_added : {X : Type 0} (claims : Bool) (a q b j m : ℕ) (x o n : X) → true ≡ claims → a ≡ q → b ≡ j → (i k : ℕ)
    → n ≡ cond (eqb a i && eqb b k) x o → n ≡ cond (claims && (eqb q i && eqb j k)) x o
won_added claims a q b j m x o n e f g i k h = h ∙ (λ t. cond (e t && (eqb (f t) i && eqb (g t) k)) x o)

pub released_added : (s : Swap) (b o n : Bool) (l : ℕ) (m : Name) → s.claims ≡ false
    → b ≡ (eqb s.lba l && same_name s.name m) → n ≡ cond b true o → n ≡ (releases s l m || o)
released_added s b o n l m e f h = h ∙ (λ t. cond (f t) true o)
    ∙ go (eqb s.lba l && same_name s.name m) ∙ (λ t. ((not (sym e t) && eqb s.lba l) && same_name s.name m) || o)
  where
    go : (x : Bool) → cond x true o ≡ (x || o)
    go true = refl
    go false = refl
