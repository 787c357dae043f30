-- What effects of a slice tell of blocks, where it is asked.
use Rattle.std.proofs.Common.{Bool, List, [], ap, ap₂, cond, refl, sym, true, false, ◌&&◌, ◌≡◌}

-- nothing, where a second test fails
pub none_where : {X : Type 0} (d a : Bool) (xs : List X) → a ≡ false → [] ≡ cond (d && a) xs []
none_where true a xs e = sym (ap (λ (b : Bool). cond b xs []) e)
none_where false a xs e = refl

-- all, where both pass
pub all_where : {X : Type 0} (d a : Bool) (xs : List X) → d ≡ true → a ≡ true → xs ≡ cond (d && a) xs []
all_where d a xs e f = sym (ap₂ (λ (b c : Bool). cond (b && c) xs []) e f)

-- and where one passes
pub where_true : {X : Type 0} (d : Bool) (xs : List X) → d ≡ true → xs ≡ cond d xs []
where_true d xs e = sym (ap (λ (b : Bool). cond b xs []) e)

-- a test behind one that passes
pub behind_true : (p q : Bool) → p ≡ true → q ≡ (p && q)
behind_true p q e = sym (ap (λ (b : Bool). b && q) e)
