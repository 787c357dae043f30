-- A struct of one pointer owns what its value says of that pointer, and is one word.
use lib.Dec.{T, lit<}
use mathlib.Core.Path.{◌≡◌, refl, subst}
use mathlib.Core.List.{List, [], ◌∷◌, ◌++◌}
use seplogic.Ra.Ura.{Ura}
use mir.Syntax.{Sym, tcons, tnil, ty_ptr, ty_struct}
use mir.Val.{Val, WT, has_ty, of_list, vcons, vnil, vstruct}
use base.Fml.{Fml, fex, fsep}
use types.Kit.{Goal, Item, Seq, Step, drop, feq_i, feq_l, fjoin, fpack, fpick, fsplit, step, ◌$◌, ‵}
use types.Logic.{Logic}
use denote.RattleType.{Valss}
use denote.RawPtr.{Ptr, RawPtr, block_ptr, null_ptr, ptr_val}
use denote.Steps.{nothing}
use denote.Struct.Struct.{within}

-- the word of such a struct
abbrev pub word : Ptr → Val
word p = vstruct (vcons (ptr_val p) vnil)

pub typed_pointer : (p : Ptr) → T (has_ty ty_ptr (ptr_val p)) × WT (ptr_val p)
typed_pointer (block_ptr b o) = (tt, tt)
typed_pointer null_ptr = (tt, record { fits = lit< tt })

pub typed : (name : Sym) (p : Ptr) → T (has_ty (ty_struct name (tcons ty_ptr tnil)) (word p)) × WT (word p)
typed name (block_ptr b o) = (tt, (tt, tt))
typed name null_ptr = (tt, (record { fits = lit< tt }, tt))

-- what it owns beside what its value says of the pointer
abbrev pub one : Ptr → List Val → Fml
one p vs =
    fex (Valss (RawPtr ∷ [])) (within (record { name = []; args = []; types = []; fields = RawPtr ∷ [] }) (p, tt) vs)

module _ {M : Type 1} {𝓤 : Ura M} {𝓛 : Logic 𝓤} {K : Type 0} {Γ : List (Item 𝓤)} {G : Goal 𝓤 𝓛.H} where
  pub open_one : K → (p : Ptr) (vs : List Val) (held : Fml) → (vs ≡ word p ∷ [] → Seq K 𝓛 (‵ held ∷ Γ) G)
      → Seq K 𝓛 (‵ (fsep (one p vs) held) ∷ Γ) G
  open_one t p vs held go =
      fsplit t $ fpick t (λ vss. fsplit t $ feq_l t (λ whole. fsplit t $ feq_l t (λ pointer. drop t $
      go (subst (λ (ps : List Val). vs ≡ vstruct (of_list (ps ++ [])) ∷ []) pointer whole))))

  pub shut_one : K → (p : Ptr) (held : Fml)
      → Step K 𝓛 (‵ (fsep (one p (word p ∷ [])) held) ∷ Γ) G (‵ held ∷ Γ) G
  shut_one t p held = step (λ s.
      nothing t $ feq_i t (List Val) (ptr_val p ∷ []) (ptr_val p ∷ []) refl $ fjoin t $
      feq_i t (List Val) (word p ∷ []) (word p ∷ []) refl $ fjoin t $
      fpack t (Valss (RawPtr ∷ []))
      (within (record { name = []; args = []; types = []; fields = RawPtr ∷ [] }) (p, tt) (word p ∷ []))
      (ptr_val p ∷ [], tt) $ fjoin t $ s)
