-- A box, and the parts of one, are one word of a pointer and an allocator; each owns the block of the box.
use Prim.Native.Nat.{ℕ}
use lib.Dec.{T}
use mathlib.Core.Path.{◌≡◌, refl, ap, subst, sym}
use mathlib.Core.List.{List, [], ◌∷◌, ◌++◌}
use seplogic.Ra.Ura.{Ura}
use mir.Raw.{raw as bare}
use mir.Syntax.{Ty, ty_ptr, ty_struct, tcons, tnil}
use mir.Val.{Val, WT, has_ty, of_list, vcons, vnil, vptr, vstruct}
use base.Fml.{Fml}
use base.Logic.{fst∗, never}
use types.Kit.{Goal, Item, Seq, Step, drop, feq_i, feq_l, fjoin, fpack, fpick, fsplit, move, rewrite, step, ◌$◌, ‵}
use types.Logic.{Logic, sem}
use denote.Param.{layout, param}
use denote.Param.Laws.{Laws}
use denote.RattleType.{RattleType, Valss}
use denote.RawPtr.{Ptr, RawPtr, block_ptr, in_a_block, null_ptr, ptr_val}
use denote.Steps.{nothing}
use denote.Struct.Owning.{shape}
use denote.Struct.Struct.{within}
use Rattle.std.specs.Box.Ownership.{box_owns}
use Rattle.std.specs.contracts.boxed.Box as box
use Rattle.std.specs.declared.boxed.Box.{Box}
use Rattle.std.proofs.ResultValues.{and_tt}
use Rattle.std.proofs.alloc.Calls.{Al, Fits, handle_tells, token, α}
use Rattle.c_handles.specs.contracts.parts.Parts as parts
use Rattle.c_handles.specs.declared.parts.Parts.{Parts}

-- what a box is of: the type of its value, and its allocator
pub record Content : Type 2 where
  pub row : RattleType
  pub laws : Laws row
  pub al : Al

module _ (E : Content) where
  abbrev pub value : RattleType
  value = param 0 E.row

  abbrev pub handle : RattleType
  handle = param 1 E.al.row

  abbrev pub box_row : RattleType
  box_row = box.the_row value handle E.al.g

  abbrev pub parts_row : RattleType
  parts_row = parts.the_row value handle E.al.g

  abbrev pub A-box : Type 0
  A-box = Box E.row.Denot E.al.row.Denot

  abbrev pub A-parts : Type 0
  A-parts = Parts E.row.Denot E.al.row.Denot

  -- what the block of a box at p, of this allocator, holds
  abbrev pub block : E.al.row.Denot → Ptr → E.row.Denot → Fml
  block a p x = box_owns (token E.al a) value p x

  -- the word of a box or of its parts
  abbrev pub word : Val → ℕ → ℕ → Val
  word h b o = vstruct (vcons (vptr b o) (vcons h vnil))

  abbrev pub word_type : Ty
  word_type = ty_struct (box.the_type value handle E.al.g).name (tcons ty_ptr (tcons (α E.al) tnil))

  pub typed : (h : Val) (b o : ℕ) → Fits E.al h → T (has_ty word_type (word h b o)) × WT (word h b o)
  typed h b o fits = (and_tt (has_ty (α E.al) h) fits.0, (tt, (fits.1, tt)))

  -- the word of a pointer and a handle whose words are these
  as_word : (vs ps hs : List Val) (p : Ptr) (b o : ℕ) (h : Val) → vs ≡ vstruct (of_list (ps ++ (hs ++ []))) ∷ []
      → ps ≡ ptr_val p ∷ [] → hs ≡ h ∷ [] → p ≡ block_ptr b o → vs ≡ word h b o ∷ []
  as_word vs ps hs p b o h whole pointer allocator there =
      subst (λ (q : Ptr). vs ≡ vstruct (of_list (ptr_val q ∷ h ∷ [])) ∷ []) there
      (subst (λ (ws : List Val). vs ≡ vstruct (of_list (ptr_val p ∷ (ws ++ []))) ∷ []) allocator
      (subst (λ (ws : List Val). vs ≡ vstruct (of_list (ws ++ (hs ++ []))) ∷ []) pointer whole))

module _ (E : Content) {M : Type 1} {𝓤 : Ura M} {𝓛 : Logic 𝓤} {K : Type 0} {Γ : List (Item 𝓤)} {G : Goal 𝓤 𝓛.H} where
  -- a box by value is its block and its allocator
  pub open_box : K → (d : A-box E) (vs : List Val)
      → ((b o : ℕ) (h : Val) → d.ptr ≡ block_ptr b o → vs ≡ word E h b o ∷ [] → Fits E.al h
      → Seq K 𝓛 (‵ (block E d.alloc (block_ptr b o) d.value) ∷ ‵ ((handle E).own_val d.alloc (h ∷ [])) ∷ Γ) G)
      → Seq K 𝓛 (‵ ((box_row E).own_val d vs) ∷ Γ) G
  open_box t d vs go =
      fsplit t $ fpick t (λ vss. fsplit t $ feq_l t (λ whole. fsplit t $ feq_l t (λ pointer. fsplit t $
      handle_tells E.al t d.alloc vss.1.0 (λ h allocator fits. move t (1 ∷ []) $ drop t $ move t (1 ∷ []) $
      in_a_block t d.ptr (λ p. block E d.alloc p d.value)
      (fst∗ 𝓤 (never 𝓤) (sem 𝓛 (token E.al d.alloc (bare (layout E.row)) null_ptr)))
      (λ b o there. go b o h there (as_word E vs vss.0 vss.1.0 d.ptr b o h whole pointer allocator there) fits)))))

  pub shut_box : K → {h : Val} (d : A-box E) (b o : ℕ) → d.ptr ≡ block_ptr b o
      → Step K 𝓛 (‵ ((box_row E).own_val d (word E h b o ∷ [])) ∷ Γ) G
      (‵ (block E d.alloc (block_ptr b o) d.value) ∷ ‵ ((handle E).own_val d.alloc (h ∷ [])) ∷ Γ) G
  shut_box t {h} d b o there = step (λ s.
      rewrite t 0 (λ (p : Ptr). ‵ (block E d.alloc p d.value)) (sym there) refl $ nothing t $ move t (2 ∷ 0 ∷ []) $
      fjoin t $ feq_i t (List Val) (vptr b o ∷ []) (ptr_val d.ptr ∷ []) (ap (λ (p : Ptr). ptr_val p ∷ []) (sym there)) $
      fjoin t $ feq_i t (List Val) (word E h b o ∷ []) (word E h b o ∷ []) refl $ fjoin t $
      fpack t (Valss (RawPtr ∷ handle E ∷ []))
      (within (shape (box.the_type (value E) (handle E) E.al.g)) (d.ptr, (d.alloc, tt)) (word E h b o ∷ []))
      (vptr b o ∷ [], (h ∷ [], tt)) $ fjoin t $ s)

  -- and so are the parts of one
  pub open_parts : K → (d : A-parts E) (vs : List Val)
      → ((b o : ℕ) (h : Val) → d.ptr ≡ block_ptr b o → vs ≡ word E h b o ∷ [] → Fits E.al h
      → Seq K 𝓛 (‵ (block E d.alloc (block_ptr b o) d.value) ∷ ‵ ((handle E).own_val d.alloc (h ∷ [])) ∷ Γ) G)
      → Seq K 𝓛 (‵ ((parts_row E).own_val d vs) ∷ Γ) G
  open_parts t d vs go =
      fsplit t $ fpick t (λ vss. fsplit t $ feq_l t (λ whole. fsplit t $ feq_l t (λ pointer. fsplit t $
      handle_tells E.al t d.alloc vss.1.0 (λ h allocator fits. move t (1 ∷ []) $ drop t $ move t (1 ∷ []) $
      in_a_block t d.ptr (λ p. block E d.alloc p d.value)
      (fst∗ 𝓤 (never 𝓤) (sem 𝓛 (token E.al d.alloc (bare (layout E.row)) null_ptr)))
      (λ b o there. go b o h there (as_word E vs vss.0 vss.1.0 d.ptr b o h whole pointer allocator there) fits)))))

  pub shut_parts : K → {h : Val} (d : A-parts E) (b o : ℕ) → d.ptr ≡ block_ptr b o
      → Step K 𝓛 (‵ ((parts_row E).own_val d (word E h b o ∷ [])) ∷ Γ) G
      (‵ (block E d.alloc (block_ptr b o) d.value) ∷ ‵ ((handle E).own_val d.alloc (h ∷ [])) ∷ Γ) G
  shut_parts t {h} d b o there = step (λ s.
      rewrite t 0 (λ (p : Ptr). ‵ (block E d.alloc p d.value)) (sym there) refl $ nothing t $ move t (2 ∷ 0 ∷ []) $
      fjoin t $ feq_i t (List Val) (vptr b o ∷ []) (ptr_val d.ptr ∷ []) (ap (λ (p : Ptr). ptr_val p ∷ []) (sym there)) $
      fjoin t $ feq_i t (List Val) (word E h b o ∷ []) (word E h b o ∷ []) refl $ fjoin t $
      fpack t (Valss (RawPtr ∷ handle E ∷ []))
      (within (shape (parts.the_type (value E) (handle E) E.al.g)) (d.ptr, (d.alloc, tt)) (word E h b o ∷ []))
      (vptr b o ∷ [], (h ∷ [], tt)) $ fjoin t $ s)
