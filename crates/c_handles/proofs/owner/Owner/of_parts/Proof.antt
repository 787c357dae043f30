-- `of_parts` keeps the pointer of the parts, and owns what they owned.
use Rattle.std.proofs.Common.{◌≡◌, List, [], ◌∷◌, ◌++◌, refl, sym, subst}
use Rattle.std.proofs.raw_atomic.Walks.{proved_at}
use Rattle.std.proofs.alloc.Calls.{Al, handle_tells, Goes-blank}
use Rattle.std.proofs.ResultValues.{and_tt}
use mir.MapTy.{inst_fn}
use mir.Syntax.{Fn, a_type, impl, tnil, dnil}
use mir.Raw.{raw as bare}
use mir.Val.{Val, vptr, vstruct, vcons, vnil, of_list}
use base.Logic.{SProp, ent, never, id⊢, fst∗}
use base.Fml.{flft, ftrue}
use contract.BorrowLft.{◌⊑◌}
use contract.Monad.{fact}
use prog.Wp.{WpFn}
use contract.Running.{tables}
use types.Logic.{sem}
use types.Kit.{Item, ‵, raw, ◌⊛◌, ◌$◌, ◌∵◌, !, qed, done, keep, move, split, join, fsplit, fjoin, fpick, feq_i, feq_l}
use types.Kit.{fpack, suffices}
use types.Run.{stop, fld, of_opd, no_more, and_then, returns, enter}
use types.Part.{agg, whole, sub}
use types.ByLocal.{alloc_all, pass_all, free_all, look_at, get, get_in, sets}
use denote.Exit.{no}
use denote.Param.{layout, layouts, param}
use denote.RattleType.{RattleType, Valss, owns}
use denote.RawPtr.{Ptr, RawPtr, block_ptr, null_ptr, ptr_val, in_a_block}
use denote.Signature.{plain}
use denote.Steps.{nothing}
use denote.Struct.Struct.{within}
use denote.Struct.Owning.{shape}
use denote.Triple.Walked.{Stays, stay_dropped, walk_of, says, ends_at}
use Rattle.std.specs.Prelude.{Some}
use Rattle.std.specs.contracts.alloc.Global as global
use Rattle.std.specs.contracts.impls.GlobalAllocator.TheImpl.{ghosts}
use Rattle.std.proofs.alloc.Global.TheLaws as global_laws
use Rattle.c_handles.specs.Owned.{owned}
use Rattle.c_handles.specs.contracts.parts.Parts as parts
use Rattle.c_handles.specs.contracts.owner.Owner as owner
use Rattle.c_handles.specs.contracts.owner.Owner.of_parts as f
use Rattle.c_handles.proofs.owner.Owner.of_parts.Statement.{statement}
use Rattle.c_handles.proofs.owner.Owner.of_parts.Code as code

abbrev al : Al
al = record {
  row = global.the_row;
  laws = global_laws.the_row_laws;
  g = ghosts;
  d = impl [] tnil dnil;
  drops =
      impl [] tnil dnil;
}

pub of_parts_spec : {M : Type 1} → statement M
of_parts_spec 𝓤 𝓛 𝓜 𝓡 wired X LX =
    let V : RattleType = param 0 X in
    let From : RattleType = parts.the_row V global.the_row ghosts in
    let En = f.ended X in
    let c = f.clauses X 𝓛 𝓜.mem 𝓡.returns in
    let 𝓣 = tables 𝓤 𝓛.H 𝓜 𝓡 𝓡.env in
    let inst = layouts (a_type ∷ []) (X, tt) in
    let fn : Fn = inst_fn inst code.function in
    let hs : Stays En.signature.params En.kept = (stay_dropped (plain (λ _. From)) no, tt) in
    proved_at 𝓛 En hs c 𝓜 𝓡 (Goes-blank 𝓛 1 (plain (λ _. From)) no (λ κs x w. tt), tt)
    (f.Key.name inst) fn (code.unfolded 𝓤 𝓛.H 𝓜 𝓡 wired (X, tt)) (λ z are.
    let κs = z.0.0 in let qs = z.0.1 in let p = z.0.3.0 in let vs = z.0.4.0 in
    let Post = (walk_of 𝓛 En hs c).post z in
    let Run : List Val → SProp 𝓤 = λ us. WpFn 𝓤 𝓛.H 𝓣.C 𝓣.Λ fn us Post in
    let tokens : Item 𝓤 = ‵ (flft κs.0 qs.0) ⊛ ‵ ftrue in
    let live : Item 𝓤 = raw (fact 𝓤 (κs.0 ⊑ X.lives)) ⊛ ‵ ftrue in
    qed 𝓛 ((tokens ⊛ ‵ (owns (From ∷ []) z.0.3 z.0.4)) ∷ live ∷ []) ∵ split ! $ move ! (1 ∷ []) $ fsplit ! $
    fsplit ! $
    fpick ! (λ vss. fsplit ! $ feq_l ! (λ ev. fsplit ! $ feq_l ! (λ ep. fsplit ! $
    handle_tells al ! p.alloc vss.1.0 (λ h eh fits.
    -- [the allocator; nothing; the box; nothing; the tokens; what lives]
    move ! (2 ∷ []) $
    in_a_block ! p.ptr (λ q. owned V q (Some p.value)) (fst∗ 𝓤 (never 𝓤)
    (sem 𝓛 (ghosts.dealloc_token p.alloc (bare (layout X)) null_ptr))) (λ b o e.
    keep ! (0 ∷ 4 ∷ []) $
    let w : Val = vstruct (vcons (vptr b o) (vcons h vnil)) in
    let is : vs ≡ w ∷ [] =
    subst (λ (q : Ptr). vs ≡ vstruct (of_list (ptr_val q ∷ h ∷ [])) ∷ []) e
    (subst (λ (ws : List Val). vs ≡ vstruct (of_list (ptr_val p.ptr ∷ (ws ++ []))) ∷ []) eh
    (subst (λ (ps : List Val). vs ≡ vstruct (of_list (ps ++ (vss.1.0 ++ []))) ∷ []) ep ev)) in
    let made : (owner.the_row V).Denot = record { at = block_ptr b o; value = Some p.value } in
    let v : Val = vstruct (vcons (vptr b o) vnil) in
    suffices ! (Run (w ∷ [])) (subst (λ (us : List Val). ent 𝓤 (Run (w ∷ [])) (Run us)) (sym (λ i. is i ++ []))
    (id⊢ 𝓤 (Run (w ∷ [])))) $
    enter ! _ _ _ _ _ $ alloc_all ! (λ l. pass_all ! refl ((and_tt _ fits.0, (tt, (fits.1, tt))), tt) $
    sets ! (of_opd ! (get_in ! (fld ! refl (stop !)) (sub ! 0 refl (whole !)))) refl (tt, tt) $
    sets ! (agg ! (and_then ! (get ! refl) (no_more !))) refl (tt, (tt, tt)) $
    returns ! (look_at ! 0 refl) $ free_all ! refl $
    suffices ! _ (ends_at 𝓛 En hs c z v made (tt, tt) (tt, tt)) $ says ! refl $
    nothing ! $ feq_i ! (List Val) (vptr b o ∷ []) (ptr_val (block_ptr b o) ∷ []) refl $ fjoin ! $
    feq_i ! (List Val) (v ∷ []) (v ∷ []) refl $ fjoin ! $
    fpack ! (Valss (RawPtr ∷ [])) (within (shape (owner.the_type V)) (block_ptr b o, tt) (v ∷ [])) (vptr b o ∷ [], tt) $
    fjoin ! $ nothing ! $ nothing ! $ join ! $ move ! (2 ∷ []) $ done !)))))))
