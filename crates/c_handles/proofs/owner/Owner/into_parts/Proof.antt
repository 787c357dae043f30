-- `into_parts` hands out what the pointer owned.
use Rattle.std.proofs.Common.{◌≡◌, ◌<◌, List, [], ◌∷◌, ◌++◌, refl, sym, subst}
use Rattle.std.proofs.raw_atomic.Walks.{proved_at}
use Rattle.std.proofs.alloc.Calls.{Al, handle_tells, Goes-blank}
use Rattle.std.proofs.ResultValues.{and_tt}
use mir.MapTy.{inst_fn}
use mir.Syntax.{Fn, a_type, impl, tnil, dnil}
use mir.Raw.{raw as bare}
use mir.Val.{Val, vptr, vstruct, vcons, vnil, of_list}
use base.Logic.{SProp, ent, never, id⊢, fst∗}
use base.Fml.{flft, ftrue}
use contract.BorrowLft.{◌⊑◌}
use contract.Monad.{fact}
use contract.Running.{tables}
use prog.Wp.{WpFn}
use types.Logic.{sem}
use types.Kit.{Item, ‵, raw, ◌⊛◌, ◌$◌, ◌∵◌, !, qed, done, keep, drop, move, split, join, fsplit, fjoin, fpick, feq_i}
use types.Kit.{feq_l, fpack, rewrite, suffices}
use types.Run.{stop, fld, of_opd, no_more, and_then, returns, enter}
use types.Part.{agg, whole, sub}
use types.ByLocal.{alloc_all, pass_all, free_all, look_at, get, get_in, sets}
use denote.Exit.{no, yes}
use denote.Param.{layout, layouts, param}
use denote.RattleType.{RattleType, Valss, owns}
use denote.RawPtr.{Ptr, RawPtr, block_ptr, null_ptr, ptr_val, in_a_block}
use denote.Signature.{plain}
use denote.Steps.{nothing, heard}
use denote.Struct.Struct.{within}
use denote.Struct.Owning.{shape}
use denote.Triple.Walked.{Stays, stay_dropped, walk_of, says, ends_at}
use Rattle.std.specs.Prelude.{Option, Some}
use Rattle.std.specs.contracts.alloc.Global as global
use Rattle.std.specs.contracts.impls.GlobalAllocator.TheImpl.{ghosts}
use Rattle.std.proofs.alloc.Global.TheLaws as global_laws
use Rattle.c_handles.specs.Owned.{mark, owned}
use Rattle.c_handles.specs.contracts.parts.Parts as parts
use Rattle.c_handles.specs.contracts.owner.Owner as owner
use Rattle.c_handles.proofs.Marks.{some_of}
use Rattle.c_handles.specs.contracts.owner.Owner.into_parts as f
use Rattle.c_handles.proofs.owner.Owner.into_parts.Statement.{statement}
use Rattle.c_handles.proofs.owner.Owner.into_parts.Code as code

abbrev al : Al
al = record {
  row = global.the_row;
  laws = global_laws.the_row_laws;
  g = ghosts;
  d = impl [] tnil dnil;
  drops =
      impl [] tnil dnil;
}

pub into_parts_spec : {M : Type 1} → statement M
into_parts_spec 𝓤 𝓛 𝓜 𝓡 wired X LX =
    let V : RattleType = param 0 X in
    let From : RattleType = owner.the_row V in
    let En = f.ended X in
    let c = f.clauses X 𝓛 𝓜.mem 𝓡.returns in
    let 𝓣 = tables 𝓤 𝓛.H 𝓜 𝓡 𝓡.env in
    let inst = layouts (a_type ∷ []) (X, tt) in
    let fn : Fn = inst_fn inst code.function in
    let hs : Stays En.signature.params En.kept =
    (stay_dropped (plain (λ _. From)) no, (stay_dropped (plain (λ _. global.the_row)) yes, tt)) in
    proved_at 𝓛 En hs c 𝓜 𝓡 (
      Goes-blank 𝓛 1 (plain (λ _. From)) no (λ κs x w. tt),
      (Goes-blank 𝓛 1 (plain (λ _. global.the_row)) yes (λ κs x w. tt), tt),
    )
    (f.Key.name inst) fn (code.unfolded 𝓤 𝓛.H 𝓜 𝓡 wired (X, tt)) (λ z are.
    let κs = z.0.0 in let qs = z.0.1 in
    let d = z.0.3.0 in let g = z.0.3.1.0 in let us = z.0.4.0 in
    let Run : List Val → SProp 𝓤 = λ xs. WpFn 𝓤 𝓛.H 𝓣.C 𝓣.Λ fn xs ((walk_of 𝓛 En hs c).post z) in
    let tokens : Item 𝓤 = ‵ (flft κs.0 qs.0) ⊛ ‵ ftrue in
    let live : Item 𝓤 = raw (fact 𝓤 (κs.0 ⊑ X.lives)) in
    qed 𝓛 ((tokens ⊛ ‵ (owns (From ∷ global.the_row ∷ []) z.0.3 z.0.4))
    ∷ (live ⊛ raw (fact 𝓤 (0 < mark d.value))) ∷ []) ∵
    move ! (1 ∷ []) $ split ! $ drop ! $
    heard ! (0 < mark d.value) (λ some. let s : X.Denot = (some_of d.value some).0 in
    let es : d.value ≡ Some s = (some_of d.value some).1 in
    split ! $ move ! (1 ∷ []) $ fsplit ! $ move ! (1 ∷ []) $ fsplit ! $
    handle_tells al ! g z.0.4.1.0 (λ h eh fits.
    -- [the allocator; nothing; the pointer; the tokens]
    keep ! (2 ∷ 0 ∷ 3 ∷ []) $
    fsplit ! $ fpick ! (λ vss. fsplit ! $ feq_l ! (λ ev. fsplit ! $ feq_l ! (λ ep. drop ! $
    rewrite ! 0 (λ (k : Option X.Denot). ‵ (owned V d.at k)) es refl $
    in_a_block ! d.at (λ q. owned V q (Some s)) (fst∗ 𝓤 (never 𝓤)
    (sem 𝓛 (ghosts.dealloc_token g (bare (layout X)) null_ptr))) (λ b o e.
    let v : Val = vstruct (vcons (vptr b o) vnil) in
    let w : Val = vstruct (vcons (vptr b o) (vcons h vnil)) in
    let is : us ≡ v ∷ [] =
    subst (λ (q : Ptr). us ≡ vstruct (of_list (ptr_val q ∷ [])) ∷ []) e
    (subst (λ (ps : List Val). us ≡ vstruct (of_list (ps ++ [])) ∷ []) ep ev) in
    suffices ! (Run (v ∷ h ∷ [])) (subst (λ (xs : List Val). ent 𝓤 (Run (v ∷ h ∷ [])) (Run xs))
    (sym (λ i. is i ++ (eh i ++ []))) (id⊢ 𝓤 (Run (v ∷ h ∷ [])))) $
    enter ! _ _ _ _ _ $ alloc_all ! (λ l. pass_all ! refl ((tt, (tt, tt)), (fits, tt)) $
    sets ! (of_opd ! (get_in ! (fld ! refl (stop !)) (sub ! 0 refl (whole !)))) refl (tt, tt) $
    sets ! (agg ! (and_then ! (get ! refl) (and_then ! (get ! refl) (no_more !)))) refl (
      and_tt _ fits.0,
      (
        tt,
        (fits.1, tt),
      ),
    ) $
    returns ! (look_at ! 0 refl) $ free_all ! refl $
    suffices ! _ (ends_at 𝓛 En hs c z w (record { ptr = block_ptr b o; alloc = g; value = s }) (tt, (tt, tt))
    (tt, (tt, tt))) $ says ! es $
    -- [the box; the allocator; the tokens]
    nothing ! $ move ! (2 ∷ 0 ∷ []) $ fjoin ! $
    feq_i ! (List Val) (vptr b o ∷ []) (ptr_val (block_ptr b o) ∷ []) refl $ fjoin ! $
    feq_i ! (List Val) (w ∷ []) (w ∷ []) refl $ fjoin ! $
    fpack ! (Valss (RawPtr ∷ global.the_row ∷ []))
    (within (shape (parts.the_type V global.the_row ghosts)) (
      block_ptr b o,
      (
        g,
        tt,
      ),
    ) (w ∷ [])) (vptr b o ∷ [], (h ∷ [], tt)) $ fjoin ! $
    nothing ! $ nothing ! $ join ! $ nothing ! $ join ! $ move ! (2 ∷ []) $ done !))))))))
