-- `of` calls for the pointer and the allocator, and makes the parts of both: they own the block that the box owned.
use mathlib.Core.Path.{◌≡◌, ◌∙◌, ap, refl, subst, sym}
use mathlib.Core.List.{List, [], ◌∷◌, ◌++◌}
use mir.MapTy.{inst_fn}
use mir.Raw.{raw as bare}
use mir.Syntax.{Args, Fn, a_type, dcons, dnil}
use mir.Val.{Val, of_list, vstruct}
use base.Fml.{flft, fsep, ftrue}
use base.Logic.{SProp, ent, fst∗, id⊢, never}
use contract.BorrowLft.{◌⊑◌}
use contract.Monad.{fact}
use contract.Running.{tables, tables_of}
use prog.Wp.{Tables, WpFn}
use sound.WpLaws.{fm_of}
use types.ByLocal.{alloc_all, free_all, get, get_in, lands_as, look_at, pass_all, sets}
use types.Kit.{ !, Item, await, done, drop, feq_l, fjoin, fpick, fsplit, join, later, move, pick, qed, raw, rewrite}
use types.Kit.{some}
use types.Kit.{split, split3, suffices, use1, ‵, ◌$◌, ◌⊛◌, ◌∵◌}
use types.Logic.{sem}
use types.Part.{agg, sub, whole}
use types.Run.{and_then, enter, fld, no_more, of_opd, returns, stop}
use denote.Exit.{no}
use denote.Param.{bounded, layout}
use denote.RawPtr.{Ptr, RawPtr, block_ptr, in_a_block, null_ptr, ptr_val}
use denote.Signature.{plain}
use denote.Steps.{heard, nothing, only}
use denote.Struct.Tuple.{Tuple}
use denote.Triple.Call.{calls_at}
use denote.Triple.Spec.{triple_of}
use denote.Triple.Walked.{Stays, ends_at, says, stay_dropped, walk_of}
use Rattle.std.proofs.alloc.Calls.{Goes-blank, handle_tells, token}
use Rattle.std.proofs.boxed.Box.into_raw_with_allocator.Met as taken
use Rattle.std.proofs.raw_atomic.Walks.{proved_at}
use Rattle.std.specs.contracts.boxed.Box.into_raw_with_allocator as takes
use Rattle.c_handles.proofs.Opens.{A-parts, Content, block, box_row, handle, open_box, shut_box, shut_parts}
use Rattle.c_handles.proofs.Opens.{typed, word}
use Rattle.c_handles.proofs.parts.Parts.of.Code as code
use Rattle.c_handles.proofs.parts.Parts.of.Statement.{statement}
use Rattle.c_handles.specs.contracts.parts.Parts.of as f

pub of_spec : {M : Type 1} → statement M
unfolding tables_of
of_spec 𝓤 𝓛 𝓜 𝓡 wired X Z LX LZ g d dd dx met md glue =
    let E : Content = record {
      row = X;
      laws = LX;
      al = record { row = Z; laws = LZ; g = g; d = d; drops = dd };
    } in
    let 𝓣 : Tables 𝓤 𝓛.H = tables_of 𝓤 𝓛.H 𝓜 (tables 𝓤 𝓛.H 𝓜 𝓡 𝓡.env) in
    let given : Args = bounded (a_type ∷ a_type ∷ []) (X, (Z, tt)) (dcons d (dcons dd (dcons dx dnil))) in
    let fn : Fn = inst_fn given code.function in
    let En = f.ended X Z g d dd dx in
    let c = f.clauses X Z g d dd dx 𝓛 𝓜.mem 𝓡.returns in
    let hs : Stays En.signature.params En.kept = (stay_dropped (plain (λ _. box_row E)) no, tt) in
    let Raw = triple_of 𝓛 (takes.signature X Z g d dd dx) (takes.spec X Z g d dd dx 𝓛 𝓜.mem 𝓡.returns) in
    let known = taken.met 𝓤 𝓛 𝓜 𝓡 (code.calls-std::boxed::Box::into_raw_with_allocator 𝓡.env wired)
    X Z LX LZ g d dd dx met md glue in
    proved_at 𝓛 En hs c 𝓜 𝓡 (Goes-blank 𝓛 2 (plain (λ _. box_row E)) no (λ κs x w. tt), tt)
    (f.Key.name given) fn (code.unfolded 𝓤 𝓛.H 𝓜 𝓡 wired (X, (Z, tt)) d dd dx) (λ z are.
    let κs = z.0.0 in
    let qs = z.0.1 in
    let v = z.0.3.0 in
    let Post = (walk_of 𝓛 En hs c).post z in
    let Run : List Val → SProp 𝓤 = λ ws. WpFn 𝓤 𝓛.H 𝓣.C 𝓣.Λ fn ws Post in
    let tokens : Item 𝓤 = ‵ (flft κs.0 qs.0) ⊛ ‵ (flft κs.1.0 qs.1.0) ⊛ ‵ ftrue in
    let live : Item 𝓤 = raw (fact 𝓤 (κs.0 ⊑ X.lives)) ⊛ raw (fact 𝓤 (κs.1.0 ⊑ Z.lives)) ⊛ ‵ ftrue in
    qed 𝓛 ((tokens ⊛ ‵ (fsep ((box_row E).own_val v z.0.4.0) ftrue)) ∷ live ∷ []) ∵
    split ! $ move ! (1 ∷ []) $ fsplit ! $
    open_box E ! v z.0.4.0 (λ b o h there is fits. shut_box E ! v b o there $
    let w : Val = word E h b o in
    let y : Raw.Ghost = ((κs, qs, tt, (v, tt), (w ∷ [], tt)), tt) in
    suffices ! (Run (w ∷ [])) (subst (λ (us : List Val). ent 𝓤 (Run (w ∷ [])) (Run us)) (sym (λ i. is i ++ []))
    (id⊢ 𝓤 (Run (w ∷ [])))) $
    enter ! 𝓣.C 𝓣.Λ fn (w ∷ []) Post $ alloc_all ! (λ l. pass_all ! refl (typed E h b o fits, tt) $
    sets ! (of_opd ! (get ! refl)) refl (typed E h b o fits) $
    -- the call: [the box; nothing; the tokens; what lives]
    fjoin ! $ move ! (1 ∷ 0 ∷ []) $ join ! $ join ! $ use1 𝓛 (raw (Raw.pre y)) (id⊢ 𝓤 _) $
    calls_at ! (fm_of 𝓤 𝓛.H 𝓛.laws 𝓣) Raw known y (and_then ! (get ! refl) (no_more !)) (λ u.
    use1 𝓛 (later (some (λ (r : Ptr × Z.Denot).
    (tokens ⊛ ‵ ((Tuple (RawPtr ∷ handle E ∷ [])).own_val r (u ∷ [])))
    ⊛ some (λ (_ : (Unit {0} × (Unit {0} × Unit {0})) × Unit {0}).
    ‵ (fsep (fsep ftrue (fsep ftrue ftrue)) ftrue)
    ⊛ (raw (fact 𝓤 (r.1 ≡ v.alloc)) ⊛ ‵ (block E v.alloc r.0 v.value)))))) (id⊢ 𝓤 _) $
    await ! tt $ pick ! (λ r. split ! $ move ! (1 ∷ []) $ pick ! (λ _. split3 ! $ drop ! $
    heard ! (r.1 ≡ v.alloc) (λ same.
    in_a_block ! r.0 (λ p. block E v.alloc p v.value)
    (fst∗ 𝓤 (never 𝓤) (sem 𝓛 (token E.al v.alloc (bare (layout X)) null_ptr))) (λ b' o' there'.
    -- its pair: [the block; the tokens with the pair]
    move ! (1 ∷ []) $ split ! $ move ! (1 ∷ []) $
    fpick ! (λ vss. fsplit ! $ feq_l ! (λ both. fsplit ! $ feq_l ! (λ pointer. fsplit ! $
    rewrite ! 0 (λ (s : Z.Denot). ‵ (Z.own_val s vss.1.0)) same refl $
    handle_tells E.al ! v.alloc vss.1.0 (λ h' allocator fits'.
    let made : A-parts E = record { ptr = block_ptr b' o'; alloc = v.alloc; value = v.value } in
    let w' : Val = word E h' b' o' in
    lands_as ! (ap only (both ∙ (λ j. vstruct (of_list
    ((pointer ∙ ap (λ (p : Ptr). ptr_val p ∷ []) there') j ++ (allocator j ++ []))) ∷ []))) refl
    (typed E h' b' o' fits') $
    sets ! (of_opd ! (get_in ! (fld ! refl (stop !)) (sub ! 0 refl (whole !)))) refl (tt, tt) $
    sets ! (of_opd ! (get_in ! (fld ! refl (stop !)) (sub ! 1 refl (whole !)))) refl fits' $
    sets ! (of_opd ! (get ! refl)) refl fits' $
    sets ! (agg ! (and_then ! (get ! refl) (and_then ! (get ! refl) (no_more !)))) refl (typed E h' b' o' fits') $
    returns ! (look_at ! 0 refl) $ free_all ! refl $
    -- [the allocator; nothing; the tokens; the block]
    move ! (3 ∷ 0 ∷ []) $ shut_parts E ! made b' o' refl $ move ! (1 ∷ []) $ drop ! $
    suffices ! _ (ends_at 𝓛 En hs c z w' made ((tt, (tt, tt)), tt) (tt, tt)) $ says ! refl $
    nothing ! $ nothing ! $ fjoin ! $ join ! $ move ! (1 ∷ 0 ∷ []) $ join ! $ done !))))))))))))
