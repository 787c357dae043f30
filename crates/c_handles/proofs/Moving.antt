-- A struct of one pointer that is made of another one, and owns what that owned.
use mathlib.Core.Path.{refl, subst, sym}
use mathlib.Core.List.{List, [], ◌∷◌, ◌++◌}
use seplogic.Ra.Ura.{Ura}
use mir.Syntax.{Callee, Fn, Sym, aggregate, assign, copy, field, local, place, return, rv_opd, seq, tcons, tnil, ty_ptr}
use mir.Syntax.{ty_struct, value_local}
use mir.Val.{Val}
use base.Fml.{Fml, fsep, ftrue}
use base.Logic.{SProp, ent, id⊢}
use contract.Monad.{fact}
use contract.Running.{Running, tables}
use prog.Model.{Model}
use prog.Wp.{Closed, WpFn}
use types.ByLocal.{alloc_all, free_all, get, get_in, look_at, pass_all, sets}
use types.Kit.{ !, done, fsplit, join, keep, move, qed, split, suffices, use1, ‵, ◌$◌, ◌⊛◌, ◌∵◌}
use types.Logic.{Logic, sem}
use types.Part.{agg, sub, whole}
use types.Run.{and_then, enter, fld, no_more, of_opd, returns, stop}
use denote.Exit.{Last, yes}
use denote.RattleType.{RattleType, owns}
use denote.RawPtr.{Ptr}
use denote.Signature.{plain}
use denote.Steps.{nothing}
use denote.Triple.Clauses.{Clauses, Ended, closing}
use denote.Triple.Spec.{Meets}
use denote.Triple.Walked.{AllGo, Stays, ends_at, says, stay_dropped, walk_of}
use Rattle.std.proofs.raw_atomic.Walks.{proved_at}
use Rattle.c_handles.proofs.Pointers.{one, open_one, shut_one, typed, typed_pointer, word}

-- its code: the pointer is read, cast, and written
abbrev pub moving : Sym → Sym → Fn
moving from to = record {
  lifetimes = 0;
  outlives = [];
  ty_params = [];
  givens = 0;
  params = 1;
  locals = local (ty_struct to (tcons ty_ptr tnil)) value_local ∷ local (ty_struct from (tcons ty_ptr tnil)) value_local
      ∷ local ty_ptr value_local ∷ local ty_ptr value_local ∷ [];
  body = seq (assign (place 2 []) (rv_opd (copy (place 1 (field 0 ∷ [])))))
      (seq (assign (place 3 []) (rv_opd (copy (place 2 []))))
      (seq (assign (place 0 []) (aggregate (copy (place 3 []) ∷ []))) return));
}

module _ {M : Type 1} {𝓤 : Ura M} (𝓛 : Logic 𝓤) (𝓜 : Model 𝓤 𝓛.H) (𝓡 : Running 𝓤 𝓛.H 𝓜) (F T : RattleType)
    (at : F.Denot → Ptr) (heap : F.Denot → Fml) (made : F.Denot → T.Denot) (E : F.Denot → T.Denot → Type 0) where
  abbrev ended : Ended
  ended = record {
    signature = record { lifetimes = 0; outlives = []; params = plain (λ _. F) ∷ []; result = plain (λ _. T) };
    kept = (yes, tt);
  }

  abbrev clauses : Clauses 𝓤 ended
  clauses = λ κs a. record { ghost = Unit {0}; requires = λ g. sem 𝓛 ftrue; ensures = λ g r e. fact 𝓤 (E a.0 r) }

  abbrev stayed : Stays ended.signature.params ended.kept
  stayed = (stay_dropped (plain (λ _. F)) yes, tt)

  pub moved : ((d : F.Denot) (vs : List Val) → ent 𝓤 (sem 𝓛 (F.own_val d vs)) (sem 𝓛 (fsep (one (at d) vs) (heap d))))
      → ((d : F.Denot) → ent 𝓤 (sem 𝓛 (fsep (one (at d) (word (at d) ∷ [])) (heap d)))
      (sem 𝓛 (T.own_val (made d) (word (at d) ∷ []))))
      → ((d : F.Denot) → Last (F.exit yes) d) → AllGo 𝓛 0 ended.signature.params ended.kept stayed
      → ((d : F.Denot) → E d (made d)) → (from to : Sym) (k : Callee)
      → Closed 𝓤 𝓛.H (tables 𝓤 𝓛.H 𝓜 𝓡 𝓡.env).C (tables 𝓤 𝓛.H 𝓜 𝓡 𝓡.env).Λ k (moving from to)
      → Meets 𝓛 ended.signature ((tables 𝓤 𝓛.H 𝓜 𝓡 𝓡.env).C k) (closing 𝓛 ended clauses)
  moved opens shuts last goes holds from to k closed =
      let 𝓣 = tables 𝓤 𝓛.H 𝓜 𝓡 𝓡.env in
      proved_at 𝓛 ended stayed clauses 𝓜 𝓡 goes k (moving from to) closed (λ z are.
      let d = z.0.3.0 in let vs = z.0.4.0 in let w = word (at d) in
      let Run : List Val → SProp 𝓤 = λ us.
      WpFn 𝓤 𝓛.H 𝓣.C 𝓣.Λ (moving from to) us ((walk_of 𝓛 ended stayed clauses).post z) in
      qed 𝓛 ((‵ ftrue ⊛ ‵ (owns (F ∷ []) z.0.3 z.0.4)) ∷ ‵ ftrue ∷ []) ∵ split ! $ move ! (1 ∷ []) $ fsplit ! $
      use1 𝓛 (‵ (fsep (one (at d) vs) (heap d))) (opens d vs) $
      open_one ! (at d) vs (heap d) (λ is. keep ! (0 ∷ []) $
      suffices ! (Run (w ∷ [])) (subst (λ (us : List Val). ent 𝓤 (Run (w ∷ [])) (Run us)) (sym (λ i. is i ++ []))
      (id⊢ 𝓤 (Run (w ∷ [])))) $
      enter ! _ _ _ _ _ $ alloc_all ! (λ l. pass_all ! refl (typed from (at d), tt) $
      sets ! (of_opd ! (get_in ! (fld ! refl (stop !)) (sub ! 0 refl (whole !)))) refl (typed_pointer (at d)) $
      sets ! (of_opd ! (get ! refl)) refl (typed_pointer (at d)) $
      sets ! (agg ! (and_then ! (get ! refl) (no_more !))) refl (typed to (at d)) $
      returns ! (look_at ! 0 refl) $ free_all ! refl $
      suffices ! _ (ends_at 𝓛 ended stayed clauses z w (made d) (last d, tt) (tt, tt)) $ says ! (holds d) $
      shut_one {Γ = []} ! (at d) (heap d) $ use1 𝓛 (‵ (T.own_val (made d) (w ∷ []))) (shuts d) $
      nothing ! $ nothing ! $ join ! $ nothing ! $ done !)))
