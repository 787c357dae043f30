-- `none` makes a null pointer, which owns nothing.
use Rattle.std.proofs.Common.{List, [], ◌∷◌, refl, lit<, w64}
use Rattle.std.proofs.raw_atomic.Walks.{proved}
use mir.MapTy.{inst_fn}
use mir.Syntax.{Fn, a_type}
use mir.Val.{Val, vint, vstruct, vcons, vnil}
use base.Fml.{ftrue}
use types.Kit.{‵, raw, ◌⊛◌, ◌$◌, ◌∵◌, !, qed, done, keep, move, split, fjoin, feq_i, fpack, suffices}
use types.Run.{lit, no_more, and_then, returns, enter}
use types.Part.{agg}
use types.ByLocal.{alloc_all, pass_all, free_all, look_at, sets}
use denote.Param.{layouts, param}
use denote.RattleType.{Valss}
use denote.RawPtr.{RawPtr, null_ptr, ptr_val}
use denote.Steps.{nothing}
use denote.Struct.Struct.{within}
use denote.Struct.Owning.{shape}
use denote.Triple.Entry.{alive}
use denote.Triple.Walked.{walk_of, says, ends_at}
use Rattle.std.specs.Prelude.{None}
use Rattle.c_handles.specs.contracts.owner.Owner as owner
use Rattle.c_handles.specs.contracts.owner.Owner.none as f
use Rattle.c_handles.proofs.owner.Owner.none.Statement.{statement}
use Rattle.c_handles.proofs.owner.Owner.none.Code as code

abbrev word : Val
word = vstruct (vcons (vint w64 0) vnil)

pub none_spec : {M : Type 1} → statement M
none_spec 𝓤 𝓛 𝓜 𝓡 wired X LX =
    let En = f.ended X in
    let c = f.clauses X 𝓛 𝓜.mem 𝓡.returns in
    let inst = layouts (a_type ∷ []) (X, tt) in
    let fn : Fn = inst_fn inst code.function in
    let made : (owner.the_row (param 0 X)).Denot = record { at = null_ptr; value = None } in
    proved 𝓛 En tt c 𝓜 𝓡 tt (f.Key.name inst) fn (code.unfolded 𝓤 𝓛.H 𝓜 𝓡 wired (X, tt))
    (λ κs. tt) (λ κs. tt) (λ κs qs bounds a g are.
    let y : (walk_of 𝓛 En tt c).Ghost = ((κs, qs, bounds, a, tt), g) in
    qed 𝓛 ((raw (alive 𝓛 En.signature κs qs) ⊛ ‵ ftrue) ∷ raw ((c κs a).requires g) ∷ []) ∵
    split ! $ keep ! (0 ∷ []) $
    enter ! _ _ _ _ _ $ alloc_all ! (λ l. pass_all ! refl tt $
    sets ! (agg ! (and_then ! (lit ! tt) (no_more !))) refl (tt, (record { fits = lit< tt }, tt)) $
    returns ! (look_at ! 0 refl) $ free_all ! refl $
    suffices ! _ (ends_at 𝓛 En tt c y word made tt tt) $ says ! refl $
    nothing ! $ nothing ! $ feq_i ! (List Val) (vint w64 0 ∷ []) (ptr_val null_ptr ∷ []) refl $ fjoin ! $
    feq_i ! (List Val) (word ∷ []) (word ∷ []) refl $ fjoin ! $
    fpack ! (Valss (RawPtr ∷ [])) (within (shape (owner.the_type (param 0 X))) (null_ptr, tt) (word ∷ [])) (
      vint w64 0 ∷ [],
      tt,
    ) $ fjoin ! $ nothing ! $ move ! (2 ∷ []) $ done !))
