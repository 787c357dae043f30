-- `gone` makes a value of no bytes, whose ghost field is told of what the reference shows.
use Prim.Native.Nat.{ℕ}
use mathlib.Core.List.{List, [], ◌∷◌, ◌++◌}
use mathlib.Core.Path.{refl, subst, sym}
use seplogic.Ra.Ura.{Ura}
use mir.Val.{Val, vnil, vptr, vstruct}
use base.Fml.{Fml}
use base.Logic.{SProp, ent}
use contract.Running.{MachineTables, Running, tables}
use prog.Model.{Model}
use prog.Wp.{WpFn}
use types.ByLocal.{alloc_all, free_all, look_at, pass_all, sets}
use types.Kit.{ !, done, fjoin, join, keep, move, qed, raw, split, suffices, use0, ‵, ◌$◌, ◌⊛◌, ◌∵◌}
use types.Logic.{Logic}
use types.Part.{agg}
use types.Run.{enter, no_more, returns}
use denote.Builtin.{RefOf}
use denote.Exit.{yes}
use denote.RattleType.{owns}
use denote.Shadow.{makes_shadow}
use denote.Signature.{plain, type_at, types_at}
use denote.Steps.{nothing}
use denote.Triple.Clauses.{Clauses}
use denote.Triple.Entry.{Res, alive}
use denote.Triple.Walked.{Goes-dropped, Stays, ends_at, says, stay_dropped, walk_of}
use Rattle.std.proofs.raw_atomic.Walks.{proved_at}
use Rattle.history.specs.Gone.{part_past}
use Rattle.history.specs.contracts.part.Part.{the_row}
use Rattle.history.specs.contracts.part.Part.gone.{clauses, ended}
use Rattle.history.specs.contracts.part.Part.gone.Key.{name}
use Rattle.history.proofs.part.Part.gone.Statement.{statement}
use Rattle.history.proofs.part.Part.gone.Code as code

abbrev stayed : Stays ended.signature.params ended.kept
stayed = (stay_dropped (RefOf (0 ∷ []) tt (plain (λ _. the_row)) (λ _. tt)) yes, tt)

module _ {M : Type 1} {𝓤 : Ura M} (𝓛 : Logic 𝓤) (𝓜 : Model 𝓤 𝓛.H) (𝓡 : Running 𝓤 𝓛.H 𝓜) where
  abbrev held : Clauses 𝓤 ended
  held = clauses 𝓛 𝓜.mem 𝓡.returns

  abbrev 𝓣 : MachineTables 𝓤 𝓛.H 𝓜
  𝓣 = tables 𝓤 𝓛.H 𝓜 𝓡 𝓡.env

  module _ (z : (walk_of 𝓛 ended stayed held).Ghost) where
    abbrev At : List Val → (walk_of 𝓛 ended stayed held).Ghost
    At us = ((z.0.0, z.0.1, z.0.2, z.0.3, (us, tt)), z.1)

    abbrev Post : List Val → Val → SProp 𝓤
    Post us = (walk_of 𝓛 ended stayed held).post (At us)

    abbrev Goes : List Val → Type 1
    Goes us =
        ent 𝓤 ((walk_of 𝓛 ended stayed held).pre (At us)) (WpFn 𝓤 𝓛.H 𝓣.C 𝓣.Λ code.function (us ++ []) (Post us))

    abbrev b : ℕ
    b = z.0.3.0.ref_ptr.0

    abbrev o : ℕ
    o = z.0.3.0.ref_ptr.1

    abbrev toks : SProp 𝓤
    toks = alive 𝓛 ended.signature z.0.0 z.0.1

    abbrev passed : Fml
    passed = owns (types_at ended.signature.params z.0.0) z.0.3 (vptr b o ∷ [], tt)

    walks : Goes (vptr b o ∷ [])
    walks =
        let v : Val = vstruct vnil in
        let r : Res ended.signature z.0.0 = record { past = part_past z.0.3.0.now } in
        let O : Fml = (type_at ended.signature.result z.0.0).own_val r (v ∷ []) in
        qed 𝓛 ((raw toks ⊛ ‵ passed) ∷ raw ((held z.0.0 z.0.3).requires z.1) ∷ []) ∵ split ! $ keep ! (0 ∷ []) $
        enter ! 𝓣.C 𝓣.Λ code.function (vptr b o ∷ []) _ $ alloc_all ! (λ l. pass_all ! refl ((tt, tt), tt) $
        sets ! (agg ! (no_more !)) refl (tt, tt) $
        returns ! (look_at ! 0 refl) $ free_all ! refl $
        use0 𝓛 (‵ O) (makes_shadow 𝓛 O ((λ vss. (tt, tt)), tt) ((tt, (refl, tt)), tt)) $
        suffices ! _ (ends_at 𝓛 ended stayed held (At (vptr b o ∷ [])) v r (tt, tt) (tt, tt)) $ says ! refl $
        nothing ! $ nothing ! $ fjoin ! $ join ! $ move ! (1 ∷ 0 ∷ []) $ join ! $ done !)

pub gone_spec : {M : Type 1} → statement M
gone_spec 𝓤 𝓛 𝓜 𝓡 wired =
    proved_at 𝓛 ended stayed (held 𝓛 𝓜 𝓡) 𝓜 𝓡
    (Goes-dropped 𝓛 1 (RefOf (0 ∷ []) tt (plain (λ _. the_row)) (λ _. tt)) yes (λ κs x f. refl), tt)
    name code.function (code.unfolded 𝓤 𝓛.H 𝓜 𝓡 wired)
    (λ z are. subst (Goes 𝓛 𝓜 𝓡 z) (sym are.0.0) (walks 𝓛 𝓜 𝓡 z))
