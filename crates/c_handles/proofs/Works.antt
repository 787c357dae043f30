-- Whether a Work is kept, and which.
use Rattle.std.proofs.Common.{Bool, false, is_some, subst, ℕ, ◌≡◌}
use Rattle.std.specs.Prelude.{None, Option, Some}
use Rattle.work_queue.specs.Engines.{EnginePass, FetchedAs}
use Rattle.work_queue.specs.declared.engine.Engine.{Engine}
use Rattle.work_queue.specs.declared.work.Work.{Work}
use Rattle.c_handles.specs.Disks.{MakesTask}
use Rattle.c_handles.specs.declared.disk.Disk.{Disk}

pub nothing_kept : {A : Type 0} (o : Option A) (w : A) {b : Bool} → b ≡ is_some o → b ≡ false → o ≡ Some w → ⊥
nothing_kept None w h k e = let f : None ≡ Some w = e in cc
nothing_kept (Some v) w h k e = cc

pub one_kept : {A : Type 0} {o : Option A} {v w : A} → Some v ≡ o → o ≡ Some w → v ≡ w
one_kept h k = let x = h in let y = k in cc

pub some_kept : {A : Type 0} {o : Option A} {v : A} → Some v ≡ o → o ≡ None → ⊥
some_kept h k = let x = h in let y = k in cc

-- the same by what the engine is
pub fetched_by : (e f : Engine) (p q : EnginePass) (n : ℕ) (w : Work) → e ≡ f → FetchedAs e p q n w
    → FetchedAs f p q n w
fetched_by e f p q n w h x = subst (λ (g : Engine). FetchedAs g p q n w) h x

-- the same of a Work that is the one kept
pub makes_of : (d e : Disk) (v w : Work) (n : ℕ) → v ≡ w → MakesTask d e v n → MakesTask d e w n
makes_of d e v w n h x = subst (λ (u : Work). MakesTask d e u n) h x
