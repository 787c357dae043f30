-- What came back of the threads of a race.
use Rattle.std.proofs.Common.{List, None, Option, Some, [], ap, arith, length, refl, slice_get, subst, suc, sym}
use Rattle.std.proofs.Common.{zero, ℕ, ◌+◌, ◌-◌}
use Rattle.std.specs.Option.{option_to_list}
use Rattle.std.proofs.Common.{◌++◌, ◌∙◌, ◌∷◌, ◌≡◌, ◌≤◌}
use Rattle.std.specs.List.{AllZip}
use Rattle.plain_lemmas.proofs.Lists.{at_front, at_last, snoc_each}
use Rattle.meet_lock.specs.Passes.{number}
use Rattle.shared_system.proofs.Servers.{fresh}
use Rattle.many_host_laws.specs.Closing.{HasClaimed, HasDone}
use Rattle.work_queue.specs.Engines.{EnginePass}
use Rattle.work_queue.specs.declared.engine.Engine.{Engine}
use Rattle.shared_system.specs.Callers.{AreLastHosts, AreLastWorkers, Continues, IsOneOf}
use Rattle.shared_system.specs.Callers.{WorkerContinues}
use Rattle.shared_system.specs.declared.system.System.{System}
use Rattle.shared_system.specs.declared.system.CallerPasses.{CallerPasses}
use Rattle.shared_system.specs.declared.system.HostPasses.{HostPasses}
use Rattle.shared_system.specs.declared.system.WorkerPasses.{WorkerPasses}
use Rattle.race_hosts.specs.Playing.{HasPlayed, HostPassesContinue}
use Rattle.race_hosts.specs.declared.host_threads.Play.{Play}
use Rattle.race.specs.Ended.{EndDown, HasEnded, HaveEnded}

-- ---- lists side by side

-- they are as long
pub zip_length : {X Y : Type 0} (R : X → Y → Type 0) (xs : List X) (ys : List Y) → AllZip R xs ys
    → length xs ≡ length ys
zip_length R [] [] h = refl
zip_length R [] (z ∷ ys) h = absurd h
zip_length R (x ∷ xs) [] h = absurd h
zip_length R (x ∷ xs) (z ∷ ys) h = ap suc (zip_length R xs ys h.1)

-- whose place an element of the second list has
pub zip_at : {X Y : Type 0} (R : X → Y → Type 0) (xs : List X) (ys : List Y) → AllZip R xs ys → (k : ℕ) (y : Y)
    → slice_get ys k ≡ Some y → (x : X) × (slice_get xs k ≡ Some x) × R x y
zip_at R [] [] h k y e = absurd (let f : None ≡ Some y = e in cc)
zip_at R [] (z ∷ ys) h k y e = absurd h
zip_at R (x ∷ xs) [] h k y e = absurd h
zip_at R (x ∷ xs) (z ∷ ys) h zero y e = let same : z ≡ y = cc in (x, refl, subst (R x) same h.0)
zip_at R (x ∷ xs) (z ∷ ys) h (suc k) y e = zip_at R xs ys h.1 k y e

-- ---- passes that are put together again

module _ (e : Engine) (play : Play) (servers : ℕ) where
  pub passes_more : (ps : List EnginePass) (p : EnginePass) → HaveEnded e play servers ps
      → HasEnded e play servers p → number p ≡ length ps + 1 → HaveEnded e play servers (ps ++ p ∷ [])
  passes_more ps p h x n =
      snoc_each (λ k q. (number q ≡ k + 1) × HasEnded e play servers q) ps p h (n, x)

  pub end_rest : {H : Type 0} (f : H → EnginePass) (top : ℕ) (xs ys : List H)
      → EndDown f e play servers top (xs ++ ys) → EndDown f e play servers top xs
  end_rest f top xs ys h = λ k x g. h k x (at_front xs ys k x g)

  pub end_last : {H : Type 0} (f : H → EnginePass) (top : ℕ) (xs : List H) (x : H)
      → EndDown f e play servers top (xs ++ x ∷ [])
      → (number (f x) + length xs ≡ top) × HasEnded e play servers (f x)
  end_last f top xs x h = h (length xs) x (at_last xs x)

-- what is left where the last is taken
module _ (e : Engine) (play : Play) (servers : ℕ) where
  pub popped_rest : {H : Type 0} (f : H → EnginePass) (top : ℕ) (old new : List H) (o : Option H)
      → old ≡ new ++ option_to_list o → EndDown f e play servers top old → EndDown f e play servers top new
  popped_rest f top old new o items h =
      end_rest e play servers f top new (option_to_list o) (subst (EndDown f e play servers top) items h)

  -- and the one that was taken
  pub popped_last : {H : Type 0} (f : H → EnginePass) (top n : ℕ) (old new : List H) (x : H) → n ≡ length new
      → old ≡ new ++ x ∷ [] → EndDown f e play servers top old
      → (number (f x) + n ≡ top) × HasEnded e play servers (f x)
  popped_last f top n old new x same items h =
      let r = end_last e play servers f top new x (subst (EndDown f e play servers top) items h) in
      (ap (λ (m : ℕ). number (f x) + m) same ∙ r.0, r.1)

  -- no pass came back yet
  pub none_ended : (ps : List EnginePass) → ps ≡ [] → HaveEnded e play servers ps
  none_ended ps is = subst (HaveEnded e play servers) (sym is)
      (λ k p g. absurd (let h : None ≡ Some p = g in cc))

  -- by the same number, written otherwise
  pub down_from : {H : Type 0} (f : H → EnginePass) (top low : ℕ) (hs : List H) → low ≡ top
      → EndDown f e play servers top hs → EndDown f e play servers low hs
  down_from f top low hs same h = subst (λ (t : ℕ). EndDown f e play servers t hs) (sym same) h

-- ---- the passes of a race

-- the passes of hosts have numbers above those of all others
above_all : (m k q n c : ℕ) → m ≡ k → k + c ≡ n + 1 + c + q → 1 ≤ q → m ≤ n + 1 → ⊥
above_all m k q n c same last low below = omega (arith, same, last, low, below)

module _ {G : Type 0} (system : System G) (play : Play) (n : ℕ) where
  pub served : (h k : CallerPasses) → Continues system h k → IsOneOf system play.config (n + 1 + play.config.cqs) h.pass
      → number h.pass ≤ n + 1 → HasEnded system.engine play (n + 1) k.pass
  served h k goes one low =
      let same = goes.same.1 in
      record {
        of = goes.of.0;
        config = goes.same.3 ∙ one.0.config;
        closing = record {
          all = goes.same.2 ∙ one.1;
          served = λ _. goes.serves (fresh h.pass one.0.seen);
          hosted = λ high. absurd (omega (arith, high, same, low));
        };
        claimed = λ high. absurd (omega (arith, high, same, low));
      }

  pub fetcher : (h k : CallerPasses) → Continues system h k
      → IsOneOf system play.config (n + 1 + play.config.cqs) h.pass × (number h.pass ≡ n + 1)
      → (number k.pass ≡ n + 1) × HasEnded system.engine play (n + 1) k.pass
  fetcher h k goes one =
      let is = one.1 in
      (goes.same.1 ∙ is, served h k goes one.0 (omega (arith, is)))

  pub workers : (ws vs : List WorkerPasses)
      → AreLastWorkers system play.config (n + 1 + play.config.cqs) n ws → AllZip (WorkerContinues system) ws vs
      → EndDown (λ w. w.caller.pass) system.engine play (n + 1) n vs
  workers ws vs are zip = λ k v g.
      let z = zip_at (WorkerContinues system) ws vs zip k v g in
      let w = are k z.0 z.1 in
      let m = w.2 in
      let same = z.2.0.same.1 in
      (omega (arith, m, same), served z.0.caller v.caller z.2.0 w.1 (omega (arith, m)))

  pub hosts : (hs gs : List HostPasses) → AreLastHosts system play.config (n + 1 + play.config.cqs) hs
      → AllZip (HostPassesContinue system) hs gs → AllZip (HasPlayed system play) hs gs
      → EndDown (λ h. h.pass) system.engine play (n + 1) (n + 1 + play.config.cqs) gs
  hosts hs gs are zip played = λ k b g.
      let z = zip_at (HostPassesContinue system) hs gs zip k b g in
      let y = zip_at (HasPlayed system play) hs gs played k b g in
      let w = are k z.0 z.1 in
      let same = z.2.same.1 in
      let place = w.1 in
      let last = w.2.1 in
      let low = w.0.queue.0 in
      let one : z.0 ≡ y.0 = let a = z.1 in let d = y.1 in let f : Some z.0 ≡ Some y.0 = sym a ∙ d in cc in
      let p : HasPlayed system play z.0 b = subst (λ h. HasPlayed system play h b) (sym one) y.2 in
      let q : z.0.queue ≡ number b.pass - (n + 1) = omega (arith, same, last) in (
        omega (arith, same, place, last),
        record {
          of = z.2.of;
          config = z.2.same.3 ∙ w.0.pass.config;
          closing = record {
            all = z.2.same.2 ∙ w.2.0;
            served = λ below. absurd
                (above_all (number b.pass) (number z.0.pass) z.0.queue n play.config.cqs same last low below);
            hosted = λ above. subst (λ (i : ℕ). HasDone play.config play.slots i i b.pass) q p.done;
          };
          claimed = λ above. subst (λ (i : ℕ). HasClaimed play.config play.slots i play.rounds b.pass) q p.claimed;
        },
      )
