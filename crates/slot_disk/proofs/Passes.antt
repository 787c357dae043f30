-- The passes of a disk's engine: those of its hosts, and behind them that of its server.
use Rattle.std.proofs.Common.{List, Some, [], arith, length, length-append, subst, suc, sym, zero, ℕ, ◌+◌, ◌++◌}
use Rattle.std.proofs.Common.{◌∷◌, ◌≡◌, All, Bool, ap, false, refl, ◌-◌, ◌<◌, ◌∙◌, ◌≤◌}
use Rattle.std.specs.Prelude.{map, replicate, slice_get}
use Rattle.nvme_model.specs.declared.config.ConfigNumbers.{ConfigNumbers}
use Rattle.plain_lemmas.proofs.Lists.{at_front, at_last}
use Rattle.meet_lock.specs.Passes.{IsNew}
use Rattle.shared_system.proofs.Servers.{fresh}
use Rattle.slot_host.specs.Begins.{is_hold}
use Rattle.slot_host.specs.SlotHosts.{AreNothing}
use Rattle.slot_host.specs.declared.hold.Hold.{Hold}
use Rattle.work_queue.specs.Engines.{EnginePass, IsPassOfEngine}
use Rattle.work_queue.specs.declared.engine.Engine.{Engine}
use Rattle.slot_disk.specs.Hosts.{AreHosts, AreHostsAbove, ArePasses, IsDiskHost, IsPassFor, IsServer}
use Rattle.driver_cas.specs.contracts.shared_port.SharedPortPort.TheImpl.{ghosts}
use Rattle.driver_cas.specs.declared.shared_port.SharedPort.{SharedPort}
use Rattle.nvme_model.specs.declared.array.Range.{Range}
use Rattle.plain_lemmas.proofs.Options.{some_one}
use Rattle.slot_host.proofs.Places.{none_some}
use Rattle.slot_host.specs.declared.slot_host.SlotHost.{SlotHost}

-- what is known of the passes of a new engine
abbrev pub AreNew : Engine → ConfigNumbers → ℕ → List EnginePass → Type 0
AreNew eng c n ps = (k : ℕ) (p : EnginePass) → slice_get ps k ≡ Some p → IsPassOfEngine eng p × IsNew n c [] (k + 1) p

-- the last one serves
pub last_serves : (eng : Engine) (c : ConfigNumbers) (ps xs : List EnginePass) (p : EnginePass)
    → AreNew eng c (c.cqs + 1) ps → length ps ≡ c.cqs + 1 → ps ≡ xs ++ p ∷ [] → IsServer eng c p
last_serves eng c ps xs p each count is =
    let x = each (length xs) p (subst (λ (l : List EnginePass). slice_get l (length xs) ≡ Some p) (sym is)
    (at_last xs p)) in
    let len : length (xs ++ p ∷ []) ≡ length xs + 1 = length-append xs (p ∷ []) in
    let all = ap length is in
    let place = x.1.0 in
    record {
      of = x.0;
      config = x.1.2;
      number_is = omega (arith, place, len, all, count);
      passes = x.1.1;
      serving = fresh p x.1.3;
    }

-- the others are those of the hosts
pub rest_host : (eng : Engine) (c : ConfigNumbers) (ps xs : List EnginePass) (p : EnginePass)
    → AreNew eng c (c.cqs + 1) ps → ps ≡ xs ++ p ∷ [] → ArePasses eng c xs
rest_host eng c ps xs p each is k q there =
    let x = each k q (subst (λ (l : List EnginePass). slice_get l k ≡ Some q) (sym is)
    (at_front xs (p ∷ []) k q there)) in
    record { of = x.0; config = x.1.2; number_is = x.1.0; passes = x.1.1; fresh = x.1.3 }

pub rest_count : (c : ConfigNumbers) (ps xs : List EnginePass) (p : EnginePass) → length ps ≡ c.cqs + 1
    → ps ≡ xs ++ p ∷ [] → length xs ≡ c.cqs
rest_count c ps xs p count is =
    let len : length (xs ++ p ∷ []) ≡ length xs + 1 = length-append xs (p ∷ []) in
    let all = ap length is in
    omega (arith, len, all, count)

-- a host that has nothing
pub nothing_had : (holds : List Hold) → All (λ k. k ≡ Hold.Nothing) holds
    → map is_hold holds ≡ replicate (length holds) false
nothing_had [] none = refl
nothing_had (k ∷ ks) none =
    let first : k ≡ Hold.Nothing = none 0 k (omega arith) in
    let rest = nothing_had ks (λ i d less. none (suc i) d (omega (arith, less))) in
    λ m. is_hold (first m) ∷ rest m

-- the last pass is that of the last host, and the others are those of the others
pub pass_last : (eng : Engine) (c : ConfigNumbers) (ps xs : List EnginePass) (p : EnginePass) (n : ℕ)
    → ArePasses eng c ps → ps ≡ xs ++ p ∷ [] → length ps ≡ n → IsPassFor eng c n p
pass_last eng c ps xs p n each is count =
    let len : length (xs ++ p ∷ []) ≡ length xs + 1 = length-append xs (p ∷ []) in
    let all = ap length is in
    let place : length xs + 1 ≡ n = omega (arith, len, all, count) in
    subst (λ (k : ℕ). IsPassFor eng c k p) place
    (each (length xs) p (subst (λ (l : List EnginePass). slice_get l (length xs) ≡ Some p) (sym is) (at_last xs p)))

pub passes_rest : (eng : Engine) (c : ConfigNumbers) (ps xs : List EnginePass) (p : EnginePass)
    → ArePasses eng c ps → ps ≡ xs ++ p ∷ [] → ArePasses eng c xs
passes_rest eng c ps xs p each is k q there =
    each k q (subst (λ (l : List EnginePass). slice_get l k ≡ Some q) (sym is) (at_front xs (p ∷ []) k q there))

-- one host more, before those above it
pub host_before : (eng : Engine) (c : ConfigNumbers) (slots : Range) (n : ℕ)
    (hs : List (SlotHost SharedPort ghosts)) (s : SlotHost SharedPort ghosts) → AreHostsAbove eng c slots n hs → 1 ≤ n
    → IsDiskHost eng c slots n s → AreHostsAbove eng c slots (n - 1) (s ∷ hs)
host_before eng c slots n hs s above some one zero t e =
    let place : n ≡ n - 1 + (0 + 1) = omega (arith, some) in
    subst (λ (z : ℕ × SlotHost SharedPort ghosts). IsDiskHost eng c slots z.0 z.1)
    (λ i. (place i, some_one s t e i)) one
host_before eng c slots n hs s above some one (suc k) t e =
    let place : n + (k + 1) ≡ n - 1 + (suc k + 1) = omega (arith, some) in
    subst (λ (m : ℕ). IsDiskHost eng c slots m t) place (above k t e)

-- those above none are all
pub above_none : (eng : Engine) (c : ConfigNumbers) (slots : Range) (n : ℕ) (hs : List (SlotHost SharedPort ghosts))
    → n ≡ 0 → AreHostsAbove eng c slots n hs → AreHosts eng c slots hs
above_none eng c slots n hs none above k s e =
    let place : n + (k + 1) ≡ k + 1 = omega (arith, none) in
    subst (λ (m : ℕ). IsDiskHost eng c slots m s) place (above k s e)

-- before the first there is none
pub above_all : (eng : Engine) (c : ConfigNumbers) (slots : Range) (n : ℕ) → AreHostsAbove {g = ghosts} eng c slots n []
above_all eng c slots n k s e = none_some s e
