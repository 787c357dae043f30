-- A pass, a port and a driver that saw more.
use Rattle.std.proofs.Common.{List, None, [], ap, ap₂, inl, length, refl, subst, sym, ℕ, ◌∙◌, ◌≡◌}
use Rattle.std.specs.declared.snapshot.Snapshot.{Snapshot}
use Rattle.driver_cas.specs.Cids.{QueueCids, held}
use Rattle.meet_lock.proofs.Beginnings.{begins-more, begins-same}
use Rattle.meet_lock.specs.Lock.{ExtendsByPasses}
use Rattle.meet_lock.specs.Passes.{IsSame, mine, passes_of, seen}
use Rattle.work_queue.specs.Engines.{EnginePass}
use Rattle.driver_calls.proofs.Views.{follows_on, follows_self}
use Rattle.driver_calls.specs.Views.{log_of, since}
use Rattle.driver_calls.specs.declared.event.PortEvent.{PortEvent}
use Rattle.driver_cas.specs.Drivers.{IsCallOf, IsSameDriver as IsDriver}
use Rattle.driver_cas.specs.Listening.{SawMore}
use Rattle.driver_cas.specs.Passes.{SawOn, log_at}
use Rattle.driver_cas.specs.Ports.{PortFollows, steps_of, view_of}
use Rattle.driver_cas.specs.Tables.{is_free}
use Rattle.driver_cas.specs.declared.call.Call.{Call}
use Rattle.driver_cas.specs.declared.driver.Driver.{Driver}
use Rattle.driver_cas.specs.declared.port.Port.{Ghosts}
use Rattle.driver_cas.specs.declared.shared_port.SharedPort.{SharedPort}
use Rattle.driver_cas.proofs.Drivers.{reaped_calls}
use Rattle.driver_cas.proofs.Following.{port_idle, sole_later}
use Rattle.driver_cas.proofs.Ports.{log_declined}

-- ---- passes

same_on : (p q r : EnginePass) → IsSame p q → IsSame q r → IsSame p r
same_on p q r x y = (y.0 ∙ x.0, y.1 ∙ x.1, y.2 ∙ x.2, y.3 ∙ x.3)

pub saw_on : (p q r : EnginePass) → SawOn p q → IsSame q r → mine r ≡ mine q
    → ExtendsByPasses (passes_of q) (seen q) (seen r) → SawOn p r
saw_on p q r x s m b = record {
  same = same_on p q r x.same s;
  mine_stay = m ∙ x.mine_stay;
  goes_on = begins-more (passes_of p) (seen p) (seen q) (seen r) x.goes_on
      (subst (λ (n : ℕ). ExtendsByPasses n (seen q) (seen r)) x.same.2 b);
}

-- it saw no more
pub saw_nothing : (p q : EnginePass) → IsSame p q → mine q ≡ mine p → seen q ≡ seen p → SawOn p q
saw_nothing p q s m h = record { same = s; mine_stay = m; goes_on = (([], sym h), tt) }

-- ---- ports

idle_log : (a b : SharedPort) → b.queue ≡ a.queue → SawOn a.pass b.pass → log_of (view_of b) ≡ log_of (view_of a)
idle_log a b queue s = ap (λ (n : ℕ). log_at n b.pass) queue
    ∙ log_declined a.queue a.pass b.pass s.same s.mine_stay s.goes_on.0

pub saw_more : (a b : SharedPort) → b.queue ≡ a.queue → (a.counted ≡ None → b.counted ≡ None) → SawOn a.pass b.pass
    → SawMore a b
saw_more a b queue asks s =
    record {
      follows = port_idle a b queue asks s.same s.goes_on s.mine_stay (idle_log a b queue s);
      mine_stay = s.mine_stay;
      log = idle_log a b queue s;
    }

-- ---- drivers

module _ {P : Type 0} (g : Ghosts P) where
  -- the calls of a driver that did nothing stay its calls
  pub idle_calls : ((a b c : P) → g.follows a b → g.follows b c → g.follows a c) → (d e : Driver P g) → IsDriver d e
      → e.cids ≡ d.cids → g.follows d.port e.port → g.log e.port ≡ g.log d.port → (k : Call P) → IsCallOf d k
      → IsCallOf e k
  idle_calls on d e same cids later log k of =
      reaped_calls g on d e k same later
      (inl (ap₂ (λ (s : Snapshot P) (l : List PortEvent). since (g.log s.value) l) same.began log))
      (λ q i. ap (λ (c : QueueCids). is_free (held c q i)) cids) of

-- a port is itself at a later time
pub follows_same : (a : SharedPort) → PortFollows a a
follows_same a =
    record {
      same_lock = refl;
      same_passes = refl;
      view = follows_self (view_of a);
      of_passes = begins-same (passes_of a.pass) (seen a.pass);
      sole = refl;
      asks = λ x. x;
    }

-- a later port of an engine is one of what is later than it
pub follows_later : (a b c : SharedPort) → PortFollows a b → PortFollows b c → PortFollows a c
follows_later a b c x y =
    record {
      same_lock = y.same_lock ∙ x.same_lock;
      same_passes = y.same_passes ∙ x.same_passes;
      view = follows_on (view_of a) (view_of b) (view_of c) x.view y.view;
      of_passes = begins-more (passes_of a.pass) (seen a.pass) (seen b.pass) (seen c.pass) x.of_passes
          (subst (λ (n : ℕ). ExtendsByPasses n (seen b.pass) (seen c.pass)) x.same_passes y.of_passes);
      sole = sole_later (steps_of a) (steps_of b) (steps_of c) (length (log_of (view_of a)))
          (length (log_of (view_of b))) (length (log_of (view_of c))) x.sole y.sole;
      asks = λ h. y.asks (x.asks h);
    }
