-- What the threads of hosts give back.
use Rattle.std.proofs.Common.{All, Err, List, Ok, OnOk, Result, [], ap, refl, reverse, subst, sym, ℕ, ◌-◌, ◌++◌, ◌∙◌}
use Rattle.std.proofs.Common.{arith, ◌≡◌}
use Rattle.std.specs.List.{AllZip}
use Rattle.nvme_model.specs.Passes.{IsBeginning, SharedPast}
use Rattle.nvme_model.specs.declared.array.Range.{Range}
use Rattle.nvme_model.specs.declared.config.ConfigNumbers.{ConfigNumbers}
use Rattle.meet_lock.specs.Passes.{IsSame, seen}
use Rattle.work_queue.specs.Engines as engine
use Rattle.work_queue.specs.declared.notice.Notice.{Notice}
use Rattle.work_queue.specs.declared.queue.QueuePass.{QueuePass}
use Rattle.shared_system.specs.Callers.{IsHostOf, IsPlaceAt}
use Rattle.shared_system.specs.declared.system.System.{System}
use Rattle.shared_system.specs.declared.system.HostPasses.{HostPasses}
use Rattle.hosts.proofs.Ends.{all_back, all_said, zip_same}
use Rattle.hosts.specs.Returning.{AreParted, GaveBack}
use Rattle.driver_cas.specs.Drivers.{area_of, made, port_of}
use Rattle.driver_cas.specs.Ports.{pass_of}
use Rattle.race_hosts.specs.Hosts.{HostContinues, rounds_begun}
use Rattle.race_hosts.specs.Playing.{HasPlayed, HostPassesContinue, IsReturned, Promises}
use Rattle.slot_alloc.specs.Areas.{block_of}
use Rattle.slot_log_laws.specs.Counts.{log_claims}
use Rattle.race_hosts.specs.declared.host_threads.Play.{Play}
use Rattle.race_hosts.specs.declared.host_threads.Played.{Played}
use Rattle.race_hosts.specs.declared.owned.Host.{Host}

module _ {G : Type 0} where
  -- passes whose driver wasn't made
  pub caller_kept : (system : System G) (c : ConfigNumbers) (h k : HostPasses) → IsHostOf system c h
      → IsSame h.pass k.pass
      → seen k.pass ≡ seen h.pass → k.queue ≡ h.queue → k.notices ≡ h.notices → HostPassesContinue system h k
  caller_kept system c h k of same saw queue notices =
      record {
        of = same.0 ∙ of.pass.of;
        same = same;
        begins = ([], sym saw);
        queue = queue;
        place = subst (IsPlaceAt system (h.queue - 1)) (sym notices) of.notices;
      }

  pub caller_same : (system : System G) (c : ConfigNumbers) (h : HostPasses) → IsHostOf system c h
      → HostPassesContinue system h h
  caller_same system c h of = caller_kept system c h h of (refl, refl, refl, refl) refl refl refl

  pub callers_same : (system : System G) (c : ConfigNumbers) (hs : List HostPasses) → All (IsHostOf system c) hs
      → AllZip (HostPassesContinue system) hs hs
  callers_same system c hs all = zip_same (HostPassesContinue system) (IsHostOf system c) (caller_same system c) hs all

  -- passes whose host went on
  pub caller_back : (system : System G) (h k : HostPasses) (first last : Host)
      → IsSame h.pass (pass_of (port_of first.driver))
      → seen (pass_of (port_of first.driver)) ≡ seen h.pass → first.queue ≡ h.queue → HostContinues system first last
      → k.pass ≡ pass_of (port_of last.driver) → (k.queue ≡ last.queue) × (k.notices ≡ last.notices)
      → HostPassesContinue system h k
  caller_back system h k first last same saw queue goes gave rest =
      let v = goes.later.view in
      let q : last.queue ≡ h.queue = goes.queue ∙ queue in
      record {
        of = subst (engine.IsPassOfEngine system.engine) (sym gave) goes.of.of;
        same = subst (IsSame h.pass) (sym gave) (
          goes.later.same_lock ∙ same.0,
          v.same_pass ∙ same.1,
          goes.later.same_passes ∙ same.2,
          v.same_config ∙ same.3,
        );
        begins = subst (λ (z : SharedPast × engine.EnginePass). IsBeginning z.0 (seen z.1)) (λ i. (saw i, sym gave i))
            v.goes_on;
        queue = rest.0 ∙ q;
        place = subst (λ (z : ℕ × QueuePass Notice). IsPlaceAt system (z.0 - 1) z.1) (λ i. (q i, sym rest.1 i))
            goes.of.place;
      }

  -- what its promise says of the passes
  pub returned_of : {E : Type 0} (system : System G) (play : Play) (caller : HostPasses) (p : Played G)
      (r : HostPasses × Result (Unit {0}) E) → Promises system play caller p
      → IsReturned p.system.value p.play.value p.caller.value r → IsReturned system play caller r
  returned_of system play caller p r x k =
      subst (λ (z : System G × Play × HostPasses). IsReturned z.0 z.1 z.2 r)
      (λ i. (x.of_system i, x.of_play i, x.of_caller i))
      k

-- what follows of what holds at Ok
pub played_on : {T E X Y : Type 0} (r : Result T E) → OnOk r X → (X → Y) → OnOk r Y
played_on (Ok t) x f = f x
played_on (Err e) x f = tt

-- a host's rounds by the claims in its driver's log
pub first_claims : (h : Host) (slots : Range) → area_of h.driver ≡ slots
    → log_claims (made h.driver) slots.slba ≡ rounds_begun h
first_claims h slots is =
    let first : (area_of h.driver).slba ≡ block_of (area_of h.driver) 0 = omega arith in
    (λ i. log_claims (made h.driver) (sym is i).slba) ∙ ap (log_claims (made h.driver)) first

module _ {G : Type 0} where
  -- what all gave back, however their threads ended
  pub all_returned : {E : Type 0} (system : System G) (play : Play) (ends : Result (Unit {0}) E)
      (old new back : List HostPasses) (ps : List (Played G))
      → AreParted (HostPassesContinue system) (Promises system play) old new ps
      → AllZip (GaveBack (λ (p : Played G) (r : HostPasses × Result (Unit {0}) E).
      IsReturned p.system.value p.play.value p.caller.value r) ends) (reverse ps) back
      → AllZip (HostPassesContinue system) old (new ++ back)
  all_returned {E} system play ends old new back ps parted gave =
      all_back (HostPassesContinue system) (Promises system play)
      (λ (p : Played G) (r : HostPasses
      × Result (Unit {0}) E). IsReturned p.system.value p.play.value p.caller.value r) ends
      old new back ps parted gave
      (λ h b p r is k. (returned_of system play h p (b, r) is k).0)

  -- and where all say Ok
  pub all_played : {E : Type 0} (system : System G) (play : Play) (ends : Result (Unit {0}) E)
      (old new back : List HostPasses) (ps : List (Played G))
      → AreParted (HostPassesContinue system) (Promises system play) old new ps → OnOk ends (new ≡ [])
      → AllZip (GaveBack (λ (p : Played G) (r : HostPasses × Result (Unit {0}) E).
      IsReturned p.system.value p.play.value p.caller.value r) ends) (reverse ps) back
      → OnOk ends (AllZip (HasPlayed system play) old (new ++ back))
  all_played {E} system play ends old new back ps parted none gave =
      all_said (HostPassesContinue system) (Promises system play)
      (λ (p : Played G) (r : HostPasses × Result (Unit {0}) E). IsReturned p.system.value p.play.value p.caller.value r)
      (HasPlayed system play) ends old new back ps parted none gave
      (λ h b p is k. (returned_of {E = E} system play h p (b, Ok tt) is k).1)

-- what was said of one thing is so of what is Ok with it
pub through : {E : Type 0} (X : Type 0) (r s : Result (Unit {0}) E) → OnOk r (s ≡ Ok tt) → OnOk s X → OnOk r X
through X (Ok u) s same x = subst (λ t. OnOk t X) same x
through X (Err e) s same x = tt
