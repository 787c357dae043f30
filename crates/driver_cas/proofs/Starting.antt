-- A call after its Publish, and the others.
use Rattle.std.proofs.Common.{◌≡◌, ℕ, true, false, ◌&&◌, ◌||◌, eqb, List, ◌∷◌, Some, refl, sym, ap, ap₂, ◌∙◌, subst}
use Rattle.std.proofs.Common.{inl, inr, eqb-true, length}
use Rattle.std.specs.List.{Contains}
use Rattle.std.specs.Prelude.{Err, IfOk, Ok, Result}
use Rattle.std.proofs.lemmas.Bool.{and_parts, cases_Bool, cond-true, cond-false, or_cases}
use Rattle.std.specs.declared.snapshot.Snapshot.{Snapshot}
use Rattle.nvme_model.specs.Operations.{is_pair}
use Rattle.nvme_model.specs.declared.operation.Op.{Op}
use Rattle.nvme_model.specs.declared.submission.Submission.{Submission}
use Rattle.nvme_model.proofs.Cut.{clash}
use Rattle.driver_cas.specs.Cids.{QueueCids, held}
use Rattle.driver_cas.specs.declared.held.CidUse.{CidUse}
use Rattle.driver_calls.specs.Log.{has_cid, sent}
use Rattle.driver_calls.specs.Says.{IsCallIn}
use Rattle.driver_calls.specs.Views.{since}
use Rattle.driver_calls.specs.declared.event.PortEvent.{PortEvent}
use Rattle.driver_calls.specs.declared.request.CallData.{CallData}
use Rattle.driver_calls.specs.declared.request.Request.{Request}
use Rattle.driver_cas.specs.Drivers.{HasSettings, SharesNoCid, IsCallOf, IsSameDriver, made, number_of}
use Rattle.driver_cas.specs.Requests.{IsStart}
use Rattle.driver_cas.specs.SlotStarts.{IsClaimStart, IsReleaseStart, release_data, swap_request}
use Rattle.driver_cas.specs.Starts.{IsAsBefore, IsStarted, IsTaken, IsUntouched}
use Rattle.driver_cas.specs.Tables.{IsHeld, is_free, is_its_cid}
use Rattle.driver_cas.specs.Tries.{IsTryBegun, Sends}
use Rattle.driver_cas.specs.Turns.{AreFree, IsTurn}
use Rattle.driver_cas.specs.declared.call.Call.{Call}
use Rattle.driver_cas.specs.declared.driver.Driver.{Driver}
use Rattle.driver_cas.specs.declared.fault.Fault.{Fault}
use Rattle.driver_cas.specs.declared.port.Port.{Ghosts}
use Rattle.driver_cas.proofs.Drivers.{own_first, own_second, reaped_calls, same_number}
use Rattle.driver_cas.proofs.Sending.{batch_cids, other_call, sent_call}
use Rattle.driver_cas.proofs.Tables.{since_more}

-- the CIDs that a call takes were free
its_free : (cids : QueueCids) (o : Op) (queue first second q i : ℕ) → AreFree cids o queue first second
    → is_its_cid o queue first second q i ≡ true → is_free (held cids q i) ≡ true
its_free cids o queue first second q i free h =
    let a = and_parts (eqb q queue) (eqb i first || (is_pair (Some o) && eqb i second)) h in
    let at : (k : ℕ) → held cids queue k ≡ CidUse.Free → i ≡ k → is_free (held cids q i) ≡ true =
    λ k e j. ap is_free (ap₂ (held cids) (eqb-true q queue a.0) j ∙ e) in
    elim (or_cases (eqb i first) (is_pair (Some o) && eqb i second) a.1) [
      | inl y ↦ at first free.first_free (eqb-true i first y)
      | inr y ↦ at second free.second_free (eqb-true i second (and_parts (is_pair (Some o)) (eqb i second) y).1)
    ]

-- those that one has are not
its_held : (cids : QueueCids) (o : Op) (queue first second q i : ℕ) → IsHeld cids o queue first second
    → is_its_cid o queue first second q i ≡ true → is_free (held cids q i) ≡ false
its_held cids o queue first second q i in_use h =
    let a = and_parts (eqb q queue) (eqb i first || (is_pair (Some o) && eqb i second)) h in
    let at : (k : ℕ) → is_free (held cids queue k) ≡ false → i ≡ k → is_free (held cids q i) ≡ false =
    λ k e j. ap₂ (λ (r m : ℕ). is_free (held cids r m)) (eqb-true q queue a.0) j ∙ e in
    elim (or_cases (eqb i first) (is_pair (Some o) && eqb i second) a.1) [
      | inl y ↦ at first in_use.0 (eqb-true i first y)
      | inr y ↦ let z = and_parts (is_pair (Some o)) (eqb i second) y in
          at second (in_use.1 z.0) (eqb-true i second z.1)
    ]

-- a CID in use isn't among them
not_taken : (cids : QueueCids) (o : Op) (queue first second q i : ℕ) → AreFree cids o queue first second
    → is_free (held cids q i) ≡ false → is_its_cid o queue first second q i ≡ false
not_taken cids o queue first second q i free h = elim (cases_Bool (is_its_cid o queue first second q i)) [
  | inr e ↦ e
  | inl e ↦ absurd (clash (is_free (held cids q i)) (its_free cids o queue first second q i free e) h)
]

-- it waits under those that it took
taken_held : (old new : QueueCids) (o : Op) (queue first second q i : ℕ) → IsTaken old new o queue first second
    → is_its_cid o queue first second q i ≡ true → is_free (held new q i) ≡ false
taken_held old new o queue first second q i taken h =
    ap is_free (taken q i ∙ cond-true (is_its_cid o queue first second q i) CidUse.Waiting (held old q i) h)

-- and those in use stay so
kept_held : (old new : QueueCids) (o : Op) (queue first second q i : ℕ) → IsTaken old new o queue first second
    → AreFree old o queue first second → is_free (held old q i) ≡ false → is_free (held new q i) ≡ false
kept_held old new o queue first second q i taken free h =
    ap is_free (taken q i ∙ cond-false (is_its_cid o queue first second q i) CidUse.Waiting (held old q i)
    (not_taken old o queue first second q i free h)) ∙ h

module _ {P : Type 0} (g : Ghosts P) where
  now_made : (d e : Driver P g) (k : Call P) (l n : ℕ) (contents : CallData) (batch : List Submission)
      → Sends d e k l n contents batch → made e ≡ PortEvent.Sent k.queue batch ∷ made d
  now_made d e k l n contents batch s =
      ap₂ (λ (x : Snapshot P) (log : List PortEvent). since (g.log x.value) log) s.same.began s.log
      ∙ since_more (g.log d.began.value) (g.log d.port) (PortEvent.Sent k.queue batch) d.grows

  now_of : (d e : Driver P g) (k : Call P) (l n : ℕ) (contents : CallData) (batch : List Submission)
      → Sends d e k l n contents batch → IsCallOf e k
  now_of d e k l n contents batch s =
      let number : number_of e k ≡ length (sent (made d) k.queue) =
      ap₂ (λ (x : Snapshot P) (p : P). length (sent (since (g.log x.value) (g.log p)) k.queue)) s.same.began s.start in
      record {
        later = subst (λ (p : P). g.follows p e.port) (sym s.start) s.later;
        known = subst (λ (qs : List ℕ). Contains qs k.queue) (sym s.same.queues) s.known;
        published = subst (λ (z : ℕ × List PortEvent). IsCallIn z.1 k.queue k.op k.first k.second z.0)
            (λ i. (sym number i, sym (now_made d e k l n contents batch s) i))
            (sent_call (made d) k.queue l n k.first k.second k.op contents batch s.free.unlike s.is);
        in_use = (
          taken_held d.cids e.cids k.op k.queue k.first k.second k.queue k.first s.taken (own_first k),
          λ p. taken_held d.cids e.cids k.op k.queue k.first k.second k.queue k.second s.taken (own_second k p),
        );
      }

  now_others : ((a b c : P) → g.follows a b → g.follows b c → g.follows a c)
      → (d e : Driver P g) (k : Call P) (l n : ℕ) (contents : CallData) (batch : List Submission)
      → Sends d e k l n contents batch
      → (other : Call P) → IsCallOf d other → IsCallOf e other × SharesNoCid k other
  now_others on d e k l n contents batch s other of =
      let apart : (i : ℕ) → is_free (held d.cids other.queue i) ≡ false
      → (eqb k.queue other.queue && has_cid i batch) ≡ false = λ i h.
      batch_cids k.queue l n k.first k.second other.queue i k.op contents batch s.is
      ∙ not_taken d.cids k.op k.queue k.first k.second other.queue i s.free h in (
        record {
          later = on other.start.value d.port e.port of.later s.later;
          known = subst (λ (qs : List ℕ). Contains qs other.queue) (sym s.same.queues) of.known;
          published = subst (λ (z : ℕ × List PortEvent). IsCallIn z.1 other.queue other.op other.first other.second z.0)
              (λ i. (sym (same_number g d e other s.same.began) i, sym (now_made d e k l n contents batch s) i))
              (other_call (made d) k.queue batch other.queue other.op other.first other.second (number_of d other)
              (apart other.first of.in_use.0) (λ p. apart other.second (of.in_use.1 p)) of.published);
          in_use = (
            kept_held d.cids e.cids k.op k.queue k.first k.second other.queue other.first s.taken s.free of.in_use.0,
            λ p. kept_held d.cids e.cids k.op k.queue k.first k.second other.queue other.second s.taken s.free
                (of.in_use.1 p),
          );
        },
        λ q i h. elim (cases_Bool (is_its_cid other.op other.queue other.first other.second q i)) [
          | inr x ↦ x
          | inl x ↦ absurd (clash (is_free (held d.cids q i))
              (its_free d.cids k.op k.queue k.first k.second q i s.free h)
              (its_held d.cids other.op other.queue other.first other.second q i of.in_use x))
        ],
      )

  -- ---- over queues that had no room

  pub untouched_self : ((a : P) → g.follows a a) → (d : Driver P g) → IsUntouched d d
  untouched_self stays d =
      record {
        same = record { began = refl; host = refl; acwu = refl; slots = refl; serial = refl; queues = refl };
        later = stays d.port;
        as_before = (refl, refl);
      }

  same_on : (d e f : Driver P g) → IsSameDriver d e → IsSameDriver e f → IsSameDriver d f
  same_on d e f x y =
      record {
        began = y.began ∙ x.began;
        host = y.host ∙ x.host;
        acwu = y.acwu ∙ x.acwu;
        slots = y.slots ∙ x.slots;
        serial = y.serial ∙ x.serial;
        queues = y.queues ∙ x.queues;
      }

  pub untouched_on : ((a b c : P) → g.follows a b → g.follows b c → g.follows a c) → (d e f : Driver P g)
      → IsUntouched d e → IsSameDriver e f → g.follows e.port f.port → IsAsBefore e f → IsUntouched d f
  untouched_on on d e f x same later before =
      record {
        same = same_on d e f x.same same;
        later = on d.port e.port f.port x.later later;
        as_before = (before.0 ∙ x.as_before.0, before.1 ∙ x.as_before.1);
      }

  -- the call is begun
  pub started : ((a b c : P) → g.follows a b → g.follows b c → g.follows a c)
      → (d e f : Driver P g) (k : Call P) (l n : ℕ) (contents : CallData) (batch : List Submission) → IsUntouched d e
      → IsTurn d e.port (record { op = k.op; slba = l; blocks = n }) contents k.queue → Sends e f k l n contents batch
      → IsStarted d f k k.op l n contents
  started on d e f k l n contents batch x turn s =
      record {
        batch = batch;
        is = s.is;
        does = refl;
        turn = subst (λ (p : P). IsTurn d p (record { op = k.op; slba = l; blocks = n }) contents k.queue) (sym s.start)
            turn;
        free = subst (λ (c : QueueCids). AreFree c k.op k.queue k.first k.second) x.as_before.1 s.free;
        since = subst (λ (p : P). g.follows d.port p) (sym s.start) x.later;
        accepted = subst (λ (p : P). g.accepts p f.port k.queue batch) (sym s.start) s.accepted;
        published = now_made e f k l n contents batch s
            ∙ ap (λ (log : List PortEvent). PortEvent.Sent k.queue batch ∷ log) x.as_before.0;
        taken = subst (λ (c : QueueCids). IsTaken c f.cids k.op k.queue k.first k.second) x.as_before.1 s.taken;
        of = now_of e f k l n contents batch s;
        others = λ other of. now_others on e f k l n contents batch s other
            (reaped_calls g on d e other x.same x.later (inl x.as_before.0)
            (λ q i. ap (λ (c : QueueCids). is_free (held c q i)) x.as_before.1) of);
      }

  pub begun : ((a b c : P) → g.follows a b → g.follows b c → g.follows a c)
      → (d e f : Driver P g) (k : Call P) (r : Request) (contents same : CallData) (batch : List Submission)
      → IsUntouched d e → k.op ≡ r.op → same ≡ contents
      → IsTurn d e.port r contents k.queue → Sends e f k r.slba r.blocks same batch
      → IsStarted d f k r.op r.slba r.blocks contents
  begun on d e f k r contents same batch x does is turn s =
      subst (λ (o : Op). IsStarted d f k o r.slba r.blocks contents) does
      (started on d e f k r.slba r.blocks contents batch x
      (subst (λ (o : Op). IsTurn d e.port (record { op = o; slba = r.slba; blocks = r.blocks }) contents k.queue)
      (sym does) turn)
      (subst (λ (c : CallData). Sends e f k r.slba r.blocks c batch) is s))

  -- ---- what a start call keeps

  -- after a fault
  kept : ((a b c : P) → g.follows a b → g.follows b c → g.follows a c) → (d e : Driver P g) → IsSameDriver d e
      → g.follows d.port e.port → IsAsBefore d e → (k : Call P) → IsCallOf d k → IsCallOf e k
  kept on d e same later x k of =
      reaped_calls g on d e k same later (inl x.0) (λ q i. ap (λ (c : QueueCids). is_free (held c q i)) x.1) of

  begun_keeps : ((a b c : P) → g.follows a b → g.follows b c → g.follows a c)
      → (d e : Driver P g) (q : Request) (contents : CallData) (r : Result (Call P) Fault) → IsSameDriver d e
      → g.follows d.port e.port → IsTryBegun d e q contents r
      → IfOk r (IsCallOf e) × ((k : Call P) → IsCallOf d k → IsCallOf e k × IfOk r (λ begun. SharesNoCid begun k))
  begun_keeps on d e q contents (Ok k) same later s = (s.of, λ other of. s.others other of)
  begun_keeps on d e q contents (Err f) same later s = (tt, λ other of. (kept on d e same later s.0 other of, tt))

  pub start_keeps : ((a b c : P) → g.follows a b → g.follows b c → g.follows a c)
      → (d e : Driver P g) (asked : Result Request Fault) (contents : CallData) (r : Result (Call P) Fault)
      → IsSameDriver d e
      → g.follows d.port e.port → IsStart d e asked contents r
      → IfOk r (IsCallOf e) × ((k : Call P) → IsCallOf d k → IsCallOf e k × IfOk r (λ begun. SharesNoCid begun k))
  start_keeps on d e (Ok q) contents r same later s = begun_keeps on d e q contents r same later s
  start_keeps on d e (Err f) contents r same later s = (
    subst (λ (x : Result (Call P) Fault). IfOk x (IsCallOf e)) (sym s.0) tt,
    λ other of. (
      kept on d e same later s.2 other of,
      subst (λ (x : Result (Call P) Fault). IfOk x (λ begun. SharesNoCid begun other)) (sym s.0) tt,
    ),
  )

  pub claim_keeps : ((a b c : P) → g.follows a b → g.follows b c → g.follows a c)
      → (d e : Driver P g) (lba : ℕ) (r : Result (Call P × ℕ) Fault) → HasSettings d e → g.follows d.port e.port
      → IsClaimStart d e lba r
      → IfOk r (λ begun. IsCallOf e begun.0)
      × ((k : Call P) → IsCallOf d k → IsCallOf e k × IfOk r (λ begun. SharesNoCid begun.0 k))
  claim_keeps on d e lba (Ok k) settings later s = (s.2.of, λ other of. s.2.others other of)
  claim_keeps on d e lba (Err f) settings later s =
      let same : IsSameDriver d e = record {
        began = settings.began;
        host = settings.host;
        acwu = settings.acwu;
        slots = settings.slots;
        serial = s.0;
        queues = settings.queues;
      } in
      (tt, λ other of. (kept on d e same later s.1 other of, tt))

  pub release_keeps : ((a b c : P) → g.follows a b → g.follows b c → g.follows a c)
      → (d e : Driver P g) (lba serial : ℕ) (r : Result (Call P) Fault) → IsSameDriver d e → g.follows d.port e.port
      → IsReleaseStart d e lba serial r
      → IfOk r (IsCallOf e) × ((k : Call P) → IsCallOf d k → IsCallOf e k × IfOk r (λ begun. SharesNoCid begun k))
  release_keeps on d e lba serial r same later s =
      begun_keeps on d e (swap_request lba) (release_data d.host serial) r same later s
