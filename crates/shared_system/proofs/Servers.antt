-- What a server has seen, and what it made.
use Rattle.std.proofs.Common.{Bool, List, None, Option, Some, [], ap, arith, cond, eq-eqb, eqb, false, length, not}
use Rattle.std.proofs.Common.{refl, subst, suc, sym, true, ℕ, ◌&&◌, ◌++◌, ◌||◌, ◌∙◌, ◌∷◌, ◌≡◌}
use Rattle.std.proofs.lemmas.Bool.{and_from, and_parts, cond-true, or_right}
use Rattle.nvme_model.specs.History.{Past}
use Rattle.nvme_model.specs.Kept.{ControllerInvariant}
use Rattle.nvme_model.specs.Passes.{IsBeginning, SharedPast, entries, places}
use Rattle.nvme_model.specs.Steps.{block_entry, grant_entry, next_entry, post_entry}
use Rattle.nvme_model.specs.declared.array.Range.{Range}
use Rattle.nvme_model.specs.declared.config.ConfigNumbers.{ConfigNumbers}
use Rattle.nvme_model.specs.declared.entry.Entry.{Entry}
use Rattle.nvme_model.specs.declared.entry.GrantLine.{GrantLine}
use Rattle.nvme_model.specs.declared.status.Status.{Status}
use Rattle.nvme_model.specs.declared.step.Step.{Step}
use Rattle.nvme_model.proofs.Cut.{clash}
use Rattle.controller_interface.specs.State.{Accepts, Refuses}
use Rattle.controller_interface.specs.declared.answer.Answer.{Answer}
use Rattle.host_laws.proofs.Beside.{places_grow}
use Rattle.meet_lock.specs.Lock.{AreOfPasses, ExtendsByPasses}
use Rattle.meet_lock.specs.Passes.{Accepted, Declines, IsSame, Knows, config_of, mine, number, passes_of, seen}
use Rattle.meet_lock.specs.declared.pass.Declined.{Declined}
use Rattle.meet_lock.proofs.Beginnings.{both}
use Rattle.work_queue.specs.Engines.{EnginePass}
use Rattle.shared_system.specs.Servers.{IsServing, is_served, is_serving, serves}

-- ---- histories that go on

pub of_passes_before : (n : ℕ) (xs ys : SharedPast) → AreOfPasses n (xs ++ ys) → AreOfPasses n ys
of_passes_before n [] ys a = a
of_passes_before n (x ∷ xs) ys a = of_passes_before n xs ys a.1

pub serves_before : (k : ℕ) (xs ys : SharedPast) → serves k (xs ++ ys) ≡ true → serves k ys ≡ true
serves_before k [] ys h = h
serves_before k (x ∷ xs) ys h =
    serves_before k xs ys (and_parts (not (eqb x.0 k) || is_serving x.1) (serves k (xs ++ ys)) h).1

-- others add nothing of its own
serves_later : (k : ℕ) (later seen : SharedPast) → places k (later ++ seen) ≡ places k seen → serves k seen ≡ true
    → serves k (later ++ seen) ≡ true
serves_later k [] seen e h = h
serves_later k (m ∷ later) seen e h = go (eqb m.0 k) e (λ f. serves_later k later seen f h)
  where
    go : (b : Bool) → cond b (suc (length (later ++ seen)) ∷ places k (later ++ seen)) (places k (later ++ seen))
        ≡ places k seen
        → (places k (later ++ seen) ≡ places k seen → serves k (later ++ seen) ≡ true)
        → ((not b || is_serving m.1) && serves k (later ++ seen)) ≡ true
    go true f ih = absurd (omega (arith, places_grow k later seen, ap length f))
    go false f ih = ih f

serves_on : (k : ℕ) (old new : SharedPast) → IsBeginning old new → places k new ≡ places k old → serves k old ≡ true
    → serves k new ≡ true
serves_on k old new b same h =
    subst (λ (s : SharedPast). serves k s ≡ true) b.1 (serves_later k b.0 old (ap (places k) b.1 ∙ same) h)

of_passes_on : (n : ℕ) (old new : SharedPast) → ExtendsByPasses n old new → AreOfPasses n old → AreOfPasses n new
of_passes_on n old new g h = subst (λ (s : SharedPast). AreOfPasses n s) g.0.1 (both n g.0.0 old g.1 h)

-- ---- steps that serve

grant_serves : (past : Past) (t : ℕ) (r : Option Range) → is_serving (grant_entry past t r) ≡ true
grant_serves past t None = refl
grant_serves past t (Some r) = refl

block_serves : (past : Past) (t : ℕ) (g : Option GrantLine) → is_serving (block_entry past t g) ≡ true
block_serves past t None = refl
block_serves past t (Some g) = refl

post_serves : (c : ConfigNumbers) (past : Past) (t : ℕ) (s : Option Status) → is_serving (post_entry c past t s) ≡ true
post_serves c past t None = refl
post_serves c past t (Some s) = refl

next_serves : (c : ConfigNumbers) (past : Past) (step : Step) → is_served step ≡ true
    → is_serving (next_entry c past step) ≡ true
next_serves c past (Step.Publish q batch) h = clash false h refl
next_serves c past (Step.Reap q) h = clash false h refl
next_serves c past (Step.Fetch q) h = refl
next_serves c past (Step.Grant t) h = grant_serves past t _
next_serves c past (Step.Block t) h = block_serves past t _
next_serves c past (Step.Post t) h = post_serves c past t _

-- one more entry of its own, which serves
serves_own : (k : ℕ) (e : Entry) (before : SharedPast) → is_serving e ≡ true → serves k before ≡ true
    → serves k ((k, e) ∷ before) ≡ true
serves_own k e before s h =
    and_from (not (eqb k k) || is_serving e) (serves k before) (or_right (not (eqb k k)) (is_serving e) s) h

-- what it had made before that
rest_places : (k : ℕ) (e : Entry) (before : SharedPast) (x : ℕ) (xs : List ℕ) → places k ((k, e) ∷ before) ≡ x ∷ xs
    → places k before ≡ xs
rest_places k e before x xs h =
    tails (sym (cond-true (eqb k k) (suc (length before) ∷ places k before) (places k before) (eq-eqb k k refl)) ∙ h)
  where
    tails : suc (length before) ∷ places k before ≡ x ∷ xs → places k before ≡ xs
    tails f = cc

-- ---- a server's pass

pub fresh : (p : EnginePass) → seen p ≡ [] → IsServing p
fresh p none = record {
  of_passes = subst (λ (s : SharedPast). AreOfPasses (passes_of p) s) (sym none) tt;
  serves = ap (serves (number p)) none;
}

-- it goes on with its number, of so many
server_from : (p q : EnginePass) → IsSame p q → AreOfPasses (passes_of p) (seen q) → serves (number p) (seen q) ≡ true
    → IsServing q
server_from p q same a b =
    record {
      of_passes = subst (λ (n : ℕ). AreOfPasses n (seen q)) (sym same.2) a;
      serves = subst (λ (k : ℕ). serves k (seen q) ≡ true) (sym same.1) b;
    }

pub noted : (p q : EnginePass) → IsSame p q → seen q ≡ seen p → IsServing p → IsServing q
noted p q same stay x =
    server_from p q same (subst (λ (s : SharedPast). AreOfPasses (passes_of p) s) (sym stay) x.of_passes)
    (subst (λ (s : SharedPast). serves (number p) s ≡ true) (sym stay) x.serves)

pub saw : (p q : EnginePass) → IsSame p q → mine q ≡ mine p → ExtendsByPasses (passes_of p) (seen p) (seen q)
    → IsServing p
    → IsServing q
saw p q same stay goes x =
    server_from p q same (of_passes_on (passes_of p) (seen p) (seen q) goes x.of_passes)
    (serves_on (number p) (seen p) (seen q) goes.0 (subst (λ (k : ℕ). places k (seen q) ≡ mine p) same.1 stay) x.serves)

pub stepped : (p q : EnginePass) (step : Step) (a : Answer) → IsSame p q → Knows ControllerInvariant p q
    → is_served step ≡ true
    → Accepted Accepts p q step a → IsServing p → IsServing q
stepped p q step a same k h acc x =
    let n = number p in
    let e : is_serving acc.entry ≡ true = ap is_serving acc.says.1
    ∙ next_serves (config_of p) (entries acc.before) step h in
    let added : places n ((n, acc.entry) ∷ acc.before) ≡ length (seen q) ∷ mine p = ap (places n) (sym acc.ends)
    ∙ subst (λ (j : ℕ). places j (seen q) ≡ length (seen q) ∷ mine p) same.1 acc.adds in
    let old : serves n acc.before ≡ true =
    serves_on n (seen p) acc.before acc.goes.0 (rest_places n acc.entry acc.before (length (seen q)) (mine p) added)
    x.serves in
    server_from p q same (of_passes_on (passes_of p) (seen p) (seen q) (k.1, k.2) x.of_passes)
    (subst (λ (s : SharedPast). serves n s ≡ true) (sym acc.ends) (serves_own n acc.entry acc.before e old))

-- where it was declined it made nothing
none_made : (p q : EnginePass) (step : Step) (d : Declined) → Declines Refuses p q step d → mine q ≡ mine p
none_made p q step (Declined.Busy s) d = d.2
none_made p q step (Declined.Refused r) d = d.0

pub declined : (p q : EnginePass) (step : Step) (d : Declined) → IsSame p q → Knows ControllerInvariant p q
    → Declines Refuses p q step d → IsServing p → IsServing q
declined p q step d same k h x = saw p q same (none_made p q step d h) (k.1, k.2) x

pub has_seen : (p : EnginePass) (met : SharedPast) → IsServing p → IsBeginning met (seen p)
    → AreOfPasses (passes_of p) met × (serves (number p) met ≡ true)
has_seen p met x b = (
  of_passes_before (passes_of p) b.0 met
      (subst (λ (s : SharedPast). AreOfPasses (passes_of p) s) (sym b.1) x.of_passes),
  serves_before (number p) b.0 met (subst (λ (s : SharedPast). serves (number p) s ≡ true) (sym b.1) x.serves),
)
