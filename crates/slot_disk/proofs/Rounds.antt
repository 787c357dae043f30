-- Hosts that have met a server twice: what it had seen between the two they know to be theirs.
use Rattle.std.proofs.Common.{List, None, Option, Some, [], ap, arith, cond, eqb, length, refl, subst}
use Rattle.std.proofs.Common.{suc, sym, Bool, false, inl, inr, true, zero, ℕ, ◌+◌, ◌++◌, ◌<◌, ◌∙◌, ◌∷◌, ◌≡◌, ◌≢◌, ◌≤◌}
use Rattle.std.specs.Prelude.{Err, IfOk, Ok, OnOk, Result, slice_get, slice_set}
use Rattle.std.proofs.lemmas.List.{length-set}
use Rattle.std.proofs.lemmas.Bool.{cases_eq}
use Rattle.std.proofs.lemmas.Option.{slice_get_within}
use Rattle.slot_disk.proofs.Looks.{there}
use Rattle.nvme_model.specs.Passes.{IsBeginning, SharedPast, places}
use Rattle.nvme_model.specs.declared.array.Range.{Range}
use Rattle.nvme_model.specs.declared.config.ConfigNumbers.{ConfigNumbers}
use Rattle.host_laws.proofs.Beside.{places_grow}
use Rattle.driver_calls.proofs.Views.{begins_on}
use Rattle.meet_lock.specs.Passes.{mine, number, seen}
use Rattle.work_queue.specs.Engines.{EnginePass}
use Rattle.work_queue.specs.declared.engine.Engine.{Engine}
use Rattle.driver_cas.specs.contracts.shared_port.SharedPortPort.TheImpl.{ghosts}
use Rattle.driver_cas.specs.declared.shared_port.SharedPort.{SharedPort}
use Rattle.slot_host.proofs.Places.{element_of, set_there}
use Rattle.slot_host.specs.declared.slot_host.SlotHost.{SlotHost}
use Rattle.slot_disk.specs.Hosts.{AreHosts, HasMet, HaveMet, IsDiskHost, host_pass, host_view, views}
use Rattle.plain_lemmas.proofs.Options.{some_one}

pub begins_same : (xs ys : SharedPast) → xs ≡ ys → IsBeginning xs ys
begins_same xs ys e = ([], e)

-- ---- entries of one pass

-- entries of which none is of a pass add no place of it
no_more : (p : ℕ) (later now : SharedPast) → length (places p (later ++ now)) ≤ length (places p now)
    → places p (later ++ now) ≡ places p now
no_more p [] now e = refl
no_more p (m ∷ later) now e = go (eqb m.0 p) e (no_more p later now) (places_grow p later now)
  where
    go : (b : Bool)
        → length (cond b (suc (length (later ++ now)) ∷ places p (later ++ now)) (places p (later ++ now)))
        ≤ length (places p now)
        → (length (places p (later ++ now)) ≤ length (places p now) → places p (later ++ now) ≡ places p now)
        → length (places p now) ≤ length (places p (later ++ now))
        → cond b (suc (length (later ++ now)) ∷ places p (later ++ now)) (places p (later ++ now)) ≡ places p now
    go true f ih grow = absurd (omega (arith, f, grow))
    go false f ih grow = ih f

-- what stands between two histories with the same entries of a pass has these, too
pub between : (p : ℕ) (first mid last : SharedPast) → IsBeginning first mid → IsBeginning mid last
    → places p last ≡ places p first → places p mid ≡ places p last
between p first mid last a b same =
    let low : length (places p first) ≤ length (places p mid) =
    subst (λ (s : SharedPast). length (places p first) ≤ length (places p s)) a.1 (places_grow p a.0 first) in
    let few = ap length same in
    let e : places p (b.0 ++ mid) ≡ places p mid =
    no_more p b.0 mid (subst (λ (s : SharedPast). length (places p s) ≤ length (places p mid)) (sym b.1)
    (omega (arith, low, few))) in
    sym e ∙ ap (places p) b.1

-- ---- one host more

-- before the first meets it
pub none_met : (hs : List (SlotHost SharedPort ghosts)) (p : EnginePass) → HaveMet 0 hs hs p p
none_met hs p =
    record {
      count = refl;
      grows = begins_same (seen p) (seen p) refl;
      met = λ k s t less. absurd (omega (arith, less));
      rest = λ k above. refl;
    }

-- what is at another place than this one
apart_get : {A : Type 0} (xs : List A) (n k : ℕ) (y : A) → k ≢ n → slice_get (slice_set xs n y) k ≡ slice_get xs k
apart_get [] n k y e = refl
apart_get (x ∷ xs) zero zero y e = absurd (e refl)
apart_get (x ∷ xs) zero (suc k) y e = refl
apart_get (x ∷ xs) (suc n) zero y e = refl
apart_get (x ∷ xs) (suc n) (suc k) y e = apart_get xs n k y (λ f. e (ap suc f))

-- the host at place n has met it
pub one_more : (n : ℕ) (hs js : List (SlotHost SharedPort ghosts)) (s t : SlotHost SharedPort ghosts)
    (p q r : EnginePass)
    → HaveMet n hs js p q → slice_get js n ≡ Some s → HasMet s t q r → IsBeginning (seen q) (seen r)
    → HaveMet (n + 1) hs (slice_set js n t) p r
one_more n hs js s t p q r x here y grows =
    record {
      count = length-set js n t ∙ x.count;
      grows = begins_on (seen p) (seen q) (seen r) x.grows grows;
      met = λ k a b less was now. go k a b less was now;
      rest = λ k above. apart_get js n k t (λ e. omega (arith, e, above)) ∙ x.rest k (omega (arith, above));
    }
  where
    before : slice_get hs n ≡ Some s
    before = sym (x.rest n (omega arith)) ∙ here

    newest : HasMet s t p r
    newest = record {
      since = begins_on (seen p) (seen q) (seen (host_pass t)) x.grows y.since;
      within = y.within;
      mine_stay = y.mine_stay;
    }

    older : (k : ℕ) (a b : SlotHost SharedPort ghosts) → k < n → slice_get hs k ≡ Some a → slice_get js k ≡ Some b
        → HasMet a b p r
    older k a b less was now =
        let z = x.met k a b less was now in
        record {
          since = z.since;
          within = begins_on (seen (host_pass b)) (seen q) (seen r) z.within grows;
          mine_stay = z.mine_stay;
        }

    go : (k : ℕ) (a b : SlotHost SharedPort ghosts) → k < n + 1 → slice_get hs k ≡ Some a
        → slice_get (slice_set js n t) k ≡ Some b → HasMet a b p r
    go k a b less was now = elim (cases_eq k n) [
      | inl e ↦
          let first : s ≡ a = some_one s a (sym before ∙ (ap (slice_get hs) (sym e) ∙ was)) in
          let second : t ≡ b =
          some_one t b (sym (set_there js n s t here) ∙ (ap (slice_get (slice_set js n t)) (sym e) ∙ now)) in
          subst (λ (z : SlotHost SharedPort ghosts × SlotHost SharedPort ghosts). HasMet z.0 z.1 p r)
          (λ m. (first m, second m)) newest
      | inr f ↦
          older k a b (omega (arith, less, f)) was (sym (apart_get js n k t f) ∙ now)
    ]

-- what is seen of hosts of which one met a server
pub views_stay : (js : List (SlotHost SharedPort ghosts)) (n : ℕ) (s t : SlotHost SharedPort ghosts)
    → slice_get js n ≡ Some s
    → host_view t ≡ host_view s → views (slice_set js n t) ≡ views js
views_stay [] n s t here same = refl
views_stay (x ∷ js) zero s t here same =
    ap (λ v. v ∷ views js) (same ∙ ap host_view (sym (some_one x s here)))
views_stay (x ∷ js) (suc n) s t here same = ap (λ vs. host_view x ∷ vs) (views_stay js n s t here same)

-- the hosts, of which one is another
pub hosts_with : (eng : Engine) (c : ConfigNumbers) (slots : Range) (js : List (SlotHost SharedPort ghosts)) (n : ℕ)
    (t : SlotHost SharedPort ghosts) → AreHosts eng c slots js → IsDiskHost eng c slots (n + 1) t
    → AreHosts eng c slots (slice_set js n t)
hosts_with eng c slots js n t all one =
    element_of (λ k s. IsDiskHost eng c slots (k + 1) s) js n t (λ k s apart there. all k s there) one

-- what a host that was asked to meet a server has seen then
pub met_now : {A E : Type 0} (r : Result A E) (s t : SlotHost SharedPort ghosts) (p q : EnginePass)
    → IfOk r (λ u. seen (host_pass t) ≡ seen q) → IsBeginning (seen p) (seen q)
    → mine (host_pass t) ≡ mine (host_pass s) → OnOk r (HasMet s t p q)
met_now (Ok u) s t p q same grows mine_stay =
    record {
      since = subst (λ (z : SharedPast). IsBeginning (seen p) z) (sym same) grows;
      within = begins_same (seen (host_pass t)) (seen q) same;
      mine_stay = mine_stay;
    }
met_now (Err e) s t p q same grows mine_stay = tt

-- What was seen between two rounds each host knows to be theirs.
pub known_twice : (eng : Engine) (c : ConfigNumbers) (slots : Range) (hs js ks : List (SlotHost SharedPort ghosts))
    (p q r : EnginePass) → AreHosts eng c slots js → AreHosts eng c slots ks → HaveMet (length hs) hs js p q
    → HaveMet (length js) js ks q r → (k : ℕ) (u : SlotHost SharedPort ghosts) → slice_get ks k ≡ Some u
    → IsBeginning (seen q) (seen (host_pass u)) × (places (number (host_pass u)) (seen q) ≡ mine (host_pass u))
known_twice eng c slots hs js ks p q r first second x y k u now =
    let within = slice_get_within ks k u now in
    let more = y.count in
    let some = x.count in
    let t = there js k (omega (arith, within, more)) in
    let s = there hs k (omega (arith, within, more, some)) in
    let early = x.met k s.0 t.0 (omega (arith, within, more, some)) s.1 t.1 in
    let late = y.met k t.0 u (omega (arith, within, more)) t.1 now in
    let same : number (host_pass u) ≡ number (host_pass t.0) =
    (second k u now).state.host.pass_is ∙ sym (first k t.0 t.1).state.host.pass_is in
    let stays : places (number (host_pass u)) (seen (host_pass u))
    ≡ places (number (host_pass u)) (seen (host_pass t.0)) =
    late.mine_stay ∙ ap (λ (n : ℕ). places n (seen (host_pass t.0))) (sym same) in (
      late.since,
      between (number (host_pass u)) (seen (host_pass t.0)) (seen q) (seen (host_pass u)) early.within
          late.since stays,
    )
