-- A port at a later time.
use Rattle.std.proofs.Common.{◌≡◌, ℕ, Bool, List, [], ◌∷◌, ◌++◌, ◌&&◌, eqb, nat_le, refl, sym, ap, ap₂, ◌∙◌}
use Rattle.std.proofs.Common.{append_assoc, length, arith, subst, take, true, eqb-true}
use Rattle.nvme_model.specs.Config.{completion_queue}
use Rattle.nvme_model.specs.Passes.{IsBeginning, SharedPast, entries, places}
use Rattle.nvme_model.specs.declared.config.ConfigNumbers.{ConfigNumbers}
use Rattle.nvme_model.specs.declared.entry.Entry.{Entry}
use Rattle.driver_calls.specs.Events.{event_at, events}
use Rattle.nvme_model.specs.Legal.{IsLegal}
use Rattle.nvme_model.specs.declared.operation.Op.{Op}
use Rattle.host_laws.specs.Beside.{IsSole}
use Rattle.driver_calls.specs.Log.{is_tidy, sent}
use Rattle.driver_calls.specs.Says.{CallSays, IsCallIn, call_outcome}
use Rattle.driver_calls.specs.Views.{AnswerSays, ViewFollows, PortView, log_of, owns, since}
use Rattle.driver_calls.specs.declared.event.PortEvent.{PortEvent}
use Rattle.driver_calls.proofs.Answering.{answer_says}
use Rattle.std.proofs.lemmas.Bool.{and_parts}
use Rattle.driver_calls.proofs.Following.{others_add_none, own_comes_first}

-- what begins with a beginning begins with it
pub begins_on : (a b c : SharedPast) → IsBeginning a b → IsBeginning b c → IsBeginning a c
begins_on a b c x y = (y.0 ++ x.0, append_assoc y.0 x.0 a ∙ (ap (λ (s : SharedPast). y.0 ++ s) x.1 ∙ y.1))

pub follows_self : (a : PortView) → ViewFollows a a
follows_self a = record { same_config = refl; same_queue = refl; same_pass = refl; goes_on = ([], refl) }

pub follows_on : (a b c : PortView) → ViewFollows a b → ViewFollows b c → ViewFollows a c
follows_on a b c x y =
    record {
      same_config = y.same_config ∙ x.same_config;
      same_queue = y.same_queue ∙ x.same_queue;
      same_pass = y.same_pass ∙ x.same_pass;
      goes_on = begins_on a.seen b.seen c.seen x.goes_on y.goes_on;
    }

pub owns_same : (a b : PortView) (q : ℕ) → ViewFollows a b → owns b q ≡ owns a q
owns_same a b q x =
    ap₂ (λ (c : ConfigNumbers) (n : ℕ). nat_le 1 q && nat_le q c.pairs && eqb (completion_queue c q) n) x.same_config
    x.same_queue

-- ---- what a pass's step adds to its events

-- what was seen before the entry that the pass added begins with what it had seen
pub accepted_before : (p : ℕ) (e : Entry) (before old new : SharedPast) → new ≡ (p, e) ∷ before
    → places p new ≡ length new ∷ places p old → IsBeginning old new → IsBeginning old before
accepted_before p e before old new ends adds ([], s) =
    absurd (longer_than_itself (places p old) (length new) (ap (places p) s ∙ adds))
  where
    longer_than_itself : (xs : List ℕ) (x : ℕ) → xs ≡ x ∷ xs → ⊥
    longer_than_itself xs x h = omega (arith, ap length h)
accepted_before p e before old new ends adds (m ∷ later, s) = (later, ap tail (s ∙ ends))
  where
    tail : SharedPast → SharedPast
    tail [] = []
    tail (x ∷ xs) = xs

pub events_accepted : (c : ConfigNumbers) (n p : ℕ) (e : Entry) (before old new : SharedPast) → new ≡ (p, e) ∷ before
    → places p new ≡ length new ∷ places p old → IsBeginning old new
    → events c n p new ≡ event_at c n (entries before) e ++ events c n p old
events_accepted c n p e before old new ends adds on =
    let b = accepted_before p e before old new ends adds on in
    let whole : (p, e) ∷ (b.0 ++ old) ≡ new = ap (λ (s : SharedPast). (p, e) ∷ s) b.1 ∙ sym ends in
    ap (events c n p) (sym whole)
    ∙ (own_comes_first c n p (length new) e b.0 old (ap (places p) whole ∙ adds)
    ∙ ap (λ (s : SharedPast). event_at c n (entries s) e ++ events c n p old) b.1)

pub events_declined : (c : ConfigNumbers) (n p : ℕ) (old new : SharedPast) → places p new ≡ places p old
    → IsBeginning old new → events c n p new ≡ events c n p old
events_declined c n p old new same on =
    ap (events c n p) (sym on.1) ∙ others_add_none c n p on.0 old (ap (places p) on.1 ∙ same)

-- ---- what an answer says

take_all : (log : List PortEvent) → take (length log) log ≡ log
take_all [] = refl
take_all (e ∷ log) = ap (λ (xs : List PortEvent). e ∷ xs) (take_all log)

pub since_none : (log : List PortEvent) → since [] log ≡ log
since_none log = ap (λ (k : ℕ). take k log) (omega arith) ∙ take_all log

pub view_tells : (before : List PortEvent) (start now : PortView) (q j first second : ℕ) (o : Op)
    → IsLegal now.config (entries now.seen) → ViewFollows start now → owns now q ≡ true
    → is_tidy (since before (log_of now)) ≡ true
    → j ≡ length (sent (since before (log_of start)) q) → IsCallIn (since before (log_of now)) q o first second j
    → AnswerSays before start now q j o (call_outcome (since before (log_of now)) q o first second)
view_tells before start now q j first second o legal on own tidy number call = λ alone.
    let c = now.config in
    let n = now.queue in
    let p = now.pass in
    let here : (log : List PortEvent) → since before log ≡ log =
    λ log. ap (λ (b : List PortEvent). since b log) alone.none ∙ since_none log in
    let there : log_of start ≡ events c n p start.seen =
    ap₂ (λ (d : ConfigNumbers) (m : ℕ). events d m start.pass start.seen) (sym on.same_config) (sym on.same_queue)
    ∙ ap (λ (k : ℕ). events c n k start.seen) (sym on.same_pass) in
    let at : j ≡ length (sent (events c n p start.seen) q) =
    number ∙ ap (λ (log : List PortEvent). length (sent log q)) (here (log_of start) ∙ there) in
    let said = says_over c n p on.goes_on.0 start.seen now.seen q j first second o on.goes_on.1 legal alone.sole
    (ap is_tidy (sym (here (log_of now))) ∙ tidy) (uses now q own) at
    (subst (λ (log : List PortEvent). IsCallIn log q o first second j) (here (log_of now)) call) in
    subst (λ (log : List PortEvent).
    CallSays c (entries start.seen) (entries now.seen) q j o (call_outcome log q o first second))
    (sym (here (log_of now))) said
  where
    uses : (v : PortView) (q : ℕ) → owns v q ≡ true → completion_queue v.config q ≡ v.queue
    uses v q h = eqb-true (completion_queue v.config q) v.queue
        (and_parts (nat_le 1 q && nat_le q v.config.pairs) (eqb (completion_queue v.config q) v.queue) h).1

    says_over : (c : ConfigNumbers) (n p : ℕ) (later start shared : SharedPast) (q j first second : ℕ) (o : Op)
        → later ++ start ≡ shared → IsLegal c (entries shared) → IsSole c n p shared
        → is_tidy (events c n p shared) ≡ true → completion_queue c q ≡ n → j ≡ length (sent (events c n p start) q)
        → IsCallIn (events c n p shared) q o first second j
        → CallSays c (entries start) (entries shared) q j o (call_outcome (events c n p shared) q o first second)
    says_over c n p later start shared q j first second o whole =
        subst (λ (s : SharedPast). IsLegal c (entries s) → IsSole c n p s → is_tidy (events c n p s) ≡ true
        → completion_queue c q ≡ n → j ≡ length (sent (events c n p start) q)
        → IsCallIn (events c n p s) q o first second j
        → CallSays c (entries start) (entries s) q j o (call_outcome (events c n p s) q o first second)) whole
        (answer_says c n p later start q j first second o)
