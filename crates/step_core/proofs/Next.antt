-- The step that is ready is that of the least ticket in flight that has one.
use Rattle.std.proofs.Common.{◌≡◌, ℕ, zero, suc, ◌+◌, ◌≤◌, Bool, true, false, not, cond, List, [], ◌∷◌, ◌++◌, length}
use Rattle.std.proofs.Common.{drop, option_map, slice_get, Option, Some, None, is_none, refl, sym, ap, ◌∙◌, subst}
use Rattle.std.proofs.Common.{arith}
use Rattle.std.specs.List.{filter, find, flat_map}
use Rattle.std.specs.Option.{option_and_then}
use mathlib.Core.List.{reverse}
use Rattle.std.proofs.lemmas.List.{reverse-append}
use Rattle.nvme_model.specs.declared.config.ConfigNumbers.{ConfigNumbers}
use Rattle.nvme_model.specs.declared.refusal.Why.{Why}
use Rattle.nvme_model.specs.declared.step.Step.{Step}
use Rattle.nvme_model.specs.History.{Past}
use Rattle.nvme_model.specs.Tickets
use Rattle.nvme_model.specs.Tickets.{in_flight, numbers_down}
use Rattle.nvme_model.specs.Refusals.{refusal}
use Rattle.nvme_model.specs.Steps.{is_ready, ready}
use Rattle.ticket_laws.specs.Standing.{flying, rising}
use Rattle.job_table.specs.Jobs.{JobTable}
use Rattle.job_table.specs.Keeping.{Keeping}
use Rattle.job_table.specs.declared.jobs.InFlight.{InFlight}
use Rattle.job_table.proofs.Tables.{length-jobs_by, slice_get-jobs_by}
use Rattle.job_table.specs.Tickets.{job_at, job_table}
use Rattle.controller_interface.specs.State.{Room, ControllerState}
use Rattle.step_core.specs.Found.{next_step}

-- the steps of a ticket beside its Fetch
abbrev pub steps_of : ℕ → List Step
steps_of t = Step.Grant t ∷ Step.Block t ∷ Step.Post t ∷ []

-- the first step of these tickets that nothing refuses
abbrev pub ready_among : ConfigNumbers → Past → List ℕ → Option Step
ready_among c past ts = find (is_ready c past) (flat_map steps_of ts)

-- ---- lists

rising_numbers : (n : ℕ) → reverse (numbers_down n) ≡ rising n
rising_numbers zero = refl
rising_numbers (suc n) = reverse-append (suc n ∷ []) (numbers_down n) ∙ ap (λ xs. xs ++ suc n ∷ []) (rising_numbers n)

-- the first that is found, or what is found else
abbrev pub or_else : Option Step → Option Step → Option Step
or_else None o = o
or_else (Some s) o = Some s

find_append : (p : Step → Bool) (xs ys : List Step) → find p (xs ++ ys) ≡ or_else (find p xs) (find p ys)
find_append p [] ys = refl
find_append p (x ∷ xs) ys = go (p x) (find_append p xs ys)
  where
    go : (b : Bool) → find p (xs ++ ys) ≡ or_else (find p xs) (find p ys)
        → cond b (Some x) (find p (xs ++ ys)) ≡ or_else (cond b (Some x) (find p xs)) (find p ys)
    go true ih = refl
    go false ih = ih

-- ---- tickets that aren't in flight have none

-- by what refuses its three steps
pub next_by : (c : ConfigNumbers) (past : Past) (t : ℕ) (g b p : Option Why) → refusal c past (Step.Grant t) ≡ g
    → refusal c past (Step.Block t) ≡ b → refusal c past (Step.Post t) ≡ p
    → next_step c past t ≡ cond (is_none g) (Some (Step.Grant t))
    (cond (is_none b) (Some (Step.Block t)) (cond (is_none p) (Some (Step.Post t)) None))
next_by c past t g b p grant block post =
    (λ i. cond (is_none (grant i)) (Some (Step.Grant t))
    (cond (is_none (block i)) (Some (Step.Block t)) (cond (is_none (post i)) (Some (Step.Post t)) None)))

refused : (c : ConfigNumbers) (past : Past) (t : ℕ) → in_flight past t ≡ false → next_step c past t ≡ None
refused c past t e =
    next_by c past t (Some Why.NoTicket) (Some Why.NoTicket) (Some Why.NoTicket) (first _ (in_flight past t) e)
    (first _ (in_flight past t) e) (first _ (in_flight past t) e)
  where
    first : (o : Option Why) (x : Bool) → x ≡ false → cond (not x) (Some Why.NoTicket) o ≡ Some Why.NoTicket
    first o false e = refl
    first o true e = absurd cc

one_more : (c : ConfigNumbers) (past : Past) (t : ℕ) (ts : List ℕ)
    → ready_among c past (t ∷ ts) ≡ or_else (next_step c past t) (ready_among c past ts)
one_more c past t ts = find_append (is_ready c past) (steps_of t) (flat_map steps_of ts)

flying_ready : (c : ConfigNumbers) (past : Past) (ts : List ℕ)
    → ready_among c past (filter (in_flight past) ts) ≡ ready_among c past ts
flying_ready c past [] = refl
flying_ready c past (t ∷ ts) = go (in_flight past t) refl (flying_ready c past ts) ∙ sym (one_more c past t ts)
  where
    go : (b : Bool) → in_flight past t ≡ b → ready_among c past (filter (in_flight past) ts) ≡ ready_among c past ts
        → ready_among c past (cond b (t ∷ filter (in_flight past) ts) (filter (in_flight past) ts))
        ≡ or_else (next_step c past t) (ready_among c past ts)
    go true e ih = one_more c past t (filter (in_flight past) ts) ∙ ap (or_else (next_step c past t)) ih
    go false e ih = ih ∙ ap (λ o. or_else o (ready_among c past ts)) (sym (refused c past t e))

-- the step that is ready is the first of those in flight
pub ready_is : (c : ConfigNumbers) (past : Past) → ready_among c past (flying past) ≡ ready c past
ready_is c past = flying_ready c past (rising (Tickets.tickets past))
    ∙ ap (ready_among c past) (sym (rising_numbers (Tickets.tickets past)))

-- ---- one ticket after the other

-- of the tickets from the k-th on
pub step_at : (c : ConfigNumbers) (past : Past) (k : ℕ) (ts : List ℕ)
    → ready_among c past (drop k ts)
    ≡ or_else (option_and_then (next_step c past) (slice_get ts k)) (ready_among c past (drop (k + 1) ts))
step_at c past k ts = go k ts
    ∙ ap (λ n. or_else (option_and_then (next_step c past) (slice_get ts k)) (ready_among c past (drop n ts))) more
  where
    more : suc k ≡ k + 1
    more = omega arith

    go : (k : ℕ) (ts : List ℕ)
        → ready_among c past (drop k ts)
        ≡ or_else (option_and_then (next_step c past) (slice_get ts k)) (ready_among c past (drop (suc k) ts))
    go zero [] = refl
    go (suc k) [] = refl
    go zero (t ∷ ts) = one_more c past t ts
    go (suc k) (t ∷ ts) = go k ts

-- and behind the last
pub ready_past : (c : ConfigNumbers) (past : Past) (k : ℕ) (ts : List ℕ) → length ts ≤ k
    → ready_among c past (drop k ts) ≡ None
ready_past c past zero [] l = refl
ready_past c past zero (t ∷ ts) l = absurd (omega (arith, l))
ready_past c past (suc k) [] l = refl
ready_past c past (suc k) (t ∷ ts) l = ready_past c past k ts (omega (arith, l))

-- ---- the table of jobs has them in this order

ticket_of : (o : Option ℕ) (g : ℕ → Keeping) (e : InFlight)
    → option_map {U = InFlight} (λ t. record { ticket = t; job = g t }) o ≡ Some e → o ≡ Some e.ticket
ticket_of None g e h = absurd (let f : None ≡ Some e = h in cc)
ticket_of (Some t) g e h = ap (λ (y : InFlight). Some y.ticket) (some_inj h)
  where
    some_inj : {x y : InFlight} → Some x ≡ Some y → x ≡ y
    some_inj h = cc

module _ (x : ControllerState) (j : JobTable) (c : ConfigNumbers) (past : Past) (m : ℕ) {f : ℕ} {w : Room}
    (view : record { config = c; past = past; forgotten = f; promised = m; room = w } ≡ x)
    (table : j ≡ job_table c past) where
  -- the ticket at this place
  pub nth_ticket : (i : ℕ) (e : InFlight) → slice_get j.jobs i ≡ Some e → slice_get (flying x.past) i ≡ Some e.ticket
  nth_ticket i e h =
      subst (λ (y : ControllerState). slice_get (flying y.past) i ≡ Some e.ticket) view
      (ticket_of (slice_get (flying past) i) (job_at c past) e
      (sym (slice_get-jobs_by (job_at c past) (flying past) i)
      ∙ ap (λ (y : JobTable). slice_get y.jobs i) (sym table) ∙ h))

  -- and how many there are
  pub count_tickets : length j.jobs ≡ length (flying x.past)
  count_tickets = ap (λ (y : JobTable). length y.jobs) table ∙ length-jobs_by (job_at c past) (flying past)
      ∙ ap (λ (y : ControllerState). length (flying y.past)) view
