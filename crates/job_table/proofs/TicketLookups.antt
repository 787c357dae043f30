-- Lists by rising ticket: what is in flight, and what a change of it leaves.
use Rattle.std.proofs.Common.{List, None, [], arith, false, is_some, nat_lt, not, refl, subst, sym, true, ℕ, ◌++◌, ◌==◌}
use Rattle.std.proofs.Common.{◌∙◌, ◌∷◌, ◌≡◌}
use Rattle.std.proofs.lemmas.Bool.Decides.{nat_tests}
use Rattle.std.proofs.lemmas.List.{map-append}
use Rattle.std.proofs.lemmas.List.Folds.{list_all-map}
use Rattle.std.specs.List.{filter}
pub use Rattle.job_table.proofs.Rising.{AreRising-filter, AreRising-push, list_all-filter}
use Rattle.job_table.specs.Jobs.{AreRising, AreTicketsRising, all_above, all_jobs_below, has_job_of, job_of}
use Rattle.job_table.specs.Jobs.{jobs_beside, job_tickets}
use Rattle.job_table.specs.declared.jobs.InFlight.{InFlight}

-- ---- a ticket that is in flight, or isn't

-- a job is found where the ticket is in flight
pub is_some-job_of : (jobs : List InFlight) (t : ℕ) → is_some (job_of jobs t) ≡ has_job_of jobs t
is_some-job_of [] t = refl
is_some-job_of (e ∷ es) t = grind (arith, nat_tests, is_some-job_of es t)

-- none is found of a ticket that isn't
pub job_of_absent : (jobs : List InFlight) (t : ℕ) → has_job_of jobs t ≡ false → job_of jobs t ≡ None
job_of_absent [] t k = refl
job_of_absent (e ∷ es) t k = grind (arith, nat_tests, job_of_absent es t)

-- a ticket below all isn't in flight
pub has_ticket_below : (jobs : List InFlight) (t : ℕ) → all_above t (job_tickets jobs) ≡ true
    → has_job_of jobs t ≡ false
has_ticket_below [] t k = refl
has_ticket_below (e ∷ es) t k = grind (arith, nat_tests, has_ticket_below es t)

-- all are others where it isn't in flight
pub beside_absent : (jobs : List InFlight) (t : ℕ) → has_job_of jobs t ≡ false → jobs_beside jobs t ≡ jobs
beside_absent [] t k = refl
beside_absent (e ∷ es) t k = grind (arith, nat_tests, beside_absent es t)

-- ---- the tickets rise

-- a table rises with one above all at its end
pub IsRising-push : (jobs : List InFlight) (e : InFlight) → AreTicketsRising jobs → all_jobs_below e.ticket jobs ≡ true
    → AreTicketsRising (jobs ++ e ∷ [])
IsRising-push jobs e r k =
    subst AreRising (sym (map-append (λ (x : InFlight). x.ticket) jobs (e ∷ [])))
    (AreRising-push (job_tickets jobs) e.ticket r (list_all-map (λ u. nat_lt u e.ticket) (λ x. x.ticket) jobs ∙ k))

-- the tickets beside one
pub tickets-beside : (jobs : List InFlight) (t : ℕ)
    → job_tickets (jobs_beside jobs t) ≡ filter (λ u. not (u == t)) (job_tickets jobs)
tickets-beside [] t = refl
tickets-beside (e ∷ es) t = grind (arith, nat_tests, tickets-beside es t)

-- it rises without one
pub IsRising-beside : (jobs : List InFlight) (t : ℕ) → AreTicketsRising jobs → AreTicketsRising (jobs_beside jobs t)
IsRising-beside jobs t r =
    subst AreRising (sym (tickets-beside jobs t)) (AreRising-filter (λ u. not (u == t)) (job_tickets jobs) r)
