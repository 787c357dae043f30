use Rattle.std.proofs.Common.{arith, refl, ◌∙◌}
use Rattle.std.proofs.lemmas.Bool.{false≢true}
use Rattle.job_table.specs.Slots.{jobs_in}
use Rattle.std.proofs.lemmas.Option.{slice_get_past}
use Rattle.job_table.proofs.Slots.{key_within, length_in, place_in, rises_in}
use Rattle.job_table.proofs.jobs.Jobs.nth.Goals as goal

pub returns-then-place-len-clause-value : goal.returns-then-place-len-clause-value
returns-then-place-len-clause-value c =
    rw (← c.self.view_is) (slice_get_past (jobs_in c.self.inside.jobs c.self.inside.index.keyed) c.args.place
    (omega (arith, c.if-place-len.true, c.len.ensures.value, length_in _ _ c.self.invariant.each)))

pub returns-then-place-len-clause-any : goal.returns-then-place-len-clause-any
returns-then-place-len-clause-any c =
    rw (← c.self.view_is) (
      λ y. absurd (false≢true y),
      λ l. absurd (omega (arith, l, c.if-place-len.true, c.len.ensures.value, length_in _ _ c.self.invariant.each)),
    )

pub returns-then-place-len-clause-law : goal.returns-then-place-len-clause-law
returns-then-place-len-clause-law c = rw (← c.self.view_is) (rises_in _ _ c.self.invariant.each c.self.invariant.rising)

pub one-one-requires : goal.one-one-requires
one-one-requires c = record { there = key_within _ _ _ _ c.self.invariant.each c.key.ensures.key }

pub returns-clause-value : goal.returns-clause-value
returns-clause-value c =
    rw (← c.self.view_is) (place_in _ _ c.args.place _ c.self.invariant.each c.key.ensures.key
    ∙ c.one-one.ensures.value)

pub returns-clause-any : goal.returns-clause-any
returns-clause-any c = rw (← c.self.view_is)
    (λ y. omega (arith, c.if-place-len.false, c.len.ensures.value, length_in _ _ c.self.invariant.each), λ l. refl)

pub returns-clause-law : goal.returns-clause-law
returns-clause-law c = rw (← c.self.view_is) (rises_in _ _ c.self.invariant.each c.self.invariant.rising)
