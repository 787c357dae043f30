-- A step that nothing refuses, told of the fields and of the controller's value.
use Rattle.std.proofs.Common.{◌≡◌, ℕ, ◌∷◌, Option, None, Result, Ok, Err, is_ok, true, refl, sym, ap, ◌∙◌, subst, arith}
use Rattle.std.specs.Prelude.{IfErr, unwrap_or}
use Rattle.nvme_model.specs.declared.entry.Entry.{Entry}
use Rattle.nvme_model.specs.declared.refusal.Why.{Why}
use Rattle.nvme_model.specs.declared.step.Step.{Step}
use Rattle.nvme_model.specs.History.{Past}
use Rattle.nvme_model.specs.Refusals.{refusal}
use Rattle.nvme_model.specs.Steps.{next_entry}
use Rattle.controller_interface.specs.State.{Room, ControllerState, Serves, TakesRoom, WantsMemory, answer_of}
use Rattle.controller_interface.specs.State.{promised_after}
use Rattle.controller_interface.specs.State.{refused_as}
use Rattle.controller_interface.specs.declared.answer.Answer.{Answer}

-- a call whose error nothing allows answers Ok
pub ok_unless : {A E : Type 0} {P : E → Type 0} (r : Result A E) → IfErr r P → ((e : E) → P e → ⊥) → is_ok r ≡ true
ok_unless (Ok x) h n = refl
ok_unless (Err e) h n = absurd (n e h)

-- what is found of the value is so of the fields
pub accepted : (inside old : ControllerState) (step : Step) (o : Option Why) → inside ≡ old
    → o ≡ refusal old.config old.past step
    → o ≡ None → refusal inside.config inside.past step ≡ None
accepted inside old step o same found none = ap (λ (x : ControllerState). refusal x.config x.past step) same ∙ sym found
    ∙ none

-- what an accepted step does, by the entry that it adds
pub does_accepted : (inside old : ControllerState) (step : Step) (a : Answer) (e : Entry) (p : Past) (n f : ℕ)
    (room : Room)
    → inside ≡ old
    → refusal inside.config inside.past step ≡ None
    → e ≡ next_entry inside.config inside.past step
    → a ≡ answer_of inside.config inside.past (next_entry inside.config inside.past step)
    → p ≡ e ∷ inside.past → f ≡ inside.forgotten → n ≡ promised_after step inside.promised
    → TakesRoom step inside.room room
    → Serves old step (Ok a) (record { config = inside.config; past = p; forgotten = f; promised = n; room = room })
does_accepted inside old step a e p n f room same none entry answer past lost promised takes =
    subst (λ (x : ControllerState). Serves x step (Ok a) (record {
      config = inside.config;
      past = p;
      forgotten = f;
      promised = n;
      room = room;
    }))
    same (
      (none, refl, answer),
      (λ i. record {
        config = inside.config;
        past = (past ∙ ap (λ (y : Entry). y ∷ inside.past) entry) i;
        forgotten = lost i;
        promised = promised i;
        room = room;
      }),
      takes,
    )

-- what a step does that wants memory and leaves all as it was
pub does_wanting : (inside old : ControllerState) (step : Step) → inside ≡ old
    → refusal inside.config inside.past step ≡ None
    → WantsMemory inside step
    → Serves old step (Err (refused_as step Why.NoMemory)) old
does_wanting inside old step same none wants =
    subst (λ (x : ControllerState). Serves x step (Err (refused_as step Why.NoMemory)) x) same (
      ap (λ (o : Option Why). refused_as step (unwrap_or o Why.NoMemory)) (sym none),
      refl,
      record { entries = omega arith; ranges = omega arith },
      wants,
    )

-- the history with one more entry, where making room left it as it was
pub one_more : (e : Entry) (p made old : Past) → made ≡ old → p ≡ e ∷ made → p ≡ e ∷ old
one_more e p made old room more = more ∙ ap (λ (x : Past). e ∷ x) room
