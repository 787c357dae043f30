-- A step that was made or refused, and what was printed of it.
use Rattle.std.proofs.Common.{◌≡◌, ◌≢◌, ◌≤◌, ℕ, List, [], ◌∷◌, None, Some, arith, length, refl, sym, ap, subst}
use Rattle.std.specs.Prelude.{Option, Result, Ok, Err, OnOk, OnErr, unwrap_or}
use Rattle.std.specs.Io.KnownBytes.{Appends}
use Rattle.line_text.specs.Known.{AppendsFront}
use Rattle.line_text.proofs.Known.{on_ok_then, on_err_then}
use Rattle.nvme_model.specs.History.{Past}
use Rattle.nvme_model.specs.Refusals.{refusal}
use Rattle.nvme_model.specs.Steps.{next_entry}
use Rattle.nvme_model.specs.declared.entry.Entry.{Entry}
use Rattle.nvme_model.specs.declared.refusal.Why.{Why}
use Rattle.nvme_model.specs.declared.step.Step.{Step}
use Rattle.controller_interface.specs.State.{Serves, ControllerState, state_after, refused_as}
use Rattle.controller_interface.specs.declared.answer.Answer.{Answer}
use Rattle.controller_interface.specs.declared.answer.Refused.{Refused}
use Rattle.casdisk_texts.specs.Doing.{SaysAll, why_of}
use Rattle.casdisk_texts.specs.Said.{entry_text, refusal_text, step_by, step_says}
use Rattle.casdisk_texts.specs.declared.meaning.WriteFault.{WriteFault}

-- nothing is a beginning of every text
pub silent_front : (w v : Option (List ℕ)) (text : List ℕ) → Appends w v [] → AppendsFront w v text
silent_front w v text h = record { front = []; rest = text; whole = refl; written = h }

-- why the controller refused a step
pub why_refused : (step : Step) (why : Why) → why_of (refused_as step why) ≡ why
why_refused (Step.Publish q batch) why = refl
why_refused (Step.Fetch q) why = refl
why_refused (Step.Grant t) why = refl
why_refused (Step.Block t) why = refl
why_refused (Step.Post t) why = refl
why_refused (Step.Reap q) why = refl

-- where it wasn't for memory the refusal is that of the definitions
pub refusal_is : (o : Option Why) (why : Why) → why ≡ unwrap_or o Why.NoMemory → why ≢ Why.NoMemory → o ≡ Some why
refusal_is None why e n = absurd (n e)
refusal_is (Some x) why e n = ap Some (sym e)

-- a step leaves the configuration
pub config_served : (old new : ControllerState) (step : Step) (r : Result Answer Refused) → Serves old step r new
    → new.config ≡ old.config
config_served old new step (Ok a) s = ap (λ (x : ControllerState). x.config) s.1
config_served old new step (Err r) s = ap (λ (x : ControllerState). x.config) s.1

-- nothing more is there to be seen of a refused step
pub refused_seen : (old new : ControllerState) (Stands : Past → Type 0) (r : Result (Unit {0}) WriteFault)
    → new ≡ record old { room = new.room } → Stands old.past → OnOk r (Stands new.past)
refused_seen old new Stands (Ok x) same stands =
    subst Stands (sym (ap (λ (x : ControllerState). x.past) same)) stands
refused_seen old new Stands (Err x) same stands = tt

module _ (kinds : ℕ) (old new : ControllerState) (step : Step) (w v : Option (List ℕ)) where
  module _ (r : Result (Unit {0}) WriteFault) (none : refusal old.config old.past step ≡ None)
      (made : new ≡ state_after old step new.room) (few : old.forgotten ≤ length old.past) where
    -- the new entry isn't forgotten
    kept : new.forgotten ≤ length old.past
    kept = omega (arith, few, ap (λ (x : ControllerState). x.forgotten) made)

    pub made_done : ((e : Entry) (past : Past) → new.past ≡ e ∷ past → new.forgotten ≤ length past
        → OnOk r (Appends w v (entry_text kinds e)))
        → OnOk r (SaysAll (step_says kinds old.config old.past step) new.past w v)
    made_done told =
        on_ok_then r (λ (p : Appends w v (entry_text kinds (next_entry old.config old.past step))).
        subst (λ o. SaysAll (step_by kinds old.config old.past step o) new.past w v) (sym none)
        (ap (λ (x : ControllerState). x.past) made, p))
        (told (next_entry old.config old.past step) old.past (ap (λ (x : ControllerState). x.past) made) kept)

    -- whoever watches has seen the new entry too
    pub made_seen : (Before After : Past → Type 0) → ((e : Entry) (past : Past) → new.past ≡ e ∷ past
        → new.forgotten ≤ length past → Before past → OnOk r (After (e ∷ past)))
        → Before old.past → OnOk r (After new.past)
    made_seen Before After seen stands =
        let is = ap (λ (x : ControllerState). x.past) made in
        subst (λ p. OnOk r (After p)) (sym is)
        (seen (next_entry old.config old.past step) old.past is kept stands)

    pub made_stopped : ((e : Entry) (past : Past) → new.past ≡ e ∷ past → new.forgotten ≤ length past
        → OnErr r (AppendsFront w v (entry_text kinds e)))
        → OnErr r (AppendsFront w v (step_says kinds old.config old.past step).1)
    made_stopped told =
        on_err_then r (λ (p : AppendsFront w v (entry_text kinds (next_entry old.config old.past step))).
        subst (λ o. AppendsFront w v (step_by kinds old.config old.past step o).1) (sym none) p)
        (told (next_entry old.config old.past step) old.past (ap (λ (x : ControllerState). x.past) made) kept)

  module _ (why : Why) (is : why ≡ unwrap_or (refusal old.config old.past step) Why.NoMemory) where
    pub refused_done : (r : Result (Unit {0}) WriteFault) → new ≡ record old { room = new.room }
        → OnOk r (Appends w v (refusal_text kinds why)) → OnOk r (why ≢ Why.NoMemory)
        → OnOk r (SaysAll (step_says kinds old.config old.past step) new.past w v)
    refused_done (Ok x) same told other =
        subst (λ o. SaysAll (step_by kinds old.config old.past step o) new.past w v) (sym (refusal_is _ why is other))
        (ap (λ (x : ControllerState). x.past) same, told)
    refused_done (Err x) same told other = tt

    begun : (o : Option Why) → why ≡ unwrap_or o Why.NoMemory → AppendsFront w v (refusal_text kinds why)
        → (why ≡ Why.NoMemory → Appends w v [])
        → AppendsFront w v (step_by kinds old.config old.past step o).1
    begun None e h n = silent_front w v _ (n e)
    begun (Some x) e h n = subst (λ y. AppendsFront w v (refusal_text kinds y)) e h

    pub refused_stopped : (r : Result (Unit {0}) WriteFault) → OnErr r (AppendsFront w v (refusal_text kinds why))
        → OnErr r (why ≡ Why.NoMemory → Appends w v [])
        → OnErr r (AppendsFront w v (step_says kinds old.config old.past step).1)
    refused_stopped (Ok x) told silent = tt
    refused_stopped (Err x) told silent = begun (refusal old.config old.past step) is told silent
