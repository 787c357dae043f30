-- What is written of a history that was judged.
use Rattle.std.proofs.Common.{All, Err, List, Ok, OnOk, Option, Result, [], ap, refl, reverse, subst, true, ℕ, ◌≡◌, ◌∙◌}
use Rattle.std.proofs.KnownBytes.{Appends-nil, Keeps-refl}
use Rattle.std.proofs.lemmas.List.{reverse-reverse}
use Rattle.std.specs.Io.KnownBytes.{Appends}
use Rattle.line_text.specs.Known.{AppendsFront}
use Rattle.history.specs.Lines.{HasLine}
use Rattle.history.specs.Texts.{history_text}
use Rattle.nvme_model.specs.History.{Past}
use Rattle.nvme_model.specs.Legal.{IsLegal}
use Rattle.nvme_model.specs.declared.array.Range.{Range}
use Rattle.nvme_model.specs.declared.config.ConfigNumbers.{ConfigNumbers}
use Rattle.nvme_model.specs.declared.entry.Entry.{Entry}
use Rattle.host_laws.specs.Rules.{takeover_disciplined}
use Rattle.race.specs.Crashes.{AreSlotsFree, Crashes, HasHeld, StopsJudging, IsUnkept, IsUnraced, KeepsTakeovers}
use Rattle.race.specs.Crashes.{TellsCrash}
use Rattle.race.specs.declared.crash_fault.CrashFault.{CrashFault}
use Rattle.race.specs.declared.crash_fault.CrashFault.TheVariants.{NoHistory, NoMemory, Output, SlotHeld, SlotsAt}

-- what was judged of the entries holds of the history
pub keeps_takeovers : (c d : ConfigNumbers) (slots : Range) (past : Past) (entries : List Entry) → d ≡ c
    → entries ≡ reverse past → takeover_disciplined d slots (reverse entries) ≡ true → AreSlotsFree slots past
    → KeepsTakeovers c slots past
keeps_takeovers c d slots past entries same is kept free = record {
  disciplined =
      let back : reverse entries ≡ past = ap reverse is ∙ reverse-reverse past in
      subst (λ (z : ConfigNumbers × Past). takeover_disciplined z.0 slots z.1 ≡ true) (λ i. (same i, back i)) kept;
  free = free;
}

-- or why it isn't kept
pub unkept : (c d : ConfigNumbers) (slots : Range) (past : Past) (entries : List Entry) (f : CrashFault) → d ≡ c
    → entries ≡ reverse past → StopsJudging d slots entries f → IsUnkept c slots past f
unkept c d slots past entries f same is why =
    go f (subst (λ (z : ConfigNumbers × List Entry). StopsJudging z.0 slots z.1 f) (λ i. (same i, is i)) why)
  where
    go : (g : CrashFault) → StopsJudging c slots (reverse past) g → IsUnkept c slots past g
    go NoMemory h = tt
    go NoHistory h = absurd h
    go (SlotsAt k) h = h
    go SlotHeld h = absurd h
    go Output h = absurd h

pub left_held : (c d : ConfigNumbers) (slots : Range) (past : Past) (entries : List Entry) → d ≡ c
    → entries ≡ reverse past → takeover_disciplined d slots (reverse entries) ≡ true → HasHeld c slots past
    → IsUnkept c slots past SlotHeld
left_held c d slots past entries same is kept held =
    let back : reverse entries ≡ past = ap reverse is ∙ reverse-reverse past in (
      subst (λ (z : ConfigNumbers × Past). takeover_disciplined z.0 slots z.1 ≡ true) (λ i. (same i, back i)) kept,
      held,
    )

-- then nothing is written
pub untold : (c : ConfigNumbers) (slots : Range) (past : Past) (f : CrashFault) (w : Option (List ℕ))
    → IsLegal c past → IsUnkept c slots past f → Crashes c slots (Err f) w w
untold c slots past NoMemory w legal h =
    (past, legal, record { front = []; rest = _; whole = refl; written = Appends-nil w })
untold c slots past NoHistory w legal h = absurd h
untold c slots past (SlotsAt k) w legal h = (Keeps-refl w, (past, legal, h))
untold c slots past SlotHeld w legal h = (Keeps-refl w, (past, legal, h))
untold c slots past Output w legal h = absurd h

pub unraced : (c : ConfigNumbers) (slots : Range) (f : CrashFault) (w : Option (List ℕ)) → IsUnraced f
    → Crashes c slots (Err f) w w
unraced c slots NoMemory w h = ([], refl, record { front = []; rest = _; whole = refl; written = Appends-nil w })
unraced c slots NoHistory w h = Keeps-refl w
unraced c slots (SlotsAt k) w h = absurd h
unraced c slots SlotHeld w h = absurd h
unraced c slots Output w h = absurd h

-- and what was written is its text
pub told : (c d : ConfigNumbers) (slots : Range) (past : Past) (entries : List Entry) (r : Result (Unit {0}) CrashFault)
    (old new : Option (List ℕ)) → d ≡ c → entries ≡ reverse past → IsLegal c past → KeepsTakeovers c slots past
    → OnOk r (All HasLine entries) → TellsCrash d entries r old new → Crashes c slots r old new
told c d slots past entries (Ok x) old new same is legal keeps lines tells = (
  past,
  legal,
  subst (All HasLine) is lines,
  keeps,
  subst (λ (z : ConfigNumbers × List Entry). Appends old new (history_text z.0 z.1)) (λ i. (same i, is i)) tells,
)
told c d slots past entries (Err Output) old new same is legal keeps lines tells = (
  past,
  legal,
  subst (λ (z : ConfigNumbers × List Entry). AppendsFront old new (history_text z.0 z.1)) (λ i. (same i, is i)) tells,
)
told c d slots past entries (Err NoMemory) old new same is legal keeps lines tells = (
  past,
  legal,
  subst (λ (z : ConfigNumbers × List Entry). AppendsFront old new (history_text z.0 z.1)) (λ i. (same i, is i)) tells,
)
told c d slots past entries (Err NoHistory) old new same is legal keeps lines tells = absurd tells
told c d slots past entries (Err (SlotsAt k)) old new same is legal keeps lines tells = absurd tells
told c d slots past entries (Err SlotHeld) old new same is legal keeps lines tells = absurd tells

-- for what is said of a history that was judged
pub ruleset judging = (keeps_takeovers, unkept, left_held)
