-- A slot that was taken over is believed by the host that took it over until its release.
use Rattle.std.proofs.Common.{◌≡◌, suc, true, false, not, ◌&&◌, refl, sym, ap, ◌∙◌, arith, eq-eqb}
use Rattle.std.proofs.Common.{eqb, eqb-true}
use Rattle.std.proofs.lemmas.Bool.{and_from, and_parts, not-true}
use Rattle.nvme_model.specs.Array.{has_block}
use Rattle.nvme_model.specs.Config.{completion_queue}
use Rattle.nvme_model.specs.History.{Past}
use Rattle.nvme_model.specs.Slots.{Swap, reaped_success, releases, same_name, swaps}
use Rattle.nvme_model.specs.declared.array.Range.{Range}
use Rattle.nvme_model.specs.declared.config.ConfigNumbers.{ConfigNumbers}
use Rattle.nvme_model.proofs.Cut.{clash}
use Rattle.host_laws.specs.Claims.{is_released_on}
use Rattle.host_laws.proofs.Claims.{none_any}
use Rattle.host_laws.proofs.Discipline.{InArea, area_has}
use Rattle.host_laws.proofs.Elements.{In, any_in, in_any, none_in}
use Rattle.host_laws.proofs.Names.{name_eq, name_same}
use Rattle.host_laws.specs.Rules.{takeover_disciplined}
use Rattle.host_laws.specs.Takeovers.{Takeover, giving, is_given_on, is_kept, moves, takeovers}
use Rattle.host_laws.proofs.Entries.{takeover_moves}
use Rattle.host_laws.proofs.Givers.{one_giver}
use Rattle.host_laws.proofs.TakeoverReleases.{release_given}

-- the name was given the slot by the takeover's own queue
pub taker_given : (c : ConfigNumbers) (past : Past) (w : Takeover) → In w (takeovers past)
    → is_given_on c past (completion_queue c w.queue) w.lba w.name ≡ true
taker_given c past w i =
    in_any (λ s. s.claims && eqb s.lba w.lba && same_name s.name w.name
    && eqb (completion_queue c s.queue) (completion_queue c w.queue)) (moves past) (giving w) (takeover_moves past w i)
    (and_from _ _ (and_from _ _ (and_from _ _ refl (eq-eqb w.lba w.lba refl)) (name_same w.name w.name refl))
    (eq-eqb (completion_queue c w.queue) (completion_queue c w.queue) refl))

-- a release of the name stands on that queue
on_its_queue : (c : ConfigNumbers) (slots : Range) (past : Past) (w : Takeover) (r : Swap)
    → takeover_disciplined c slots past ≡ true → In w (takeovers past) → InArea slots w.lba → In r (swaps past)
    → r.claims ≡ false → r.lba ≡ w.lba → r.name ≡ w.name → completion_queue c r.queue ≡ completion_queue c w.queue
on_its_queue c slots past w r d i a j e l n =
    let at : InArea slots r.lba = record { from = omega (arith, l, a.from); to = omega (arith, l, a.to) } in
    let x = any_in (λ s. s.claims && eqb s.lba r.lba && same_name s.name r.name
    && eqb (completion_queue c s.queue) (completion_queue c r.queue)) (moves past)
    (release_given c slots past r d j e at) in
    let y = and_parts _ _ x.2 in
    let z = and_parts _ _ y.0 in
    let u = and_parts _ _ z.0 in
    let lba = eqb-true x.0.lba r.lba u.1 in
    let same = one_giver c slots past x.0 (giving w) d x.1 (takeover_moves past w i) u.0 refl
    (name_eq x.0.name r.name z.1 ∙ n)
    (record { from = omega (arith, lba, at.from); to = omega (arith, lba, at.to) }) a in
    sym (eqb-true (completion_queue c x.0.queue) (completion_queue c r.queue) y.1)
    ∙ ap (λ (s : Swap). completion_queue c s.queue) same

pub taker_kept : (c : ConfigNumbers) (slots : Range) (past : Past) (w : Takeover)
    → takeover_disciplined c slots past ≡ true → has_block slots w.lba ≡ true → In w (takeovers past)
    → reaped_success c past w.queue (suc w.number) ≡ true
    → is_released_on c past (completion_queue c w.queue) w.lba w.name ≡ false → is_kept c past w.lba w.name ≡ true
taker_kept c slots past w d v i s u =
    and_from _ _
    (in_any (λ s. s.claims && eqb s.lba w.lba && same_name s.name w.name
    && reaped_success c past s.queue (suc s.number)) (moves past) (giving w) (takeover_moves past w i)
    (and_from _ _ (and_from _ _ (and_from _ _ refl (eq-eqb w.lba w.lba refl)) (name_same w.name w.name refl)) s))
    (ap not (none_any (λ r. releases r w.lba w.name) (swaps past) (λ r j h.
    let x = and_parts (not r.claims && eqb r.lba w.lba) (same_name r.name w.name) h in
    let y = and_parts (not r.claims) (eqb r.lba w.lba) x.0 in
    let on = on_its_queue c slots past w r d i (area_has slots w.lba v) j (not-true r.claims y.0)
    (eqb-true r.lba w.lba y.1) (name_eq r.name w.name x.1) in
    clash (releases r w.lba w.name && eqb (completion_queue c r.queue) (completion_queue c w.queue))
    (and_from _ _ h (eq-eqb _ _ on))
    (none_in (λ r. releases r w.lba w.name && eqb (completion_queue c r.queue) (completion_queue c w.queue))
    (swaps past) r u j))))
