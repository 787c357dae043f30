-- A slot that was claimed is held, also where slots are taken over.
use Rattle.std.proofs.Common.{List, ap, arith, eq-eqb, eqb, eqb-true, false, map, not, refl, suc, sym, true, ℕ}
use Rattle.std.proofs.Common.{◌&&◌, ◌∙◌, ◌≡◌}
use Rattle.std.proofs.lemmas.Bool.{and_from, and_parts, not-true}
use Rattle.nvme_model.specs.Array.{has_block}
use Rattle.nvme_model.specs.Config.{completion_queue}
use Rattle.nvme_model.specs.History.{Past}
use Rattle.nvme_model.specs.Legal.{IsLegal}
use Rattle.nvme_model.specs.Passes.{SharedPast, entries}
use Rattle.nvme_model.specs.Slots.{Name, Swap, reaped_success, releases, same_name, swaps}
use Rattle.nvme_model.specs.declared.array.Range.{Range}
use Rattle.nvme_model.specs.declared.config.ConfigNumbers.{ConfigNumbers}
use Rattle.nvme_model.proofs.Cut.{clash}
use Rattle.host_laws.specs.Beside.{IsSole}
use Rattle.host_laws.specs.Claims.{is_released_on}
use Rattle.host_laws.specs.Rules.{is_cut_off, takeover_disciplined}
use Rattle.host_laws.specs.Takeovers.{giving, is_given_on, is_kept, moves, still_believed, takeovers}
use Rattle.host_laws.proofs.Claims.{none_any}
use Rattle.host_laws.proofs.Discipline.{InArea, area_has}
use Rattle.host_laws.proofs.Elements.{In, any_in, in_any, in_left, none_in}
use Rattle.host_laws.proofs.Fencing.{unfenced_believed}
use Rattle.host_laws.proofs.Givers.{one_giver}
use Rattle.host_laws.proofs.Names.{name_eq, name_same}
use Rattle.host_laws.proofs.Successes.{reaped_is_success}
use Rattle.host_laws.proofs.TakeoverReleases.{release_given}
use Rattle.driver_calls.specs.Events.{events}
use Rattle.driver_calls.specs.Log.{is_tidy}
use Rattle.driver_calls.specs.Views.{IsAlone, PortView, log_of, since}
use Rattle.driver_calls.specs.declared.event.PortEvent.{PortEvent}
use Rattle.driver_calls.proofs.Views.{since_none}
use Rattle.slot_log_laws.specs.Swaps.{log_believed}
use Rattle.slot_log_laws.proofs.Beliefs.{believed_parts}
use Rattle.slot_log_laws.proofs.Believing.{unreleased_on}
use Rattle.slot_log_laws.proofs.Knowing.{log_knows}

-- a release of the name that a move gave the slot to stands on that move's completion queue
on_its_queue : (c : ConfigNumbers) (slots : Range) (past : Past) (w r : Swap) → takeover_disciplined c slots past ≡ true
    → In w (moves past) → w.claims ≡ true → InArea slots w.lba → In r (swaps past) → r.claims ≡ false → r.lba ≡ w.lba
    → r.name ≡ w.name → completion_queue c r.queue ≡ completion_queue c w.queue
on_its_queue c slots past w r d i g a j e l n =
    let at : InArea slots r.lba = record { from = omega (arith, l, a.from); to = omega (arith, l, a.to) } in
    let x = any_in (λ s. s.claims && eqb s.lba r.lba && same_name s.name r.name
    && eqb (completion_queue c s.queue) (completion_queue c r.queue)) (moves past)
    (release_given c slots past r d j e at) in
    let y = and_parts _ _ x.2 in
    let z = and_parts _ _ y.0 in
    let u = and_parts _ _ z.0 in
    let lba = eqb-true x.0.lba r.lba u.1 in
    let same = one_giver c slots past x.0 w d x.1 i u.0 g (name_eq x.0.name r.name z.1 ∙ n)
    (record { from = omega (arith, lba, at.from); to = omega (arith, lba, at.to) }) a in
    sym (eqb-true (completion_queue c x.0.queue) (completion_queue c r.queue) y.1)
    ∙ ap (λ (s : Swap). completion_queue c s.queue) same

-- its own host believes the name while no release of it stands there
giver_kept : (c : ConfigNumbers) (slots : Range) (past : Past) (w : Swap) → takeover_disciplined c slots past ≡ true
    → has_block slots w.lba ≡ true → In w (moves past) → w.claims ≡ true
    → reaped_success c past w.queue (suc w.number) ≡ true
    → is_released_on c past (completion_queue c w.queue) w.lba w.name ≡ false → is_kept c past w.lba w.name ≡ true
giver_kept c slots past w d v i g s u =
    and_from _ _
    (in_any (λ s. s.claims && eqb s.lba w.lba && same_name s.name w.name
    && reaped_success c past s.queue (suc s.number)) (moves past) w i
    (and_from _ _ (and_from _ _ (and_from _ _ g (eq-eqb w.lba w.lba refl)) (name_same w.name w.name refl)) s))
    (ap not (none_any (λ r. releases r w.lba w.name) (swaps past) (λ r j h.
    let x = and_parts (not r.claims && eqb r.lba w.lba) (same_name r.name w.name) h in
    let y = and_parts (not r.claims) (eqb r.lba w.lba) x.0 in
    let on = on_its_queue c slots past w r d i g (area_has slots w.lba v) j (not-true r.claims y.0)
    (eqb-true r.lba w.lba y.1) (name_eq r.name w.name x.1) in
    clash (releases r w.lba w.name && eqb (completion_queue c r.queue) (completion_queue c w.queue))
    (and_from _ _ h (eq-eqb _ _ on))
    (none_in (λ r. releases r w.lba w.name && eqb (completion_queue c r.queue) (completion_queue c w.queue))
    (swaps past) r u j))))

giver_given : (c : ConfigNumbers) (past : Past) (w : Swap) → In w (moves past) → w.claims ≡ true
    → is_given_on c past (completion_queue c w.queue) w.lba w.name ≡ true
giver_given c past w i g =
    in_any (λ s. s.claims && eqb s.lba w.lba && same_name s.name w.name
    && eqb (completion_queue c s.queue) (completion_queue c w.queue)) (moves past) w i
    (and_from _ _ (and_from _ _ (and_from _ _ g (eq-eqb w.lba w.lba refl)) (name_same w.name w.name refl))
    (eq-eqb (completion_queue c w.queue) (completion_queue c w.queue) refl))

-- whom a log believes of a slot is still believed of it
claim_believed : (c : ConfigNumbers) (slots : Range) (q p : ℕ) (shared : SharedPast) (l : ℕ) (n : Name)
    → IsLegal c (entries shared) → IsSole c q p shared → is_tidy (events c q p shared) ≡ true
    → takeover_disciplined c slots (entries shared) ≡ true → has_block slots l ≡ true
    → is_cut_off c slots (entries shared) q ≡ false → log_believed (events c q p shared) l n ≡ true
    → still_believed c (entries shared) l n ≡ true
claim_believed c slots q p shared l n h o tidy d v uncut y =
    let past = entries shared in
    let log = events c q p shared in
    let k = log_knows c q p shared h o tidy in
    let b = believed_parts log l n y in
    let w = b.swap in
    let own = k.own w b.there in
    let s = k.success w.queue (suc w.number) own b.success in
    let reaped = reaped_is_success c past w.queue (suc w.number) s.post h s.reaped s.says in
    let there : In w (moves past) = in_left w (swaps past) (map giving (takeovers past)) (k.there w b.there) in
    let unreleased : is_released_on c past (completion_queue c w.queue) w.lba w.name ≡ false =
    ap (λ (i : ℕ). is_released_on c past i w.lba w.name) own
    ∙ (ap (λ (i : ℕ). is_released_on c past q i w.name) b.lba
    ∙ (ap (is_released_on c past q l) b.name ∙ unreleased_on c past q log l n k b.unreleased)) in
    let kept = giver_kept c slots past w d (ap (has_block slots) b.lba ∙ v) there b.claims reaped unreleased in
    let given = giver_given c past w there b.claims in
    unfenced_believed c slots past q l n v
    (sym (ap (is_kept c past l) b.name) ∙ (sym (ap (λ (i : ℕ). is_kept c past i w.name) b.lba) ∙ kept))
    (sym (ap (is_given_on c past q l) b.name) ∙ (sym (ap (λ (i : ℕ). is_given_on c past q i w.name) b.lba)
    ∙ (sym (ap (λ (i : ℕ). is_given_on c past i w.lba w.name) own) ∙ given))) uncut

-- by what a driver's port did since the driver was made
pub view_claim_believed : (before : List PortEvent) (slots : Range) (v : PortView) (l : ℕ) (n : Name)
    → IsLegal v.config (entries v.seen) → IsAlone before v → is_tidy (since before (log_of v)) ≡ true
    → takeover_disciplined v.config slots (entries v.seen) ≡ true → has_block slots l ≡ true
    → is_cut_off v.config slots (entries v.seen) v.queue ≡ false → log_believed (since before (log_of v)) l n ≡ true
    → still_believed v.config (entries v.seen) l n ≡ true
view_claim_believed before slots v l n h alone tidy d inside uncut y =
    let whole : since before (log_of v) ≡ log_of v =
    ap (λ (b : List PortEvent). since b (log_of v)) alone.none ∙ since_none (log_of v) in
    claim_believed v.config slots v.queue v.pass v.seen l n h alone.sole (ap is_tidy (sym whole) ∙ tidy) d inside uncut
    (ap (λ (log : List PortEvent). log_believed log l n) (sym whole) ∙ y)
