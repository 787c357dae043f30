-- What a log believes of a disciplined history, and the other way round.
use Rattle.std.proofs.Common.{List, ap, eq-eqb, eqb, eqb-true, false, inl, inr, not, sym, suc, true, ℕ, ◌&&◌, ◌||◌, ◌∙◌}
use Rattle.std.proofs.Common.{◌≡◌}
use Rattle.std.proofs.lemmas.Bool.{and_parts, not-true, or_cases}
use Rattle.nvme_model.specs.Array.{has_block}
use Rattle.nvme_model.specs.Config.{completion_queue}
use Rattle.nvme_model.specs.History.{Past}
use Rattle.nvme_model.specs.Legal.{IsLegal}
use Rattle.nvme_model.specs.Slots.{Name, Swap, believed, disciplined, in_area, releases, swaps}
use Rattle.nvme_model.specs.declared.array.Range.{Range}
use Rattle.nvme_model.specs.declared.config.ConfigNumbers.{ConfigNumbers}
use Rattle.nvme_model.proofs.Cut.{clash}
use Rattle.host_laws.specs.Claims.{claims_only_on, is_released_on}
use Rattle.host_laws.proofs.Beliefs.{claimed}
use Rattle.host_laws.proofs.Claims.{all_in, none_any, won_believed}
use Rattle.host_laws.proofs.Elements.{In, in_contains, in_filter, none_in}
use Rattle.host_laws.proofs.Successes.{reaped_is_success, success_reaped}
use Rattle.driver_calls.specs.declared.event.PortEvent.{PortEvent}
use Rattle.slot_log_laws.specs.Swaps.{log_believed, log_released, log_swaps}
use Rattle.slot_log_laws.proofs.Beliefs.{believed_from, believed_parts}
use Rattle.slot_log_laws.proofs.Knowing.{Knows}

-- what the log hasn't released isn't released on its completion queue
pub unreleased_on : (c : ConfigNumbers) (past : Past) (n : ℕ) (log : List PortEvent) (l : ℕ) (name : Name)
    → Knows c past n log → log_released log l name ≡ false → is_released_on c past n l name ≡ false
unreleased_on c past n log l name k u =
    none_any (λ r. releases r l name && eqb (completion_queue c r.queue) n) (swaps past) (λ r i e.
    let a = and_parts (releases r l name) (eqb (completion_queue c r.queue) n) e in
    clash (releases r l name) a.0
    (none_in (λ s. releases s l name) (log_swaps log) r u (k.known r i (eqb-true _ _ a.1))))

-- whoever the log believes of a slot is believed of it
pub log_believes : (c : ConfigNumbers) (slots : Range) (past : Past) (n : ℕ) (log : List PortEvent) (l : ℕ)
    (name : Name) → IsLegal c past → disciplined c slots past ≡ true → Knows c past n log → has_block slots l ≡ true
    → log_believed log l name ≡ true → believed c past l name ≡ true
log_believes c slots past n log l name h d k v y =
    let b = believed_parts log l name y in
    let own = k.own b.swap b.there in
    let s = k.success b.swap.queue (suc b.swap.number) own b.success in
    let unreleased : is_released_on c past (completion_queue c b.swap.queue) b.swap.lba b.swap.name ≡ false =
    ap (λ (q : ℕ). is_released_on c past q b.swap.lba b.swap.name) own
    ∙ (ap (λ (i : ℕ). is_released_on c past n i b.swap.name) b.lba
    ∙ (ap (is_released_on c past n l) b.name ∙ unreleased_on c past n log l name k b.unreleased)) in
    let believes = won_believed c slots past b.swap d (ap (has_block slots) b.lba ∙ v)
    (record {
      claims = b.claims;
      published = in_contains (swaps past) b.swap (k.there b.swap b.there);
      reaped = reaped_is_success c past b.swap.queue (suc b.swap.number) s.post h s.reaped s.says;
    })
    unreleased in
    sym (ap (believed c past l) b.name) ∙ (sym (ap (λ (i : ℕ). believed c past i b.swap.name) b.lba) ∙ believes)

-- a claim in the area by this host is on its completion queue
pub on_own_queue : (c : ConfigNumbers) (slots : Range) (past : Past) (host n : ℕ) (w : Swap)
    → claims_only_on c slots past host n ≡ true → In w (swaps past) → has_block slots w.lba ≡ true → w.claims ≡ true
    → w.name.host ≡ host
    → completion_queue c w.queue ≡ n
on_own_queue c slots past host n w o i v a e =
    let there = in_filter (λ s. has_block slots s.lba) (swaps past) w i v in
    let at = all_in (λ s. not s.claims || not (eqb s.name.host host) || eqb (completion_queue c s.queue) n)
    (in_area slots (swaps past)) w o there in
    elim (or_cases (not w.claims || not (eqb w.name.host host)) (eqb (completion_queue c w.queue) n) at) [
      | inr y ↦ eqb-true _ _ y
      | inl y ↦ elim (or_cases (not w.claims) (not (eqb w.name.host host)) y) [
        | inl x ↦ clash w.claims a (not-true w.claims x)
        | inr x ↦ clash (eqb w.name.host host) (eq-eqb w.name.host host e) (not-true (eqb w.name.host host) x)
      ]
    ]

-- whoever of this host is believed of a slot the log believes of it
pub believes_back : (c : ConfigNumbers) (slots : Range) (past : Past) (n : ℕ) (log : List PortEvent) (l host : ℕ)
    (name : Name) → IsLegal c past → claims_only_on c slots past host n ≡ true → Knows c past n log
    → has_block slots l ≡ true
    → name.host ≡ host → believed c past l name ≡ true → log_believed log l name ≡ true
believes_back c slots past n log l host name h o k v e y =
    let b = claimed c past l name y in
    let own = on_own_queue c slots past host n b.swap o b.there (ap (has_block slots) b.lba ∙ v) b.claims
    (ap (λ (m : Name). m.host) b.name ∙ e) in
    believed_from log l name
    (record {
      swap = b.swap;
      there = k.known b.swap b.there own;
      claims = b.claims;
      lba = b.lba;
      name = b.name;
      success = k.back b.swap.queue (suc b.swap.number) own
          (success_reaped c past b.swap.queue (suc b.swap.number) h b.reaped);
      unreleased = none_any (λ s. releases s l name) (log_swaps log)
          (λ r i x. clash (releases r l name) x
          (none_in (λ s. releases s l name) (swaps past) r b.unreleased (k.there r i)));
    })
