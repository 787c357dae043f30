-- Two logs of one history.
use Rattle.std.proofs.Common.{List, ap, eqb, eqb-true, inl, inr, refl, subst, sym, true, ℕ, ◌||◌, ◌∙◌, ◌∷◌, ◌≡◌, []}
use Rattle.std.specs.List.{list_all}
use Rattle.std.proofs.lemmas.Bool.{and_from, and_parts, or_cases}
use Rattle.nvme_model.specs.Array.{has_block}
use Rattle.nvme_model.specs.Config.{completion_queue}
use Rattle.nvme_model.specs.Passes.{SharedPast, entries}
use Rattle.nvme_model.specs.Slots.{Name, Swap, holder, swaps}
use Rattle.nvme_model.specs.declared.array.Range.{Range}
use Rattle.nvme_model.specs.declared.config.ConfigNumbers.{ConfigNumbers}
use Rattle.nvme_model.proofs.Cut.{clash}
use Rattle.host_laws.specs.Beside.{IsBeside, IsSole, is_beside}
use Rattle.host_laws.proofs.Discipline.{area_has}
use Rattle.host_laws.proofs.Elements.{In, same_some}
use Rattle.host_laws.proofs.UniqueNames.{one_claim}
use Rattle.driver_calls.specs.Views.{PortView, log_of}
use Rattle.driver_calls.specs.declared.event.PortEvent.{PortEvent}
use Rattle.driver_calls.proofs.Following.{all_beside_no_events}
use Rattle.slot_log_laws.specs.Hosts.{IsSlotView, log_since}
use Rattle.slot_log_laws.specs.Swaps.{log_believed}
use Rattle.slot_log_laws.proofs.SlotRules.{slot_rules_parts}
use Rattle.slot_log_laws.proofs.Beliefs.{believed_parts}
use Rattle.slot_log_laws.proofs.Claiming.{claimed_host}
use Rattle.slot_log_laws.proofs.Views.{view_disciplined, view_holder, view_knows, whole_log}

pub one_name : (before other : List PortEvent) (slots : Range) (host last guest final : ℕ) (a b : PortView) (l : ℕ)
    (n m : Name) → IsSlotView before slots host last a → IsSlotView other slots guest final b → a.seen ≡ b.seen
    → has_block slots l ≡ true → log_believed (log_since before a) l n ≡ true
    → log_believed (log_since other b) l m ≡ true → n ≡ m
one_name before other slots host last guest final a b l n m x y same v k w =
    same_some n m (holder (entries b.seen) l)
    (ap (λ (s : SharedPast). holder (entries s) l) (sym same) ∙ view_holder before slots host last a l n x v k)
    (view_holder other slots guest final b l m y v w)

-- whoever is believed is of the driver's host
believed_host : (before : List PortEvent) (slots : Range) (host last : ℕ) (v : PortView) (l : ℕ) (n : Name)
    → IsSlotView before slots host last v → has_block slots l ≡ true → log_believed (log_since before v) l n ≡ true
    → n.host ≡ host
believed_host before slots host last v l n x i k =
    let b = believed_parts (log_since before v) l n k in
    ap (λ (m : Name). m.host) (sym b.name)
    ∙ claimed_host slots host (log_since before v) b.swap
    (slot_rules_parts slots host last (log_since before v) x.slot_rules).each b.there b.claims
    (ap (has_block slots) b.lba ∙ i)

pub other_hosts : (before other : List PortEvent) (slots : Range) (host last guest final : ℕ) (a b : PortView) (l : ℕ)
    (n m : Name) → IsSlotView before slots host last a → IsSlotView other slots guest final b → a.seen ≡ b.seen
    → has_block slots l ≡ true → log_believed (log_since before a) l n ≡ true
    → log_believed (log_since other b) l m ≡ true → (host ≡ guest → ⊥) → ⊥
other_hosts before other slots host last guest final a b l n m x y same v k w unlike =
    unlike (sym (believed_host before slots host last a l n x v k)
    ∙ (ap (λ (z : Name). z.host) (one_name before other slots host last guest final a b l n m x y same v k w)
    ∙ believed_host other slots guest final b l m y v w))

-- the claim of whoever is believed
record ClaimAt (v : PortView) (l : ℕ) (n : Name) : Type 0 where
  swap : Swap
  there : In swap (swaps (entries v.seen))
  claims : swap.claims ≡ true
  lba : swap.lba ≡ l
  name : swap.name ≡ n
  own : completion_queue v.config swap.queue ≡ v.queue

claim_at : (before : List PortEvent) (slots : Range) (host last : ℕ) (v : PortView) (l : ℕ) (n : Name)
    → IsSlotView before slots host last v → log_believed (log_since before v) l n ≡ true → ClaimAt v l n
claim_at before slots host last v l n x k =
    let b = believed_parts (log_of v) l n
    (ap (λ (log : List PortEvent). log_believed log l n) (sym (whole_log before slots host last v x)) ∙ k) in
    let knows = view_knows before slots host last v x in
    record {
      swap = b.swap;
      there = knows.there b.swap b.there;
      claims = b.claims;
      lba = b.lba;
      name = b.name;
      own = knows.own b.swap b.there;
    }

pub other_queues : (before other : List PortEvent) (slots : Range) (host last guest final : ℕ) (a b : PortView) (l : ℕ)
    (n m : Name) → IsSlotView before slots host last a → IsSlotView other slots guest final b → a.seen ≡ b.seen
    → a.config ≡ b.config → has_block slots l ≡ true → log_believed (log_since before a) l n ≡ true
    → log_believed (log_since other b) l m ≡ true → (a.queue ≡ b.queue → ⊥) → ⊥
other_queues before other slots host last guest final a b l n m x y same config v k w unlike =
    let s = claim_at before slots host last a l n x k in
    let t = claim_at other slots guest final b l m y w in
    let there = subst (λ (z : SharedPast). In s.swap (swaps (entries z))) same s.there in
    let name : s.swap.name ≡ t.swap.name = s.name
    ∙ (one_name before other slots host last guest final a b l n m x y same v k w ∙ sym t.name) in
    let one : s.swap ≡ t.swap =
    one_claim b.config slots (entries b.seen) s.swap t.swap (view_disciplined other slots guest final b y) there t.there
    s.claims t.claims name
    (area_has slots s.swap.lba (ap (has_block slots) s.lba ∙ v))
    (area_has slots t.swap.lba (ap (has_block slots) t.lba ∙ v)) in
    unlike (sym s.own ∙ (ap (λ (c : ConfigNumbers). completion_queue c s.swap.queue) config
    ∙ (ap (λ (z : Swap). completion_queue b.config z.queue) one ∙ t.own)))

-- two passes that alone use one completion queue don't use it
sole_twice : (c : ConfigNumbers) (n p r : ℕ) (shared : SharedPast) → IsSole c n p shared → IsSole c n r shared
    → (p ≡ r → ⊥) → IsBeside c n (entries shared)
sole_twice c n p r [] h k unlike = refl
sole_twice c n p r (m ∷ shared) h k unlike =
    let a = and_parts (is_beside c n m.1 || eqb m.0 p) (list_all (λ x. is_beside c n x.1 || eqb x.0 p) shared) h in
    let b = and_parts (is_beside c n m.1 || eqb m.0 r) (list_all (λ x. is_beside c n x.1 || eqb x.0 r) shared) k in
    and_from (is_beside c n m.1) (list_all (is_beside c n) (entries shared))
    (elim (or_cases (is_beside c n m.1) (eqb m.0 p) a.0) [
      | inl e ↦ e
      | inr e ↦ elim (or_cases (is_beside c n m.1) (eqb m.0 r) b.0) [
        | inl f ↦ f
        | inr f ↦ absurd (unlike (sym (eqb-true m.0 p e) ∙ eqb-true m.0 r f))
      ]
    ])
    (sole_twice c n p r shared a.1 b.1 unlike)

pub other_passes : (before other : List PortEvent) (slots : Range) (host last guest final : ℕ) (a b : PortView) (l : ℕ)
    (n m : Name) → IsSlotView before slots host last a → IsSlotView other slots guest final b → a.seen ≡ b.seen
    → a.config ≡ b.config → has_block slots l ≡ true → log_believed (log_since before a) l n ≡ true
    → log_believed (log_since other b) l m ≡ true → (a.pass ≡ b.pass → ⊥) → ⊥
other_passes before other slots host last guest final a b l n m x y same config v k w unlike =
    other_queues before other slots host last guest final a b l n m x y same config v k w (λ queue.
    let sole : IsSole a.config a.queue b.pass a.seen =
    subst (λ (s : SharedPast). IsSole a.config a.queue b.pass s) (sym same)
    (subst (λ (c : ConfigNumbers). IsSole c a.queue b.pass b.seen) (sym config)
    (subst (λ (q : ℕ). IsSole b.config q b.pass b.seen) (sym queue) y.premises.alone.sole)) in
    let none : log_since before a ≡ [] =
    whole_log before slots host last a x
    ∙ all_beside_no_events a.config a.queue a.pass a.seen
    (sole_twice a.config a.queue a.pass b.pass a.seen x.premises.alone.sole sole unlike) in
    clash (log_believed (log_since before a) l n) k (ap (λ (log : List PortEvent). log_believed log l n) none))
