-- What it is that a log believes a name of a slot.
use Rattle.std.proofs.Common.{List, ap, eq-eqb, eqb, eqb-true, false, not, suc, true, ℕ, ◌&&◌, ◌≡◌}
use Rattle.std.proofs.lemmas.Bool.{and_from, and_parts, not-true}
use Rattle.nvme_model.specs.Slots.{Name, Swap, same_name}
use Rattle.host_laws.proofs.Elements.{In, any_in, in_any}
use Rattle.host_laws.proofs.Names.{name_eq, name_same}
use Rattle.driver_calls.specs.declared.event.PortEvent.{PortEvent}
use Rattle.slot_log_laws.specs.Swaps.{log_believed, log_released, log_success, log_swaps}

-- its claim succeeded and no release of it was published
pub record Believed (log : List PortEvent) (l : ℕ) (n : Name) : Type 0 where
  pub swap : Swap
  pub there : In swap (log_swaps log)
  pub claims : swap.claims ≡ true
  pub lba : swap.lba ≡ l
  pub name : swap.name ≡ n
  pub success : log_success log swap.queue (suc swap.number) ≡ true
  pub unreleased : log_released log l n ≡ false

pub believed_parts : (log : List PortEvent) (l : ℕ) (n : Name) → log_believed log l n ≡ true → Believed log l n
believed_parts log l n h =
    let a = and_parts _ _ h in
    let s = any_in (λ s. s.claims && eqb s.lba l && same_name s.name n && log_success log s.queue (suc s.number))
    (log_swaps log) a.0 in
    let b = and_parts _ _ s.2 in
    let d = and_parts _ _ b.0 in
    let e = and_parts _ _ d.0 in
    record {
      swap = s.0;
      there = s.1;
      claims = e.0;
      lba = eqb-true _ _ e.1;
      name = name_eq s.0.name n d.1;
      success = b.1;
      unreleased = not-true _ a.1;
    }

pub believed_from : (log : List PortEvent) (l : ℕ) (n : Name) → Believed log l n → log_believed log l n ≡ true
believed_from log l n b =
    and_from _ _
    (in_any (λ s. s.claims && eqb s.lba l && same_name s.name n && log_success log s.queue (suc s.number))
    (log_swaps log) b.swap b.there
    (and_from _ _ (and_from _ _ (and_from _ _ b.claims (eq-eqb b.swap.lba l b.lba)) (name_same b.swap.name n b.name))
    b.success))
    (ap not b.unreleased)
