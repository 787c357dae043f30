-- A driver's log goes on.
use Rattle.std.proofs.Common.{List, None, Option, Some, [], ap, append_assoc, eqb, false, refl, subst, sym}
use Rattle.std.proofs.Common.{ℕ, ◌&&◌, ◌++◌, ◌∙◌, ◌∷◌, ◌≡◌, inl, inr}
use Rattle.std.specs.List.{list_any}
use Rattle.std.proofs.lemmas.Bool.{not-true}
use Rattle.nvme_model.specs.Slots.{Name, same_name, touches}
use Rattle.nvme_model.specs.declared.array.Range.{Range}
use Rattle.nvme_model.specs.declared.submission.Submission.{Submission}
use Rattle.driver_calls.specs.declared.event.PortEvent.{PortEvent}
use Rattle.driver_cas.specs.Drivers.{IsOneMore}
use Rattle.slot_log_laws.proofs.Staying.{believed_claim, believed_got, believed_other, believed_outside, released_claim}
use Rattle.slot_log_laws.proofs.Staying.{released_other, released_outside}
use Rattle.slot_log_laws.specs.Calls.{IsClaimBatch, IsName, IsReleaseBatch}
use Rattle.slot_alloc.specs.SlotRules.{LogContinues, ReleasedName}

pub same_on : (slots : Range) (log : List PortEvent) → LogContinues slots log log None
same_on slots log = record { log = []; more = refl; believed = λ l n v a h. h; unreleased = λ l n v a h. h }

pub got_on : (slots : Range) (log : List PortEvent) (cqe payload : List ℕ)
    → LogContinues slots log (PortEvent.Got cqe payload ∷ log) None
got_on slots log cqe payload =
    record {
      log = PortEvent.Got cqe payload ∷ [];
      more = refl;
      believed = λ l n v a h. believed_got log cqe payload l n h;
      unreleased = λ l n v a h. h;
    }

pub outside_on : (slots : Range) (log : List PortEvent) (q : ℕ) (batch : List Submission)
    → list_any (touches slots) batch ≡ false → LogContinues slots log (PortEvent.Sent q batch ∷ log) None
outside_on slots log q batch t =
    record {
      log = PortEvent.Sent q batch ∷ [];
      more = refl;
      believed = λ l n v a h. believed_outside slots log q batch l n t v h;
      unreleased = λ l n v a h. released_outside slots log q batch l n t v ∙ h;
    }

pub claim_on : (slots : Range) (log : List PortEvent) (q k first second : ℕ) (m : Name) (batch : List Submission)
    → IsName m → IsClaimBatch k first second m batch → LogContinues slots log (PortEvent.Sent q batch ∷ log) None
claim_on slots log q k first second m batch x b =
    record {
      log = PortEvent.Sent q batch ∷ [];
      more = refl;
      believed = λ l n v a h. believed_claim log q k first second m batch l n x b h;
      unreleased = λ l n v a h. released_claim log q k first second m batch l n x b ∙ h;
    }

pub release_on : (slots : Range) (log : List PortEvent) (q k first second : ℕ) (m : Name) (batch : List Submission)
    → IsName m → IsReleaseBatch k first second m batch
    → LogContinues slots log (PortEvent.Sent q batch ∷ log) (Some (k, m))
release_on slots log q k first second m batch x b =
    record {
      log = PortEvent.Sent q batch ∷ [];
      more = refl;
      believed = λ l n v a h.
          believed_other log q k first second m batch l n x b (not-true (eqb k l && same_name m n) a)
          h;
      unreleased = λ l n v a h.
          released_other log q k first second m batch l n x b (not-true (eqb k l && same_name m n) a)
          ∙ h;
    }

-- first one, then the not-true
pub on_on : (slots : Range) (a b c : List PortEvent) → LogContinues slots a b None → LogContinues slots b c None
    → LogContinues slots a c None
on_on slots a b c x y =
    record {
      log = y.log ++ x.log;
      more = y.more ∙ (ap (λ (xs : List PortEvent). y.log ++ xs) x.more ∙ sym (append_assoc y.log x.log a));
      believed = λ l n v o h. y.believed l n v o (x.believed l n v o h);
      unreleased = λ l n v o h. y.unreleased l n v o (x.unreleased l n v o h);
    }

pub one_more_on : (slots : Range) (log more : List PortEvent) → IsOneMore log more → LogContinues slots log more None
one_more_on slots log more (inl e) =
    subst (λ (xs : List PortEvent). LogContinues slots log xs None) (sym e) (same_on slots log)
one_more_on slots log more (inr e) =
    subst (λ (xs : List PortEvent). LogContinues slots log xs None) (sym e.2) (got_on slots log e.0 e.1)

-- over the same area
pub on_same : (slots area : Range) (a b : List PortEvent) (r : Option ReleasedName) → area ≡ slots
    → LogContinues slots a b r → LogContinues area a b r
on_same slots area a b r e h = subst (λ (s : Range). LogContinues s a b r) (sym e) h
