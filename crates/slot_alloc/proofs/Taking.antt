-- What the answer to a claim said of what was seen then, in what is seen now.
use Rattle.std.proofs.Common.{List, Some, subst, sym, ℕ, ◌++◌, ◌∙◌, ◌≡◌}
use Rattle.std.specs.Prelude.{Err, Ok}
use Rattle.nvme_model.specs.History.{Past}
use Rattle.nvme_model.specs.Legal.{IsLegal}
use Rattle.nvme_model.specs.Passes.{SharedPast, entries}
use Rattle.nvme_model.specs.declared.config.ConfigNumbers.{ConfigNumbers}
use Rattle.nvme_model.specs.declared.operation.Op.{Op}
use Rattle.nvme_model.specs.declared.status.Status.{Status}
use Rattle.host_laws.proofs.Beside.{entries_append}
use Rattle.host_laws.proofs.Lifts.{failed_later, pair_differs_later, pair_swaps_later}
use Rattle.host_laws.proofs.Reaps.{reaped_later}
use Rattle.host_laws.specs.Beside.{IsSole}
use Rattle.host_laws.specs.Calls.{PairDiffers, PairSwaps}
use Rattle.driver_calls.proofs.Answering.{sole_before}
use Rattle.driver_calls.specs.Says.{CallSays, FailedSays, ReplySays}
use Rattle.driver_calls.specs.Views.{ViewFollows, IsAlone, PortView}
use Rattle.driver_calls.specs.declared.event.PortEvent.{PortEvent}
use Rattle.driver_calls.specs.declared.reply.Reply.{Reply}

-- the premise held before
pub alone_before : (before : List PortEvent) (a b : PortView) → ViewFollows a b → IsAlone before b → IsAlone before a
alone_before before a b f h =
    record {
      none = h.none;
      sole =
          let now : IsSole b.config b.queue b.pass (f.goes_on.0 ++ a.seen) =
          subst (λ (s : SharedPast). IsSole b.config b.queue b.pass s) (sym f.goes_on.1) h.sole in
          let earlier : IsSole b.config b.queue b.pass a.seen =
          sole_before b.config b.queue b.pass f.goes_on.0 a.seen now in
          subst (λ (z : ConfigNumbers × ℕ × ℕ). IsSole z.0 z.1 z.2 a.seen)
          (λ i. (f.same_config i, f.same_queue i, f.same_pass i)) earlier;
    }

-- what was seen then is the end of what is seen now
pub grown : (a b : PortView) (f : ViewFollows a b) → entries b.seen ≡ entries f.goes_on.0 ++ entries a.seen
grown a b f = sym (λ i. entries (f.goes_on.1 i)) ∙ entries_append f.goes_on.0 a.seen

legal_grown : (a b : PortView) (f : ViewFollows a b) → IsLegal b.config (entries b.seen)
    → IsLegal b.config (entries f.goes_on.0 ++ entries a.seen)
legal_grown a b f legal = subst (λ (past : Past). IsLegal b.config past) (grown a b f) legal

-- a pair's effect that said no goes on to stand there
pub differs_on : (before : List PortEvent) (start a b : PortView) (q j : ℕ) (o : Op) → ViewFollows a b
    → IsLegal b.config (entries b.seen) → o ≡ Op.Pair
    → (IsAlone before a → CallSays a.config (entries start.seen) (entries a.seen) q j o (Some (Ok Reply.Differs)))
    → IsAlone before b → PairDiffers (entries b.seen) q j
differs_on before start a b q j o f legal pair says h =
    let was = subst (λ (p : Op).
    CallSays a.config (entries start.seen) (entries a.seen) q j p (Some (Ok Reply.Differs))) pair
    (says (alone_before before a b f h)) in
    subst (λ (past : Past). PairDiffers past q j) (sym (grown a b f))
    (pair_differs_later b.config (entries f.goes_on.0) (entries a.seen) q j (legal_grown a b f legal) was.0.0)

-- of all replies only a pair's says that it swapped
swapped_pair : (c : ConfigNumbers) (start past : Past) (q j : ℕ) (o : Op) → ReplySays c start past q j o Reply.Swapped
    → PairSwaps past q j
swapped_pair c start past q j Op.Pair h = h.0
swapped_pair c start past q j Op.Read h = absurd h
swapped_pair c start past q j Op.Write h = absurd h
swapped_pair c start past q j Op.WriteZeroes h = absurd h
swapped_pair c start past q j Op.Compare h = absurd h

-- one that said yes does
pub swaps_on : (before : List PortEvent) (start a b : PortView) (q j : ℕ) (o : Op) → ViewFollows a b
    → IsLegal b.config (entries b.seen)
    → (IsAlone before a → CallSays a.config (entries start.seen) (entries a.seen) q j o (Some (Ok Reply.Swapped)))
    → IsAlone before b → PairSwaps (entries b.seen) q j
swaps_on before start a b q j o f legal says h =
    let was = swapped_pair a.config (entries start.seen) (entries a.seen) q j o
    (says (alone_before before a b f h)).0 in
    subst (λ (past : Past). PairSwaps past q j) (sym (grown a b f))
    (pair_swaps_later b.config (entries f.goes_on.0) (entries a.seen) q j (legal_grown a b f legal) was)

-- what was reaped goes on to be
failed_grown : (c : ConfigNumbers) (later past : Past) (q j : ℕ) (s : Status) → IsLegal c (later ++ past)
    → FailedSays c past q j s → FailedSays c (later ++ past) q j s
failed_grown c later past q j s legal x = (
  (x.0.0, reaped_later c later past q j x.0.0 legal x.0.1, x.0.2, x.0.3),
  x.1,
  failed_later c later past q j legal x.2,
)

pub failed_on : (before : List PortEvent) (start a b : PortView) (q j : ℕ) (o : Op) (s : Status) → ViewFollows a b
    → IsLegal b.config (entries b.seen)
    → (IsAlone before a → CallSays a.config (entries start.seen) (entries a.seen) q j o (Some (Err s)))
    → IsAlone before b → FailedSays b.config (entries b.seen) q j s
failed_on before start a b q j o s f legal says h =
    let was = says (alone_before before a b f h) in
    let here = subst (λ (c : ConfigNumbers). FailedSays c (entries a.seen) q j s) (sym f.same_config) was.0 in
    subst (λ (past : Past). FailedSays b.config past q j s) (sym (grown a b f))
    (failed_grown b.config (entries f.goes_on.0) (entries a.seen) q j s (legal_grown a b f legal) here)
