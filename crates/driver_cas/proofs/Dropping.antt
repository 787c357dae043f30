-- What a driver counts as dropped, after a Reap.
use Rattle.std.proofs.Common.{Bool, List, ap, ap₂, arith, cond, eqb, eqb-true, false, inl, inr, length, min, not, refl}
use Rattle.std.proofs.Common.{suc, sym, true, ℕ, ◌&&◌, ◌+◌, ◌-◌, ◌^◌, ◌∙◌, ◌∷◌, ◌≡◌, ◌≤◌, ◌<◌}
use Rattle.std.specs.Prelude.{if◌then◌else◌}
use Rattle.std.proofs.lemmas.Bool.{and_parts, cases_Bool, cases_lt, cond-false, cond-true}
use Rattle.std.proofs.Math.Nat.{le_of_lt, min-eq_left, min-eq_right}
use Rattle.nvme_model.specs.EntryBytes.{cqe_fields}
use Rattle.host_laws.specs.Calls.{is_clean}
use Rattle.entry_codec.specs.Cqe.{SetsReserved, completion_fields}
use Rattle.entry_codec.specs.declared.cqe.Cqe.{Cqe}
use Rattle.driver_calls.specs.Log.{is_idle, state_of}
use Rattle.driver_calls.specs.Views.{since}
use Rattle.driver_calls.specs.declared.event.CidState.{CidState}
use Rattle.driver_calls.specs.declared.event.PortEvent.{PortEvent}
use Rattle.driver_cas.specs.Cids.{QueueCids, held, is_waiting}
use Rattle.driver_cas.specs.Dropped.{CountsDropped, drop_count, dropped_in, is_owed, one_more_dropped}
use Rattle.driver_cas.specs.Tables.{Matches, use_fits}
use Rattle.driver_cas.specs.declared.held.CidUse.{CidUse}
use Rattle.driver_cas.proofs.Tables.{reads, since_more}

-- ---- whether a command waits, by the table

waits_fit : (h : CidUse) (st : CidState) → use_fits h st ≡ true → is_waiting h ≡ not (is_idle st)
waits_fit CidUse.Free CidState.Idle f = refl
waits_fit CidUse.Free CidState.Waiting f = absurd (let x : false ≡ true = f in cc)
waits_fit CidUse.Free (CidState.Answered c p) f = refl
waits_fit CidUse.Waiting CidState.Idle f = absurd (let x : false ≡ true = f in cc)
waits_fit CidUse.Waiting CidState.Waiting f = refl
waits_fit CidUse.Waiting (CidState.Answered c p) f = absurd (let x : false ≡ true = f in cc)
waits_fit (CidUse.Answered s q) CidState.Idle f = absurd (let x : false ≡ true = f in cc)
waits_fit (CidUse.Answered s q) CidState.Waiting f = absurd (let x : false ≡ true = f in cc)
waits_fit (CidUse.Answered s q) (CidState.Answered c p) f = refl

pub owed_told : (cids : QueueCids) (cqe : List ℕ) (k : Cqe) → completion_fields k ≡ cqe_fields cqe
    → (log : List PortEvent) → Matches cids log → is_waiting (held cids k.sqid k.cid) ≡ is_owed log cqe
owed_told cids cqe k fields log m =
    let r = reads cqe k fields in
    waits_fit (held cids k.sqid k.cid) (state_of log k.sqid k.cid) (m k.sqid k.cid)
    ∙ ap₂ (λ (q i : ℕ). not (is_idle (state_of log q i))) (sym r.sqid) (sym r.cid)
    ∙ ap (λ (b : Bool). b && not (is_idle (state_of log (cqe_fields cqe).sqid (cqe_fields cqe).cid))) (sym r.clean)

-- one with a reserved bit is owed to nobody
unclean : (cqe : List ℕ) → SetsReserved (cqe_fields cqe) → is_clean cqe ≡ false
unclean cqe h =
    let e = cqe_fields cqe in
    elim (cases_Bool (is_clean cqe)) [
      | inr n ↦ n
      | inl clean ↦
          let a = and_parts (eqb e.dw0 0 && eqb e.dw1 0 && eqb e.crd 0 && eqb e.more 0) (eqb e.dnr 0) clean in
          let b = and_parts (eqb e.dw0 0 && eqb e.dw1 0 && eqb e.crd 0) (eqb e.more 0) a.0 in
          let c = and_parts (eqb e.dw0 0 && eqb e.dw1 0) (eqb e.crd 0) b.0 in
          let d = and_parts (eqb e.dw0 0) (eqb e.dw1 0) c.0 in
          let dw0 = eqb-true e.dw0 0 d.0 in
          let dw1 = eqb-true e.dw1 0 d.1 in
          let crd = eqb-true e.crd 0 c.1 in
          let more = eqb-true e.more 0 b.1 in
          let dnr = eqb-true e.dnr 0 a.1 in
          absurd (omega (arith, h, dw0, dw1, crd, more, dnr))
    ]

pub not_owed : (cqe : List ℕ) → SetsReserved (cqe_fields cqe) → (log : List PortEvent) → false ≡ is_owed log cqe
not_owed cqe h log =
    ap (λ (b : Bool). b && not (is_idle (state_of log (cqe_fields cqe).sqid (cqe_fields cqe).cid)))
    (sym (unclean cqe h))

-- ---- the count

one_kept : (n m : ℕ) → min (min n m + 1) m ≡ min (suc n) m
one_kept n m =
    elim (cases_lt n m) [
      | inl h ↦ ap (λ (k : ℕ). min (k + 1) m) (min-eq_left (le_of_lt h)) ∙ ap (λ (k : ℕ). min k m) (omega arith)
      | inr h ↦ ap (λ (k : ℕ). min (k + 1) m) (min-eq_right h)
          ∙ min-eq_right (omega arith) ∙ sym (min-eq_right (omega (arith, h)))
    ]

counted_more : (log : List PortEvent) (cqe payload : List ℕ) (x : ℕ) → x ≡ drop_count log
    → (if is_owed log cqe then x else one_more_dropped x) ≡ drop_count (PortEvent.Got cqe payload ∷ log)
counted_more log cqe payload x is =
    let owed = is_owed log cqe in
    let n = dropped_in log in
    elim (cases_Bool owed) [
      | inl h ↦ cond-true owed x (one_more_dropped x) h ∙ is
          ∙ ap (λ (k : ℕ). min k (2 ^ 64 - 1)) (sym (cond-true owed n (suc n) h))
      | inr h ↦ cond-false owed x (one_more_dropped x) h ∙ ap one_more_dropped is ∙ one_kept n (2 ^ 64 - 1)
          ∙ ap (λ (k : ℕ). min k (2 ^ 64 - 1)) (sym (cond-false owed n (suc n) h))
    ]

-- what a driver's type keeps, after a Reap
pub counts_keep : (began before after : List PortEvent) (cids : QueueCids) (old new : ℕ)
    → CountsDropped before after cids old new → length began ≤ length before → Matches cids (since began before)
    → old ≡ drop_count (since began before) → new ≡ drop_count (since began after)
counts_keep began before after cids old new (inl s) few m is =
    s.1 ∙ is ∙ ap (λ (log : List PortEvent). drop_count (since began log)) (sym s.0)
counts_keep began before after cids old new (inr s) few m is =
    s.3 (since began before) m
    ∙ counted_more (since began before) s.0 s.1 old is
    ∙ ap drop_count (sym (since_more began before (PortEvent.Got s.0 s.1) few))
    ∙ ap (λ (log : List PortEvent). drop_count (since began log)) (sym s.2)
