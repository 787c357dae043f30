-- What a controller of this kind adds to its history it would add there again.
use Rattle.std.proofs.Common.{Bool, Err, List, None, Ok, Option, Result, Some, ap, ap₂, inl, inr, is_none}
use Rattle.std.proofs.Common.{length, refl, subst, sym, true, ℕ, ◌≡◌, ◌∙◌, ◌∷◌}
use Rattle.std.proofs.lemmas.Bool.{and_parts, eqb-true}
use Rattle.plain_lemmas.proofs.Lists.{bytes_eq_true}
use Rattle.nvme_model.specs.History.{Past, step_of}
use Rattle.nvme_model.specs.Kept.{ControllerInvariant}
use Rattle.nvme_model.specs.Legal.{is_cqe, is_range, post_fits}
use Rattle.nvme_model.specs.Open.{blocks_made, grants_of, unit_range}
use Rattle.nvme_model.specs.Operations.{is_exclusive, mode, op}
use Rattle.nvme_model.specs.Steps.{block_entry, due, grant_entry, marked, next_entry, post_entry, reap_entry, word}
use Rattle.nvme_model.specs.Tickets.{ticket}
use Rattle.nvme_model.specs.Verdict.{same_verdict}
use Rattle.nvme_model.specs.declared.array.Mode.{Mode}
use Rattle.nvme_model.specs.declared.array.Range.{Range}
use Rattle.nvme_model.specs.declared.config.ConfigNumbers.{ConfigNumbers}
use Rattle.nvme_model.specs.declared.entry.BlockLine.{BlockLine}
use Rattle.nvme_model.specs.declared.entry.Entry.{Entry}
use Rattle.nvme_model.specs.declared.entry.GrantLine.{GrantLine}
use Rattle.nvme_model.specs.declared.entry.PostLine.{PostLine}
use Rattle.nvme_model.specs.declared.entry.ReapLine.{ReapLine}
use Rattle.nvme_model.specs.declared.operation.Found.{Found}
use Rattle.nvme_model.specs.declared.status.Status.{Status}
use Rattle.nvme_model.specs.declared.status.Verdict.{Verdict}
use Rattle.nvme_model.proofs.Blocks.{may_block}
use Rattle.nvme_model.proofs.Rules.{follows}
use Rattle.std.specs.Bool.{beq}
use Rattle.std.specs.Prelude.{unwrap_or, ◌⊎◌}
use Rattle.nvme_model.specs.Refusals.{refusal}
use Rattle.nvme_model.specs.declared.refusal.Why.{Why}
use Rattle.nvme_model.specs.declared.step.Step.{Step}
use Rattle.controller_interface.specs.State.{Serves, refused_as}
use Rattle.controller_interface.specs.declared.answer.Answer.{Answer}
use Rattle.controller_interface.specs.declared.answer.Refused.{Refused}
use Rattle.history.specs.Lines.{entry_in}
use Rattle.plain_lemmas.proofs.Options.{some_one}
use Rattle.vandrexu_c.specs.Answers.{refused_number}
use Rattle.vandrexu_c.specs.OwnedStates.{OwnedState}
use Rattle.vandrexu_c.specs.Replays.{Replays, ReplaysEntry, TellsAgain}
use Rattle.host_laws.proofs.Verdicts.{status_eq}

verdict_eq : (v w : Verdict) → same_verdict v w ≡ true → v ≡ w
verdict_eq Verdict.Single Verdict.Single e = refl
verdict_eq (Verdict.SingleFailed s) (Verdict.SingleFailed r) e = ap Verdict.SingleFailed (status_eq s r e)
verdict_eq Verdict.Pair Verdict.Pair e = refl
verdict_eq (Verdict.PairFailed s t) (Verdict.PairFailed r u) e =
    let a = and_parts _ _ e in ap₂ Verdict.PairFailed (status_eq s r a.0) (status_eq t u a.1)
verdict_eq Verdict.Single (Verdict.SingleFailed r) e = cc
verdict_eq Verdict.Single Verdict.Pair e = cc
verdict_eq Verdict.Single (Verdict.PairFailed r u) e = cc
verdict_eq (Verdict.SingleFailed s) Verdict.Single e = cc
verdict_eq (Verdict.SingleFailed s) Verdict.Pair e = cc
verdict_eq (Verdict.SingleFailed s) (Verdict.PairFailed r u) e = cc
verdict_eq Verdict.Pair Verdict.Single e = cc
verdict_eq Verdict.Pair (Verdict.SingleFailed r) e = cc
verdict_eq Verdict.Pair (Verdict.PairFailed r u) e = cc
verdict_eq (Verdict.PairFailed s t) Verdict.Single e = cc
verdict_eq (Verdict.PairFailed s t) (Verdict.SingleFailed r) e = cc
verdict_eq (Verdict.PairFailed s t) Verdict.Pair e = cc

mode_eq : (m n : Mode) → beq (is_exclusive m) (is_exclusive n) ≡ true → m ≡ n
mode_eq Mode.Shared Mode.Shared e = refl
mode_eq Mode.Exclusive Mode.Exclusive e = refl
mode_eq Mode.Shared Mode.Exclusive e = cc
mode_eq Mode.Exclusive Mode.Shared e = cc

-- lines whose parts are the same
same_grant : (t u v : ℕ) (r s : Range) (m n : Mode) → u ≡ v → r ≡ s → m ≡ n
    → Entry.Grant (record { ticket = t; unit = u; range = r; mode = m })
    ≡ Entry.Grant (record { ticket = t; unit = v; range = s; mode = n })
same_grant t u v r s m n a b d = rw (a, b, d) refl

same_block : (t u v l k : ℕ) (f g : Found) (e d : Bool) → u ≡ v → l ≡ k → f ≡ g → e ≡ d
    → Entry.Block (record { ticket = t; unit = u; lba = l; found = f; effect = e })
    ≡ Entry.Block (record { ticket = t; unit = v; lba = k; found = g; effect = d })
same_block t u v l k f g e d a b m n = rw (a, b, m, n) refl

granted : (past : Past) (g : GrantLine) (o : Option Range) → g.unit ≡ grants_of past g.ticket
    → is_range o g.range ≡ true → g.mode ≡ mode (ticket past g.ticket) → grant_entry past g.ticket o ≡ Entry.Grant g
granted past g None u r m = cc
granted past g (Some s) u r m =
    let p = and_parts _ _ r in
    let range : s ≡ g.range = ap₂ (λ a b. record { slba = a; blocks = b }) (eqb-true _ _ p.0) (eqb-true _ _ p.1) in
    same_grant g.ticket _ _ _ _ _ _ (sym u) range (sym m)

blocked : (past : Past) (b : BlockLine) (g : GrantLine) → g.ticket ≡ b.ticket → b.unit ≡ g.unit
    → unit_range past g.ticket g.unit ≡ g.range
    → b.lba ≡ due g.range (length (blocks_made past g.ticket g.unit))
    → b.found ≡ word past (ticket past b.ticket) (op (ticket past b.ticket)) (unit_range past b.ticket b.unit).blocks
    (length (blocks_made past b.ticket b.unit)) b.lba
    → b.effect ≡ marked (op (ticket past b.ticket)) (unit_range past b.ticket b.unit).blocks
    (length (blocks_made past b.ticket b.unit)) b.found
    → block_entry past b.ticket (Some g) ≡ Entry.Block b
blocked past b g same unit range lba found effect =
    let k = ticket past b.ticket in
    let made = length (blocks_made past b.ticket g.unit) in
    let at : b.lba ≡ due g.range made = lba ∙ ap (λ t. due g.range (length (blocks_made past t g.unit))) same in
    let held : unit_range past b.ticket b.unit ≡ g.range =
    ap (λ t. unit_range past t b.unit) (sym same) ∙ ap (λ u. unit_range past g.ticket u) unit ∙ range in
    let finds = word past k (op k) g.range.blocks made (due g.range made) in
    let said : b.found ≡ finds =
    found ∙ ap (λ (r : Range). word past k (op k) r.blocks (length (blocks_made past b.ticket b.unit)) b.lba) held
    ∙ ap (λ u. word past k (op k) g.range.blocks (length (blocks_made past b.ticket u)) b.lba) unit
    ∙ ap (λ l. word past k (op k) g.range.blocks made l) at in
    let mark : b.effect ≡ marked (op k) g.range.blocks made finds =
    effect ∙ ap (λ (r : Range). marked (op k) r.blocks (length (blocks_made past b.ticket b.unit)) b.found) held
    ∙ ap (λ u. marked (op k) g.range.blocks (length (blocks_made past b.ticket u)) b.found) unit
    ∙ ap (λ f. marked (op k) g.range.blocks made f) said in
    same_block b.ticket g.unit b.unit _ b.lba _ b.found _ b.effect (sym unit) (sym at) (sym said) (sym mark)

posted : (c : ConfigNumbers) (past : Past) (p : PostLine) (o : Option Status) → post_fits c past p o ≡ true
    → post_entry c past p.ticket o ≡ Entry.Post p
posted c past p None e = cc
posted c past p (Some s) e =
    let a = and_parts _ _ e in
    ap₂ (λ x y. Entry.Post (record { ticket = p.ticket; cqe = x; payload = y })) (sym (bytes_eq_true _ _ a.0))
    (sym (bytes_eq_true _ _ a.1))

reaped : (r : ReapLine) (o : Option PostLine) → is_cqe o r.cqe ≡ true → reap_entry r.queue o ≡ Entry.Reap r
reaped r None e = cc
reaped r (Some p) e = ap (λ x. Entry.Reap (record { queue = r.queue; cqe = x })) (bytes_eq_true _ _ e)

-- what a controller of this kind added it adds there
pub own_entry : (c : ConfigNumbers) (past : Past) (e : Entry) → ControllerInvariant c (e ∷ past)
    → next_entry c past (step_of e) ≡ e
own_entry c past (Entry.Publish p) h = refl
own_entry c past (Entry.Fetch f) h =
    let a = and_parts _ _ (follows c past (Entry.Fetch f) h.legal).fits in
    ap₂ (λ t v. Entry.Fetch (record { queue = f.queue; ticket = t; verdict = v })) (sym (eqb-true _ _ a.0))
    (sym (verdict_eq _ _ a.1))
own_entry c past (Entry.Grant g) h =
    let a = and_parts _ _ (follows c past (Entry.Grant g) h.legal).fits in
    let b = and_parts _ _ a.0 in
    granted past g _ (eqb-true _ _ b.0) b.1 (mode_eq _ _ a.1)
own_entry c past (Entry.Block b) h =
    let m = may_block c past b h.legal in
    ap (block_entry past b.ticket) m.1
    ∙ blocked past b m.0 m.2.ticket m.2.unit m.2.unended.facts.range m.2.lba h.words.1 h.marks.1
own_entry c past (Entry.Post p) h = posted c past p _ (follows c past (Entry.Post p) h.legal).fits
own_entry c past (Entry.Reap r) h = reaped r _ (follows c past (Entry.Reap r) h.legal).fits

-- ---- what is told of it

none_is : (o : Option Why) → is_none o ≡ true → o ≡ None
none_is None e = refl
none_is (Some w) e = cc

eleven : (step : Step) → refused_number (refused_as step Why.NoMemory) ≡ 11
eleven (Step.Publish q batch) = refl
eleven (Step.Fetch q) = refl
eleven (Step.Grant t) = refl
eleven (Step.Block t) = refl
eleven (Step.Post t) = refl
eleven (Step.Reap q) = refl

told_by : (old new : OwnedState) (e : Entry) (number : ℕ) → ControllerInvariant old.core.config (e ∷ old.core.past)
    → (r : Result Answer Refused) → Serves old.core (step_of e) r new.core
    → TellsAgain (next_entry old.core.config old.core.past (step_of e)) e r number → (number ≡ 0) ⊎ (number ≡ 11)
told_by old new e number own (Ok a) serves told = elim told [
  | inl again ↦ inl again.0
  | inr other ↦ absurd (other.1 (own_entry old.core.config old.core.past e own))
]
told_by old new e number own (Err r) serves told =
    let legal = and_parts _ _ own.legal in
    let allowed = and_parts _ _ legal.1 in
    let none = none_is (refusal old.core.config old.core.past (step_of e)) allowed.0 in
    let is : r ≡ refused_as (step_of e) Why.NoMemory =
    serves.0 ∙ ap (λ o. refused_as (step_of e) (unwrap_or o Why.NoMemory)) none in
    inr (told ∙ ap refused_number is ∙ eleven (step_of e))

-- a line of a history that a controller of this kind made is made once more, or memory is refused
pub own_told : (old new : OwnedState) (line : List ℕ) (number : ℕ) (e : Entry) → Replays old line number new
    → entry_in line ≡ Some e → ControllerInvariant old.core.config (e ∷ old.core.past) → (number ≡ 0) ⊎ (number ≡ 11)
own_told old new line number e replays read own = elim replays [
  | inl none ↦ absurd (let f : Some e ≡ None = sym read ∙ none.1 in cc)
  | inr more ↦ elim more [
    | inl refused ↦ inr refused.0
    | inr made ↦
        let same : made.0 ≡ e = some_one _ _ (sym made.1 ∙ read) in
        let entry = subst (λ x. ReplaysEntry old x number new) same made.2 in
        told_by old new e number own entry.0 entry.1 entry.3
  ]
]
