-- The rules of the order of effects, of a trace that a history explains.
use Rattle.std.proofs.Common.{◌≡◌, ◌∙◌, ◌==◌, ◌&&◌, ℕ, Bool, List, None, Some, cond, false, not, refl}
use Rattle.std.proofs.Common.{sym, true}
use Rattle.nvme_model.specs.Config.{is_accepted}
use Rattle.nvme_model.specs.History.{Past}
use Rattle.nvme_model.specs.declared.config.ConfigNumbers.{ConfigNumbers}
use Rattle.trace.specs.Aside.{aside_pair, own}
use Rattle.trace.specs.Observed.{Explains, observed}
use Rattle.trace.specs.declared.options.TraceOptions.{TraceOptions}
use Rattle.trace.specs.declared.seen.Seen.{Seen}
use Rattle.refutation.specs.Apart.{is_own_queue}
use Rattle.refutation.specs.Effects.{effect_by}
use Rattle.refutation.specs.EffectOrders.{EffectName, comes_before}
use Rattle.refutation.specs.Lines.{is_tidy}
use Rattle.refutation.specs.Told.{is_sure}
use Rattle.refutation.proofs.LineOrders.{sure_effect}
use Rattle.refutation.proofs.OwnLines.{is_other}
use Rattle.refutation.proofs.OwnOrders.{own_sure, sure_other}
use Rattle.refutation.proofs.ReadLines.{same_tidy}
use Rattle.refutation.proofs.ReadSlices.{same_order, same_sure}
use Rattle.refutation.proofs.WholeSlices.{told_of}

pub sure_as_read : (o : TraceOptions) (c : ConfigNumbers) (past : Past) (trace : List Seen) (q j u : ℕ)
    → is_accepted c ≡ true → Explains o c past trace → is_tidy trace ≡ true → is_sure c trace q j u ≡ true
    → (before : Past) × (effect_by past q j u ≡ Some before)
sure_as_read o c past trace q j u a x d e =
    let seen = own (aside_pair o c) (observed c past) in
    let told = told_of o c past a x.0 x.1.0 (same_tidy o seen trace x.1.1 ∙ d) in
    let sure = same_sure o c seen trace q j u x.1.1 ∙ e in
    let other = sure_other (aside_pair o c) c (observed c past) q j u sure in
    sure_effect c past q j u x.0 (told.tidy q other)
    (sym (own_sure (aside_pair o c) c (observed c past) q j u other) ∙ sure)

other_of : (o : TraceOptions) (c : ConfigNumbers) (q : ℕ) → is_own_queue o c q ≡ true
    → is_other (aside_pair o c) q ≡ true
other_of o c q = by o.contents_unknown
  where
    by : (b : Bool) → not (b && (q == c.pairs)) ≡ true → is_other (cond b (Some c.pairs) None) q ≡ true
    by true h = h
    by false h = refl

pub order_as_read : (o : TraceOptions) (c : ConfigNumbers) (past : Past) (trace : List Seen) (a b : EffectName)
    (before : Past) → is_accepted c ≡ true → Explains o c past trace → is_tidy trace ≡ true
    → is_own_queue o c a.queue ≡ true → is_own_queue o c b.queue ≡ true
    → comes_before o c trace a b ≡ true → effect_by past b.queue b.number b.unit ≡ Some before
    → (first : Past) × (effect_by before a.queue a.number a.unit ≡ Some first)
order_as_read o c past trace a b before acc x d oa ob e f =
    let seen = own (aside_pair o c) (observed c past) in
    let told = told_of o c past acc x.0 x.1.0 (same_tidy o seen trace x.1.1 ∙ d) in
    told.order a b before (other_of o c a.queue oa) (other_of o c b.queue ob)
    (same_order o c seen trace a b x.1.1 ∙ e) f
