-- Where each queue pair has a completion queue of its own, a trace has all completions of its queues.
use Rattle.std.proofs.Common.{◌≡◌, ℕ, ◌+◌, ◌-◌, ◌==◌, Bool, true, false, not, ◌||◌, cond, List, []}
use Rattle.std.proofs.Common.{◌∷◌, refl, sym, ap, ◌∙◌, Some, None, arith, eq-eqb, eqb, eqb-true}
use Rattle.nvme_model.proofs.Numbers.{own_queue}
use Rattle.nvme_model.specs.Config.{config_fault, is_accepted}
use Rattle.nvme_model.specs.EntryBytes.{cqe_fields}
use Rattle.nvme_model.specs.History.{Past}
use Rattle.nvme_model.specs.Legal.{IsLegal}
use Rattle.nvme_model.specs.declared.config.ConfigNumbers.{ConfigNumbers}
use Rattle.nvme_model.specs.declared.entry.Entry.{Entry}
use Rattle.nvme_model.specs.declared.entry.ReapLine.{ReapLine}
use Rattle.nvme_model.proofs.Accepted.{accepted}
use Rattle.nvme_model.proofs.Rules.{follows}
use Rattle.host_laws.specs.Calls.{ReapAnswers}
use Rattle.host_laws.proofs.Reaps.{reap_answers}
use Rattle.trace.specs.Aside.{aside_pair, own}
use Rattle.trace.specs.Observed.{next_payload, observed}
use Rattle.trace.specs.declared.options.TraceOptions.{TraceOptions}
use Rattle.trace.specs.declared.seen.Seen.{Seen}
use Rattle.trace.proofs.Aside.{own_all}
use Rattle.refutation.specs.Apart.{is_apart}
use Rattle.refutation.specs.Lines.{reaped_in}
use Rattle.refutation.proofs.Lines.{none_is}
use Rattle.refutation.proofs.OwnLines.{IsNarrow, is_other}

-- the pair's number has 16 bits
pub aside_narrow : (o : TraceOptions) (c : ConfigNumbers) → is_accepted c ≡ true → IsNarrow (aside_pair o c)
aside_narrow o c a = by o.contents_unknown
  where
    by : (b : Bool) → IsNarrow (cond b (Some c.pairs) None)
    by true = let x = (accepted c (none_is (config_fault c) a)).most_pairs in omega (arith, x)
    by false = tt

-- a completion names the queue of the entry that it answers
pub named : (c : ConfigNumbers) (past : Past) (r : ReapLine) (x : ReapAnswers c past r) → is_accepted c ≡ true
    → (cqe_fields r.cqe).sqid ≡ x.queue
named c past r x a = x.sqid (omega (arith, x.few, (accepted c (none_is (config_fault c) a)).most_pairs))

-- so the pair's completions are on a queue of that number
aside_elsewhere : (c : ConfigNumbers) (past : Past) (r : ReapLine) (m : ℕ) → is_accepted c ≡ true → c.cqs ≡ c.pairs
    → IsLegal c (Entry.Reap r ∷ past) → eqb (cqe_fields r.cqe).sqid c.pairs ≡ true → eqb m c.pairs ≡ false
    → eqb r.queue m ≡ false
aside_elsewhere c past r m a e h s z = by (eqb r.queue m) refl
  where
    x : ReapAnswers c past r
    x = reap_answers c past r h

    queue : r.queue ≡ c.pairs
    queue =
        let same : x.queue ≡ c.pairs = sym (named c past r x a) ∙ eqb-true (cqe_fields r.cqe).sqid c.pairs s in
        sym x.own ∙ (own_queue c x.queue e x.some x.few ∙ same)

    by : (b : Bool) → eqb r.queue m ≡ b → b ≡ false
    by false f = refl
    by true f =
        let g : true ≡ false = sym (eq-eqb m c.pairs (sym (eqb-true r.queue m f) ∙ queue)) ∙ z in
        absurd cc

unknown_reaps : (c : ConfigNumbers) (past : Past) (m : ℕ) → is_accepted c ≡ true → c.cqs ≡ c.pairs → IsLegal c past
    → eqb m c.pairs ≡ false
    → reaped_in (own (Some c.pairs) (observed c past)) m ≡ reaped_in (observed c past) m
unknown_reaps c [] m a e h z = refl
unknown_reaps c (Entry.Reap r ∷ past) m a e h z =
    by (eqb (cqe_fields r.cqe).sqid c.pairs) refl
    (unknown_reaps c past m a e (follows c past (Entry.Reap r) h).before z)
  where
    seen : List Seen
    seen = observed c past

    line : Seen
    line = Seen.Reaped (record { queue = r.queue; cqe = r.cqe; payload = next_payload c past r.queue })

    by : (b : Bool) → eqb (cqe_fields r.cqe).sqid c.pairs ≡ b
        → reaped_in (own (Some c.pairs) seen) m ≡ reaped_in seen m
        → reaped_in (cond b (own (Some c.pairs) seen) (line ∷ own (Some c.pairs) seen)) m
        ≡ reaped_in seen m + cond (eqb r.queue m) 1 0
    by true s ih =
        ih ∙ (omega arith
        ∙ ap (λ (x : Bool). reaped_in seen m + cond x 1 0) (sym (aside_elsewhere c past r m a e h s z)))
    by false s ih = ap (λ (k : ℕ). k + cond (eqb r.queue m) 1 0) ih
unknown_reaps c (Entry.Publish p ∷ past) m a e h z =
    by (eqb p.queue c.pairs) (unknown_reaps c past m a e (follows c past (Entry.Publish p) h).before z)
  where
    seen : List Seen
    seen = observed c past

    by : (b : Bool) → reaped_in (own (Some c.pairs) seen) m ≡ reaped_in seen m
        → reaped_in (cond b (own (Some c.pairs) seen) (Seen.Published p ∷ own (Some c.pairs) seen)) m
        ≡ reaped_in seen m
    by true ih = ih
    by false ih = ih
unknown_reaps c (Entry.Fetch p ∷ past) m a e h z =
    unknown_reaps c past m a e (follows c past (Entry.Fetch p) h).before z
unknown_reaps c (Entry.Grant p ∷ past) m a e h z =
    unknown_reaps c past m a e (follows c past (Entry.Grant p) h).before z
unknown_reaps c (Entry.Block p ∷ past) m a e h z =
    unknown_reaps c past m a e (follows c past (Entry.Block p) h).before z
unknown_reaps c (Entry.Post p ∷ past) m a e h z =
    unknown_reaps c past m a e (follows c past (Entry.Post p) h).before z

pub own_reaps : (o : TraceOptions) (c : ConfigNumbers) (past : Past) (m : ℕ) → is_accepted c ≡ true → IsLegal c past
    → is_apart o c ≡ true → is_other (aside_pair o c) m ≡ true
    → reaped_in (own (aside_pair o c) (observed c past)) m ≡ reaped_in (observed c past) m
own_reaps o c past m a h apart other = by o.contents_unknown apart other
  where
    off : (x : Bool) → not x ≡ true → x ≡ false
    off false e = refl
    off true e = absurd (let f : false ≡ true = e in cc)

    by : (b : Bool) → (not b || (c.cqs == c.pairs)) ≡ true → is_other (cond b (Some c.pairs) None) m ≡ true
        → reaped_in (own (cond b (Some c.pairs) None) (observed c past)) m ≡ reaped_in (observed c past) m
    by false e z = ap (λ (t : List Seen). reaped_in t m) (own_all (observed c past))
    by true e z = unknown_reaps c past m a (eqb-true c.cqs c.pairs e) h (off (eqb m c.pairs) z)

-- the completion queue that a line of the trace names isn't that of the pair
pub own_line : (o : TraceOptions) (c : ConfigNumbers) (past : Past) (r : ReapLine) → is_accepted c ≡ true
    → IsLegal c (Entry.Reap r ∷ past) → is_apart o c ≡ true
    → is_other (aside_pair o c) (cqe_fields r.cqe).sqid ≡ true → is_other (aside_pair o c) r.queue ≡ true
own_line o c past r a h apart other = by o.contents_unknown apart other
  where
    x : ReapAnswers c past r
    x = reap_answers c past r h

    by : (b : Bool) → (not b || (c.cqs == c.pairs)) ≡ true
        → is_other (cond b (Some c.pairs) None) (cqe_fields r.cqe).sqid ≡ true
        → is_other (cond b (Some c.pairs) None) r.queue ≡ true
    by false e z = refl
    by true e z =
        let same : (cqe_fields r.cqe).sqid ≡ r.queue =
        named c past r x a ∙ (sym (own_queue c x.queue (eqb-true c.cqs c.pairs e) x.some x.few) ∙ x.own) in
        ap (λ (k : ℕ). not (eqb k c.pairs)) (sym same) ∙ z
