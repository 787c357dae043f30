-- What an effect of a trace's own queues finds and leaves on blocks, by what the trace tells of it.
use Rattle.std.proofs.Common.{◌≡◌, ℕ, ◌&&◌, true, false, cond, List, [], ◌∷◌, length, sym, ap, ◌∙◌, subst, Option}
use Rattle.std.proofs.Common.{Some}
use Rattle.nvme_model.specs.Array.{has_block}
use Rattle.nvme_model.specs.History.{Past}
use Rattle.nvme_model.specs.Operations.{has_compare, op, write_data}
use Rattle.nvme_model.specs.Statuses.{compare_failure, is_success, same_status}
use Rattle.nvme_model.specs.Tickets.{Ticket}
use Rattle.nvme_model.specs.Value.{all_equal, value, writes}
use Rattle.nvme_model.specs.declared.array.Range.{Range}
use Rattle.nvme_model.specs.declared.config.ConfigNumbers.{ConfigNumbers}
use Rattle.nvme_model.specs.declared.entry.BlockLine.{BlockLine}
use Rattle.nvme_model.specs.declared.entry.Entry.{Entry}
use Rattle.host_laws.specs.Calls.{cqe_status}
use Rattle.trace.specs.Aside.{own}
use Rattle.trace.specs.Observed.{observed}
use Rattle.trace.specs.declared.options.TraceOptions.{TraceOptions}
use Rattle.trace.specs.declared.seen.ReapedLine.{ReapedLine}
use Rattle.refutation.specs.Apart.{held_at_first}
use Rattle.refutation.specs.Effects.{effect_by}
use Rattle.refutation.specs.EffectOrders.{EffectName, comes_before}
use Rattle.refutation.specs.Slices.{answer_of, found_block, looks, range_of, says_failed, ticket_of}
use Rattle.refutation.specs.Told.{told_units}
use Rattle.refutation.proofs.AsideFirst.{Cut}
use Rattle.refutation.proofs.EffectBlocks
use Rattle.refutation.proofs.EffectBlocks.{EffectHere}
use Rattle.refutation.proofs.Lines.{tidy_on}
use Rattle.refutation.proofs.OwnLines.{is_other, own_answer}
use Rattle.refutation.proofs.OwnOrders.{own_ticket, own_units}

-- What holds of a history whose trace lacks this pair, where the trace is tidy: it is tidy on its own queues, the
-- orders that it tells are the history's, and the pair's effects come first, of which no slice knows what they left.
pub record Told (options : TraceOptions) (aside : Option ℕ) (c : ConfigNumbers) (whole : Past) : Type 0 where
  pub tidy : (q : ℕ) → is_other aside q ≡ true → tidy_on q (observed c whole) ≡ true
  pub order : (a b : EffectName) (before : Past) → is_other aside a.queue ≡ true → is_other aside b.queue ≡ true
      → comes_before options c (own aside (observed c whole)) a b ≡ true
      → effect_by whole b.queue b.number b.unit ≡ Some before
      → (first : Past) × (effect_by before a.queue a.number a.unit ≡ Some first)
  pub cut : Cut aside whole
  pub unknown : (q : ℕ) → is_other aside q ≡ false → held_at_first options ≡ []

-- an effect of a queue of the trace
pub record OwnEffect (aside : Option ℕ) (c : ConfigNumbers) (whole : Past) (n : EffectName) (past : Past)
    (b : BlockLine)
    (r : Range) : Type 0 where
  pub other : is_other aside n.queue ≡ true
  pub here : EffectHere c whole n past b r
  pub range : range_of c (own aside (observed c whole)) n ≡ Some r

module _ (aside : Option ℕ) (c : ConfigNumbers) (whole : Past) (n : EffectName) (past : Past) (b : BlockLine)
    (r : Range)
  where
    same_ticket : OwnEffect aside c whole n past b r
        → ticket_of (own aside (observed c whole)) n ≡ ticket_of (observed c whole) n
    same_ticket h = own_ticket aside (observed c whole) n.queue n.number h.other

    same_answer : OwnEffect aside c whole n past b r
        → answer_of (own aside (observed c whole)) n ≡ answer_of (observed c whole) n
    same_answer h = own_answer aside (observed c whole) n.queue n.number h.other

    pub value_behind : (l : ℕ) → OwnEffect aside c whole n past b r
        → value (Entry.Block b ∷ past) l
        ≡ cond (has_block r l && writes (value past) (ticket_of (own aside (observed c whole)) n) r)
        (write_data (ticket_of (own aside (observed c whole)) n) l) (value past l)
    value_behind l h =
        subst (λ (k : Ticket). value (Entry.Block b ∷ past) l
        ≡ cond (has_block r l && writes (value past) k r) (write_data k l) (value past l)) (sym (same_ticket h))
        (EffectBlocks.value_behind c whole n past b r l h.here)

    pub yes_here : (a : ReapedLine) → OwnEffect aside c whole n past b r
        → answer_of (own aside (observed c whole)) n ≡ Some a → is_success (cqe_status a.cqe) ≡ true
        → has_compare (op (ticket_of (own aside (observed c whole)) n)) ≡ true
        → all_equal (value past) (ticket_of (own aside (observed c whole)) n) r ≡ true
    yes_here a h e y p =
        ap (λ (k : Ticket). all_equal (value past) k r) (same_ticket h)
        ∙ EffectBlocks.yes_here c whole n past b r a h.here (sym (same_answer h) ∙ e) y
        (ap (λ (k : Ticket). has_compare (op k)) (sym (same_ticket h)) ∙ p)

    pub found_here : (a : ReapedLine) (l : ℕ) → OwnEffect aside c whole n past b r
        → answer_of (own aside (observed c whole)) n ≡ Some a → is_success (cqe_status a.cqe) ≡ true
        → looks (op (ticket_of (own aside (observed c whole)) n)) ≡ true → has_block r l ≡ true
        → found_block (op (ticket_of (own aside (observed c whole)) n)) (ticket_of (own aside (observed c whole)) n)
        a.payload l ≡ value past l
    found_here a l h e y z g =
        ap (λ (k : Ticket). found_block (op k) k a.payload l) (same_ticket h)
        ∙ EffectBlocks.found_here c whole n past b r a l h.here (sym (same_answer h) ∙ e) y
        (ap (λ (k : Ticket). looks (op k)) (sym (same_ticket h)) ∙ z) g

    pub no_here : (a : ReapedLine) → OwnEffect aside c whole n past b r
        → answer_of (own aside (observed c whole)) n ≡ Some a
        → same_status (cqe_status a.cqe) compare_failure ≡ true
        → length (told_units c (own aside (observed c whole)) n.queue n.number) ≡ 1
        → all_equal (value past) (ticket_of (own aside (observed c whole)) n) r ≡ false
    no_here a h e y one =
        ap (λ (k : Ticket). all_equal (value past) k r) (same_ticket h)
        ∙ (EffectBlocks.no_here c whole n past b r a h.here (sym (same_answer h) ∙ e) y
        (ap (λ (us : List Range). length us) (sym (own_units aside c (observed c whole) n.queue n.number h.other))
        ∙ one)).1

    pub nothing_written : OwnEffect aside c whole n past b r
        → says_failed (answer_of (own aside (observed c whole)) n) ≡ true
        → writes (value past) (ticket_of (own aside (observed c whole)) n) r ≡ false
    nothing_written h v =
        ap (λ (k : Ticket). writes (value past) k r) (same_ticket h)
        ∙ EffectBlocks.nothing_written c whole n past b r h.here (ap says_failed (sym (same_answer h)) ∙ v)
