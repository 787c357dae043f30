-- Effects keep the order of a trace's lines.
use Rattle.nvme_model.specs.Tickets
use Rattle.std.proofs.Common.{◌≡◌, ℕ, suc, ◌≤◌, ◌<◌, Bool, true, false, ◌&&◌, ◌||◌, List, [], ◌∷◌, ◌++◌}
use Rattle.std.proofs.Common.{length, refl, sym, ap, ◌∙◌, subst, Option, Some, None, is_some, inl, inr, arith}
use Rattle.std.proofs.Common.{append_assoc, eqb, eqb-true, nat_le, nat_lt, leb-true, ltb-true, slice_get}
use Rattle.std.proofs.lemmas.Bool.{and_parts, cond-false, cond-true, or_cases}
use Rattle.std.proofs.lemmas.Option.{slice_get_within}
use Rattle.nvme_model.specs.History.{Past}
use Rattle.nvme_model.specs.Legal.{IsLegal}
use Rattle.nvme_model.specs.Operations.{is_pair, op}
use Rattle.nvme_model.specs.Placed.{effect}
use Rattle.nvme_model.specs.Queues.{published_entries}
use Rattle.nvme_model.specs.Tickets.{Ticket, command, first_fields}
use Rattle.nvme_model.specs.declared.array.Range.{Range}
use Rattle.nvme_model.specs.declared.config.ConfigNumbers.{ConfigNumbers}
use Rattle.nvme_model.specs.declared.entry.BlockLine.{BlockLine}
use Rattle.nvme_model.specs.declared.entry.Entry.{Entry}
use Rattle.nvme_model.specs.declared.operation.Op.{Op}
use Rattle.nvme_model.proofs.Beginnings.{earlier}
use Rattle.nvme_model.proofs.Once.{units_before}
use Rattle.nvme_model.proofs.Pairs.{marked_here}
use Rattle.nvme_model.proofs.Runs.{some_at}
use Rattle.host_laws.proofs.Later.{some_effect}
use Rattle.host_laws.specs.Calls.{cqe_status}
use Rattle.nvme_model.specs.Statuses.{compare_failure, is_success, same_status}
use Rattle.trace.specs.Observed.{observed, shown, with_shown}
use Rattle.trace.specs.declared.seen.ReapedLine.{ReapedLine}
use Rattle.trace.specs.declared.seen.Seen.{Seen}
use Rattle.refutation.specs.Effects.{effect_by}
use Rattle.refutation.specs.Lines.{answer_in, before_entry, published_in}
use Rattle.refutation.specs.EffectOrders.{EffectName, ends_before, is_earlier_unit, last_entry}
use Rattle.refutation.specs.Told.{is_sure}
use Rattle.refutation.specs.Told.{says_differs, says_done, told_ticket, told_units}
use Rattle.refutation.proofs.Answered.{differed_command, done_command}
use Rattle.refutation.proofs.Lines.{on_before, published_seen, tidy_on}
use Rattle.refutation.proofs.NamedEffects.{EffectBy, behind, by_effect, by_later, effect_of, entries_of}
use Rattle.refutation.proofs.NamedEffects.{of_ticket}
use Rattle.refutation.proofs.ToldTickets.{pair_takes_two, some_op, told_effect, unit_of_entry}

-- ---- a beginning of a trace is seen of a beginning of the history

abbrev pub IsBeginning : ConfigNumbers → Past → List Seen → Type 0
IsBeginning c whole first = (later past : Past) × (whole ≡ later ++ past) × (observed c past ≡ first)

with_one : (c : ConfigNumbers) (e : Entry) (whole : Past) (first : List Seen) → IsBeginning c whole first
    → IsBeginning c (e ∷ whole) first
with_one c e whole first r = (e ∷ r.0, r.1, ap (λ (l : Past). e ∷ l) r.2, r.3)

pub beginning : (c : ConfigNumbers) (whole : Past) (more first : List Seen) → observed c whole ≡ more ++ first
    → IsBeginning c whole first
beginning c whole [] first h = ([], whole, refl, h)
beginning c [] (s ∷ more) first h = absurd (differ h)
  where
    differ : [] ≡ s ∷ (more ++ first) → ⊥
    differ f = cc
beginning c (e ∷ whole) (s ∷ more) first h =
    step (shown c whole e) h (λ g. with_one c e whole first (beginning c whole (s ∷ more) first g))
    (λ g. with_one c e whole first (beginning c whole more first g))
  where
    step : (o : Option Seen) → with_shown o (observed c whole) ≡ s ∷ (more ++ first)
        → (observed c whole ≡ s ∷ (more ++ first) → IsBeginning c (e ∷ whole) first)
        → (observed c whole ≡ more ++ first → IsBeginning c (e ∷ whole) first)
        → IsBeginning c (e ∷ whole) first
    step None g f k = f g
    step (Some x) g f k = k (tail g)
      where
        tail : x ∷ observed c whole ≡ s ∷ (more ++ first) → observed c whole ≡ more ++ first
        tail i = cc

-- the lines before an entry
pub record LinesBefore (trace : List Seen) (q j : ℕ) : Type 0 where
  pub more : List Seen
  pub is : trace ≡ more ++ before_entry trace q j
  pub few : length (published_in (before_entry trace q j) q) ≤ j

pub lines_before : (trace : List Seen) (q j : ℕ) → LinesBefore trace q j
lines_before [] q j = record { more = []; is = refl; few = omega arith }
lines_before (s ∷ trace) q j = go (nat_le (length (published_in (s ∷ trace) q)) j) refl (lines_before trace q j)
  where
    go : (b : Bool) → nat_le (length (published_in (s ∷ trace) q)) j ≡ b → LinesBefore trace q j
        → LinesBefore (s ∷ trace) q j
    go true e ih =
        let is : before_entry (s ∷ trace) q j ≡ s ∷ trace = cond-true _ (s ∷ trace) (before_entry trace q j) e in
        record {
          more = [];
          is = sym is;
          few = subst (λ (t : List Seen). length (published_in t q) ≤ j) (sym is) (leb-true _ j e);
        }
    go false e ih =
        let is : before_entry (s ∷ trace) q j ≡ before_entry trace q j =
        cond-false _ (s ∷ trace) (before_entry trace q j) e in
        record {
          more = s ∷ ih.more;
          is = ap (λ (t : List Seen). s ∷ t) ih.is ∙ ap (λ (t : List Seen). (s ∷ ih.more) ++ t) (sym is);
          few = subst (λ (t : List Seen). length (published_in t q) ≤ j) (sym is) ih.few;
        }

-- ---- what is sure has its effect

pub sure_effect : (c : ConfigNumbers) (past : Past) (q j u : ℕ) → IsLegal c past
    → tidy_on q (observed c past) ≡ true
    → is_sure c (observed c past) q j u ≡ true → (before : Past) × (effect_by past q j u ≡ Some before)
sure_effect c past q j u h d e =
    let n = length (told_units c (observed c past) q j) in
    let a = and_parts (nat_lt u n)
    (says_done (answer_in (observed c past) q j) || (says_differs (answer_in (observed c past) q j) && eqb n 1)) e in
    let x = some_at (told_units c (observed c past) q j) u (ltb-true u n a.0) in
    by (answer_in (observed c past) q j) refl x (some_op c (told_ticket (observed c past) q j) u x.0
    (unit_of_entry c (observed c past) q j u x.0 x.1)) a.1
  where
    by : (o : Option ReapedLine) → answer_in (observed c past) q j ≡ o
        → ((r : Range) × (slice_get (told_units c (observed c past) q j) u ≡ Some r))
        → ((f : Op) × (op (told_ticket (observed c past) q j) ≡ Some f))
        → (says_done o || (says_differs o && eqb (length (told_units c (observed c past) q j)) 1)) ≡ true
        → (before : Past) × (effect_by past q j u ≡ Some before)
    by None g x p s = absurd (let f : false ≡ true = s in cc)
    by (Some r) g x p s = elim (or_cases (is_success (cqe_status r.cqe))
        (same_status (cqe_status r.cqe) compare_failure && eqb (length (told_units c (observed c past) q j)) 1) s) [
          | inl y ↦
              let k = done_command c past q j r p.0 h d g y p.1 in
              let f = k.1.effects u x.0 x.1 in
              (f.0, of_ticket c past k.0.ticket q j u f.0 h k.0.numbered f.1)
          | inr y ↦
              let z = and_parts (same_status (cqe_status r.cqe) compare_failure)
              (eqb (length (told_units c (observed c past) q j)) 1) y in
              let only = eqb-true (length (told_units c (observed c past) q j)) 1 z.1 in
              let k = differed_command c past q j r p.0 h d g z.0 p.1 only in
              let first : u ≡ 0 = omega (
                arith,
                only,
                slice_get_within (told_units c (observed c past) q j) u x.0 x.1,
              ) in (
                k.1.before,
                of_ticket c past k.0.ticket q j u k.1.before h k.0.numbered
                    (ap (effect past k.0.ticket) first ∙ k.1.there),
              )
        ]

-- ---- rule 1: a was answered before b was published

-- an effect isn't in a beginning in which its command isn't published whole
pub not_yet : (c : ConfigNumbers) (later start : Past) (q j u : ℕ) → IsLegal c (later ++ start)
    → length (published_entries start q) ≤ last_entry (observed c (later ++ start)) q j
    → effect_by start q j u ≡ None
not_yet c later start q j u h l = go (effect_by start q j u) refl
  where
    go : (o : Option Past) → effect_by start q j u ≡ o → o ≡ None
    go None e = refl
    go (Some before) e =
        let legal = earlier c later start h in
        let at = by_effect start q j u before e in
        let there : EffectBy (later ++ start) q j u before = record {
          later = later ++ at.later;
          block = at.block;
          is = ap (λ (p : Past). later ++ p) at.is ∙ sym (append_assoc later at.later (Entry.Block at.block ∷ before));
          here = at.here;
        } in
        let told = told_effect c (later ++ start) (observed c (later ++ start)) q j u before there h
        (published_seen c (later ++ start) q) in
        let s = entries_of c start q j u before at (effect_of c start q j u before at legal) in
        let k = Tickets.ticket before at.block.ticket in
        let first = slice_get_within (published_entries start q) j (command k 0) s.first in
        by (is_pair (op (told_ticket (observed c (later ++ start)) q j))) refl first
        (λ p. slice_get_within (published_entries start q) (suc j) (command k 1)
        (s.second (pair_takes_two k (ap is_pair told.alike.op ∙ p))))
      where
        by : (b : Bool) → is_pair (op (told_ticket (observed c (later ++ start)) q j)) ≡ b
            → j < length (published_entries start q)
            → (is_pair (op (told_ticket (observed c (later ++ start)) q j)) ≡ true
            → suc j < length (published_entries start q)) → Some before ≡ None
        by true p x f =
            let e : last_entry (observed c (later ++ start)) q j ≡ suc j = cond-true _ (suc j) j p in
            absurd (omega (arith, f p, l, e))
        by false p x f =
            let e : last_entry (observed c (later ++ start)) q j ≡ j = cond-false _ (suc j) j p in
            absurd (omega (arith, x, l, e))

moved_on : (c : ConfigNumbers) (before after start : Past) (a : EffectName) (first : Past) → before ≡ after ++ start
    → IsLegal c before → effect_by start a.queue a.number a.unit ≡ Some first
    → effect_by before a.queue a.number a.unit ≡ Some first
moved_on c before after start a first e h f =
    subst (λ (p : Past). effect_by p a.queue a.number a.unit ≡ Some first) (sym e)
    (by_later c after start a.queue a.number a.unit first (subst (λ (p : Past). IsLegal c p) e h) f)

pub ended_before : (c : ConfigNumbers) (past : Past) (a b : EffectName) (before : Past) → IsLegal c past
    → tidy_on a.queue (observed c past) ≡ true → ends_before c (observed c past) a b ≡ true
    → effect_by past b.queue b.number b.unit ≡ Some before
    → (first : Past) × (effect_by before a.queue a.number a.unit ≡ Some first)
ended_before c past a b before h d e f =
    let n = last_entry (observed c past) b.queue b.number in
    let lines = lines_before (observed c past) b.queue n in
    let first = before_entry (observed c past) b.queue n in
    let start = beginning c past lines.more first lines.is in
    let legal : IsLegal c (start.0 ++ start.1) = subst (λ (p : Past). IsLegal c p) start.2 h in
    let tidy : tidy_on a.queue (observed c start.1) ≡ true =
    ap (tidy_on a.queue) start.3 ∙ on_before a.queue lines.more first (ap (tidy_on a.queue) (sym lines.is) ∙ d) in
    let sure : is_sure c (observed c start.1) a.queue a.number a.unit ≡ true =
    ap (λ (t : List Seen). is_sure c t a.queue a.number a.unit) start.3 ∙ e in
    let there = sure_effect c start.1 a.queue a.number a.unit (earlier c start.0 start.1 legal) tidy sure in
    let shown : length (published_entries start.1 b.queue) ≡ length (published_in first b.queue) =
    ap length (published_seen c start.1 b.queue ∙ ap (λ (t : List Seen). published_in t b.queue) start.3) in
    let last : n ≡ last_entry (observed c (start.0 ++ start.1)) b.queue b.number =
    ap (λ (p : Past). last_entry (observed c p) b.queue b.number) start.2 in
    let few : length (published_entries start.1 b.queue)
    ≤ last_entry (observed c (start.0 ++ start.1)) b.queue b.number = omega (arith, lines.few, shown, last) in
    let none = not_yet c start.0 start.1 b.queue b.number b.unit legal few in
    let f2 : effect_by (start.0 ++ start.1) b.queue b.number b.unit ≡ Some before =
    subst (λ (p : Past). effect_by p b.queue b.number b.unit ≡ Some before) start.2 f in
    let after = behind start.0 start.1 b.queue b.number b.unit before f2 none in
    let of = effect_of c past b.queue b.number b.unit before (by_effect past b.queue b.number b.unit before f) h in (
      there.0,
      moved_on c before after.0 start.1 a there.0 after.1 of.legal_before there.1,
    )

-- ---- rule 2: both are of one command

-- the unit before a marked one has its effect before the mark
unit_marked : (c : ConfigNumbers) (past : Past) (b : BlockLine) (u : ℕ) → IsLegal c (Entry.Block b ∷ past)
    → IsLegal c past → b.effect ≡ true → u < b.unit → is_some (effect past b.ticket u) ≡ true
unit_marked c past b u h g e l =
    let all : is_some (effect (Entry.Block b ∷ past) b.ticket u) ≡ true =
    units_before c (Entry.Block b ∷ past) b.ticket u b.unit h (omega (arith, l))
    (ap is_some (marked_here past b e)) in
    ap is_some (sym (cond-false (b.effect && eqb b.ticket b.ticket && eqb b.unit u) (Some past)
    (effect past b.ticket u) (other (eqb b.unit u) refl))) ∙ all
  where
    other : (x : Bool) → eqb b.unit u ≡ x → (b.effect && eqb b.ticket b.ticket && eqb b.unit u) ≡ false
    other true f = absurd (omega (arith, l, eqb-true b.unit u f))
    other false f = neither (b.effect && eqb b.ticket b.ticket) (eqb b.unit u) f
      where
        neither : (x y : Bool) → y ≡ false → (x && y) ≡ false
        neither true y m = m
        neither false y m = refl

pub unit_earlier : (c : ConfigNumbers) (past : Past) (a b : EffectName) (before : Past) → IsLegal c past
    → is_earlier_unit a b ≡ true → effect_by past b.queue b.number b.unit ≡ Some before
    → (first : Past) × (effect_by before a.queue a.number a.unit ≡ Some first)
unit_earlier c past a b before h e f =
    let x = and_parts (eqb a.queue b.queue && eqb a.number b.number) (nat_lt a.unit b.unit) e in
    let y = and_parts (eqb a.queue b.queue) (eqb a.number b.number) x.0 in
    let at = by_effect past b.queue b.number b.unit before f in
    let of = effect_of c past b.queue b.number b.unit before at h in
    let t = at.block.ticket in
    let there = some_effect (effect before t a.unit)
    (unit_marked c before at.block a.unit of.legal of.legal_before of.says.effect
    (omega (arith, ltb-true a.unit b.unit x.1, of.says.unit))) in (
      there.0,
      of_ticket c before t a.queue a.number a.unit there.0 of.legal_before
          (record {
            queue = of.says.queue ∙ sym (eqb-true a.queue b.queue y.0);
            number = of.says.number ∙ sym (eqb-true a.number b.number y.1);
          })
          there.1,
    )
