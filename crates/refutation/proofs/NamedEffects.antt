-- Each effect has one command, and each unit of a command one effect.
use Rattle.nvme_model.specs.Placed
use Rattle.nvme_model.specs.Tickets
use Rattle.std.proofs.Common.{◌≡◌, ℕ, suc, ◌≤◌, Bool, true, false, ◌&&◌, cond, [], ◌∷◌, ◌++◌, length, refl, sym, ap}
use Rattle.std.proofs.Common.{◌∙◌, subst, subst₂, Option, Some, None, arith, eq-eqb, eqb, eqb-true, slice_get}
use Rattle.std.proofs.lemmas.Bool.{and_parts, and_from, cond-true}
use Rattle.std.proofs.lemmas.Option.{slice_get_within}
use Rattle.nvme_model.specs.History.{Past}
use Rattle.nvme_model.specs.Legal.{IsLegal}
use Rattle.nvme_model.specs.Placed.{effect}
use Rattle.nvme_model.specs.Queues.{published_entries}
use Rattle.nvme_model.specs.Slots.{fetched_before}
use Rattle.nvme_model.specs.Tickets.{Ticket, command, tickets}
use Rattle.nvme_model.specs.Verdict.{taken_entries}
use Rattle.nvme_model.specs.declared.config.ConfigNumbers.{ConfigNumbers}
use Rattle.nvme_model.specs.declared.entry.BlockLine.{BlockLine}
use Rattle.nvme_model.specs.declared.entry.Entry.{Entry}
use Rattle.nvme_model.proofs.Beginnings.{earlier}
use Rattle.nvme_model.proofs.Pairs.{marked_here}
use Rattle.nvme_model.proofs.Placed.{block_fetched, effect_once}
use Rattle.nvme_model.proofs.Rules.{follows}
use Rattle.ticket_laws.proofs.Later.{ticket_later, tickets_later}
use Rattle.host_laws.proofs.Elements.{same_some}
use Rattle.host_laws.proofs.Later.{block_facts, effect_at, effect_later, fetched_before_later, published_later}
use Rattle.host_laws.proofs.Taken.{ticket_taken}
use Rattle.host_laws.proofs.TicketsApart.{one_ticket}
use Rattle.host_laws.proofs.Verdicts.{VerdictIs}
use Rattle.refutation.specs.Effects.{effect_by, is_effect_of}

-- ---- where it stands

pub record EffectBy (past : Past) (q j u : ℕ) (before : Past) : Type 0 where
  pub later : Past
  pub block : BlockLine
  pub is : past ≡ later ++ (Entry.Block block ∷ before)
  pub here : is_effect_of before block q j u ≡ true

one_later : (e : Entry) (past : Past) (q j u : ℕ) (before : Past) → EffectBy past q j u before
    → EffectBy (e ∷ past) q j u before
one_later e past q j u before h =
    record {
      later = e ∷ h.later;
      block = h.block;
      is = ap (λ (p : Past). e ∷ p) h.is;
      here = h.here;
    }

pub by_effect : (past : Past) (q j u : ℕ) (before : Past) → effect_by past q j u ≡ Some before
    → EffectBy past q j u before
by_effect [] q j u before h = absurd (let f : None ≡ Some before = h in cc)
by_effect (Entry.Block b ∷ past) q j u before h =
    go (is_effect_of past b q j u) refl h (by_effect past q j u before)
  where
    go : (x : Bool) → is_effect_of past b q j u ≡ x → cond x (Some past) (effect_by past q j u) ≡ Some before
        → (effect_by past q j u ≡ Some before → EffectBy past q j u before)
        → EffectBy (Entry.Block b ∷ past) q j u before
    go true e f ih =
        let same = same_some past before (Some past) refl f in
        record {
          later = [];
          block = b;
          is = ap (λ (p : Past). Entry.Block b ∷ p) same;
          here = subst (λ (p : Past). is_effect_of p b q j u ≡ true) same e;
        }
    go false e f ih = one_later (Entry.Block b) past q j u before (ih f)
by_effect (Entry.Publish p ∷ past) q j u before h = one_later _ past q j u before (by_effect past q j u before h)
by_effect (Entry.Fetch p ∷ past) q j u before h = one_later _ past q j u before (by_effect past q j u before h)
by_effect (Entry.Grant p ∷ past) q j u before h = one_later _ past q j u before (by_effect past q j u before h)
by_effect (Entry.Post p ∷ past) q j u before h = one_later _ past q j u before (by_effect past q j u before h)
by_effect (Entry.Reap p ∷ past) q j u before h = one_later _ past q j u before (by_effect past q j u before h)

-- what its Block entry says
pub record EffectSays (before : Past) (b : BlockLine) (q j u : ℕ) : Type 0 where
  pub effect : b.effect ≡ true
  pub queue : (Tickets.ticket before b.ticket).queue ≡ q
  pub number : fetched_before before b.ticket ≡ j
  pub unit : b.unit ≡ u

pub effect_says : (before : Past) (b : BlockLine) (q j u : ℕ) → is_effect_of before b q j u ≡ true
    → EffectSays before b q j u
effect_says before b q j u h =
    let a = and_parts (b.effect && eqb (Tickets.ticket before b.ticket).queue q
    && eqb (fetched_before before b.ticket) j) (eqb b.unit u) h in
    let d = and_parts (b.effect && eqb (Tickets.ticket before b.ticket).queue q)
    (eqb (fetched_before before b.ticket) j) a.0 in
    let e = and_parts b.effect (eqb (Tickets.ticket before b.ticket).queue q) d.0 in
    record {
      effect = e.0;
      queue = eqb-true _ _ e.1;
      number = eqb-true _ _ d.1;
      unit = eqb-true _ _ a.1;
    }

pub effect_said : (before : Past) (b : BlockLine) (q j u : ℕ) → EffectSays before b q j u
    → is_effect_of before b q j u ≡ true
effect_said before b q j u h =
    and_from _ _ (and_from _ _ (and_from _ _ h.effect (eq-eqb _ _ h.queue)) (eq-eqb _ _ h.number)) (eq-eqb _ _ h.unit)

-- ---- its ticket, seen from a later place

pub record EffectOf (c : ConfigNumbers) (past : Past) (q j u : ℕ) (before : Past)
    (at : EffectBy past q j u before) : Type 0 where
  pub legal : IsLegal c (Entry.Block at.block ∷ before)
  pub legal_before : IsLegal c before
  pub says : EffectSays before at.block q j u
  pub some : 1 ≤ at.block.ticket
  pub known : at.block.ticket ≤ tickets before
  pub ticket : Tickets.ticket past at.block.ticket ≡ Tickets.ticket before at.block.ticket
  pub number : fetched_before past at.block.ticket ≡ j
  pub effect : effect past at.block.ticket u ≡ Some before

pub effect_of : (c : ConfigNumbers) (past : Past) (q j u : ℕ) (before : Past) (at : EffectBy past q j u before)
    → IsLegal c past → EffectOf c past q j u before at
effect_of c past q j u before at h =
    let t = at.block.ticket in
    let all : IsLegal c (at.later ++ (Entry.Block at.block ∷ before)) = subst (λ (p : Past). IsLegal c p) at.is h in
    let legal = earlier c at.later (Entry.Block at.block ∷ before) all in
    let says = effect_says before at.block q j u at.here in
    let known = block_fetched c before at.block legal in
    let marked = effect_later c at.later (Entry.Block at.block ∷ before) t at.block.unit before all
    (marked_here before at.block says.effect) in
    record {
      legal = legal;
      legal_before = (follows c before (Entry.Block at.block) legal).before;
      says = says;
      some = known.0;
      known = known.1;
      ticket = ap (λ (p : Past). Tickets.ticket p t) at.is
          ∙ ticket_later c at.later (Entry.Block at.block ∷ before) t all known.1;
      number = ap (λ (p : Past). fetched_before p t) at.is
          ∙ (fetched_before_later c at.later (Entry.Block at.block ∷ before) t all known.1 ∙ says.number);
      effect = subst₂ (λ (p : Past) (i : ℕ). Placed.effect p t i ≡ Some before) (sym at.is) says.unit marked;
    }

-- ---- a unit has one effect

once_more : (c : ConfigNumbers) (past : Past) (b : BlockLine) (q j u : ℕ) (before : Past)
    → IsLegal c (Entry.Block b ∷ past)
    → is_effect_of past b q j u ≡ true → effect_by past q j u ≡ Some before → ⊥
once_more c past b q j u before h here e =
    let legal = (follows c past (Entry.Block b) h).before in
    let says = effect_says past b q j u here in
    let at = by_effect past q j u before e in
    let f = effect_of c past q j u before at legal in
    let fetched = block_fetched c past b h in
    let t = at.block.ticket in
    let known : t ≤ tickets past =
    subst (λ (p : Past). t ≤ tickets p) (sym at.is)
    (omega (arith, f.known, tickets_later at.later (Entry.Block at.block ∷ before))) in
    let queue : (Tickets.ticket past t).queue ≡ (Tickets.ticket past b.ticket).queue =
    ap (λ (k : Ticket). k.queue) f.ticket ∙ (f.says.queue ∙ sym says.queue) in
    let same = one_ticket c past t b.ticket legal f.some known fetched.0 fetched.1 queue (f.number ∙ sym says.number) in
    let none = effect_once c past b h says.effect in
    let there : Placed.effect past b.ticket b.unit ≡ Some before =
    subst₂ (λ (x y : ℕ). Placed.effect past x y ≡ Some before) same (sym says.unit) f.effect in
    let g : Some before ≡ None = sym there ∙ none in
    absurd (cc)

pub none_before : (c : ConfigNumbers) (past : Past) (b : BlockLine) (q j u : ℕ) → IsLegal c (Entry.Block b ∷ past)
    → is_effect_of past b q j u ≡ true → effect_by past q j u ≡ None
none_before c past b q j u h here = go (effect_by past q j u) refl
  where
    go : (o : Option Past) → effect_by past q j u ≡ o → o ≡ None
    go None e = refl
    go (Some before) e = absurd (once_more c past b q j u before h here e)

-- it stays where it is
pub by_later : (c : ConfigNumbers) (later past : Past) (q j u : ℕ) (before : Past) → IsLegal c (later ++ past)
    → effect_by past q j u ≡ Some before → effect_by (later ++ past) q j u ≡ Some before
by_later c [] past q j u before h e = e
by_later c (Entry.Block b ∷ later) past q j u before h e =
    let ih = by_later c later past q j u before (follows c (later ++ past) (Entry.Block b) h).before e in
    go (is_effect_of (later ++ past) b q j u) refl ih
  where
    go : (x : Bool) → is_effect_of (later ++ past) b q j u ≡ x → effect_by (later ++ past) q j u ≡ Some before
        → cond x (Some (later ++ past)) (effect_by (later ++ past) q j u) ≡ Some before
    go false f ih = ih
    go true f ih = absurd (once_more c (later ++ past) b q j u before h f ih)
by_later c (Entry.Publish p ∷ later) past q j u before h e =
    by_later c later past q j u before (follows c (later ++ past) (Entry.Publish p) h).before e
by_later c (Entry.Fetch p ∷ later) past q j u before h e =
    by_later c later past q j u before (follows c (later ++ past) (Entry.Fetch p) h).before e
by_later c (Entry.Grant p ∷ later) past q j u before h e =
    by_later c later past q j u before (follows c (later ++ past) (Entry.Grant p) h).before e
by_later c (Entry.Post p ∷ later) past q j u before h e =
    by_later c later past q j u before (follows c (later ++ past) (Entry.Post p) h).before e
by_later c (Entry.Reap p ∷ later) past q j u before h e =
    by_later c later past q j u before (follows c (later ++ past) (Entry.Reap p) h).before e

pub by_here : (past : Past) (b : BlockLine) (q j u : ℕ) → is_effect_of past b q j u ≡ true
    → effect_by (Entry.Block b ∷ past) q j u ≡ Some past
by_here past b q j u h = cond-true (is_effect_of past b q j u) (Some past) (effect_by past q j u) h

-- an effect that isn't in a beginning stands behind it
pub behind : (later past : Past) (q j u : ℕ) (before : Past) → effect_by (later ++ past) q j u ≡ Some before
    → effect_by past q j u ≡ None → (after : Past) × (before ≡ after ++ past)
behind [] past q j u before e n = absurd (let g : Some before ≡ None = sym e ∙ n in cc)
behind (Entry.Block b ∷ later) past q j u before e n =
    go (is_effect_of (later ++ past) b q j u) e (λ f. behind later past q j u before f n)
  where
    go : (x : Bool) → cond x (Some (later ++ past)) (effect_by (later ++ past) q j u) ≡ Some before
        → (effect_by (later ++ past) q j u ≡ Some before → (after : Past) × (before ≡ after ++ past))
        → (after : Past) × (before ≡ after ++ past)
    go true f ih = (later, same_some before (later ++ past) (Some before) refl (sym f))
    go false f ih = ih f
behind (Entry.Publish p ∷ later) past q j u before e n = behind later past q j u before e n
behind (Entry.Fetch p ∷ later) past q j u before e n = behind later past q j u before e n
behind (Entry.Grant p ∷ later) past q j u before e n = behind later past q j u before e n
behind (Entry.Post p ∷ later) past q j u before e n = behind later past q j u before e n
behind (Entry.Reap p ∷ later) past q j u before e n = behind later past q j u before e n

-- ---- its entries are published

pub record EntriesOf (c : ConfigNumbers) (past : Past) (q j u : ℕ) (k : Ticket) : Type 0 where
  pub first : slice_get (published_entries past q) j ≡ Some (command k 0)
  pub second : taken_entries k.verdict ≡ 2 → slice_get (published_entries past q) (suc j) ≡ Some (command k 1)
  pub verdict : VerdictIs k.verdict (command k 0) (command k 1)

pub entries_of : (c : ConfigNumbers) (past : Past) (q j u : ℕ) (before : Past) (at : EffectBy past q j u before)
    → EffectOf c past q j u before at → EntriesOf c past q j u (Tickets.ticket before at.block.ticket)
entries_of c past q j u before at f =
    let t = at.block.ticket in
    let k = Tickets.ticket before t in
    let taken = ticket_taken c before t f.legal_before f.some f.known in
    let first : slice_get (published_entries before q) j ≡ Some (command k 0) =
    subst₂ (λ (x y : ℕ). slice_get (published_entries before x) y ≡ Some (command k 0)) f.says.queue f.says.number
    taken.first in
    record {
      first = subst (λ (p : Past). slice_get (published_entries p q) j ≡ Some (command k 0)) (sym at.is)
          (published_later at.later (Entry.Block at.block ∷ before) q j (command k 0) first);
      second = λ two.
          let second : slice_get (published_entries before q) (suc j) ≡ Some (command k 1) =
          subst₂ (λ (x y : ℕ). slice_get (published_entries before x) (suc y) ≡ Some (command k 1)) f.says.queue
          f.says.number (taken.second two) in
          subst (λ (p : Past). slice_get (published_entries p q) (suc j) ≡ Some (command k 1)) (sym at.is)
          (published_later at.later (Entry.Block at.block ∷ before) q (suc j) (command k 1) second);
      verdict = taken.verdict;
    }

-- what isn't published yet has no effect
pub none_unpublished : (c : ConfigNumbers) (past : Past) (q j u : ℕ) → IsLegal c past
    → length (published_entries past q) ≤ j → effect_by past q j u ≡ None
none_unpublished c past q j u h l = go (effect_by past q j u) refl
  where
    go : (o : Option Past) → effect_by past q j u ≡ o → o ≡ None
    go None e = refl
    go (Some before) e =
        let at = by_effect past q j u before e in
        let s = entries_of c past q j u before at (effect_of c past q j u before at h) in
        let w = slice_get_within (published_entries past q) j (command (Tickets.ticket before at.block.ticket) 0)
        s.first in
        absurd (omega (arith, l, w))

-- ---- from a ticket's effect

pub record NumberedTicket (past : Past) (t q j : ℕ) : Type 0 where
  pub queue : (Tickets.ticket past t).queue ≡ q
  pub number : fetched_before past t ≡ j

pub of_ticket : (c : ConfigNumbers) (past : Past) (t q j u : ℕ) (before : Past) → IsLegal c past
    → NumberedTicket past t q j → effect past t u ≡ Some before → effect_by past q j u ≡ Some before
of_ticket c past t q j u before h n e =
    let at = effect_at past t u before e in
    let all : IsLegal c (at.later ++ (Entry.Block at.block ∷ before)) = subst (λ (p : Past). IsLegal c p) at.is h in
    let legal = earlier c at.later (Entry.Block at.block ∷ before) all in
    let known = (block_facts c before at.block legal).known in
    let kept : Tickets.ticket past at.block.ticket ≡ Tickets.ticket before at.block.ticket =
    ap (λ (p : Past). Tickets.ticket p at.block.ticket) at.is
    ∙ ticket_later c at.later (Entry.Block at.block ∷ before) at.block.ticket all known in
    let number : fetched_before past at.block.ticket ≡ fetched_before before at.block.ticket =
    ap (λ (p : Past). fetched_before p at.block.ticket) at.is
    ∙ fetched_before_later c at.later (Entry.Block at.block ∷ before) at.block.ticket all known in
    let here = effect_said before at.block q j u (record {
      effect = at.effect;
      queue = ap (λ (k : Ticket). k.queue) (sym kept)
          ∙ (ap (λ (x : ℕ). (Tickets.ticket past x).queue) at.ticket ∙ n.queue);
      number = sym number ∙ (ap (fetched_before past) at.ticket ∙ n.number);
      unit = at.unit;
    }) in
    subst (λ (p : Past). effect_by p q j u ≡ Some before) (sym at.is)
    (by_later c at.later (Entry.Block at.block ∷ before) q j u before all (by_here before at.block q j u here))
