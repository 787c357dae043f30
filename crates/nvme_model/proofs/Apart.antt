-- No two open units of a legal history conflict.
use Rattle.std.proofs.Common.{◌≡◌, ℕ, ◌+◌, ◌≤◌, ◌<◌, Bool, true, false, not, ◌||◌, cond, List, [], ◌∷◌, length, refl}
use Rattle.std.proofs.Common.{sym, ap, ◌∙◌, inl, inr, arith, ltb-true, leb-true, le-leb, ne_eqb, eqb, nat_le, ◌++◌}
use Rattle.std.proofs.Common.{length-append}
use Rattle.std.specs.List.{list_any, filter}
use Rattle.std.proofs.lemmas.Bool.{or_parts, or_from, or_left, or_right, or_cases, cases_lt, cond-false, not_from_true}
use Rattle.std.proofs.lemmas.List.Folds.{list_any-append}
use Rattle.nvme_model.specs.declared.config.ConfigNumbers.{ConfigNumbers}
use Rattle.nvme_model.specs.History.{Past}
use Rattle.nvme_model.specs.Tickets.{Ticket, ticket, tickets, in_flight}
use Rattle.nvme_model.specs.Open.{open_units, granted, has_ended, steps_needed, blocks_made, is_differs, conflict}
use Rattle.nvme_model.specs.Legal.{IsLegal}
use Rattle.nvme_model.specs.Laws.{Apart}
use Rattle.nvme_model.specs.declared.entry.GrantLine.{GrantLine}
use Rattle.nvme_model.specs.declared.entry.FetchLine.{FetchLine}
use Rattle.nvme_model.specs.declared.entry.BlockLine.{BlockLine}
use Rattle.nvme_model.specs.declared.entry.Entry.{Entry}
use Rattle.nvme_model.proofs.Lists.{Each, each_map, each_all}
use Rattle.nvme_model.proofs.Rules.{follows, fetch_number, may_grant, MayGrant}

-- ---- a filter that lets fewer through

any_step : {X : Type 0} (r : X → Bool) (a b : Bool) (x : X) (us vs : List X) → (b ≡ true → a ≡ true)
    → (list_any r us ≡ false → list_any r vs ≡ false) → list_any r (cond a (x ∷ us) us) ≡ false
    → list_any r (cond b (x ∷ vs) vs) ≡ false
any_step r false false x us vs k ih e = ih e
any_step r true false x us vs k ih e = ih (or_parts _ _ e).1
any_step r true true x us vs k ih e = or_from _ _ (or_parts _ _ e).0 (ih (or_parts _ _ e).1)
any_step r false true x us vs k ih e = let f = k refl in cc

any_fewer : {X : Type 0} (r p q : X → Bool) (xs : List X) → Each (λ x. q x ≡ true → p x ≡ true) xs
    → list_any r (filter p xs) ≡ false → list_any r (filter q xs) ≡ false
any_fewer r p q [] h e = refl
any_fewer r p q (x ∷ xs) h e = any_step r (p x) (q x) x (filter p xs) (filter q xs) h.0 (any_fewer r p q xs h.1) e

apart_step : (a b : Bool) (g : GrantLine) (us vs : List GrantLine) → (b ≡ true → a ≡ true)
    → (list_any (λ h. conflict g.range g.mode h.range h.mode) us ≡ false
    → list_any (λ h. conflict g.range g.mode h.range h.mode) vs ≡ false)
    → (Apart us → Apart vs) → Apart (cond a (g ∷ us) us) → Apart (cond b (g ∷ vs) vs)
apart_step false false g us vs k f ih e = ih e
apart_step true false g us vs k f ih e = ih e.1
apart_step true true g us vs k f ih e = (f e.0, ih e.1)
apart_step false true g us vs k f ih e = absurd (let h = k refl in cc)

apart_fewer : (p q : GrantLine → Bool) (xs : List GrantLine) → Each (λ x. q x ≡ true → p x ≡ true) xs
    → Apart (filter p xs) → Apart (filter q xs)
apart_fewer p q [] h e = tt
apart_fewer p q (x ∷ xs) h e =
    apart_step (p x) (q x) x (filter p xs) (filter q xs) h.0
    (any_fewer (λ h. conflict x.range x.mode h.range h.mode) p q xs h.1) (apart_fewer p q xs h.1) e

-- ---- tickets that were granted units are fetched

no_commands : (c : ConfigNumbers) (past : Past) (t : ℕ) → IsLegal c past → tickets past < t
    → (ticket past t).commands ≡ []
no_commands c [] t h l = refl
no_commands c (Entry.Fetch f ∷ past) t h l =
    let n = fetch_number c past f h in
    let apart = ne_eqb f.ticket t (λ (e : f.ticket ≡ t). omega (arith, e, n, l)) in
    rw apart (no_commands c past t (follows c past (Entry.Fetch f) h).before (omega (arith, l)))
no_commands c (e ∷ past) t h l = no_commands c past t (follows c past e h).before l

pub fetched_if : (c : ConfigNumbers) (past : Past) (t : ℕ) → IsLegal c past → in_flight past t ≡ true → t ≤ tickets past
fetched_if c past t h f =
    elim (cases_lt (tickets past) t) [
      | inl l ↦ absurd (omega (arith, ltb-true _ _ f, ap length (no_commands c past t h l)))
      | inr l ↦ l
    ]

pub granted_known : (c : ConfigNumbers) (past : Past) → IsLegal c past
    → Each (λ g. g.ticket ≤ tickets past) (granted past)
granted_known c [] h = tt
granted_known c (Entry.Fetch f ∷ past) h =
    each_map (λ g. g.ticket ≤ tickets past) (λ g. g.ticket ≤ tickets past + 1) (λ g l. omega (arith, l)) (granted past)
    (granted_known c past (follows c past (Entry.Fetch f) h).before)
granted_known c (Entry.Grant g ∷ past) h =
    let b = (follows c past (Entry.Grant g) h).before in
    (fetched_if c past g.ticket b (may_grant c past g h).in_flight, granted_known c past b)
granted_known c (e ∷ past) h = granted_known c past (follows c past e h).before

-- a later Fetch leaves a ticket as it was
pub ticket_kept : (c : ConfigNumbers) (past : Past) (f : FetchLine) (t : ℕ) → IsLegal c (Entry.Fetch f ∷ past)
    → t ≤ tickets past → ticket (Entry.Fetch f ∷ past) t ≡ ticket past t
ticket_kept c past f t h l =
    let n = fetch_number c past f h in
    cond-false (eqb f.ticket t) _ _ (ne_eqb f.ticket t (λ (e : f.ticket ≡ t). omega (arith, e, n, l)))

-- ---- what has ended stays so

ended_more : (n : ℕ) (more made : List BlockLine)
    → (nat_le n (length made) || list_any (λ b. is_differs b.found) made) ≡ true
    → (nat_le n (length (more ++ made)) || list_any (λ b. is_differs b.found) (more ++ made)) ≡ true
ended_more n more made h =
    elim (or_cases (nat_le n (length made)) (list_any (λ b. is_differs b.found) made) h) [
      | inl l ↦ or_left _ _ (le-leb n (length (more ++ made))
          (omega (arith, leb-true n (length made) l, length-append more made)))
      | inr d ↦ or_right (nat_le n (length (more ++ made))) (list_any (λ b. is_differs b.found) (more ++ made))
          (list_any-append (λ b. is_differs b.found) more made
          ∙ or_right (list_any (λ b. is_differs b.found) more) (list_any (λ b. is_differs b.found) made) d)
    ]

pub ended_kept : (past : Past) (b : BlockLine) (t u n : ℕ) → has_ended past t u n ≡ true
    → has_ended (Entry.Block b ∷ past) t u n ≡ true
ended_kept past b t u n h = ended_more (steps_needed (ticket past t) n) _ (blocks_made past t u) h

pub fetch_ended : (c : ConfigNumbers) (past : Past) (f : FetchLine) (t u n : ℕ) → IsLegal c (Entry.Fetch f ∷ past)
    → t ≤ tickets past
    → has_ended (Entry.Fetch f ∷ past) t u n ≡ has_ended past t u n
fetch_ended c past f t u n h l =
    ap (λ (k : Ticket). nat_le (steps_needed k n) (length (blocks_made past t u))
    || list_any (λ b. is_differs b.found) (blocks_made past t u)) (ticket_kept c past f t h l)

pub unless : (p q : Bool) → (p ≡ true → q ≡ true) → not q ≡ true → not p ≡ true
unless false q f h = refl
unless true q f h = let e = f refl in let g = not_from_true q e in cc

-- ---- the theorem

apart_cons : (b : Bool) (g : GrantLine) (gs : List GrantLine)
    → list_any (λ h. conflict g.range g.mode h.range h.mode) gs ≡ false → Apart gs → Apart (cond b (g ∷ gs) gs)
apart_cons true g gs f h = (f, h)
apart_cons false g gs f h = h

pub grant_apart : (c : ConfigNumbers) (past : Past) (g : GrantLine) → MayGrant c past g
    → list_any (λ h. conflict g.range g.mode h.range h.mode) (open_units past) ≡ false
grant_apart c past g m = rw (m.same_mode) (rw (m.range) at m.apart)

pub open_apart : (c : ConfigNumbers) (past : Past) → IsLegal c past → Apart (open_units past)
open_apart c [] h = tt
open_apart c (Entry.Fetch f ∷ past) h =
    let b = (follows c past (Entry.Fetch f) h).before in
    apart_fewer (λ x. not (has_ended past x.ticket x.unit x.range.blocks))
    (λ x. not (has_ended (Entry.Fetch f ∷ past) x.ticket x.unit x.range.blocks)) (granted past)
    (each_map _ _ (λ x l e. sym (ap not (fetch_ended c past f x.ticket x.unit x.range.blocks h l)) ∙ e) (granted past)
    (granted_known c past b))
    (open_apart c past b)
open_apart c (Entry.Grant g ∷ past) h =
    apart_cons _ g (open_units past) (grant_apart c past g (may_grant c past g h))
    (open_apart c past (follows c past (Entry.Grant g) h).before)
open_apart c (Entry.Block b ∷ past) h =
    apart_fewer (λ x. not (has_ended past x.ticket x.unit x.range.blocks))
    (λ x. not (has_ended (Entry.Block b ∷ past) x.ticket x.unit x.range.blocks)) (granted past)
    (each_all _ (λ x. unless _ _ (ended_kept past b x.ticket x.unit x.range.blocks)) (granted past))
    (open_apart c past (follows c past (Entry.Block b) h).before)
open_apart c (e ∷ past) h = open_apart c past (follows c past e h).before
