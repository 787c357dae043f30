-- Which tickets the list of those in flight has, and in which order.
use Rattle.std.proofs.Common.{◌≡◌, ℕ, zero, suc, ◌≤◌, ◌<◌, Bool, true, false, ◌&&◌, ◌||◌, cond, List, [], ◌∷◌, ◌++◌}
use Rattle.std.proofs.Common.{length, refl, sym, ap, ◌∙◌, inl, inr, arith, eq-eqb, ne_eqb, eqb, eqb-true, ltb}
use Rattle.std.specs.List.{filter}
use Rattle.std.proofs.lemmas.Bool.Decides.{nat_tests}
use Rattle.std.proofs.lemmas.List.Folds.{list_any-append}
use Rattle.std.proofs.lemmas.Bool.{cases_Bool, cases_lt, cond-false}
use Rattle.nvme_model.specs.declared.config.ConfigNumbers.{ConfigNumbers}
use Rattle.nvme_model.specs.declared.entry.Entry.{Entry}
use Rattle.nvme_model.specs.History.{Past}
use Rattle.nvme_model.specs.Tickets
use Rattle.nvme_model.specs.Tickets.{Ticket, in_flight, posts_of}
use Rattle.nvme_model.specs.Legal.{IsLegal}
use Rattle.ticket_laws.specs.Standing.{rising, flying}
use Rattle.nvme_model.proofs.Lists.{Each, each_map, each_filter}
use Rattle.ticket_laws.proofs.TicketLists.{has, rising_each}
use Rattle.nvme_model.proofs.Lists.{each_append}
use Rattle.nvme_model.proofs.Rules.{follows, fetch_number}
use Rattle.nvme_model.proofs.Apart.{fetched_if}

has_filter : (p : ℕ → Bool) (t : ℕ) (xs : List ℕ) → has t (filter p xs) ≡ (p t && has t xs)
has_filter p t [] = sym (and_none (p t))
  where
    and_none : (b : Bool) → (b && false) ≡ false
    and_none true = refl
    and_none false = refl
has_filter p t (x ∷ xs) = elim (cases_Bool (eqb x t)) [
  | inl e ↦ own (p x) (sym (ap p (eqb-true x t e))) e (has_filter p t xs)
  | inr e ↦ other (p x) e (has_filter p t xs)
]
  where
    own : (b : Bool) → p t ≡ b → eqb x t ≡ true → has t (filter p xs) ≡ (p t && has t xs)
        → has t (cond b (x ∷ filter p xs) (filter p xs)) ≡ (p t && (eqb x t || has t xs))
    own true e s ih = ap (λ k. k || has t (filter p xs)) s ∙ sym (λ i. e i && (s i || has t xs))
    own false e s ih = ih ∙ ap (λ k. k && has t xs) e ∙ sym (ap (λ k. k && (eqb x t || has t xs)) e)

    other : (b : Bool) → eqb x t ≡ false → has t (filter p xs) ≡ (p t && has t xs)
        → has t (cond b (x ∷ filter p xs) (filter p xs)) ≡ (p t && (eqb x t || has t xs))
    other true e ih = ap (λ k. k || has t (filter p xs)) e ∙ ih ∙ ap (λ k. p t && (k || has t xs)) (sym e)
    other false e ih = ih ∙ ap (λ k. p t && (k || has t xs)) (sym e)

has_rising : (t n : ℕ) → 1 ≤ t → t ≤ n → has t (rising n) ≡ true
has_rising t zero a b = absurd (omega (arith, a, b))
has_rising t (suc n) a b =
    list_any-append (λ s. eqb s t) (rising n) (suc n ∷ [])
    ∙ elim (cases_lt n t) [
      | inl l ↦ let same : suc n ≡ t = omega (arith, l, b) in
          ap (λ k. has t (rising n) || (k || false)) (eq-eqb (suc n) t same) ∙ or_true (has t (rising n))
      | inr l ↦ ap (λ k. k || (eqb (suc n) t || false)) (has_rising t n a l)
    ]
  where
    or_true : (b : Bool) → (b || true) ≡ true
    or_true true = refl
    or_true false = refl

no_zero : (c : ConfigNumbers) (past : Past) → IsLegal c past → in_flight past 0 ≡ false
no_zero c past h = ap (λ (k : Ticket). ltb (posts_of past 0) (length k.commands)) (go past h) ∙ never (posts_of past 0)
  where
    never : (n : ℕ) → ltb n 0 ≡ false
    never n = grind (arith, nat_tests)

    go : (past : Past) → IsLegal c past → Tickets.ticket past 0 ≡ Tickets.ticket [] 0
    go [] h = refl
    go (Entry.Fetch f ∷ past) h =
        cond-false (eqb f.ticket 0) _ _ (ne_eqb f.ticket 0 (λ q. omega (arith, q, fetch_number c past f h)))
        ∙ go past (follows c past (Entry.Fetch f) h).before
    go (e ∷ past) h = go past (follows c past e h).before

-- a ticket is in flight exactly where the list has it
pub has_flying : (c : ConfigNumbers) (past : Past) (t : ℕ) → IsLegal c past → has t (flying past) ≡ in_flight past t
has_flying c past t h = has_filter (in_flight past) t (rising (Tickets.tickets past))
    ∙ elim (cases_Bool (in_flight past t)) [
      | inl e ↦ ap (λ k. k && has t (rising (Tickets.tickets past))) e
          ∙ has_rising t (Tickets.tickets past) (some t e) (fetched_if c past t h e) ∙ sym e
      | inr e ↦ ap (λ k. k && has t (rising (Tickets.tickets past))) e ∙ sym e
    ]
  where
    some : (t : ℕ) → in_flight past t ≡ true → 1 ≤ t
    some zero e = absurd (let f : true ≡ false = sym e ∙ no_zero c past h in cc)
    some (suc t) e = omega arith

-- the tickets rise
abbrev pub Rising : List ℕ → Type 0
Rising [] = Unit {0}
Rising (t ∷ ts) = Each (λ s. t < s) ts × Rising ts

rising_push : (ts : List ℕ) (n : ℕ) → Rising ts → Each (λ t. t < n) ts → Rising (ts ++ n ∷ [])
rising_push [] n r e = (tt, tt)
rising_push (t ∷ ts) n r e = (each_append (λ s. t < s) ts (n ∷ []) r.0 (e.0, tt), rising_push ts n r.1 e.1)

-- from 1 to n
pub rising_rises : (n : ℕ) → Rising (rising n)
rising_rises zero = tt
rising_rises (suc n) = rising_push (rising n) (suc n) (rising_rises n)
    (each_map (λ t. t ≤ n) (λ t. t < suc n) (λ t l. omega (arith, l)) (rising n) (rising_each n))

-- a filter keeps the order
pub filter_rises : (p : ℕ → Bool) (ts : List ℕ) → Rising ts → Rising (filter p ts)
filter_rises p [] r = tt
filter_rises p (t ∷ ts) r = go (p t) (filter_rises p ts r.1)
  where
    go : (b : Bool) → Rising (filter p ts) → Rising (cond b (t ∷ filter p ts) (filter p ts))
    go true ih = (each_filter (λ s. t < s) (λ s. t < s) p (λ s l e. l) ts r.0, ih)
    go false ih = ih

-- so do those in flight
pub flying_rises : (past : Past) → Rising (flying past)
flying_rises past = filter_rises (in_flight past) (rising (Tickets.tickets past)) (rising_rises (Tickets.tickets past))
