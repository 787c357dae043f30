-- When a unit has its effect, where the marks stand right.
use Rattle.std.proofs.Common.{◌≡◌, ℕ, suc, ◌≤◌, Bool, true, false, ◌&&◌, ◌||◌, cond, List, [], ◌∷◌, ◌++◌, length, refl}
use Rattle.std.proofs.Common.{sym, ap, ap₂, ◌∙◌, subst, Option, Some, None, is_some, inl, inr, arith, eq-eqb, ne_eqb}
use Rattle.std.proofs.Common.{eqb, nat_le, nat_lt, le-leb}
use Rattle.std.specs.List.{list_any}
use Rattle.std.proofs.lemmas.Bool.{or_from, or_left, or_right, cond-false, cases_Bool, cases_lt, cases_eq, lt-leb}
use Rattle.std.proofs.Math.Bool.{and-true}
use Rattle.nvme_model.specs.declared.config.ConfigNumbers.{ConfigNumbers}
use Rattle.nvme_model.specs.Tickets
use Rattle.nvme_model.specs.History.{Past}
use Rattle.nvme_model.specs.Tickets.{Ticket}
use Rattle.nvme_model.specs.Operations.{op}
use Rattle.nvme_model.specs.Open.{blocks_made, is_differs, unit_range}
use Rattle.nvme_model.specs.Placed.{effect}
use Rattle.nvme_model.specs.Steps.{marked}
use Rattle.nvme_model.specs.Legal.{IsLegal}
use Rattle.nvme_model.specs.Laws.{MarkedRight}
use Rattle.nvme_model.specs.declared.array.Range.{Range}
use Rattle.nvme_model.specs.declared.operation.Op.{Op}
use Rattle.nvme_model.specs.declared.operation.Found.{Found}
use Rattle.nvme_model.specs.declared.entry.BlockLine.{BlockLine}
use Rattle.nvme_model.specs.declared.entry.Entry.{Entry}
use Rattle.nvme_model.proofs.Rules.{follows}
use Rattle.nvme_model.proofs.Apart.{ticket_kept}
use Rattle.nvme_model.proofs.Blocks.{no_blocks, same_made, at_key, grants_before, range_before}
use Rattle.nvme_model.proofs.Pairs.{no_blocks_yet}

abbrev pub is_write_op : Option Op → Bool
is_write_op (Some Op.Write) = true
is_write_op (Some Op.WriteZeroes) = true
is_write_op _ = false

-- the effect came, after j Blocks of n, where d says that one differs
abbrev pub came : Option Op → ℕ → ℕ → Bool → Bool
came o n j d = cond (is_write_op o) (nat_lt 0 j) (nat_le n j || d)

abbrev differing : List BlockLine → Bool
differing made = list_any (λ b. is_differs b.found) made

one_more_le : (n j : ℕ) → (eqb (suc j) n || nat_le n j) ≡ nat_le n (suc j)
one_more_le n j =
    elim (cases_lt n (suc (suc j))) [
      | inl l ↦ elim (cases_eq (suc j) n) [
        | inl e ↦ or_left _ _ (eq-eqb (suc j) n e) ∙ sym (le-leb n (suc j) (omega (arith, l)))
        | inr e ↦ or_right _ _ (le-leb n j (omega (arith, l, e))) ∙ sym (le-leb n (suc j) (omega (arith, l)))
      ]
      | inr l ↦ or_from _ _ (ne_eqb (suc j) n (λ (e : suc j ≡ n). omega (arith, e, l))) (lt-leb n j (omega (arith, l)))
          ∙ sym (lt-leb n (suc j) (omega (arith, l)))
    ]

regroup : (a x b d : Bool) → ((a || x) || (b || d)) ≡ ((a || b) || (x || d))
regroup true x b d = refl
regroup false true true d = refl
regroup false true false d = refl
regroup false false b d = refl

late : (n j : ℕ) (f d : Bool) → ((eqb (suc j) n || f) || (nat_le n j || d)) ≡ (nat_le n (suc j) || (f || d))
late n j f d = regroup (eqb (suc j) n) f (nat_le n j) d ∙ ap (λ (x : Bool). x || (f || d)) (one_more_le n j)

came_more : (o : Option Op) (n j : ℕ) (f : Found) (d : Bool)
    → (marked o n j f || came o n j d) ≡ came o n (suc j) (is_differs f || d)
came_more None n j f d = late n j (is_differs f) d
came_more (Some Op.Read) n j f d = late n j (is_differs f) d
came_more (Some Op.Compare) n j f d = late n j (is_differs f) d
came_more (Some Op.Pair) n j f d = late n j (is_differs f) d
came_more (Some Op.Write) n j f d =
    elim (cases_eq j 0) [
      | inl e ↦ or_left _ _ (eq-eqb j 0 e) ∙ sym (le-leb 1 (suc j) (omega arith))
      | inr e ↦ or_right _ _ (le-leb 1 j (omega (arith, e))) ∙ sym (le-leb 1 (suc j) (omega arith))
    ]
came_more (Some Op.WriteZeroes) n j f d =
    elim (cases_eq j 0) [
      | inl e ↦ or_left _ _ (eq-eqb j 0 e) ∙ sym (le-leb 1 (suc j) (omega arith))
      | inr e ↦ or_right _ _ (le-leb 1 j (omega (arith, e))) ∙ sym (le-leb 1 (suc j) (omega arith))
    ]

not_come : (o : Option Op) (n : ℕ) → 1 ≤ n → came o n 0 false ≡ false
not_come o n l = go (is_write_op o)
  where
    go : (b : Bool) → cond b (nat_lt 0 0) (nat_le n 0 || false) ≡ false
    go true = refl
    go false = or_from _ _ (lt-leb n 0 (omega (arith, l))) refl

pub some_cond : (b : Bool) (past : Past) (o : Option Past) → is_some (cond b (Some past) o) ≡ (b || is_some o)
some_cond true past o = refl
some_cond false past o = refl

pub not_both : (x y z : Bool) → (y && z) ≡ false → (x && y && z) ≡ false
not_both true y z q = q
not_both false y z q = refl

-- a unit without a Block has no effect
pub no_effect : (past : Past) (t u : ℕ) → blocks_made past t u ≡ [] → effect past t u ≡ None
no_effect [] t u h = refl
no_effect (Entry.Block b ∷ past) t u h = go (eqb b.ticket t && eqb b.unit u) refl h (no_effect past t u)
  where
    go : (x : Bool) → (eqb b.ticket t && eqb b.unit u) ≡ x → cond x (b ∷ []) [] ++ blocks_made past t u ≡ []
        → (blocks_made past t u ≡ [] → effect past t u ≡ None)
        → cond (b.effect && eqb b.ticket t && eqb b.unit u) (Some past) (effect past t u) ≡ None
    go true e f ih = absurd (let l = ap length f in omega (arith, l))
    go false e f ih = cond-false _ _ _ (not_both b.effect (eqb b.ticket t) (eqb b.unit u) e) ∙ ih f
no_effect (e ∷ past) t u h = no_effect past t u h

abbrev EffectState : Past → ℕ → ℕ → Type 0
EffectState past t u =
    1 ≤ (unit_range past t u).blocks
    → is_some (effect past t u)
    ≡ came (op (Tickets.ticket past t)) (unit_range past t u).blocks (length (blocks_made past t u))
    (differing (blocks_made past t u))

unmade : (past : Past) (t u : ℕ) → blocks_made past t u ≡ [] → EffectState past t u
unmade past t u e l =
    ap is_some (no_effect past t u e)
    ∙ sym (ap (λ (xs : List BlockLine).
    came (op (Tickets.ticket past t)) (unit_range past t u).blocks (length xs) (differing xs)) e
    ∙ not_come (op (Tickets.ticket past t)) (unit_range past t u).blocks l)

pub effect_state : (c : ConfigNumbers) (past : Past) (t u : ℕ) → IsLegal c past → MarkedRight past
    → EffectState past t u
effect_state c [] t u h k = λ l. absurd (omega (arith, l))
effect_state c (Entry.Fetch f ∷ past) t u h k =
    let before = (follows c past (Entry.Fetch f) h).before in
    elim (cases_lt (Tickets.tickets past) t) [
      | inl l ↦ unmade (Entry.Fetch f ∷ past) t u (no_blocks_yet c past t u before l)
      | inr l ↦ subst (λ (x : Ticket). 1 ≤ (unit_range past t u).blocks
          → is_some (effect past t u)
          ≡ came (op x) (unit_range past t u).blocks (length (blocks_made past t u)) (differing (blocks_made past t u)))
          (sym (ticket_kept c past f t h l)) (effect_state c past t u before k)
    ]
effect_state c (Entry.Grant g ∷ past) t u h k =
    let before = (follows c past (Entry.Grant g) h).before in
    elim (cases_Bool (eqb g.ticket t && eqb g.unit u)) [
      | inl e ↦ unmade (Entry.Grant g ∷ past) t u (no_blocks c past t u before (grants_before c past g t u h e))
      | inr e ↦ subst (λ (r : Range). 1 ≤ r.blocks
          → is_some (effect past t u)
          ≡ came (op (Tickets.ticket past t)) r.blocks (length (blocks_made past t u))
          (differing (blocks_made past t u)))
          (sym (range_before past g t u e)) (effect_state c past t u before k)
    ]
effect_state c (Entry.Block b ∷ past) t u h k =
    let before = (follows c past (Entry.Block b) h).before in
    elim (cases_Bool (eqb b.ticket t && eqb b.unit u)) [
      | inl e ↦ at_key (EffectState (Entry.Block b ∷ past)) b t u e
          (own (effect_state c past b.ticket b.unit before k.0))
      | inr e ↦ other e (effect_state c past t u before k.0)
    ]
  where
    key_true : (b.effect && eqb b.ticket b.ticket && eqb b.unit b.unit) ≡ b.effect
    key_true =
        ap₂ (λ (x y : Bool). b.effect && x && y) (eq-eqb b.ticket b.ticket refl) (eq-eqb b.unit b.unit refl)
        ∙ (and-true (b.effect && true) ∙ and-true b.effect)

    own : EffectState past b.ticket b.unit → EffectState (Entry.Block b ∷ past) b.ticket b.unit
    own ih l =
        let made = blocks_made past b.ticket b.unit in
        let o = op (Tickets.ticket past b.ticket) in
        let n = (unit_range past b.ticket b.unit).blocks in
        some_cond (b.effect && eqb b.ticket b.ticket && eqb b.unit b.unit) past (effect past b.ticket b.unit)
        ∙ (ap₂ (λ (x y : Bool). x || y) (key_true ∙ k.1) (ih l)
        ∙ (came_more o n (length made) b.found (differing made)
        ∙ sym (ap (λ (xs : List BlockLine). came o n (length xs) (differing xs))
        (same_made b b.ticket b.unit made refl refl))))

    other : (eqb b.ticket t && eqb b.unit u) ≡ false → EffectState past t u → EffectState (Entry.Block b ∷ past) t u
    other e ih l =
        ap is_some (cond-false (b.effect && eqb b.ticket t && eqb b.unit u) (Some past) (effect past t u)
        (not_both b.effect (eqb b.ticket t) (eqb b.unit u) e))
        ∙ (ih l ∙ sym (ap (λ (xs : List BlockLine).
        came (op (Tickets.ticket past t)) (unit_range past t u).blocks (length xs) (differing xs))
        (ap (λ (xs : List BlockLine). xs ++ blocks_made past t u)
        (cond-false (eqb b.ticket t && eqb b.unit u) (b ∷ []) [] e))))
effect_state c (e ∷ past) t u h k = effect_state c past t u (follows c past e h).before k
