-- Effects by their names, each once, and those of a command that a slice has.
use Rattle.std.proofs.Common.{Bool, List, None, [], ap, arith, drop, drop-cons, false, filter, get_or, if◌then◌else◌}
use Rattle.std.proofs.Common.{length, map, refl, subst, suc, sym, take, true, zero, ℕ, ◌&&◌, ◌+◌, ◌++◌, ◌-◌, ◌<◌, ◌≤◌}
use Rattle.std.proofs.Common.{◌||◌, ◌∙◌}
use Rattle.std.proofs.Common.{append_assoc, cond, ◌∷◌, ◌≡◌}
use Rattle.std.proofs.lemmas.Bool.{lt-ltb}
use Rattle.std.proofs.lemmas.List.{map-append, take_rest}
use Rattle.std.specs.List.{range_with_len}
use Rattle.std.specs.Prelude.{is_none, ◌==◌}
use Rattle.refutation.proofs.SliceLists.{same_name}
use Rattle.nvme_model.specs.Operations.{has_write, op}
use Rattle.nvme_model.specs.declared.array.Range.{Range}
use Rattle.nvme_model.specs.declared.config.ConfigNumbers.{ConfigNumbers}
use Rattle.trace.specs.declared.seen.Seen.{Seen}
use Rattle.refutation.specs.EffectOrders.{EffectName}
use Rattle.refutation.specs.Lines.{answer_in}
use Rattle.refutation.specs.Slices.{each_once, effects_of_command, is_named, is_piece, same_effect}
use Rattle.refutation.specs.Told.{says_differs, says_done, told_ticket, told_units}
use Rattle.refutation_check.specs.Collected.{are_pieces, effects_from}
use Rattle.refutation_check.specs.Commands.{name_of}
use Rattle.refutation_check.specs.declared.order.Effect.{Effect}

-- ---- each once

-- the same effects are among them
pub once_named : (ns : List EffectName) (n : EffectName) → is_named (each_once ns) n ≡ is_named ns n
once_named [] n = refl
once_named (m ∷ ns) n = go (is_named (each_once ns) m) refl (once_named ns n)
  where
    by : (s : Bool) → same_effect m n ≡ s → is_named (each_once ns) m ≡ true
        → is_named (each_once ns) n ≡ is_named ns n → is_named (each_once ns) n ≡ (s || is_named ns n)
    by true f e ih = subst (λ (x : EffectName). is_named (each_once ns) x ≡ true) (same_name m n f) e
    by false f e ih = ih

    go : (b : Bool) → is_named (each_once ns) m ≡ b → is_named (each_once ns) n ≡ is_named ns n
        → is_named (if b then each_once ns else m ∷ each_once ns) n ≡ (same_effect m n || is_named ns n)
    go true e ih = by (same_effect m n) refl e ih
    go false e ih = ap (λ (x : Bool). same_effect m n || x) ih

-- one more, where it isn't among the later ones, or is
pub once_step : (effects kept : List Effect) (i : ℕ) (d : Effect) (b : Bool) → i < length effects
    → b ≡ is_named (map name_of (take (length effects - (i + 1)) (drop (i + 1) effects))) (name_of (get_or effects i d))
    → map name_of (if b then kept else kept ++ get_or effects i d ∷ [])
    ++ each_once (map name_of (drop (i + 1) effects))
    ≡ map name_of kept ++ each_once (map name_of (drop i effects))
once_step effects kept i d b l e =
    go b
    ∙ ap (λ (x : Bool). map name_of kept ++ (if x then each_once rest else name_of here ∷ each_once rest))
    (e ∙ ap (λ (xs : List Effect). is_named (map name_of xs) (name_of here)) (take_rest effects (i + 1))
    ∙ sym (once_named rest (name_of here)))
    ∙ ap (λ (xs : List Effect). map name_of kept ++ each_once (map name_of xs)) (sym cut)
  where
    here : Effect
    here = get_or effects i d

    rest : List EffectName
    rest = map name_of (drop (i + 1) effects)

    cut : drop i effects ≡ here ∷ drop (i + 1) effects
    cut =
        let next : suc i ≡ i + 1 = omega arith in
        drop-cons effects i d l ∙ ap (λ (n : ℕ). here ∷ drop n effects) next

    go : (x : Bool) → map name_of (if x then kept else kept ++ here ∷ []) ++ each_once rest
        ≡ map name_of kept ++ (if x then each_once rest else name_of here ∷ each_once rest)
    go true = refl
    go false =
        ap (λ (ns : List EffectName). ns ++ each_once rest) (map-append name_of kept (here ∷ []))
        ∙ append_assoc (map name_of kept) (name_of here ∷ []) (each_once rest)

-- ---- the effects of a command

-- all its units give, where none is left out
pub effects_all : (q j u : ℕ) (units : List Range)
    → effects_from q j u None units
    ≡ map (λ (k : ℕ). record { queue = q; number = j; unit = k }) (range_with_len u (length units))
effects_all q j u [] = refl
effects_all q j u (r ∷ units) =
    ap (λ (ns : List EffectName). record { queue = q; number = j; unit = u } ∷ ns) (effects_all q j (u + 1) units)

-- a test that tells the same of each number
pub all_or_none : (p : EffectName → Bool) (f : ℕ → EffectName) (b : Bool) (u n : ℕ)
    → ((k : ℕ) → u ≤ k → k < u + n → p (f k) ≡ b)
    → filter p (map f (range_with_len u n)) ≡ (if b then map f (range_with_len u n) else [])
all_or_none p f true u zero h = refl
all_or_none p f false u zero h = refl
all_or_none p f b u (suc n) h =
    let low : u ≤ u = omega arith in
    let high : u < u + suc n = omega arith in
    ap (λ (x : Bool). cond x (f u ∷ filter p rest) (filter p rest)) (h u low high)
    ∙ by b (all_or_none p f b (u + 1) n more)
  where
    rest : List EffectName
    rest = map f (range_with_len (u + 1) n)

    more : (k : ℕ) → u + 1 ≤ k → k < (u + 1) + n → p (f k) ≡ b
    more k x y = h k (omega arith) (omega arith)

    by : (x : Bool) → filter p rest ≡ (if x then rest else [])
        → cond x (f u ∷ filter p rest) (filter p rest) ≡ (if x then f u ∷ rest else [])
    by true e = ap (λ (ns : List EffectName). f u ∷ ns) e
    by false e = e

-- all are pieces of a slice, or none is
pieces_are : (c : ConfigNumbers) (trace : List Seen) (q j : ℕ) (b : Bool)
    → b ≡ are_pieces (answer_in trace q j) (op (told_ticket trace q j)) (length (told_units c trace q j))
    → (if b then effects_from q j 0 None (told_units c trace q j) else [])
    ≡ filter (is_piece c trace) (effects_of_command c trace q j)
pieces_are c trace q j b e =
    ap (λ (ns : List EffectName). if b then ns else []) (effects_all q j 0 (told_units c trace q j))
    ∙ sym (all_or_none (is_piece c trace) (λ (k : ℕ). record { queue = q; number = j; unit = k }) b 0
    (length (told_units c trace q j)) (λ k x y. inside k y ∙ sym e))
  where
    n : ℕ
    n = length (told_units c trace q j)

    inside : (k : ℕ) → k < 0 + n → is_piece c trace (record { queue = q; number = j; unit = k })
        ≡ are_pieces (answer_in trace q j) (op (told_ticket trace q j)) n
    inside k l =
        ap (λ (x : Bool). (x && (says_done (answer_in trace q j) || (says_differs (answer_in trace q j) && (n == 1))))
        || (is_none (answer_in trace q j) && has_write (op (told_ticket trace q j))))
        (lt-ltb k n (omega arith))

-- the same, by units that are known
pub pieces_of : (c : ConfigNumbers) (trace : List Seen) (q j : ℕ) (b : Bool) (units : List Range) (n : ℕ)
    → units ≡ told_units c trace q j → n ≡ length units
    → b ≡ are_pieces (answer_in trace q j) (op (told_ticket trace q j)) n
    → (if b then effects_from q j 0 None units else []) ≡ filter (is_piece c trace) (effects_of_command c trace q j)
pieces_of c trace q j b units n u l e =
    ap (λ (us : List Range). if b then effects_from q j 0 None us else []) u
    ∙ pieces_are c trace q j b
    (e ∙ ap (are_pieces (answer_in trace q j) (op (told_ticket trace q j))) (l ∙ ap length u))
