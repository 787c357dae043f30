-- What the Block entries of a unit have answered, by their places.
use Rattle.std.proofs.Common.{◌≡◌, ℕ, zero, suc, ◌+◌, ◌*◌, ◌%◌, ◌≤◌, ◌<◌, Bool, true, false, not, ◌&&◌, ◌||◌, cond}
use Rattle.std.proofs.Common.{List, [], ◌∷◌, ◌++◌, length, map, refl, sym, ap, ap₂, ◌∙◌, subst, Option, Some, None, inl}
use Rattle.std.proofs.Common.{inr, arith, eqb, nat_le, nat_lt, leb-false, ltb-true, slice_get, mod-eq_of_lt}
use Rattle.std.specs.Bool.{beq}
use Rattle.std.specs.List.{list_all}
use Rattle.std.proofs.lemmas.List.{append-nil, length-append}
use Rattle.std.proofs.lemmas.Bool.{and_parts, or_parts, cases_Bool, cases_lt}
use Rattle.std.proofs.Math.Bool.{and_comm}
use Rattle.nvme_model.specs.declared.array.Range.{Range}
use Rattle.nvme_model.specs.declared.config.ConfigNumbers.{ConfigNumbers}
use Rattle.nvme_model.specs.declared.entry.BlockLine.{BlockLine}
use Rattle.nvme_model.specs.declared.entry.Entry.{Entry}
use Rattle.nvme_model.specs.declared.operation.Found.{Found}
use Rattle.nvme_model.specs.declared.operation.Op.{Op}
use Rattle.nvme_model.specs.Answered.{may_find}
use Rattle.nvme_model.specs.Array.{blocks_from}
use Rattle.nvme_model.specs.History.{Past}
use Rattle.nvme_model.specs.Legal.{IsLegal}
use Rattle.nvme_model.specs.Open.{blocks_made, is_equal, is_written, unit_range}
use Rattle.nvme_model.specs.Operations.{has_compare, is_pair, op}
use Rattle.nvme_model.specs.Tickets
use Rattle.nvme_model.specs.Tickets.{Ticket}
use Rattle.history_check.specs.Effects.{said, word_of}
use Rattle.history_check.specs.Judged.{agrees}
use Rattle.nvme_model.proofs.Apart.{ticket_kept}
use Rattle.nvme_model.proofs.Blocks.{at_key, due_lba, grants_before, may_block, no_blocks, range_before}
use Rattle.nvme_model.proofs.Pairs.{answered, compare_words, comparing, goes_on, no_blocks_yet, word_at}
use Rattle.nvme_model.proofs.Rules.{follows}
use Rattle.nvme_model.proofs.Cut.{clash}

-- each of these Block entries that compares is of an operation that does, and of the block that its place says
abbrev pub Saying : Bool → ℕ → ℕ → List BlockLine → Type 0
Saying compares s n [] = Unit {0}
Saying compares s n (b ∷ made) =
    (comparing b.found ≡ true → (compares ≡ true) × (length (said made) < n) × (b.lba ≡ s + length (said made)))
    × Saying compares s n made

-- ---- such answers agree with the right ones exactly where each is right

pub agrees_more : (xs bits : List Bool) (x y : Bool) → slice_get bits (length xs) ≡ Some y
    → agrees (xs ++ x ∷ []) bits ≡ (agrees xs bits && beq x y)
agrees_more [] [] x y e = absurd (let f : None ≡ Some y = e in cc)
agrees_more [] (z ∷ bits) x y e = and_true (beq x z) ∙ ap (beq x) (some_inj e)
  where
    some_inj : Some z ≡ Some y → z ≡ y
    some_inj h = cc

    and_true : (b : Bool) → (b && true) ≡ b
    and_true true = refl
    and_true false = refl
agrees_more (w ∷ xs) [] x y e = absurd (let f : None ≡ Some y = e in cc)
agrees_more (w ∷ xs) (z ∷ bits) x y e = ap (λ b. beq w z && b) (agrees_more xs bits x y e)
    ∙ assoc (beq w z) (agrees xs bits) (beq x y)
  where
    assoc : (a b d : Bool) → (a && (b && d)) ≡ ((a && b) && d)
    assoc true b d = refl
    assoc false b d = refl

get_from : (q : ℕ → Bool) (s n i : ℕ) → i < n → slice_get (map q (blocks_from s n)) i ≡ Some (q (s + i))
get_from q s zero i l = absurd (omega (arith, l))
get_from q s (suc n) zero l = ap (λ m. Some (q m)) same
  where
    same : s ≡ s + 0
    same = omega arith
get_from q s (suc n) (suc i) l = get_from q (suc s) n i (omega (arith, l)) ∙ ap (λ m. Some (q m)) same
  where
    same : suc s + i ≡ s + suc i
    same = omega arith

pub agrees_is : (q : ℕ → Bool) (compares : Bool) (s n : ℕ) (made : List BlockLine) → Saying compares s n made
    → list_all (answered q) made ≡ agrees (said made) (cond compares (map q (blocks_from s n)) [])
agrees_is q compares s n [] h = refl
agrees_is q compares s n (b ∷ made) h = go (comparing b.found) refl (agrees_is q compares s n made h.1)
  where
    go : (x : Bool) → comparing b.found ≡ x
        → list_all (answered q) made ≡ agrees (said made) (cond compares (map q (blocks_from s n)) [])
        → ((not x || beq (is_equal b.found) (q b.lba)) && list_all (answered q) made)
        ≡ agrees (said made ++ cond x (is_equal b.found ∷ []) []) (cond compares (map q (blocks_from s n)) [])
    go false e ih = ih ∙ ap (λ (xs : List Bool). agrees xs (cond compares (map q (blocks_from s n)) []))
        (sym (append-nil (said made)))
    go true e ih =
        let f = h.0 e in
        ap₂ (λ (x y : Bool). x && y) (ap (λ l. beq (is_equal b.found) (q l)) f.2) ih
        ∙ and_comm (beq (is_equal b.found) (q (s + length (said made)))) _
        ∙ sym (agrees_more (said made) (cond compares (map q (blocks_from s n)) []) (is_equal b.found)
        (q (s + length (said made)))
        (ap (λ x. slice_get (cond x (map q (blocks_from s n)) []) (length (said made))) f.0
        ∙ get_from q s n (length (said made)) f.1))

-- ---- the Block entries of a legal history are such

said_all : (made : List BlockLine) → list_all (λ b. comparing b.found) made ≡ true → length (said made) ≡ length made
said_all [] h = refl
said_all (b ∷ made) h =
    let a = and_parts (comparing b.found) _ h in
    length-append (said made) (word_of b.found)
    ∙ ap (λ x. length (said made) + length (cond x (is_equal b.found ∷ []) [])) a.0
    ∙ omega (arith, said_all made a.1)

-- what compares does so among the first n
compares_at : (o : Option Op) (n j : ℕ) (f : Found) → may_find o n j f ≡ true → comparing f ≡ true
    → nat_le (cond (is_pair o) (2 * n) n) j ≡ false → (has_compare o ≡ true) × (j < n)
compares_at None n j f m d l = clash false m refl
compares_at (Some Op.Compare) n j f m d l = (refl, leb-false n j l)
compares_at (Some Op.Pair) n j f m d l = go (nat_lt j n) refl m
  where
    written : (f : Found) → is_written f ≡ true → comparing f ≡ true → ⊥
    written Found.Written a b = clash false b refl
    written Found.Read a b = clash false b refl
    written Found.Equal a b = clash false a refl
    written Found.Differs a b = clash false a refl

    go : (x : Bool) → nat_lt j n ≡ x → cond x (comparing f) (is_written f) ≡ true → (true ≡ true) × (j < n)
    go true e m = (refl, ltb-true j n e)
    go false e m = absurd (written f m d)
compares_at (Some Op.Read) n j Found.Read m d l = clash false d refl
compares_at (Some Op.Read) n j Found.Equal m d l = clash false m refl
compares_at (Some Op.Read) n j Found.Differs m d l = clash false m refl
compares_at (Some Op.Read) n j Found.Written m d l = clash false m refl
compares_at (Some Op.Write) n j Found.Written m d l = clash false d refl
compares_at (Some Op.Write) n j Found.Equal m d l = clash false m refl
compares_at (Some Op.Write) n j Found.Differs m d l = clash false m refl
compares_at (Some Op.Write) n j Found.Read m d l = clash false m refl
compares_at (Some Op.WriteZeroes) n j Found.Written m d l = clash false d refl
compares_at (Some Op.WriteZeroes) n j Found.Equal m d l = clash false m refl
compares_at (Some Op.WriteZeroes) n j Found.Differs m d l = clash false m refl
compares_at (Some Op.WriteZeroes) n j Found.Read m d l = clash false m refl

-- one more
pub saying_more : (o : Option Op) (s n : ℕ) (b : BlockLine) (made : List BlockLine) → Saying (has_compare o) s n made
    → (has_compare o ≡ true → length made ≤ n → list_all (λ x. comparing x.found) made ≡ true)
    → b.lba ≡ s + length made % n → may_find o n (length made) b.found ≡ true
    → nat_le (cond (is_pair o) (2 * n) n) (length made) ≡ false → Saying (has_compare o) s n (b ∷ made)
saying_more o s n b made h words lba may on = (one, h)
  where
    one : comparing b.found ≡ true
        → (has_compare o ≡ true) × (length (said made) < n) × (b.lba ≡ s + length (said made))
    one d =
        let a = compares_at o n (length made) b.found may d on in
        let same = said_all made (words a.0 (omega (arith, a.1))) in
        (a.0, omega (arith, same, a.1), lba ∙ ap (λ i. s + i) (mod-eq_of_lt a.1 ∙ sym same))

abbrev pub IsSaying : Past → ℕ → ℕ → List BlockLine → Type 0
IsSaying past t u made =
    Saying (has_compare (op (Tickets.ticket past t))) (unit_range past t u).slba (unit_range past t u).blocks made

pub saying : (c : ConfigNumbers) (past : Past) (t u : ℕ) → IsLegal c past → t ≤ Tickets.tickets past
    → IsSaying past t u (blocks_made past t u)
saying c [] t u h k = tt
saying c (Entry.Fetch f ∷ past) t u h k =
    let before = (follows c past (Entry.Fetch f) h).before in
    elim (cases_lt (Tickets.tickets past) t) [
      | inl l ↦ subst (λ (xs : List BlockLine). IsSaying (Entry.Fetch f ∷ past) t u xs)
          (sym (no_blocks_yet c past t u before l)) tt
      | inr l ↦ subst (λ (x : Ticket).
          Saying (has_compare (op x)) (unit_range past t u).slba (unit_range past t u).blocks (blocks_made past t u))
          (sym (ticket_kept c past f t h l)) (saying c past t u before l)
    ]
saying c (Entry.Grant g ∷ past) t u h k =
    let before = (follows c past (Entry.Grant g) h).before in
    elim (cases_Bool (eqb g.ticket t && eqb g.unit u)) [
      | inl e ↦ subst (λ (xs : List BlockLine). IsSaying (Entry.Grant g ∷ past) t u xs)
          (sym (no_blocks c past t u before (grants_before c past g t u h e))) tt
      | inr e ↦ subst (λ (r : Range).
          Saying (has_compare (op (Tickets.ticket past t))) r.slba r.blocks (blocks_made past t u))
          (sym (range_before past g t u e)) (saying c past t u before k)
    ]
saying c (Entry.Block b ∷ past) t u h k =
    let m = may_block c past b h in
    let before = (follows c past (Entry.Block b) h).before in
    let known : b.ticket ≤ Tickets.tickets past = omega (arith, m.2.ticket, m.2.unended.facts.known) in
    go (eqb b.ticket t && eqb b.unit u) refl (saying c past t u before k)
    (saying_more (op (Tickets.ticket past b.ticket)) (unit_range past b.ticket b.unit).slba
    (unit_range past b.ticket b.unit).blocks b (blocks_made past b.ticket b.unit)
    (saying c past b.ticket b.unit before known)
    (compare_words c past b.ticket b.unit before known) (due_lba past b m.0 m.2) (word_at past b m.0 m.2)
    (or_parts _ _ (goes_on past b m.0 m.2)).0)
  where
    go : (x : Bool) → (eqb b.ticket t && eqb b.unit u) ≡ x → IsSaying past t u (blocks_made past t u)
        → IsSaying past b.ticket b.unit (b ∷ blocks_made past b.ticket b.unit)
        → IsSaying past t u (cond x (b ∷ []) [] ++ blocks_made past t u)
    go true e ih f = at_key (λ x y. IsSaying past x y (b ∷ blocks_made past x y)) b t u e f
    go false e ih f = ih
saying c (Entry.Publish e ∷ past) t u h k = saying c past t u (follows c past (Entry.Publish e) h).before k
saying c (Entry.Post e ∷ past) t u h k = saying c past t u (follows c past (Entry.Post e) h).before k
saying c (Entry.Reap e ∷ past) t u h k = saying c past t u (follows c past (Entry.Reap e) h).before k
