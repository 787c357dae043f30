-- The right answers, block by block.
use Rattle.std.proofs.Common.{◌≡◌, ℕ, zero, suc, ◌+◌, Bool, true, false, not, ◌&&◌, ◌||◌, cond, List, [], ◌∷◌, ◌++◌}
use Rattle.std.proofs.Common.{map, refl, sym, ap, ap₂, ◌∙◌, arith, bytes_eq, get_or, slice_get, Some, None}
use Rattle.nvme_model.specs.Operations.{compare_data, has_compare, has_write, op}
use Rattle.nvme_model.specs.Tickets.{Ticket}
use Rattle.nvme_model.specs.declared.array.Range.{Range}
use Rattle.nvme_model.specs.Value.{all_equal, writes}
use Rattle.history_check.specs.Effects.{answers_at}
use Rattle.history_check.specs.Taken.{no_by}
use Rattle.history_check.specs.Contents.{contents_in}
use Rattle.std.specs.List.{flat_map, list_all}
use Rattle.std.proofs.lemmas.List.{append-nil, append_assoc}
use Rattle.nvme_model.specs.Array.{blocks_from}

pub blocks_more : (q : ℕ → Bool) (s n : ℕ) → map q (blocks_from s (n + 1)) ≡ map q (blocks_from s n) ++ q (s + n) ∷ []
blocks_more q s n = ap (λ k. map q (blocks_from s k)) (plus n) ∙ go s n
  where
    plus : (n : ℕ) → n + 1 ≡ suc n
    plus n = omega arith

    go : (s n : ℕ) → map q (blocks_from s (suc n)) ≡ map q (blocks_from s n) ++ q (s + n) ∷ []
    go s zero = ap (λ k. q k ∷ []) same
      where
        same : s ≡ s + 0
        same = omega arith
    go s (suc n) = ap (λ (ys : List Bool). q s ∷ ys)
        (go (suc s) n ∙ ap (λ k. map q (blocks_from (suc s) n) ++ q k ∷ []) same)
      where
        same : suc s + n ≡ s + suc n
        same = omega arith

get_some : (v : List (List ℕ)) (l : ℕ) (block : List ℕ) → slice_get v l ≡ Some block → get_or v l [] ≡ block
get_some [] l block e = absurd (let f : None ≡ Some block = e in cc)
get_some (x ∷ v) zero block e = some_inj e
  where
    some_inj : Some x ≡ Some block → x ≡ block
    some_inj h = cc
get_some (x ∷ v) (suc l) block e = get_some v l block e

pub answer_next : (v : List (List ℕ)) (k : Ticket) (s n : ℕ) (items items' : List Bool) (equal : Bool)
    (block other : List ℕ) (lba : ℕ)
    → items ≡ map (λ b. bytes_eq (contents_in v b) (compare_data k b)) (blocks_from s n) → items' ≡ items ++ equal ∷ []
    → lba ≡ s + n → slice_get v lba ≡ Some block
    → other ≡ compare_data k lba → equal ≡ bytes_eq block other
    → items' ≡ map (λ b. bytes_eq (contents_in v b) (compare_data k b)) (blocks_from s (n + 1))
answer_next v k s n items items' equal block other lba e f l g d q =
    f ∙ ap₂ (λ (xs : List Bool) (x : Bool). xs ++ x ∷ []) e
    (q ∙ ap₂ bytes_eq (sym (get_some v lba block g)) d ∙ ap (λ m. bytes_eq (contents_in v m) (compare_data k m)) l)
    ∙ sym (blocks_more (λ b. bytes_eq (contents_in v b) (compare_data k b)) s n)

pub all_answers : (v : List (List ℕ)) (k : Ticket) (r : Range) (n : ℕ) (items : List Bool)
    → items ≡ map (λ b. bytes_eq (contents_in v b) (compare_data k b)) (blocks_from r.slba n) → n ≡ r.blocks
    → has_compare (op k) ≡ true
    → items ≡ answers_at (contents_in v) k r
all_answers v k r n items e m h = e
    ∙ ap (λ j. map (λ b. bytes_eq (contents_in v b) (compare_data k b)) (blocks_from r.slba j)) m
    ∙ ap (λ x. cond x (map (λ b. bytes_eq (contents_in v b) (compare_data k b)) (blocks_from r.slba r.blocks)) [])
    (sym h)

-- ---- what is read, block by block

flat_more : (f : ℕ → List ℕ) (s n : ℕ) → flat_map f (blocks_from s (n + 1)) ≡ flat_map f (blocks_from s n) ++ f (s + n)
flat_more f s n = ap (λ k. flat_map f (blocks_from s k)) (plus n) ∙ go s n
  where
    plus : (n : ℕ) → n + 1 ≡ suc n
    plus n = omega arith

    go : (s n : ℕ) → flat_map f (blocks_from s (suc n)) ≡ flat_map f (blocks_from s n) ++ f (s + n)
    go s zero = append-nil (f s) ∙ ap f same
      where
        same : s ≡ s + 0
        same = omega arith
    go s (suc n) = ap (λ (ys : List ℕ). f s ++ ys)
        (go (suc s) n ∙ ap (λ k. flat_map f (blocks_from (suc s) n) ++ f k) same)
        ∙ sym (append_assoc (f s) (flat_map f (blocks_from (suc s) n)) (f (s + suc n)))
      where
        same : suc s + n ≡ s + suc n
        same = omega arith

pub read_next : (v : List (List ℕ)) (s n : ℕ) (items items' block : List ℕ) (lba : ℕ)
    → items ≡ flat_map (contents_in v) (blocks_from s n) → items' ≡ items ++ block → lba ≡ s + n
    → slice_get v lba ≡ Some block
    → items' ≡ flat_map (contents_in v) (blocks_from s (n + 1))
read_next v s n items items' block lba e f l g =
    f ∙ ap₂ (λ (xs ys : List ℕ). xs ++ ys) e (sym (get_some v lba block g) ∙ ap (contents_in v) l)
    ∙ sym (flat_more (contents_in v) s n)

-- ---- an effect says no where not all answers are yes

all_mapped : (q : ℕ → Bool) (xs : List ℕ) → list_all (λ b. b) (map q xs) ≡ list_all q xs
all_mapped q [] = refl
all_mapped q (x ∷ xs) = ap (λ b. q x && b) (all_mapped q xs)

pub no_is : (contents : ℕ → List ℕ) (k : Ticket) (r : Range)
    → not (list_all (λ b. b) (answers_at contents k r)) ≡ no_by contents k r
no_is contents k r = go (has_compare (op k))
  where
    go : (x : Bool) → not (list_all (λ b. b)
        (cond x (map (λ l. bytes_eq (contents l) (compare_data k l)) (blocks_from r.slba r.blocks)) []))
        ≡ (x && not (all_equal contents k r))
    go true = ap not (all_mapped (λ l. bytes_eq (contents l) (compare_data k l)) (blocks_from r.slba r.blocks))
    go false = refl

-- ---- an effect writes where it is of a Write, or of a pair that says yes

pub writes_is : (contents : ℕ → List ℕ) (k : Ticket) (r : Range)
    → (has_write (op k) && not (no_by contents k r)) ≡ writes contents k r
writes_is contents k r = ap (λ x. has_write (op k) && x) (go (has_compare (op k)) (all_equal contents k r))
  where
    go : (x y : Bool) → not (x && not y) ≡ (not x || y)
    go true true = refl
    go true false = refl
    go false y = refl
