-- Contents as a list of blocks: what is read of it, and what an overwritten range leaves.
use Rattle.std.proofs.Common.{◌≡◌, ℕ, zero, suc, ◌+◌, ◌-◌, ◌≤◌, ◌<◌, Bool, ◌&&◌, cond, List, [], ◌∷◌, ◌++◌, length, map}
use Rattle.std.proofs.Common.{take, drop, replicate, refl, sym, ap, ap₂, ◌∙◌, subst, arith, le-leb, lt-ltb, bytes_eq}
use Rattle.std.specs.List.{list_all, flat_map}
use Rattle.std.proofs.lemmas.Bool.{and_from, and_left, and_right, cond-true, cond-false, lt-leb, le-ltb}
use Rattle.std.proofs.lemmas.List.{map-append, length-map}
use Rattle.std.proofs.Math.Seq.{take-append_seam, drop-append_seam}
use Rattle.nvme_model.specs.Array.{blocks_from, has_block}
use Rattle.nvme_model.specs.Sequential.{Array, same_blocks, overwrite}
use Rattle.nvme_model.specs.declared.array.Range.{Range}

pub length_blocks : (s n : ℕ) → length (blocks_from s n) ≡ n
length_blocks s zero = refl
length_blocks s (suc n) = ap suc (length_blocks (suc s) n)

pub blocks_split : (s m n : ℕ) → blocks_from s (m + n) ≡ blocks_from s m ++ blocks_from (s + m) n
blocks_split s zero n = let e : s ≡ s + 0 = omega arith in let f : 0 + n ≡ n = omega arith in rw (f, ← e) refl
blocks_split s (suc m) n =
    let e : suc m + n ≡ suc (m + n) = omega arith in
    let f : suc s + m ≡ s + suc m = omega arith in
    rw e (ap (λ (xs : List ℕ). s ∷ xs)
    (blocks_split (suc s) m n ∙ ap (λ (i : ℕ). blocks_from (suc s) m ++ blocks_from i n) f))

-- the contents of n blocks from s
abbrev pub listed : (ℕ → List ℕ) → ℕ → ℕ → Array
listed f s n = map f (blocks_from s n)

pub length_listed : (f : ℕ → List ℕ) (s n : ℕ) → length (listed f s n) ≡ n
length_listed f s n = length-map (blocks_from s n) f ∙ length_blocks s n

pub listed_split : (f : ℕ → List ℕ) (s m n : ℕ) → listed f s (m + n) ≡ listed f s m ++ listed f (s + m) n
listed_split f s m n = ap (map f) (blocks_split s m n) ∙ map-append f (blocks_from s m) (blocks_from (s + m) n)

-- where two contents agree on the blocks
pub listed_same : (f g : ℕ → List ℕ) (s n : ℕ) → ((l : ℕ) → s ≤ l → l < s + n → f l ≡ g l) → listed f s n ≡ listed g s n
listed_same f g s zero h = refl
listed_same f g s (suc n) h =
    ap₂ (λ (x : List ℕ) (xs : Array). x ∷ xs) (h s (omega arith) (omega arith))
    (listed_same f g (suc s) n (λ l a b. h l (omega (arith, a)) (omega (arith, b))))

pub listed_const : (b : List ℕ) (s n : ℕ) → listed (λ l. b) s n ≡ replicate n b
listed_const b s zero = refl
listed_const b s (suc n) = ap (λ (xs : Array). b ∷ xs) (listed_const b (suc s) n)

-- ---- three parts

parts : (f : ℕ → List ℕ) (s n rest : ℕ)
    → listed f 0 (s + (n + rest)) ≡ listed f 0 s ++ (listed f s n ++ listed f (s + n) rest)
parts f s n rest = listed_split f 0 s (n + rest)
    ∙ (ap (λ (i : ℕ). listed f 0 s ++ listed f i (n + rest)) zero_plus
    ∙ ap (λ (xs : Array). listed f 0 s ++ xs) (listed_split f s n rest))
  where
    zero_plus : 0 + s ≡ s
    zero_plus = omega arith

take_parts : (a b : Array) (n : ℕ) → length a ≡ n → take n (a ++ b) ≡ a
take_parts a b n e = subst (λ (i : ℕ). take i (a ++ b) ≡ a) e (take-append_seam a b)

drop_parts : (a b : Array) (n : ℕ) → length a ≡ n → drop n (a ++ b) ≡ b
drop_parts a b n e = subst (λ (i : ℕ). drop i (a ++ b) ≡ b) e (drop-append_seam a b)

drop_two : (a b d : Array) (n m : ℕ) → length a ≡ n → length b ≡ m → drop (n + m) (a ++ (b ++ d)) ≡ d
drop_two a b d n m e f = go a n e
  where
    go : (a : Array) (n : ℕ) → length a ≡ n → drop (n + m) (a ++ (b ++ d)) ≡ d
    go [] n e = let z : n + m ≡ m = omega (arith, e) in rw z (drop_parts b d m f)
    go (x ∷ a) zero e = absurd (omega (arith, e))
    go (x ∷ a) (suc n) e = let z : suc n + m ≡ suc (n + m) = omega arith in rw z (go a n (omega (arith, e)))

read_by : (f : ℕ → List ℕ) (s n rest : ℕ) → take n (drop s (listed f 0 (s + (n + rest)))) ≡ listed f s n
read_by f s n rest =
    ap (λ (xs : Array). take n (drop s xs)) (parts f s n rest)
    ∙ (ap (take n) (drop_parts (listed f 0 s) (listed f s n ++ listed f (s + n) rest) s (length_listed f 0 s))
    ∙ take_parts (listed f s n) (listed f (s + n) rest) n (length_listed f s n))

abbrev pub with_range : (ℕ → List ℕ) → (ℕ → List ℕ) → Range → ℕ → List ℕ
with_range f g r l = cond (has_block r l) (g l) (f l)

abbrev range : ℕ → ℕ → Range
range s n = record { slba = s; blocks = n }

overwrite_by : (f g : ℕ → List ℕ) (s n rest : ℕ)
    → overwrite s (listed g s n) (listed f 0 (s + (n + rest))) ≡ listed (with_range f g (range s n)) 0 (s + (n + rest))
overwrite_by f g s n rest =
    let h = with_range f g (range s n) in
    let whole = parts f s n rest in
    let front : take s (listed f 0 (s + (n + rest))) ≡ listed f 0 s =
    ap (take s) whole ∙ take_parts (listed f 0 s) (listed f s n ++ listed f (s + n) rest) s (length_listed f 0 s) in
    let back : drop (s + length (listed g s n)) (listed f 0 (s + (n + rest))) ≡ listed f (s + n) rest =
    ap (λ (i : ℕ). drop (s + i) (listed f 0 (s + (n + rest)))) (length_listed g s n)
    ∙ (ap (drop (s + n)) whole
    ∙ drop_two (listed f 0 s) (listed f s n) (listed f (s + n) rest) s n (length_listed f 0 s)
    (length_listed f s n)) in
    ap₂ (λ (x y : Array). x ++ (listed g s n ++ y)) front back
    ∙ (ap₂ (λ (x y : Array). x ++ (listed g s n ++ y))
    (listed_same f h 0 s (λ l a b. sym (cond-false _ _ _ (and_left _ _ (lt-leb s l (omega (arith, b)))))))
    (listed_same f h (s + n) rest (λ l a b. sym (cond-false _ _ _ (and_right _ _ (le-ltb l (s + n) a)))))
    ∙ (ap (λ (x : Array). listed h 0 s ++ (x ++ listed h (s + n) rest))
    (listed_same g h s n (λ l a b. sym (cond-true _ _ _ (and_from _ _ (le-leb s l a) (lt-ltb l (s + n) b)))))
    ∙ sym (parts h s n rest)))

-- ---- of all blocks

rest_of : (s n all : ℕ) → s + n ≤ all → s + (n + (all - (s + n))) ≡ all
rest_of s n all l = omega (arith, l)

pub reads : (f : ℕ → List ℕ) (s n all : ℕ) → s + n ≤ all → take n (drop s (listed f 0 all)) ≡ listed f s n
reads f s n all l = subst (λ (i : ℕ). take n (drop s (listed f 0 i)) ≡ listed f s n) (rest_of s n all l)
    (read_by f s n (all - (s + n)))

pub overwrites : (f g : ℕ → List ℕ) (s n all : ℕ) → s + n ≤ all
    → overwrite s (listed g s n) (listed f 0 all) ≡ listed (with_range f g (range s n)) 0 all
overwrites f g s n all l =
    subst (λ (i : ℕ). overwrite s (listed g s n) (listed f 0 i) ≡ listed (with_range f g (range s n)) 0 i)
    (rest_of s n all l) (overwrite_by f g s n (all - (s + n)))

pub compares : (f g : ℕ → List ℕ) (s n : ℕ)
    → same_blocks (listed f s n) (listed g s n) ≡ list_all (λ l. bytes_eq (f l) (g l)) (blocks_from s n)
compares f g s zero = refl
compares f g s (suc n) = ap (λ (b : Bool). bytes_eq (f s) (g s) && b) (compares f g (suc s) n)

-- the bytes of listed blocks, one after the other
pub bytes_listed : (f : ℕ → List ℕ) (xs : List ℕ) → flat_map (λ b. b) (map f xs) ≡ flat_map f xs
bytes_listed f [] = refl
bytes_listed f (x ∷ xs) = ap (λ (ys : List ℕ). f x ++ ys) (bytes_listed f xs)
