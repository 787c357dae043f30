-- What a Read has read, block by block.
use Rattle.std.proofs.Common.{◌≡◌, ℕ, zero, suc, ◌+◌, ◌-◌, ◌*◌, ◌%◌, ◌<◌, List, [], ◌∷◌, ◌++◌, append_assoc, drop}
use Rattle.std.proofs.Common.{length, length-append, take, replicate, sym, ap, ap₂, ◌∙◌, Some, None, arith, slice_get}
use Rattle.std.proofs.Math.Nat.{mod-eq_of_lt}
use Rattle.std.proofs.Math.Seq.{take-add}
use Rattle.std.proofs.lemmas.List.{drop-drop, drop-replicate, drop-take, take-append-drop, take-take}
use Rattle.std.proofs.lemmas.List.Sums.{sum_by-cons}
use Rattle.nvme_model.specs.declared.array.Range.{Range}
use Rattle.nvme_model.specs.declared.config.AtomicParameters.{AtomicParameters}
use Rattle.nvme_model.specs.Cut.{IsCut}
use Rattle.ticket_laws.proofs.Left.{blocks_of_all}
use Rattle.block_exec.specs.Bytes.{put_at}
use Rattle.block_exec.proofs.Parts.{put_at-next}
use Rattle.job_table.specs.Parts.{part_of, with_part}

-- a block put into a part of the bytes is put into all of them
pub put_in_part : (bytes : List ℕ) (s : ℕ) (r : Range) (i : ℕ) (block : List ℕ) → i < r.blocks
    → with_part bytes s r (put_at (part_of bytes s r) i block) ≡ put_at bytes (r.slba - s + i) block
put_in_part bytes s r i block within =
    let a : ℕ = 512 * (r.slba - s) in
    let m : ℕ = 512 * r.blocks in
    let x : ℕ = 512 * i in
    let behind : ℕ = m - (x + 512) in
    let rest : List ℕ = drop a bytes in
    let start : a + x ≡ 512 * (r.slba - s + i) = omega arith in
    let whole : m ≡ x + 512 + behind = omega (arith, within) in
    let inner : take x (take m rest) ≡ take x rest = take-take x m rest (omega (arith, within)) in
    let front : take a bytes ++ take x (take m rest) ≡ take (512 * (r.slba - s + i)) bytes =
    ap (λ (xs : List ℕ). take a bytes ++ xs) inner ∙ sym (take-add a x bytes) ∙ ap (λ k. take k bytes) start in
    let ends : a + (x + 512) + behind ≡ a + m = omega (arith, whole) in
    let last : a + (x + 512) ≡ 512 * (r.slba - s + i) + 512 = omega (arith, start) in
    let back : drop (x + 512) (take m rest) ++ drop (a + m) bytes ≡ drop (512 * (r.slba - s + i) + 512) bytes =
    ap₂ (λ (xs ys : List ℕ). xs ++ ys)
    (ap (λ k. drop (x + 512) (take k rest)) whole ∙ drop-take (x + 512) behind rest
    ∙ ap (take behind) (drop-drop (x + 512) a bytes))
    (ap (λ k. drop k bytes) (sym ends) ∙ sym (drop-drop behind (a + (x + 512)) bytes))
    ∙ take-append-drop behind (drop (a + (x + 512)) bytes) ∙ ap (λ k. drop k bytes) last in
    regroup (take a bytes) (take x (take m rest)) block (drop (x + 512) (take m rest)) (drop (a + m) bytes)
    ∙ ap₂ (λ (xs ys : List ℕ). xs ++ block ++ ys) front back
  where
    regroup : (a b c d e : List ℕ) → a ++ (b ++ c ++ d) ++ e ≡ (a ++ b) ++ c ++ (d ++ e)
    regroup a b c d e = simp append_assoc

-- the next block of the open unit is put behind what was read so far, in front of the rest
pub read_next : (so_far rest fewer block : List ℕ) (s : ℕ) (r : Range) (made : ℕ) → made < r.blocks
    → length so_far ≡ 512 * (r.slba - s + made) → drop 512 rest ≡ fewer
    → with_part (so_far ++ rest) s r (put_at (part_of (so_far ++ rest) s r) (made % r.blocks) block) ≡ so_far ++ block
    ++ fewer
read_next so_far rest fewer block s r made within long e =
    ap (λ i. with_part (so_far ++ rest) s r (put_at (part_of (so_far ++ rest) s r) i block)) (mod-eq_of_lt within)
    ∙ put_in_part (so_far ++ rest) s r made block within
    ∙ put_at-next so_far rest block (r.slba - s + made) long
    ∙ ap (λ (xs : List ℕ). so_far ++ block ++ xs) e

-- where the rest are zeros there are as many fewer then
pub zeros_left : (so_far block : List ℕ) (total n : ℕ) → length block ≡ n
    → drop {A = ℕ} n (replicate (total - length so_far) 0) ≡ replicate (total - length (so_far ++ block)) 0
zeros_left so_far block total n size = drop-replicate n (total - length so_far) 0 ∙ ap (λ k. replicate k 0) fewer
  where
    fewer : total - length so_far - n ≡ total - length (so_far ++ block)
    fewer = omega (arith, length-append so_far block, size)

-- a unit of a cut begins behind those before it
pub cut_place : (u : AtomicParameters) (rs : List Range) (s n i : ℕ) (r : Range) → IsCut u s n rs
    → slice_get rs i ≡ Some r → r.slba ≡ s + blocks_of_all (take i rs)
cut_place u [] s n i r h e = absurd (let f : None ≡ Some r = e in cc)
cut_place u (x ∷ rs) s n zero r h e = omega (arith, ap (λ (y : Range). y.slba) (some_inj e), h.0)
  where
    some_inj : Some x ≡ Some r → x ≡ r
    some_inj f = cc
cut_place u (x ∷ rs) s n (suc i) r h e =
    omega (
      arith,
      cut_place u rs (s + x.blocks) (n - x.blocks) i r h.4 e,
      sum_by-cons (λ (y : Range). y.blocks) x (take i rs),
    )
