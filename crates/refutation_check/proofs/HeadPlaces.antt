-- How many lines SQHD tells to be before an effect's command was fetched, by the list of what each completion tells.
use Rattle.std.proofs.Common.{Bool, List, ap, arith, cond, eqb, false, ltb-true, max, nat_lt, refl, suc}
use Rattle.std.proofs.Common.{true, ℕ, [], ◌++◌, ◌<◌, ◌≤◌, ◌∙◌, ◌∷◌, ◌≡◌, length}
use Rattle.std.proofs.lemmas.Bool.{ltb-false}
use Rattle.nvme_model.specs.declared.config.ConfigNumbers.{ConfigNumbers}
use Rattle.trace.specs.declared.seen.Seen.{Seen}
use Rattle.refutation.specs.EffectOrders.{EffectName, before_post, is_fetched_later}
use Rattle.refutation.specs.Places.{head_place, larger}
use Rattle.refutation_check.specs.ToldHeads.{heads_in, place_of, place_with, told_head}
use Rattle.refutation_check.specs.declared.told_heads.ToldHead.{ToldHead}

-- ---- the larger of two numbers

pub larger_max : (m n : ℕ) → larger m n ≡ max m n
larger_max m n = by (nat_lt m n) refl
  where
    by : (b : Bool) → nat_lt m n ≡ b → cond b n m ≡ max m n
    by true e = let low : m < n = ltb-true m n e in omega arith
    by false e = let low : n ≤ m = ltb-false m n e in omega arith

turned : (b l p x : ℕ) → larger (larger b (larger l p)) x ≡ larger l (larger (larger b p) x)
turned b l p x =
    omega (
      arith,
      larger_max l p,
      larger_max b (larger l p),
      larger_max (larger b (larger l p)) x,
      larger_max b p,
      larger_max (larger b p) x,
      larger_max l (larger (larger b p) x),
    )

-- ---- what SQHD tells

place_behind : (heads : List ToldHead) (h : ToldHead) (n : ℕ) (b : EffectName) (lines : ℕ)
    → place_of (heads ++ h ∷ []) n b lines ≡ place_with h n b (place_of heads n b lines)
place_behind [] h n b lines = refl
place_behind (x ∷ heads) h n b lines = place_behind heads h n b (place_with x n b lines)

pub heads_place : (c : ConfigNumbers) (trace : List Seen) (n : ℕ) (b : EffectName) (lines : ℕ)
    → place_of (heads_in c trace) n b lines ≡ larger lines (head_place c trace n b)
heads_place c [] n b lines = omega (arith, larger_max lines 0)
heads_place c (Seen.Published p ∷ trace) n b lines = heads_place c trace n b lines
heads_place c (Seen.Reaped r ∷ trace) n b lines =
    place_behind (heads_in c trace) (told_head c trace r) n b lines
    ∙ (ap (place_with (told_head c trace r) n b) (heads_place c trace n b lines) ∙ by (is_fetched_later c trace r b))
  where
    before : ℕ
    before = length (before_post c (Seen.Reaped r ∷ trace) r.queue)

    rest : ℕ
    rest = head_place c trace n b

    own : ℕ
    own = cond (eqb n r.queue) (suc (length trace)) 0

    by : (f : Bool) → cond f (larger (larger before (larger lines rest)) own) (larger lines rest)
        ≡ larger lines (cond f (larger (larger before rest) own) rest)
    by true = turned before lines rest own
    by false = refl
