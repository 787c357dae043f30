-- The takeovers of a Publish begin behind what was published before.
use Rattle.std.proofs.Common.{◌≡◌, ℕ, suc, ◌≤◌, Bool, true, false, not, cond, List, [], ◌∷◌, ◌++◌, refl, arith, eqb, ap}
use Rattle.std.proofs.Common.{◌<◌, drop, get_or, length, map, sym}
use Rattle.std.proofs.Common.{inl, inr, None, Some, Option, ◌+◌, ◌∙◌}
use Rattle.std.proofs.lemmas.List.{append_assoc}
use Rattle.nvme_model.specs.EntryBytes.{slba, sqe_fields}
use Rattle.nvme_model.specs.Slots.{Name, Swap, is_pair_on_one, name_of}
use Rattle.nvme_model.specs.declared.config.ConfigNumbers.{ConfigNumbers}
use Rattle.nvme_model.specs.declared.submission.Submission.{Submission}
use Rattle.host_laws.proofs.Elements.{In}
use Rattle.host_laws.specs.Takeovers.{Takeover, giving, takeover_by, takeover_of, takeovers_in}
use Rattle.slot_check.specs.Names.{KeptNames}
use Rattle.slot_check.specs.Takeovers.{begins_at, begun_by, cut_by, cuts_in}
use Rattle.slot_check.proofs.Batches.{drop_at}

-- each is of queue q, from entry j on
abbrev pub IsNewOn : ℕ → ℕ → List Takeover → Type 0
IsNewOn q j [] = Unit {0}
IsNewOn q j (w ∷ ws) = ((w.queue ≡ q) × (j ≤ w.number)) × IsNewOn q j ws

new_append : (q j : ℕ) (xs ys : List Takeover) → IsNewOn q j xs → IsNewOn q j ys → IsNewOn q j (xs ++ ys)
new_append q j [] ys a b = b
new_append q j (x ∷ xs) ys a b = (a.0, new_append q j xs ys a.1 b)

pick : (q j : ℕ) (x : Bool) (xs : List Takeover) → IsNewOn q j xs → IsNewOn q j (cond x xs [])
pick q j true xs h = h
pick q j false xs h = tt

by : (q j n l : ℕ) (dead name : Option Name) → j ≤ n → IsNewOn q j (takeover_by q n l dead name)
by q j n l None name h = tt
by q j n l (Some dead) None h = tt
by q j n l (Some dead) (Some name) h =
    pick q j (not (eqb dead.host name.host)) (record { queue = q; number = n; lba = l; dead = dead; name = name } ∷ [])
    ((refl, h), tt)

pub new_takeovers : (q j n : ℕ) (batch : List Submission) → j ≤ n → IsNewOn q j (takeovers_in q n batch)
new_takeovers q j n [] l = tt
new_takeovers q j n (a ∷ []) l = tt
new_takeovers q j n (a ∷ b ∷ rest) l =
    new_append q j (takeover_of q n a b) (takeovers_in q (suc n) (b ∷ rest))
    (pick q j (is_pair_on_one a b)
    (takeover_by q n (slba (sqe_fields a.entry)) (name_of a.payload) (name_of b.payload))
    (by q j n (slba (sqe_fields a.entry)) (name_of a.payload) (name_of b.payload) l))
    (new_takeovers q j (suc n) (b ∷ rest) (omega (arith, l)))

pub new_in : (q j : ℕ) (ws : List Takeover) (w : Takeover) → IsNewOn q j ws → In w ws → (w.queue ≡ q) × (j ≤ w.number)
new_in q j [] w h i = absurd i
new_in q j (x ∷ ws) w h (inl e) =
    (ap (λ (y : Takeover). y.queue) e ∙ h.0.0, omega (arith, h.0.1, ap (λ (y : Takeover). y.number) e))
new_in q j (x ∷ ws) w h (inr i) = new_in q j ws w h.1 i

-- what a takeover gives is added behind what was there
pub givings_next : (ws : List Takeover) (i : ℕ) (d w : Takeover) (moves : List Swap) (s : Swap) → i < length ws
    → w ≡ get_or ws i d → s ≡ giving w
    → (moves ++ s ∷ []) ++ map giving (drop (i + 1) ws) ≡ moves ++ map giving (drop i ws)
givings_next ws i d w moves s l e f =
    let here : i + 1 ≡ suc i = omega arith in
    append_assoc moves (s ∷ []) (map giving (drop (i + 1) ws))
    ∙ (λ t. moves ++ (f ∙ ap giving e) t ∷ map giving (drop (here t) ws))
    ∙ ap (λ (xs : List Takeover). moves ++ map giving xs) (sym (drop_at ws i d l))

-- one more takeover, from the end of the batch
pub begun_next : (ws : List Takeover) (i : ℕ) (d w : Takeover) (begun : ℕ → ℕ → Option Takeover) (q j : ℕ)
    → i < length ws → w ≡ get_or ws i d
    → cond (begins_at q j w) (Some w) (begun_by (drop (suc i) ws) begun q j) ≡ begun_by (drop i ws) begun q j
begun_next ws i d w begun q j l e =
    (λ t. cond (begins_at q j (e t)) (Some (e t)) (begun_by (drop (suc i) ws) begun q j))
    ∙ ap (λ (xs : List Takeover). begun_by xs begun q j) (sym (drop_at ws i d l))

pub cut_next : (c : ConfigNumbers) (k : KeptNames) (ws : List Takeover) (i : ℕ) (d w : Takeover) (cut : ℕ → Option ℕ)
    (q : ℕ) → i < length ws → w ≡ get_or ws i d
    → cond (cuts_in c k q w) (Some w.lba) (cut_by c k (drop (suc i) ws) cut q) ≡ cut_by c k (drop i ws) cut q
cut_next c k ws i d w cut q l e =
    (λ t. cond (cuts_in c k q (e t)) (Some (e t).lba) (cut_by c k (drop (suc i) ws) cut q))
    ∙ ap (λ (xs : List Takeover). cut_by c k xs cut q) (sym (drop_at ws i d l))
