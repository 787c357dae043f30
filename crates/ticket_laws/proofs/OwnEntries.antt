-- How a ticket stands follows from its own entries.
use Rattle.std.proofs.Common.{Bool, List, [], add-zero, ap, cond, eqb, false, refl, sym, true, ℕ, ◌&&◌, ◌+◌, ◌++◌, ◌∙◌}
use Rattle.std.proofs.Common.{◌≡◌, ◌||◌, ◌∷◌}
use Rattle.std.specs.List.{filter, list_any}
use Rattle.nvme_model.specs.History.{Past}
use Rattle.nvme_model.specs.Open.{blocks_made, differed, granted, is_differs}
use Rattle.nvme_model.specs.Tickets.{posts_of}
use Rattle.nvme_model.specs.declared.entry.BlockLine.{BlockLine}
use Rattle.nvme_model.specs.declared.entry.Entry.{Entry}
use Rattle.nvme_model.specs.declared.entry.GrantLine.{GrantLine}
use Rattle.nvme_model.specs.declared.entry.PostLine.{PostLine}
use Rattle.ticket_laws.specs.Entries.{of_ticket}

-- an entry that doesn't count
beside : {X : Type 0} (F : Past → X) (b : Bool) (e : Entry) (its : Past) → F (e ∷ its) ≡ F its
    → F (cond b (e ∷ its) its) ≡ F its
beside F true e its h = h
beside F false e its h = refl

-- ---- the Posts

post_case : (b : Bool) (t : ℕ) (p : PostLine) (its : Past) (n : ℕ) → eqb p.ticket t ≡ b → posts_of its t ≡ n
    → posts_of (cond b (Entry.Post p ∷ its) its) t ≡ n + cond (eqb p.ticket t) 1 0
post_case true t p its n e ih = ap (λ x. x + cond (eqb p.ticket t) 1 0) ih
post_case false t p its n e ih = ih ∙ (sym (add-zero n) ∙ (λ i. n + cond (sym e i) 1 0))

pub own_posts : (t : ℕ) (past : Past) → posts_of (of_ticket t past) t ≡ posts_of past t
own_posts t [] = refl
own_posts t (Entry.Post p ∷ past) =
    post_case (eqb p.ticket t) t p (of_ticket t past) (posts_of past t) refl (own_posts t past)
own_posts t (Entry.Publish p ∷ past) = beside (λ x. posts_of x t) (eqb 0 t) (Entry.Publish p) (of_ticket t past) refl
    ∙ own_posts t past
own_posts t (Entry.Fetch f ∷ past) = beside (λ x. posts_of x t) (eqb f.ticket t) (Entry.Fetch f) (of_ticket t past) refl
    ∙ own_posts t past
own_posts t (Entry.Grant g ∷ past) = beside (λ x. posts_of x t) (eqb g.ticket t) (Entry.Grant g) (of_ticket t past) refl
    ∙ own_posts t past
own_posts t (Entry.Block b ∷ past) = beside (λ x. posts_of x t) (eqb b.ticket t) (Entry.Block b) (of_ticket t past) refl
    ∙ own_posts t past
own_posts t (Entry.Reap r ∷ past) = beside (λ x. posts_of x t) (eqb 0 t) (Entry.Reap r) (of_ticket t past) refl
    ∙ own_posts t past

-- ---- the Grants

grant_case : (b : Bool) (g : GrantLine) (its : Past) (gs : List GrantLine) → granted its ≡ gs
    → granted (cond b (Entry.Grant g ∷ its) its) ≡ cond b (g ∷ gs) gs
grant_case true g its gs ih = ap (λ x. g ∷ x) ih
grant_case false g its gs ih = ih

pub own_granted : (t : ℕ) (past : Past) → granted (of_ticket t past) ≡ filter (λ g. eqb g.ticket t) (granted past)
own_granted t [] = refl
own_granted t (Entry.Grant g ∷ past) = grant_case (eqb g.ticket t) g (of_ticket t past) _ (own_granted t past)
own_granted t (Entry.Publish p ∷ past) = beside granted (eqb 0 t) (Entry.Publish p) (of_ticket t past) refl
    ∙ own_granted t past
own_granted t (Entry.Fetch f ∷ past) = beside granted (eqb f.ticket t) (Entry.Fetch f) (of_ticket t past) refl
    ∙ own_granted t past
own_granted t (Entry.Block b ∷ past) = beside granted (eqb b.ticket t) (Entry.Block b) (of_ticket t past) refl
    ∙ own_granted t past
own_granted t (Entry.Post p ∷ past) = beside granted (eqb p.ticket t) (Entry.Post p) (of_ticket t past) refl
    ∙ own_granted t past
own_granted t (Entry.Reap r ∷ past) = beside granted (eqb 0 t) (Entry.Reap r) (of_ticket t past) refl
    ∙ own_granted t past

-- ---- the Blocks

block_case : (x : Bool) (t u : ℕ) (b : BlockLine) (its : Past) (bs : List BlockLine) → eqb b.ticket t ≡ x
    → blocks_made its t u ≡ bs
    → blocks_made (cond x (Entry.Block b ∷ its) its) t u ≡ cond (eqb b.ticket t && eqb b.unit u) (b ∷ []) [] ++ bs
block_case true t u b its bs e ih = ap (λ l. cond (eqb b.ticket t && eqb b.unit u) (b ∷ []) [] ++ l) ih
block_case false t u b its bs e ih = ih ∙ (λ i. cond (sym e i && eqb b.unit u) (b ∷ []) [] ++ bs)

pub own_blocks : (t u : ℕ) (past : Past) → blocks_made (of_ticket t past) t u ≡ blocks_made past t u
own_blocks t u [] = refl
own_blocks t u (Entry.Block b ∷ past) =
    block_case (eqb b.ticket t) t u b (of_ticket t past) (blocks_made past t u) refl (own_blocks t u past)
own_blocks t u (Entry.Publish p ∷ past) =
    beside (λ x. blocks_made x t u) (eqb 0 t) (Entry.Publish p) (of_ticket t past) refl ∙ own_blocks t u past
own_blocks t u (Entry.Fetch f ∷ past) =
    beside (λ x. blocks_made x t u) (eqb f.ticket t) (Entry.Fetch f) (of_ticket t past) refl ∙ own_blocks t u past
own_blocks t u (Entry.Grant g ∷ past) =
    beside (λ x. blocks_made x t u) (eqb g.ticket t) (Entry.Grant g) (of_ticket t past) refl ∙ own_blocks t u past
own_blocks t u (Entry.Post p ∷ past) =
    beside (λ x. blocks_made x t u) (eqb p.ticket t) (Entry.Post p) (of_ticket t past) refl ∙ own_blocks t u past
own_blocks t u (Entry.Reap r ∷ past) = beside (λ x. blocks_made x t u) (eqb 0 t) (Entry.Reap r) (of_ticket t past) refl
    ∙ own_blocks t u past

differs_case : (x : Bool) (t : ℕ) (b : BlockLine) (its : Past) (d : Bool) → eqb b.ticket t ≡ x → differed its t ≡ d
    → differed (cond x (Entry.Block b ∷ its) its) t ≡ ((eqb b.ticket t && is_differs b.found) || d)
differs_case true t b its d e ih = ap (λ y. (eqb b.ticket t && is_differs b.found) || y) ih
differs_case false t b its d e ih = ih ∙ (λ i. (sym e i && is_differs b.found) || d)

pub own_differed : (t : ℕ) (past : Past) → differed (of_ticket t past) t ≡ differed past t
own_differed t [] = refl
own_differed t (Entry.Block b ∷ past) =
    differs_case (eqb b.ticket t) t b (of_ticket t past) (differed past t) refl (own_differed t past)
own_differed t (Entry.Publish p ∷ past) = beside (λ x. differed x t) (eqb 0 t) (Entry.Publish p) (of_ticket t past) refl
    ∙ own_differed t past
own_differed t (Entry.Fetch f ∷ past) =
    beside (λ x. differed x t) (eqb f.ticket t) (Entry.Fetch f) (of_ticket t past) refl ∙ own_differed t past
own_differed t (Entry.Grant g ∷ past) =
    beside (λ x. differed x t) (eqb g.ticket t) (Entry.Grant g) (of_ticket t past) refl ∙ own_differed t past
own_differed t (Entry.Post p ∷ past) =
    beside (λ x. differed x t) (eqb p.ticket t) (Entry.Post p) (of_ticket t past) refl ∙ own_differed t past
own_differed t (Entry.Reap r ∷ past) = beside (λ x. differed x t) (eqb 0 t) (Entry.Reap r) (of_ticket t past) refl
    ∙ own_differed t past

-- ---- two tests of a list, in either order

swap_case : (x y z : Bool) (p q : GrantLine → Bool) (g : GrantLine) (xs ys : List GrantLine) → p g ≡ x → q g ≡ z
    → (x ≡ true → y ≡ z) → list_any p xs ≡ list_any q ys
    → list_any p (cond y (g ∷ xs) xs) ≡ list_any q (cond x (g ∷ ys) ys)
swap_case true true z p q g xs ys ep eq same ih = (λ i. ep i || list_any p xs)
    ∙ (λ i. sym (eq ∙ sym (same refl)) i || list_any q ys)
swap_case true false z p q g xs ys ep eq same ih = ih ∙ (λ i. sym (eq ∙ sym (same refl)) i || list_any q ys)
swap_case false true z p q g xs ys ep eq same ih = (λ i. ep i || list_any p xs) ∙ ih
swap_case false false z p q g xs ys ep eq same ih = ih

pub any_swap : (p q r : GrantLine → Bool) → ((g : GrantLine) → p g ≡ true → q g ≡ r g) → (xs : List GrantLine)
    → list_any p (filter q xs) ≡ list_any r (filter p xs)
any_swap p q r same [] = refl
any_swap p q r same (g ∷ xs) =
    swap_case (p g) (q g) (r g) p r g (filter q xs) (filter p xs) refl refl (same g) (any_swap p q r same xs)
