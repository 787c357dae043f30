-- Only writers of a block are asked what they may have left there.
use Rattle.std.proofs.Common.{◌≡◌, ℕ, Bool, true, false, ◌&&◌, ◌||◌, cond, not, List, [], ◌∷◌, Option, None, Some}
use Rattle.std.proofs.Common.{refl, ap, ap₂, ◌∙◌, filter}
use Rattle.std.specs.List.{list_all, list_any}
use Rattle.nvme_model.specs.Operations.{has_write, op, write_data}
use Rattle.nvme_model.specs.Statuses.{is_success}
use Rattle.nvme_model.specs.declared.config.ConfigNumbers.{ConfigNumbers}
use Rattle.host_laws.specs.Calls.{cqe_status}
use Rattle.trace.specs.declared.options.TraceOptions.{TraceOptions}
use Rattle.trace.specs.declared.seen.ReapedLine.{ReapedLine}
use Rattle.trace.specs.declared.seen.Seen.{Seen}
use Rattle.refutation.specs.EffectOrders.{EffectName, comes_before}
use Rattle.refutation.specs.Slices.{answer_of, effects_in, is_block_of, is_covered, is_named, may_write, none_else}
use Rattle.refutation.specs.Slices.{range_of, says_failed, surely_writes, ticket_of}
use Rattle.refutation.specs.Told.{says_done}
use Rattle.refutation.specs.Writers.{is_covered_by, none_by, writers_in}

all_kept : {A : Type 0} (keeps P Q : A → Bool) (xs : List A) → ((x : A) → keeps x ≡ false → P x ≡ true)
    → ((x : A) → keeps x ≡ true → P x ≡ Q x) → list_all P xs ≡ list_all Q (filter keeps xs)
all_kept keeps P Q [] f g = refl
all_kept keeps P Q (x ∷ xs) f g = go (keeps x) refl (all_kept keeps P Q xs f g)
  where
    go : (b : Bool) → keeps x ≡ b → list_all P xs ≡ list_all Q (filter keeps xs)
        → (P x && list_all P xs) ≡ list_all Q (cond b (x ∷ filter keeps xs) (filter keeps xs))
    go true e ih = ap₂ (λ (a b : Bool). a && b) (g x e) ih
    go false e ih = ap (λ (a : Bool). a && list_all P xs) (f x e) ∙ ih

any_kept : {A : Type 0} (keeps P Q : A → Bool) (xs : List A) → ((x : A) → keeps x ≡ false → P x ≡ false)
    → ((x : A) → keeps x ≡ true → P x ≡ Q x) → list_any P xs ≡ list_any Q (filter keeps xs)
any_kept keeps P Q [] f g = refl
any_kept keeps P Q (x ∷ xs) f g = go (keeps x) refl (any_kept keeps P Q xs f g)
  where
    go : (b : Bool) → keeps x ≡ b → list_any P xs ≡ list_any Q (filter keeps xs)
        → (P x || list_any P xs) ≡ list_any Q (cond b (x ∷ filter keeps xs) (filter keeps xs))
    go true e ih = ap₂ (λ (a b : Bool). a || b) (g x e) ih
    go false e ih = ap (λ (a : Bool). a || list_any P xs) (f x e) ∙ ih

-- who surely writes may write
done_may : (w : Bool) (a : Option ReapedLine) → (w && not (says_failed a)) ≡ false → (w && says_done a) ≡ false
done_may false a e = refl
done_may true None e = refl
done_may true (Some r) e = go (is_success (cqe_status r.cqe)) e
  where
    go : (b : Bool) → (true && not (not b)) ≡ false → (true && b) ≡ false
    go true f = f
    go false f = refl

may_done : (w d m : Bool) → (w && m) ≡ true → (w && d) ≡ d
may_done true d m e = refl
may_done false d m e = absurd (let f : false ≡ true = e in cc)

pub covered_by_writers : (o : TraceOptions) (c : ConfigNumbers) (trace : List Seen) (l : ℕ) (y r : EffectName)
    → is_covered o c trace l y r ≡ is_covered_by o c trace (writers_in c trace l) y r
covered_by_writers o c trace l y r =
    any_kept (λ x. may_write c trace x l)
    (λ x. surely_writes c trace x l && comes_before o c trace y x && comes_before o c trace x r)
    (λ x. says_done (answer_of trace x) && comes_before o c trace y x && comes_before o c trace x r)
    (effects_in c trace)
    (λ x e. ap (λ (b : Bool). b && comes_before o c trace y x && comes_before o c trace x r)
    (done_may (writes x) (answer_of trace x) e))
    (λ x e. ap (λ (b : Bool). b && comes_before o c trace y x && comes_before o c trace x r)
    (may_done (writes x) (says_done (answer_of trace x)) (not (says_failed (answer_of trace x))) e))
  where
    writes : EffectName → Bool
    writes x = has_write (op (ticket_of trace x)) && is_block_of (range_of c trace x) l

pub none_by_writers : (o : TraceOptions) (c : ConfigNumbers) (trace : List Seen) (names : List EffectName)
    (r : EffectName) (l : ℕ) (fits : List ℕ → Bool)
    → none_else o c trace names r l fits ≡ none_by o c trace (writers_in c trace l) names r l fits
none_by_writers o c trace names r l fits =
    all_kept (λ y. may_write c trace y l)
    (λ y. is_named names y || not (((may_write c trace y l && not (comes_before o c trace r y))
    && not (is_covered o c trace l y r)) && fits (write_data (ticket_of trace y) l)))
    (λ y. is_named names y || not ((not (comes_before o c trace r y)
    && not (is_covered_by o c trace (writers_in c trace l) y r)) && fits (write_data (ticket_of trace y) l)))
    (effects_in c trace)
    (λ y e. ap (λ (b : Bool). is_named names y || not (((b && not (comes_before o c trace r y))
    && not (is_covered o c trace l y r)) && fits (write_data (ticket_of trace y) l))) e ∙ or_yes (is_named names y))
    (λ y e. ap₂ (λ (b d : Bool). is_named names y || not (((b && not (comes_before o c trace r y))
    && not d) && fits (write_data (ticket_of trace y) l))) e (covered_by_writers o c trace l y r))
  where
    or_yes : (b : Bool) → (b || true) ≡ true
    or_yes true = refl
    or_yes false = refl
