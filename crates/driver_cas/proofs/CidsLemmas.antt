-- What CIDs are used for, and what a write leaves.
use Rattle.std.proofs.Common.{Bool, List, None, Option, Some, ap, arith, cond, eq-eqb, eqb-true, false, get_or, inl}
use Rattle.std.proofs.Common.{inr, length, refl, replicate, set, sym, true, true≢false, ℕ, ◌&&◌, ◌<◌, ◌==◌, ◌≡◌, ◌≢◌}
use Rattle.std.proofs.Common.{◌∙◌}
use Rattle.std.proofs.lemmas.Bool.{and_from, and_parts, cases_lt}
use Rattle.std.proofs.lemmas.List.{get_or_read, get_or-replicate, get_or-set_other, get_or-set_same, get_or_past}
use Rattle.std.proofs.lemmas.List.{length-replicate}
use Rattle.driver_cas.specs.Cids.{ChangesOnly, QueueCids, IsCidTable, held, held_at, place_of}
use Rattle.driver_cas.specs.declared.held.CidUse.{CidUse}
use Rattle.driver_cas.specs.declared.held.CidUse.TheVariants.{Free}
use Rattle.driver_cas.proofs.Places.{place_parts, place_unlike, place_within}

-- ---- what is held

-- what is at a place is held there
pub held_here : (t : QueueCids) (queue cid place : ℕ) → place_of t.queues queue cid ≡ Some place
    → held t queue cid ≡ get_or t.cids place Free
unfolding held
held_here t queue cid place e = ap (held_at t.cids) e

-- a table has a use at each place
pub place_kept : (queues : List ℕ) (cids : List CidUse) (queue cid place : ℕ) → IsCidTable queues cids
    → place_of queues queue cid ≡ Some place
    → place < length cids
place_kept queues cids queue cid place kept e = omega (arith, place_within queues queue cid place e, kept.whole)

-- what is read at a place is held there
pub held_read : (t : QueueCids) (queue cid place : ℕ) (h : CidUse) → IsCidTable t.queues t.cids
    → place_of t.queues queue cid ≡ Some place
    → h ≡ get_or t.cids place h → h ≡ held t queue cid
held_read t queue cid place h kept e r =
    get_or_read t.cids place h (place_kept t.queues t.cids queue cid place kept e) r Free
    ∙ sym (held_here t queue cid place e)

-- nothing is held where there is no place
pub held_nowhere : (t : QueueCids) (queue cid : ℕ) → place_of t.queues queue cid ≡ None → held t queue cid ≡ Free
unfolding held
held_nowhere t queue cid e = ap (held_at t.cids) e

-- where all are free, each is
pub held_free : (queues : List ℕ) (n queue cid : ℕ)
    → held (record { queues = queues; cids = replicate n Free }) queue cid ≡ Free
unfolding held
held_free queues n queue cid = go (place_of queues queue cid)
  where
    go : (o : Option ℕ) → held_at (replicate n Free) o ≡ Free
    go None = refl
    go (Some place) = elim (cases_lt place n) [
      | inl below ↦ get_or-replicate n place Free Free below
      | inr past ↦ get_or_past (replicate n Free) place Free (rw length-replicate past)
    ]

-- ---- a write

-- a write at a place changes one
pub ChangesOnly-set : (t : QueueCids) (queue cid place : ℕ) (h : CidUse) → IsCidTable t.queues t.cids
    → place_of t.queues queue cid ≡ Some place
    → ChangesOnly t (record t { cids = set t.cids place h }) queue cid h
ChangesOnly-set t queue cid place h kept e q i = go ((q == queue) && (i == cid)) refl
  where
    new : QueueCids
    new = record t { cids = set t.cids place h }

    other : ((q == queue) && (i == cid)) ≡ false → (o : Option ℕ) → place_of t.queues q i ≡ o
        → held new q i ≡ held t q i
    other f None p = held_nowhere new q i p ∙ sym (held_nowhere t q i p)
    other f (Some m) p =
        let apart : m ≢ place = λ (s : m ≡ place).
        let u = place_unlike t.queues q queue i cid place (place_parts t.queues q i place (p ∙ ap Some s))
        (place_parts t.queues queue cid place e) in
        true≢false (sym (and_from _ _ (eq-eqb q queue u.0) (eq-eqb i cid u.1)) ∙ f) in
        held_here new q i m p ∙ get_or-set_other t.cids place m h Free apart ∙ sym (held_here t q i m p)

    go : (b : Bool) → ((q == queue) && (i == cid)) ≡ b → held new q i ≡ cond b h (held t q i)
    go false f = other f (place_of t.queues q i) refl
    go true f =
        let both = and_parts (q == queue) (i == cid) f in
        let same = held_here new queue cid place e
        ∙ get_or-set_same t.cids place h Free (place_kept t.queues t.cids queue cid place kept e) in
        rw (eqb-true q queue both.0, eqb-true i cid both.1) same
