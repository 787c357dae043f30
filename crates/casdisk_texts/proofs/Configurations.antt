-- Two configurations are the same where all their numbers are.
use Rattle.std.proofs.Common.{◌≡◌, ℕ, ◌&&◌, Bool, true, ap, ◌∙◌, subst, eqb}
use Rattle.std.proofs.lemmas.Bool.{and_from, and_parts, eqb-true}
use Rattle.plain_lemmas.proofs.Numbers.{eqb_same}
use Rattle.nvme_model.specs.declared.config.ConfigNumbers.{ConfigNumbers}

-- what comparing them computes
abbrev pub same_numbers : ConfigNumbers → ConfigNumbers → Bool
same_numbers a b =
    eqb a.blocks b.blocks
    && ((eqb a.atomic.awun b.atomic.awun && (eqb a.atomic.acwu b.atomic.acwu
    && (eqb a.atomic.nabsn b.atomic.nabsn && eqb a.atomic.nabo b.atomic.nabo)))
    && (eqb a.pairs b.pairs && (eqb a.sq_size b.sq_size && (eqb a.cq_size b.cq_size
    && (eqb a.jobs b.jobs && eqb a.cqs b.cqs)))))

pub are_same : (a b : ConfigNumbers) → same_numbers a b ≡ true → a ≡ b
are_same a b h =
    let p = and_parts _ _ h in
    let q = and_parts _ _ p.1 in
    let s = and_parts _ _ q.0 in
    let t = and_parts _ _ s.1 in
    let u = and_parts _ _ t.1 in
    let v = and_parts _ _ q.1 in
    let w = and_parts _ _ v.1 in
    let x = and_parts _ _ w.1 in
    let y = and_parts _ _ x.1 in
    ap (λ n. record a { blocks = n }) (eqb-true a.blocks b.blocks p.0)
    ∙ ap (λ n. atomically b.blocks n a.atomic.acwu a.atomic.nabsn a.atomic.nabo)
    (eqb-true a.atomic.awun b.atomic.awun s.0)
    ∙ ap (λ n. atomically b.blocks b.atomic.awun n a.atomic.nabsn a.atomic.nabo)
    (eqb-true a.atomic.acwu b.atomic.acwu t.0)
    ∙ ap (λ n. atomically b.blocks b.atomic.awun b.atomic.acwu n a.atomic.nabo)
    (eqb-true a.atomic.nabsn b.atomic.nabsn u.0)
    ∙ ap (λ n. atomically b.blocks b.atomic.awun b.atomic.acwu b.atomic.nabsn n)
    (eqb-true a.atomic.nabo b.atomic.nabo u.1)
    ∙ ap (λ n. record a { atomic = b.atomic; blocks = b.blocks; pairs = n }) (eqb-true a.pairs b.pairs v.0)
    ∙ ap (λ n. record b { sq_size = n; cq_size = a.cq_size; jobs = a.jobs; cqs = a.cqs })
    (eqb-true a.sq_size b.sq_size w.0)
    ∙ ap (λ n. record b { cq_size = n; jobs = a.jobs; cqs = a.cqs }) (eqb-true a.cq_size b.cq_size x.0)
    ∙ ap (λ n. record b { jobs = n; cqs = a.cqs }) (eqb-true a.jobs b.jobs y.0)
    ∙ ap (λ n. record b { cqs = n }) (eqb-true a.cqs b.cqs y.1)
  where
    -- the first of two configurations with other numbers of this kind
    atomically : (blocks awun acwu nabsn nabo : ℕ) → ConfigNumbers
    atomically blocks awun acwu nabsn nabo =
        record a { blocks = blocks; atomic = record { awun = awun; acwu = acwu; nabsn = nabsn; nabo = nabo } }

same_itself : (a : ConfigNumbers) → same_numbers a a ≡ true
same_itself a =
    and_from _ _ (eqb_same a.blocks)
    (and_from _ _
    (and_from _ _ (eqb_same a.atomic.awun)
    (and_from _ _ (eqb_same a.atomic.acwu) (and_from _ _ (eqb_same a.atomic.nabsn) (eqb_same a.atomic.nabo))))
    (and_from _ _ (eqb_same a.pairs)
    (and_from _ _ (eqb_same a.sq_size)
    (and_from _ _ (eqb_same a.cq_size) (and_from _ _ (eqb_same a.jobs) (eqb_same a.cqs))))))

pub numbers_same : (a b : ConfigNumbers) → a ≡ b → same_numbers a b ≡ true
numbers_same a b e = subst (λ (x : ConfigNumbers). same_numbers a x ≡ true) e (same_itself a)
