-- The completions of a completion queue have their phases by their numbers.
use Rattle.std.proofs.Common.{◌≡◌, ◌%◌, ◌-◌, ◌≤◌, ◌<◌, arith, mod-eq_of_lt, ℕ, zero, suc, Bool, true, false, cond, List}
use Rattle.std.proofs.Common.{[], ◌∷◌, ◌++◌, length, refl, sym, ap, ◌∙◌, subst, Some, None, inl, inr, ◌⊎◌, eqb}
use Rattle.std.proofs.Common.{eqb-true, slice_get, get_or}
use Rattle.std.proofs.lemmas.Bool.{not-false}
use Rattle.nvme_model.specs.Config.{completion_queue}
use Rattle.nvme_model.specs.declared.config.ConfigNumbers.{ConfigNumbers}
use Rattle.nvme_model.specs.EntryBytes.{cqe_bytes}
use Rattle.nvme_model.specs.History.{Past}
use Rattle.nvme_model.specs.Queues.{fetched_count}
use Rattle.nvme_model.specs.Tickets
use Rattle.nvme_model.specs.Tickets.{Ticket, cids, posts_of, tickets}
use Rattle.nvme_model.specs.Completions.{posted_completions, phase}
use Rattle.nvme_model.specs.Legal.{IsLegal}
use Rattle.nvme_model.specs.Laws.{IsNumber}
use Rattle.nvme_model.specs.declared.entry.FetchLine.{FetchLine}
use Rattle.nvme_model.specs.declared.entry.PostLine.{PostLine}
use Rattle.nvme_model.specs.declared.entry.Entry.{Entry}
use Rattle.nvme_model.proofs.Rules.{follows}
use Rattle.nvme_model.proofs.Posted.{posted_by_machine}
use Rattle.nvme_model.proofs.Apart.{fetched_if, ticket_kept}

-- one more at the end
get_snoc : (xs : List PostLine) (y : PostLine) (k : ℕ) (p : PostLine) → slice_get (xs ++ (y ∷ [])) k ≡ Some p
    → (slice_get xs k ≡ Some p) ⊎ ((k ≡ length xs) × (y ≡ p))
get_snoc [] y zero p e = inr (refl, same y p e)
  where
    same : (a b : PostLine) → Some a ≡ Some b → a ≡ b
    same a b q = cc
get_snoc [] y (suc k) p e = absurd (let f : None ≡ Some p = e in cc)
get_snoc (x ∷ xs) y zero p e = inl e
get_snoc (x ∷ xs) y (suc k) p e = elim (get_snoc xs y k p e) [
  | inl f ↦ inl f
  | inr f ↦ inr (ap suc f.0, f.1)
]

-- ---- each Post of a completion queue, with its number and its ticket's submission queue, which no later Fetch changes

record IsNumbered (c : ConfigNumbers) (past : Past) (q k : ℕ) (p : PostLine) : Type 0 where
  pub number : IsNumber c (Tickets.ticket past p.ticket).queue q k p
  pub known : p.ticket ≤ tickets past

-- the Post at the end
last_number : (c : ConfigNumbers) (past : Past) (p : PostLine) (q : ℕ) → IsLegal c (Entry.Post p ∷ past)
    → completion_queue c (Tickets.ticket past p.ticket).queue ≡ q
    → IsNumbered c (Entry.Post p ∷ past) q (length (posted_completions c past q)) p
last_number c past p q h e =
    let m = posted_by_machine c past p h in
    let k = Tickets.ticket past p.ticket in
    let f = follows c past (Entry.Post p) h in
    record {
      number = (
        fetched_count past k.queue % c.sq_size,
        get_or (cids k) (posts_of past p.ticket) 0,
        m.0,
        m.2 ∙ ap (λ (i : ℕ). cqe_bytes (fetched_count past k.queue % c.sq_size) k.queue
            (get_or (cids k) (posts_of past p.ticket) 0) (phase (length (posted_completions c past i)) c.cq_size) m.0)
            e,
        e,
      );
      known = fetched_if c past p.ticket f.before (not-false _ f.allowed.0);
    }

-- a Fetch leaves it as it was
fetched_later : (c : ConfigNumbers) (past : Past) (f : FetchLine) (q k : ℕ) (p : PostLine)
    → IsLegal c (Entry.Fetch f ∷ past) → IsNumbered c past q k p
    → IsNumbered c (Entry.Fetch f ∷ past) q k p
fetched_later c past f q k p h n =
    record {
      number = subst (λ (x : Ticket). IsNumber c x.queue q k p) (sym (ticket_kept c past f p.ticket h n.known))
          n.number;
      known = omega (arith, n.known);
    }

numbered : (c : ConfigNumbers) (past : Past) (q k : ℕ) (p : PostLine) → IsLegal c past
    → slice_get (posted_completions c past q) k ≡ Some p → IsNumbered c past q k p
numbered c [] q k p h e = absurd (let f : None ≡ Some p = e in cc)
numbered c (Entry.Publish x ∷ past) q k p h e = let n =
    numbered c past q k p (follows c past (Entry.Publish x) h).before e in record { number = n.number; known = n.known }
numbered c (Entry.Fetch f ∷ past) q k p h e =
    fetched_later c past f q k p h (numbered c past q k p (follows c past (Entry.Fetch f) h).before e)
numbered c (Entry.Grant g ∷ past) q k p h e = let n =
    numbered c past q k p (follows c past (Entry.Grant g) h).before e in record { number = n.number; known = n.known }
numbered c (Entry.Block b ∷ past) q k p h e = let n =
    numbered c past q k p (follows c past (Entry.Block b) h).before e in record { number = n.number; known = n.known }
numbered c (Entry.Reap r ∷ past) q k p h e = let n = numbered c past q k p (follows c past (Entry.Reap r) h).before e in
    record { number = n.number; known = n.known }
numbered c (Entry.Post y ∷ past) q k p h e =
    go (eqb (completion_queue c (Tickets.ticket past y.ticket).queue) q) refl
    (λ f. numbered c past q k p (follows c past (Entry.Post y) h).before f) e
  where
    after : IsNumbered c past q k p → IsNumbered c (Entry.Post y ∷ past) q k p
    after n = record { number = n.number; known = n.known }

    last : (k ≡ length (posted_completions c past q)) × (y ≡ p)
        → completion_queue c (Tickets.ticket past y.ticket).queue ≡ q → IsNumbered c (Entry.Post y ∷ past) q k p
    last f z = subst (λ (x : PostLine). IsNumbered c (Entry.Post y ∷ past) q k x) f.1
        (subst (λ (i : ℕ). IsNumbered c (Entry.Post y ∷ past) q i y) (sym f.0) (last_number c past y q h z))

    go : (b : Bool) → eqb (completion_queue c (Tickets.ticket past y.ticket).queue) q ≡ b
        → (slice_get (posted_completions c past q) k ≡ Some p → IsNumbered c past q k p)
        → slice_get (posted_completions c past q ++ cond b (y ∷ []) []) k ≡ Some p
        → IsNumbered c (Entry.Post y ∷ past) q k p
    go true z ih e = elim (get_snoc (posted_completions c past q) y k p e) [
      | inl f ↦ after (ih f)
      | inr f ↦ last f (eqb-true _ q z)
    ]
    go false z ih e = after (ih
        (ap (λ (xs : List PostLine). slice_get xs k) (sym (append_nil (posted_completions c past q))) ∙ e))
      where
        append_nil : (xs : List PostLine) → xs ++ [] ≡ xs
        append_nil [] = refl
        append_nil (x ∷ xs) = ap (λ (ys : List PostLine). x ∷ ys) (append_nil xs)

pub posts_are_numbered : (c : ConfigNumbers) (past : Past) (q k : ℕ) (p : PostLine) → IsLegal c past
    → slice_get (posted_completions c past q) k ≡ Some p
    → IsNumber c (Tickets.ticket past p.ticket).queue q k p
posts_are_numbered c past q k p h e = (numbered c past q k p h e).number

-- with as many completion queues as submission queues each uses its own
pub own_queue : (c : ConfigNumbers) (q : ℕ) → c.cqs ≡ c.pairs → 1 ≤ q → q ≤ c.pairs → completion_queue c q ≡ q
own_queue c q e l m =
    let small : q - 1 < c.cqs = omega (arith, e, l, m) in
    let same : (q - 1) % c.cqs ≡ q - 1 = mod-eq_of_lt small in
    omega (arith, same, l)
