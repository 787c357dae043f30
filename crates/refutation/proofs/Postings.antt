-- Where completions were posted, and what was there then.
use Rattle.nvme_model.specs.Tickets
use Rattle.refutation.proofs.NamedEffects
use Rattle.std.proofs.Common.{◌≡◌, ℕ, zero, suc, ◌+◌, ◌≤◌, Bool, true, false, cond, List, []}
use Rattle.std.proofs.Common.{◌∷◌, ◌++◌, append_assoc, length, length-append, refl, sym, ap, ◌∙◌, subst, Option}
use Rattle.std.proofs.Common.{Some, None, inl, inr, ◌⊎◌, arith, eq-eqb, eqb, eqb-true, ltb-true, slice_get}
use Rattle.std.proofs.lemmas.Bool.{cond-true}
use Rattle.nvme_model.specs.Config.{completion_queue}
use Rattle.nvme_model.specs.History.{Past}
use Rattle.nvme_model.specs.Legal.{IsLegal}
use Rattle.nvme_model.specs.Queues.{fetched_count}
use Rattle.nvme_model.specs.Slots.{fetched_before}
use Rattle.nvme_model.specs.Tickets.{Ticket, command, posts_of, tickets}
use Rattle.nvme_model.specs.Verdict.{taken_entries}
use Rattle.nvme_model.specs.declared.config.ConfigNumbers.{ConfigNumbers}
use Rattle.nvme_model.specs.declared.entry.Entry.{Entry}
use Rattle.nvme_model.specs.declared.entry.PostLine.{PostLine}
use Rattle.nvme_model.proofs.Beginnings.{earlier}
use Rattle.nvme_model.proofs.Placed.{block_unposted}
use Rattle.nvme_model.proofs.Rules.{follows}
use Rattle.ticket_laws.proofs.Later.{ticket_later, tickets_later}
use Rattle.host_laws.specs.Calls.{posted_answer}
use Rattle.host_laws.proofs.Calls.{takes_from}
use Rattle.host_laws.proofs.Elements.{get_cases, same_some}
use Rattle.host_laws.proofs.Later.{fetched_before_later}
use Rattle.host_laws.proofs.Statuses.{post_is}
use Rattle.host_laws.proofs.TicketsApart.{one_ticket, taken_some, within_fetched}
use Rattle.trace.specs.Observed.{observed}
use Rattle.refutation.specs.Effects.{effect_by}
use Rattle.refutation.proofs.Answered.{begins_with, not_second}
use Rattle.refutation.proofs.Heads.{Head, heads}
use Rattle.refutation.proofs.Lines.{published_seen}
use Rattle.refutation.proofs.NamedEffects.{by_effect, by_here, by_later, effect_of, entries_of}
use Rattle.refutation.proofs.ToldTickets.{told_effect}

-- ---- two ends of one list

same_rest : {X : Type 0} (a b : X) (xs ys : List X) → a ∷ xs ≡ b ∷ ys → xs ≡ ys
same_rest a b xs ys e = cc

pub nested : {X : Type 0} (xs l s m t : List X) → xs ≡ l ++ s → xs ≡ m ++ t
    → ((k : List X) × (t ≡ k ++ s)) ⊎ ((k : List X) × (s ≡ k ++ t))
nested xs [] s m t e f = inr (m, sym e ∙ f)
nested xs (x ∷ l) s [] t e f = inl (x ∷ l, sym f ∙ e)
nested [] (x ∷ l) s (y ∷ m) t e f = absurd (differ e)
  where
    differ : [] ≡ x ∷ (l ++ s) → ⊥
    differ g = cc
nested (z ∷ xs) (x ∷ l) s (y ∷ m) t e f =
    nested xs l s m t (same_rest z x xs (l ++ s) e) (same_rest z y xs (m ++ t) f)

-- ---- a completion by its number in its completion queue

pub record Posting (c : ConfigNumbers) (past : Past) (n i : ℕ) : Type 0 where
  pub later : Past
  pub post : PostLine
  pub before : Past
  pub is : past ≡ later ++ (Entry.Post post ∷ before)
  pub count : length (heads c before n) ≡ i
  pub own : completion_queue c (Tickets.ticket before post.ticket).queue ≡ n

-- it stands where the head says
pub record PostingOf (c : ConfigNumbers) (past : Past) (n i : ℕ) (h : Head) : Type 0 where
  pub at : Posting c past n i
  pub answer : posted_answer at.before at.post ≡ h.0
  pub fetched : fetched_count at.before h.0.queue ≡ h.1

posting_on : (c : ConfigNumbers) (e : Entry) (past : Past) (n i : ℕ) (h : Head) → PostingOf c past n i h
    → PostingOf c (e ∷ past) n i h
posting_on c e past n i h x =
    record {
      at = record {
        later = e ∷ x.at.later;
        post = x.at.post;
        before = x.at.before;
        is = ap (λ (p : Past). e ∷ p) x.at.is;
        count = x.at.count;
        own = x.at.own;
      };
      answer = x.answer;
      fetched = x.fetched;
    }

pub posting : (c : ConfigNumbers) (past : Past) (n i : ℕ) (h : Head) → slice_get (heads c past n) i ≡ Some h
    → PostingOf c past n i h
posting c [] n i h e = absurd (let f : None ≡ Some h = e in cc)
posting c (Entry.Post p ∷ past) n i h e =
    elim (get_cases (heads c past n)
    (cond (eqb (completion_queue c (Tickets.ticket past p.ticket).queue) n)
    ((posted_answer past p, fetched_count past (Tickets.ticket past p.ticket).queue) ∷ []) []) i h e) [
      | inl x ↦ posting_on c (Entry.Post p) past n i h (posting c past n i h x)
      | inr m ↦ new (eqb (completion_queue c (Tickets.ticket past p.ticket).queue) n) refl m.0 m.1 m.2
    ]
  where
    new : (b : Bool) → eqb (completion_queue c (Tickets.ticket past p.ticket).queue) n ≡ b → (m : ℕ)
        → i ≡ length (heads c past n) + m
        → slice_get
        (cond b ((posted_answer past p, fetched_count past (Tickets.ticket past p.ticket).queue) ∷ []) []) m ≡ Some h
        → PostingOf c (Entry.Post p ∷ past) n i h
    new false z m l f = absurd (let g : None ≡ Some h = f in cc)
    new true z (suc m) l f = absurd (let g : None ≡ Some h = f in cc)
    new true z zero l f =
        let x : Head = (posted_answer past p, fetched_count past (Tickets.ticket past p.ticket).queue) in
        let same = same_some x h (Some x) refl f in
        record {
          at = record {
            later = [];
            post = p;
            before = past;
            is = refl;
            count = omega (arith, l);
            own = eqb-true (completion_queue c (Tickets.ticket past p.ticket).queue) n z;
          };
          answer = ap (λ (y : Head). y.0) same;
          fetched = ap (λ (y : Head). fetched_count past y.0.queue) (sym same) ∙ ap (λ (y : Head). y.1) same;
        }
posting c (Entry.Publish p ∷ past) n i h e = posting_on c (Entry.Publish p) past n i h (posting c past n i h e)
posting c (Entry.Fetch p ∷ past) n i h e = posting_on c (Entry.Fetch p) past n i h (posting c past n i h e)
posting c (Entry.Grant p ∷ past) n i h e = posting_on c (Entry.Grant p) past n i h (posting c past n i h e)
posting c (Entry.Block p ∷ past) n i h e = posting_on c (Entry.Block p) past n i h (posting c past n i h e)
posting c (Entry.Reap p ∷ past) n i h e = posting_on c (Entry.Reap p) past n i h (posting c past n i h e)

-- as many as there were before
heads_grow : (c : ConfigNumbers) (later past : Past) (n : ℕ)
    → length (heads c past n) ≤ length (heads c (later ++ past) n)
heads_grow c [] past n = omega arith
heads_grow c (Entry.Post p ∷ later) past n =
    omega (
      arith,
      heads_grow c later past n,
      length-append (heads c (later ++ past) n)
          (cond (eqb (completion_queue c (Tickets.ticket (later ++ past) p.ticket).queue) n)
          ((
            posted_answer (later ++ past) p,
            fetched_count (later ++ past)
                (Tickets.ticket (later ++ past) p.ticket).queue,
          )
          ∷ []) []),
    )
heads_grow c (Entry.Publish p ∷ later) past n = heads_grow c later past n
heads_grow c (Entry.Fetch p ∷ later) past n = heads_grow c later past n
heads_grow c (Entry.Grant p ∷ later) past n = heads_grow c later past n
heads_grow c (Entry.Block p ∷ later) past n = heads_grow c later past n
heads_grow c (Entry.Reap p ∷ later) past n = heads_grow c later past n

-- one more with it
post_counts : (c : ConfigNumbers) (past : Past) (n i : ℕ) (x : Posting c past n i)
    → length (heads c (Entry.Post x.post ∷ x.before) n) ≡ suc i
post_counts c past n i x =
    let h : Head =
    (posted_answer x.before x.post, fetched_count x.before (Tickets.ticket x.before x.post.ticket).queue) in
    omega (
      arith,
      x.count,
      length-append (heads c x.before n)
          (cond (eqb (completion_queue c (Tickets.ticket x.before x.post.ticket).queue) n) (h ∷ []) []),
      ap length (cond-true (eqb (completion_queue c (Tickets.ticket x.before x.post.ticket).queue) n) (h ∷ []) []
          (eq-eqb (completion_queue c (Tickets.ticket x.before x.post.ticket).queue) n x.own)),
    )

-- of two that which has the smaller number was posted first
pub posted_first : (c : ConfigNumbers) (past : Past) (n i k : ℕ) (x : Posting c past n i) (y : Posting c past n k)
    → i ≤ k → (m : Past) × (y.before ≡ m ++ x.before)
posted_first c past n i k x y l =
    elim (nested past (x.later ++ (Entry.Post x.post ∷ [])) x.before y.later (Entry.Post y.post ∷ y.before)
    (x.is ∙ sym (append_assoc x.later (Entry.Post x.post ∷ []) x.before)) y.is) [
      | inl f ↦ by f.0 f.1
      | inr f ↦ absurd (omega (
        arith,
        l,
        x.count,
        ap (λ (p : Past). length (heads c p n)) f.1,
        heads_grow c f.0 (Entry.Post y.post ∷ y.before) n,
        post_counts c past n k y,
      ))
    ]
  where
    by : (m : Past) → Entry.Post y.post ∷ y.before ≡ m ++ x.before → (m : Past) × (y.before ≡ m ++ x.before)
    by [] e = absurd (omega (
      arith,
      l,
      x.count,
      ap (λ (p : Past). length (heads c p n)) e,
      post_counts c past n k y,
    ))
    by (z ∷ m) e = (m, rest e)
      where
        rest : Entry.Post y.post ∷ y.before ≡ z ∷ (m ++ x.before) → y.before ≡ m ++ x.before
        rest f = cc

-- ---- an effect of the command that it answers stands before it

pub effect_at_post : (c : ConfigNumbers) (past : Past) (n i q j u : ℕ) (e : Past) (x : Posting c past n i)
    → IsLegal c past
    → (posted_answer x.before x.post).queue ≡ q → (posted_answer x.before x.post).number ≡ j
    → effect_by past q j u ≡ Some e → effect_by x.before q j u ≡ Some e
effect_at_post c past n i q j u e x h queue number f =
    let at = by_effect past q j u e f in
    let of = effect_of c past q j u e at h in
    let all : IsLegal c (x.later ++ (Entry.Post x.post ∷ x.before)) = subst (λ (p : Past). IsLegal c p) x.is h in
    let posted = earlier c x.later (Entry.Post x.post ∷ x.before) all in
    let legal = (follows c x.before (Entry.Post x.post) posted).before in
    let same = same_ticket at of posted all in
    elim (nested past at.later (Entry.Block at.block ∷ e) x.later (Entry.Post x.post ∷ x.before) at.is x.is) [
      | inl k ↦ inside at of legal k.0 k.1
      | inr k ↦ absurd (outside at of posted same k.0 k.1)
    ]
  where
    same_ticket : (at : NamedEffects.EffectBy past q j u e) (of : NamedEffects.EffectOf c past q j u e at)
        → IsLegal c (Entry.Post x.post ∷ x.before) → IsLegal c (x.later ++ (Entry.Post x.post ∷ x.before))
        → x.post.ticket ≡ at.block.ticket
    same_ticket at of posted all =
        let t = x.post.ticket in
        let p = post_is c x.before x.post posted in
        let k = Tickets.ticket x.before t in
        let kept : Tickets.ticket past t ≡ k =
        ap (λ (y : Past). Tickets.ticket y t) x.is
        ∙ ticket_later c x.later (Entry.Post x.post ∷ x.before) t all p.known in
        let before : fetched_before past t ≡ fetched_before x.before t =
        ap (λ (y : Past). fetched_before y t) x.is
        ∙ fetched_before_later c x.later (Entry.Post x.post ∷ x.before) t all p.known in
        let known : t ≤ tickets past =
        subst (λ (y : Past). t ≤ tickets y) (sym x.is)
        (omega (arith, p.known, tickets_later x.later (Entry.Post x.post ∷ x.before))) in
        let took = takes_from past t q j (taken_entries k.verdict) p.some known (ap (λ (y : Ticket). y.queue) kept
        ∙ queue)
        (ap (λ (y : Ticket). taken_entries y.verdict) kept) (omega (arith, before, number))
        (omega (arith, before, number, ltb-true _ _ p.in_flight, p.taken.count)) in
        let s = entries_of c past q j u e at of in
        let told = told_effect c past (observed c past) q j u e at h (published_seen c past q) in
        let first = command (Tickets.ticket e at.block.ticket) 0 in
        let two = not_second (observed c past) q j first told.some.0 (sym told.alike.first) told.some.1 in
        let m = begins_with c past t q j first h took s.first two in
        let there : at.block.ticket ≤ tickets past =
        subst (λ (y : Past). at.block.ticket ≤ tickets y) (sym at.is)
        (omega (arith, of.known, tickets_later at.later (Entry.Block at.block ∷ e))) in
        one_ticket c past t at.block.ticket h p.some known of.some there
        (m.queue ∙ sym (ap (λ (y : Ticket). y.queue) of.ticket ∙ of.says.queue)) (m.number ∙ sym of.number)

    inside : (at : NamedEffects.EffectBy past q j u e) → NamedEffects.EffectOf c past q j u e at → IsLegal c x.before
        → (k : Past) → Entry.Post x.post ∷ x.before ≡ k ++ (Entry.Block at.block ∷ e)
        → effect_by x.before q j u ≡ Some e
    inside at of legal [] g = absurd (differ g)
      where
        differ : Entry.Post x.post ∷ x.before ≡ Entry.Block at.block ∷ e → ⊥
        differ f = cc
    inside at of legal (z ∷ k) g =
        let rest : x.before ≡ k ++ (Entry.Block at.block ∷ e) = tail g in
        subst (λ (p : Past). effect_by p q j u ≡ Some e) (sym rest)
        (by_later c k (Entry.Block at.block ∷ e) q j u e (subst (λ (p : Past). IsLegal c p) rest legal)
        (by_here e at.block q j u at.here))
      where
        tail : Entry.Post x.post ∷ x.before ≡ z ∷ (k ++ (Entry.Block at.block ∷ e))
            → x.before ≡ k ++ (Entry.Block at.block ∷ e)
        tail f = cc

    posts_more : (later before : Past) (t : ℕ) → posts_of before t ≤ posts_of (later ++ before) t
    posts_more [] before t = omega arith
    posts_more (Entry.Post p ∷ later) before t = omega (arith, posts_more later before t)
    posts_more (Entry.Publish p ∷ later) before t = posts_more later before t
    posts_more (Entry.Fetch p ∷ later) before t = posts_more later before t
    posts_more (Entry.Grant p ∷ later) before t = posts_more later before t
    posts_more (Entry.Block p ∷ later) before t = posts_more later before t
    posts_more (Entry.Reap p ∷ later) before t = posts_more later before t

    outside : (at : NamedEffects.EffectBy past q j u e) (of : NamedEffects.EffectOf c past q j u e at)
        → IsLegal c (Entry.Post x.post ∷ x.before) → x.post.ticket ≡ at.block.ticket
        → (k : Past) → Entry.Block at.block ∷ e ≡ k ++ (Entry.Post x.post ∷ x.before) → ⊥
    outside at of posted same [] g = differ g
      where
        differ : Entry.Block at.block ∷ e ≡ Entry.Post x.post ∷ x.before → ⊥
        differ f = cc
    outside at of posted same (z ∷ k) g =
        let rest : e ≡ k ++ (Entry.Post x.post ∷ x.before) = tail g in
        let none = block_unposted c e at.block of.legal in
        let t = at.block.ticket in
        let more = posts_more k (Entry.Post x.post ∷ x.before) t in
        let one = cond-true {A = ℕ} (eqb x.post.ticket t) 1 0 (eq-eqb x.post.ticket t same) in
        omega (arith, none, ap (λ (p : Past). posts_of p t) rest, more, one)
      where
        tail : Entry.Block at.block ∷ e ≡ z ∷ (k ++ (Entry.Post x.post ∷ x.before))
            → e ≡ k ++ (Entry.Post x.post ∷ x.before)
        tail f = cc

-- ---- what isn't fetched has no effect

pub none_unfetched : (c : ConfigNumbers) (past : Past) (q j u : ℕ) → IsLegal c past → fetched_count past q ≤ j
    → effect_by past q j u ≡ None
none_unfetched c past q j u h l = go (effect_by past q j u) refl
  where
    go : (o : Option Past) → effect_by past q j u ≡ o → o ≡ None
    go None e = refl
    go (Some before) e =
        let at = by_effect past q j u before e in
        let of = effect_of c past q j u before at h in
        let t = at.block.ticket in
        let known : t ≤ tickets past =
        subst (λ (y : Past). t ≤ tickets y) (sym at.is)
        (omega (arith, of.known, tickets_later at.later (Entry.Block at.block ∷ before))) in
        let w = within_fetched c past t h of.some known in
        let count : fetched_count past (Tickets.ticket past t).queue ≡ fetched_count past q =
        ap (fetched_count past) (ap (λ (y : Ticket). y.queue) of.ticket ∙ of.says.queue) in
        absurd (omega (arith, w, count, l, of.number, taken_some (Tickets.ticket past t).verdict))
