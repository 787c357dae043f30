-- What SQHD says of the entries that were fetched, completion by completion.
use Rattle.nvme_model.specs.Tickets
use Rattle.std.proofs.Common.{◌≡◌, ℕ, zero, suc, ◌+◌, ◌-◌, ◌*◌, ◌/◌, ◌%◌, ◌<◌, ◌≤◌, Bool, true, false, cond}
use Rattle.std.proofs.Common.{List, [], ◌∷◌, ◌++◌, Option, None, Some, length, map, get_or, slice_get}
use Rattle.std.proofs.Common.{refl, sym, ap, ap₂, ◌∙◌, subst, inl, inr, arith, eqb}
use Rattle.std.specs.Prelude.{option_map}
use Rattle.std.proofs.Math.Nat.{add-mod_right, add-mul-mod_self_left, mod-add-div, mod-le, mod-lt}
use Rattle.std.proofs.lemmas.Bool.{ltb-true}
use Rattle.std.proofs.lemmas.List.{map-append}
use Rattle.std.proofs.lemmas.Option.{slice_get-map, slice_get_within}
use Rattle.nvme_model.specs.Completions.{phase, posted_completions}
use Rattle.nvme_model.specs.Config.{completion_queue}
use Rattle.nvme_model.specs.EntryBytes.{cqe_bytes, cqe_fields}
use Rattle.nvme_model.specs.History.{Past}
use Rattle.nvme_model.specs.Legal.{IsLegal}
use Rattle.nvme_model.specs.Queues.{fetched_count}
use Rattle.nvme_model.specs.Tickets.{cids, posts_of}
use Rattle.nvme_model.specs.declared.config.ConfigNumbers.{ConfigNumbers}
use Rattle.nvme_model.specs.declared.entry.Entry.{Entry}
use Rattle.nvme_model.specs.declared.entry.PostLine.{PostLine}
use Rattle.nvme_model.specs.declared.status.Status.{Status}
use Rattle.nvme_model.proofs.Rules.{follows}
use Rattle.host_laws.specs.Calls.{PostedAnswer, cqe_status, posted_answer, posted_answers}
use Rattle.host_laws.proofs.Elements.{get_cases, same_some}
use Rattle.host_laws.proofs.Statuses.{post_is}
use Rattle.host_laws.proofs.TicketsApart.{within_fetched}

-- ---- the least number that a head says

sums : (n f low a r p q : ℕ) → r + p ≡ f → a + q ≡ low → a < n → low ≤ f → (r + (n - a)) + p ≡ ((f - low) + n) + q
sums n f low a r p q e d l m = omega (arith, e, d, l, m)

-- from `low` on no smaller number than this is `f` modulo n
pub next_below : (n low f : ℕ) → 1 ≤ n → low ≤ f → low + (f % n + (n - low % n)) % n ≤ f
next_below n low f some l =
    let d = f - low in
    let same : (f % n + (n - low % n)) % n ≡ d % n =
    sym (add-mul-mod_self_left (f % n + (n - low % n)) n (f / n))
    ∙ (ap (λ (k : ℕ). k % n) (sums n f low (low % n) (f % n) (n * (f / n)) (n * (low / n)) (mod-add-div f n)
    (mod-add-div low n) (mod-lt low some) l)
    ∙ (add-mul-mod_self_left (d + n) n (low / n) ∙ add-mod_right d n)) in
    omega (arith, same, mod-le d n, l)

-- ---- each Post with how many entries were fetched then

abbrev pub Head : Type 0
Head = PostedAnswer × ℕ

-- those of completion queue n, in order
abbrev pub heads : ConfigNumbers → Past → ℕ → List Head
heads c [] n = []
heads c (Entry.Post p ∷ past) n =
    heads c past n
    ++ cond (eqb (completion_queue c (Tickets.ticket past p.ticket).queue) n)
    ((posted_answer past p, fetched_count past (Tickets.ticket past p.ticket).queue) ∷ []) []
heads c (_ ∷ past) n = heads c past n

pub heads_map : (c : ConfigNumbers) (past : Past) (n : ℕ)
    → map (λ (h : Head). h.0) (heads c past n) ≡ posted_answers c past n
heads_map c [] n = refl
heads_map c (Entry.Post p ∷ past) n =
    map-append (λ (h : Head). h.0) (heads c past n)
    (cond (eqb (completion_queue c (Tickets.ticket past p.ticket).queue) n)
    ((posted_answer past p, fetched_count past (Tickets.ticket past p.ticket).queue) ∷ []) [])
    ∙ ap₂ (λ (x y : List PostedAnswer). x ++ y) (heads_map c past n)
    (one (eqb (completion_queue c (Tickets.ticket past p.ticket).queue) n))
  where
    one : (b : Bool) → map (λ (h : Head). h.0)
        (cond b ((posted_answer past p, fetched_count past (Tickets.ticket past p.ticket).queue) ∷ []) [])
        ≡ cond b (posted_answer past p ∷ []) []
    one true = refl
    one false = refl
heads_map c (Entry.Publish p ∷ past) n = heads_map c past n
heads_map c (Entry.Fetch p ∷ past) n = heads_map c past n
heads_map c (Entry.Grant p ∷ past) n = heads_map c past n
heads_map c (Entry.Block p ∷ past) n = heads_map c past n
heads_map c (Entry.Reap p ∷ past) n = heads_map c past n

pub head_of : (c : ConfigNumbers) (past : Past) (n i : ℕ) (a : PostedAnswer)
    → slice_get (posted_answers c past n) i ≡ Some a
    → (h : Head) × (slice_get (heads c past n) i ≡ Some h) × (h.0 ≡ a)
head_of c past n i a e =
    go (slice_get (heads c past n) i) refl
    (sym (slice_get-map (λ (h : Head). h.0) (heads c past n) i)
    ∙ (ap (λ (l : List PostedAnswer). slice_get l i) (heads_map c past n) ∙ e))
  where
    go : (o : Option Head) → slice_get (heads c past n) i ≡ o → option_map (λ (h : Head). h.0) o ≡ Some a
        → (h : Head) × (slice_get (heads c past n) i ≡ Some h) × (h.0 ≡ a)
    go None z f = absurd (let g : None ≡ Some a = f in cc)
    go (Some h) z f = (h, z, same_some h.0 a (Some h.0) refl f)

-- its bytes say that count modulo the slots, its own entry is among the fetched ones, and no more are fetched than now
pub record HeadIs (c : ConfigNumbers) (past : Past) (h : Head) : Type 0 where
  pub says : (cqe_fields h.0.post.cqe).sqhd ≡ h.1 % c.sq_size
  pub own : h.0.number < h.1
  pub fetched : h.1 ≤ fetched_count past h.0.queue
  pub later : Past
  pub before : Past
  pub is : past ≡ later ++ before
  pub count : fetched_count before h.0.queue ≡ h.1

sqhd_back : (h q cid p : ℕ) (s : Status) → h < 65536 → (cqe_fields (cqe_bytes h q cid p s)).sqhd ≡ h
sqhd_back h q cid p s l =
    let e : h % 256 + 256 * ((h / 256) % 256 + 256 * 0) ≡ h = omega (arith, l) in
    e

-- where SQHD has room for the slots
abbrev pub FitsHead : ConfigNumbers → Type 0
FitsHead c = (1 ≤ c.sq_size) × (c.sq_size ≤ 65536)

posted_head : (c : ConfigNumbers) (past : Past) (p : PostLine) → FitsHead c → IsLegal c (Entry.Post p ∷ past)
    → HeadIs c (Entry.Post p ∷ past) (posted_answer past p, fetched_count past (Tickets.ticket past p.ticket).queue)
posted_head c past p s h =
    let f = post_is c past p h in
    let k = Tickets.ticket past p.ticket in
    let low = mod-lt (fetched_count past k.queue) s.0 in
    let within = within_fetched c past p.ticket (follows c past (Entry.Post p) h).before f.some f.known in
    record {
      says = ap (λ (x : List ℕ). (cqe_fields x).sqhd) f.cqe
          ∙ sqhd_back (fetched_count past k.queue % c.sq_size) k.queue (get_or (cids k) (posts_of past p.ticket) 0)
          (phase (length (posted_completions c past (completion_queue c k.queue))) c.cq_size) (cqe_status p.cqe)
          (omega (arith, low, s.1));
      own = omega (arith, within, ltb-true _ _ f.in_flight, f.taken.count);
      fetched = omega arith;
      later = Entry.Post p ∷ [];
      before = past;
      is = refl;
      count = refl;
    }

-- it stays so
head_on : (c : ConfigNumbers) (e : Entry) (past : Past) (h : Head)
    → fetched_count past h.0.queue ≤ fetched_count (e ∷ past) h.0.queue → HeadIs c past h → HeadIs c (e ∷ past) h
head_on c e past h more o =
    record {
      says = o.says;
      own = o.own;
      fetched = omega (arith, o.fetched, more);
      later = e ∷ o.later;
      before = o.before;
      is = ap (λ (x : Past). e ∷ x) o.is;
      count = o.count;
    }

pub head_is : (c : ConfigNumbers) (past : Past) (n i : ℕ) (h : Head) → FitsHead c → IsLegal c past
    → slice_get (heads c past n) i ≡ Some h → HeadIs c past h
head_is c [] n i h s l e = absurd (let f : None ≡ Some h = e in cc)
head_is c (Entry.Post p ∷ past) n i h s l e =
    elim (get_cases (heads c past n)
    (cond (eqb (completion_queue c (Tickets.ticket past p.ticket).queue) n)
    ((posted_answer past p, fetched_count past (Tickets.ticket past p.ticket).queue) ∷ []) []) i h e) [
      | inl x ↦ head_on c (Entry.Post p) past h (omega arith)
          (head_is c past n i h s (follows c past (Entry.Post p) l).before x)
      | inr m ↦ new (eqb (completion_queue c (Tickets.ticket past p.ticket).queue) n) m.0 m.2
    ]
  where
    new : (b : Bool) (m : ℕ)
        → slice_get
        (cond b ((posted_answer past p, fetched_count past (Tickets.ticket past p.ticket).queue) ∷ []) []) m ≡ Some h
        → HeadIs c (Entry.Post p ∷ past) h
    new false m f = absurd (let g : None ≡ Some h = f in cc)
    new true (suc m) f = absurd (let g : None ≡ Some h = f in cc)
    new true zero f =
        let x : Head = (posted_answer past p, fetched_count past (Tickets.ticket past p.ticket).queue) in
        subst (λ (y : Head). HeadIs c (Entry.Post p ∷ past) y) (same_some x h (Some x) refl f)
        (posted_head c past p s l)
head_is c (Entry.Fetch f ∷ past) n i h s l e =
    head_on c (Entry.Fetch f) past h (omega arith) (head_is c past n i h s (follows c past (Entry.Fetch f) l).before e)
head_is c (Entry.Publish f ∷ past) n i h s l e =
    head_on c (Entry.Publish f) past h (omega arith) (head_is c past n i h s (follows c past
    (Entry.Publish f) l).before e)
head_is c (Entry.Grant f ∷ past) n i h s l e =
    head_on c (Entry.Grant f) past h (omega arith) (head_is c past n i h s (follows c past (Entry.Grant f) l).before e)
head_is c (Entry.Block f ∷ past) n i h s l e =
    head_on c (Entry.Block f) past h (omega arith) (head_is c past n i h s (follows c past (Entry.Block f) l).before e)
head_is c (Entry.Reap f ∷ past) n i h s l e =
    head_on c (Entry.Reap f) past h (omega arith) (head_is c past n i h s (follows c past (Entry.Reap f) l).before e)

-- ---- they rise

one_place : {X : Type 0} (b : Bool) (x y : X) (m : ℕ) → slice_get (cond b (x ∷ []) []) m ≡ Some y → (m ≡ 0) × (x ≡ y)
one_place false x y m e = absurd (let f : None ≡ Some y = e in cc)
one_place true x y zero e = (refl, same_some x y (Some x) refl e)
one_place true x y (suc m) e = absurd (let f : None ≡ Some y = e in cc)

pub heads_rise : (c : ConfigNumbers) (past : Past) (n i k : ℕ) (h g : Head) → FitsHead c → IsLegal c past → i ≤ k
    → slice_get (heads c past n) i ≡ Some h → slice_get (heads c past n) k ≡ Some g → h.0.queue ≡ g.0.queue
    → h.1 ≤ g.1
heads_rise c [] n i k h g s l o e f q = absurd (let x : None ≡ Some h = e in cc)
heads_rise c (Entry.Post p ∷ past) n i k h g s l o e f q =
    elim (get_cases (heads c past n) (cond b (x ∷ []) []) k g f) [
      | inl y ↦ elim (get_cases (heads c past n) (cond b (x ∷ []) []) i h e) [
        | inl z ↦ heads_rise c past n i k h g s before o z y q
        | inr m ↦ absurd (omega (arith, o, m.1, slice_get_within (heads c past n) k g y))
      ]
      | inr m ↦
          let new = one_place b x g m.0 m.2 in
          elim (get_cases (heads c past n) (cond b (x ∷ []) []) i h e) [
            | inl z ↦
                let a = (head_is c past n i h s before z).fetched in
                let count : fetched_count past h.0.queue ≡ g.1 =
                ap (fetched_count past) (q ∙ ap (λ (y : Head). y.0.queue) (sym new.1)) ∙ ap (λ (y : Head). y.1) new.1 in
                omega (arith, a, count)
            | inr z ↦ omega (arith, ap (λ (y : Head). y.1) (sym (one_place b x h z.0 z.2).1 ∙ new.1))
          ]
    ]
  where
    before : IsLegal c past
    before = (follows c past (Entry.Post p) l).before

    b : Bool
    b = eqb (completion_queue c (Tickets.ticket past p.ticket).queue) n

    x : Head
    x = (posted_answer past p, fetched_count past (Tickets.ticket past p.ticket).queue)
heads_rise c (Entry.Publish x ∷ past) n i k h g s l o e f q =
    heads_rise c past n i k h g s (follows c past (Entry.Publish x) l).before o e f q
heads_rise c (Entry.Fetch x ∷ past) n i k h g s l o e f q =
    heads_rise c past n i k h g s (follows c past (Entry.Fetch x) l).before o e f q
heads_rise c (Entry.Grant x ∷ past) n i k h g s l o e f q =
    heads_rise c past n i k h g s (follows c past (Entry.Grant x) l).before o e f q
heads_rise c (Entry.Block x ∷ past) n i k h g s l o e f q =
    heads_rise c past n i k h g s (follows c past (Entry.Block x) l).before o e f q
heads_rise c (Entry.Reap x ∷ past) n i k h g s l o e f q =
    heads_rise c past n i k h g s (follows c past (Entry.Reap x) l).before o e f q
