-- The tickets in flight by their keys: what is found there, and what a change leaves.
use Rattle.std.proofs.Common.{List, None, Option, Some, [], ap, arith, cond, eq-eqb, false, is_some, length, nat_lt}
use Rattle.std.proofs.Common.{ne_eqb, not, refl, slice_get, subst, suc, sym, true, zero, ℕ, ◌++◌, ◌+◌, ◌==◌, ◌||◌, ◌&&◌}
use Rattle.std.proofs.Common.{◌≡◌, ◌∙◌, ◌∷◌, ◌⊎◌, inl, inr, true≢false}
use Rattle.std.proofs.lemmas.Bool.{cases_eq, cond-false, cond-true, or_parts}
use Rattle.std.proofs.lemmas.List.Sums.{sum_by-set}
use Rattle.std.specs.List.{cons_option, find}
use Rattle.slab.specs.Slab.{ContainsKey, Slab, Updates, get, slab_len, with_value}
use Rattle.slab.proofs.SlabLemmas.{ContainsKey-within, Updates-with_value}
use Rattle.job_table.specs.Keyed as keyed
use Rattle.job_table.specs.Keyed.{all_above, key_of, keyed_beside, keys_of}
use Rattle.job_table.specs.declared.tickets.Keyed.{Keyed}
use Rattle.job_table.proofs.Rising.{beside_absent, has_ticket_below, is_some-key_of}
use Rattle.job_table.specs.Jobs.{AreRising, AreTicketsRising, all_jobs_below, has_job_of, job_of, jobs_beside, replaced}
use Rattle.job_table.specs.Jobs.{job_tickets}
use Rattle.job_table.specs.Slots.{HoldsEach, HoldsOne, jobs_in}
use Rattle.job_table.specs.declared.job.Job.{Job}
use Rattle.job_table.specs.declared.jobs.InFlight.{InFlight}

-- ---- what is there

-- the first is what its key has
pub first_in : (s : Slab InFlight) (k : Keyed) (ks : List Keyed) (e : InFlight) → get s k.key ≡ Some e
    → jobs_in s (k ∷ ks) ≡ e ∷ jobs_in s ks
first_in s k ks e h = ap (λ (o : Option InFlight). cons_option o (jobs_in s ks)) h

-- the tickets are those of the keys
pub tickets_in : (s : Slab InFlight) (ks : List Keyed) → HoldsEach s ks
    → job_tickets (jobs_in s ks) ≡ keyed.tickets_of ks
tickets_in s [] h = refl
tickets_in s (k ∷ ks) h =
    let later = tickets_in s ks h.1 in
    let is = h.0.ticket in
    ap job_tickets (first_in s k ks h.0.one h.0.there) ∙ cc

-- as many
pub length_in : (s : Slab InFlight) (ks : List Keyed) → HoldsEach s ks → length (jobs_in s ks) ≡ length ks
length_in s [] h = refl
length_in s (k ∷ ks) h = ap length (first_in s k ks h.0.one h.0.there) ∙ ap suc (length_in s ks h.1)

-- in the same order
pub place_in : (s : Slab InFlight) (ks : List Keyed) (i key : ℕ) → HoldsEach s ks → slice_get (keys_of ks) i ≡ Some key
    → slice_get (jobs_in s ks) i ≡ get s key
place_in s [] i key h p = absurd (let q : None ≡ Some key = p in cc)
place_in s (k ∷ ks) zero key h p =
    let q : Some k.key ≡ Some key = p in
    let e : k.key ≡ key = cc in
    ap (λ (xs : List InFlight). slice_get xs 0) (first_in s k ks h.0.one h.0.there) ∙ sym h.0.there ∙ ap (get s) e
place_in s (k ∷ ks) (suc i) key h p =
    ap (λ (xs : List InFlight). slice_get xs (suc i)) (first_in s k ks h.0.one h.0.there) ∙ place_in s ks i key h.1 p

-- each key of them has one
pub key_within : (s : Slab InFlight) (ks : List Keyed) (i key : ℕ) → HoldsEach s ks
    → slice_get (keys_of ks) i ≡ Some key → ContainsKey s key
key_within s [] i key h p = absurd (let q : None ≡ Some key = p in cc)
key_within s (k ∷ ks) zero key h p =
    let q : Some k.key ≡ Some key = p in
    let e : k.key ≡ key = cc in
    ap is_some (ap (get s) (sym e) ∙ h.0.there)
key_within s (k ∷ ks) (suc i) key h p = key_within s ks i key h.1 p

-- the same tickets are in flight
pub has_in : (s : Slab InFlight) (ks : List Keyed) (t : ℕ) → HoldsEach s ks
    → has_job_of (jobs_in s ks) t ≡ keyed.has_ticket ks t
has_in s [] t h = refl
has_in s (k ∷ ks) t h =
    ap (λ (xs : List InFlight). has_job_of xs t) (first_in s k ks h.0.one h.0.there)
    ∙ ap (λ u. (u == t) || has_job_of (jobs_in s ks) t) h.0.ticket ∙ ap (λ b. (k.ticket == t) || b) (has_in s ks t h.1)

-- a ticket is above the same
pub below_in : (s : Slab InFlight) (ks : List Keyed) (t : ℕ) → HoldsEach s ks
    → all_jobs_below t (jobs_in s ks) ≡ keyed.all_below t ks
below_in s [] t h = refl
below_in s (k ∷ ks) t h =
    ap (all_jobs_below t) (first_in s k ks h.0.one h.0.there)
    ∙ ap (λ u. nat_lt u t && all_jobs_below t (jobs_in s ks)) h.0.ticket
    ∙ ap (λ b. nat_lt k.ticket t && b) (below_in s ks t h.1)

-- ---- a look-up

-- what is at the key of a ticket is that ticket with its job
pub record IsAt (s : Slab InFlight) (ks : List Keyed) (t key : ℕ) : Type 0 where
  pub one : InFlight
  pub there : get s key ≡ Some one
  pub ticket : one.ticket ≡ t
  pub job : job_of (jobs_in s ks) t ≡ Some one.job

pub found_in : (s : Slab InFlight) (ks : List Keyed) (t key : ℕ) → HoldsEach s ks → key_of ks t ≡ Some key
    → IsAt s ks t key
found_in s [] t key h p = absurd (let q : None ≡ Some key = p in cc)
found_in s (k ∷ ks) t key h p = elim (cases_eq k.ticket t) [
  | inl e ↦
      let q : Some k.key ≡ Some key =
      sym (ap key_if (cond-true (k.ticket == t) (Some k) (find (λ x. x.ticket == t) ks) (eq-eqb k.ticket t e)))
      ∙ p in
      let f : k.key ≡ key = cc in
      record {
        one = h.0.one;
        there = ap (get s) (sym f) ∙ h.0.there;
        ticket = h.0.ticket ∙ e;
        job =
            ap (λ (xs : List InFlight). job_of xs t) (first_in s k ks h.0.one h.0.there)
            ∙ ap job_if (cond-true (h.0.one.ticket == t) (Some h.0.one) (find (λ x. x.ticket == t) (jobs_in s ks))
            (eq-eqb h.0.one.ticket t (h.0.ticket ∙ e)));
      }
  | inr n ↦
      let later = found_in s ks t key h.1
      (sym (ap key_if (cond-false (k.ticket == t) (Some k) (find (λ x. x.ticket == t) ks) (ne_eqb k.ticket t n)))
      ∙ p) in
      record {
        one = later.one;
        there = later.there;
        ticket = later.ticket;
        job =
            ap (λ (xs : List InFlight). job_of xs t) (first_in s k ks h.0.one h.0.there)
            ∙ ap job_if (cond-false (h.0.one.ticket == t) (Some h.0.one) (find (λ x. x.ticket == t) (jobs_in s ks))
            (ne_eqb h.0.one.ticket t (λ e. n (sym h.0.ticket ∙ e))))
            ∙ later.job;
      }
]
  where
    key_if : Option Keyed → Option ℕ
    key_if None = None
    key_if (Some x) = Some x.key

    job_if : Option InFlight → Option Job
    job_if None = None
    job_if (Some x) = Some x.job

-- a ticket with a key is in flight
pub has_found : (s : Slab InFlight) (ks : List Keyed) (t key : ℕ) → HoldsEach s ks → key_of ks t ≡ Some key
    → has_job_of (jobs_in s ks) t ≡ true
has_found s ks t key h p = has_in s ks t h ∙ sym (is_some-key_of ks t) ∙ ap is_some p

-- one without isn't
pub none_found : (s : Slab InFlight) (ks : List Keyed) (t : ℕ) → HoldsEach s ks → key_of ks t ≡ None
    → has_job_of (jobs_in s ks) t ≡ false
none_found s ks t h p = has_in s ks t h ∙ sym (is_some-key_of ks t) ∙ ap is_some p

-- its key has a job
pub has_key : (s : Slab InFlight) (ks : List Keyed) (t key : ℕ) → HoldsEach s ks → key_of ks t ≡ Some key
    → ContainsKey s key
has_key s ks t key h p = ap is_some (found_in s ks t key h p).there

-- which is this one
pub job_found : (s : Slab InFlight) (ks : List Keyed) (t key : ℕ) (e : InFlight) → HoldsEach s ks
    → key_of ks t ≡ Some key → get s key ≡ Some e
    → (job_of (jobs_in s ks) t ≡ Some e.job) × (e.ticket ≡ t)
job_found s ks t key e h p at =
    let f = found_in s ks t key h p in
    let q : Some f.one ≡ Some e = sym f.there ∙ at in
    let same : f.one ≡ e = cc in
    (f.job ∙ ap (λ (x : InFlight). Some x.job) same, ap (λ (x : InFlight). x.ticket) (sym same) ∙ f.ticket)

-- the tickets in flight rise
pub rises_in : (s : Slab InFlight) (ks : List Keyed) → HoldsEach s ks → keyed.AreKeyedRising ks
    → AreTicketsRising (jobs_in s ks)
rises_in s ks h r = subst AreRising (sym (tickets_in s ks h)) r

-- none are in flight where none are there
pub none_in : (s : Slab InFlight) (ks : List Keyed) → HoldsEach s ks → jobs_in s ks ≡ [] → ks ≡ []
none_in s [] h e = refl
none_in s (k ∷ ks) h e =
    absurd (let q : h.0.one ∷ jobs_in s ks ≡ [] = sym (first_in s k ks h.0.one h.0.there) ∙ e in cc)

-- ---- one key for a ticket

-- each key of the ticket is this one
abbrev pub IsOnly : List Keyed → ℕ → ℕ → Type 0
IsOnly [] t key = Unit {0}
IsOnly (k ∷ ks) t key = (k.ticket ≡ t → k.key ≡ key) × IsOnly ks t key

-- so it is where the ticket isn't there
only_absent : (ks : List Keyed) (t key : ℕ) → keyed.has_ticket ks t ≡ false → IsOnly ks t key
only_absent [] t key n = tt
only_absent (k ∷ ks) t key n =
    let p = or_parts (k.ticket == t) (keyed.has_ticket ks t) n in
    (λ e. absurd (true≢false (sym (eq-eqb k.ticket t e) ∙ p.0)), only_absent ks t key p.1)

-- and where tickets rise
pub only_key : (ks : List Keyed) (t key : ℕ) → keyed.AreKeyedRising ks → key_of ks t ≡ Some key → IsOnly ks t key
only_key [] t key r p = tt
only_key (k ∷ ks) t key r p = elim (cases_eq k.ticket t) [
  | inl e ↦
      let q : Some k.key ≡ Some key =
      sym (ap key_if (cond-true (k.ticket == t) (Some k) (find (λ x. x.ticket == t) ks) (eq-eqb k.ticket t e)))
      ∙ p in
      let f : k.key ≡ key = cc in
      (λ _. f, only_absent ks t key (has_ticket_below ks t (ap (λ u. all_above u (keyed.tickets_of ks)) (sym e) ∙ r.0)))
  | inr n ↦ (
    λ e. absurd (n e),
    only_key ks t key r.1 (sym
        (ap key_if (cond-false (k.ticket == t) (Some k) (find (λ x. x.ticket == t) ks) (ne_eqb k.ticket t n))) ∙ p),
  )
]
  where
    key_if : Option Keyed → Option ℕ
    key_if None = None
    key_if (Some x) = Some x.key

-- a key that has the ticket is of that ticket
same_ticket : (s : Slab InFlight) (k : Keyed) (key : ℕ) (e : InFlight) → HoldsOne s k → get s key ≡ Some e → k.key ≡ key
    → k.ticket ≡ e.ticket
same_ticket s k key e h at is =
    let q : Some h.one ≡ Some e = sym h.there ∙ ap (get s) is ∙ at in
    let f : h.one ≡ e = cc in
    sym h.ticket ∙ ap (λ (x : InFlight). x.ticket) f

-- ---- another job

-- one that is another stays
stays : (s u : Slab InFlight) (key : ℕ) (slot : Option InFlight) (k : Keyed) → Updates s u key slot → HoldsOne s k
    → (k.key ≡ key → ⊥) → HoldsOne u k
stays s u key slot k up h n = record { one = h.one; there = up.others k.key n ∙ h.there; ticket = h.ticket }

-- the table where the ticket at the key has another job
pub replaced_in : (s u : Slab InFlight) (ks : List Keyed) (t key : ℕ) (e : InFlight) (j : Job) → HoldsEach s ks
    → IsOnly ks t key → get s key ≡ Some e → e.ticket ≡ t
    → Updates s u key (Some (record e { job = j })) → (jobs_in u ks ≡ replaced (jobs_in s ks) t j) × HoldsEach u ks
unfolding stays
replaced_in s u [] t key e j h o at is up = (refl, tt)
replaced_in s u (k ∷ ks) t key e j h o at is up =
    let later = replaced_in s u ks t key e j h.1 o.1 at is up in
    let old = first_in s k ks h.0.one h.0.there in
    elim (cases_eq k.key key) [
      | inl f ↦
          let q : Some h.0.one ≡ Some e = sym h.0.there ∙ ap (get s) f ∙ at in
          let g : h.0.one ≡ e = cc in
          let new : get u k.key ≡ Some (record e { job = j }) = ap (get u) f ∙ up.changed in (
            first_in u k ks (record e { job = j }) new ∙ ap (λ (xs : List InFlight). record e { job = j } ∷ xs) later.0
                ∙ sym (ap (λ (xs : List InFlight). replaced xs t j) old
                ∙ ap (λ (x : InFlight). change x ∷ replaced (jobs_in s ks) t j) g
                ∙ ap (λ (x : InFlight). x ∷ replaced (jobs_in s ks) t j)
                (cond-true (e.ticket == t) (record e { job = j }) e (eq-eqb e.ticket t is))),
            (
              record {
                one = record e { job = j };
                there = new;
                ticket = is ∙ sym (same_ticket s k key e h.0 at f ∙ is);
              },
              later.1,
            ),
          )
      | inr n ↦
          let one = stays s u key (Some (record e { job = j })) k up h.0 n in
          let other : h.0.one.ticket ≡ t → ⊥ = λ w. n (o.0 (sym h.0.ticket ∙ w)) in (
            first_in u k ks h.0.one one.there ∙ ap (λ (xs : List InFlight). h.0.one ∷ xs) later.0
                ∙ sym (ap (λ (xs : List InFlight). replaced xs t j) old
                ∙ ap (λ (x : InFlight). x ∷ replaced (jobs_in s ks) t j)
                (cond-false (h.0.one.ticket == t) (record h.0.one { job = j }) h.0.one
                (ne_eqb h.0.one.ticket t other))),
            (one, later.1),
          )
    ]
  where
    change : InFlight → InFlight
    change x = cond (x.ticket == t) (record x { job = j }) x

-- the table where the job that is lent ends as this
pub lent_in : (s : Slab InFlight) (ks : List Keyed) (t key : ℕ) (e : InFlight) (j : Job) → HoldsEach s ks
    → keyed.AreKeyedRising ks → key_of ks t ≡ Some key → get s key ≡ Some e
    → (jobs_in (with_value s key (record { ticket = e.ticket; job = j })) ks ≡ replaced (jobs_in s ks) t j)
    × HoldsEach (with_value s key (record { ticket = e.ticket; job = j })) ks
lent_in s ks t key e j h r p at =
    replaced_in s (with_value s key (record { ticket = e.ticket; job = j })) ks t key e j h (only_key ks t key r p) at
    (job_found s ks t key e h p at).1
    (Updates-with_value s key (record { ticket = e.ticket; job = j }) (ap is_some at))

-- a value that is lent comes back with the same effect
pub lent_same : {N V W P : Type 0} (n : N) (f g : V → W) → ((v : V) → f v ≡ g v)
    → ◌≡◌ {A = (N × (V → W)) ⊎ P} (inl (n, f)) (inl (n, g))
lent_same n f g e = λ i. inl (n, λ v. e v i)

-- as many values
pub length_lent : (s : Slab InFlight) (key : ℕ) (e v : InFlight) → get s key ≡ Some e
    → slab_len (with_value s key v) ≡ slab_len s
length_lent s key e v at =
    let within = ContainsKey-within s key (ap is_some at) in
    let moved = sum_by-set (λ (o : Option InFlight). cond (is_some o) 1 0) s.slots key (Some v) None within in
    let had = ap {B = ℕ} (λ (o : Option InFlight). cond (is_some o) 1 0) at in
    omega (arith, moved, had)

-- ---- one ticket fewer

-- one key fewer
pub length_beside : (ks : List Keyed) (t key : ℕ) → keyed.AreKeyedRising ks → key_of ks t ≡ Some key
    → length (keyed_beside ks t) + 1 ≡ length ks
length_beside [] t key r p = absurd (let q : None ≡ Some key = p in cc)
length_beside (k ∷ ks) t key r p = elim (cases_eq k.ticket t) [
  | inl e ↦
      let none = has_ticket_below ks t (ap (λ u. all_above u (keyed.tickets_of ks)) (sym e) ∙ r.0) in
      let left = cond-false (not (k.ticket == t)) (k ∷ keyed_beside ks t) (keyed_beside ks t)
      (ap not (eq-eqb k.ticket t e)) ∙ beside_absent ks t none in
      omega (arith, ap length left)
  | inr n ↦
      let left = cond-true (not (k.ticket == t)) (k ∷ keyed_beside ks t) (keyed_beside ks t)
      (ap not (ne_eqb k.ticket t n)) in
      let later = length_beside ks t key r.1
      (sym (ap key_if (cond-false (k.ticket == t) (Some k) (find (λ x. x.ticket == t) ks) (ne_eqb k.ticket t n)))
      ∙ p) in
      omega (arith, ap length left, later)
]
  where
    key_if : Option Keyed → Option ℕ
    key_if None = None
    key_if (Some x) = Some x.key

pub removed_in : (s u : Slab InFlight) (ks : List Keyed) (t key : ℕ) (e : InFlight) → HoldsEach s ks → IsOnly ks t key
    → get s key ≡ Some e → e.ticket ≡ t
    → Updates s u key None → (jobs_in u (keyed_beside ks t) ≡ jobs_beside (jobs_in s ks) t)
    × HoldsEach u (keyed_beside ks t)
unfolding stays
removed_in s u [] t key e h o at is up = (refl, tt)
removed_in s u (k ∷ ks) t key e h o at is up =
    let later = removed_in s u ks t key e h.1 o.1 at is up in
    let old = first_in s k ks h.0.one h.0.there in
    elim (cases_eq k.ticket t) [
      | inl f ↦
          let left = cond-false (not (k.ticket == t)) (k ∷ keyed_beside ks t) (keyed_beside ks t)
          (ap not (eq-eqb k.ticket t f)) in (
            ap (jobs_in u) left ∙ later.0
                ∙ sym (ap (λ (xs : List InFlight). jobs_beside xs t) old
                ∙ cond-false (not (h.0.one.ticket == t)) (h.0.one ∷ jobs_beside (jobs_in s ks) t)
                (jobs_beside (jobs_in s ks) t) (ap not (eq-eqb h.0.one.ticket t (h.0.ticket ∙ f)))),
            subst (HoldsEach u) (sym left) later.1,
          )
      | inr n ↦
          let left = cond-true (not (k.ticket == t)) (k ∷ keyed_beside ks t) (keyed_beside ks t)
          (ap not (ne_eqb k.ticket t n)) in
          let one = stays s u key None k up h.0 (λ f. n (same_ticket s k key e h.0 at f ∙ is)) in (
            ap (jobs_in u) left ∙ first_in u k (keyed_beside ks t) h.0.one one.there
                ∙ ap (λ (xs : List InFlight). h.0.one ∷ xs) later.0
                ∙ sym (ap (λ (xs : List InFlight). jobs_beside xs t) old
                ∙ cond-true (not (h.0.one.ticket == t)) (h.0.one ∷ jobs_beside (jobs_in s ks) t)
                (jobs_beside (jobs_in s ks) t) (ap not (ne_eqb h.0.one.ticket t (λ w. n (sym h.0.ticket ∙ w))))),
            subst (HoldsEach u) (sym left) (one, later.1),
          )
    ]

-- ---- one more ticket

pub pushed_in : (s u : Slab InFlight) (ks : List Keyed) (k : Keyed) (e : InFlight) → HoldsEach s ks → get s k.key ≡ None
    → Updates s u k.key (Some e) → e.ticket ≡ k.ticket
    → (jobs_in u (ks ++ k ∷ []) ≡ jobs_in s ks ++ e ∷ []) × HoldsEach u (ks ++ k ∷ [])
unfolding stays
pushed_in s u [] k e h none up is =
    (first_in u k [] e up.changed, (record { one = e; there = up.changed; ticket = is }, tt))
pushed_in s u (x ∷ xs) k e h none up is =
    let later = pushed_in s u xs k e h.1 none up is in
    let one = stays s u k.key (Some e) x up h.0
    (λ f. let q : Some h.0.one ≡ None = sym h.0.there ∙ ap (get s) f ∙ none in absurd cc) in (
      first_in u x (xs ++ k ∷ []) h.0.one one.there ∙ ap (λ (ys : List InFlight). h.0.one ∷ ys) later.0
          ∙ sym (ap (λ (ys : List InFlight). ys ++ e ∷ []) (first_in s x xs h.0.one h.0.there)),
      (one, later.1),
    )
