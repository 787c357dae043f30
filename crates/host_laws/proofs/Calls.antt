-- The entry that a reaped completion is for, and the ticket that took it.
use Rattle.nvme_model.specs.Tickets
use Rattle.std.proofs.Common.{subst₂, ◌≡◌, ℕ, suc, ◌+◌, ◌≤◌, ◌<◌, true, false, ◌&&◌, ◌∷◌, ◌++◌, refl, sym, ap, ap₂, ◌∙◌}
use Rattle.std.proofs.Common.{subst, Some, inl, inr, ◌⊎◌, arith, eq-eqb, eqb, eqb-true, nat_le, nat_lt, le-leb}
use Rattle.std.proofs.Common.{leb-true, lt-ltb, ltb-true, slice_get}
use Rattle.std.proofs.lemmas.Bool.{and_parts, and_from, cases_Bool, cases_lt}
use Rattle.ticket_laws.proofs.Later.{ticket_later, tickets_later}
use Rattle.nvme_model.specs.declared.config.ConfigNumbers.{ConfigNumbers}
use Rattle.nvme_model.specs.Statuses.{success, compare_failure, is_success}
use Rattle.nvme_model.specs.Verdict.{taken_entries, passed}
use Rattle.nvme_model.specs.History.{Past}
use Rattle.nvme_model.specs.Tickets.{Ticket, tickets, command, posts_of}
use Rattle.nvme_model.specs.Queues.{published_entries}
use Rattle.host_laws.specs.Calls.{takes, reaped_post}
use Rattle.nvme_model.specs.Owed.{owed}
use Rattle.nvme_model.specs.Slots.{fetched_before}
use Rattle.nvme_model.specs.Legal.{IsLegal}
use Rattle.nvme_model.specs.declared.status.Status.{Status}
use Rattle.nvme_model.specs.declared.status.Verdict.{Verdict}
use Rattle.nvme_model.specs.declared.submission.Submission.{Submission}
use Rattle.nvme_model.specs.declared.entry.PostLine.{PostLine}
use Rattle.nvme_model.specs.declared.entry.Entry.{Entry}
use Rattle.nvme_model.proofs.Rules.{follows}
use Rattle.nvme_model.proofs.Beginnings.{earlier}
use Rattle.nvme_model.proofs.TakenEntries.{taken_two}
use Rattle.nvme_model.proofs.Cut.{clash}
use Rattle.host_laws.proofs.Elements.{same_some}
use Rattle.host_laws.proofs.Taken.{ticket_taken}
use Rattle.host_laws.proofs.Verdicts.{fuse, one_not_two, VerdictIs, Fails}
use Rattle.host_laws.proofs.Statuses.{PostIs, post_is}
use Rattle.host_laws.proofs.Outcomes.{failed_owes}
use Rattle.host_laws.proofs.Later.{published_later, fetched_before_later}
use Rattle.host_laws.proofs.PostedAnswers.{PostedAt, reaped_posted_at}

pub record Takes (past : Past) (t q j : ℕ) : Type 0 where
  pub some : 1 ≤ t
  pub known : t ≤ tickets past
  pub queue : (Tickets.ticket past t).queue ≡ q
  pub low : fetched_before past t ≤ j
  pub high : j < fetched_before past t + taken_entries (Tickets.ticket past t).verdict

pub takes_parts : (past : Past) (t q j : ℕ) → takes past t q j ≡ true → Takes past t q j
takes_parts past t q j h =
    let a = and_parts (nat_le 1 t && nat_le t (tickets past) && eqb (Tickets.ticket past t).queue q
    && nat_le (fetched_before past t) j)
    (nat_lt j (fetched_before past t + taken_entries (Tickets.ticket past t).verdict))
    h in
    let b = and_parts (nat_le 1 t && nat_le t (tickets past) && eqb (Tickets.ticket past t).queue q)
    (nat_le (fetched_before past t) j) a.0 in
    let d = and_parts (nat_le 1 t && nat_le t (tickets past)) (eqb (Tickets.ticket past t).queue q) b.0 in
    let e = and_parts (nat_le 1 t) (nat_le t (tickets past)) d.0 in
    record {
      some = leb-true 1 t e.0;
      known = leb-true t (tickets past) e.1;
      queue = eqb-true _ _ d.1;
      low = leb-true (fetched_before past t) j b.1;
      high = ltb-true j _ a.1;
    }

pub takes_from : (past : Past) (t q j n : ℕ) → 1 ≤ t → t ≤ tickets past → (Tickets.ticket past t).queue ≡ q
    → taken_entries (Tickets.ticket past t).verdict ≡ n → fetched_before past t ≤ j → j < fetched_before past t + n
    → takes past t q j ≡ true
takes_from past t q j n a b d m e f =
    and_from _ _ (and_from _ _
    (and_from _ _ (and_from _ _ (le-leb 1 t a) (le-leb t (tickets past) b))
    (eq-eqb (Tickets.ticket past t).queue q d)) (le-leb (fetched_before past t) j e))
    (lt-ltb j (fetched_before past t + taken_entries (Tickets.ticket past t).verdict) (omega (arith, f, m)))

pub takes_later : (c : ConfigNumbers) (later past : Past) (t q j : ℕ) → IsLegal c (later ++ past)
    → takes past t q j ≡ true → takes (later ++ past) t q j ≡ true
takes_later c later past t q j h k =
    let x = takes_parts past t q j k in
    let same = ticket_later c later past t h x.known in
    let number = fetched_before_later c later past t h x.known in
    takes_from (later ++ past) t q j (taken_entries (Tickets.ticket past t).verdict) x.some
    (omega (arith, x.known, tickets_later later past)) (ap (λ (z : Ticket). z.queue) same ∙ x.queue)
    (ap (λ (z : Ticket). taken_entries z.verdict) same) (omega (arith, number, x.low)) (omega (arith, number, x.high))

-- ---- the entry that a Post is for

pub record PostOf (c : ConfigNumbers) (past : Past) (q j : ℕ) (p : PostLine) : Type 0 where
  pub at : PostedAt past q j p
  pub legal : IsLegal c (Entry.Post p ∷ at.before)
  pub before : IsLegal c at.before
  pub is : PostIs c at.before p

pub post_of : (c : ConfigNumbers) (past : Past) (q j : ℕ) (p : PostLine) → IsLegal c past
    → reaped_post c past q j ≡ Some p → PostOf c past q j p
post_of c past q j p h r =
    let at = reaped_posted_at c past q j p r in
    let legal = earlier c at.later (Entry.Post p ∷ at.before) (subst (λ (x : Past). IsLegal c x) at.is h) in
    record {
      at = at;
      legal = legal;
      before = (follows c at.before (Entry.Post p) legal).before;
      is = post_is c at.before p legal;
    }

-- the first command of its ticket, or the second
pub record First (past : Past) (t j : ℕ) (s : Submission) : Type 0 where
  pub posts : posts_of past t ≡ 0
  pub number : fetched_before past t ≡ j
  pub entry : command (Tickets.ticket past t) 0 ≡ s

pub record Second (past : Past) (t j : ℕ) (s : Submission) : Type 0 where
  pub posts : posts_of past t ≡ 1
  pub number : suc (fetched_before past t) ≡ j
  pub entry : command (Tickets.ticket past t) 1 ≡ s
  pub two : taken_entries (Tickets.ticket past t).verdict ≡ 2

pub which : (c : ConfigNumbers) (past : Past) (q j : ℕ) (p : PostLine) (s : Submission) (f : PostOf c past q j p)
    → slice_get (published_entries past q) j ≡ Some s
    → First f.at.before p.ticket j s ⊎ Second f.at.before p.ticket j s
which c past q j p s f e =
    let t = p.ticket in
    let before = f.at.before in
    let all : Past = f.at.later ++ (Entry.Post p ∷ before) in
    let e2 : slice_get (published_entries all q) j ≡ Some s =
    subst (λ (x : Past). slice_get (published_entries x q) j ≡ Some s) f.at.is e in
    let below : posts_of before t < taken_entries (Tickets.ticket before t).verdict =
    subst (λ (n : ℕ). posts_of before t < n) f.is.taken.count (ltb-true _ _ f.is.in_flight) in
    let first = published_later f.at.later (Entry.Post p ∷ before) q (fetched_before before t)
    (command (Tickets.ticket before t) 0)
    (subst (λ (x : ℕ). slice_get (published_entries before x) (fetched_before before t)
    ≡ Some (command (Tickets.ticket before t) 0)) f.at.queue f.is.taken.first) in
    elim (cases_lt (posts_of before t) 1) [
      | inl z ↦
          let number : fetched_before before t ≡ j = omega (arith, f.at.number, z) in
          inl (record {
            posts = omega (arith, z);
            number = number;
            entry = same_some (command (Tickets.ticket before t) 0) s (slice_get (published_entries all q) j)
                (ap (slice_get (published_entries all q)) (sym number) ∙ first) e2;
          })
      | inr z ↦
          let two : taken_entries (Tickets.ticket before t).verdict ≡ 2 =
          omega (arith, below, z, taken_two (Tickets.ticket before t).verdict) in
          let number : suc (fetched_before before t) ≡ j = omega (arith, f.at.number, below, two, z) in
          let second = published_later f.at.later (Entry.Post p ∷ before) q (suc (fetched_before before t))
          (command (Tickets.ticket before t) 1)
          (subst (λ (x : ℕ). slice_get (published_entries before x) (suc (fetched_before before t))
          ≡ Some (command (Tickets.ticket before t) 1)) f.at.queue (f.is.taken.second two)) in
          inr (record {
            posts = omega (arith, below, two, z);
            number = number;
            entry = same_some (command (Tickets.ticket before t) 1) s (slice_get (published_entries all q) j)
                (ap (slice_get (published_entries all q)) (sym number) ∙ second) e2;
            two = two;
          })
    ]

-- its ticket, seen from the end
pub record Seen (past before : Past) (t q : ℕ) : Type 0 where
  pub ticket : Tickets.ticket past t ≡ Tickets.ticket before t
  pub number : fetched_before past t ≡ fetched_before before t
  pub known : t ≤ tickets past
  pub queue : (Tickets.ticket past t).queue ≡ q

pub seen : (c : ConfigNumbers) (past : Past) (q j : ℕ) (p : PostLine) (f : PostOf c past q j p) → IsLegal c past
    → Seen past f.at.before p.ticket q
seen c past q j p f h =
    let all : Past = f.at.later ++ (Entry.Post p ∷ f.at.before) in
    let l = subst (λ (x : Past). IsLegal c x) f.at.is h in
    let kept = ticket_later c f.at.later (Entry.Post p ∷ f.at.before) p.ticket l f.is.known in
    let number = fetched_before_later c f.at.later (Entry.Post p ∷ f.at.before) p.ticket l f.is.known in
    subst (λ (x : Past). Seen x f.at.before p.ticket q) (sym f.at.is)
    (record {
      ticket = kept;
      number = number;
      known = omega (arith, f.is.known, tickets_later f.at.later (Entry.Post p ∷ f.at.before));
      queue = ap (λ (k : Ticket). k.queue) kept ∙ f.at.queue;
    })

-- ---- what a verdict that passed says of its commands

pub success_is : (s : Status) → is_success s ≡ true → s ≡ success
success_is s h =
    let a = and_parts _ _ h in
    ap₂ (λ (x y : ℕ). let r : Status = record { sct = x; sc = y } in r) (eqb-true _ _ a.0) (eqb-true _ _ a.1)

-- success for an entry that a pair's second command is
pub pair_by : (v : Verdict) (a b s : Submission) → passed v ≡ true → VerdictIs v a b → eqb (fuse s) 2 ≡ true → (a ≡ s)
    → ⊥
pair_by (Verdict.SingleFailed x) a b s p k f e = clash false p refl
pair_by (Verdict.PairFailed x y) a b s p k f e = clash false p refl
pair_by Verdict.Single a b s p k f e = clash (eqb (fuse s) 2) f (ap (λ (x : Submission). eqb (fuse x) 2) (sym e) ∙ k.1)
pair_by Verdict.Pair a b s p k f e =
    clash (eqb (fuse s) 2) f (ap (λ (x : Submission). eqb (fuse x) 2) (sym e) ∙ one_not_two (fuse a) k.first)

pub two_pair : (v : Verdict) → passed v ≡ true → taken_entries v ≡ 2 → v ≡ Verdict.Pair
two_pair Verdict.Single p e = absurd (omega (arith, e))
two_pair Verdict.Pair p e = refl
two_pair (Verdict.SingleFailed s) p e = clash false p refl
two_pair (Verdict.PairFailed s r) p e = clash false p refl

-- an entry with FUSE 01b whose verdict passed is the first of a pair
pub first_pair : (v : Verdict) (a b s : Submission) → passed v ≡ true → VerdictIs v a b → eqb (fuse s) 1 ≡ true → a ≡ s
    → v ≡ Verdict.Pair
first_pair Verdict.Pair a b s p k f e = refl
first_pair Verdict.Single a b s p k f e =
    clash (eqb (fuse s) 1) f (ap (λ (x : Submission). eqb (fuse x) 1) (sym e) ∙ k.0)
first_pair (Verdict.SingleFailed x) a b s p k f e = clash false p refl
first_pair (Verdict.PairFailed x y) a b s p k f e = clash false p refl

-- the second command of a ticket has FUSE 10b
pub second_fuse : (v : Verdict) (a b s : Submission) → taken_entries v ≡ 2 → VerdictIs v a b → b ≡ s
    → eqb (fuse s) 2 ≡ true
second_fuse Verdict.Single a b s t k e = absurd (omega (arith, t))
second_fuse (Verdict.SingleFailed x) a b s t k e = absurd (omega (arith, t))
second_fuse Verdict.Pair a b s t k e = ap (λ (x : Submission). eqb (fuse x) 2) (sym e) ∙ k.second
second_fuse (Verdict.PairFailed x y) a b s t k e = ap (λ (x : Submission). eqb (fuse x) 2) (sym e) ∙ k.3

-- its verdict passed
pub first_single : (v : Verdict) (a b s : Submission) → passed v ≡ true → VerdictIs v a b → eqb (fuse s) 1 ≡ false
    → a ≡ s → v ≡ Verdict.Single
first_single Verdict.Single a b s p k f e = refl
first_single Verdict.Pair a b s p k f e = clash (eqb (fuse a) 1) k.first (ap (λ (x : Submission). eqb (fuse x) 1) e ∙ f)
first_single (Verdict.SingleFailed x) a b s p k f e = clash false p refl
first_single (Verdict.PairFailed x y) a b s p k f e = clash false p refl

compare_status : Fails compare_failure → ⊥
compare_status f = omega (arith, f.sct)

-- 2/85 comes of a verdict that passed
pub compare_passes : (c : ConfigNumbers) (past : Past) (t i : ℕ) (v : Verdict) (a b : Submission)
    → (Tickets.ticket past t).verdict ≡ v → VerdictIs v a b → slice_get (owed c past t) i ≡ Some compare_failure
    → passed v ≡ true
compare_passes c past t i v a b e k h = elim (cases_Bool (passed v)) [
  | inl p ↦ p
  | inr p ↦ absurd (compare_status (failed_owes c past t i compare_failure v a b e k p h))
]

-- ---- the commands of a ticket, seen from the end

pub record Published (past : Past) (t q j : ℕ) : Type 0 where
  pub first : slice_get (published_entries past q) j ≡ Some (command (Tickets.ticket past t) 0)
  pub second : taken_entries (Tickets.ticket past t).verdict ≡ 2
      → slice_get (published_entries past q) (suc j) ≡ Some (command (Tickets.ticket past t) 1)

pub published_at : (c : ConfigNumbers) (past : Past) (t q j : ℕ) → IsLegal c past → 1 ≤ t → t ≤ tickets past
    → (Tickets.ticket past t).queue ≡ q → fetched_before past t ≡ j → Published past t q j
published_at c past t q j h a b e n =
    let f = ticket_taken c past t h a b in
    record {
      first = subst₂ (λ (x y : ℕ). slice_get (published_entries past x) y ≡ Some (command (Tickets.ticket past t) 0)) e
          n f.first;
      second = λ two. subst₂ (λ (x y : ℕ). slice_get (published_entries past x) (suc y)
          ≡ Some (command (Tickets.ticket past t) 1)) e n (f.second two);
    }

pub command_later : (c : ConfigNumbers) (later past : Past) (t q j i : ℕ) → IsLegal c (later ++ past) → t ≤ tickets past
    → slice_get (published_entries past q) j ≡ Some (command (Tickets.ticket past t) i)
    → slice_get (published_entries (later ++ past) q) j ≡ Some (command (Tickets.ticket (later ++ past) t) i)
command_later c later past t q j i h k e =
    published_later later past q j (command (Tickets.ticket past t) i) e
    ∙ ap (λ (z : Ticket). Some (command z i)) (sym (ticket_later c later past t h k))
