-- No number of fetched entries parts a pair that one line published.
use Rattle.std.proofs.Common.{◌≡◌, ℕ, zero, suc, ◌+◌, ◌≤◌, true, false, ◌&&◌, cond, List, [], ◌∷◌, ◌++◌, Option, None}
use Rattle.std.proofs.Common.{Some, slice_get, refl, sym, ap, ap₂, ◌∙◌, subst, inl, inr, arith, eqb, append_assoc}
use Rattle.std.proofs.lemmas.Bool.{and_parts, cases_Bool, cases_lt, cond-true}
use Rattle.ticket_laws.proofs.Counts.{taken_pair}
use Rattle.nvme_model.specs.History.{Past}
use Rattle.nvme_model.specs.Legal.{IsLegal}
use Rattle.nvme_model.specs.Queues.{fetched_count, published_entries}
use Rattle.nvme_model.specs.Statuses.{missing_fused}
use Rattle.nvme_model.specs.Slots.{fetched_before}
use Rattle.nvme_model.specs.Tickets
use Rattle.nvme_model.specs.Tickets.{Ticket, tickets}
use Rattle.nvme_model.specs.Verdict.{command_fault, item_of, of_command, of_pair, pair_fault, taken_entries}
use Rattle.nvme_model.specs.declared.config.ConfigNumbers.{ConfigNumbers}
use Rattle.nvme_model.specs.declared.entry.Entry.{Entry}
use Rattle.nvme_model.specs.declared.status.Verdict.{Verdict}
use Rattle.nvme_model.specs.declared.submission.Submission.{Submission}
use Rattle.nvme_model.proofs.TakenEntries.{taken_two}
use Rattle.host_laws.proofs.Calls.{second_fuse}
use Rattle.host_laws.proofs.Elements.{same_some}
use Rattle.host_laws.proofs.Fetches.{fetched_at}
use Rattle.host_laws.proofs.TicketsApart.{taken_some}
use Rattle.host_laws.proofs.Verdicts.{fuse, one_not_two, taken_few, verdict_is}
use Rattle.trace.specs.Observed.{observed}
use Rattle.trace.specs.declared.seen.Seen.{Seen}
use Rattle.refutation.specs.Lines.{published_in}
use Rattle.refutation.specs.MayAnswer.{are_together, has_fuse, parts_pair, verdict_at}
use Rattle.refutation.proofs.Fetching.{FetchOf, found, newest_fetch}
use Rattle.refutation.proofs.Heads.{FitsHead, Head, head_is, heads}
use Rattle.refutation.proofs.Lines.{published_seen, tidy_on}

-- ---- how many a Fetch takes

pub matched_takes_two : (c : ConfigNumbers) (a b : Submission) → eqb (fuse a) 1 ≡ true → eqb (fuse b) 2 ≡ true
    → taken_entries (verdict_at c a (Some b)) ≡ 2
matched_takes_two c a b f g =
    let pair = of_pair (pair_fault c.atomic c.blocks [] (item_of a) (item_of b)) in
    ap taken_entries (cond-true (eqb (fuse a) 1) (cond (eqb (fuse b) 2) pair (Verdict.SingleFailed missing_fused))
    (cond (eqb (fuse a) 2) (Verdict.SingleFailed missing_fused)
    (of_command (command_fault c.blocks [] (item_of a)))) f
    ∙ cond-true (eqb (fuse b) 2) pair (Verdict.SingleFailed missing_fused) g)
    ∙ taken_pair (pair_fault c.atomic c.blocks [] (item_of a) (item_of b))

pub alone_takes_one : (c : ConfigNumbers) (a : Submission) → taken_entries (verdict_at c a None) ≤ 1
alone_takes_one c a = taken_few c [] a []

-- ---- the count behind a Fetch

record Parted (trace : List Seen) (q i : ℕ) : Type 0 where
  first : Submission
  second : Submission
  there : slice_get (published_in trace q) i ≡ Some first
  behind : slice_get (published_in trace q) (suc i) ≡ Some second
  first_fuse : eqb (fuse first) 1 ≡ true
  second_fuse : eqb (fuse second) 2 ≡ true
  together : are_together trace q i ≡ true

fused_entry : (f : ℕ) (o : Option Submission) → has_fuse f o ≡ true
    → (s : Submission) × (o ≡ Some s) × (eqb (fuse s) f ≡ true)
fused_entry f None h = absurd (let z : false ≡ true = h in cc)
fused_entry f (Some s) h = (s, refl, h)

parted : (trace : List Seen) (q i : ℕ) → parts_pair trace q (suc i) ≡ true → Parted trace q i
parted trace q i h =
    let a = and_parts (has_fuse 1 (slice_get (published_in trace q) i)
    && has_fuse 2 (slice_get (published_in trace q) (suc i))) (are_together trace q i) h in
    let b = and_parts (has_fuse 1 (slice_get (published_in trace q) i))
    (has_fuse 2 (slice_get (published_in trace q) (suc i))) a.0 in
    let x = fused_entry 1 (slice_get (published_in trace q) i) b.0 in
    let y = fused_entry 2 (slice_get (published_in trace q) (suc i)) b.1 in
    record {
      first = x.0;
      second = y.0;
      there = x.1;
      behind = y.1;
      first_fuse = x.2;
      second_fuse = y.2;
      together = a.1;
    }

-- a Fetch that ends with entry i didn't find a pair there
not_parted : (c : ConfigNumbers) (past : Past) (v : Verdict) (q i n : ℕ) → FetchOf c past v q n
    → n + taken_entries v ≡ suc i → Parted (observed c past) q i → ⊥
not_parted c past v q i n f e p = elim (cases_lt (taken_entries v) 2) [
  | inl one ↦
      let at : n ≡ i = omega (arith, e, one, taken_some v) in
      let there : slice_get (published_entries past q) i ≡ Some p.first = listed i p.first p.there in
      let first : f.first ≡ p.first =
      same_some f.first p.first (slice_get (published_entries past q) i)
      (subst (λ (k : ℕ). slice_get (published_entries past q) k ≡ Some f.first) at f.there) there in
      elim f.behind [
        | inl m ↦
            let next : f.next ≡ Some p.second =
            m ∙ (ap (λ (k : ℕ). slice_get (published_entries past q) (suc k)) at ∙ listed (suc i) p.second p.behind) in
            let two : taken_entries v ≡ 2 =
            ap taken_entries (f.verdict ∙ ap₂ (verdict_at c) first next)
            ∙ matched_takes_two c p.first p.second p.first_fuse p.second_fuse in
            omega (arith, one, two)
        | inr m ↦
            let off : are_together (observed c past) q i ≡ false =
            subst (λ (k : ℕ). are_together (observed c past) q k ≡ false) at m.1 in
            let z : true ≡ false = sym p.together ∙ off in cc
      ]
  | inr two ↦
      let takes : taken_entries v ≡ 2 = omega (arith, two, taken_two v) in
      let at : suc n ≡ i = omega (arith, e, takes) in
      elim f.behind [
        | inl m ↦
            let next : f.next ≡ Some p.first =
            m ∙ (ap (slice_get (published_entries past q)) at ∙ listed i p.first p.there) in
            let same : v ≡ verdict_at c f.first (Some p.first) = f.verdict ∙ ap (verdict_at c f.first) next in
            let fuse_two : eqb (fuse p.first) 2 ≡ true =
            second_fuse (verdict_at c f.first (Some p.first)) f.first p.first p.first (sym (ap taken_entries same)
            ∙ takes)
            (verdict_is c [] f.first (p.first ∷ [])) refl in
            let z : true ≡ false = sym fuse_two ∙ one_not_two (fuse p.first) p.first_fuse in cc
        | inr m ↦
            let alone : taken_entries v ≤ 1 =
            subst (λ (w : Verdict). taken_entries w ≤ 1) (sym (f.verdict ∙ ap (verdict_at c f.first) m.0))
            (alone_takes_one c f.first) in
            omega (arith, alone, takes)
      ]
]
  where
    listed : (k : ℕ) (s : Submission) → slice_get (published_in (observed c past) q) k ≡ Some s
        → slice_get (published_entries past q) k ≡ Some s
    listed k s h = ap (λ (l : List Submission). slice_get l k) (published_seen c past q) ∙ h

-- so no beginning of a history has such a count
count_is_whole : (c : ConfigNumbers) (past later before : Past) (q n : ℕ) → past ≡ later ++ before → IsLegal c past
    → tidy_on q (observed c past) ≡ true → fetched_count before q ≡ n → parts_pair (observed c past) q n ≡ false
count_is_whole c past later before q zero is h d e = refl
count_is_whole c past later before q (suc i) is h d e =
    elim (cases_Bool (parts_pair (observed c past) q (suc i))) [
      | inr x ↦ x
      | inl x ↦
          let f = newest_fetch before q i e in
          let whole : past ≡ (later ++ f.later) ++ (Entry.Fetch f.fetch ∷ f.before) =
          is ∙ (ap (λ (p : Past). later ++ p) f.is
          ∙ sym (append_assoc later f.later (Entry.Fetch f.fetch ∷ f.before))) in
          let g = found c past (later ++ f.later) f.before f.fetch q
          (fetched_count f.before q) whole h d f.queue refl in
          absurd (not_parted c past f.fetch.verdict q i (fetched_count f.before q) g f.count (parted
          (observed c past) q i x))
    ]

pub head_is_whole : (c : ConfigNumbers) (past : Past) (n i : ℕ) (h : Head) → FitsHead c → IsLegal c past
    → tidy_on h.0.queue (observed c past) ≡ true → slice_get (heads c past n) i ≡ Some h
    → parts_pair (observed c past) h.0.queue h.1 ≡ false
head_is_whole c past n i h s l d e =
    let is = head_is c past n i h s l e in
    count_is_whole c past is.later is.before h.0.queue h.1 is.is l d is.count

-- no Fetch begins within such a pair
pub begins_whole : (c : ConfigNumbers) (past : Past) (t q j : ℕ) → IsLegal c past → tidy_on q (observed c past) ≡ true
    → 1 ≤ t → t ≤ tickets past → (Tickets.ticket past t).queue ≡ q → fetched_before past t ≡ j
    → parts_pair (observed c past) q j ≡ false
begins_whole c past t q j h d some known queue number =
    let f = fetched_at c past t h some known in
    let fq : f.fetch.queue ≡ q = ap (λ (k : Ticket). k.queue) (sym f.ticket) ∙ queue in
    count_is_whole c past (f.later ++ (Entry.Fetch f.fetch ∷ [])) f.before q j
    (f.is ∙ sym (append_assoc f.later (Entry.Fetch f.fetch ∷ []) f.before)) h d
    (ap (fetched_count f.before) (sym fq) ∙ (sym f.number ∙ number))
