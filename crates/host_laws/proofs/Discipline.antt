-- What a Publish that keeps the discipline of the slot area has.
use Rattle.std.proofs.Common.{◌≡◌, ℕ, zero, suc, ◌+◌, ◌≤◌, ◌<◌, Bool, true, false, not, ◌||◌, cond, List, [], ◌∷◌, ◌++◌}
use Rattle.std.proofs.Common.{length, refl, sym, ap, ◌∙◌, subst, Some, None, inl, inr, arith, eqb, eqb-true, nat_le}
use Rattle.std.proofs.Common.{nat_lt, lt-ltb, ltb-true, slice_get, le-leb, leb-true}
use Rattle.std.specs.List.{list_any}
use Rattle.std.proofs.lemmas.Bool.{and_parts, and_from, or_parts, or_cases}
use Rattle.nvme_model.specs.declared.config.ConfigNumbers.{ConfigNumbers}
use Rattle.nvme_model.specs.History.{Past}
use Rattle.nvme_model.specs.Queues.{published_entries}
use Rattle.nvme_model.specs.Array.{has_block}
use Rattle.nvme_model.specs.Slots.{Name, Swap, swaps_in, swaps, touches, only_swaps, disciplined, keeps_discipline}
use Rattle.nvme_model.specs.Slots.{fresh_names, released_right, in_area, releases}
use Rattle.nvme_model.specs.declared.array.Range.{Range}
use Rattle.nvme_model.specs.declared.submission.Submission.{Submission}
use Rattle.nvme_model.specs.declared.entry.PublishLine.{PublishLine}
use Rattle.nvme_model.specs.declared.entry.Entry.{Entry}
use Rattle.std.proofs.lemmas.List.Folds.{list_any-append}
use Rattle.host_laws.proofs.Elements.{In, get_cases, same_some, any_in, in_left, in_right, of_filter, each_in}
use Rattle.host_laws.proofs.SwapEntries.{OnQueue, swaps_in_are, publish_stands}

-- block l lies in the slot area
pub record InArea (slots : Range) (l : ℕ) : Type 0 where
  pub from : slots.slba ≤ l
  pub to : l < slots.slba + slots.blocks

pub has_area : (slots : Range) (l : ℕ) → InArea slots l → has_block slots l ≡ true
has_area slots l a = and_from _ _ (le-leb slots.slba l a.from) (lt-ltb l (slots.slba + slots.blocks) a.to)

pub area_has : (slots : Range) (l : ℕ) → has_block slots l ≡ true → InArea slots l
area_has slots l h =
    let a = and_parts (nat_le slots.slba l) (nat_lt l (slots.slba + slots.blocks)) h in
    record { from = leb-true slots.slba l a.0; to = ltb-true l (slots.slba + slots.blocks) a.1 }

-- what a Publish that keeps the discipline has, where those before it do
pub record Keeps (c : ConfigNumbers) (slots : Range) (past : Past) (p : PublishLine) : Type 0 where
  pub before : disciplined c slots past ≡ true
  pub only : only_swaps slots p.queue (length (published_entries past p.queue)) p.batch
      (in_area slots (swaps_in p.queue (length (published_entries past p.queue)) p.batch)) ≡ true
  pub fresh : fresh_names (in_area slots (swaps_in p.queue (length (published_entries past p.queue)) p.batch))
      (in_area slots (swaps past)) ≡ true
  pub right : released_right c past []
      (in_area slots (swaps_in p.queue (length (published_entries past p.queue)) p.batch)) ≡ true

pub kept : (c : ConfigNumbers) (slots : Range) (past : Past) (p : PublishLine)
    → disciplined c slots (Entry.Publish p ∷ past) ≡ true → Keeps c slots past p
kept c slots past p h =
    let a = and_parts (disciplined c slots past) (keeps_discipline c slots past p) h in
    let b = and_parts _ _ a.1 in
    let d = and_parts _ _ b.0 in
    record { before = a.0; only = d.0; fresh = d.1; right = b.1 }

pub kept_before : (c : ConfigNumbers) (slots : Range) (e : Entry) (past : Past) → disciplined c slots (e ∷ past) ≡ true
    → disciplined c slots past ≡ true
kept_before c slots (Entry.Publish p) past h = (kept c slots past p h).before
kept_before c slots (Entry.Fetch p) past h = h
kept_before c slots (Entry.Grant p) past h = h
kept_before c slots (Entry.Block p) past h = h
kept_before c slots (Entry.Post p) past h = h
kept_before c slots (Entry.Reap p) past h = h

pub kept_earlier : (c : ConfigNumbers) (slots : Range) (later past : Past) → disciplined c slots (later ++ past) ≡ true
    → disciplined c slots past ≡ true
kept_earlier c slots [] past h = h
kept_earlier c slots (e ∷ later) past h = kept_earlier c slots later past (kept_before c slots e (later ++ past) h)

pub only_at : (slots : Range) (q j : ℕ) (batch : List Submission) (of : List Swap) (m : ℕ) (s : Submission)
    → only_swaps slots q j batch of ≡ true → slice_get batch m ≡ Some s → touches slots s ≡ true
    → list_any (λ w. eqb (suc w.number) (j + m)) of ≡ true
only_at slots q j [] of m s h g t = absurd (let f : None ≡ Some s = g in cc)
only_at slots q j (x ∷ batch) of zero s h g t =
    let a = (and_parts (not (touches slots x) || list_any (λ w. eqb (suc w.number) j) of) _ h).0 in
    let e : x ≡ s = same_some x s (Some x) refl g in
    let f = subst (λ (y : Submission). (not (touches slots y) || list_any (λ w. eqb (suc w.number) j) of) ≡ true) e a in
    elim (or_cases (not (touches slots s)) (list_any (λ w. eqb (suc w.number) j) of) f) [
      | inl n ↦ absurd (let y = ap not t in let z = sym n ∙ y in cc)
      | inr y ↦ subst (λ (i : ℕ). list_any (λ w. eqb (suc w.number) i) of ≡ true) (omega arith) y
    ]
only_at slots q j (x ∷ batch) of (suc m) s h g t =
    let a = (and_parts (not (touches slots x) || list_any (λ w. eqb (suc w.number) j) of) _ h).1 in
    subst (λ (i : ℕ). list_any (λ w. eqb (suc w.number) i) of ≡ true) (omega arith)
    (only_at slots q (suc j) batch of m s a g t)

pub record SwapAt (past : Past) (q i : ℕ) : Type 0 where
  pub swap : Swap
  pub there : In swap (swaps past)
  pub queue : swap.queue ≡ q
  pub number : suc swap.number ≡ i

pub swapped_by : (c : ConfigNumbers) (slots : Range) (past : Past) (q i : ℕ) (s : Submission)
    → disciplined c slots past ≡ true → slice_get (published_entries past q) i ≡ Some s → touches slots s ≡ true
    → SwapAt past q i
swapped_by c slots [] q i s d g t = absurd (let f : None ≡ Some s = g in cc)
swapped_by c slots (Entry.Publish p ∷ past) q i s d g t =
    let k = kept c slots past p d in
    elim (get_cases (published_entries past q) (cond (eqb p.queue q) p.batch []) i s g) [
      | inl e ↦ old (swapped_by c slots past q i s k.before e t)
      | inr m ↦ new k (eqb p.queue q) refl m.0 m.1 m.2
    ]
  where
    old : SwapAt past q i → SwapAt (Entry.Publish p ∷ past) q i
    old w = record { swap = w.swap; there = in_right w.swap _ (swaps past) w.there; queue = w.queue; number = w.number }

    new : Keeps c slots past p → (b : Bool) → eqb p.queue q ≡ b → (m : ℕ) → i ≡ length (published_entries past q) + m
        → slice_get (cond b p.batch []) m ≡ Some s → SwapAt (Entry.Publish p ∷ past) q i
    new k false e m l h = absurd (let f : None ≡ Some s = h in cc)
    new k true e m l h =
        let same = eqb-true p.queue q e in
        let j = length (published_entries past p.queue) in
        let w = any_in (λ w. eqb (suc w.number) (j + m)) (in_area slots (swaps_in p.queue j p.batch))
        (only_at slots p.queue j p.batch (in_area slots (swaps_in p.queue j p.batch)) m s k.only h t) in
        let there = of_filter (λ s. has_block slots s.lba) (swaps_in p.queue j p.batch) w.0 w.1 in
        let on = each_in (OnQueue (published_entries (Entry.Publish p ∷ past) p.queue) p.queue)
        (swaps_in p.queue j p.batch) w.0
        (swaps_in_are (published_entries (Entry.Publish p ∷ past) p.queue) p.queue j p.batch (publish_stands past p))
        there in
        record {
          swap = w.0;
          there = in_left w.0 (swaps_in p.queue j p.batch) (swaps past) there;
          queue = on.0 ∙ same;
          number = eqb-true (suc w.0.number) (j + m) w.2
              ∙ (ap (λ (x : ℕ). length (published_entries past x) + m) same ∙ sym l);
        }
swapped_by c slots (Entry.Fetch p ∷ past) q i s d g t = let w = swapped_by c slots past q i s d g t in
    record { swap = w.swap; there = w.there; queue = w.queue; number = w.number }
swapped_by c slots (Entry.Grant p ∷ past) q i s d g t = let w = swapped_by c slots past q i s d g t in
    record { swap = w.swap; there = w.there; queue = w.queue; number = w.number }
swapped_by c slots (Entry.Block p ∷ past) q i s d g t = let w = swapped_by c slots past q i s d g t in
    record { swap = w.swap; there = w.there; queue = w.queue; number = w.number }
swapped_by c slots (Entry.Post p ∷ past) q i s d g t = let w = swapped_by c slots past q i s d g t in
    record { swap = w.swap; there = w.there; queue = w.queue; number = w.number }
swapped_by c slots (Entry.Reap p ∷ past) q i s d g t = let w = swapped_by c slots past q i s d g t in
    record { swap = w.swap; there = w.there; queue = w.queue; number = w.number }

-- ---- releases

-- a release of the name from the slot at block l was published
abbrev pub released : Past → ℕ → Name → Bool
released past l n = list_any (λ s. releases s l n) (swaps past)

pub released_before : (e : Entry) (past : Past) (l : ℕ) (n : Name) → released (e ∷ past) l n ≡ false
    → released past l n ≡ false
released_before (Entry.Publish p) past l n h =
    (or_parts _ _ (sym (list_any-append (λ s. releases s l n)
    (swaps_in p.queue (length (published_entries past p.queue)) p.batch) (swaps past)) ∙ h)).1
released_before (Entry.Fetch p) past l n h = h
released_before (Entry.Grant p) past l n h = h
released_before (Entry.Block p) past l n h = h
released_before (Entry.Post p) past l n h = h
released_before (Entry.Reap p) past l n h = h

pub swaps_later : (later past : Past) (s : Swap) → In s (swaps past) → In s (swaps (later ++ past))
swaps_later [] past s h = h
swaps_later (Entry.Publish p ∷ later) past s h = in_right s _ (swaps (later ++ past)) (swaps_later later past s h)
swaps_later (Entry.Fetch p ∷ later) past s h = swaps_later later past s h
swaps_later (Entry.Grant p ∷ later) past s h = swaps_later later past s h
swaps_later (Entry.Block p ∷ later) past s h = swaps_later later past s h
swaps_later (Entry.Post p ∷ later) past s h = swaps_later later past s h
swaps_later (Entry.Reap p ∷ later) past s h = swaps_later later past s h
