-- What a driver's own Publish makes of its claims, its releases and its serials.
use Rattle.std.proofs.Common.{◌≡◌, ℕ, ◌≤◌, Bool, true, false, not, ◌&&◌, ◌||◌, List, [], ◌∷◌, ◌++◌, length, refl, sym}
use Rattle.std.proofs.Common.{ap, ◌∙◌, subst, Some, inl, inr, arith, eq-eqb, eqb, eqb-true, cond}
use Rattle.std.specs.List.{Contains, list_all, list_any}
use Rattle.std.proofs.lemmas.Bool.{and_parts, and_from}
use Rattle.std.proofs.lemmas.List.Folds.{list_any-append}
use Rattle.nvme_model.specs.Array.{has_block, zeros}
use Rattle.nvme_model.specs.Config.{completion_queue}
use Rattle.nvme_model.specs.EntryBytes.{slba, sqe_fields}
use Rattle.nvme_model.specs.History.{Past}
use Rattle.nvme_model.specs.Queues.{published_entries}
use Rattle.nvme_model.specs.Slots.{Name, Swap, disciplined, keeps_discipline, believed, in_area, is_pair_on_one}
use Rattle.nvme_model.specs.Slots.{name_of, releases, same_name, swaps, swaps_in, touches}
use Rattle.nvme_model.specs.declared.array.Range.{Range}
use Rattle.nvme_model.specs.declared.config.ConfigNumbers.{ConfigNumbers}
use Rattle.nvme_model.specs.declared.entry.Entry.{Entry}
use Rattle.nvme_model.specs.declared.entry.PublishLine.{PublishLine}
use Rattle.nvme_model.specs.declared.submission.Submission.{Submission}
use Rattle.nvme_model.proofs.Cut.{clash}
use Rattle.host_laws.specs.Batches.{pair_line, pair_on}
use Rattle.host_laws.specs.Claims.{IsWon, all_drawn, is_drawn, is_released_on}
use Rattle.host_laws.proofs.Claims.{all_from, all_in, drawn_from, drawn_parts, none_any, won_believed}
use Rattle.host_laws.proofs.Discipline.{InArea, area_has}
use Rattle.host_laws.proofs.Elements.{In, contains_in, in_any, in_contains, in_filter, in_cases}
use Rattle.host_laws.proofs.Names.{name_same}
use Rattle.host_laws.proofs.Publishing.{claim_at, claim_swaps, filter_append, no_swaps, release_at, release_keeps}
use Rattle.host_laws.proofs.Publishing.{release_swaps}

-- ---- a pair is a claim or a release

pub claim_published : (past : Past) (q : ℕ) (a b : Submission) (n : Name) → is_pair_on_one a b ≡ true
    → a.payload ≡ zeros → name_of b.payload ≡ Some n
    → Contains (swaps (pair_on q a b ∷ past))
    (claim_at q (length (published_entries past q)) (slba (sqe_fields a.entry)) n)
claim_published past q a b n p z m =
    let s = claim_at q (length (published_entries past q)) (slba (sqe_fields a.entry)) n in
    in_contains (swaps (pair_on q a b ∷ past)) s
    (subst (λ (xs : List Swap). In s (xs ++ swaps past))
    (sym (claim_swaps q (length (published_entries past q)) a b n p z m)) (inl refl))

pub release_published : (past : Past) (q : ℕ) (a b : Submission) (n : Name) → is_pair_on_one a b ≡ true
    → name_of a.payload ≡ Some n → b.payload ≡ zeros
    → Contains (swaps (pair_on q a b ∷ past))
    (release_at q (length (published_entries past q)) (slba (sqe_fields a.entry)) n)
release_published past q a b n p m z =
    let s = release_at q (length (published_entries past q)) (slba (sqe_fields a.entry)) n in
    in_contains (swaps (pair_on q a b ∷ past)) s
    (subst (λ (xs : List Swap). In s (xs ++ swaps past))
    (sym (release_swaps q (length (published_entries past q)) a b n p m z)) (inl refl))

-- ---- a release of a claim that was won

pub won_releases : (c : ConfigNumbers) (slots : Range) (past : Past) (q : ℕ) (a b : Submission) (k : Swap)
    → disciplined c slots past ≡ true → has_block slots k.lba ≡ true → IsWon c past k
    → is_released_on c past (completion_queue c k.queue) k.lba k.name ≡ false
    → completion_queue c q ≡ completion_queue c k.queue
    → is_pair_on_one a b ≡ true → slba (sqe_fields a.entry) ≡ k.lba → name_of a.payload ≡ Some k.name
    → b.payload ≡ zeros
    → keeps_discipline c slots past (pair_line q a b) ≡ true
won_releases c slots past q a b k d v w u e p l m z =
    let area : InArea slots (slba (sqe_fields a.entry)) = area_has slots _ (ap (has_block slots) l ∙ v) in
    let believes : believed c past (slba (sqe_fields a.entry)) k.name ≡ true =
    ap (λ (n : ℕ). believed c past n k.name) l ∙ won_believed c slots past k d v w u in
    release_keeps c slots past q a b k.name p m z area believes
    (in_any (λ s. s.claims && eqb s.lba (slba (sqe_fields a.entry)) && same_name s.name k.name
    && eqb (completion_queue c s.queue) (completion_queue c q)) (swaps past) k
    (contains_in (swaps past) k w.published)
    (and_from _ _ (and_from _ _ (and_from _ _ w.claims (eq-eqb _ _ (sym l))) (name_same k.name k.name refl))
    (eq-eqb _ _ (sym e))))

-- ---- what is released

released_more : (c : ConfigNumbers) (past : Past) (p : PublishLine) (q l : ℕ) (n : Name)
    → list_any (λ r. releases r l n && eqb (completion_queue c r.queue) q)
    (swaps_in p.queue (length (published_entries past p.queue)) p.batch) ≡ false
    → is_released_on c (Entry.Publish p ∷ past) q l n ≡ is_released_on c past q l n
released_more c past p q l n h =
    list_any-append (λ r. releases r l n && eqb (completion_queue c r.queue) q)
    (swaps_in p.queue (length (published_entries past p.queue)) p.batch) (swaps past)
    ∙ ap (λ (b : Bool). b || is_released_on c past q l n) h

pub released_claim : (c : ConfigNumbers) (past : Past) (q : ℕ) (a b : Submission) (m : Name) (r l : ℕ) (n : Name)
    → is_pair_on_one a b ≡ true → a.payload ≡ zeros → name_of b.payload ≡ Some m
    → is_released_on c (pair_on q a b ∷ past) r l n ≡ is_released_on c past r l n
released_claim c past q a b m r l n p z e =
    released_more c past (pair_line q a b) r l n
    (ap (list_any (λ s. releases s l n && eqb (completion_queue c s.queue) r))
    (claim_swaps q (length (published_entries past q)) a b m p z e))

other_release : (l i : ℕ) (m n : Name) (x : Bool) → (eqb l i && same_name m n) ≡ false
    → ((true && eqb l i && same_name m n && x) || false) ≡ false
other_release l i m n x h = go (eqb l i) (same_name m n) x h
  where
    go : (a b x : Bool) → (a && b) ≡ false → ((true && a && b && x) || false) ≡ false
    go false b x h = refl
    go true false x h = refl
    go true true x h = clash true refl h

pub released_other : (c : ConfigNumbers) (past : Past) (q : ℕ) (a b : Submission) (m : Name) (r l : ℕ) (n : Name)
    → is_pair_on_one a b ≡ true → name_of a.payload ≡ Some m → b.payload ≡ zeros
    → (eqb (slba (sqe_fields a.entry)) l && same_name m n) ≡ false
    → is_released_on c (pair_on q a b ∷ past) r l n ≡ is_released_on c past r l n
released_other c past q a b m r l n p e z o =
    released_more c past (pair_line q a b) r l n
    (ap (list_any (λ s. releases s l n && eqb (completion_queue c s.queue) r))
    (release_swaps q (length (published_entries past q)) a b m p e z)
    ∙ other_release (slba (sqe_fields a.entry)) l m n (eqb (completion_queue c q) r) o)

pub released_none : (c : ConfigNumbers) (slots : Range) (past : Past) (p : PublishLine) (q l : ℕ) (n : Name)
    → has_block slots l ≡ true → list_any (touches slots) p.batch ≡ false
    → is_released_on c (Entry.Publish p ∷ past) q l n ≡ is_released_on c past q l n
released_none c slots past p q l n v h =
    released_more c past p q l n (none_any (λ r. releases r l n && eqb (completion_queue c r.queue) q) of (λ r i e.
    let a = and_parts (releases r l n) (eqb (completion_queue c r.queue) q) e in
    let b = and_parts (not r.claims && eqb r.lba l) (same_name r.name n) a.0 in
    let d = and_parts (not r.claims) (eqb r.lba l) b.0 in
    let there = in_filter (λ s. has_block slots s.lba) of r i (ap (has_block slots) (eqb-true r.lba l d.1) ∙ v) in
    subst (λ (xs : List Swap). In r xs) (no_swaps slots p.queue (length (published_entries past p.queue)) p.batch h)
    there))
  where
    of : List Swap
    of = swaps_in p.queue (length (published_entries past p.queue)) p.batch

-- ---- which serials were drawn

drawn_more : (slots : Range) (past : Past) (p : PublishLine) (host last next : ℕ)
    → all_drawn slots past host last ≡ true → last ≤ next
    → list_all (is_drawn host next) (in_area slots (swaps_in p.queue (length (published_entries past p.queue)) p.batch))
    ≡ true → all_drawn slots (Entry.Publish p ∷ past) host next ≡ true
drawn_more slots past p host last next h l n =
    let of = swaps_in p.queue (length (published_entries past p.queue)) p.batch in
    ap (list_all (is_drawn host next)) (filter_append (λ s. has_block slots s.lba) of (swaps past))
    ∙ all_from (is_drawn host next) (in_area slots of ++ in_area slots (swaps past))
    (λ w i. elim (in_cases w (in_area slots of) (in_area slots (swaps past)) i) [
      | inl j ↦ all_in (is_drawn host next) (in_area slots of) w n j
      | inr j ↦ drawn_from host next w
          (λ a e. let low = drawn_parts host last w (all_in (is_drawn host last) (in_area slots (swaps past)) w h j) a
          e in omega (arith, low, l))
    ])

one_drawn : (slots : Range) (host next : ℕ) (s : Swap) (of : List Swap) → of ≡ s ∷ [] → is_drawn host next s ≡ true
    → list_all (is_drawn host next) (in_area slots of) ≡ true
one_drawn slots host next s of e d = ap (λ (xs : List Swap). list_all (is_drawn host next) (in_area slots xs)) e
    ∙ go (has_block slots s.lba)
  where
    go : (b : Bool) → list_all (is_drawn host next) (cond b (s ∷ []) []) ≡ true
    go true = and_from _ _ d refl
    go false = refl

pub drawn_claim : (slots : Range) (past : Past) (q : ℕ) (a b : Submission) (n : Name) (last : ℕ)
    → is_pair_on_one a b ≡ true → a.payload ≡ zeros → name_of b.payload ≡ Some n
    → all_drawn slots past n.host last ≡ true → last ≤ n.serial
    → all_drawn slots (pair_on q a b ∷ past) n.host n.serial ≡ true
drawn_claim slots past q a b n last p z m h l =
    let s = claim_at q (length (published_entries past q)) (slba (sqe_fields a.entry)) n in
    drawn_more slots past (pair_line q a b) n.host last n.serial h l
    (one_drawn slots n.host n.serial s _ (claim_swaps q (length (published_entries past q)) a b n p z m)
    (drawn_from n.host n.serial s (λ x e. omega arith)))

pub drawn_release : (slots : Range) (past : Past) (q : ℕ) (a b : Submission) (n : Name) (host last : ℕ)
    → is_pair_on_one a b ≡ true → name_of a.payload ≡ Some n → b.payload ≡ zeros
    → all_drawn slots past host last ≡ true → all_drawn slots (pair_on q a b ∷ past) host last ≡ true
drawn_release slots past q a b n host last p m z h =
    let s = release_at q (length (published_entries past q)) (slba (sqe_fields a.entry)) n in
    drawn_more slots past (pair_line q a b) host last last h (omega arith)
    (one_drawn slots host last s _ (release_swaps q (length (published_entries past q)) a b n p m z)
    (drawn_from host last s (λ x e. clash false x refl)))

pub drawn_none : (slots : Range) (past : Past) (p : PublishLine) (host last : ℕ)
    → list_any (touches slots) p.batch ≡ false → all_drawn slots past host last ≡ true
    → all_drawn slots (Entry.Publish p ∷ past) host last ≡ true
drawn_none slots past p host last n h =
    drawn_more slots past p host last last h (omega arith)
    (ap (list_all (is_drawn host last))
    (no_swaps slots p.queue (length (published_entries past p.queue)) p.batch n))
