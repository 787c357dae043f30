-- A Publish that breaks no rule: what is kept is that of the history with it.
use Rattle.std.proofs.Common.{◌≡◌, ℕ, suc, ◌≤◌, Bool, true, false, cond, List, [], ◌∷◌, ◌++◌, length}
use Rattle.std.proofs.Common.{map, refl, sym, ap, ap₂, ◌∙◌, arith, subst, None, Some, Option, is_none, is_some}
use Rattle.std.specs.List.{filter}
use Rattle.std.proofs.lemmas.Bool.{and_from}
use Rattle.std.proofs.lemmas.List.Elements.{filter-append}
use Rattle.host_laws.proofs.Book.{new_unreaped}
use Rattle.host_laws.proofs.Successes.{success_reaped}
use Rattle.nvme_model.specs.Array.{has_block, zeros}
use Rattle.nvme_model.specs.Config.{completion_queue}
use Rattle.nvme_model.specs.EntryBytes.{slba, sqe_fields}
use Rattle.std.specs.Str.{bytes_eq}
use Rattle.nvme_model.specs.History.{Past}
use Rattle.nvme_model.specs.Legal.{IsLegal}
use Rattle.nvme_model.specs.Queues.{published_entries}
use Rattle.nvme_model.specs.Slots.{Name, Swap, fresh_names, in_area, is_pair_on_one, name_of, reaped_success, swap_by}
use Rattle.nvme_model.specs.Slots.{swap_of, swaps, swaps_in}
use Rattle.nvme_model.specs.declared.array.Range.{Range}
use Rattle.nvme_model.specs.declared.config.ConfigNumbers.{ConfigNumbers}
use Rattle.nvme_model.specs.declared.entry.Entry.{Entry}
use Rattle.nvme_model.specs.declared.entry.PublishLine.{PublishLine}
use Rattle.nvme_model.specs.declared.submission.Submission.{Submission}
use Rattle.host_laws.specs.Rules.{keeps_takeover_discipline, takeover_disciplined, takeovers_within}
use Rattle.host_laws.specs.Takeovers.{Takeover, giving, moves, moves_in, takeovers}
use Rattle.host_laws.specs.Takeovers.{takeovers_in}
use Rattle.host_laws.proofs.TakeoverPublishing.{given_within}
use Rattle.slot_check.specs.Batch.{claimed_twice_in, fresh_in, release_broken_in, takeover_broken_in}
use Rattle.slot_check.specs.Broken.{claimed_twice, cut_off_at, publish_broken, release_broken, slots_broken_by}
use Rattle.slot_check.specs.Broken.{takeover_broken, write_alone}
use Rattle.slot_check.specs.Names.{AreUnwon, KeptNames, KnowsNames}
use Rattle.slot_check.specs.Progress.{KnowsProgress}
use Rattle.slot_check.specs.Takeovers.{KeptTakeovers, begins_at, begun_by, cut_by, cuts_in}
use Rattle.slot_check.specs.Watched.{IsSlotCheckState, SlotCheckState}
use Rattle.slot_check.specs.declared.broken.BrokenDiscipline.{BrokenDiscipline}
use Rattle.slot_check.specs.declared.broken.BrokenDiscipline.TheVariants.{ClaimedTwice, NoSwap}
use Rattle.slot_check.proofs.Cutting.{publish_knows}
use Rattle.slot_check.proofs.Judging.{judged_is, keeps_is, twice_none}
use Rattle.slot_check.proofs.Knowing.{fresh_is, regrouped, unchanged}
use Rattle.slot_check.proofs.NewTakeovers.{IsNewOn, new_takeovers}

-- ---- entries that are new

abbrev NewOn : ℕ → ℕ → List Swap → Type 0
NewOn q j [] = Unit {0}
NewOn q j (s ∷ xs) = ((s.queue ≡ q) × (j ≤ s.number)) × NewOn q j xs

new_append : (q j : ℕ) (xs ys : List Swap) → NewOn q j xs → NewOn q j ys → NewOn q j (xs ++ ys)
new_append q j [] ys a b = b
new_append q j (x ∷ xs) ys a b = (a.0, new_append q j xs ys a.1 b)

new_swap : (q j n : ℕ) (a b : Submission) → j ≤ n → NewOn q j (swap_of q n a b)
new_swap q j n a b l = pick (is_pair_on_one a b) _
    (new_append q j (cond (bytes_eq a.payload zeros) (swap_by true q n (slba (sqe_fields a.entry))
    (name_of b.payload)) [])
    (cond (bytes_eq b.payload zeros) (swap_by false q n (slba (sqe_fields a.entry)) (name_of a.payload)) [])
    (pick (bytes_eq a.payload zeros) _ (by true (slba (sqe_fields a.entry)) (name_of b.payload)))
    (pick (bytes_eq b.payload zeros) _ (by false (slba (sqe_fields a.entry)) (name_of a.payload))))
  where
    pick : (x : Bool) (xs : List Swap) → NewOn q j xs → NewOn q j (cond x xs [])
    pick true xs h = h
    pick false xs h = tt

    by : (claims : Bool) (m : ℕ) (o : Option Name) → NewOn q j (swap_by claims q n m o)
    by claims m None = tt
    by claims m (Some name) = ((refl, l), tt)

new_swaps : (q j n : ℕ) (batch : List Submission) → j ≤ n → NewOn q j (swaps_in q n batch)
new_swaps q j n [] l = tt
new_swaps q j n (a ∷ []) l = tt
new_swaps q j n (a ∷ b ∷ rest) l =
    new_append q j (swap_of q n a b) (swaps_in q (suc n) (b ∷ rest)) (new_swap q j n a b l)
    (new_swaps q j (suc n) (b ∷ rest) (omega (arith, l)))

new_givings : (q j : ℕ) (ws : List Takeover) → IsNewOn q j ws → NewOn q j (map giving ws)
new_givings q j [] h = tt
new_givings q j (w ∷ ws) h = (h.0, new_givings q j ws h.1)

new_moves : (q j n : ℕ) (batch : List Submission) → j ≤ n → NewOn q j (moves_in q n batch)
new_moves q j n batch l =
    new_append q j (swaps_in q n batch) (map giving (takeovers_in q n batch)) (new_swaps q j n batch l)
    (new_givings q j (takeovers_in q n batch) (new_takeovers q j n batch l))

new_filter : (q j : ℕ) (p : Swap → Bool) (xs : List Swap) → NewOn q j xs → NewOn q j (filter p xs)
new_filter q j p [] h = tt
new_filter q j p (x ∷ xs) h = go (p x) (new_filter q j p xs h.1)
  where
    go : (b : Bool) → NewOn q j (filter p xs) → NewOn q j (cond b (x ∷ filter p xs) (filter p xs))
    go true ih = (h.0, ih)
    go false ih = ih

new_unwon : (c : ConfigNumbers) (past : Past) (q : ℕ) (xs : List Swap) → IsLegal c past
    → NewOn q (length (published_entries past q)) xs → AreUnwon (reaped_success c past) xs
new_unwon c past q [] h n = tt
new_unwon c past q (s ∷ xs) h n = (go (reaped_success c past s.queue (suc s.number)) refl, new_unwon c past q xs h n.1)
  where
    go : (b : Bool) → reaped_success c past s.queue (suc s.number) ≡ b → b ≡ false
    go false e = refl
    go true e =
        let x = success_reaped c past s.queue (suc s.number) h e in
        let none = new_unreaped c past s.queue (suc s.number) h
        (subst (λ (z : ℕ). length (published_entries past z) ≤ suc s.number) (sym n.0.0) (omega (arith, n.0.1))) in
        absurd (let clash : None ≡ Some x.post = sym none ∙ x.reaped in cc)

pub unwon : (c : ConfigNumbers) (slots : Range) (past : Past) (p : PublishLine) (first : ℕ) (of : List Swap)
    → IsLegal c past → first ≡ length (published_entries past p.queue)
    → of ≡ in_area slots (moves_in p.queue first p.batch) → AreUnwon (reaped_success c past) of
unwon c slots past p first of h e f =
    new_unwon c past p.queue of h (subst (λ (xs : List Swap). NewOn p.queue (length
    (published_entries past p.queue)) xs)
    (sym f) (new_filter p.queue (length (published_entries past p.queue)) (λ s. has_block slots s.lba)
    (moves_in p.queue first p.batch)
    (new_moves p.queue (length (published_entries past p.queue)) first p.batch (omega (arith, e)))))

-- nothing is broken, so the names are fresh
fresh_where : (w t : Option ℕ) (o u : Option BrokenDiscipline) (d : Option ℕ) → slots_broken_by w t o u d ≡ None
    → is_none t ≡ true
fresh_where w None o u d e = refl
fresh_where None (Some l) o u d e = absurd (let f : Some (ClaimedTwice l) ≡ None = e in cc)
fresh_where (Some m) (Some l) o u d e = absurd (let f : Some (NoSwap m) ≡ None = e in cc)

map-append : (f : Takeover → Swap) (xs ys : List Takeover) → map f (xs ++ ys) ≡ map f xs ++ map f ys
map-append f [] ys = refl
map-append f (x ∷ xs) ys = ap (λ (zs : List Swap). f x ∷ zs) (map-append f xs ys)

begun_from : (ws : List Takeover) {vs : List Takeover} → vs ≡ ws → (q j : ℕ) (a b : ℕ → ℕ → Option Takeover)
    → ((q j : ℕ) → a q j ≡ b q j) → begun_by ws a q j ≡ begun_by vs b q j
begun_from ws e q j a b h = go ws ∙ ap (λ (xs : List Takeover). begun_by xs b q j) (sym e)
  where
    go : (xs : List Takeover) → begun_by xs a q j ≡ begun_by xs b q j
    go [] = h q j
    go (x ∷ xs) = ap (λ (o : Option Takeover). cond (begins_at q j x) (Some x) o) (go xs)

cut_from : (c : ConfigNumbers) (names : KeptNames) (ws : List Takeover) {vs : List Takeover} → vs ≡ ws → (q : ℕ)
    (a b : ℕ → Option ℕ) → ((q : ℕ) → a q ≡ b q) → cut_by c names ws a q ≡ cut_by c names vs b q
cut_from c names ws e q a b h = go ws ∙ ap (λ (xs : List Takeover). cut_by c names xs b q) (sym e)
  where
    go : (xs : List Takeover) → cut_by c names xs a q ≡ cut_by c names xs b q
    go [] = h q
    go (x ∷ xs) = ap (λ (o : Option ℕ). cond (cuts_in c names q x) (Some x.lba) o) (go xs)

-- the lists that the code has of a batch are those of the definitions
pub record BatchIs (slots : Range) (q first : ℕ) (batch : List Submission) (of : List Swap) (ws : List Takeover)
    : Type 0 where
  pub moves : of ≡ in_area slots (swaps_in q first batch) ++ map giving ws
  pub takeovers : ws ≡ takeovers_within slots (takeovers_in q first batch)

all_moves : (slots : Range) (q first : ℕ) (batch : List Submission) (of : List Swap) (ws : List Takeover)
    → BatchIs slots q first batch of ws → of ≡ in_area slots (moves_in q first batch)
all_moves slots q first batch of ws b =
    b.moves ∙ ap (λ (xs : List Takeover). in_area slots (swaps_in q first batch) ++ map giving xs) b.takeovers
    ∙ ap (λ (xs : List Swap). in_area slots (swaps_in q first batch) ++ xs)
    (sym (given_within slots (takeovers_in q first batch)))
    ∙ sym (filter-append (λ s. has_block slots s.lba) (swaps_in q first batch)
    (map giving (takeovers_in q first batch)))

pub whole_is : (c : ConfigNumbers) (slots : Range) (past : Past) (p : PublishLine) (k : SlotCheckState) (first : ℕ)
    (batch : List Submission) (of : List Swap) (ws : List Takeover) (o : Option BrokenDiscipline)
    → IsSlotCheckState c slots past k
    → first ≡ k.progress.published p.queue → batch ≡ p.batch → BatchIs slots p.queue first batch of ws
    → o ≡ slots_broken_by (write_alone slots p.queue first batch of) (claimed_twice_in k.names of)
    (release_broken_in c k.names k.takeovers.taken [] of) (takeover_broken_in c k.names ws)
    (k.takeovers.cut (completion_queue c p.queue))
    → o ≡ publish_broken c slots past p
whole_is c slots past p k first batch of ws o h e b f g =
    g ∙ (λ i. slots_broken_by (write_alone slots p.queue first (b i) of) (claimed_twice_in k.names of)
    (release_broken_in c k.names k.takeovers.taken [] of) (takeover_broken_in c k.names ws)
    (k.takeovers.cut (completion_queue c p.queue)))
    ∙ judged_is c slots past k.names h.names p first of ws k.takeovers h.takeovers
    (e ∙ h.progress.published p.queue)
    (all_moves slots p.queue first batch of ws f
    ∙ ap (λ (xs : List Submission). in_area slots (moves_in p.queue first xs)) b)
    (f.takeovers ∙ ap (λ (xs : List Submission). takeovers_within slots (takeovers_in p.queue first xs)) b)

pub none_where : (o : Option BrokenDiscipline) → false ≡ is_some o → o ≡ None
none_where None e = refl
none_where (Some b) e = absurd cc

-- what is kept of the names and the takeovers, once room was made, and once the batch was added
pub record Added (c : ConfigNumbers) (k m : SlotCheckState) (names : KeptNames) (takeovers : KeptTakeovers)
    (of : List Swap) (ws : List Takeover) : Type 0 where
  pub claim : (n : Name) → names.claim n ≡ k.names.claim n
  pub won : (q j : ℕ) → names.won q j ≡ k.names.won q j
  pub released : (l : ℕ) (n : Name) → names.released l n ≡ k.names.released l n
  pub begun : (q j : ℕ) → takeovers.begun q j ≡ k.takeovers.begun q j
  pub taken : (l : ℕ) (n : Name) → takeovers.taken l n ≡ k.takeovers.taken l n
  pub cut : (q : ℕ) → takeovers.cut q ≡ k.takeovers.cut q
  pub new_begun : (q j : ℕ) → m.takeovers.begun q j ≡ begun_by ws takeovers.begun q j
  pub new_taken : (l : ℕ) (n : Name) → m.takeovers.taken l n ≡ takeovers.taken l n
  pub new_cut : (q : ℕ) → m.takeovers.cut q ≡ cut_by c names ws takeovers.cut q
  pub knows : (r : ℕ → ℕ → Bool) (xs : List Swap) → KnowsNames r xs names → fresh_in names of ≡ true → AreUnwon r of
      → KnowsNames r (of ++ xs) m.names

pub publish_keeps : (c : ConfigNumbers) (slots : Range) (past : Past) (p : PublishLine) (k m : SlotCheckState)
    (names : KeptNames) (kept : KeptTakeovers) (first : ℕ) (batch : List Submission) (of : List Swap)
    (ws : List Takeover) → IsSlotCheckState c slots past k
    → IsLegal c (Entry.Publish p ∷ past) → first ≡ k.progress.published p.queue → batch ≡ p.batch
    → BatchIs slots p.queue first batch of ws → publish_broken c slots past p ≡ None
    → KnowsProgress c (Entry.Publish p ∷ past) m.progress → Added c k m names kept of ws
    → IsSlotCheckState c slots (Entry.Publish p ∷ past) m
publish_keeps c slots past p k m names kept first batch of ws h legal e b f none prog adds =
    let r = reaped_success c past in
    let before = in_area slots (moves past) in
    let j = length (published_entries past p.queue) in
    let all = in_area slots (moves_in p.queue j p.batch) in
    let these = takeovers_within slots (takeovers_in p.queue j p.batch) in
    let count : first ≡ j = e ∙ h.progress.published p.queue in
    let here : of ≡ in_area slots (moves_in p.queue first p.batch) =
    all_moves slots p.queue first batch of ws f
    ∙ ap (λ (xs : List Submission). in_area slots (moves_in p.queue first xs)) b in
    let same : of ≡ all = here ∙ ap (λ (n : ℕ). in_area slots (moves_in p.queue n p.batch)) count in
    let same_ws : ws ≡ these =
    f.takeovers ∙ ap (λ (xs : List Submission). takeovers_within slots (takeovers_in p.queue first xs)) b
    ∙ ap (λ (n : ℕ). takeovers_within slots (takeovers_in p.queue n p.batch)) count in
    let kr : KnowsNames r before names = unchanged r before k.names names adds.claim adds.won adds.released h.names in
    let fresh : fresh_names all before ≡ true =
    sym (twice_none all before)
    ∙ fresh_where (write_alone slots p.queue j p.batch all) (claimed_twice all before) (release_broken c past [] all)
    (takeover_broken c past these) (cut_off_at c slots past (completion_queue c p.queue)) none in
    let is_fresh : fresh_in names of ≡ true =
    fresh_is r before names of kr ∙ ap (λ (xs : List Swap). fresh_names xs before) same ∙ fresh in
    let added : KnowsNames r (of ++ before) m.names =
    adds.knows r before kr is_fresh (unwon c slots past p first of h.legal count here) in
    let new = swaps_in p.queue j p.batch in
    let given = map giving (takeovers_in p.queue j p.batch) in
    let old = map giving (takeovers past) in
    let grouped : KnowsNames r ((in_area slots new ++ in_area slots given)
    ++ (in_area slots (swaps past) ++ in_area slots old)) m.names =
    subst (λ (xs : List Swap). KnowsNames r xs m.names)
    (ap₂ (λ (xs ys : List Swap). xs ++ ys) (same ∙ filter-append (λ s. has_block slots s.lba) new given)
    (filter-append (λ s. has_block slots s.lba) (swaps past) old)) added in
    let whole : (in_area slots new ++ in_area slots (swaps past)) ++ (in_area slots given ++ in_area slots old)
    ≡ in_area slots (moves (Entry.Publish p ∷ past)) =
    sym (filter-append (λ s. has_block slots s.lba) (new ++ swaps past)
    (map giving (takeovers_in p.queue j p.batch ++ takeovers past))
    ∙ ap₂ (λ (xs ys : List Swap). xs ++ ys) (filter-append (λ s. has_block slots s.lba) new (swaps past))
    (ap (in_area slots) (map-append giving (takeovers_in p.queue j p.batch) (takeovers past))
    ∙ filter-append (λ s. has_block slots s.lba) given old)) in
    let named : KnowsNames r (in_area slots (moves (Entry.Publish p ∷ past))) m.names =
    subst (λ (xs : List Swap). KnowsNames r xs m.names) whole
    (regrouped r (in_area slots new) (in_area slots given) (in_area slots (swaps past)) (in_area slots old) m.names
    grouped) in
    let disciplined : takeover_disciplined c slots (Entry.Publish p ∷ past) ≡ true =
    and_from (takeover_disciplined c slots past) (keeps_takeover_discipline c slots past p) h.disciplined
    (sym (keeps_is c slots past p) ∙ ap is_none none) in
    record {
      legal = legal;
      disciplined = disciplined;
      progress = prog;
      names = record { claim = named.claim; won = named.won; released = named.released };
      takeovers = publish_knows c slots past p k.takeovers m.takeovers names legal disciplined h.takeovers kr
          (λ q i. adds.new_begun q i ∙ begun_from ws (sym same_ws) q i kept.begun k.takeovers.begun adds.begun)
          (λ l n. adds.new_taken l n ∙ adds.taken l n)
          (λ q. adds.new_cut q ∙ cut_from c names ws (sym same_ws) q kept.cut k.takeovers.cut adds.cut);
    }
