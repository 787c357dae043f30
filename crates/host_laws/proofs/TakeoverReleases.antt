-- A release of a name of which no takeover took effect never differs.
use Rattle.nvme_model.specs.Tickets
use Rattle.std.proofs.Common.{◌≡◌, ℕ, ◌≤◌, ◌<◌, Bool, true, false, not, ◌&&◌, ◌||◌, List, [], ◌∷◌, ◌++◌, refl, sym}
use Rattle.std.proofs.Common.{ap, ◌∙◌, subst, Some, None, is_some, inl, inr, arith, length}
use Rattle.std.proofs.Common.{append_assoc, subst₂}
use Rattle.std.specs.List.{list_any}
use Rattle.std.proofs.lemmas.Bool.{and_parts, cases_Bool, not-true, or_cases}
use Rattle.ticket_laws.proofs.Later.{ticket_later}
use Rattle.ticket_laws.proofs.Counts.{fetched_within}
use Rattle.nvme_model.specs.Array.{has_block}
use Rattle.nvme_model.specs.Config.{completion_queue}
use Rattle.nvme_model.specs.History.{Past}
use Rattle.nvme_model.specs.Legal.{IsLegal}
use Rattle.nvme_model.specs.Open.{grants_of, unit_range}
use Rattle.nvme_model.specs.Operations.{compare_data}
use Rattle.nvme_model.specs.Placed.{effect}
use Rattle.nvme_model.specs.Queues.{published_entries}
use Rattle.nvme_model.specs.Slots.{Name, Swap, fetched_before, holder, name_of, releases, swaps}
use Rattle.nvme_model.specs.Slots.{swaps_in}
use Rattle.nvme_model.specs.Tickets.{Ticket, tickets}
use Rattle.nvme_model.specs.Value.{all_equal, value}
use Rattle.nvme_model.specs.declared.array.Range.{Range}
use Rattle.nvme_model.specs.declared.config.ConfigNumbers.{ConfigNumbers}
use Rattle.nvme_model.specs.declared.entry.BlockLine.{BlockLine}
use Rattle.nvme_model.specs.declared.entry.Entry.{Entry}
use Rattle.nvme_model.specs.declared.entry.PublishLine.{PublishLine}
use Rattle.nvme_model.proofs.Beginnings.{earlier}
use Rattle.nvme_model.proofs.Placed.{effect_once}
use Rattle.nvme_model.proofs.Rules.{follows}
use Rattle.nvme_model.proofs.Cut.{clash}
use Rattle.host_laws.specs.Calls.{PairDiffers}
use Rattle.host_laws.proofs.Calls.{takes_parts}
use Rattle.host_laws.proofs.Discipline.{InArea, has_area}
use Rattle.host_laws.proofs.Elements.{In, in_cases, in_filter, in_left, none_in, same_some}
use Rattle.host_laws.proofs.Fetches.{swap_before}
use Rattle.host_laws.proofs.Finds.{Came, Finds, Lone, came_later, finds_later, lone_before}
use Rattle.host_laws.proofs.Later.{block_facts, effect_at, fetched_before_later, grants_later, pair_range}
use Rattle.host_laws.proofs.Later.{range_at}
use Rattle.host_laws.proofs.Names.{spelled, zeros_unnamed}
use Rattle.host_laws.proofs.Releases.{PairOf, equal_one, no_effect_of, pair_of}
use Rattle.host_laws.proofs.TicketsApart.{one_ticket, taken_some, within_fetched}
use Rattle.host_laws.proofs.Won.{whole}
use Rattle.host_laws.specs.Rules.{releases_right, takeover_disciplined}
use Rattle.host_laws.specs.Takeovers.{is_given_on, is_taken, moves_in, still_believed}
use Rattle.host_laws.proofs.TakeoverBeliefs.{believed_holds, kept_parts, taken_here}
use Rattle.host_laws.proofs.TakeoverChanges.{Change, change, change_effect}
use Rattle.host_laws.proofs.TakeoverDiscipline.{kept, kept_earlier, own_moves}
use Rattle.host_laws.proofs.Fencing.{given_later}
use Rattle.host_laws.proofs.Movers.{MoveTicket}
use Rattle.host_laws.proofs.Taking.{taken_later, untaken_before}
use Rattle.host_laws.proofs.UniqueNames.{releases_it}

-- ---- a name is released once

-- what a release of a batch has
pub record ReleaseRight (c : ConfigNumbers) (past : Past) (earlier : List Swap) (s : Swap) : Type 0 where
  pub believed : still_believed c past s.lba s.name ≡ true
  pub alone : (w : Swap) → In w earlier → releases w s.lba s.name ≡ false
  pub given : is_given_on c past (completion_queue c s.queue) s.lba s.name ≡ true

pub release_right : (c : ConfigNumbers) (past : Past) (earlier of : List Swap) (s : Swap)
    → releases_right c past earlier of ≡ true → In s of → s.claims ≡ false → ReleaseRight c past earlier s
release_right c past earlier [] s h i e = absurd i
release_right c past earlier (x ∷ of) s h (inr i) e =
    let r = release_right c past (x ∷ earlier) of s (and_parts _ _ h).1 i e in
    record { believed = r.believed; alone = λ w j. r.alone w (inr j); given = r.given }
release_right c past earlier (x ∷ of) s h (inl q) e =
    let alone = λ (y : Swap). not (list_any (λ w. releases w y.lba y.name) earlier) in
    let right = λ (y : Swap). still_believed c past y.lba y.name && alone y
    && is_given_on c past (completion_queue c y.queue) y.lba y.name in
    let b = subst (λ (y : Swap). (y.claims || right y) ≡ true) (sym q) (and_parts (x.claims || right x) _ h).0 in
    elim (or_cases s.claims (right s) b) [
      | inl t ↦ clash s.claims t e
      | inr y ↦
          let z = and_parts (still_believed c past s.lba s.name
          && not (list_any (λ w. releases w s.lba s.name) earlier)) _ y in
          let u = and_parts (still_believed c past s.lba s.name)
          (not (list_any (λ w. releases w s.lba s.name) earlier)) z.0 in
          record {
            believed = u.0;
            alone = λ w j. none_in (λ w. releases w s.lba s.name) earlier w (not-true _ u.1) j;
            given = z.1;
          }
    ]

-- two of one batch
right_same : (c : ConfigNumbers) (past : Past) (earlier of : List Swap) (r w : Swap)
    → releases_right c past earlier of ≡ true → In r of → In w of → r.claims ≡ false → w.claims ≡ false → r.lba ≡ w.lba
    → r.name ≡ w.name → r ≡ w
right_same c past earlier [] r w h i j a b l n = absurd i
right_same c past earlier (x ∷ of) r w h (inl p) (inl q) a b l n = p ∙ sym q
right_same c past earlier (x ∷ of) r w h (inl p) (inr j) a b l n =
    clash (releases r w.lba w.name) (releases_it r w a l n)
    ((release_right c past (x ∷ earlier) of w (and_parts _ _ h).1 j b).alone r (inl p))
right_same c past earlier (x ∷ of) r w h (inr i) (inl q) a b l n =
    clash (releases w r.lba r.name) (releases_it w r b (sym l) (sym n))
    ((release_right c past (x ∷ earlier) of r (and_parts _ _ h).1 i a).alone w (inl q))
right_same c past earlier (x ∷ of) r w h (inr i) (inr j) a b l n =
    right_same c past (x ∷ earlier) of r w (and_parts _ _ h).1 i j a b l n

-- a release, and one before it
later_release : (c : ConfigNumbers) (past : Past) (earlier of : List Swap) (r w : Swap)
    → releases_right c past earlier of ≡ true → In r of → In w (swaps past) → r.claims ≡ false → w.claims ≡ false
    → w.lba ≡ r.lba → w.name ≡ r.name → ⊥
later_release c past earlier of r w h i j a b l n =
    let believed = (release_right c past earlier of r h i a).believed in
    let kept = (and_parts _ _ believed).0 in
    clash (releases w r.lba r.name) (releases_it w r b l n)
    (none_in (λ s. releases s r.lba r.name) (swaps past) w (kept_parts c past r.lba r.name kept).unreleased j)

-- a release of a Publish is among its moves in the area
pub in_own : (slots : Range) (past : Past) (p : PublishLine) (s : Swap) → InArea slots s.lba
    → In s (swaps_in p.queue (length (published_entries past p.queue)) p.batch) → In s (own_moves slots past p)
in_own slots past p s v i =
    let j = length (published_entries past p.queue) in
    in_filter (λ t. has_block slots t.lba) (moves_in p.queue j p.batch) s
    (in_left s (swaps_in p.queue j p.batch) _ i) (has_area slots s.lba v)

pub one_release : (c : ConfigNumbers) (slots : Range) (past : Past) (r w : Swap)
    → takeover_disciplined c slots past ≡ true → In r (swaps past) → In w (swaps past) → r.claims ≡ false
    → w.claims ≡ false → r.lba ≡ w.lba → r.name ≡ w.name → InArea slots r.lba → InArea slots w.lba → r ≡ w
one_release c slots [] r w d i j a b l n v z = absurd i
one_release c slots (Entry.Publish p ∷ past) r w d i j a b l n v z =
    let x = kept c slots past p d in
    let of = swaps_in p.queue (length (published_entries past p.queue)) p.batch in
    elim (in_cases r of (swaps past) i) [
      | inl y ↦ elim (in_cases w of (swaps past) j) [
        | inl u ↦ right_same c past [] (own_moves slots past p) r w x.right (in_own slots past p r v y)
            (in_own slots past p w z u) a b l n
        | inr u ↦ absurd (later_release c past [] (own_moves slots past p) r w x.right (in_own slots past p r v y) u a
            b (sym l) (sym n))
      ]
      | inr y ↦ elim (in_cases w of (swaps past) j) [
        | inl u ↦ absurd (later_release c past [] (own_moves slots past p) w r x.right (in_own slots past p w z u) y b
            a l n)
        | inr u ↦ one_release c slots past r w x.before y u a b l n v z
      ]
    ]
one_release c slots (Entry.Fetch p ∷ past) r w d i j a b l n v z = one_release c slots past r w d i j a b l n v z
one_release c slots (Entry.Grant p ∷ past) r w d i j a b l n v z = one_release c slots past r w d i j a b l n v z
one_release c slots (Entry.Block p ∷ past) r w d i j a b l n v z = one_release c slots past r w d i j a b l n v z
one_release c slots (Entry.Post p ∷ past) r w d i j a b l n v z = one_release c slots past r w d i j a b l n v z
one_release c slots (Entry.Reap p ∷ past) r w d i j a b l n v z = one_release c slots past r w d i j a b l n v z

lone : (c : ConfigNumbers) (slots : Range) (past : Past) (r : Swap) → takeover_disciplined c slots past ≡ true
    → In r (swaps past) → r.claims ≡ false → InArea slots r.lba → Lone past r
lone c slots past r d i e a = λ w j b l n.
    let same = one_release c slots past r w d i j e b (sym l) (sym n) a
    (record { from = omega (arith, l, a.from); to = omega (arith, l, a.to) }) in
    (ap (λ (s : Swap). s.queue) (sym same), ap (λ (s : Swap). s.number) (sym same))

-- ---- a release finds its name, or its effect came

-- a Block that changes the slot of a lone release is that release
its_block : (past : Past) (b : BlockLine) (r : Swap) (x : Change past b r.lba) → MoveTicket past b.ticket r.lba
    → Lone past r → holder past r.lba ≡ Some r.name → is_taken (Entry.Block b ∷ past) r.lba r.name ≡ false
    → Came (Entry.Block b ∷ past) r
its_block past b r x (inr t) lone o u =
    clash (is_taken (Entry.Block b ∷ past) r.lba r.name) (taken_here past b r.lba r.name x t o) u
its_block past b r x (inl t) lone o u = by_claim t.swap.claims refl
  where
    by_claim : (y : Bool) → t.swap.claims ≡ y → Came (Entry.Block b ∷ past) r
    by_claim true e = absurd (zeros_unnamed r.name (sym (ap name_of (x.old ∙ (t.bytes.claim e).0)) ∙ o))
    by_claim false e =
        let same = same_some r.name t.swap.name (holder past r.lba) o (ap name_of x.old ∙ (t.bytes.release e).0) in
        let it = lone t.swap t.there e t.lba (sym same) in
        record {
          ticket = b.ticket;
          some = x.some;
          known = x.known;
          queue = sym t.queue ∙ it.0;
          number = sym t.number ∙ it.1;
          effect = ap is_some (change_effect past b r.lba x);
        }

block_finds : (c : ConfigNumbers) (slots : Range) (past : Past) (b : BlockLine) (r : Swap)
    → IsLegal c (Entry.Block b ∷ past) → takeover_disciplined c slots past ≡ true → InArea slots r.lba → Lone past r
    → is_taken (Entry.Block b ∷ past) r.lba r.name ≡ false → Finds past r → Finds (Entry.Block b ∷ past) r
block_finds c slots past b r h d a lone u (inr k) = inr (came_later c (Entry.Block b) past r h k)
block_finds c slots past b r h d a lone u (inl o) =
    elim (change c slots past b r.lba h d a) [
      | inl e ↦ inl (ap name_of e ∙ o)
      | inr x ↦ inr (its_block past b r x x.ticket lone o u)
    ]

pub finds : (c : ConfigNumbers) (slots : Range) (past : Past) (r : Swap) → IsLegal c past
    → takeover_disciplined c slots past ≡ true → In r (swaps past) → r.claims ≡ false → InArea slots r.lba
    → Lone past r → is_taken past r.lba r.name ≡ false → Finds past r
finds c slots [] r h d i e a lone u = absurd i
finds c slots (Entry.Publish p ∷ past) r h d i e a lone u =
    let before = (follows c past (Entry.Publish p) h).before in
    let k = kept c slots past p d in
    elim (in_cases r (swaps_in p.queue (length (published_entries past p.queue)) p.batch) (swaps past) i) [
      | inl n ↦ inl (believed_holds c slots past r.lba r.name before k.before a
          (release_right c past [] (own_moves slots past p) r k.right (in_own slots past p r a n) e).believed)
      | inr o ↦ finds_later c (Entry.Publish p) past r h refl
          (finds c slots past r before k.before o e a (lone_before (Entry.Publish p) past r lone)
          (untaken_before c (Entry.Publish p) past r.lba r.name h u))
    ]
finds c slots (Entry.Block b ∷ past) r h d i e a lone u =
    block_finds c slots past b r h d a (lone_before (Entry.Block b) past r lone) u
    (finds c slots past r (follows c past (Entry.Block b) h).before d i e a
    (lone_before (Entry.Block b) past r lone) (untaken_before c (Entry.Block b) past r.lba r.name h u))
finds c slots (Entry.Fetch p ∷ past) r h d i e a lone u =
    finds_later c (Entry.Fetch p) past r h refl
    (finds c slots past r (follows c past (Entry.Fetch p) h).before d i e a lone
    (untaken_before c (Entry.Fetch p) past r.lba r.name h u))
finds c slots (Entry.Grant p ∷ past) r h d i e a lone u =
    finds_later c (Entry.Grant p) past r h refl
    (finds c slots past r (follows c past (Entry.Grant p) h).before d i e a lone
    (untaken_before c (Entry.Grant p) past r.lba r.name h u))
finds c slots (Entry.Post p ∷ past) r h d i e a lone u =
    finds_later c (Entry.Post p) past r h refl
    (finds c slots past r (follows c past (Entry.Post p) h).before d i e a lone
    (untaken_before c (Entry.Post p) past r.lba r.name h u))
finds c slots (Entry.Reap p ∷ past) r h d i e a lone u =
    finds_later c (Entry.Reap p) past r h refl
    (finds c slots past r (follows c past (Entry.Reap p) h).before d i e a lone
    (untaken_before c (Entry.Reap p) past r.lba r.name h u))

-- ---- a release never differs

-- its effect can't have said no
found_yes : (c : ConfigNumbers) (past before : Past) (b : BlockLine) (t : ℕ) (r : Swap) (range : Range)
    → IsLegal c (Entry.Block b ∷ before) → b.effect ≡ true → b.ticket ≡ t → b.unit ≡ 0 → r.claims ≡ false
    → (o : PairOf past t r) → range ≡ whole (Tickets.ticket past t)
    → all_equal (value before) (Tickets.ticket past t) range ≡ false → 1 ≤ t → t ≤ tickets before
    → (Tickets.ticket before t).queue ≡ r.queue → fetched_before before t ≡ r.number → Finds before r → ⊥
found_yes c past before b t r range h m bt bu e o w differs some known kq kn (inl held) =
    let k = Tickets.ticket past t in
    let equal = spelled (value before r.lba) r.name held
    ∙ sym (spelled (compare_data k r.lba) r.name (o.bytes.release e).0) in
    clash (all_equal (value before) k range)
    (equal_one (value before) k range r.lba (ap (λ (z : Range). z.slba) w ∙ o.slba)
    (ap (λ (z : Range). z.blocks) w ∙ o.one) equal) differs
found_yes c past before b t r range h m bt bu e o w differs some known kq kn (inr x) =
    let legal = (follows c before (Entry.Block b) h).before in
    let same = one_ticket c before x.ticket t legal x.some x.known some known (x.queue ∙ sym kq) (x.number ∙ sym kn) in
    let none = subst₂ (λ (y z : ℕ). effect before y z ≡ None) bt bu (effect_once c before b h m) in
    let came = subst (λ (y : ℕ). is_some (effect before y 0) ≡ true) same x.effect in
    let f : false ≡ true = sym (ap is_some none) ∙ came in
    cc

pub untaken_never_differs : (c : ConfigNumbers) (slots : Range) (past : Past) (r : Swap) → IsLegal c past
    → takeover_disciplined c slots past ≡ true → In r (swaps past) → r.claims ≡ false → InArea slots r.lba
    → is_taken past r.lba r.name ≡ false → PairDiffers past r.queue r.number → ⊥
untaken_never_differs c slots past r h d i e a u n =
    let t = n.ticket in
    let k = Tickets.ticket past t in
    let po = pair_of c past t r h i n.takes n.pair in
    let x = takes_parts past t r.queue r.number n.takes in
    let differs = no_effect_of (effect past t 0) k (unit_range past t 0) n.no in
    let before = differs.0 in
    let at = effect_at past t 0 before differs.1 in
    let rest : Past = Entry.Block at.block ∷ before in
    let l : IsLegal c (at.later ++ rest) = subst (λ (z : Past). IsLegal c z) at.is h in
    let legal = earlier c at.later rest l in
    let facts = block_facts c before at.block legal in
    let f = follows c before (Entry.Block at.block) legal in
    let known : t ≤ tickets before = omega (arith, facts.known, at.ticket) in
    let same : Tickets.ticket before t ≡ k = sym (ticket_later c at.later rest t l known)
    ∙ ap (λ (z : Past). Tickets.ticket z t) (sym at.is) in
    let number : fetched_before before t ≡ r.number = sym (fetched_before_later c at.later rest t l known)
    ∙ (ap (λ (z : Past). fetched_before z t) (sym at.is) ∙ po.number) in
    let queue : (Tickets.ticket before t).queue ≡ r.queue = ap (λ (z : Ticket). z.queue) same ∙ po.queue in
    let kept2 = kept_earlier c slots at.later rest
    (subst (λ (z : Past). takeover_disciplined c slots z ≡ true) at.is d) in
    let split : past ≡ (at.later ++ (Entry.Block at.block ∷ [])) ++ before = at.is
    ∙ sym (append_assoc at.later (Entry.Block at.block ∷ []) before) in
    let there = swap_before (at.later ++ (Entry.Block at.block ∷ [])) before r
    (subst (λ (z : Past). In r (swaps z)) split i)
    (published_yet c before t r.queue r.number f.before x.some known queue number) in
    let untaken = untaken_at c (at.later ++ (Entry.Block at.block ∷ [])) before r.lba r.name
    (subst (λ (z : Past). IsLegal c z) split h)
    (subst (λ (z : Past). is_taken z r.lba r.name ≡ false) split u) in
    let granted : 0 < grants_of past t =
    subst (λ (z : Past). 0 < grants_of z t) (sym at.is)
    (grants_later at.later rest t 0 (subst₂ (λ (y z : ℕ). z < grants_of before y) at.ticket at.unit facts.number)) in
    found_yes c past before at.block t r (unit_range past t 0) legal at.effect at.ticket at.unit e po
    (pair_range c past t 0 n.pair (range_at c past t 0 h granted)) differs.2 x.some known queue number
    (finds c slots before r f.before kept2 there e a (lone c slots before r kept2 there e a) untaken)
  where
    published_yet : (c : ConfigNumbers) (before : Past) (t q j : ℕ) → IsLegal c before → 1 ≤ t → t ≤ tickets before
        → (Tickets.ticket before t).queue ≡ q → fetched_before before t ≡ j → j < length (published_entries before q)
    published_yet c before t q j h s k e n =
        let w = within_fetched c before t h s k in
        let f = fetched_within c before (Tickets.ticket before t).queue h in
        let o = taken_some (Tickets.ticket before t).verdict in
        subst (λ (x : ℕ). j < length (published_entries before x)) e (omega (arith, w, f, o, n))

    untaken_at : (c : ConfigNumbers) (later before : Past) (l : ℕ) (n : Name) → IsLegal c (later ++ before)
        → is_taken (later ++ before) l n ≡ false → is_taken before l n ≡ false
    untaken_at c later before l n h f = elim (cases_Bool (is_taken before l n)) [
      | inr x ↦ x
      | inl x ↦ clash (is_taken (later ++ before) l n) (taken_later c later before l n h x) f
    ]

-- ---- a release stands on its giver's completion queue

pub release_given : (c : ConfigNumbers) (slots : Range) (past : Past) (r : Swap)
    → takeover_disciplined c slots past ≡ true → In r (swaps past) → r.claims ≡ false → InArea slots r.lba
    → is_given_on c past (completion_queue c r.queue) r.lba r.name ≡ true
release_given c slots [] r d i e v = absurd i
release_given c slots (Entry.Publish p ∷ past) r d i e v =
    let k = kept c slots past p d in
    let q = completion_queue c r.queue in
    elim (in_cases r (swaps_in p.queue (length (published_entries past p.queue)) p.batch) (swaps past) i) [
      | inl n ↦ given_later c (Entry.Publish p ∷ []) past q r.lba r.name
          (release_right c past [] (own_moves slots past p) r k.right (in_own slots past p r v n) e).given
      | inr o ↦ given_later c (Entry.Publish p ∷ []) past q r.lba r.name (release_given c slots past r k.before o e v)
    ]
release_given c slots (Entry.Fetch p ∷ past) r d i e v = release_given c slots past r d i e v
release_given c slots (Entry.Grant p ∷ past) r d i e v = release_given c slots past r d i e v
release_given c slots (Entry.Block p ∷ past) r d i e v = release_given c slots past r d i e v
release_given c slots (Entry.Post p ∷ past) r d i e v = release_given c slots past r d i e v
release_given c slots (Entry.Reap p ∷ past) r d i e v = release_given c slots past r d i e v
