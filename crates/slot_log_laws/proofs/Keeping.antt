-- A batch that keeps the rules of slots by its log keeps the discipline.
use Rattle.std.proofs.Common.{Bool, List, None, Option, Some, [], ap, arith, cond, eq-eqb, eqb, eqb-true, false, inl}
use Rattle.std.proofs.Common.{inr, length, not, refl, subst, sym, true, ℕ, ◌&&◌, ◌++◌, ◌||◌, ◌∙◌, ◌∷◌, ◌≡◌}
use Rattle.std.specs.List.{filter, list_all, list_any}
use Rattle.std.specs.Str.{bytes_eq}
use Rattle.std.proofs.lemmas.Bool.{and_from, and_parts}
use Rattle.nvme_model.specs.Array.{has_block, zeros}
use Rattle.nvme_model.specs.Config.{completion_queue}
use Rattle.nvme_model.specs.History.{Past}
use Rattle.nvme_model.specs.Legal.{IsLegal}
use Rattle.nvme_model.specs.Passes.{SharedPast, entries}
use Rattle.nvme_model.specs.Slots.{Name, Swap, disciplined, in_area, is_pair_on_one, keeps_discipline, name_of}
use Rattle.nvme_model.specs.Slots.{same_name, swap_by, swap_of, swaps, swaps_in}
use Rattle.nvme_model.specs.declared.array.Range.{Range}
use Rattle.nvme_model.specs.declared.config.ConfigNumbers.{ConfigNumbers}
use Rattle.nvme_model.specs.declared.entry.Entry.{Entry}
use Rattle.nvme_model.specs.declared.submission.Submission.{Submission}
use Rattle.nvme_model.proofs.Beginnings.{earlier}
use Rattle.nvme_model.proofs.Cut.{clash}
use Rattle.host_laws.specs.Beside.{IsSole, is_beside}
use Rattle.host_laws.specs.Claims.{IsClaim, IsRelease, claims_only_on, lba_of}
use Rattle.host_laws.specs.Discipline.{keeps_at}
use Rattle.host_laws.proofs.Claims.{all_from, all_in, none_any}
use Rattle.host_laws.proofs.Discipline.{area_has, swaps_later}
use Rattle.host_laws.proofs.Elements.{In, in_any, in_cases, in_filter, of_filter}
use Rattle.host_laws.proofs.Names.{bytes_are, name_eq, name_same}
use Rattle.host_laws.proofs.Publishing.{claim_at, claim_keeps, outside_keeps, release_at, release_keeps}
use Rattle.driver_calls.specs.Events.{event_at, events}
use Rattle.driver_calls.specs.Log.{is_tidy, sent}
use Rattle.driver_calls.specs.declared.event.PortEvent.{PortEvent}
use Rattle.driver_calls.proofs.Logs.{tidy_before}
use Rattle.slot_log_laws.specs.SlotRules.{each_keeps_slot_rules, batch_keeps_slot_rules, serials_below}
use Rattle.slot_log_laws.specs.Hosts.{elsewhere_keeps}
use Rattle.slot_log_laws.specs.Swaps.{log_believed, log_swaps}
use Rattle.slot_log_laws.proofs.SlotRules.{below_parts, is_below}
use Rattle.slot_log_laws.proofs.Believing.{log_believes, on_own_queue}
use Rattle.slot_log_laws.proofs.Beliefs.{believed_parts}
use Rattle.slot_log_laws.proofs.Knowing.{Knows, log_knows}
use Rattle.slot_log_laws.proofs.Claiming.{BatchRules, SwapRules, slot_rules_batch}

-- ---- what two entries are that have a claim or a release

-- a claim or a release of it
pub data SwapCase (q j : ℕ) (a b : Submission) (s : Swap) : Type 0 where
  claim : (n : Name) → IsClaim a b n → s ≡ claim_at q j (lba_of a) n → SwapCase q j a b s
  release : (n : Name) → IsRelease a b n → s ≡ release_at q j (lba_of a) n → SwapCase q j a b s

in_cond : (b : Bool) (xs : List Swap) (s : Swap) → In s (cond b xs []) → (b ≡ true) × In s xs
in_cond true xs s i = (refl, i)
in_cond false xs s i = absurd i

in_by : (k : Bool) (q j l : ℕ) (o : Option Name) (s : Swap) → In s (swap_by k q j l o)
    → (n : Name) × (o ≡ Some n) × (s ≡ record { claims = k; queue = q; number = j; lba = l; name = n })
in_by k q j l None s i = absurd i
in_by k q j l (Some n) s (inl e) = (n, refl, e)
in_by k q j l (Some n) s (inr i) = absurd i

pub swap_case : (q j : ℕ) (a b : Submission) (s : Swap) → In s (swap_of q j a b) → SwapCase q j a b s
swap_case q j a b s i =
    let p = in_cond (is_pair_on_one a b) _ s i in
    elim (in_cases s (cond (bytes_eq a.payload zeros) (swap_by true q j (lba_of a) (name_of b.payload)) [])
    (cond (bytes_eq b.payload zeros) (swap_by false q j (lba_of a) (name_of a.payload)) []) p.1) [
      | inl x ↦
          let y = in_cond (bytes_eq a.payload zeros) (swap_by true q j (lba_of a) (name_of b.payload)) s x in
          let z = in_by true q j (lba_of a) (name_of b.payload) s y.1 in
          SwapCase.claim z.0 (record { pair = p.0; old = bytes_are a.payload zeros y.0; new = z.1 }) z.2
      | inr x ↦
          let y = in_cond (bytes_eq b.payload zeros) (swap_by false q j (lba_of a) (name_of a.payload)) s x in
          let z = in_by false q j (lba_of a) (name_of a.payload) s y.1 in
          SwapCase.release z.0 (record { pair = p.0; old = z.1; new = bytes_are b.payload zeros y.0 }) z.2
    ]

-- ---- one batch

-- what is known where it is published
record Before (c : ConfigNumbers) (slots : Range) (host : ℕ) (past : Past) (n : ℕ) (log : List PortEvent) : Type 0 where
  legal : IsLegal c past
  kept : disciplined c slots past ≡ true
  own_number : claims_only_on c slots past host n ≡ true
  knows : Knows c past n log

-- what is left by a test passes it
pub filtered : (p : Swap → Bool) (xs : List Swap) (s : Swap) → In s (filter p xs) → p s ≡ true
filtered p [] s i = absurd i
filtered p (x ∷ xs) s i = go (p x) refl (filtered p xs s) i
  where
    go : (b : Bool) → p x ≡ b → (In s (filter p xs) → p s ≡ true) → In s (cond b (x ∷ filter p xs) (filter p xs))
        → p s ≡ true
    go true e f (inl z) = ap p z ∙ e
    go true e f (inr z) = f z
    go false e f z = f z

-- a name under a serial above all before was never claimed
fresh : (c : ConfigNumbers) (slots : Range) (host : ℕ) (past : Past) (n : ℕ) (log : List PortEvent) (m : Name)
    → Before c slots host past n log → m.host ≡ host → serials_below slots m.serial log ≡ true
    → list_any (λ w. w.claims && same_name w.name m) (in_area slots (swaps past)) ≡ false
fresh c slots host past n log m x e b =
    none_any (λ w. w.claims && same_name w.name m) (in_area slots (swaps past)) (λ w i f.
    let a = and_parts w.claims (same_name w.name m) f in
    let same = name_eq w.name m a.1 in
    let there = of_filter (λ s. has_block slots s.lba) (swaps past) w i in
    let inside = filtered (λ s. has_block slots s.lba) (swaps past) w i in
    let own = on_own_queue c slots past host n w x.own_number there inside a.0 (ap (λ (k : Name). k.host) same ∙ e) in
    let here = in_filter (λ s. has_block slots s.lba) (log_swaps log) w (x.knows.known w there own) inside in
    let low = below_parts m.serial w (all_in (is_below m.serial) (in_area slots (log_swaps log)) w b here) a.0 in
    omega (arith, low, ap (λ (k : Name). k.serial) same))

-- a pair that is a swap by the rules keeps the discipline
pair_keeps : (c : ConfigNumbers) (slots : Range) (host : ℕ) (past : Past) (n : ℕ) (log : List PortEvent) (q j : ℕ)
    (a b : Submission) → Before c slots host past n log → completion_queue c q ≡ n
    → (s : SwapRules slots host log (swaps_in q j (a ∷ b ∷ []))) → SwapCase q j a b s.swap
    → keeps_discipline c slots past (record { queue = q; batch = a ∷ b ∷ [] }) ≡ true
pair_keeps c slots host past n log q j a b x e s (SwapCase.claim m k z) =
    let own = s.claim (ap (λ (w : Swap). w.claims) z) in
    let name = ap (λ (w : Swap). w.name) z in
    claim_keeps c slots past q a b m k.pair k.old k.new
    (area_has slots (lba_of a) (ap (has_block slots) (sym (ap (λ (w : Swap). w.lba) z)) ∙ s.inside))
    (fresh c slots host past n log m x (ap (λ (w : Name). w.host) (sym name) ∙ own.0)
    (ap (λ (w : Name). serials_below slots w.serial log) (sym name) ∙ own.1))
pair_keeps c slots host past n log q j a b x e s (SwapCase.release m k z) =
    let name = ap (λ (w : Swap). w.name) z in
    let lba = ap (λ (w : Swap). w.lba) z in
    let inside : has_block slots (lba_of a) ≡ true = ap (has_block slots) (sym lba) ∙ s.inside in
    let believes : log_believed log (lba_of a) m ≡ true = ap (log_believed log (lba_of a)) (sym name)
    ∙ (ap (λ (i : ℕ). log_believed log i s.swap.name) (sym lba) ∙ s.release (ap (λ (w : Swap). w.claims) z)) in
    let w = believed_parts log (lba_of a) m believes in
    release_keeps c slots past q a b m k.pair k.old k.new (area_has slots (lba_of a) inside)
    (log_believes c slots past n log (lba_of a) m x.legal x.kept x.knows inside believes)
    (in_any (λ s. s.claims && eqb s.lba (lba_of a) && same_name s.name m
    && eqb (completion_queue c s.queue) (completion_queue c q)) (swaps past) w.swap (x.knows.there w.swap w.there)
    (and_from _ _ (and_from _ _ (and_from _ _ w.claims (eq-eqb w.swap.lba (lba_of a) w.lba))
    (name_same w.swap.name m w.name)) (eq-eqb _ _ (x.knows.own w.swap w.there ∙ sym e))))

batch_keeps : (c : ConfigNumbers) (slots : Range) (host : ℕ) (past : Past) (n : ℕ) (log : List PortEvent) (q : ℕ)
    (batch : List Submission) → Before c slots host past n log → completion_queue c q ≡ n
    → BatchRules slots host log q batch → keeps_discipline c slots past (record { queue = q; batch = batch }) ≡ true
batch_keeps c slots host past n log q batch x e (BatchRules.outside t) =
    outside_keeps c slots past (record { queue = q; batch = batch }) t
batch_keeps c slots host past n log q [] x e (BatchRules.pair two s) = absurd (omega (arith, two))
batch_keeps c slots host past n log q (a ∷ []) x e (BatchRules.pair two s) = absurd (omega (arith, two))
batch_keeps c slots host past n log q (a ∷ b ∷ u ∷ batch) x e (BatchRules.pair two s) = absurd (omega (arith, two))
batch_keeps c slots host past n log q (a ∷ b ∷ []) x e (BatchRules.pair two s) =
    let there : In s.swap (swaps_in q (length (sent log q)) (a ∷ b ∷ [])) =
    subst (λ (xs : List Swap). In s.swap xs) (sym s.alone) (inl refl) in
    elim (in_cases s.swap (swap_of q (length (sent log q)) a b) [] there) [
      | inl i ↦ pair_keeps c slots host past n log q (length (sent log q)) a b x e s
          (swap_case q (length (sent log q)) a b s.swap i)
      | inr i ↦ absurd i
    ]

-- ---- the whole history

-- so it is of a beginning
pub slot_rules_before : (slots : Range) (host : ℕ) (xs log : List PortEvent)
    → each_keeps_slot_rules slots host (xs ++ log) ≡ true
    → each_keeps_slot_rules slots host log ≡ true
slot_rules_before slots host [] log h = h
slot_rules_before slots host (PortEvent.Sent q batch ∷ xs) log h =
    slot_rules_before slots host xs log
    (and_parts (each_keeps_slot_rules slots host (xs ++ log))
    (batch_keeps_slot_rules slots host (xs ++ log) q batch) h).0
slot_rules_before slots host (PortEvent.Got cqe payload ∷ xs) log h = slot_rules_before slots host xs log h

own_before : (c : ConfigNumbers) (slots : Range) (e : Entry) (past : Past) (host n : ℕ)
    → claims_only_on c slots (e ∷ past) host n ≡ true → claims_only_on c slots past host n ≡ true
own_before c slots e past host n h =
    all_from (λ s. not s.claims || not (eqb s.name.host host) || eqb (completion_queue c s.queue) n)
    (in_area slots (swaps past)) (λ w i.
    all_in (λ s. not s.claims || not (eqb s.name.host host) || eqb (completion_queue c s.queue) n)
    (in_area slots (swaps (e ∷ past))) w h (more w i))
  where
    more : (w : Swap) → In w (in_area slots (swaps past)) → In w (in_area slots (swaps (e ∷ past)))
    more w i = in_filter (λ s. has_block slots s.lba) (swaps (e ∷ past)) w
        (swaps_later (e ∷ []) past w (of_filter (λ s. has_block slots s.lba) (swaps past) w i))
        (filtered (λ s. has_block slots s.lba) (swaps past) w i)

pub slot_rules_disciplined : (c : ConfigNumbers) (n p : ℕ) (slots : Range) (host : ℕ) (shared : SharedPast)
    → IsLegal c (entries shared) → IsSole c n p shared → is_tidy (events c n p shared) ≡ true
    → elsewhere_keeps c slots n (entries shared) ≡ true → claims_only_on c slots (entries shared) host n ≡ true
    → each_keeps_slot_rules slots host (events c n p shared) ≡ true → disciplined c slots (entries shared) ≡ true
slot_rules_disciplined c n p slots host [] h o d k u y = refl
slot_rules_disciplined c n p slots host (m ∷ shared) h o d k u y =
    let a = and_parts (is_beside c n m.1 || eqb m.0 p) (list_all (λ x. is_beside c n x.1 || eqb x.0 p) shared) o in
    let new = cond (eqb m.0 p) (event_at c n (entries shared) m.1) [] in
    let l = tidy_before new (events c n p shared) d in
    let legal = earlier c (m.1 ∷ []) (entries shared) h in
    let e = and_parts (elsewhere_keeps c slots n (entries shared))
    (not (is_beside c n m.1) || keeps_at c slots (entries shared) m.1) k in
    let own = own_before c slots m.1 (entries shared) host n u in
    let kept = slot_rules_disciplined c n p slots host shared legal a.1 l e.0 own
    (slot_rules_before slots host new (events c n p shared) y) in
    let knows = log_knows c n p shared legal a.1 l in
    by_entry m.1 refl a.0 e.1 y (record { legal = legal; kept = kept; own_number = own; knows = knows })
  where
    by_entry : (e : Entry) → m.1 ≡ e → (is_beside c n e || eqb m.0 p) ≡ true
        → (not (is_beside c n e) || keeps_at c slots (entries shared) e) ≡ true
        → each_keeps_slot_rules slots host (cond (eqb m.0 p) (event_at c n (entries shared) e) []
        ++ events c n p shared) ≡ true
        → Before c slots host (entries shared) n (events c n p shared)
        → disciplined c slots (e ∷ entries shared) ≡ true
    by_entry (Entry.Fetch f) z x w y b = b.kept
    by_entry (Entry.Grant f) z x w y b = b.kept
    by_entry (Entry.Block f) z x w y b = b.kept
    by_entry (Entry.Post f) z x w y b = b.kept
    by_entry (Entry.Reap f) z x w y b = b.kept
    by_entry (Entry.Publish f) z x w y b =
        and_from (disciplined c slots (entries shared)) (keeps_discipline c slots (entries shared) f) b.kept
        (go (eqb (completion_queue c f.queue) n) (eqb m.0 p) refl x w y)
      where
        go : (own mine : Bool) → eqb (completion_queue c f.queue) n ≡ own → (not own || mine) ≡ true
            → (not (not own) || keeps_discipline c slots (entries shared) f) ≡ true
            → each_keeps_slot_rules slots host
            (cond mine (cond own (PortEvent.Sent f.queue f.batch ∷ []) []) [] ++ events c n p shared) ≡ true
            → keeps_discipline c slots (entries shared) f ≡ true
        go false mine z x w y = w
        go true false z x w y = clash false x refl
        go true true z x w y =
            batch_keeps c slots host (entries shared) n (events c n p shared) f.queue f.batch b
            (eqb-true (completion_queue c f.queue) n z)
            (slot_rules_batch slots host (events c n p shared) f.queue f.batch
            (and_parts (each_keeps_slot_rules slots host (events c n p shared))
            (batch_keeps_slot_rules slots host (events c n p shared) f.queue f.batch) y).1)
