-- A release is answered by success.
use Rattle.std.proofs.Common.{Bool, Err, List, Ok, Result, Some, [], ap, arith, cond, eq-eqb, eqb, eqb-true, false, inl}
use Rattle.std.proofs.Common.{inr, length, refl, slice_get, subst, suc, sym, true, ℕ, ◌&&◌, ◌+◌, ◌++◌, ◌||◌, ◌∙◌, ◌∷◌}
use Rattle.std.proofs.Common.{◌≡◌}
use Rattle.std.specs.List.{list_all}
use Rattle.std.proofs.lemmas.Bool.{and_parts, cond-true}
use Rattle.nvme_model.specs.Array.{has_block}
use Rattle.nvme_model.specs.Config.{completion_queue}
use Rattle.nvme_model.specs.Legal.{IsLegal}
use Rattle.nvme_model.specs.Passes.{SharedPast, entries}
use Rattle.nvme_model.specs.History.{Past}
use Rattle.nvme_model.specs.Queues.{published_entries}
use Rattle.nvme_model.specs.Slots.{Name, Swap, believed, in_area, keeps_discipline, released_right, same_name}
use Rattle.nvme_model.specs.Slots.{slot_block, swaps, swaps_in}
use Rattle.nvme_model.specs.Statuses.{compare_failure, is_success, same_status}
use Rattle.nvme_model.specs.declared.array.Range.{Range}
use Rattle.nvme_model.specs.declared.config.ConfigNumbers.{ConfigNumbers}
use Rattle.nvme_model.specs.declared.entry.PostLine.{PostLine}
use Rattle.nvme_model.specs.declared.operation.Op.{Op}
use Rattle.nvme_model.specs.declared.status.Status.{Status}
use Rattle.nvme_model.specs.declared.submission.Submission.{Submission}
use Rattle.nvme_model.proofs.Beginnings.{earlier}
use Rattle.host_laws.specs.Beside.{IsSole, is_beside}
use Rattle.host_laws.specs.Book.{IsAlwaysApart}
use Rattle.host_laws.specs.Calls.{reaped_post, cqe_status}
use Rattle.host_laws.proofs.Apart.{always_empty, always_more, book_apart}
use Rattle.host_laws.proofs.Discipline.{area_has}
use Rattle.host_laws.proofs.Names.{name_eq}
use Rattle.host_laws.proofs.UniqueNames.{release_right}
use Rattle.host_laws.proofs.Elements.{In, any_in, get_after, get_append}
use Rattle.host_laws.proofs.Publishing.{release_at}
use Rattle.host_laws.proofs.ReleaseAnswers.{release_succeeds}
use Rattle.driver_calls.specs.Answers.{pair_answer_of}
use Rattle.driver_calls.specs.Events.{IsToldByLog, event_at, events}
use Rattle.driver_calls.specs.Log.{is_tidy, newest, sent}
use Rattle.driver_calls.specs.Says.{call_outcome}
use Rattle.driver_calls.specs.Views.{PortView, log_of}
use Rattle.driver_calls.specs.declared.event.PortEvent.{PortEvent}
use Rattle.driver_calls.specs.declared.reply.Reply.{Reply}
use Rattle.driver_calls.proofs.Books.{book_of}
use Rattle.driver_calls.proofs.Logs.{tidy_before}
use Rattle.driver_calls.proofs.Telling.{log_tells}
use Rattle.slot_log_laws.specs.Calls.{IsName, IsReleaseBatch, IsReleaseIn, IsSentAs}
use Rattle.slot_log_laws.specs.Swaps.{log_believed}
use Rattle.slot_log_laws.specs.Hosts.{IsSlotView, log_since}
use Rattle.slot_log_laws.proofs.Batches.{pair_of, release_batch}
use Rattle.slot_log_laws.proofs.SlotRules.{slot_rules_parts}
use Rattle.slot_log_laws.proofs.Claiming.{claimed_host}
use Rattle.slot_log_laws.proofs.Views.{view_back, view_slot_rules, view_disciplined, view_knows, view_tidy, whole_log}
use Rattle.slot_log_laws.proofs.Winning.{IsAnswered, pair_answered, swap_sent}

-- ---- the CIDs

-- a driver that alone uses its queues keeps their CIDs apart
always_apart : (c : ConfigNumbers) (n p q : ℕ) (shared : SharedPast) → IsLegal c (entries shared) → IsSole c n p shared
    → is_tidy (events c n p shared) ≡ true → completion_queue c q ≡ n → IsAlwaysApart c (entries shared) q
always_apart c n p q [] h o d e = always_empty c [] q refl
always_apart c n p q (m ∷ shared) h o d e =
    let a = and_parts (is_beside c n m.1 || eqb m.0 p) (list_all (λ x. is_beside c n x.1 || eqb x.0 p) shared) o in
    let l = tidy_before (cond (eqb m.0 p) (event_at c n (entries shared) m.1) []) (events c n p shared) d in
    always_more c m.1 (entries shared) q (always_apart c n p q shared (earlier c (m.1 ∷ []) (entries shared) h) a.1 l e)
    (book_apart c (entries (m ∷ shared)) n (book_of (events c n p (m ∷ shared))) q
    (log_tells c n p (m ∷ shared) h o d).book e)

-- ---- the entries

-- what was sent keeps its number
sent_grows : (later log : List PortEvent) (q j : ℕ) (s : Submission) → slice_get (sent log q) j ≡ Some s
    → slice_get (sent (later ++ log) q) j ≡ Some s
sent_grows [] log q j s h = h
sent_grows (PortEvent.Sent p batch ∷ later) log q j s h =
    get_append (sent (later ++ log) q) (cond (eqb p q) batch []) j s (sent_grows later log q j s h)
sent_grows (PortEvent.Got cqe payload ∷ later) log q j s h = sent_grows later log q j s h

-- an entry of a batch that was published
sent_there : (log : List PortEvent) (q j i k : ℕ) (batch : List Submission) (s : Submission) → IsSentAs log q j batch
    → k ≡ j + i → slice_get batch i ≡ Some s → slice_get (sent log q) k ≡ Some s
sent_there log q j i k batch s x e h =
    subst (λ (xs : List PortEvent). slice_get (sent xs q) k ≡ Some s) x.whole
    (sent_grows x.later (PortEvent.Sent q batch ∷ x.before) q k s
    (get_after (sent x.before q) (cond (eqb q q) batch []) i k s (omega (arith, e, x.number))
    (ap (λ (xs : List Submission). slice_get xs i) (cond-true (eqb q q) batch [] (eq-eqb q q refl)) ∙ h)))

-- ---- its answer

swapped : (s r : Status) → is_success s ≡ true → is_success r ≡ true → pair_answer_of s r ≡ Ok Reply.Swapped
swapped s r a b = go (is_success s) (is_success r) a b
  where
    go : (x y : Bool) → x ≡ true → y ≡ true
        → cond x (cond y (Ok Reply.Swapped) (Err r)) (cond (same_status s compare_failure) (Ok Reply.Differs) (Err s))
        ≡ Ok Reply.Swapped
    go true true e f = refl
    go true false e f = absurd (let z : false ≡ true = f in cc)
    go false y e f = absurd (let z : false ≡ true = e in cc)

-- an answered CID that names an entry tells its status
status_told : (c : ConfigNumbers) (n q cid j : ℕ) (shared : SharedPast) (log : List PortEvent)
    (a : IsAnswered log q cid) → IsToldByLog c (entries shared) n log → completion_queue c q ≡ n
    → newest log q cid ≡ Some j
    → ((p : PostLine) → reaped_post c (entries shared) q j ≡ Some p → is_success (cqe_status p.cqe) ≡ true)
    → is_success (cqe_status a.cqe) ≡ true
status_told c n q cid j shared log a t e w f =
    let g = t.got q cid j a.cqe a.payload e a.state w in
    ap (λ (bytes : List ℕ). is_success (cqe_status bytes)) (sym g.2) ∙ f g.0 g.1

release_answered : (before : List PortEvent) (slots : Range) (host last : ℕ) (v : PortView) (q first second j l : ℕ)
    (n : Name) (r : Result Reply Status) → IsSlotView before slots host last v
    → IsReleaseIn (log_of v) q first second j l n → has_block slots l ≡ true
    → call_outcome (log_of v) q Op.Pair first second ≡ Some r → r ≡ Ok Reply.Swapped
release_answered before slots host last v q first second j l n r x k i h =
    let c = v.config in
    let past = entries v.seen in
    let log = log_of v in
    let tidy = view_tidy before slots host last v x in
    let knows = view_knows before slots host last v x in
    let told = log_tells c v.queue v.pass v.seen x.legal x.premises.alone.sole tidy in
    let swap = release_at q j l n in
    let here = swap_sent log q j k.batch swap k.sent_as (release_batch q j l first second n k.batch k.name k.is) in
    let own : completion_queue c q ≡ v.queue = knows.own swap here in
    let two = pair_of l first second (slot_block n) _ k.batch k.is in
    let same = told.entries_are q own in
    let first_there : slice_get (published_entries past q) j ≡ Some two.first =
    ap (λ (xs : List Submission). slice_get xs j) same
    ∙ sent_there log q j 0 j k.batch two.first k.sent_as (omega arith)
    (ap (λ (xs : List Submission). slice_get xs 0) two.are) in
    let second_there : slice_get (published_entries past q) (suc j) ≡ Some two.second =
    ap (λ (xs : List Submission). slice_get xs (suc j)) same
    ∙ sent_there log q j 1 (suc j) k.batch two.second k.sent_as (omega arith)
    (ap (λ (xs : List Submission). slice_get xs 1) two.are) in
    let apart = always_apart c v.queue v.pass q v.seen x.legal x.premises.alone.sole tidy own in
    let kept = view_disciplined before slots host last v x in
    let a = pair_answered log q first second r h in
    let first_succeeds = λ (p : PostLine) (o : reaped_post c past q j ≡ Some p).
    release_succeeds c slots past swap two.first two.second p x.legal kept (knows.there swap here) refl
    (area_has slots l i) apart first_there second_there two.first_proper two.second_proper (inl o) in
    let second_succeeds = λ (p : PostLine) (o : reaped_post c past q (suc j) ≡ Some p).
    release_succeeds c slots past swap two.first two.second p x.legal kept (knows.there swap here) refl
    (area_has slots l i) apart first_there second_there two.first_proper two.second_proper (inr o) in
    sym a.by
    ∙ swapped (cqe_status a.first.cqe) (cqe_status a.second.cqe)
    (status_told c v.queue q first j v.seen log a.first told own k.call.1 first_succeeds)
    (status_told c v.queue q second (suc j) v.seen log a.second told own k.call.2 second_succeeds)

pub release_answer : (before : List PortEvent) (slots : Range) (host last : ℕ) (v : PortView) (q first second j l : ℕ)
    (n : Name) (r : Result Reply Status) → IsSlotView before slots host last v
    → IsReleaseIn (log_since before v) q first second j l n → has_block slots l ≡ true
    → call_outcome (log_since before v) q Op.Pair first second ≡ Some r → r ≡ Ok Reply.Swapped
release_answer before slots host last v q first second j l n r x k i h =
    let e = whole_log before slots host last v x in
    release_answered before slots host last v q first second j l n r x
    (subst (λ (log : List PortEvent). IsReleaseIn log q first second j l n) e k) i
    (ap (λ (log : List PortEvent). call_outcome log q Op.Pair first second) (sym e) ∙ h)

-- ---- a release that keeps the discipline

-- what the log believes then
record KeptRelease (c : ConfigNumbers) (past : Past) (q l : ℕ) (n : Name) : Type 0 where
  believed : believed c past l n ≡ true
  claim : Swap
  there : In claim (swaps past)
  claims : claim.claims ≡ true
  lba : claim.lba ≡ l
  name : claim.name ≡ n
  queue : completion_queue c claim.queue ≡ completion_queue c q

kept_release : (c : ConfigNumbers) (slots : Range) (past : Past) (q l first second : ℕ) (n : Name)
    (batch : List Submission) → IsName n → IsReleaseBatch l first second n batch → has_block slots l ≡ true
    → keeps_discipline c slots past (record { queue = q; batch = batch }) ≡ true → KeptRelease c past q l n
kept_release c slots past q l first second n batch x b v h =
    let j = length (published_entries past q) in
    let s = release_at q j l n in
    let alone : in_area slots (swaps_in q j batch) ≡ s ∷ [] =
    ap (in_area slots) (release_batch q j l first second n batch x b)
    ∙ cond-true (has_block slots l) (s ∷ []) [] v in
    let right : released_right c past [] (s ∷ []) ≡ true = ap (released_right c past []) (sym alone)
    ∙ (and_parts _ (released_right c past [] (in_area slots (swaps_in q j batch))) h).1 in
    let r = release_right c past [] (s ∷ []) s right (inl refl) refl in
    let w = any_in (λ w. w.claims && eqb w.lba l && same_name w.name n
    && eqb (completion_queue c w.queue) (completion_queue c q)) (swaps past) r.claim in
    let a = and_parts _ _ w.2 in
    let d = and_parts _ _ a.0 in
    let e = and_parts _ _ d.0 in
    record {
      believed = r.believed;
      claim = w.0;
      there = w.1;
      claims = e.0;
      lba = eqb-true _ _ e.1;
      name = name_eq w.0.name n d.1;
      queue = eqb-true _ _ a.1;
    }

pub kept_is_believed : (before : List PortEvent) (slots : Range) (host last : ℕ) (v : PortView) (q l first second : ℕ)
    (n : Name) (batch : List Submission) → IsSlotView before slots host last v
    → IsName n → IsReleaseBatch l first second n batch → has_block slots l ≡ true
    → completion_queue v.config q ≡ v.queue
    → keeps_discipline v.config slots (entries v.seen) (record { queue = q; batch = batch }) ≡ true
    → log_believed (log_since before v) l n ≡ true
kept_is_believed before slots host last v q l first second n batch x y b i e h =
    let k = kept_release v.config slots (entries v.seen) q l first second n batch y b i h in
    let here = (view_knows before slots host last v x).known k.claim k.there (k.queue ∙ e) in
    let host_is = claimed_host slots host (log_of v) k.claim
    (slot_rules_parts slots host last (log_of v) (view_slot_rules before slots host last v x)).each here k.claims
    (ap (has_block slots) k.lba ∙ i) in
    view_back before slots host last v l n x i (ap (λ (m : Name). m.host) (sym k.name) ∙ host_is) k.believed
