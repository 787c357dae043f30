-- What is kept after one more entry, and what is said of it.
use Rattle.std.proofs.Common.{◌≡◌, ℕ, suc, ◌+◌, ◌-◌, ◌%◌, ◌==◌, ◌<◌, Bool, true, false, cond, List, [], ◌∷◌, ◌++◌, drop}
use Rattle.std.proofs.Common.{get_or, length, set, slice_get, Option, Some, None, refl, sym, ap, ◌∙◌, subst, arith}
use Rattle.std.proofs.Common.{eq-eqb, ne_eqb, inl, inr}
use Rattle.std.proofs.lemmas.Bool.{cases_eq}
use Rattle.std.proofs.lemmas.List.{append-nil, get_or-set_other, get_or-set_same, length-set}
use Rattle.nvme_model.specs.Config.{completion_queue, config_fault}
use Rattle.nvme_model.specs.EntryBytes.{cqe_fields}
use Rattle.nvme_model.specs.History.{Past}
use Rattle.nvme_model.specs.Legal.{IsLegal, legal}
use Rattle.nvme_model.specs.Tickets
use Rattle.nvme_model.specs.declared.config.ConfigNumbers.{ConfigNumbers}
use Rattle.nvme_model.specs.declared.entry.Entry.{Entry}
use Rattle.nvme_model.specs.declared.entry.PostLine.{PostLine}
use Rattle.nvme_model.specs.declared.entry.ReapLine.{ReapLine}
use Rattle.nvme_model.proofs.Rules.{follows}
use Rattle.history_check.specs.Kept.{Stands, CheckerRun}
use Rattle.rings.specs.Tables.{IsTable}
use Rattle.trace.specs.Observed.{next_payload, shown}
use Rattle.trace.specs.declared.options.TraceOptions.{TraceOptions}
use Rattle.trace.specs.declared.seen.Seen.{Seen}
use Rattle.witness_check.specs.Followed.{Compares, Followed, FollowsHistory, TellsEntry, is_inner}
use Rattle.witness_check.specs.Waiting.{data_or_none, waiting_payloads}
use Rattle.witness_check.specs.declared.witness.Told.{Told}
use Rattle.witness_check.specs.declared.witness.Told.TheVariants.{Bad, Hidden, Same, Unlike}
use Rattle.witness_check.proofs.Queues.{post_names_queue, reap_has_queue}
use Rattle.witness_check.proofs.Waiting.{reaped_is_first, waits_posted, waits_reaped}

-- the data that waits, by completion queue, is that of this history
abbrev pub IsWaiting : ConfigNumbers → Past → List (List (List ℕ)) → Type 0
IsWaiting c past ws = IsTable (λ k. waiting_payloads c past (suc k)) c.cqs ws

-- what a checker says of an entry that it takes
abbrev pub Took : CheckerRun → Entry → Bool → CheckerRun → Type 0
Took old e b new = (past : Past) → Stands old.config past old
    → (b ≡ legal old.config (e ∷ past)) × Stands old.config (e ∷ past) new

module _ (c : ConfigNumbers) (past : Past) (e : Entry) (old new : CheckerRun) (b : Bool) (stands : Stands c past old)
    (took : Took old e b new) where
  -- of the history that it stands for
  answered : (b ≡ legal c (e ∷ past)) × Stands c (e ∷ past) new
  answered =
      subst (λ (d : ConfigNumbers). (b ≡ legal d (e ∷ past)) × Stands d (e ∷ past) new) stands.same
      (took past (subst (λ (d : ConfigNumbers). Stands d past old) (sym stands.same) stands))

  -- a bad one
  pub told_bad : (o : TraceOptions) (ws : List (List (List ℕ))) (next : Option Seen) → b ≡ false
      → TellsEntry o c past e next Bad × FollowsHistory c (e ∷ past) (record { checker = new; waiting = ws })
  told_bad o ws next bad = (
    sym answered.0 ∙ bad,
    record { stands = answered.1; waits = λ l. absurd (let f : false ≡ true = sym bad ∙ answered.0 ∙ l in cc) },
  )

  -- a legal one, where the data that waits goes on
  pub goes_on : (ws us : List (List (List ℕ))) → b ≡ true → (legal c past ≡ true → IsWaiting c past ws)
      → (config_fault c ≡ None → IsLegal c (e ∷ past) → IsWaiting c past ws → IsWaiting c (e ∷ past) us)
      → IsLegal c (e ∷ past) × FollowsHistory c (e ∷ past) (record { checker = new; waiting = us })
  goes_on ws us good waits more =
      let l : legal c (e ∷ past) ≡ true = sym answered.0 ∙ good in
      let keeps = answered.1.keeps (answered.1.answer ∙ l) in (
        l,
        record { stands = answered.1; waits = λ _. more keeps.accepted l (waits (follows c past e l).before) },
      )

-- what is said of a legal entry goes by what is seen of it
pub tells_by : (o : TraceOptions) (c : ConfigNumbers) (past : Past) (e : Entry) (next : Option Seen) (t : Told)
    → IsLegal c (e ∷ past)
    → Compares o (shown c past e) next t → TellsEntry o c past e next t
tells_by o c past e next Bad l h = absurd h
tells_by o c past e next Hidden l h = (l, h)
tells_by o c past e next Same l h = (l, h)
tells_by o c past e next (Unlike d) l h = (l, h)

-- ---- an entry of a ticket alone

-- what waits stays
pub told_hidden : (o : TraceOptions) (c : ConfigNumbers) (past : Past) (e : Entry) (old : Followed) (new : CheckerRun)
    (next : Option Seen)
    (b : Bool) → is_inner e ≡ true → FollowsHistory c past old
    → b ≡ true → Took old.checker e b new
    → TellsEntry o c past e next Hidden × FollowsHistory c (e ∷ past) (record { checker = new; waiting = old.waiting })
told_hidden o c past (Entry.Fetch p) old new next b inner f good took =
    let r = goes_on c past (Entry.Fetch p) old.checker new b f.stands took old.waiting old.waiting good f.waits
    (λ _ _ w. w) in
    ((r.0, refl), r.1)
told_hidden o c past (Entry.Grant p) old new next b inner f good took =
    let r = goes_on c past (Entry.Grant p) old.checker new b f.stands took old.waiting old.waiting good f.waits
    (λ _ _ w. w) in
    ((r.0, refl), r.1)
told_hidden o c past (Entry.Block p) old new next b inner f good took =
    let r = goes_on c past (Entry.Block p) old.checker new b f.stands took old.waiting old.waiting good f.waits
    (λ _ _ w. w) in
    ((r.0, refl), r.1)
told_hidden o c past (Entry.Publish p) old new next b inner f good took = absurd (let w : false ≡ true = inner in cc)
told_hidden o c past (Entry.Post p) old new next b inner f good took = absurd (let w : false ≡ true = inner in cc)
told_hidden o c past (Entry.Reap p) old new next b inner f good took = absurd (let w : false ≡ true = inner in cc)

-- ---- a Post

-- its data waits behind the others of its queue
pub more_waits : (c : ConfigNumbers) (past : Past) (p : PostLine) (i : ℕ) (ws us : List (List (List ℕ)))
    → (0 < length ws → i ≡ ((cqe_fields p.cqe).sqid - 1) % length ws)
    → us ≡ set ws i (get_or ws i [] ++ p.payload ∷ []) → config_fault c ≡ None → IsLegal c (Entry.Post p ∷ past)
    → IsWaiting c past ws → IsWaiting c (Entry.Post p ∷ past) us
more_waits c past p i ws us place is accepted l t =
    record {
      size = ap length is ∙ length-set ws i (get_or ws i [] ++ p.payload ∷ []) ∙ t.size;
      at = λ k d below. ap (λ (xs : List (List (List ℕ))). get_or xs k d) is ∙ at k d below;
    }
  where
    q : ℕ
    q = (Tickets.ticket past p.ticket).queue

    own : (k : ℕ) → k < c.cqs → completion_queue c q ≡ suc i
    own k below =
        let there : i ≡ ((cqe_fields p.cqe).sqid - 1) % length ws = place (omega (arith, t.size, below)) in
        let same : i ≡ (q - 1) % c.cqs = there ∙ ap (λ n. (n - 1) % length ws) (post_names_queue c past p accepted l)
        ∙ ap (λ n. (q - 1) % n) t.size in
        omega (arith, same)

    waits : (k : ℕ) → waiting_payloads c (Entry.Post p ∷ past) (suc k) ≡ waiting_payloads c past (suc k)
        ++ cond (completion_queue c q == suc k) (p.payload ∷ []) []
    waits k = waits_posted c past p (suc k) (follows c past (Entry.Post p) l).before

    at : (k : ℕ) (d : List (List ℕ)) → k < c.cqs
        → get_or (set ws i (get_or ws i [] ++ p.payload ∷ [])) k d ≡ waiting_payloads c (Entry.Post p ∷ past) (suc k)
    at k d below = elim (cases_eq k i) [
      | inl same ↦
          let here : k < length ws = omega (arith, t.size, below) in
          let yes : (completion_queue c q == suc k) ≡ true = eq-eqb _ _ (own k below ∙ ap suc (sym same)) in
          ap (λ j. get_or (set ws j (get_or ws j [] ++ p.payload ∷ [])) k d) (sym same)
          ∙ get_or-set_same ws k (get_or ws k [] ++ p.payload ∷ []) d here
          ∙ ap (λ (xs : List (List ℕ)). xs ++ p.payload ∷ []) (t.at k [] below)
          ∙ sym (waits k ∙ ap (λ b. waiting_payloads c past (suc k) ++ cond b (p.payload ∷ []) []) yes)
      | inr apart ↦
          let no : (completion_queue c q == suc k) ≡ false = ne_eqb _ _ (λ z. apart (omega (arith, z, own k below))) in
          get_or-set_other ws i k (get_or ws i [] ++ p.payload ∷ []) d apart
          ∙ t.at k d below
          ∙ sym (waits k ∙ ap (λ b. waiting_payloads c past (suc k) ++ cond b (p.payload ∷ []) []) no
          ∙ append-nil (waiting_payloads c past (suc k)))
    ]

pub told_posted : (o : TraceOptions) (c : ConfigNumbers) (past : Past) (p : PostLine) (e : Entry) (old : Followed)
    (new : CheckerRun)
    (i : ℕ)
    (us : List (List (List ℕ))) (next : Option Seen) (b : Bool) → e ≡ Entry.Post p → FollowsHistory c past old
    → b ≡ true → Took old.checker e b new
    → (0 < length old.waiting → i ≡ ((cqe_fields p.cqe).sqid - 1) % length old.waiting)
    → us ≡ set old.waiting i (get_or old.waiting i [] ++ p.payload ∷ [])
    → TellsEntry o c past e next Hidden × FollowsHistory c (e ∷ past) (record { checker = new; waiting = us })
told_posted o c past p e old new i us next b kind f good took place is =
    subst (λ (x : Entry). Took old.checker x b new
    → TellsEntry o c past x next Hidden
    × FollowsHistory c (x ∷ past) (record { checker = new; waiting = us })) (sym kind) there
    took
  where
    there : Took old.checker (Entry.Post p) b new
        → TellsEntry o c past (Entry.Post p) next Hidden
        × FollowsHistory c (Entry.Post p ∷ past) (record { checker = new; waiting = us })
    there t =
        let r = goes_on c past (Entry.Post p) old.checker new b f.stands t old.waiting us good f.waits
        (more_waits c past p i old.waiting us place is) in
        ((r.0, refl), r.1)

-- ---- a Reap

-- its data is gone
pub fewer_wait : (c : ConfigNumbers) (past : Past) (r : ReapLine) (i : ℕ) (ws us : List (List (List ℕ)))
    → i + 1 ≡ r.queue → i < c.cqs
    → us ≡ set ws i (drop 1 (get_or ws i [])) → IsWaiting c past ws → IsWaiting c (Entry.Reap r ∷ past) us
fewer_wait c past r i ws us next within is t =
    record {
      size = ap length is ∙ length-set ws i (drop 1 (get_or ws i [])) ∙ t.size;
      at = λ k d below. ap (λ (xs : List (List (List ℕ))). get_or xs k d) is ∙ at k d below;
    }
  where
    at : (k : ℕ) (d : List (List ℕ)) → k < c.cqs
        → get_or (set ws i (drop 1 (get_or ws i []))) k d ≡ waiting_payloads c (Entry.Reap r ∷ past) (suc k)
    at k d below = elim (cases_eq k i) [
      | inl same ↦
          let here : k < length ws = omega (arith, t.size, below) in
          let yes : (r.queue == suc k) ≡ true = eq-eqb _ _ (omega (arith, same, next)) in
          ap (λ j. get_or (set ws j (drop 1 (get_or ws j []))) k d) (sym same)
          ∙ get_or-set_same ws k (drop 1 (get_or ws k [])) d here
          ∙ ap (λ (xs : List (List ℕ)). drop 1 xs) (t.at k [] below)
          ∙ sym (waits_reaped c past r (suc k) ∙ ap (λ b. drop (cond b 1 0) (waiting_payloads c past (suc k))) yes)
      | inr apart ↦
          let no : (r.queue == suc k) ≡ false = ne_eqb _ _ (λ z. apart (omega (arith, z, next))) in
          get_or-set_other ws i k (drop 1 (get_or ws i [])) d apart
          ∙ t.at k d below
          ∙ sym (waits_reaped c past r (suc k) ∙ ap (λ b. drop (cond b 1 0) (waiting_payloads c past (suc k))) no)
    ]

-- what a Reap with this data shows
abbrev pub reap_with : ReapLine → List ℕ → Seen
reap_with r xs = Seen.Reaped (record { queue = r.queue; cqe = r.cqe; payload = xs })

pub told_reaped : (o : TraceOptions) (c : ConfigNumbers) (past : Past) (r : ReapLine) (e : Entry) (old : Followed)
    (new : CheckerRun)
    (i : ℕ)
    (us : List (List (List ℕ))) (d : Option (List ℕ)) (next : Option Seen) (t : Told) (b : Bool)
    → e ≡ Entry.Reap r → FollowsHistory c past old → b ≡ true → Took old.checker e b new → i ≡ r.queue - 1
    → d ≡ slice_get (get_or old.waiting i []) 0 → us ≡ set old.waiting i (drop 1 (get_or old.waiting i []))
    → Compares o (Some (reap_with r (data_or_none d))) next t
    → TellsEntry o c past e next t × FollowsHistory c (e ∷ past) (record { checker = new; waiting = us })
told_reaped o c past r e old new i us d next t b kind f good took place first is said =
    subst (λ (x : Entry). Took old.checker x b new
    → TellsEntry o c past x next t
    × FollowsHistory c (x ∷ past) (record { checker = new; waiting = us })) (sym kind) there took
  where
    there : Took old.checker (Entry.Reap r) b new
        → TellsEntry o c past (Entry.Reap r) next t
        × FollowsHistory c (Entry.Reap r ∷ past) (record { checker = new; waiting = us })
    there took =
        let a = answered c past (Entry.Reap r) old.checker new b f.stands took in
        let l : legal c (Entry.Reap r ∷ past) ≡ true = sym a.0 ∙ good in
        let h = reap_has_queue c past r l in
        let at : i + 1 ≡ r.queue = omega (arith, place, h.low) in
        let within : i < c.cqs = omega (arith, at, h.high) in
        let table : IsWaiting c past old.waiting = f.waits (follows c past (Entry.Reap r) l).before in
        let found : data_or_none d ≡ next_payload c past r.queue =
        ap data_or_none first ∙ ap (λ (xs : List (List ℕ)). data_or_none (slice_get xs 0))
        (table.at i [] within ∙ ap (waiting_payloads c past) (omega (arith, at)))
        ∙ sym (reaped_is_first c past r.queue) in
        let rest = goes_on c past (Entry.Reap r) old.checker new b f.stands took old.waiting us good f.waits
        (λ _ _ w. fewer_wait c past r i old.waiting us at within is w) in (
          tells_by o c past (Entry.Reap r) next t l
              (subst (λ (xs : List ℕ). Compares o (Some (reap_with r xs)) next t) found said),
          rest.1,
        )

-- ---- of a history that is known to be legal

-- what a Reap shows is what waits first
pub reaped_data : (c : ConfigNumbers) (past : Past) (r : ReapLine) (i : ℕ) (ws : List (List (List ℕ)))
    (d : Option (List ℕ)) → IsLegal c (Entry.Reap r ∷ past) → i ≡ r.queue - 1 → d ≡ slice_get (get_or ws i []) 0
    → IsWaiting c past ws → data_or_none d ≡ next_payload c past r.queue
reaped_data c past r i ws d l place first table =
    let h = reap_has_queue c past r l in
    let at : i + 1 ≡ r.queue = omega (arith, place, h.low) in
    let within : i < c.cqs = omega (arith, at, h.high) in
    ap data_or_none first ∙ ap (λ (xs : List (List ℕ)). data_or_none (slice_get xs 0))
    (table.at i [] within ∙ ap (waiting_payloads c past) (omega (arith, at)))
    ∙ sym (reaped_is_first c past r.queue)

-- and then it waits no more
pub reaped_waits : (c : ConfigNumbers) (past : Past) (r : ReapLine) (i : ℕ) (ws us : List (List (List ℕ)))
    → IsLegal c (Entry.Reap r ∷ past) → i ≡ r.queue - 1 → us ≡ set ws i (drop 1 (get_or ws i []))
    → IsWaiting c past ws → IsWaiting c (Entry.Reap r ∷ past) us
reaped_waits c past r i ws us l place is table =
    let h = reap_has_queue c past r l in
    let at : i + 1 ≡ r.queue = omega (arith, place, h.low) in
    fewer_wait c past r i ws us at (omega (arith, at, h.high)) is table
