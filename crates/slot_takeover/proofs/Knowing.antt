-- The takeovers that a port published, and what its log says of them, stand in the history.
use Rattle.std.proofs.Common.{Bool, List, [], ap, ap₂, cond, eqb, eqb-true, false, inl, inr, length, not, refl, subst}
use Rattle.std.proofs.Common.{None, Option, Some, suc, sym, true, ℕ, ◌++◌, ◌||◌, ◌∙◌, ◌∷◌, ◌≡◌}
use Rattle.std.specs.List.{list_all}
use Rattle.std.proofs.lemmas.Bool.{and_parts, cond-true}
use Rattle.nvme_model.specs.Config.{completion_queue}
use Rattle.nvme_model.specs.EntryBytes.{slba, sqe_fields}
use Rattle.nvme_model.specs.History.{Past}
use Rattle.nvme_model.specs.Legal.{IsLegal}
use Rattle.nvme_model.specs.Passes.{SharedPast, entries}
use Rattle.nvme_model.specs.Queues.{published_entries}
use Rattle.nvme_model.specs.Slots.{Name, is_pair_on_one, name_of}
use Rattle.nvme_model.specs.declared.config.ConfigNumbers.{ConfigNumbers}
use Rattle.nvme_model.specs.declared.entry.Entry.{Entry}
use Rattle.nvme_model.specs.declared.submission.Submission.{Submission}
use Rattle.nvme_model.proofs.Beginnings.{earlier}
use Rattle.host_laws.specs.Beside.{IsSole, is_beside}
use Rattle.host_laws.proofs.Elements.{In, in_cases, in_left, in_right}
use Rattle.driver_calls.specs.Events.{IsToldByLog, event_at, events}
use Rattle.driver_calls.specs.Log.{is_tidy, sent}
use Rattle.driver_calls.specs.declared.event.PortEvent.{PortEvent}
use Rattle.driver_calls.proofs.Logs.{tidy_before}
use Rattle.driver_calls.proofs.Telling.{log_tells}
use Rattle.slot_log_laws.specs.Calls.{IsName, IsSentAs}
use Rattle.slot_log_laws.proofs.Batches.{pair_of, spelled}
use Rattle.host_laws.specs.Takeovers.{Takeover, takeover_by, takeover_of, takeovers, takeovers_in}
use Rattle.host_laws.proofs.Entries.{takeovers_later}
use Rattle.slot_takeover.specs.Takeovers.{IsTakeoverBatch}

-- the takeovers of a log, the newest batch first
abbrev pub log_takeovers : List PortEvent → List Takeover
log_takeovers [] = []
log_takeovers (PortEvent.Sent q batch ∷ log) = takeovers_in q (length (sent log q)) batch ++ log_takeovers log
log_takeovers (PortEvent.Got cqe payload ∷ log) = log_takeovers log

-- those of a batch are of its queue
by_queue : (q j l : ℕ) (m n : Option Name) (w : Takeover) → In w (takeover_by q j l m n) → w.queue ≡ q
by_queue q j l None n w i = absurd i
by_queue q j l (Some m) None w i = absurd i
by_queue q j l (Some m) (Some n) w i = go (not (eqb m.host n.host)) i
  where
    go : (b : Bool)
        → In w (cond b (record { queue = q; number = j; lba = l; dead = m; name = n } ∷ []) []) → w.queue ≡ q
    go true (inl e) = ap (λ (x : Takeover). x.queue) e
    go true (inr j) = absurd j
    go false j = absurd j

of_queue : (q j : ℕ) (a b : Submission) (w : Takeover) → In w (takeover_of q j a b) → w.queue ≡ q
of_queue q j a b w i = go (is_pair_on_one a b) i
  where
    go : (p : Bool)
        → In w (cond p (takeover_by q j (slba (sqe_fields a.entry)) (name_of a.payload) (name_of b.payload)) [])
        → w.queue ≡ q
    go true i = by_queue q j (slba (sqe_fields a.entry)) (name_of a.payload) (name_of b.payload) w i
    go false i = absurd i

takeovers_queue : (q j : ℕ) (batch : List Submission) (w : Takeover) → In w (takeovers_in q j batch) → w.queue ≡ q
takeovers_queue q j [] w i = absurd i
takeovers_queue q j (a ∷ []) w i = absurd i
takeovers_queue q j (a ∷ b ∷ rest) w i =
    elim (in_cases w (takeover_of q j a b) (takeovers_in q (suc j) (b ∷ rest)) i) [
      | inl x ↦ of_queue q j a b w x
      | inr x ↦ takeovers_queue q (suc j) (b ∷ rest) w x
    ]

-- ---- those of a log stand in the history

sent_there : (c : ConfigNumbers) (past : Past) (n : ℕ) (e : Entry) (log : List PortEvent) (w : Takeover)
    → IsToldByLog c past n log → (In w (log_takeovers log) → In w (takeovers past))
    → In w (log_takeovers (event_at c n past e ++ log)) → In w (takeovers (e ∷ past))
sent_there c past n (Entry.Publish p) log w t k i = go (eqb (completion_queue c p.queue) n) refl i
  where
    go : (b : Bool) → eqb (completion_queue c p.queue) n ≡ b
        → In w (log_takeovers (cond b (PortEvent.Sent p.queue p.batch ∷ []) [] ++ log))
        → In w (takeovers (Entry.Publish p ∷ past))
    go false z i = takeovers_later (Entry.Publish p ∷ []) past w (k i)
    go true z i =
        let same = t.entries_are p.queue (eqb-true (completion_queue c p.queue) n z) in
        let alike = ap (λ (xs : List Submission). takeovers_in p.queue (length xs) p.batch) same in
        elim (in_cases w (takeovers_in p.queue (length (sent log p.queue)) p.batch) (log_takeovers log) i) [
          | inl j ↦ in_left w (takeovers_in p.queue (length (published_entries past p.queue)) p.batch) (takeovers past)
              (subst (λ (xs : List Takeover). In w xs) (sym alike) j)
          | inr j ↦ takeovers_later (Entry.Publish p ∷ []) past w (k j)
        ]
sent_there c past n (Entry.Reap r) log w t k i = go _ (eqb r.queue n) i
  where
    go : (x : List ℕ) (b : Bool) → In w (log_takeovers (cond b (PortEvent.Got r.cqe x ∷ []) [] ++ log))
        → In w (takeovers past)
    go x true i = k i
    go x false i = k i
sent_there c past n (Entry.Fetch p) log w t k i = k i
sent_there c past n (Entry.Grant p) log w t k i = k i
sent_there c past n (Entry.Block p) log w t k i = k i
sent_there c past n (Entry.Post p) log w t k i = k i

pub log_there : (c : ConfigNumbers) (n p : ℕ) (shared : SharedPast) (w : Takeover) → IsLegal c (entries shared)
    → IsSole c n p shared → is_tidy (events c n p shared) ≡ true → In w (log_takeovers (events c n p shared))
    → In w (takeovers (entries shared))
log_there c n p [] w h o d i = absurd i
log_there c n p (m ∷ shared) w h o d i =
    let a = and_parts (is_beside c n m.1 || eqb m.0 p) (list_all (λ x. is_beside c n x.1 || eqb x.0 p) shared) o in
    let l = tidy_before (cond (eqb m.0 p) (event_at c n (entries shared) m.1) []) (events c n p shared) d in
    let legal = earlier c (m.1 ∷ []) (entries shared) h in
    go (eqb m.0 p) (log_tells c n p shared legal a.1 l) (log_there c n p shared w legal a.1 l) i
  where
    go : (b : Bool) → IsToldByLog c (entries shared) n (events c n p shared)
        → (In w (log_takeovers (events c n p shared)) → In w (takeovers (entries shared)))
        → In w (log_takeovers (cond b (event_at c n (entries shared) m.1) [] ++ events c n p shared))
        → In w (takeovers (m.1 ∷ entries shared))
    go true t k i = sent_there c (entries shared) n m.1 (events c n p shared) w t k i
    go false t k i = takeovers_later (m.1 ∷ []) (entries shared) w (k i)

-- what a port published stands on its completion queue
sent_own : (c : ConfigNumbers) (past : Past) (n : ℕ) (e : Entry) (log : List PortEvent) (w : Takeover)
    → (In w (log_takeovers log) → completion_queue c w.queue ≡ n)
    → In w (log_takeovers (event_at c n past e ++ log)) → completion_queue c w.queue ≡ n
sent_own c past n (Entry.Publish p) log w k i = go (eqb (completion_queue c p.queue) n) refl i
  where
    go : (b : Bool) → eqb (completion_queue c p.queue) n ≡ b
        → In w (log_takeovers (cond b (PortEvent.Sent p.queue p.batch ∷ []) [] ++ log))
        → completion_queue c w.queue ≡ n
    go false z i = k i
    go true z i =
        elim (in_cases w (takeovers_in p.queue (length (sent log p.queue)) p.batch) (log_takeovers log) i) [
          | inl j ↦ ap (completion_queue c) (takeovers_queue p.queue (length (sent log p.queue)) p.batch w j)
              ∙ eqb-true (completion_queue c p.queue) n z
          | inr j ↦ k j
        ]
sent_own c past n (Entry.Reap r) log w k i = go _ (eqb r.queue n) i
  where
    go : (x : List ℕ) (b : Bool) → In w (log_takeovers (cond b (PortEvent.Got r.cqe x ∷ []) [] ++ log))
        → completion_queue c w.queue ≡ n
    go x true i = k i
    go x false i = k i
sent_own c past n (Entry.Fetch p) log w k i = k i
sent_own c past n (Entry.Grant p) log w k i = k i
sent_own c past n (Entry.Block p) log w k i = k i
sent_own c past n (Entry.Post p) log w k i = k i

pub log_own : (c : ConfigNumbers) (n p : ℕ) (shared : SharedPast) (w : Takeover)
    → In w (log_takeovers (events c n p shared)) → completion_queue c w.queue ≡ n
log_own c n p [] w i = absurd i
log_own c n p (m ∷ shared) w i = go (eqb m.0 p) (log_own c n p shared w) i
  where
    go : (b : Bool) → (In w (log_takeovers (events c n p shared)) → completion_queue c w.queue ≡ n)
        → In w (log_takeovers (cond b (event_at c n (entries shared) m.1) [] ++ events c n p shared))
        → completion_queue c w.queue ≡ n
    go true k i = sent_own c (entries shared) n m.1 (events c n p shared) w k i
    go false k i = k i

-- ---- a takeover's batch has its takeover

takeover_made : (q j : ℕ) (a b : Submission) (dead n : Name) → is_pair_on_one a b ≡ true
    → name_of a.payload ≡ Some dead → name_of b.payload ≡ Some n → eqb dead.host n.host ≡ false
    → takeover_of q j a b
    ≡ record { queue = q; number = j; lba = slba (sqe_fields a.entry); dead = dead; name = n } ∷ []
takeover_made q j a b dead n p e f u =
    let l = slba (sqe_fields a.entry) in
    let w : Takeover = record { queue = q; number = j; lba = l; dead = dead; name = n } in
    cond-true (is_pair_on_one a b) (takeover_by q j l (name_of a.payload) (name_of b.payload)) [] p
    ∙ (ap₂ (takeover_by q j l) e f ∙ cond-true (not (eqb dead.host n.host)) (w ∷ []) [] (ap not u))

pub batch_takes : (q j l first second : ℕ) (dead n : Name) (batch : List Submission) → IsName dead → IsName n
    → eqb dead.host n.host ≡ false → IsTakeoverBatch l first second dead n batch
    → In (record { queue = q; number = j; lba = l; dead = dead; name = n }) (takeovers_in q j batch)
batch_takes q j l first second dead n batch x y u k =
    let p = pair_of l first second _ _ batch k in
    let w : Takeover = record { queue = q; number = j; lba = slba (sqe_fields p.first.entry); dead = dead; name = n } in
    let made = takeover_made q j p.first p.second dead n p.on_one (ap name_of p.old ∙ spelled dead x)
    (ap name_of p.new ∙ spelled n y) u in
    let now : In w (takeovers_in q j (p.first ∷ p.second ∷ [])) =
    in_left w (takeover_of q j p.first p.second) [] (subst (λ (xs : List Takeover). In w xs) (sym made) (inl refl)) in
    subst (λ (z : ℕ × List Submission).
    In (record { queue = q; number = j; lba = z.0; dead = dead; name = n }) (takeovers_in q j z.1))
    (λ i. (p.lba i, sym p.are i)) now

log_takeovers_later : (later log : List PortEvent) (w : Takeover) → In w (log_takeovers log)
    → In w (log_takeovers (later ++ log))
log_takeovers_later [] log w i = i
log_takeovers_later (PortEvent.Sent q batch ∷ later) log w i =
    in_right w (takeovers_in q (length (sent (later ++ log) q)) batch) (log_takeovers (later ++ log))
    (log_takeovers_later later log w i)
log_takeovers_later (PortEvent.Got cqe payload ∷ later) log w i = log_takeovers_later later log w i

pub takeover_sent : (log : List PortEvent) (q j : ℕ) (batch : List Submission) (w : Takeover) → IsSentAs log q j batch
    → In w (takeovers_in q j batch) → In w (log_takeovers log)
takeover_sent log q j batch w x i =
    let now : In w (log_takeovers (PortEvent.Sent q batch ∷ x.before)) =
    in_left w (takeovers_in q (length (sent x.before q)) batch) (log_takeovers x.before)
    (subst (λ (k : ℕ). In w (takeovers_in q k batch)) (sym x.number) i) in
    subst (λ (xs : List PortEvent). In w (log_takeovers xs)) x.whole
    (log_takeovers_later x.later (PortEvent.Sent q batch ∷ x.before) w now)
