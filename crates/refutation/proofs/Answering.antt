-- A completion's status is one that its entry may be answered.
use Rattle.nvme_model.specs.Tickets
use Rattle.std.proofs.Common.{eq-eqb, length, ◌≡◌, ℕ, zero, suc, true, false, List, ◌∷◌, Option}
use Rattle.std.proofs.Common.{Some, slice_get, not, sym, ap, ap₂, ◌∙◌, subst, subst₂, inl, inr, arith}
use Rattle.std.proofs.lemmas.Bool.{and_from, or_left, or_right}
use Rattle.nvme_model.specs.Completions.{reaped_count, reaped_payload}
use Rattle.nvme_model.specs.EntryBytes.{cqe_fields, sqe_fields}
use Rattle.nvme_model.specs.History.{Past}
use Rattle.nvme_model.specs.Legal.{IsLegal}
use Rattle.nvme_model.specs.Owed.{owed}
use Rattle.nvme_model.specs.Queues.{published_entries}
use Rattle.nvme_model.specs.Tickets.{Ticket, command, posts_of}
use Rattle.nvme_model.specs.Verdict.{taken_entries}
use Rattle.nvme_model.specs.declared.config.ConfigNumbers.{ConfigNumbers}
use Rattle.nvme_model.specs.declared.entry.Entry.{Entry}
use Rattle.nvme_model.specs.declared.entry.PostLine.{PostLine}
use Rattle.nvme_model.specs.declared.entry.ReapLine.{ReapLine}
use Rattle.nvme_model.specs.declared.status.Status.{Status}
use Rattle.nvme_model.specs.declared.submission.Submission.{Submission}
use Rattle.nvme_model.proofs.Beginnings.{earlier}
use Rattle.nvme_model.proofs.Rules.{follows}
use Rattle.host_laws.specs.Calls.{ReapAnswers, cqe_status}
use Rattle.host_laws.proofs.Calls.{First, PostOf, Second, Seen, seen, which}
use Rattle.host_laws.proofs.Elements.{same_some}
use Rattle.host_laws.proofs.PostedAnswers.{PostedAt, answer_at}
use Rattle.host_laws.proofs.Statuses.{post_is}
use Rattle.trace.specs.Observed.{observed}
use Rattle.trace.specs.declared.seen.ReapedLine.{ReapedLine}
use Rattle.trace.specs.declared.seen.Seen as seen_lines
use Rattle.refutation.specs.Lines.{published_in}
use Rattle.refutation.specs.LineRules.{has_wrong_data, has_wrong_status, may_not_answer, number_may_not}
use Rattle.refutation.specs.LineRules.{number_owes_other, owes_other_data}
use Rattle.refutation.specs.MayAnswer.{data_owed}
use Rattle.refutation.proofs.ReadLengths.{data_length_is}
use Rattle.refutation.specs.MayAnswer.{answers_first, answers_second, may_answer, may_answer_behind, parts_pair}
use Rattle.refutation.specs.MayAnswer.{may_answer_first, may_answer_second, verdict_at}
use Rattle.refutation.proofs.Fetching.{FetchOf, fetch_of}
use Rattle.refutation.proofs.LastLine.{LastReap, answers, reap_of, reaped_answer}
use Rattle.refutation.proofs.LineRules.{names_its_entry}
use Rattle.refutation.proofs.Lines.{answers_one, published_seen, tidy_on}
use Rattle.refutation.proofs.WholePairs.{alone_takes_one, begins_whole}
use Rattle.refutation.proofs.TableStatus.{owes_first, owes_second}

-- ---- the Post of an entry

-- that of the completion that a Reap takes
pub posted_of : (c : ConfigNumbers) (past : Past) (r : ReapLine) (x : ReapAnswers c past r)
    → IsLegal c past → PostOf c past x.queue x.number x.post
posted_of c past r x h =
    let y = reaped_answer c past r x in
    let there = answer_at c past r.queue (reaped_count past r.queue) y.answer y.at in
    let at : PostedAt past x.queue x.number x.post =
    subst (λ (p : PostLine). PostedAt past x.queue x.number p) y.post
    (subst₂ (λ (q j : ℕ). PostedAt past q j y.answer.post) y.queue y.number there) in
    let legal = earlier c at.later (Entry.Post x.post ∷ at.before) (subst (λ (z : Past). IsLegal c z) at.is h) in
    record {
      at = at;
      legal = legal;
      before = (follows c at.before (Entry.Post x.post) legal).before;
      is = post_is c at.before x.post legal;
    }

-- ---- its status

pub first_allowed : (c : ConfigNumbers) (past : Past) (q j : ℕ) (p : PostLine) (s : Submission) → IsLegal c past
    → (f : PostOf c past q j p) → slice_get (published_entries past q) j ≡ Some s
    → (n : Seen past f.at.before p.ticket q) → (x : First f.at.before p.ticket j s)
    → parts_pair (observed c past) q j ≡ false → FetchOf c past (Tickets.ticket past p.ticket).verdict q j
    → may_answer_first c (observed c past) q j s (cqe_status p.cqe) ≡ true
first_allowed c past q j p s h f e n x w g =
    let before = f.at.before in
    let k = Tickets.ticket before p.ticket in
    let st = cqe_status p.cqe in
    let owes : slice_get (owed c before p.ticket) 0 ≡ Some st =
    ap (λ (i : ℕ). slice_get (owed c before p.ticket) i) (sym x.posts) ∙ f.is.owed in
    let v : k.verdict ≡ verdict_at c g.first g.next = ap (λ (z : Ticket). z.verdict) (sym n.ticket) ∙ g.verdict in
    let same : g.first ≡ s = same_some g.first s (slice_get (published_entries past q) j) g.there e in
    let says : answers_first (verdict_at c s g.next) (sqe_fields s.entry) st ≡ true =
    subst₂ (λ (a b : Submission). answers_first (verdict_at c a g.next) (sqe_fields b.entry) st ≡ true) same x.entry
    (owes_first c before p.ticket (verdict_at c g.first g.next) st v owes) in
    and_from _ _ (ap not w)
    (elim g.behind [
      | inl m ↦
          let next : g.next ≡ slice_get (published_in (observed c past) q) (suc j) =
          m ∙ ap (λ (l : List Submission). slice_get l (suc j)) (published_seen c past q) in
          or_left _ _
          (subst (λ (o : Option Submission). answers_first (verdict_at c s o) (sqe_fields s.entry) st ≡ true) next says)
      | inr m ↦
          or_right
          (answers_first (verdict_at c s (slice_get (published_in (observed c past) q) (suc j)))
          (sqe_fields s.entry) st)
          _
          (and_from _ _ (ap not m.1)
          (subst (λ (o : Option Submission). answers_first (verdict_at c s o) (sqe_fields s.entry) st ≡ true) m.0 says))
    ])

second_allowed : (c : ConfigNumbers) (past : Past) (q i : ℕ) (p : PostLine) (s : Submission) → IsLegal c past
    → (f : PostOf c past q (suc i) p) → slice_get (published_entries past q) (suc i) ≡ Some s
    → (n : Seen past f.at.before p.ticket q) → (x : Second f.at.before p.ticket (suc i) s)
    → FetchOf c past (Tickets.ticket past p.ticket).verdict q i
    → may_answer_second c (observed c past) q (suc i) s (cqe_status p.cqe) ≡ true
second_allowed c past q i p s h f e n x g =
    let before = f.at.before in
    let k = Tickets.ticket before p.ticket in
    let st = cqe_status p.cqe in
    let owes : slice_get (owed c before p.ticket) 1 ≡ Some st =
    ap (λ (m : ℕ). slice_get (owed c before p.ticket) m) (sym x.posts) ∙ f.is.owed in
    let v : k.verdict ≡ verdict_at c g.first g.next = ap (λ (z : Ticket). z.verdict) (sym n.ticket) ∙ g.verdict in
    let two : taken_entries (verdict_at c g.first g.next) ≡ 2 = ap taken_entries (sym v) ∙ x.two in
    let says = owes_second c before p.ticket (verdict_at c g.first g.next) st v owes two in
    let next : g.next ≡ Some s = elim g.behind [
      | inl m ↦ m ∙ e
      | inr m ↦ absurd (omega (
        arith,
        two,
        ap (λ (o : Option Submission). taken_entries (verdict_at c g.first o)) m.0,
        alone_takes_one c g.first,
      ))
    ] in
    let there : slice_get (published_in (observed c past) q) i ≡ Some g.first =
    ap (λ (l : List Submission). slice_get l i) (sym (published_seen c past q)) ∙ g.there in
    ap (λ (o : Option Submission). may_answer_behind c o s st) there
    ∙ subst (λ (o : Option Submission). answers_second (verdict_at c g.first o) st ≡ true) next says

behind_allowed : (c : ConfigNumbers) (past : Past) (q j : ℕ) (p : PostLine) (s : Submission) → IsLegal c past
    → tidy_on q (observed c past) ≡ true → (f : PostOf c past q j p) → slice_get (published_entries past q) j ≡ Some s
    → Seen past f.at.before p.ticket q → Second f.at.before p.ticket j s
    → may_answer_second c (observed c past) q j s (cqe_status p.cqe) ≡ true
behind_allowed c past q zero p s h d f e n x = absurd (omega (arith, x.number))
behind_allowed c past q (suc i) p s h d f e n x =
    second_allowed c past q i p s h f e n x
    (fetch_of c past p.ticket q i h d f.is.some n.known n.queue (omega (arith, n.number, x.number)))

pub status_allowed : (c : ConfigNumbers) (past : Past) (q j : ℕ) (p : PostLine) (s : Submission) → IsLegal c past
    → tidy_on q (observed c past) ≡ true → PostOf c past q j p → slice_get (published_entries past q) j ≡ Some s
    → may_answer c (observed c past) q j s (cqe_status p.cqe) ≡ true
status_allowed c past q j p s h d f e =
    let n = seen c past q j p f h in
    elim (which c past q j p s f e) [
      | inl x ↦ or_left _ _ (first_allowed c past q j p s h f e n x
          (begins_whole c past p.ticket q j h d f.is.some n.known n.queue (n.number ∙ x.number))
          (fetch_of c past p.ticket q j h d f.is.some n.known n.queue (n.number ∙ x.number)))
      | inr x ↦ or_right (may_answer_first c (observed c past) q j s (cqe_status p.cqe)) _
          (behind_allowed c past q j p s h d f e n x)
    ]

-- ---- the rule

-- the entry that it answers is published
entry_there : (c : ConfigNumbers) (r : ReapedLine) (trace : List seen_lines.Seen) (l : LastReap c r trace)
    → slice_get (published_in trace (answers c r trace l).queue) (answers c r trace l).number
    ≡ Some (answers c r trace l).entry
entry_there c r trace l =
    let x = answers c r trace l in
    ap (λ (t : List seen_lines.Seen). slice_get (published_in t x.queue) x.number) (sym l.seen)
    ∙ (ap (λ (xs : List Submission). slice_get xs x.number) (sym (published_seen c l.before x.queue)) ∙ x.published)

pub status_right : (c : ConfigNumbers) (r : ReapedLine) (trace : List seen_lines.Seen)
    → tidy_on (cqe_fields r.cqe).sqid trace ≡ true
    → LastReap c r trace → has_wrong_status c trace r ≡ false
status_right c r trace d l =
    let line = reap_of r in
    let x = answers c r trace l in
    let named : tidy_on (cqe_fields r.cqe).sqid (observed c l.before) ≡ true =
    subst (λ (t : List seen_lines.Seen). tidy_on (cqe_fields r.cqe).sqid t ≡ true) (sym l.seen) d in
    let legal = (follows c l.before (Entry.Reap line) l.legal).before in
    let a = answers_one c l.before line l.legal named in
    let tidy : tidy_on x.queue (observed c l.before) ≡ true =
    subst (λ (q : ℕ). tidy_on q (observed c l.before) ≡ true) a.sqid named in
    let st : cqe_status x.post.cqe ≡ cqe_status r.cqe = ap cqe_status x.cqe in
    let may : may_answer c trace x.queue x.number x.entry (cqe_status r.cqe) ≡ true =
    subst₂ (λ (t : List seen_lines.Seen) (s : Status). may_answer c t x.queue x.number x.entry s ≡ true) l.seen st
    (status_allowed c l.before x.queue x.number x.post x.entry legal tidy (posted_of c l.before line x legal)
    x.published) in
    ap₂ (λ (q : ℕ) (o : Option ℕ). number_may_not c trace q o (cqe_status r.cqe)) a.sqid
    (names_its_entry c r trace d l)
    ∙ (ap (λ (o : Option Submission). may_not_answer c trace x.queue x.number o (cqe_status r.cqe))
    (entry_there c r trace l) ∙ ap not may)

-- and so is the data beside it
pub data_right : (c : ConfigNumbers) (r : ReapedLine) (trace : List seen_lines.Seen)
    → tidy_on (cqe_fields r.cqe).sqid trace ≡ true
    → LastReap c r trace → has_wrong_data trace r ≡ false
data_right c r trace d l =
    let line = reap_of r in
    let x = answers c r trace l in
    let tidy : tidy_on (cqe_fields r.cqe).sqid (observed c l.before) ≡ true =
    subst (λ (t : List seen_lines.Seen). tidy_on (cqe_fields r.cqe).sqid t ≡ true) (sym l.seen) d in
    let legal = (follows c l.before (Entry.Reap line) l.legal).before in
    let a = answers_one c l.before line l.legal tidy in
    let bytes : x.post.payload ≡ r.payload = sym (ap reaped_payload x.posted) ∙ l.payload in
    let owed : length r.payload ≡ data_owed x.entry (cqe_status r.cqe) =
    ap (λ (b : List ℕ). length b) (sym bytes)
    ∙ (data_length_is c l.before x.queue x.number x.post x.entry (posted_of c l.before line x legal) x.published
    ∙ ap (λ (b : List ℕ). data_owed x.entry (cqe_status b)) x.cqe) in
    ap₂ (λ (q : ℕ) (o : Option ℕ). number_owes_other trace q o (cqe_status r.cqe) (length r.payload)) a.sqid
    (names_its_entry c r trace d l)
    ∙ (ap (λ (o : Option Submission). owes_other_data o (cqe_status r.cqe) (length r.payload))
    (entry_there c r trace l) ∙ ap not (eq-eqb (length r.payload) (data_owed x.entry (cqe_status r.cqe)) owed))
