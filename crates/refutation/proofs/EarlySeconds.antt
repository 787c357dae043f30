-- No second of a pair is answered before its first, unless it was fetched alone.
use Rattle.nvme_model.specs.Tickets
use Rattle.std.proofs.Common.{◌≡◌, ℕ, zero, suc, ◌<◌, Bool, true, false, ◌&&◌, ◌||◌, not, cond, List, [], ◌∷◌}
use Rattle.std.proofs.Common.{◌++◌, ◌⊎◌, Option, None, Some, is_none, length, slice_get, refl, sym, ap, ap₂, ◌∙◌, subst}
use Rattle.std.proofs.Common.{subst₂, inl, inr, arith, eqb, eqb-true}
use Rattle.std.proofs.lemmas.Bool.{and_parts, cond-false, cond-true, or_cases}
use Rattle.std.proofs.lemmas.List.{length-map}
use Rattle.std.proofs.lemmas.Option.{slice_get_within}
use Rattle.nvme_model.specs.Completions.{reaped_count}
use Rattle.nvme_model.specs.Config.{completion_queue}
use Rattle.nvme_model.specs.EntryBytes.{Sqe, cqe_fields, sqe_fields}
use Rattle.nvme_model.specs.History.{Past}
use Rattle.nvme_model.specs.Legal.{IsLegal}
use Rattle.nvme_model.specs.Queues.{published_entries}
use Rattle.nvme_model.specs.Statuses.{missing_fused, same_status}
use Rattle.nvme_model.specs.Verdict.{command_fault, item_of, of_command, of_pair, pair_fault}
use Rattle.nvme_model.specs.declared.config.ConfigNumbers.{ConfigNumbers}
use Rattle.nvme_model.specs.declared.entry.Entry.{Entry}
use Rattle.nvme_model.specs.declared.entry.PostLine.{PostLine}
use Rattle.nvme_model.specs.declared.entry.ReapLine.{ReapLine}
use Rattle.nvme_model.specs.declared.status.Status.{Status}
use Rattle.nvme_model.specs.declared.status.Verdict.{Verdict}
use Rattle.nvme_model.specs.declared.submission.Submission.{Submission}
use Rattle.nvme_model.proofs.Beginnings.{earlier}
use Rattle.nvme_model.proofs.Rules.{follows}
use Rattle.host_laws.specs.Calls.{PostedAnswer, ReapAnswers, cqe_status, posted_answers, reaped_post}
use Rattle.host_laws.proofs.Calls.{PostOf, Second, seen, which}
use Rattle.host_laws.proofs.Elements.{get_append}
use Rattle.host_laws.proofs.Statuses.{post_is}
use Rattle.host_laws.proofs.Verdicts.{fuse}
use Rattle.trace.specs.Observed.{observed}
use Rattle.trace.specs.declared.seen.ReapedLine.{ReapedLine}
use Rattle.trace.specs.declared.seen.Seen as seen_lines
use Rattle.refutation.specs.LineRules.{has_early_second, is_second_early}
use Rattle.refutation.specs.Lines.{answer_in, published_in}
use Rattle.refutation.specs.MayAnswer.{answers_first, are_together, has_fuse, verdict_at}
use Rattle.refutation.proofs.Answering.{first_allowed}
use Rattle.refutation.proofs.Fetching.{fetch_of}
use Rattle.refutation.proofs.FirstAnswered.{first_posted, reaped_from}
use Rattle.refutation.proofs.Heads.{Head, heads, heads_map}
use Rattle.refutation.proofs.LastLine.{LastReap, answers, reap_of}
use Rattle.refutation.proofs.LeastFetched.{reaped_head}
use Rattle.refutation.proofs.LineRules.{names_its_entry}
use Rattle.refutation.proofs.Lines.{answers_one, no_answer_post, published_seen, tidy_on}
use Rattle.refutation.proofs.Postings.{posting}
use Rattle.refutation.proofs.WholePairs.{begins_whole}

-- ---- the place of a completion

answers_on : (c : ConfigNumbers) (later past : Past) (n i : ℕ) (a : PostedAnswer)
    → slice_get (posted_answers c past n) i ≡ Some a → slice_get (posted_answers c (later ++ past) n) i ≡ Some a
answers_on c [] past n i a e = e
answers_on c (Entry.Post p ∷ later) past n i a e =
    get_append (posted_answers c (later ++ past) n) _ i a (answers_on c later past n i a e)
answers_on c (Entry.Publish p ∷ later) past n i a e = answers_on c later past n i a e
answers_on c (Entry.Fetch p ∷ later) past n i a e = answers_on c later past n i a e
answers_on c (Entry.Grant p ∷ later) past n i a e = answers_on c later past n i a e
answers_on c (Entry.Block p ∷ later) past n i a e = answers_on c later past n i a e
answers_on c (Entry.Reap p ∷ later) past n i a e = answers_on c later past n i a e

-- the Post that a Reap takes, by its place
record PostedThere (c : ConfigNumbers) (past : Past) (r : ReapLine) (x : ReapAnswers c past r) : Type 0 where
  post : PostLine
  of : PostOf c past x.queue x.number post
  count : length (posted_answers c of.at.before r.queue) ≡ reaped_count past r.queue
  cqe : post.cqe ≡ r.cqe

posted_there : (c : ConfigNumbers) (past : Past) (r : ReapLine) (x : ReapAnswers c past r) → IsLegal c past
    → PostedThere c past r x
posted_there c past r x h =
    let y = reaped_head c past r x in
    let g = posting c past r.queue (reaped_count past r.queue) y.head y.at in
    let legal = earlier c g.at.later (Entry.Post g.at.post ∷ g.at.before) (subst (λ
    (z : Past). IsLegal c z) g.at.is h) in
    record {
      post = g.at.post;
      of = record {
        at = record {
          later = g.at.later;
          before = g.at.before;
          is = g.at.is;
          queue = ap (λ (a : PostedAnswer). a.queue) g.answer ∙ y.queue;
          number = ap (λ (a : PostedAnswer). a.number) g.answer ∙ y.number;
        };
        legal = legal;
        before = (follows c g.at.before (Entry.Post g.at.post) legal).before;
        is = post_is c g.at.before g.at.post legal;
      };
      count = ap (λ (l : List PostedAnswer). length l) (sym (heads_map c g.at.before r.queue))
          ∙ (length-map (heads c g.at.before r.queue) (λ (z : Head). z.0) ∙ g.at.count);
      cqe = ap (λ (a : PostedAnswer). a.post.cqe) g.answer ∙ y.cqe;
    }

-- ---- a second that was fetched with its first

first_reaped : (c : ConfigNumbers) (past : Past) (r : ReapLine) (x : ReapAnswers c past r) (i : ℕ) → IsLegal c past
    → x.number ≡ suc i → (y : PostedThere c past r x) → Second y.of.at.before y.post.ticket x.number x.entry
    → (p : PostLine) × (reaped_post c past x.queue i ≡ Some p)
first_reaped c past r x i h e y s =
    let before = y.of.at.before in
    let own : completion_queue c (Tickets.ticket before y.post.ticket).queue ≡ r.queue =
    ap (completion_queue c) y.of.at.queue ∙ x.own in
    let f = first_posted c before y.post.ticket r.queue y.of.before y.of.is.known own (omega (arith, s.posts)) in
    let below : f.place < reaped_count past r.queue =
    omega (arith, slice_get_within (posted_answers c before r.queue) f.place f.answer f.at, y.count) in
    let there : slice_get (posted_answers c past r.queue) f.place ≡ Some f.answer =
    subst (λ (z : Past). slice_get (posted_answers c z r.queue) f.place ≡ Some f.answer) (sym y.of.at.is)
    (answers_on c y.of.at.later (Entry.Post y.post ∷ before) r.queue f.place f.answer
    (answers_on c (Entry.Post y.post ∷ []) before r.queue f.place f.answer f.at)) in
    let number : f.answer.number ≡ i = omega (arith, f.number, s.number, e) in (
      f.answer.post,
      subst₂ (λ (q j : ℕ). reaped_post c past q j ≡ Some f.answer.post) (f.queue ∙ y.of.at.queue) number
          (reaped_from c past r.queue f.place f.answer h there below),
    )

-- ---- a second that was fetched alone

second_alone : (c : ConfigNumbers) (s : Submission) (o : Option Submission) → eqb (fuse s) 2 ≡ true
    → eqb (fuse s) 1 ≡ false → verdict_at c s o ≡ Verdict.SingleFailed missing_fused
second_alone c s None two one =
    cond-false (eqb (fuse s) 1) (Verdict.SingleFailed missing_fused)
    (cond (eqb (fuse s) 2) (Verdict.SingleFailed missing_fused) (of_command (command_fault c.blocks []
    (item_of s)))) one
    ∙ cond-true (eqb (fuse s) 2) (Verdict.SingleFailed missing_fused) (of_command (command_fault c.blocks []
    (item_of s)))
    two
second_alone c s (Some b) two one =
    cond-false (eqb (fuse s) 1)
    (cond (eqb (fuse b) 2) (of_pair (pair_fault c.atomic c.blocks [] (item_of s) (item_of b)))
    (Verdict.SingleFailed missing_fused))
    (cond (eqb (fuse s) 2) (Verdict.SingleFailed missing_fused) (of_command (command_fault c.blocks []
    (item_of s)))) one
    ∙ cond-true (eqb (fuse s) 2) (Verdict.SingleFailed missing_fused) (of_command (command_fault c.blocks []
    (item_of s)))
    two

not_one : (n : ℕ) → eqb n 2 ≡ true → eqb n 1 ≡ false
not_one n h = ap (λ (k : ℕ). eqb k 1) (eqb-true n 2 h)

alone_missing : (c : ConfigNumbers) (s : Submission) (e : Sqe) (a b : Option Submission) (p t : Bool) (st : Status)
    → eqb (fuse s) 2 ≡ true
    → (not p && (answers_first (verdict_at c s a) e st || (not t && answers_first (verdict_at c s b) e st))) ≡ true
    → same_status st missing_fused ≡ true
alone_missing c s e a b p t st two h =
    let one = not_one (fuse s) two in
    let missing : (o : Option Submission) → answers_first (verdict_at c s o) e st ≡ same_status st missing_fused =
    λ o. ap (λ (v : Verdict). answers_first v e st) (second_alone c s o two one) in
    elim (or_cases (answers_first (verdict_at c s a) e st) (not t && answers_first (verdict_at c s b) e st)
    (and_parts (not p) _ h).1) [
      | inl x ↦ sym (missing a) ∙ x
      | inr x ↦ sym (missing b) ∙ (and_parts (not t) (answers_first (verdict_at c s b) e st) x).1
    ]

-- ---- the rule

early_or_alone : (c : ConfigNumbers) (past : Past) (r : ReapLine) (x : ReapAnswers c past r) (i : ℕ) → IsLegal c past
    → tidy_on x.queue (observed c past) ≡ true → x.number ≡ suc i
    → (is_none (answer_in (observed c past) x.queue i) ≡ false)
    ⊎ (eqb (fuse x.entry) 2 ≡ true → same_status (cqe_status r.cqe) missing_fused ≡ true)
early_or_alone c past r x i h d e =
    let y = posted_there c past r x h in
    let f = y.of in
    let n = seen c past x.queue x.number y.post f h in
    elim (which c past x.queue x.number y.post x.entry f x.published) [
      | inl w ↦ inr (λ two.
          let number = n.number ∙ w.number in
          let may = first_allowed c past x.queue x.number y.post x.entry h f x.published n w
          (begins_whole c past y.post.ticket x.queue x.number h d f.is.some n.known n.queue number)
          (fetch_of c past y.post.ticket x.queue x.number h d f.is.some n.known n.queue number) in
          subst (λ (b : List ℕ). same_status (cqe_status b) missing_fused ≡ true) y.cqe
          (alone_missing c x.entry (sqe_fields x.entry.entry)
          (slice_get (published_in (observed c past) x.queue) (suc x.number)) None _
          (are_together (observed c past) x.queue x.number) (cqe_status y.post.cqe) two may))
      | inr w ↦ inl (first_answered (first_reaped c past r x i h e y w))
    ]
  where
    first_answered : (p : PostLine) × (reaped_post c past x.queue i ≡ Some p)
        → is_none (answer_in (observed c past) x.queue i) ≡ false
    first_answered p = go (answer_in (observed c past) x.queue i) refl
      where
        go : (o : Option ReapedLine) → answer_in (observed c past) x.queue i ≡ o → is_none o ≡ false
        go (Some l) z = refl
        go None z =
            let none = no_answer_post c past x.queue i h d z in
            absurd (let f : Some p.0 ≡ None = sym p.1 ∙ none in cc)

early_by : (c : ConfigNumbers) (past : Past) (r : ReapLine) (x : ReapAnswers c past r) (j : ℕ) → IsLegal c past
    → tidy_on x.queue (observed c past) ≡ true → x.number ≡ j
    → is_second_early (observed c past) x.queue (Some j) (cqe_status r.cqe) ≡ false
early_by c past r x zero h d e = refl
early_by c past r x (suc i) h d e =
    go (has_fuse 1 (slice_get (published_in (observed c past) x.queue) i))
    (has_fuse 2 (slice_get (published_in (observed c past) x.queue) (suc i))) refl (early_or_alone c past r x i h d e)
  where
    there : slice_get (published_in (observed c past) x.queue) (suc i) ≡ Some x.entry
    there =
        ap (λ (xs : List Submission). slice_get xs (suc i)) (sym (published_seen c past x.queue))
        ∙ subst (λ (k : ℕ). slice_get (published_entries past x.queue) k ≡ Some x.entry) e x.published

    go : (a b : Bool) → has_fuse 2 (slice_get (published_in (observed c past) x.queue) (suc i)) ≡ b
        → (is_none (answer_in (observed c past) x.queue i) ≡ false)
        ⊎ (eqb (fuse x.entry) 2 ≡ true → same_status (cqe_status r.cqe) missing_fused ≡ true)
        → (a && b && is_none (answer_in (observed c past) x.queue i)
        && not (same_status (cqe_status r.cqe) missing_fused)) ≡ false
    go false b z w = refl
    go true false z w = refl
    go true true z (inl w) =
        ap (λ (k : Bool). k && not (same_status (cqe_status r.cqe) missing_fused)) w
    go true true z (inr w) =
        last (is_none (answer_in (observed c past) x.queue i)) (w (sym (ap (has_fuse 2) there) ∙ z))
      where
        last : (k : Bool) → same_status (cqe_status r.cqe) missing_fused ≡ true
            → (k && not (same_status (cqe_status r.cqe) missing_fused)) ≡ false
        last false q = refl
        last true q = ap not q

pub early_right : (c : ConfigNumbers) (r : ReapedLine) (trace : List seen_lines.Seen)
    → tidy_on (cqe_fields r.cqe).sqid trace ≡ true
    → LastReap c r trace → has_early_second trace r ≡ false
early_right c r trace d l =
    let line = reap_of r in
    let x = answers c r trace l in
    let named : tidy_on (cqe_fields r.cqe).sqid (observed c l.before) ≡ true =
    subst (λ (t : List seen_lines.Seen). tidy_on (cqe_fields r.cqe).sqid t ≡ true) (sym l.seen) d in
    let legal = (follows c l.before (Entry.Reap line) l.legal).before in
    let a = answers_one c l.before line l.legal named in
    let tidy : tidy_on x.queue (observed c l.before) ≡ true =
    subst (λ (q : ℕ). tidy_on q (observed c l.before) ≡ true) a.sqid named in
    ap₂ (λ (q : ℕ) (o : Option ℕ). is_second_early trace q o (cqe_status r.cqe)) a.sqid (names_its_entry c r trace d l)
    ∙ subst (λ (t : List seen_lines.Seen). is_second_early t x.queue (Some x.number) (cqe_status r.cqe) ≡ false) l.seen
    (early_by c l.before line x x.number legal tidy refl)
