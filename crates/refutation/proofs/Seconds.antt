-- The second of a pair is answered as its first was.
use Rattle.std.proofs.Common.{◌≡◌, ℕ, zero, suc, Bool, true, false, not, ◌&&◌, List, [], ◌∷◌, Option, None, Some}
use Rattle.std.proofs.Common.{refl, sym, ap, ap₂, ◌∙◌, subst, subst₂, slice_get}
use Rattle.nvme_model.proofs.Runs.{status_same}
use Rattle.nvme_model.specs.EntryBytes.{cqe_fields}
use Rattle.nvme_model.specs.History.{Past}
use Rattle.nvme_model.specs.Legal.{IsLegal}
use Rattle.nvme_model.specs.Queues.{published_entries}
use Rattle.nvme_model.specs.Statuses.{compare_failure, failed_fused, is_success, same_status}
use Rattle.nvme_model.specs.declared.config.ConfigNumbers.{ConfigNumbers}
use Rattle.nvme_model.specs.declared.entry.Entry.{Entry}
use Rattle.nvme_model.specs.declared.entry.PostLine.{PostLine}
use Rattle.nvme_model.specs.declared.status.Status.{Status}
use Rattle.nvme_model.specs.declared.submission.Submission.{Submission}
use Rattle.nvme_model.proofs.Rules.{follows}
use Rattle.host_laws.specs.Calls.{IsFused, cqe_status, reaped_post}
use Rattle.host_laws.proofs.Reaps.{reaped_later}
use Rattle.host_laws.proofs.Seconds.{second_fails, second_succeeds}
use Rattle.host_laws.proofs.Verdicts.{status_eq}
use Rattle.trace.specs.Observed.{observed}
use Rattle.trace.specs.declared.seen.ReapedLine.{ReapedLine}
use Rattle.trace.specs.declared.seen.Seen.{Seen}
use Rattle.refutation.specs.LineRules.{answers_apart, has_wrong_second, is_apart_from, is_second_apart}
use Rattle.refutation.specs.MayAnswer.{has_fuse}
use Rattle.refutation.specs.Lines.{answer_in}
use Rattle.refutation.proofs.LastLine.{LastReap, answers, reap_of}
use Rattle.refutation.proofs.LineRules.{names_its_entry, none_of}
use Rattle.refutation.proofs.Lines.{answer_post, answers_one, published_seen, tidy_on}

-- the entries of a pair
fused_by : (past : Past) (q i : ℕ) (a b : Option Submission) → slice_get (published_entries past q) i ≡ a
    → slice_get (published_entries past q) (suc i) ≡ b → has_fuse 1 a ≡ true → has_fuse 2 b ≡ true → IsFused past q i
fused_by past q i None b x y f g = absurd (let z : false ≡ true = f in cc)
fused_by past q i (Some a) None x y f g = absurd (let z : false ≡ true = g in cc)
fused_by past q i (Some a) (Some b) x y f g =
    record { first = a; second = b; first_published = x; second_published = y; first_fuse = f; second_fuse = g }

-- both answers of a pair go together
go_together : (c : ConfigNumbers) (past : Past) (q i : ℕ) (p r : PostLine) → IsLegal c past → IsFused past q i
    → reaped_post c past q i ≡ Some p → reaped_post c past q (suc i) ≡ Some r
    → answers_apart (cqe_status p.cqe) (cqe_status r.cqe) ≡ false
go_together c past q i p r h f x y =
    none_of _ _ (succeeds (is_success (cqe_status p.cqe)) refl)
    (fails (same_status (cqe_status p.cqe) compare_failure) refl)
  where
    succeeds : (b : Bool) → is_success (cqe_status p.cqe) ≡ b → (b && not (is_success (cqe_status r.cqe))) ≡ false
    succeeds false e = refl
    succeeds true e = ap not (second_succeeds c past q i p r h f x e y)

    fails : (b : Bool) → same_status (cqe_status p.cqe) compare_failure ≡ b
        → (b && not (same_status (cqe_status r.cqe) failed_fused)) ≡ false
    fails false e = refl
    fails true e =
        let same = second_fails c past q i p r h f x (status_eq (cqe_status p.cqe) compare_failure e) y in
        ap not (subst (λ (s : Status). same_status s failed_fused ≡ true) (sym same) (status_same failed_fused))

second_by : (c : ConfigNumbers) (before : Past) (r : ReapedLine) (q i : ℕ) (p : PostLine)
    → IsLegal c (Entry.Reap (reap_of r) ∷ before) → tidy_on q (observed c before) ≡ true
    → reaped_post c (Entry.Reap (reap_of r) ∷ before) q (suc i) ≡ Some p
    → (has_fuse 1 (slice_get (published_entries before q) i) && has_fuse 2 (slice_get (published_entries before q)
    (suc i))
    && is_apart_from (answer_in (observed c before) q i) (cqe_status p.cqe)) ≡ false
second_by c before r q i p h d y =
    go (has_fuse 1 (slice_get (published_entries before q) i)) (has_fuse 2 (slice_get (published_entries before q)
    (suc i)))
    refl refl
  where
    past : Past
    past = Entry.Reap (reap_of r) ∷ before

    by_answer : (o : Option ReapedLine) → answer_in (observed c before) q i ≡ o → IsFused past q i
        → is_apart_from o (cqe_status p.cqe) ≡ false
    by_answer None e f = refl
    by_answer (Some l) e f =
        let a = answer_post c before q i l (follows c before (Entry.Reap (reap_of r)) h).before d e in
        let same : cqe_status a.0.cqe ≡ cqe_status l.cqe = ap cqe_status a.2 in
        subst (λ (s : Status). answers_apart s (cqe_status p.cqe) ≡ false) same
        (go_together c past q i a.0 p h f (reaped_later c (Entry.Reap (reap_of r) ∷ []) before q i a.0 h a.1) y)

    go : (a b : Bool) → has_fuse 1 (slice_get (published_entries before q) i) ≡ a
        → has_fuse 2 (slice_get (published_entries before q) (suc i)) ≡ b
        → (a && b && is_apart_from (answer_in (observed c before) q i) (cqe_status p.cqe)) ≡ false
    go false b x z = refl
    go true false x z = refl
    go true true x z =
        by_answer (answer_in (observed c before) q i) refl
        (fused_by past q i (slice_get (published_entries before q) i) (slice_get (published_entries before q)
        (suc i)) refl
        refl x z)

second_of : (c : ConfigNumbers) (before : Past) (r : ReapedLine) (q j : ℕ) (p : PostLine)
    → IsLegal c (Entry.Reap (reap_of r) ∷ before) → tidy_on q (observed c before) ≡ true
    → reaped_post c (Entry.Reap (reap_of r) ∷ before) q j ≡ Some p
    → is_second_apart (observed c before) q (Some j) (cqe_status p.cqe) ≡ false
second_of c before r q zero p h d y = refl
second_of c before r q (suc i) p h d y =
    subst (λ (l : List Submission). (has_fuse 1 (slice_get l i) && has_fuse 2 (slice_get l (suc i))
    && is_apart_from (answer_in (observed c before) q i) (cqe_status p.cqe)) ≡ false) (published_seen c before q)
    (second_by c before r q i p h d y)

pub second_right : (c : ConfigNumbers) (r : ReapedLine) (trace : List Seen)
    → tidy_on (cqe_fields r.cqe).sqid trace ≡ true
    → LastReap c r trace → has_wrong_second trace r ≡ false
second_right c r trace d l =
    let x = answers c r trace l in
    let named : tidy_on (cqe_fields r.cqe).sqid (observed c l.before) ≡ true =
    subst (λ (t : List Seen). tidy_on (cqe_fields r.cqe).sqid t ≡ true) (sym l.seen) d in
    let a = answers_one c l.before (reap_of r) l.legal named in
    let tidy : tidy_on x.queue (observed c l.before) ≡ true =
    subst (λ (q : ℕ). tidy_on q (observed c l.before) ≡ true) a.sqid named in
    ap₂ (λ (q : ℕ) (o : Option ℕ). is_second_apart trace q o (cqe_status r.cqe)) a.sqid (names_its_entry c r trace d l)
    ∙ subst₂ (λ (t : List Seen) (s : Status). is_second_apart t x.queue (Some x.number) s ≡ false) l.seen
    (ap cqe_status x.cqe) (second_of c l.before r x.queue x.number x.post l.legal tidy x.reaped)
