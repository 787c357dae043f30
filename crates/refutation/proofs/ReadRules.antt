-- No history explains a trace with a bad line, as options read it.
use Rattle.std.proofs.Common.{◌≡◌, ℕ, zero, suc, Bool, true, false, ◌&&◌, ◌||◌, not}
use Rattle.std.proofs.Common.{List, ◌∷◌, Option, None, Some, length, slice_get, refl, sym, ap, ap₂, ◌∙◌}
use Rattle.std.proofs.Common.{eqb, nat_lt, inl, inr, is_none, ◌-◌}
use Rattle.nvme_model.specs.Completions.{phase}
use Rattle.nvme_model.specs.Config.{completion_queue}
use Rattle.nvme_model.specs.EntryBytes.{cqe_fields, sqe_fields}
use Rattle.nvme_model.specs.Refusals.{no_queue}
use Rattle.nvme_model.specs.Statuses.{missing_fused, same_status}
use Rattle.nvme_model.specs.declared.config.ConfigNumbers.{ConfigNumbers}
use Rattle.nvme_model.specs.declared.entry.PublishLine.{PublishLine}
use Rattle.nvme_model.specs.declared.status.Status.{Status}
use Rattle.nvme_model.specs.declared.submission.Submission.{Submission}
use Rattle.host_laws.specs.Calls.{cqe_status}
use Rattle.trace.specs.Options.{Pointwise, ReadsEntry, ReadsReap}
use Rattle.trace.specs.declared.options.TraceOptions.{TraceOptions}
use Rattle.trace.specs.declared.seen.ReapedLine.{ReapedLine}
use Rattle.trace.specs.declared.seen.Seen.{Seen}
use Rattle.trace.proofs.Pointwise.{are_same, same_length}
use Rattle.refutation.specs.LineRules.{answers_apart, has_early_second, is_second_early, has_wrong_batch}
use Rattle.refutation.specs.LineRules.{has_wrong_data, has_wrong_head}
use Rattle.refutation.specs.LineRules.{has_wrong_phase, has_wrong_second, has_wrong_status, is_apart_from}
use Rattle.refutation.specs.LineRules.{is_second_apart, least_fetched, may_not_answer}
use Rattle.refutation.specs.LineRules.{names_wrong_queue, number_may_not, number_owes_other, owes_other_data}
use Rattle.refutation.specs.Lines.{answer_in, answered, published_in, reaped_in}
use Rattle.refutation.specs.MayAnswer.{answers_first, has_fuse, may_answer, may_answer_behind}
use Rattle.refutation.specs.MayAnswer.{may_answer_first, may_answer_second, verdict_at}
use Rattle.refutation.specs.ReadRules.{has_wrong_answer}
use Rattle.refutation.proofs.ReadFields.{cid_read, phase_read, sqhd_read, sqid_read, status_read}
use Rattle.refutation.proofs.ReadLines.{AnswersRead, Reads, published_reads, same_answer, same_answered}
use Rattle.refutation.proofs.ReadLines.{same_count}
use Rattle.refutation.proofs.ReadLines.{same_least, same_parts, same_reaped, same_together}

-- ---- the rules, line by line

pub same_phase : (o : TraceOptions) (c : ConfigNumbers) (seen trace : List Seen) (r t : ReapedLine) → Reads o seen trace
    → ReadsReap o r t → has_wrong_phase c seen r ≡ has_wrong_phase c trace t
same_phase o c seen trace r t h g =
    ap₂ (λ (a b : ℕ). not (eqb a (phase b c.cq_size))) (phase_read o r.cqe t.cqe g.1)
    (same_reaped o seen trace r.queue h ∙ ap (reaped_in trace) g.0)

pub same_queue : (o : TraceOptions) (c : ConfigNumbers) (r t : ReapedLine) → ReadsReap o r t
    → names_wrong_queue c r ≡ names_wrong_queue c t
same_queue o c r t g =
    ap₂ (λ (q n : ℕ). no_queue c q || not (eqb (completion_queue c q) n)) (sqid_read o r.cqe t.cqe g.1) g.0

pub same_entry : (o : TraceOptions) (seen trace : List Seen) (r t : ReapedLine) → Reads o seen trace → ReadsReap o r t
    → answered seen r.cqe ≡ answered trace t.cqe
same_entry o seen trace r t h g =
    same_answered o seen trace r.cqe t.cqe h (sqid_read o r.cqe t.cqe g.1) (cid_read o r.cqe t.cqe g.1)

pub same_head : (o : TraceOptions) (c : ConfigNumbers) (seen trace : List Seen) (r t : ReapedLine)
    → o.ignored.sqhd ≡ false → Reads o seen trace → ReadsReap o r t → has_wrong_head c seen r ≡ has_wrong_head c trace t
same_head o c seen trace r t kept h g =
    let sqid = sqid_read o r.cqe t.cqe g.1 in
    let head = sqhd_read o r.cqe t.cqe kept g.1 in
    let count : length (published_in seen (cqe_fields r.cqe).sqid)
    ≡ length (published_in trace (cqe_fields t.cqe).sqid) =
    same_count o seen trace (cqe_fields r.cqe).sqid h ∙ ap (λ (q : ℕ). length (published_in trace q)) sqid in
    let least : least_fetched c (Seen.Reaped r ∷ seen) (cqe_fields r.cqe).sqid
    ≡ least_fetched c (Seen.Reaped t ∷ trace) (cqe_fields t.cqe).sqid =
    same_least o c (Seen.Reaped r ∷ seen) (Seen.Reaped t ∷ trace) (cqe_fields r.cqe).sqid kept (g, h)
    ∙ ap (least_fetched c (Seen.Reaped t ∷ trace)) sqid in
    ap₂ (λ (x y : Bool). x || y) (ap (λ (k : ℕ). not (nat_lt k c.sq_size)) head) (ap₂ nat_lt count least)

-- ---- where statuses are compared

exact_entry : (o : TraceOptions) → o.statuses_any ≡ false → (e t : Submission) → ReadsEntry o e t → e ≡ t
exact_entry o kept e t (p, inl h) =
    ap₂ (λ (x y : List ℕ). let s : Submission = record { entry = x; payload = y } in s) h p
exact_entry o kept e t (p, inr h) = absurd (let f : true ≡ false = sym h.0 ∙ kept in cc)

exact_entries : (o : TraceOptions) (seen trace : List Seen) (q : ℕ) → o.statuses_any ≡ false → Reads o seen trace
    → published_in seen q ≡ published_in trace q
exact_entries o seen trace q kept h =
    are_same (ReadsEntry o) (exact_entry o kept) (published_in seen q) (published_in trace q)
    (published_reads o seen trace q h)

same_may : (o : TraceOptions) (c : ConfigNumbers) (seen trace : List Seen) (q j : ℕ) (entry : Submission) (s : Status)
    → o.statuses_any ≡ false → Reads o seen trace → may_answer c seen q j entry s ≡ may_answer c trace q j entry s
same_may o c seen trace q j entry s kept h =
    ap₂ (λ (x y : Bool). x || y) first (second j)
  where
    same : published_in seen q ≡ published_in trace q
    same = exact_entries o seen trace q kept h

    first : may_answer_first c seen q j entry s ≡ may_answer_first c trace q j entry s
    first =
        ap₂ (λ (x y : Bool). not x && y) (same_parts o seen trace q j h)
        (ap₂ (λ (es : List Submission) (b : Bool).
        answers_first (verdict_at c entry (slice_get es (suc j))) (sqe_fields entry.entry) s
        || (not b && answers_first (verdict_at c entry None) (sqe_fields entry.entry) s)) same
        (same_together o seen trace q j h))

    second : (i : ℕ) → may_answer_second c seen q i entry s ≡ may_answer_second c trace q i entry s
    second zero = refl
    second (suc i) = ap (λ (es : List Submission). may_answer_behind c (slice_get es i) entry s) same

same_status_rule : (o : TraceOptions) (c : ConfigNumbers) (seen trace : List Seen) (q : ℕ) (n : Option ℕ) (s : Status)
    → o.statuses_any ≡ false → Reads o seen trace → number_may_not c seen q n s ≡ number_may_not c trace q n s
same_status_rule o c seen trace q None s kept h = refl
same_status_rule o c seen trace q (Some j) s kept h =
    ap (λ (es : List Submission). may_not_answer c seen q j (slice_get es j) s) (exact_entries o seen trace q kept h)
    ∙ by (slice_get (published_in trace q) j)
  where
    by : (e : Option Submission) → may_not_answer c seen q j e s ≡ may_not_answer c trace q j e s
    by None = refl
    by (Some entry) = ap not (same_may o c seen trace q j entry s kept h)

same_apart : (o : TraceOptions) (a b : Option ReapedLine) (s : Status) → o.statuses_any ≡ false → AnswersRead o a b
    → is_apart_from a s ≡ is_apart_from b s
same_apart o None None s kept h = refl
same_apart o None (Some t) s kept h = absurd h
same_apart o (Some r) None s kept h = absurd h
same_apart o (Some r) (Some t) s kept h =
    ap (λ (x : Status). answers_apart x s) (status_read o r.cqe t.cqe kept h.1)

same_second_rule : (o : TraceOptions) (seen trace : List Seen) (q : ℕ) (n : Option ℕ) (s : Status)
    → o.statuses_any ≡ false → Reads o seen trace → is_second_apart seen q n s ≡ is_second_apart trace q n s
same_second_rule o seen trace q None s kept h = refl
same_second_rule o seen trace q (Some zero) s kept h = refl
same_second_rule o seen trace q (Some (suc i)) s kept h =
    ap₂ (λ (es : List Submission) (b : Bool). has_fuse 1 (slice_get es i) && has_fuse 2 (slice_get es (suc i)) && b)
    (exact_entries o seen trace q kept h)
    (same_apart o (answer_in seen q i) (answer_in trace q i) s kept (same_answer o seen trace q i h))

same_none : (o : TraceOptions) (a b : Option ReapedLine) → AnswersRead o a b → is_none a ≡ is_none b
same_none o None None h = refl
same_none o None (Some t) h = absurd h
same_none o (Some r) None h = absurd h
same_none o (Some r) (Some t) h = refl

same_early_rule : (o : TraceOptions) (seen trace : List Seen) (q : ℕ) (n : Option ℕ) (s : Status)
    → o.statuses_any ≡ false → Reads o seen trace → is_second_early seen q n s ≡ is_second_early trace q n s
same_early_rule o seen trace q None s kept h = refl
same_early_rule o seen trace q (Some zero) s kept h = refl
same_early_rule o seen trace q (Some (suc i)) s kept h =
    ap₂ (λ (es : List Submission) (b : Bool). has_fuse 1 (slice_get es i) && has_fuse 2 (slice_get es (suc i)) && b
    && not (same_status s missing_fused)) (exact_entries o seen trace q kept h)
    (same_none o (answer_in seen q i) (answer_in trace q i) (same_answer o seen trace q i h))

same_data_rule : (o : TraceOptions) (seen trace : List Seen) (q : ℕ) (n : Option ℕ) (s : Status) (m : ℕ)
    → o.statuses_any ≡ false → Reads o seen trace → number_owes_other seen q n s m ≡ number_owes_other trace q n s m
same_data_rule o seen trace q None s m kept h = refl
same_data_rule o seen trace q (Some j) s m kept h =
    ap (λ (es : List Submission). owes_other_data (slice_get es j) s m) (exact_entries o seen trace q kept h)

pub same_wrong : (o : TraceOptions) (c : ConfigNumbers) (seen trace : List Seen) (r t : ReapedLine)
    → o.statuses_any ≡ false → Reads o seen trace → ReadsReap o r t
    → has_wrong_answer c seen r ≡ has_wrong_answer c trace t
same_wrong o c seen trace r t kept h g =
    let q = sqid_read o r.cqe t.cqe g.1 in
    let n = same_entry o seen trace r t h g in
    let s = status_read o r.cqe t.cqe kept g.1 in
    let q2 = (cqe_fields t.cqe).sqid in
    let n2 = answered trace t.cqe in
    let s2 = cqe_status t.cqe in
    let status : has_wrong_status c seen r ≡ has_wrong_status c trace t =
    ap₂ (λ (a : ℕ) (b : Option ℕ). number_may_not c seen a b (cqe_status r.cqe)) q n
    ∙ (ap (number_may_not c seen q2 n2) s ∙ same_status_rule o c seen trace q2 n2 s2 kept h) in
    let second : has_wrong_second seen r ≡ has_wrong_second trace t =
    ap₂ (λ (a : ℕ) (b : Option ℕ). is_second_apart seen a b (cqe_status r.cqe)) q n
    ∙ (ap (is_second_apart seen q2 n2) s ∙ same_second_rule o seen trace q2 n2 s2 kept h) in
    let early : has_early_second seen r ≡ has_early_second trace t =
    ap₂ (λ (a : ℕ) (b : Option ℕ). is_second_early seen a b (cqe_status r.cqe)) q n
    ∙ (ap (is_second_early seen q2 n2) s ∙ same_early_rule o seen trace q2 n2 s2 kept h) in
    let bytes : has_wrong_data seen r ≡ has_wrong_data trace t =
    ap₂ (λ (a : ℕ) (b : Option ℕ). number_owes_other seen a b (cqe_status r.cqe) (length r.payload)) q n
    ∙ (ap₂ (λ (x : Status) (l : List ℕ). number_owes_other seen q2 n2 x (length l)) s g.2
    ∙ same_data_rule o seen trace q2 n2 s2 (length t.payload) kept h) in
    ap₂ (λ (x y : Bool). x || y) (ap₂ (λ (x y : Bool). x || y) (ap₂ (λ (x y : Bool). x || y) status second) early) bytes

-- ---- the newest line

pub read_batch : (o : TraceOptions) (c : ConfigNumbers) (p t : PublishLine) → p.queue ≡ t.queue
    → Pointwise (ReadsEntry o) p.batch t.batch → has_wrong_batch c p ≡ has_wrong_batch c t
read_batch o c p t q b =
    ap₂ (λ (n k : ℕ). no_queue c n || eqb k 0 || nat_lt (c.sq_size - 1) k) q (same_length
    (ReadsEntry o) p.batch t.batch b)
