-- What was seen of a trace's own queues.
use Rattle.std.proofs.Common.{◌≡◌, ℕ, ◌+◌, ◌==◌, ◌&&◌, Bool, true, false, cond, List, [], ◌∷◌, ◌++◌, Option, Some, None}
use Rattle.std.proofs.Common.{refl, sym, ap, ◌∙◌, inl, inr}
use Rattle.std.proofs.lemmas.Bool.{and_parts}
use Rattle.nvme_model.specs.declared.entry.PublishLine.{PublishLine}
use Rattle.nvme_model.specs.declared.submission.Submission.{Submission}
use Rattle.trace.specs.Aside.{comes_first, in_turn, is_aside, own, out_aside}
use Rattle.trace.specs.Options.{Pointwise, ReadsAs, ReadsEntry, no_options}
use Rattle.trace.specs.declared.seen.ReapedLine.{ReapedLine}
use Rattle.trace.specs.declared.seen.Seen.{Seen}
use Rattle.trace.proofs.Pointwise.{are_same, of_same}

-- of some things and others
pub own_behind : (n : Option ℕ) (later seen : List Seen) → own n (later ++ seen) ≡ own n later ++ own n seen
own_behind n [] seen = refl
own_behind n (s ∷ later) seen = by (is_aside n s) (own_behind n later seen)
  where
    by : (b : Bool) → own n (later ++ seen) ≡ own n later ++ own n seen
        → cond b (own n (later ++ seen)) (s ∷ own n (later ++ seen))
        ≡ cond b (own n later) (s ∷ own n later) ++ own n seen
    by true h = h
    by false h = ap (λ (l : List Seen). s ∷ l) h

-- a beginning has its turns
pub first_before : (n : Option ℕ) (later seen : List Seen) → comes_first n (later ++ seen) ≡ true
    → comes_first n seen ≡ true
first_before n [] seen h = h
first_before n (s ∷ later) seen h = first_before n later seen (and_parts _ _ h).0

-- ---- where no pair is aside

pub own_all : (seen : List Seen) → own None seen ≡ seen
own_all [] = refl
own_all (s ∷ seen) = ap (λ (l : List Seen). s ∷ l) (own_all seen)

none_out : (seen : List Seen) → out_aside None seen ≡ 0
none_out [] = refl
none_out (s ∷ seen) = none_out seen

pub all_first : (seen : List Seen) → comes_first None seen ≡ true
all_first [] = refl
all_first (s ∷ seen) =
    ap (λ b. b && (out_aside None seen == 0)) (all_first seen) ∙ ap (λ n. n == 0) (none_out seen)

-- ---- without options

same_parts : (e t : Submission) → e.entry ≡ t.entry → e.payload ≡ t.payload → e ≡ t
same_parts e t a b =
    ap (λ (x : List ℕ). let r : Submission = record { entry = x; payload = e.payload } in r) a
    ∙ ap (λ (x : List ℕ). let r : Submission = record { entry = t.entry; payload = x } in r) b

same_entry : (e t : Submission) → ReadsEntry no_options e t → e ≡ t
same_entry e t (p, inl h) = same_parts e t h p
same_entry e t (p, inr h) = absurd (let w : false ≡ true = h.0 in cc)

same_lines : (p t : PublishLine) → p.queue ≡ t.queue → p.batch ≡ t.batch → p ≡ t
same_lines p t a b =
    ap (λ (x : ℕ). let r : PublishLine = record { queue = x; batch = p.batch } in r) a
    ∙ ap (λ (x : List Submission). let r : PublishLine = record { queue = t.queue; batch = x } in r) b

same_reaps : (p t : ReapedLine) → p.queue ≡ t.queue → p.cqe ≡ t.cqe → p.payload ≡ t.payload → p ≡ t
same_reaps p t a b c =
    ap (λ (x : ℕ). let r : ReapedLine = record { queue = x; cqe = p.cqe; payload = p.payload } in r) a
    ∙ ap (λ (x : List ℕ). let r : ReapedLine = record { queue = t.queue; cqe = x; payload = p.payload } in r) b
    ∙ ap (λ (x : List ℕ). let r : ReapedLine = record { queue = t.queue; cqe = t.cqe; payload = x } in r) c

pub entry_itself : (e : Submission) → ReadsEntry no_options e e
entry_itself e = (refl, inl refl)

pub same_thing : (s t : Seen) → ReadsAs no_options s t → s ≡ t
same_thing (Seen.Published p) (Seen.Published t) h =
    ap Seen.Published (same_lines p t h.0 (are_same (ReadsEntry no_options) same_entry p.batch t.batch h.1))
same_thing (Seen.Published p) (Seen.Reaped t) h = absurd h
same_thing (Seen.Reaped r) (Seen.Published t) h = absurd h
same_thing (Seen.Reaped r) (Seen.Reaped t) h = ap Seen.Reaped (same_reaps r t h.0 h.1 h.2)

pub thing_itself : (s : Seen) → ReadsAs no_options s s
thing_itself (Seen.Published p) = (refl, of_same (ReadsEntry no_options) entry_itself p.batch)
thing_itself (Seen.Reaped r) = (refl, refl, refl)
