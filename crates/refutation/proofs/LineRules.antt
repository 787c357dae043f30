-- No legal history's newest line breaks a rule of lines.
use Rattle.std.proofs.Common.{length, ◌-◌, Bool, Some, is_none, subst, true, eqb, eqb-true, nat_lt, refl, ap₂, ◌||◌}
use Rattle.std.proofs.Common.{◌≡◌, ◌%◌, ◌*◌, ◌+◌, ◌/◌, ◌∙◌, ◌≤◌, List, ap, arith, eq-eqb, false, not, ℕ, sym}
use Rattle.nvme_model.specs.Completions.{phase, reaped_count}
use Rattle.std.proofs.lemmas.Bool.{le-ltb, ltb-false}
use Rattle.nvme_model.specs.Config.{completion_queue, config_fault, is_accepted}
use Rattle.nvme_model.specs.Refusals.{no_queue}
use Rattle.nvme_model.proofs.Accepted.{accepted}
use Rattle.nvme_model.specs.Tickets.{ticket}
use Rattle.nvme_model.specs.EntryBytes.{cqe_bytes, cqe_fields}
use Rattle.nvme_model.specs.declared.config.ConfigNumbers.{ConfigNumbers}
use Rattle.nvme_model.specs.declared.entry.Entry.{Entry}
use Rattle.nvme_model.specs.declared.entry.PublishLine.{PublishLine}
use Rattle.nvme_model.specs.declared.status.Status.{Status}
use Rattle.nvme_model.proofs.Numbers.{posts_are_numbered}
use Rattle.nvme_model.proofs.Rules.{follows}
use Rattle.host_laws.proofs.Statuses.{phase_small}
use Rattle.trace.specs.declared.seen.ReapedLine.{ReapedLine}
use Rattle.trace.specs.declared.seen.Seen.{Seen}
use Rattle.refutation.specs.LineRules.{has_wrong_batch, has_wrong_phase, names_no_entry, names_wrong_queue}
use Rattle.refutation.specs.LineRules.{sets_unused_bits}
use Rattle.refutation.specs.Lines.{answered, reaped_in}
use Rattle.refutation.proofs.LastLine.{LastPublish, LastReap, answers, reap_of}
use Rattle.refutation.proofs.Lines.{answers_one, none_is, reaped_seen, tidy_on}

pub bits_unset : (c : ConfigNumbers) (r : ReapedLine) (trace : List Seen) → LastReap c r trace
    → sets_unused_bits r ≡ false
bits_unset c r trace l = ap not (answers c r trace l).clean

-- ---- the phase tag

phase_back : (h q cid p : ℕ) (s : Status) → p ≤ 1 → (cqe_fields (cqe_bytes h q cid p s)).phase ≡ p
phase_back h q cid p s l =
    let w = p + (2 * s.sc + 512 * s.sct) in
    let e : (w % 256 + 256 * ((w / 256) % 256 + 256 * 0)) % 2 ≡ p = omega (arith, l) in
    e

pub phase_right : (c : ConfigNumbers) (r : ReapedLine) (trace : List Seen) → LastReap c r trace
    → has_wrong_phase c trace r ≡ false
phase_right c r trace l =
    let x = answers c r trace l in
    let k = reaped_count l.before r.queue in
    let n = posts_are_numbered c l.before r.queue k x.post (follows c l.before (Entry.Reap (reap_of r)) l.legal).before
    x.posted in
    let says : (cqe_fields r.cqe).phase ≡ phase k c.cq_size =
    ap (λ (b : List ℕ). (cqe_fields b).phase) (sym x.cqe ∙ n.3)
    ∙ phase_back n.0 (ticket l.before x.post.ticket).queue n.1 (phase k c.cq_size) n.2 (phase_small k c.cq_size) in
    let count : k ≡ reaped_in trace r.queue =
    reaped_seen c l.before r.queue ∙ ap (λ (t : List Seen). reaped_in t r.queue) l.seen in
    ap not (eq-eqb _ _ (says ∙ ap (λ (n : ℕ). phase n c.cq_size) count))

-- ---- the submission queue

pub none_of : (a b : Bool) → a ≡ false → b ≡ false → (a || b) ≡ false
none_of a b e f = ap₂ (λ x y. x || y) e f

is_queue : (c : ConfigNumbers) (q : ℕ) → 1 ≤ q → q ≤ c.pairs → no_queue c q ≡ false
is_queue c q l m = none_of (eqb q 0) (nat_lt c.pairs q) (some (eqb q 0) refl) (le-ltb c.pairs q m)
  where
    some : (b : Bool) → eqb q 0 ≡ b → b ≡ false
    some true e = absurd (omega (arith, l, eqb-true q 0 e))
    some false e = refl

-- in an accepted configuration SQID has room for the queue's number
pub names_its_queue : (c : ConfigNumbers) (r : ReapedLine) (trace : List Seen) → is_accepted c ≡ true
    → (l : LastReap c r trace) → (cqe_fields r.cqe).sqid ≡ (answers c r trace l).queue
names_its_queue c r trace a l =
    let x = answers c r trace l in
    x.sqid (omega (arith, x.few, (accepted c (none_is (config_fault c) a)).most_pairs))

pub queue_right : (c : ConfigNumbers) (r : ReapedLine) (trace : List Seen) → is_accepted c ≡ true
    → LastReap c r trace → names_wrong_queue c r ≡ false
queue_right c r trace a l =
    let x = answers c r trace l in
    ap (λ (q : ℕ). no_queue c q || not (eqb (completion_queue c q) r.queue)) (names_its_queue c r trace a l)
    ∙ none_of _ _ (is_queue c x.queue x.some x.few) (ap not (eq-eqb (completion_queue c x.queue) r.queue x.own))

-- ---- a Publish

pub batch_right : (c : ConfigNumbers) (p : PublishLine) (trace : List Seen) → LastPublish c p trace
    → has_wrong_batch c p ≡ false
batch_right c p trace l =
    let a = (follows c l.before (Entry.Publish p) l.legal).allowed in
    none_of _ _ (none_of _ _ a.0 a.1.0)
    (le-ltb (c.sq_size - 1) (length p.batch) (omega (arith, ltb-false _ _ a.1.1.0)))

-- ---- the entry

-- behind tidy lines the entry that it answers is the one that waits under its CID
pub names_its_entry : (c : ConfigNumbers) (r : ReapedLine) (trace : List Seen)
    → tidy_on (cqe_fields r.cqe).sqid trace ≡ true
    → (l : LastReap c r trace) → answered trace r.cqe ≡ Some (answers c r trace l).number
names_its_entry c r trace d l =
    subst (λ (t : List Seen). answered t r.cqe ≡ Some (answers c r trace l).number) l.seen
    (answers_one c l.before (reap_of r) l.legal
    (subst (λ (t : List Seen). tidy_on (cqe_fields r.cqe).sqid t ≡ true) (sym l.seen) d)).number

pub entry_right : (c : ConfigNumbers) (r : ReapedLine) (trace : List Seen)
    → tidy_on (cqe_fields r.cqe).sqid trace ≡ true
    → LastReap c r trace → names_no_entry trace r ≡ false
entry_right c r trace d l = ap is_none (names_its_entry c r trace d l)
