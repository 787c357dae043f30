-- The newest line of a trace is the newest Publish or Reap of each history that explains it.
use Rattle.std.proofs.Common.{refl, Bool, cond, eqb, eqb-true, false, None, Option, Some, slice_get, true, ◌&&◌, ◌≡◌}
use Rattle.std.proofs.Common.{List, [], ◌∷◌, ◌∙◌, ap, ap₂, subst, sym}
use Rattle.std.proofs.lemmas.Bool.{and_parts}
use Rattle.nvme_model.specs.Completions.{reaped_count}
use Rattle.nvme_model.specs.History.{Past}
use Rattle.nvme_model.specs.Legal.{IsLegal}
use Rattle.nvme_model.specs.declared.config.ConfigNumbers.{ConfigNumbers}
use Rattle.nvme_model.specs.declared.entry.Entry.{Entry}
use Rattle.nvme_model.specs.declared.entry.PublishLine.{PublishLine}
use Rattle.nvme_model.specs.declared.entry.ReapLine.{ReapLine}
use Rattle.nvme_model.proofs.Rules.{follows}
use Rattle.host_laws.specs.Calls.{PostedAnswer, ReapAnswers, post_if, posted_answers, reaped_post}
use Rattle.host_laws.proofs.Elements.{same_some}
use Rattle.host_laws.proofs.Reaps.{reap_answers}
use Rattle.trace.specs.Observed.{Explains, next_payload, observed}
use Rattle.trace.specs.Options.{no_options}
use Rattle.trace.specs.declared.seen.ReapedLine.{ReapedLine}
use Rattle.trace.specs.declared.seen.Seen.{Seen}
use Rattle.trace.proofs.Beginnings.{all_explained}

-- the Reap of a history that a line shows
abbrev pub reap_of : ReapedLine → ReapLine
reap_of r = record { queue = r.queue; cqe = r.cqe }

-- a legal history ends with the Reap that a trace's newest line shows, and its beginning shows the lines before
pub record LastReap (c : ConfigNumbers) (r : ReapedLine) (trace : List Seen) : Type 0 where
  pub before : Past
  pub legal : IsLegal c (Entry.Reap (reap_of r) ∷ before)
  pub seen : observed c before ≡ trace
  pub payload : next_payload c before r.queue ≡ r.payload

-- or with a Publish
pub record LastPublish (c : ConfigNumbers) (p : PublishLine) (trace : List Seen) : Type 0 where
  pub before : Past
  pub legal : IsLegal c (Entry.Publish p ∷ before)
  pub seen : observed c before ≡ trace

abbrev shown_reap : ConfigNumbers → Past → ReapLine → ReapedLine
shown_reap c past l = record { queue = l.queue; cqe = l.cqe; payload = next_payload c past l.queue }

reap_ends : (c : ConfigNumbers) (past : Past) (l : ReapLine) (r : ReapedLine) (trace : List Seen)
    → IsLegal c (Entry.Reap l ∷ past) → shown_reap c past l ≡ r → observed c past ≡ trace → LastReap c r trace
reap_ends c past l r trace h same seen =
    let queue : l.queue ≡ r.queue = ap (λ (x : ReapedLine). x.queue) same in
    let cqe : l.cqe ≡ r.cqe = ap (λ (x : ReapedLine). x.cqe) same in
    let line : l ≡ reap_of r = ap₂ (λ n bytes. let x : ReapLine = record { queue = n; cqe = bytes } in x) queue cqe in
    record {
      before = past;
      legal = subst (λ (x : ReapLine). IsLegal c (Entry.Reap x ∷ past)) line h;
      seen = seen;
      payload = ap (next_payload c past) (sym queue) ∙ ap (λ (x : ReapedLine). x.payload) same;
    }

pub last_reap : (c : ConfigNumbers) (past : Past) (r : ReapedLine) (trace : List Seen) → IsLegal c past
    → observed c past ≡ Seen.Reaped r ∷ trace → LastReap c r trace
last_reap c [] r trace h e = absurd (let f : [] ≡ Seen.Reaped r ∷ trace = e in cc)
last_reap c (Entry.Publish p ∷ past) r trace h e =
    absurd (let f : Seen.Published p ∷ observed c past ≡ Seen.Reaped r ∷ trace = e in cc)
last_reap c (Entry.Reap l ∷ past) r trace h e =
    let f : Seen.Reaped (shown_reap c past l) ∷ observed c past ≡ Seen.Reaped r ∷ trace = e in
    reap_ends c past l r trace h (let x = f in cc) (let x = f in cc)
last_reap c (Entry.Fetch x ∷ past) r trace h e = last_reap c past r trace (follows c past (Entry.Fetch x) h).before e
last_reap c (Entry.Grant x ∷ past) r trace h e = last_reap c past r trace (follows c past (Entry.Grant x) h).before e
last_reap c (Entry.Block x ∷ past) r trace h e = last_reap c past r trace (follows c past (Entry.Block x) h).before e
last_reap c (Entry.Post x ∷ past) r trace h e = last_reap c past r trace (follows c past (Entry.Post x) h).before e

pub last_publish : (c : ConfigNumbers) (past : Past) (p : PublishLine) (trace : List Seen) → IsLegal c past
    → observed c past ≡ Seen.Published p ∷ trace → LastPublish c p trace
last_publish c [] p trace h e = absurd (let f : [] ≡ Seen.Published p ∷ trace = e in cc)
last_publish c (Entry.Publish l ∷ past) p trace h e =
    let f : Seen.Published l ∷ observed c past ≡ Seen.Published p ∷ trace = e in
    let line : l ≡ p = let x = f in cc in
    record {
      before = past;
      legal = subst (λ (x : PublishLine). IsLegal c (Entry.Publish x ∷ past)) line h;
      seen = let x = f in cc;
    }
last_publish c (Entry.Reap l ∷ past) p trace h e =
    absurd (let f : Seen.Reaped (shown_reap c past l) ∷ observed c past ≡ Seen.Published p ∷ trace = e in cc)
last_publish c (Entry.Fetch x ∷ past) p trace h e =
    last_publish c past p trace (follows c past (Entry.Fetch x) h).before e
last_publish c (Entry.Grant x ∷ past) p trace h e =
    last_publish c past p trace (follows c past (Entry.Grant x) h).before e
last_publish c (Entry.Block x ∷ past) p trace h e =
    last_publish c past p trace (follows c past (Entry.Block x) h).before e
last_publish c (Entry.Post x ∷ past) p trace h e =
    last_publish c past p trace (follows c past (Entry.Post x) h).before e

pub explained_reap : (c : ConfigNumbers) (past : Past) (r : ReapedLine) (trace : List Seen)
    → Explains no_options c past (Seen.Reaped r ∷ trace) → LastReap c r trace
explained_reap c past r trace h =
    let a = all_explained c past (Seen.Reaped r ∷ trace) h in
    last_reap c past r trace a.0 a.1

pub explained_publish : (c : ConfigNumbers) (past : Past) (p : PublishLine) (trace : List Seen)
    → Explains no_options c past (Seen.Published p ∷ trace) → LastPublish c p trace
explained_publish c past p trace h =
    let a = all_explained c past (Seen.Published p ∷ trace) h in
    last_publish c past p trace a.0 a.1

-- the entry that it answers
abbrev pub answers : (c : ConfigNumbers) (r : ReapedLine) (trace : List Seen) (l : LastReap c r trace)
    → ReapAnswers c l.before (reap_of r)
answers c r trace l = reap_answers c l.before (reap_of r) l.legal

-- the Post that a Reap takes is for the entry that it answers
pub record AnswerOf (c : ConfigNumbers) (past : Past) (r : ReapLine) (x : ReapAnswers c past r) : Type 0 where
  pub answer : PostedAnswer
  pub at : slice_get (posted_answers c past r.queue) (reaped_count past r.queue) ≡ Some answer
  pub queue : answer.queue ≡ x.queue
  pub number : answer.number ≡ x.number
  pub post : answer.post ≡ x.post

pub reaped_answer : (c : ConfigNumbers) (past : Past) (r : ReapLine) (x : ReapAnswers c past r) → AnswerOf c past r x
reaped_answer c past r x = by_answer (slice_get (posted_answers c past r.queue)
    (reaped_count past r.queue)) refl x.reaped
  where
    by_answer : (o : Option PostedAnswer) → slice_get (posted_answers c past r.queue) (reaped_count past r.queue) ≡ o
        → post_if x.queue x.number o (reaped_post c past x.queue x.number) ≡ Some x.post → AnswerOf c past r x
    by_answer None e f = absurd (let g : Some x.post ≡ None = sym f ∙ x.unreaped in cc)
    by_answer (Some a) e f = by_number (eqb a.queue x.queue && eqb a.number x.number) refl f
      where
        by_number : (b : Bool) → (eqb a.queue x.queue && eqb a.number x.number) ≡ b
            → cond b (Some a.post) (reaped_post c past x.queue x.number) ≡ Some x.post → AnswerOf c past r x
        by_number false z g = absurd (let k : Some x.post ≡ None = sym g ∙ x.unreaped in cc)
        by_number true z g =
            let k = and_parts _ _ z in
            record {
              answer = a;
              at = e;
              queue = eqb-true _ _ k.0;
              number = eqb-true _ _ k.1;
              post = same_some a.post x.post (Some a.post) refl g;
            }
