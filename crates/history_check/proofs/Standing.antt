-- Which history a checker stands for.
use Rattle.std.proofs.Common.{◌≡◌, ℕ, suc, ◌%◌, ◌*◌, ◌==◌, ◌&&◌, Bool, true, List, [], ◌∷◌, length, replicate, None}
use Rattle.std.proofs.Common.{refl, sym, ap, ◌∙◌, subst}
use Rattle.std.proofs.Math.Nat.{zero-div, zero-mod}
use Rattle.std.proofs.lemmas.List.{get_or-replicate, length-replicate}
use Rattle.history_check.specs.Contents.{contents_in}
use Rattle.history_check.specs.Judged.{in_use}
use Rattle.history_check.specs.Tables.{Tables, tables}
use Rattle.rings.specs.Used.{UsedCids}
use Rattle.rings.proofs.CidCounts.{none_used}
use Rattle.history_check.proofs.Judging.{judged_is}
use Rattle.history_check.proofs.Taking.{taken_is}
use Rattle.nvme_model.specs.Array.{zeros}
use Rattle.nvme_model.specs.Config.{config_fault}
use Rattle.nvme_model.specs.History.{Past}
use Rattle.nvme_model.specs.Legal.{legal, may_follow}
use Rattle.nvme_model.specs.declared.config.ConfigNumbers.{ConfigNumbers}
use Rattle.nvme_model.specs.declared.entry.Entry.{Entry}
use Rattle.nvme_model.proofs.Accepted.{accepted}
use Rattle.range_reserve.specs.declared.held.HeldRange.{HeldRange}
use Rattle.rings.specs.Completions.{CompletionRing}
use Rattle.rings.specs.Submissions.{SubmissionRing}
use Rattle.history_check.specs.Kept.{IsCheckerState, CheckerState, ShowsTables, Stands, CheckerRun}
use Rattle.history_check.specs.Rings.{checked_completion_ring, checked_submission_ring}
use Rattle.history_check.specs.Steps.{Took}
use Rattle.history_check.specs.declared.fields.CheckedInFlight.{CheckedInFlight}
use Rattle.history_check.proofs.Following.{legal_next}
use Rattle.rings.proofs.Tables.{IsTable-replicate}
use Rattle.rings.proofs.Beginnings.{completion_empty, submission_empty}

-- ---- no entry

submission_begins : (c : ConfigNumbers) (k : ℕ) → checked_submission_ring c (tables c []) k ≡ submission_empty c.sq_size
submission_begins c k = ap (λ n. record (submission_empty c.sq_size) { head = n }) (zero-mod c.sq_size)

completion_begins : (c : ConfigNumbers) (k : ℕ) → checked_completion_ring c (tables c []) k ≡ completion_empty c.cq_size
completion_begins c k = (λ i. record (completion_empty c.cq_size) {
  tail = zero-mod c.cq_size i;
  phase = zero-div c.cq_size i % 2 == 0;
})

-- what is kept of none
pub keeps_none : (c m : ConfigNumbers) (v : List (List ℕ)) (s : List SubmissionRing) (us : List UsedCids)
    (q : List CompletionRing) (fs : List CheckedInFlight) (r : List HeldRange)
    → m ≡ c → config_fault m ≡ None → v ≡ replicate m.blocks zeros → s ≡ replicate m.pairs (submission_empty m.sq_size)
    → us ≡ replicate m.pairs (record { room = 2 * m.jobs; cids = [] })
    → q ≡ replicate m.cqs (completion_empty m.cq_size) → fs ≡ [] → r ≡ []
    → IsCheckerState c [] (record {
      volume = v;
      submission = s;
      in_use = us;
      completion = q;
      flights = fs;
      held = r;
      tickets = 0;
    })
keeps_none c m v s us q fs r same accepted vs ss empty qs none free =
    subst (λ (x : ConfigNumbers).
    IsCheckerState x [] (record {
      volume = v;
      submission = s;
      in_use = us;
      completion = q;
      flights = fs;
      held = r;
      tickets = 0;
    })) same
    (record {
      accepted = accepted;
      legal_so_far = refl;
      shows = record {
        blocks = ap length vs ∙ length-replicate m.blocks zeros;
        values = λ l below. ap (λ (xs : List (List ℕ)). contents_in xs l) vs
            ∙ get_or-replicate m.blocks l zeros [] below;
        sq_rings = IsTable-replicate _ m.pairs _ s ss (λ k. submission_begins m (suc k));
        in_use = none_used m.pairs (2 * m.jobs) (in_use (tables m [])) us (λ k. refl) empty;
        cq_rings = IsTable-replicate _ m.cqs _ q qs (λ k. completion_begins m (suc k));
        in_flight = none;
        ranges = free;
        count = refl;
      };
    })

-- ---- one more entry

-- and behind legal ones
pub stands_next : (c : ConfigNumbers) (past : Past) (x : CheckerRun) (e : Entry) (b : Bool) (k : CheckerState)
    → Stands c past x
    → x.is_legal ≡ true → Took c past e b k
    → (b ≡ legal c (e ∷ past)) × Stands c (e ∷ past) (record { config = x.config; is_legal = b; kept = k })
stands_next c past x e b k s good t =
    let keeps = s.keeps good in
    let answer : b ≡ legal c (e ∷ past) = t.answer ∙ sym (judged_is c past e keeps.legal_so_far)
    ∙ sym (ap (λ a. a && may_follow c past e) (sym s.answer ∙ good)) in (
      answer,
      record {
        same = s.same;
        answer = answer;
        keeps = λ true_now.
            let legal_then = legal_next c past x.kept e keeps (sym t.answer ∙ true_now) in
            record {
              accepted = keeps.accepted;
              legal_so_far = legal_then;
              shows = subst (λ (y : Tables). ShowsTables c y k) (sym (taken_is c past e legal_then)) (t.shows true_now);
            };
      },
    )
