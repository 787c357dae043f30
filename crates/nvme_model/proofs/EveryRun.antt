-- Every run of steps is legal.
use Rattle.std.proofs.Common.{◌≡◌, ℕ, true, false, List, [], ◌∷◌, length, refl, sym, ap, subst, Option, Some, None}
use Rattle.std.proofs.Common.{is_none, slice_get, eqb, eqb-true}
use Rattle.std.specs.List.{find}
use Rattle.std.proofs.lemmas.Bool.{and_from, and_parts}
use Rattle.nvme_model.specs.declared.config.ConfigNumbers.{ConfigNumbers}
use Rattle.nvme_model.specs.Tickets
use Rattle.nvme_model.specs.History.{Past}
use Rattle.nvme_model.specs.Operations.{op}
use Rattle.nvme_model.specs.Open.{open_units, blocks_made}
use Rattle.nvme_model.specs.Tickets.{posts_of}
use Rattle.nvme_model.specs.Completions.{posted_completions, reaped_count}
use Rattle.nvme_model.specs.Value.{value}
use Rattle.nvme_model.specs.Medium.{medium}
use Rattle.nvme_model.specs.Owed.{owed}
use Rattle.nvme_model.specs.Refusals.{refusal, next_unit}
use Rattle.nvme_model.specs.Steps.{marked, word, due, block_entry, grant_entry, post_entry, reap_entry, next_entry}
use Rattle.nvme_model.specs.Steps.{after, after_by, run}
use Rattle.nvme_model.specs.Legal.{IsLegal, may_follow, block_fits}
use Rattle.nvme_model.specs.Laws.{MarkedRight, is_held}
use Rattle.nvme_model.specs.Kept.{ControllerInvariant, WordsRight}
use Rattle.nvme_model.specs.declared.array.Range.{Range}
use Rattle.nvme_model.specs.declared.entry.GrantLine.{GrantLine}
use Rattle.nvme_model.specs.declared.operation.Found.{Found}
use Rattle.nvme_model.specs.declared.status.Status.{Status}
use Rattle.nvme_model.specs.declared.entry.PostLine.{PostLine}
use Rattle.nvme_model.specs.declared.entry.BlockLine.{BlockLine}
use Rattle.nvme_model.specs.declared.entry.Entry.{Entry}
use Rattle.nvme_model.specs.declared.step.Step.{Step}
use Rattle.nvme_model.specs.declared.refusal.Why.{Why}
use Rattle.nvme_model.proofs.Lists.{each_find}
use Rattle.nvme_model.proofs.Blocks.{OpenFacts, open_facts}
use Rattle.nvme_model.proofs.Runs.{publish_follows, fetch_follows, grant_follows, reap_follows}
use Rattle.nvme_model.proofs.NextBlock.{block_follows, line}
use Rattle.nvme_model.proofs.NextPost.{post_follows}
use Rattle.nvme_model.proofs.Medium.{medium_is_value}
use Rattle.nvme_model.proofs.Cut.{clash}

block_kept : (c : ConfigNumbers) (past : Past) (t : ℕ) → ControllerInvariant c past → (o : Option GrantLine)
    → find (λ g. eqb g.ticket t) (open_units past) ≡ o
    → may_follow c past (block_entry past t o) ≡ true → ControllerInvariant c (block_entry past t o ∷ past)
block_kept c past t h None e f =
    clash false (subst (λ (o : Option GrantLine). block_fits past nothing o ≡ true) e (and_parts _ _ f).1) refl
  where
    nothing : BlockLine
    nothing = record { ticket = t; unit = 0; lba = 0; found = Found.Read; effect = false }
block_kept c past t h (Some g) e f =
    let m = each_find (OpenFacts past) (λ x. eqb x.ticket t) (open_units past) g (open_facts c past h.legal) e in
    subst (λ (i : ℕ). may_follow c past (block_entry past i (Some g)) ≡ true
    → ControllerInvariant c (block_entry past i (Some g) ∷ past)) (eqb-true g.ticket t m.1)
    (λ y. record {
      legal = and_from _ _ h.legal y;
      marks = (
        h.marks,
        ap (λ (r : Range).
            marked (op (Tickets.ticket past g.ticket)) r.blocks (length (blocks_made past g.ticket g.unit))
            (line past g).found) (sym m.0.facts.range),
      );
      words = (
        h.words,
        ap (λ (r : Range).
            word past (Tickets.ticket past g.ticket) (op (Tickets.ticket past g.ticket)) r.blocks
            (length (blocks_made past g.ticket g.unit)) (due g.range (length (blocks_made past g.ticket g.unit))))
            (sym m.0.facts.range),
      );
    }) f

-- an entry that is no Block
plain_kept : (c : ConfigNumbers) (past : Past) (e : Entry) → (MarkedRight past → MarkedRight (e ∷ past))
    → (WordsRight past → WordsRight (e ∷ past)) → ControllerInvariant c past → may_follow c past e ≡ true
    → ControllerInvariant c (e ∷ past)
plain_kept c past e m w h f = record { legal = and_from _ _ h.legal f; marks = m h.marks; words = w h.words }

pub step_kept : (c : ConfigNumbers) (past : Past) (step : Step) → ControllerInvariant c past
    → is_none (refusal c past step) ≡ true
    → ControllerInvariant c (next_entry c past step ∷ past)
step_kept c past (Step.Publish q batch) h n =
    plain_kept c past (next_entry c past (Step.Publish q batch)) (λ m. m) (λ w. w) h (publish_follows c past q batch n)
step_kept c past (Step.Fetch q) h n =
    plain_kept c past (next_entry c past (Step.Fetch q)) (λ m. m) (λ w. w) h (fetch_follows c past q n)
step_kept c past (Step.Grant t) h n = by_unit (next_unit c past t) (grant_follows c past t n)
  where
    by_unit : (o : Option Range) → may_follow c past (grant_entry past t o) ≡ true
        → ControllerInvariant c (grant_entry past t o ∷ past)
    by_unit None f = plain_kept c past (grant_entry past t None) (λ m. m) (λ w. w) h f
    by_unit (Some r) f = plain_kept c past (grant_entry past t (Some r)) (λ m. m) (λ w. w) h f
step_kept c past (Step.Block t) h n =
    block_kept c past t h (find (λ g. eqb g.ticket t) (open_units past)) refl
    (block_follows c past t h.legal h.marks h.words n)
step_kept c past (Step.Post t) h n =
    by_status (slice_get (owed c past t) (posts_of past t)) (post_follows c past t h.legal h.marks n)
  where
    by_status : (o : Option Status) → may_follow c past (post_entry c past t o) ≡ true
        → ControllerInvariant c (post_entry c past t o ∷ past)
    by_status None f = plain_kept c past (post_entry c past t None) (λ m. m) (λ w. w) h f
    by_status (Some s) f = plain_kept c past (post_entry c past t (Some s)) (λ m. m) (λ w. w) h f
step_kept c past (Step.Reap q) h n =
    by_post (slice_get (posted_completions c past q) (reaped_count past q)) (reap_follows c past q h.legal n)
  where
    by_post : (o : Option PostLine) → may_follow c past (reap_entry q o) ≡ true
        → ControllerInvariant c (reap_entry q o ∷ past)
    by_post None f = plain_kept c past (reap_entry q None) (λ m. m) (λ w. w) h f
    by_post (Some p) f = plain_kept c past (reap_entry q (Some p)) (λ m. m) (λ w. w) h f

pub after_kept : (c : ConfigNumbers) (past : Past) (step : Step) → ControllerInvariant c past
    → ControllerInvariant c (after c past step)
after_kept c past step h = go (refusal c past step) refl
  where
    go : (o : Option Why) → refusal c past step ≡ o → ControllerInvariant c (after_by c past step o)
    go None e = step_kept c past step h (ap is_none e)
    go (Some n) e = h

pub run_kept : (c : ConfigNumbers) (past : Past) (steps : List Step) → ControllerInvariant c past
    → ControllerInvariant c (run c past steps)
run_kept c past [] h = h
run_kept c past (step ∷ steps) h = run_kept c (after c past step) steps (after_kept c past step h)

-- a history without an entry
pub none_kept : (c : ConfigNumbers) → ControllerInvariant c []
none_kept c = record { legal = refl; marks = tt; words = tt }

pub every_run_legal : (c : ConfigNumbers) (steps : List Step) → IsLegal c (run c [] steps)
every_run_legal c steps = (run_kept c [] steps (none_kept c)).legal

-- and its volume is the value, where no open Exclusive unit has the block
pub every_run_volume : (c : ConfigNumbers) (steps : List Step) (l : ℕ) → is_held (run c [] steps) l ≡ false
    → medium (run c [] steps) l ≡ value (run c [] steps) l
every_run_volume c steps l e =
    let h = run_kept c [] steps (none_kept c) in
    medium_is_value c (run c [] steps) l h.legal h.marks e
