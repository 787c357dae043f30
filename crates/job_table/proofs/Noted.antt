-- A ticket after a Block of its open unit.
use Rattle.std.proofs.Common.{◌≡◌, ◌∙◌, ◌++◌, ◌+◌, Bool, Box, List, Some, ap, arith, cond, drop, false, length, refl}
use Rattle.std.proofs.Common.{slice_set, subst, sym, take, true, ℕ}
use Rattle.std.proofs.lemmas.List.{drop-drop, drop-set-lt, length-set}
use Rattle.std.proofs.Math.Seq.{take-append_seam}
use Rattle.nvme_model.specs.declared.operation.Found.{Found}
use Rattle.block_array.specs.Blocks.{contents_of}
use Rattle.block_array.proofs.Contents.{length-contents_of}
use Rattle.block_exec.specs.Bytes.{block_at, boxes_after, takes_box}
use Rattle.block_exec.specs.Course.{done_by}
use Rattle.block_exec.specs.Progress.{UnitProgress, next_block}
use Rattle.block_exec.specs.declared.run.Done.{Done}
use Rattle.job_table.specs.Stages.{IfOpen, Ticking, is_open, noted_in}
use Rattle.job_table.specs.declared.progress.TicketStage.{TicketStage}
use Rattle.job_table.specs.declared.progress.TicketStage.TheVariants.{Open, Owing, Waiting}
use Rattle.job_table.specs.Keeping.{Keeping, noted_job, read_of, written_on}

-- a list that came back with as many elements
pub same_size : {X : Type 0} (xs ys : List X) → length ys ≡ length xs
    → take (length xs) (ys ++ drop (length ys) xs) ≡ ys
same_size xs ys e = ap (λ n. take n (ys ++ drop (length ys) xs)) (sym e) ∙ take-append_seam ys (drop (length ys) xs)

-- there are as many boxes after a Block
pub box_count : {Z : Type 0} (old new : List (Box (List ℕ) Z)) (p : UnitProgress) (v : List (List ℕ)) (i : ℕ)
    (f : Found)
    → contents_of new ≡ boxes_after p v (contents_of old) i f → length new ≡ length old
box_count old new p v i f e = sym (length-contents_of new) ∙ ap length e ∙ go (takes_box p.op f)
    ∙ length-contents_of old
  where
    go : (b : Bool) → length (cond b (slice_set (contents_of old) i (block_at v (next_block p))) (contents_of old))
        ≡ length (contents_of old)
    go true = length-set (contents_of old) i (block_at v (next_block p))
    go false = refl

-- what is still to be written, after it, where w of these blocks were written
pub blocks_on : (xs ys : List (List ℕ)) (p : UnitProgress) (v : List (List ℕ)) (w n : ℕ) (f : Found)
    → ys ≡ boxes_after p v xs w f → n ≡ cond (takes_box p.op f) (w + 1) w → drop n ys ≡ written_on p.op f (drop w xs)
blocks_on xs ys p v w n f e count = (λ z. drop (count z) (e z)) ∙ go (takes_box p.op f)
  where
    go : (b : Bool) → drop (cond b (w + 1) w) (cond b (slice_set xs w (block_at v (next_block p))) xs)
        ≡ cond b (drop 1 (drop w xs)) (drop w xs)
    go true = drop-set-lt (w + 1) xs w (block_at v (next_block p)) (omega arith) ∙ sym (drop-drop 1 w xs)
    go false = refl

-- what holds of this unit holds of the one that is open
at_open : (s : TicketStage) (p : UnitProgress) (P : UnitProgress → Type 0) → IfOpen s (λ r. Some p ≡ Some r) → P p
    → IfOpen s P
at_open (Open r u left) p P e h = subst P (some_inj e) h
  where
    some_inj : Some p ≡ Some r → p ≡ r
    some_inj h = cc
at_open (Waiting o u left) p P e h = tt
at_open (Owing owed) p P e h = tt

-- what is counted is what was found
counted : (s : TicketStage) (d : Done) (f : Found) → is_open s ≡ true → IfOpen s (λ r. d ≡ done_by r f) → d.found ≡ f
counted (Open r u left) d f up e = ap (λ (x : Done). x.found) e
counted (Waiting o u left) d f up e = absurd cc
counted (Owing owed) d f up e = absurd cc

-- the ticket after it, where these calls made it of this one
pub made : (j x : Keeping) (p : UnitProgress) (v : List (List ℕ)) (f : Found) (d : Done) (progress : Ticking)
    (write : List (List ℕ)) (read : List ℕ) → j ≡ x → is_open x.progress.stage ≡ true
    → IfOpen j.progress.stage (λ r. Some p ≡ Some r)
    → IfOpen j.progress.stage (λ r. d ≡ done_by r f)
    → progress ≡ record j.progress { stage = noted_in j.progress.stage f }
    → write ≡ written_on p.op f j.write → read ≡ read_of j.read j.slba p v f
    → IfOpen x.progress.stage (λ r. record j { progress = progress; write = write; read = read }
    ≡ noted_job x r v d.found)
made j x p v f d progress write read same up is says noted writes reads =
    let open_then = ap (λ (y : Keeping). is_open y.progress.stage) same ∙ up in
    subst (λ (y : Keeping). IfOpen y.progress.stage
    (λ r. record j { progress = progress; write = write; read = read } ≡ noted_job y r v d.found)) same
    (at_open j.progress.stage p (λ r. record j { progress = progress; write = write; read = read }
    ≡ noted_job j r v d.found)
    is
    ((λ z. record j { progress = noted z; write = writes z; read = reads z })
    ∙ ap (noted_job j p v) (sym (counted j.progress.stage d f open_then says))))
