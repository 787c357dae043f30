-- The tickets in flight after one more Post, and what goes with it.
use Rattle.std.proofs.Common.{◌≡◌, ◌≢◌, ℕ, ◌+◌, ◌-◌, ◌<◌, Bool, true, false, cond, ◌∷◌, drop, length, refl, sym, ap}
use Rattle.std.proofs.Common.{◌∙◌, arith, eqb, eqb-true, eq-eqb, ltb-true, lt-ltb, le-ltb}
use Rattle.std.specs.Prelude.{if◌then◌else◌, ◌==◌}
use Rattle.std.proofs.lemmas.List.{length-map, length-drop}
use Rattle.nvme_model.specs.declared.config.ConfigNumbers.{ConfigNumbers}
use Rattle.nvme_model.specs.declared.entry.Entry.{Entry}
use Rattle.nvme_model.specs.declared.entry.PostLine.{PostLine}
use Rattle.nvme_model.specs.EntryBytes.{sqe_fields}
use Rattle.nvme_model.specs.History.{Past}
use Rattle.nvme_model.specs.Tickets
use Rattle.nvme_model.specs.Tickets.{cids, in_flight, posts_of}
use Rattle.ticket_laws.specs.Standing.{Standing, flying, standing}
use Rattle.ticket_laws.proofs.Standings.{post_here, post_other, post_flying_on, post_flying_off}
use Rattle.ticket_laws.proofs.Waiting.{drop_twice}
use Rattle.job_table.specs.Jobs.{JobTable, jobs_beside, jobs_by, replaced}
use Rattle.job_table.proofs.Tables.{beside-jobs_by_agree}
use Rattle.job_table.specs.Keeping.{Keeping, posted_job}
use Rattle.job_table.specs.Shown.{standing_stage}
use Rattle.job_table.specs.Stages.{owed_in}
use Rattle.job_table.specs.declared.progress.TicketStage.{TicketStage}
use Rattle.job_table.specs.declared.progress.TicketStage.TheVariants.{Open, Owing, Waiting}
use Rattle.job_table.proofs.Posted.{posted}
use Rattle.job_table.specs.Tickets.{job_at, job_by, job_table}
use Rattle.step_core.proofs.Moves.{jobs_moved}

-- a ticket that owes something stands there
owing : (s : TicketStage) → 0 < length (owed_in s) → s ≡ Owing (owed_in s)
owing (Owing owed) some = refl
owing (Waiting o u left) some = absurd (omega (arith, some))
owing (Open p u left) some = absurd (omega (arith, some))

-- the tickets in flight after a Post of this ticket, with this job: its last completion takes it out of flight
abbrev pub posted_table : JobTable → ℕ → Keeping → JobTable
posted_table table t j =
    if length j.progress.cids == 1 then record table { jobs = jobs_beside table.jobs t }
    else record table { jobs = replaced table.jobs t (posted_job j) }

-- what is kept of a ticket that owes something, with its next completion posted, is that after its Post
pub posted_job_at : (c : ConfigNumbers) (past : Past) (p : PostLine)
    → 0 < length (owed_in (job_at c past p.ticket).progress.stage)
    → posted_job (job_at c past p.ticket) ≡ job_at c (Entry.Post p ∷ past) p.ticket
unfolding job_by
posted_job_at c past p some =
    let s : Standing = standing past p.ticket in
    let stage : Owing (drop 1 (owed_in (standing_stage c s))) ≡ standing_stage c (record s { posts = s.posts + 1 }) =
    sym (ap (standing_stage c) (sym (post_here past p))
    ∙ posted c past p (owed_in (standing_stage c s)) (owing (standing_stage c s) some)) in
    let cids_then = drop_twice s.posts 1 (cids s.ticket) in
    (λ i. record (job_by c s) { progress = record { stage = stage i; cids = cids_then i } })
    ∙ ap (job_by c) (sym (post_here past p))

-- how many completions it still owes
cids_left : (c : ConfigNumbers) (past : Past) (t : ℕ)
    → length (job_at c past t).progress.cids ≡ length (Tickets.ticket past t).commands - posts_of past t
unfolding job_by
cids_left c past t =
    length-drop (posts_of past t) (cids (Tickets.ticket past t))
    ∙ ap (λ n. n - posts_of past t) (length-map (Tickets.ticket past t).commands (λ s. (sqe_fields s.entry).cid))

posts_more : (past : Past) (p : PostLine) → posts_of (Entry.Post p ∷ past) p.ticket ≡ posts_of past p.ticket + 1
posts_more past p = ap (λ b. posts_of past p.ticket + cond b 1 0) (eq-eqb p.ticket p.ticket refl)

-- the tickets in flight then
pub posted_table_is : (c : ConfigNumbers) (past : Past) (p : PostLine) → in_flight past p.ticket ≡ true
    → 0 < length (owed_in (job_at c past p.ticket).progress.stage)
    → posted_table (job_table c past) p.ticket (job_at c past p.ticket) ≡ job_table c (Entry.Post p ∷ past)
posted_table_is c past p f some = go (eqb (length (job_at c past p.ticket).progress.cids) 1) refl
  where
    left : length (Tickets.ticket past p.ticket).commands - posts_of past p.ticket
        ≡ length (job_at c past p.ticket).progress.cids
    left = sym (cids_left c past p.ticket)

    apart : (s : ℕ) → eqb s p.ticket ≡ false → s ≢ p.ticket
    apart s e q = absurd (let x : true ≡ false = sym (eq-eqb s p.ticket q) ∙ e in cc)

    go : (b : Bool) → eqb (length (job_at c past p.ticket).progress.cids) 1 ≡ b
        → cond b (record (job_table c past) { jobs = jobs_beside (job_table c past).jobs p.ticket })
        (record (job_table c past)
        { jobs = replaced (job_table c past).jobs p.ticket (posted_job (job_at c past p.ticket)) })
        ≡ job_table c (Entry.Post p ∷ past)
    go true e =
        let last : in_flight (Entry.Post p ∷ past) p.ticket ≡ false =
        le-ltb (posts_of (Entry.Post p ∷ past) p.ticket) (length (Tickets.ticket past p.ticket).commands)
        (omega (arith, posts_more past p, left, eqb-true _ _ e, ltb-true _ _ f)) in
        ap (λ js. record (job_table c past) { jobs = js })
        (beside-jobs_by_agree (job_at c past) (job_at c (Entry.Post p ∷ past)) (flying past) p.ticket
        (record { at = λ u k n. ap (job_by c) (sym (post_other past p u (apart u n))) })
        ∙ ap (jobs_by (job_at c (Entry.Post p ∷ past))) (sym (post_flying_off past p last)))
    go false e =
        let on : in_flight (Entry.Post p ∷ past) p.ticket ≡ true =
        lt-ltb (posts_of (Entry.Post p ∷ past) p.ticket) (length (Tickets.ticket past p.ticket).commands)
        (further e) in
        ap (λ js. record (job_table c past) { jobs = js })
        (ap (replaced (job_table c past).jobs p.ticket) (posted_job_at c past p some)
        ∙ jobs_moved c past (Entry.Post p) p.ticket (post_other past p)
        ∙ ap (jobs_by (job_at c (Entry.Post p ∷ past))) (sym (post_flying_on past p f on)))
      where
        not_one : (n : ℕ) → eqb n 1 ≡ false → n ≢ 1
        not_one n e q = absurd (let x : true ≡ false = sym (eq-eqb n 1 q) ∙ e in cc)

        further : eqb (length (job_at c past p.ticket).progress.cids) 1 ≡ false
            → posts_of (Entry.Post p ∷ past) p.ticket < length (Tickets.ticket past p.ticket).commands
        further e = omega (arith, posts_more past p, left, not_one _ e, ltb-true _ _ f)
