-- The stage of a ticket after a Post.
use Rattle.std.proofs.Common.{◌≡◌, ◌+◌, ◌==◌, ◌∙◌, ◌∷◌, Bool, List, None, Option, Some, ap, cond, drop, false, sym}
use Rattle.std.proofs.Common.{true}
use Rattle.nvme_model.specs.declared.config.ConfigNumbers.{ConfigNumbers}
use Rattle.nvme_model.specs.declared.entry.Entry.{Entry}
use Rattle.nvme_model.specs.declared.entry.PostLine.{PostLine}
use Rattle.nvme_model.specs.declared.operation.Op.{Op}
use Rattle.nvme_model.specs.declared.status.Status.{Status}
use Rattle.nvme_model.specs.History.{Past}
use Rattle.nvme_model.specs.Operations.{op}
use Rattle.ticket_laws.specs.Standing.{OpenUnit, Standing, blocks_left, owed_by_standing, standing, still_owed}
use Rattle.ticket_laws.proofs.Standings.{post_here}
use Rattle.ticket_laws.proofs.Waiting.{drop_twice}
use Rattle.job_table.specs.Shown.{stage_by, standing_stage}
use Rattle.job_table.specs.declared.progress.TicketStage.TheVariants.{Owing, Waiting}

one_more : (c : ConfigNumbers) (s : Standing) (ss : List Status) (o : Option Op) (u : Option OpenUnit)
    → stage_by c s o u ≡ Owing ss → stage_by c (record s { posts = s.posts + 1 }) o u ≡ Owing (drop 1 ss)
one_more c s ss o u e = go o u e
  where
    owing_inj : (xs ys : List Status) → Owing xs ≡ Owing ys → xs ≡ ys
    owing_inj xs ys e = cc

    owes : still_owed c s ≡ ss → Owing (still_owed c (record s { posts = s.posts + 1 })) ≡ Owing (drop 1 ss)
    owes q = ap Owing (sym (drop_twice s.posts 1 (owed_by_standing c s s.ticket.verdict)) ∙ ap (drop 1) q)

    go : (o : Option Op) (u : Option OpenUnit) → stage_by c s o u ≡ Owing ss
        → stage_by c (record s { posts = s.posts + 1 }) o u ≡ Owing (drop 1 ss)
    go None u e = owes (owing_inj _ _ e)
    go (Some o) (Some x) e = absurd cc
    go (Some o) None e = by ((blocks_left c s).blocks == 0) e
      where
        by : (b : Bool) → cond b (Owing (still_owed c s)) (Waiting o s.opened (blocks_left c s)) ≡ Owing ss
            → cond b (Owing (still_owed c (record s { posts = s.posts + 1 }))) (Waiting o s.opened (blocks_left c s))
            ≡ Owing (drop 1 ss)
        by true e = owes (owing_inj _ _ e)
        by false e = absurd cc

pub posted : (c : ConfigNumbers) (past : Past) (p : PostLine) (ss : List Status)
    → standing_stage c (standing past p.ticket) ≡ Owing ss
    → standing_stage c (standing (Entry.Post p ∷ past) p.ticket) ≡ Owing (drop 1 ss)
posted c past p ss e = ap (standing_stage c) (post_here past p)
    ∙ one_more c (standing past p.ticket) ss (op (standing past p.ticket).ticket) (standing past p.ticket).unit e
