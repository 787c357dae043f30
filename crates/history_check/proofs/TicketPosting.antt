-- What a Post asks for.
use Rattle.std.proofs.Common.{◌≡◌, ◌%◌, refl, Option, Some, None}
use Rattle.nvme_model.specs.Completions.{phase}
use Rattle.nvme_model.specs.Config.{completion_queue}
use Rattle.nvme_model.specs.declared.config.ConfigNumbers.{ConfigNumbers}
use Rattle.nvme_model.specs.declared.entry.PostLine.{PostLine}
use Rattle.nvme_model.specs.declared.status.Status.{Status}
use Rattle.history_check.specs.Judged.{post_fits_by}
use Rattle.history_check.specs.Tables.{Tables}
use Rattle.history_check.specs.Contents.{post_fits_at}

pub by_rings : (c : ConfigNumbers) (s : Tables) (p : PostLine) (o : Option Status)
    → post_fits_by c s p o ≡ post_fits_at (s.fetched (s.flight p.ticket).ticket.queue % c.sq_size)
    (phase (s.posts (completion_queue c (s.flight p.ticket).ticket.queue)) c.cq_size) (s.flight p.ticket) p o
by_rings c s p None = refl
by_rings c s p (Some status) = refl
