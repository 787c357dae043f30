use Rattle.nvme_model.proofs.OneAtATime.{one_at_a_time}
use Rattle.meet_lock.specs.Passes.{config_of, seen}
use Rattle.nvme_model.proofs.Medium.{medium_is_value}
use Rattle.nvme_model.specs.Passes.{entries}
use Rattle.meet_lock.proofs.laws.what_a_pass_has_seen.Goals as goal

pub returns-clause-legal : goal.returns-clause-legal
returns-clause-legal g c = c.requires.knows.legal

pub returns-clause-array : goal.returns-clause-array
returns-clause-array g c =
    one_at_a_time (config_of c.args.pass.now) (entries (seen c.args.pass.now)) c.requires.knows.legal

pub returns-clause-volume : goal.returns-clause-volume
returns-clause-volume g c =
    λ l. medium_is_value (config_of c.args.pass.now) (entries (seen c.args.pass.now)) l c.requires.knows.legal
    c.requires.knows.marks
