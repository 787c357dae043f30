use Rattle.casdisk_texts.proofs.Continuing.{legal_made, runs_from}
use Rattle.casdisk_texts.proofs.going_on.run_from.Goals as goal

pub returns : goal.returns
returns g c =
    let core = c.in_ok-core.core in
    let made = c.in_ok-core.ensures.made in
    record {
      runs = runs_from c.args.kinds.0 core _ _ _ _ _ _ _ c.go_on.result made c.go_on.ensures.goes_on;
      legal = legal_made c.args.kinds.0 core _ c.go_on.result c.in_ok-core.ensures.legal made.1;
    }
