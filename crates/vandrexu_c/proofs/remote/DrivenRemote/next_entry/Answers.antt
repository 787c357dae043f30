use Rattle.std.proofs.Common.{ap, refl, sym}
use Rattle.std.specs.Prelude.{option_copied}
use Rattle.vandrexu_c.proofs.RemoteLooked.{given_none, untouched_here}
use Rattle.vandrexu_c.proofs.remote.DrivenRemote.next_entry.Goals as goal

pub returns-in_default : goal.returns-in_default
returns-in_default c =
    let d = c.self.inside.host.driver in
    rw (sym c.self.view_is) (record {
      untouched = untouched_here d;
      calls = refl;
      given_up = refl;
      payload = refl;
      next = given_none d.port (option_copied c.peek.result) c.args.entry.now c.args.out.now c.peek.ensures
          (ap option_copied c.in_default.is);
    })
