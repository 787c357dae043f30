use Rattle.std.proofs.Common.{Err, Ok, refl}
use Rattle.work_queue.specs.Engines.{fetch_declined}
use Rattle.c_handles.proofs.Works.{fetched_by, nothing_kept}
use Rattle.c_handles.proofs.disk.Disk.fetch.Goals as goal

pub returns-in-Ok : goal.returns-in-Ok
returns-in-Ok c =
    let x = c.fetch.ensures in
    record {
      unfinished = λ w h. absurd (nothing_kept _ w c.is_some.ensures c.if-is_some.false h);
      fetches = λ h. record {
        same = record {
          config = refl;
          engine = refl;
          slots = refl;
          passes = refl;
          numbers = refl;
          ended = refl;
          server = x.same;
        };
        knows = x.knows;
        answer = Ok c.in-Ok.work;
        gives = (refl, fetched_by _ _ _ _ _ _ c.deref.ensures c.in-Ok.ensures.accepted);
        told = refl;
      };
    }

pub returns-in-Err : goal.returns-in-Err
returns-in-Err c =
    let x = c.fetch.ensures in
    record {
      unfinished = λ w h. absurd (nothing_kept _ w c.is_some.ensures c.if-is_some.false h);
      fetches = λ h. record {
        same = record {
          config = refl;
          engine = refl;
          slots = refl;
          passes = refl;
          numbers = refl;
          ended = refl;
          server = x.same;
        };
        knows = x.knows;
        answer = Err (fetch_declined c.in-Err.unmade);
        gives = (h, c.in-Err.ensures.declined);
        told = c.unfetched.ensures;
      };
    }
