use Rattle.std.proofs.Common.{Err, Ok, inr, refl}
use Rattle.c_handles.proofs.Works.{makes_of, one_kept, some_kept}
use Rattle.c_handles.proofs.disk.Disk.task.Goals as goal

pub returns-in-Ok : goal.returns-in-Ok
returns-in-Ok c =
    let x = c.attempt_work.ensures in
    record {
      none = λ h. absurd (some_kept c.in-Some.ensures.value h);
      same = record {
        config = refl;
        engine = refl;
        slots = refl;
        passes = refl;
        numbers = refl;
        ended = refl;
        server = x.same.0;
      };
      makes = λ w h. inr (makes_of _ _ _ w _ (one_kept c.in-Some.ensures.value h) (record {
        task = c.in-Some-next_task.task;
        later = c.attempt_work.new.work;
        answer = Ok c.in-Ok.field-0;
        kept = refl;
        asked = record {
          allowed = c.in-Some-next_task.ensures.allowed;
          work = x.same.2;
          queue = x.same.3;
          knows = x.knows;
          made = c.in-Ok.ensures.accepted;
          declined = tt;
        };
        told = refl;
      }));
    }

pub returns : goal.returns
returns c =
    let x = c.attempt_work.ensures in
    record {
      none = λ h. absurd (some_kept c.in-Some.ensures.value h);
      same = record {
        config = refl;
        engine = refl;
        slots = refl;
        passes = refl;
        numbers = refl;
        ended = refl;
        server = x.same.0;
      };
      makes = λ w h. inr (makes_of _ _ _ w _ (one_kept c.in-Some.ensures.value h) (record {
        task = c.in-Some-next_task.task;
        later = c.attempt_work.new.work;
        answer = Err c.in-Err.declined;
        kept = refl;
        asked = record {
          allowed = c.in-Some-next_task.ensures.allowed;
          work = x.same.2;
          queue = x.same.3;
          knows = x.knows;
          made = tt;
          declined = c.in-Err.ensures.declined;
        };
        told = c.declined_in.ensures;
      }));
    }
