use Rattle.driver_cas.specs.Drivers.{area_of}
use Rattle.slot_alloc.proofs.Keeping.{pair_sound, request_sound, start_kept}
use Rattle.slot_alloc.proofs.Polling.{slot_rules_polled, goes_on_polled}
use Rattle.driver_cas.specs.Requests.{pair_request_of, request_of}
use Rattle.slot_alloc.proofs.laws.other_calls_touch_no_slot.Goals as goal

pub returns : goal.returns
returns g c =
    let d = c.args.old.now.value in
    let e = c.args.new.now in
    record {
      start = λ same later acwu slba bytes o contents result s.
          start_kept g.P.Port d e (request_of acwu (area_of d) o slba bytes) contents result same later
          (request_sound acwu (area_of d) o slba bytes) s;
      pair = λ same later acwu slba bytes others contents result s.
          start_kept g.P.Port d e (pair_request_of acwu (area_of d) slba bytes others) contents result same later
          (pair_sound acwu (area_of d) slba bytes others) s;
      poll = λ same later one. (
        slot_rules_polled g.P.Port d e (record { same = same; later = later; one = one }),
        goes_on_polled g.P.Port d e (record { same = same; later = later; one = one }),
      );
    }
