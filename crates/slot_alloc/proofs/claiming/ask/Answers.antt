use Rattle.std.proofs.Common.{Err, Ok, arith, refl, rules, ◌≡◌, ◌≢◌}
use Rattle.driver_cas.specs.Drivers.{area_of}
use Rattle.driver_cas.specs.declared.fault.Fault.{Fault}
use Rattle.slot_alloc.specs.Areas.{block_of}
use Rattle.slot_alloc.proofs.Asking.{call_kept, claiming_due, claiming_now, claims_of, start_of, told_full, told_later}
use Rattle.slot_alloc.proofs.Asking.{unreleased_now}
use Rattle.slot_alloc.proofs.Counting.{counts_claimed, counts_same, not_counted}
use Rattle.slot_alloc.proofs.Starting.{slot_rules_claimed, slot_rules_same, goes_on_claimed, goes_on_same}
use Rattle.slot_alloc.specs.Counts.{claims_made}
use Rattle.slot_alloc.proofs.Drawn.{drawn_ruled}
use Rattle.slot_alloc.proofs.claiming.ask.Goals as goal

pub returns-in-Ok-clause-slot_rules : goal.returns-in-Ok-clause-slot_rules
returns-in-Ok-clause-slot_rules g c =
    let d = c.args.driver.now in
    let e = c.start_claim.new.self in
    let k = c.args.claiming in
    let x = c.in-Ok in
    slot_rules_claimed g.P.Port d e (block_of (area_of d) k.slot) x.call x.serial
    (claims_of g.P.Port d e k.slots k.slot c.block.result x.call x.serial c.block.ensures x.ensures.settings
    x.ensures.later x.ensures.is x.ensures.law.0 x.ensures.law.1 x.ensures.law.2 c.requires.of.area_is
    c.requires.of.inside)

pub returns-in-Ok-clause-drawn : goal.returns-in-Ok-clause-drawn
returns-in-Ok-clause-drawn g c = λ drawn.
    let d = c.args.driver.now in
    let e = c.start_claim.new.self in
    let k = c.args.claiming in
    let x = c.in-Ok in
    unreleased_now g.P.Port d e k.slot x.call x.serial
    (claims_of g.P.Port d e k.slots k.slot c.block.result x.call x.serial c.block.ensures x.ensures.settings
    x.ensures.later x.ensures.is x.ensures.law.0 x.ensures.law.1 x.ensures.law.2 c.requires.of.area_is
    c.requires.of.inside) drawn

pub returns-in-Ok-clause-unreleased : goal.returns-in-Ok-clause-unreleased
returns-in-Ok-clause-unreleased g c = λ slot_rules.
    let d = c.args.driver.now in
    let e = c.start_claim.new.self in
    let k = c.args.claiming in
    let x = c.in-Ok in
    unreleased_now g.P.Port d e k.slot x.call x.serial
    (claims_of g.P.Port d e k.slots k.slot c.block.result x.call x.serial c.block.ensures x.ensures.settings
    x.ensures.later x.ensures.is x.ensures.law.0 x.ensures.law.1 x.ensures.law.2 c.requires.of.area_is
    c.requires.of.inside) (drawn_ruled g.P.Port d slot_rules)

pub returns-in-Ok-clause-goes_on : goal.returns-in-Ok-clause-goes_on
returns-in-Ok-clause-goes_on g c =
    let d = c.args.driver.now in
    let e = c.start_claim.new.self in
    let k = c.args.claiming in
    let x = c.in-Ok in
    goes_on_claimed g.P.Port d e (block_of (area_of d) k.slot) x.call x.serial
    (claims_of g.P.Port d e k.slots k.slot c.block.result x.call x.serial c.block.ensures x.ensures.settings
    x.ensures.later x.ensures.is x.ensures.law.0 x.ensures.law.1 x.ensures.law.2 c.requires.of.area_is
    c.requires.of.inside)

pub returns-in-Ok-clause-is : goal.returns-in-Ok-clause-is
returns-in-Ok-clause-is g c =
    let k = c.args.claiming in
    let x = c.in-Ok in
    record {
      start = Ok (x.call, x.serial);
      is = start_of g.P.Port c.args.driver.now c.start_claim.new.self k.slots k.slot c.block.result
          (Ok (x.call, x.serial)) c.block.ensures c.requires.of.area_is x.ensures.is;
      told = refl;
    }

pub returns-in-Ok-clause-of : goal.returns-in-Ok-clause-of
returns-in-Ok-clause-of g c =
    let d = c.args.driver.now in
    let e = c.start_claim.new.self in
    let k = c.args.claiming in
    let x = c.in-Ok in
    claiming_now g.P.Port g.met.P.Port.goes_on d e k.began k.slots k.reach k.slot x.call x.serial k.lower
    (claims_of g.P.Port d e k.slots k.slot c.block.result x.call x.serial c.block.ensures x.ensures.settings
    x.ensures.later x.ensures.is x.ensures.law.0 x.ensures.law.1 x.ensures.law.2 c.requires.of.area_is
    c.requires.of.inside)
    c.requires.of.area_is c.requires.of.inside c.requires.of.since c.requires.of.lower

pub returns-in-Ok-clause-others : goal.returns-in-Ok-clause-others
returns-in-Ok-clause-others g c = c.in-Ok.ensures.is.2.others

pub returns-then-eq-clause-slot_rules : goal.returns-then-eq-clause-slot_rules
returns-then-eq-clause-slot_rules g c =
    let x = c.in-Err.ensures in
    slot_rules_same g.P.Port c.args.driver.now c.start_claim.new.self x.settings x.is.0 x.is.1.0

pub returns-then-eq-clause-goes_on : goal.returns-then-eq-clause-goes_on
returns-then-eq-clause-goes_on g c =
    let x = c.in-Err.ensures in
    goes_on_same g.P.Port c.args.driver.now c.start_claim.new.self x.settings x.is.0 x.later x.is.1.0

pub returns-then-eq-clause-is : goal.returns-then-eq-clause-is
returns-then-eq-clause-is g c =
    let k = c.args.claiming in
    let f = c.in-Err.fault in
    let full : f ≡ Fault.RingFull = search rules in
    record {
      start = Err f;
      is = start_of g.P.Port c.args.driver.now c.start_claim.new.self k.slots k.slot c.block.result (Err f)
          c.block.ensures c.requires.of.area_is c.in-Err.ensures.is;
      told = told_full g.P.Port k f full;
    }

pub returns-then-eq-clause-of : goal.returns-then-eq-clause-of
returns-then-eq-clause-of g c =
    let d = c.args.driver.now in
    let e = c.start_claim.new.self in
    let x = c.in-Err.ensures in
    claiming_due g.P.Port g.met.P.Port.goes_on d e c.args.claiming c.requires.of c.requires.any
    (goes_on_same g.P.Port d e x.settings x.is.0 x.later x.is.1.0)

pub returns-then-eq-clause-others : goal.returns-then-eq-clause-others
returns-then-eq-clause-others g c =
    let x = c.in-Err.ensures in
    λ other of. (
      call_kept g.P.Port g.met.P.Port.goes_on c.args.driver.now c.start_claim.new.self other x.settings
          x.is.0 x.later x.is.1 of,
      tt,
    )

pub returns-else-eq-clause-slot_rules : goal.returns-else-eq-clause-slot_rules
returns-else-eq-clause-slot_rules g c =
    let x = c.in-Err.ensures in
    slot_rules_same g.P.Port c.args.driver.now c.start_claim.new.self x.settings x.is.0 x.is.1.0

pub returns-else-eq-clause-goes_on : goal.returns-else-eq-clause-goes_on
returns-else-eq-clause-goes_on g c =
    let x = c.in-Err.ensures in
    goes_on_same g.P.Port c.args.driver.now c.start_claim.new.self x.settings x.is.0 x.later x.is.1.0

pub returns-else-eq-clause-is : goal.returns-else-eq-clause-is
returns-else-eq-clause-is g c =
    let k = c.args.claiming in
    let f = c.in-Err.fault in
    let other : f ≢ Fault.NoSerial = search rules in
    let room : f ≢ Fault.RingFull = search rules in
    record {
      start = Err f;
      is = start_of g.P.Port c.args.driver.now c.start_claim.new.self k.slots k.slot c.block.result (Err f)
          c.block.ensures c.requires.of.area_is c.in-Err.ensures.is;
      told = told_later g.P.Port k f other room;
    }

pub returns-else-eq-clause-of : goal.returns-else-eq-clause-of
returns-else-eq-clause-of g c =
    let d = c.args.driver.now in
    let e = c.start_claim.new.self in
    let x = c.in-Err.ensures in
    claiming_due g.P.Port g.met.P.Port.goes_on d e c.args.claiming c.requires.of c.requires.any
    (goes_on_same g.P.Port d e x.settings x.is.0 x.later x.is.1.0)

pub returns-else-eq-clause-others : goal.returns-else-eq-clause-others
returns-else-eq-clause-others g c =
    let x = c.in-Err.ensures in
    λ other of. (
      call_kept g.P.Port g.met.P.Port.goes_on c.args.driver.now c.start_claim.new.self other x.settings
          x.is.0 x.later x.is.1 of,
      tt,
    )

pub returns-in-Ok-clause-claims : goal.returns-in-Ok-clause-claims
returns-in-Ok-clause-claims g c = λ i less.
    let d = c.args.driver.now in
    let e = c.start_claim.new.self in
    let k = c.args.claiming in
    let x = c.in-Ok in (
      not_counted i k.slot (claims_made e i) (claims_made d i) less
          (counts_claimed g.P.Port d e k.slot x.call x.serial
          (claims_of g.P.Port d e k.slots k.slot c.block.result x.call x.serial c.block.ensures x.ensures.settings
          x.ensures.later x.ensures.is x.ensures.law.0 x.ensures.law.1 x.ensures.law.2 c.requires.of.area_is
          c.requires.of.inside) i),
      omega (arith, less),
    )

pub returns-in-Err-NoSerial-clause-claims : goal.returns-in-Err-NoSerial-clause-claims
returns-in-Err-NoSerial-clause-claims g c = λ i less.
    let x = c.in-Err-NoSerial.ensures in
    (counts_same g.P.Port c.args.driver.now c.start_claim.new.self x.settings.slots x.is.1.0 i, tt)

pub returns-then-eq-clause-claims : goal.returns-then-eq-clause-claims
returns-then-eq-clause-claims g c = λ i less.
    let x = c.in-Err.ensures in
    (counts_same g.P.Port c.args.driver.now c.start_claim.new.self x.settings.slots x.is.1.0 i, less)

pub returns-else-eq-clause-claims : goal.returns-else-eq-clause-claims
returns-else-eq-clause-claims g c = λ i less.
    let x = c.in-Err.ensures in
    (counts_same g.P.Port c.args.driver.now c.start_claim.new.self x.settings.slots x.is.1.0 i, less)
