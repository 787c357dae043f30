use Rattle.std.proofs.Common.{Err, ap, inl, inr}
use Rattle.casdisk_texts.proofs.Beginning.{ends_first, ends_no_config, ends_wrong_config, front_config, lost_first}
use Rattle.casdisk_texts.proofs.Beginning.{reached_first, known_config}
use Rattle.casdisk_texts.proofs.FirstLine.{lacks_config, lacks_line, lacks_read, refused_config}
use Rattle.casdisk_texts.proofs.Followed.{lost_file}
use Rattle.casdisk_texts.proofs.first_line.read_first.Goals as goal

pub returns-in-Err-clause-stopped : goal.returns-in-Err-clause-stopped
returns-in-Err-clause-stopped g c meaning w =
    let front = rw c.requires.fresh at c.in-Err.ensures.err in
    rw c.read_fault.ensures.cause
    (lost_first meaning c.in-Err.fault _ _ w _ _ front (λ e. c.in-Err.ensures.input (ap Err e)))

pub returns-in-Ok-Rest-clause-stopped : goal.returns-in-Ok-Rest-clause-stopped
returns-in-Ok-Rest-clause-stopped g c meaning w =
    let x = rw (c.in-Ok-Rest.field-0-is, c.requires.fresh) at c.in-Ok-Rest.ensures.line in
    inr (ends_first meaning _ _ _ _ _ x.0 x.1 x.2 x.3)

pub returns-in-Err-Malformed-clause-stopped : goal.returns-in-Err-Malformed-clause-stopped
returns-in-Err-Malformed-clause-stopped g c meaning w =
    let x = rw (c.in-Ok-Whole.field-0-is, c.requires.fresh) at c.in-Ok-Whole.ensures.line in
    inl (ends_no_config meaning _ _ _ _ _ x.0 x.1
    (rw (c.in-Err-Malformed.field-0-is, c.as_slice.ensures.value) at c.in-Err-Malformed.ensures.value))

pub returns-in-Ok-from_numbers-clause-front : goal.returns-in-Ok-from_numbers-clause-front
returns-in-Ok-from_numbers-clause-front g c meaning w u front =
    let x = rw (c.in-Ok-Whole.field-0-is, c.requires.fresh) at c.in-Ok-Whole.ensures.line in
    let said = rw c.as_slice.ensures.value at c.in-Ok.ensures.value in
    front_config meaning _ _ _ _ _ x.0 x.1 c.in-Ok.numbers said c.in-Ok-from_numbers.ensures.accepted u front

pub returns-in-Ok-from_numbers-clause-begun : goal.returns-in-Ok-from_numbers-clause-begun
returns-in-Ok-from_numbers-clause-begun g c meaning w u sent =
    let x = rw (c.in-Ok-Whole.field-0-is, c.requires.fresh) at c.in-Ok-Whole.ensures.line in
    let said = rw c.as_slice.ensures.value at c.in-Ok.ensures.value in
    rw c.in-Ok-from_numbers.ensures.value
    (reached_first meaning _ _ _ _ _ x.0 x.1 c.in-Ok.numbers said c.in-Ok-from_numbers.ensures.accepted u sent)

pub returns-in-Ok-from_numbers-clause-config : goal.returns-in-Ok-from_numbers-clause-config
returns-in-Ok-from_numbers-clause-config g c =
    let x = rw (c.in-Ok-Whole.field-0-is, c.requires.fresh) at c.in-Ok-Whole.ensures.line in
    let said = rw c.as_slice.ensures.value at c.in-Ok.ensures.value in
    rw c.in-Ok-from_numbers.ensures.value (known_config _ _ _ _ x.0 x.1 c.in-Ok.numbers said)

pub returns-in-Err-from_numbers-clause-stopped : goal.returns-in-Err-from_numbers-clause-stopped
returns-in-Err-from_numbers-clause-stopped g c meaning w =
    let x = rw (c.in-Ok-Whole.field-0-is, c.requires.fresh) at c.in-Ok-Whole.ensures.line in
    let said = rw c.as_slice.ensures.value at c.in-Ok.ensures.value in
    rw c.number.ensures (ends_wrong_config meaning _ _ _ _ _ x.0 x.1 c.in-Ok.numbers c.in-Err-from_numbers.fault said
    c.in-Err-from_numbers.ensures.fault)

pub returns-in-Err-clause-first : goal.returns-in-Err-clause-first
returns-in-Err-clause-first g c =
    let front = rw c.requires.fresh at c.in-Err.ensures.err in
    rw c.read_fault.ensures.cause (lost_file c.in-Err.fault _ _ _ _ front (λ e. c.in-Err.ensures.input (ap Err e)))

pub returns-in-Err-clause-none : goal.returns-in-Err-clause-none
returns-in-Err-clause-none g c =
    let front = rw c.requires.fresh at c.in-Err.ensures.err in
    rw c.read_fault.ensures.cause (lacks_read c.in-Err.fault _ _ _ _ front (λ e. c.in-Err.ensures.input (ap Err e)))

pub returns-in-Ok-Rest-clause-none : goal.returns-in-Ok-Rest-clause-none
returns-in-Ok-Rest-clause-none g c =
    let x = rw (c.in-Ok-Rest.field-0-is, c.requires.fresh) at c.in-Ok-Rest.ensures.line in
    lacks_line _ _ _ _ x.0 x.1 x.2 x.3

pub returns-in-Err-Malformed-clause-none : goal.returns-in-Err-Malformed-clause-none
returns-in-Err-Malformed-clause-none g c =
    let x = rw (c.in-Ok-Whole.field-0-is, c.requires.fresh) at c.in-Ok-Whole.ensures.line in
    lacks_config _ _ _ _ x.0 x.1
    (rw (c.in-Err-Malformed.field-0-is, c.as_slice.ensures.value) at c.in-Err-Malformed.ensures.value)

pub returns-in-Err-from_numbers-clause-none : goal.returns-in-Err-from_numbers-clause-none
returns-in-Err-from_numbers-clause-none g c =
    let x = rw (c.in-Ok-Whole.field-0-is, c.requires.fresh) at c.in-Ok-Whole.ensures.line in
    let said = rw c.as_slice.ensures.value at c.in-Ok.ensures.value in
    rw c.number.ensures (refused_config _ _ _ _ x.0 x.1 c.in-Ok.numbers c.in-Err-from_numbers.fault said
    c.in-Err-from_numbers.ensures.fault)
