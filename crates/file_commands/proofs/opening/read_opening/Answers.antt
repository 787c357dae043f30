use Rattle.std.proofs.Common.{Err, ap, inl, inr}
use Rattle.file_commands.proofs.FirstTold.{ends_first, ends_no_config, ends_wrong_config, front_config, lost_first}
use Rattle.file_commands.proofs.FirstTold.{reached_first}
use Rattle.file_commands.proofs.opening.read_opening.Goals as goal

pub returns-in-Err-clause-stopped : goal.returns-in-Err-clause-stopped
returns-in-Err-clause-stopped g c telling w =
    let front = rw c.requires.fresh at c.in-Err.ensures.err in
    rw c.read_fault.ensures.cause
    (lost_first telling c.in-Err.fault _ _ w _ _ front (λ e. c.in-Err.ensures.input (ap Err e)))

pub returns-in-Ok-Rest-clause-stopped : goal.returns-in-Ok-Rest-clause-stopped
returns-in-Ok-Rest-clause-stopped g c telling w =
    let x = rw (c.in-Ok-Rest.field-0-is, c.requires.fresh) at c.in-Ok-Rest.ensures.line in
    inr (ends_first telling _ _ _ _ _ x.0 x.1 x.2 x.3)

pub returns-in-Err-Malformed-clause-stopped : goal.returns-in-Err-Malformed-clause-stopped
returns-in-Err-Malformed-clause-stopped g c telling w =
    let x = rw (c.in-Ok-Whole.field-0-is, c.requires.fresh) at c.in-Ok-Whole.ensures.line in
    inl (ends_no_config telling _ _ _ _ _ x.0 x.1
    (rw (c.in-Err-Malformed.field-0-is, c.as_slice.ensures.value) at c.in-Err-Malformed.ensures.value))

pub returns-in-Ok-from_numbers-clause-front : goal.returns-in-Ok-from_numbers-clause-front
returns-in-Ok-from_numbers-clause-front g c telling w u front =
    let x = rw (c.in-Ok-Whole.field-0-is, c.requires.fresh) at c.in-Ok-Whole.ensures.line in
    let said = rw c.as_slice.ensures.value at c.in-Ok.ensures.value in
    front_config telling _ _ _ _ _ x.0 x.1 c.in-Ok.numbers said c.in-Ok-from_numbers.ensures.accepted u front

pub returns-in-Ok-from_numbers-clause-begun : goal.returns-in-Ok-from_numbers-clause-begun
returns-in-Ok-from_numbers-clause-begun g c telling w u sent =
    let x = rw (c.in-Ok-Whole.field-0-is, c.requires.fresh) at c.in-Ok-Whole.ensures.line in
    let said = rw c.as_slice.ensures.value at c.in-Ok.ensures.value in
    reached_first telling _ _ _ _ _ x.0 x.1 c.in-Ok.numbers said c.in-Ok-from_numbers.ensures.accepted u sent

pub returns-in-Err-from_numbers-clause-stopped : goal.returns-in-Err-from_numbers-clause-stopped
returns-in-Err-from_numbers-clause-stopped g c telling w =
    let x = rw (c.in-Ok-Whole.field-0-is, c.requires.fresh) at c.in-Ok-Whole.ensures.line in
    let said = rw c.as_slice.ensures.value at c.in-Ok.ensures.value in
    rw c.number.ensures (ends_wrong_config telling _ _ _ _ _ x.0 x.1 c.in-Ok.numbers c.in-Err-from_numbers.fault said
    c.in-Err-from_numbers.ensures.fault)
