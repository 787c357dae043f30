-- The numbers of a call's faults.
use Rattle.std.specs.Prelude.{ℕ}
use Rattle.driver_cas.specs.declared.fault.Fault.{Fault}

-- the number of a fault
abbrev pub call_fault_number : Fault → ℕ
call_fault_number Fault.Length = 41
call_fault_number Fault.TooLong = 42
call_fault_number Fault.RingFull = 43
call_fault_number (Fault.Status s) = 44
call_fault_number Fault.Busy = 45
call_fault_number Fault.NoMemory = 46
call_fault_number Fault.SlotArea = 47
call_fault_number Fault.NoSerial = 48
