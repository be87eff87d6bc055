-- For private functions: the phases of the code as those of the table, and the status that 60 tells.
use Rattle.std.specs.Prelude.{ℕ}
use Rattle.kcs.specs.Port.{Phase, idle, writing, ending, awaiting, reading, aborting, failed}
use Rattle.kcs.specs.declared.phase.Phase.{Phase as Kind}
use Rattle.kcs.specs.declared.phase.Phase.TheVariants.{Idle, Writing, Ending, Awaiting, Reading, Aborting, Failed}
use Rattle.kcs.specs.declared.phase.Fault.{Fault}
use Rattle.kcs.specs.declared.phase.Fault.TheVariants.{NoError, Aborted, WrongCode, TooLong}

-- the phase that the code's stands for
abbrev pub phase_meant : Kind → Phase
phase_meant Idle = idle
phase_meant Writing = writing
phase_meant Ending = ending
phase_meant Awaiting = awaiting
phase_meant Reading = reading
phase_meant Aborting = aborting
phase_meant Failed = failed

-- the status that 60 tells
abbrev pub fault_told : Fault → ℕ
fault_told NoError = 0x00
fault_told Aborted = 0x01
fault_told WrongCode = 0x02
fault_told TooLong = 0x06
