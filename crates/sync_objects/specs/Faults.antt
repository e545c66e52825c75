-- The numbers of the traps that locks have.
use Rattle.std.specs.Prelude.{ℕ}
use Rattle.sync_objects.specs.declared.lock_fault.LockFault.{LockFault}
use Rattle.sync_objects.specs.declared.lock_fault.LockFault.TheVariants as fault

abbrev pub fault_number : LockFault → ℕ
fault_number fault.NotInitialised = 7
fault_number fault.NotOwner = 8
fault_number fault.StillHeld = 9
fault_number fault.AlreadyInitialised = 10
