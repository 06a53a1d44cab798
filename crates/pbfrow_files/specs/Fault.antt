-- Which error becomes which fault.
use Rattle.std.specs.Prelude.{◌≡◌, ◌⊎◌, Bool, true, false, ◌&&◌, is_none, if◌then◌else◌, Option, Some, None, Result, Ok, Err}
use Rattle.std.specs.IoError.{error_kind, raw_os_error}
use Rattle.std.specs.Fs.{file_type, IsFile}
use Rattle.std.specs.declared.fs.Metadata.{Metadata}
use Rattle.std.specs.declared.fs.TryLockError.{TryLockError}
use Rattle.std.specs.declared.fs.TryLockError.TheVariants.{Error as LockError, WouldBlock as IsLocked}
use Rattle.std.specs.declared.io.Error.{Error}
use Rattle.std.specs.declared.io.ErrorKind.{ErrorKind}
use Rattle.std.specs.declared.io.ErrorKind.TheVariants.{NotFound, PermissionDenied, WouldBlock, OutOfMemory, Unsupported}
use Rattle.sqlite_std_file.specs.declared.pair.OpenError.{OpenError}
use Rattle.sqlite_std_file.specs.declared.pair.OpenError.TheVariants.{Io as OtherError, OutOfMemory as NoMemory, Busy as IsBusy, HotJournal as HasJournal}
use Rattle.pbfrow_files.specs.declared.fault.OpenFault.{OpenFault}
use Rattle.pbfrow_files.specs.declared.fault.OpenFault.TheVariants.{Missing, NotAFile, ManyNames, Denied, Busy, HotJournal, Memory, Io}

-- the fault of an error of this kind
abbrev pub fault_of_kind : ErrorKind → Error → OpenFault
fault_of_kind NotFound error = Missing
fault_of_kind PermissionDenied error = Denied
fault_of_kind WouldBlock error = Busy
fault_of_kind OutOfMemory error = Memory
fault_of_kind _ error = Io error

-- a missing name, a refused permission, a lock in the way and refused memory have faults of their own
abbrev pub fault_of : Error → OpenFault
fault_of error = fault_of_kind (error_kind error) error

-- only a lock in the way is a fault, and not that there are no locks
abbrev pub unless_locked : Result (Unit {0}) TryLockError → Result (Unit {0}) OpenFault
unless_locked (Ok it) = Ok it
unless_locked (Err IsLocked) = Err Busy
unless_locked (Err (LockError error)) = Ok (record {})

-- the kind is that of what can't be done with a file
abbrev pub is_unsupported : ErrorKind → Bool
is_unsupported Unsupported = true
is_unsupported _ = false

-- the file was refused by no call of the system
abbrev pub is_refusal : Error → Bool
is_refusal error = is_unsupported (error_kind error) && is_none (raw_os_error error)

-- what opening to write answers: a regular file that it refuses has more than one name
abbrev pub fault_of_open : OpenError → OpenFault
fault_of_open NoMemory = Memory
fault_of_open IsBusy = Busy
fault_of_open HasJournal = HotJournal
fault_of_open (OtherError error) = if is_refusal error then ManyNames else fault_of error

-- the same, where what is missing is no fault
abbrev pub unless_missing : {T : Type 0} → Result T OpenFault → Result (Option T) OpenFault
unless_missing (Ok found) = Ok (Some found)
unless_missing (Err Missing) = Ok None
unless_missing (Err fault) = Err fault

-- what is no regular file is refused as that, and a regular file only for its names
abbrev pub RefusesFile : Metadata → OpenFault → Type 0
RefusesFile found fault = ((fault ≡ NotAFile) × ¬ IsFile (file_type found)) ⊎ ((fault ≡ ManyNames) × IsFile (file_type found))
