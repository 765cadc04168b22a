-- When a script can't be read, and its answers can't be written: each fault comes only from an end that may fail.
use Rattle.std.specs.Prelude.{◌≡◌, Bool, true}
use Rattle.driver_script.specs.declared.fault.RunFault.{RunFault}
use Rattle.driver_script.specs.declared.fault.RunFault.TheVariants as fault

-- the faults of a script that is read from a reader that may fail, or not
abbrev pub OfReading : Bool → RunFault → Type 0
OfReading may_fail fault.Read = may_fail ≡ true
OfReading may_fail fault.TooLong = Unit {0}
OfReading may_fail fault.Write = ⊥
OfReading may_fail fault.NoMemory = Unit {0}

-- those of a script that was read, and is answered to a writer that may fail, or not
abbrev pub OfAnswering : Bool → RunFault → Type 0
OfAnswering may_fail fault.Read = ⊥
OfAnswering may_fail fault.TooLong = ⊥
OfAnswering may_fail fault.Write = may_fail ≡ true
OfAnswering may_fail fault.NoMemory = Unit {0}

-- those of a whole run, by whether its reader and its writer may fail
abbrev pub OfRunning : Bool → Bool → RunFault → Type 0
OfRunning reader writer fault.Read = reader ≡ true
OfRunning reader writer fault.TooLong = Unit {0}
OfRunning reader writer fault.Write = writer ≡ true
OfRunning reader writer fault.NoMemory = Unit {0}
