use Rattle.std.specs.Prelude.{ℕ, List, codes}
use Rattle.driver_script.specs.declared.fault.RunFault.{RunFault}
use Rattle.driver_script.specs.declared.fault.RunFault.TheVariants.{Read, TooLong, Write, NoMemory}

-- the words for a fault of a run
abbrev pub fault_text : RunFault → List ℕ
fault_text Read = codes "read failed"
fault_text TooLong = codes "too long"
fault_text Write = codes "write failed"
fault_text NoMemory = codes "no memory"
