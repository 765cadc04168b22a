-- The words for why no driver is made or starts. Own rules.
use Rattle.std.specs.Prelude.{ℕ, List, codes}
use Rattle.media_driver.specs.declared.faults.ClockFault.{ClockFault}
use Rattle.media_driver.specs.declared.faults.ClockFault.TheVariants as clock
use Rattle.media_driver.specs.declared.faults.MakeFault.{MakeFault}
use Rattle.media_driver.specs.declared.faults.MakeFault.TheVariants as make
use Rattle.media_driver.specs.declared.faults.StartFault.{StartFault}
use Rattle.media_driver.specs.declared.faults.StartFault.TheVariants as start

abbrev pub make_text : MakeFault → List ℕ
make_text make.NoMemory = codes "no memory"
make_text make.NoPass = codes "no pass"

abbrev pub clock_text : ClockFault → List ℕ
clock_text clock.Unread = codes "the time is not known, or before 1970"
clock_text clock.PastEnd = codes "the time is past 2^63 nanoseconds since 1970"

abbrev pub start_text : StartFault → List ℕ
start_text start.NoMemory = codes "no memory"
start_text start.NoThread = codes "no thread"
start_text (start.Clock fault) = clock_text fault
