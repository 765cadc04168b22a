-- What a reader answers, against what a definition says of the same bytes.
use Rattle.std.specs.Prelude.{◌≡◌, Result, Ok, Err}
use Rattle.service_records.specs.declared.fault.RecordFault.{RecordFault}

-- one step of reading after another: the first fault from the left
infixl 10 ◌>>=◌
abbrev pub ◌>>=◌ : {A B : Type 0} → Result A RecordFault → (A → Result B RecordFault) → Result B RecordFault
(Ok x) >>= f = f x
(Err e) >>= f = Err e

-- the answer, seen by view, is what reading gives: for readers that take no memory
abbrev pub Equals : {X Y : Type 0} → (X → Y) → Result X RecordFault → Result Y RecordFault → Type 0
Equals view (Ok x) read = read ≡ Ok (view x)
Equals view (Err e) read = read ≡ Err e
