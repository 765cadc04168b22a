-- What a reader answers, against what a definition says of the same bytes.
use Rattle.std.specs.Prelude.{◌≡◌, Bool, false, Result, Ok, Err}
use Rattle.command_codec.specs.declared.fault.CommandFault.{CommandFault}
use Rattle.command_codec.specs.declared.fault.CommandFault.TheVariants.{Unknown, Malformed, NoMemory}

-- one step of reading after another: the first fault from the left
infixl 10 ◌>>=◌
abbrev pub ◌>>=◌ : {A B : Type 0} → Result A CommandFault → (A → Result B CommandFault) → Result B CommandFault
(Ok x) >>= f = f x
(Err e) >>= f = Err e

-- the answer is what reading gives, unless memory ran out
abbrev pub Gives : {X : Type 0} → Result X CommandFault → Result X CommandFault → Type 0
Gives (Ok x) read = read ≡ Ok x
Gives (Err Unknown) read = read ≡ Err Unknown
Gives (Err Malformed) read = read ≡ Err Malformed
Gives (Err NoMemory) read = Unit {0}

-- the answer, seen by view, is what reading gives: for readers that take no memory
abbrev pub Equals : {X Y : Type 0} → (X → Y) → Result X CommandFault → Result Y CommandFault → Type 0
Equals view (Ok x) read = read ≡ Ok (view x)
Equals view (Err e) read = read ≡ Err e

-- Memory is taken only for a value that `takes` it, once all of the bytes are found sound.
abbrev pub takes_memory : {X : Type 0} → (X → Bool) → Result X CommandFault → Bool
takes_memory takes (Ok x) = takes x
takes_memory takes (Err e) = false
