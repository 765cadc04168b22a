-- Reading step by step: the first fault stands.
use Rattle.std.specs.Prelude.{◌≡◌, Option, Some, None, Result, Ok, Err}
use Rattle.frame_codec.specs.declared.fault.BadPacket.{BadPacket}

-- one step of reading after another
infixl 10 ◌>>=◌
abbrev pub ◌>>=◌ : {A B : Type 0} → Result A BadPacket → (A → Result B BadPacket) → Result B BadPacket
(Ok x) >>= f = f x
(Err fault) >>= f = Err fault

-- the answer, seen by `view`, is what the definition says of the same bytes
abbrev pub Equals : {X Y : Type 0} → (X → Y) → Result X BadPacket → Result Y BadPacket → Type 0
Equals view (Ok x) read = read ≡ Ok (view x)
Equals view (Err fault) read = read ≡ Err fault

-- why it was refused, if it was
abbrev pub fault_of : {X : Type 0} → Result X BadPacket → Option BadPacket
fault_of (Ok x) = None
fault_of (Err fault) = Some fault
