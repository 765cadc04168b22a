-- How messages are printed. Own rules.
use Rattle.std.specs.Prelude.{ℕ, ◌-◌, ◌^◌, List, [], ◌∷◌, ◌++◌, length, min}
use Rattle.std.specs.Int.{w32, to_le_bytes}
use Rattle.piped_messages.specs.declared.forms.Form.{Form}
use Rattle.piped_messages.specs.declared.forms.Form.TheVariants.{Lines, Raw, Prefixed}

-- the bytes that a message is printed as
abbrev pub laid_out : Form → List ℕ → List ℕ
laid_out Lines message = message ++ 10 ∷ []
laid_out Raw message = message
laid_out Prefixed message = to_le_bytes w32 (min (length message) (2 ^ 32 - 1)) ++ message
