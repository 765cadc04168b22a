-- The fields of ADD_COUNTER. (The layout and its bounds are this project's own.)
use Rattle.std.specs.Prelude.{ℕ, ◌≤◌, List, ◌++◌, length, Result, FitsSigned}
use Rattle.std.specs.Int.{w32}
use Rattle.command_codec.specs.declared.fault.CommandFault.{CommandFault}
use Rattle.command_codec.specs.declared.add_counter.AddCounter.{AddCounter}
use Rattle.command_codec.specs.Gives.{◌>>=◌}
use Rattle.command_codec.specs.Fields.{signed_at, bytes_at, text_at, ended, signed_bytes, with_length, IsText}

-- the greatest lengths of a key and of a label
abbrev pub longest_key : ℕ
longest_key = 112

abbrev pub longest_label : ℕ
longest_label = 380

-- type id, key, label
unfoldable pub add_counter_of : List ℕ → Result AddCounter CommandFault
add_counter_of bytes = do
  type_id ← signed_at w32 4 bytes
  key ← bytes_at longest_key type_id.1
  label ← text_at longest_label key.1
  ended (record { type_id = type_id.0; key = key.0; label = label.0 }) label.1

unfoldable pub add_counter_bytes : AddCounter → List ℕ
add_counter_bytes a = signed_bytes w32 4 a.type_id ++ with_length a.key ++ with_length a.label

-- what can be read again
pub record IsAddCounter (a : AddCounter) : Type 0 where
  pub type_id : FitsSigned w32 a.type_id
  pub key : length a.key ≤ longest_key
  pub label : IsText longest_label a.label
