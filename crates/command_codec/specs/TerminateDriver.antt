-- The fields of TERMINATE_DRIVER. (The layout and its bound are this project's own.)
use Rattle.std.specs.Prelude.{ℕ, ◌≤◌, List, length, Result}
use Rattle.command_codec.specs.declared.fault.CommandFault.{CommandFault}
use Rattle.command_codec.specs.declared.terminate_driver.TerminateDriver.{TerminateDriver}
use Rattle.command_codec.specs.Gives.{◌>>=◌}
use Rattle.command_codec.specs.Fields.{bytes_at, ended, with_length}

-- the greatest length of a token
abbrev pub longest_token : ℕ
longest_token = 1024

-- token
unfoldable pub terminate_driver_of : List ℕ → Result TerminateDriver CommandFault
terminate_driver_of bytes = do
  token ← bytes_at longest_token bytes
  ended (record { token = token.0 }) token.1

unfoldable pub terminate_driver_bytes : TerminateDriver → List ℕ
terminate_driver_bytes t = with_length t.token

-- what can be read again
pub record IsTerminateDriver (t : TerminateDriver) : Type 0 where
  pub token : length t.token ≤ longest_token
