-- How the fragments of messages are joined. Own rules.
use Rattle.std.specs.Prelude.{ℕ, nat_le, Bool, true, false, List, ◌++◌, Option, Some, None, length, if◌then◌else◌}

-- what is held of a message: nothing where none has begun
abbrev pub held : Bool → List ℕ → Option (List ℕ)
held true bytes = Some bytes
held false bytes = None

-- a message has at most so many bytes
abbrev pub longest : ℕ
longest = 16777216

-- no message is joined that grows too long
abbrev pub whole : List ℕ → Option (List ℕ)
whole bytes = if nat_le (length bytes) longest then Some bytes else None

-- a fragment comes: the first one of a message begins it anew, another goes on with the one that is there
abbrev pub joined : Bool → List ℕ → Option (List ℕ) → Option (List ℕ)
joined true payload before = whole payload
joined false payload (Some bytes) = whole (bytes ++ payload)
joined false payload None = None
