-- Bytes that are read one after another.
use Rattle.std.proofs.Common.{◌≡◌, ℕ, ◌≤◌, List, [], ◌∷◌, ◌++◌, Option, Some, None, length, get_or, drop, append_assoc, refl, arith}
use Rattle.script_lines.specs.Hex.{◌>>=◌, behind, byte_of, bytes_of, groups_of}

pub behind-append : (front more : List ℕ) (read : Option (List ℕ)) →
    behind (front ++ more) read ≡ behind front (behind more read)
behind-append front more None = refl
behind-append front more (Some rest) = rw append_assoc refl

pub behind-nil : (read : Option (List ℕ)) → behind [] read ≡ read
behind-nil None = refl
behind-nil (Some rest) = refl

-- two digits at the front are a byte
pub bytes_of-two : (digits : List ℕ) → 2 ≤ length digits →
    bytes_of digits ≡ (byte_of (get_or digits 0 0) (get_or digits 1 0) >>= λ byte. behind (byte ∷ []) (bytes_of (drop 2 digits)))
bytes_of-two [] two = absurd (omega arith)
bytes_of-two (high ∷ []) two = absurd (omega arith)
bytes_of-two (high ∷ low ∷ rest) two = refl

pub push_byte : (bytes digits : List ℕ) (byte : ℕ) → 2 ≤ length digits →
    byte_of (get_or digits 0 0) (get_or digits 1 0) ≡ Some byte →
    behind (bytes ++ byte ∷ []) (bytes_of (drop 2 digits)) ≡ behind bytes (bytes_of digits)
push_byte bytes digits byte two read = rw (bytes_of-two digits two, read, behind-append bytes (byte ∷ [])) refl

-- a group is read, and the others are left
groups_of-bind : (bytes new : List ℕ) (group rest : Option (List ℕ)) →
    behind bytes group ≡ Some new → behind new rest ≡ behind bytes (group >>= λ front. behind front rest)
groups_of-bind bytes new None rest read = cc
groups_of-bind bytes new (Some front) rest read =
    let same : bytes ++ front ≡ new = cc in rw (← same, behind-append bytes front rest) refl

pub push_bytes : (bytes new group : List ℕ) (groups : List (List ℕ)) →
    behind bytes (bytes_of group) ≡ Some new →
    behind new (groups_of groups) ≡ behind bytes (groups_of (group ∷ groups))
push_bytes bytes new group groups read = groups_of-bind bytes new (bytes_of group) (groups_of groups) read
