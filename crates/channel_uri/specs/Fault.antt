use Rattle.std.specs.Prelude.{◌≡◌, ℕ, List, ◌++◌, Result, Ok, Err, codes}
use Rattle.channel_uri.specs.declared.error.UriError.{UriError}
use Rattle.channel_uri.specs.declared.error.UriError.TheVariants.{TooLong, NoScheme, BadMedia, EmptyKey, KeyWithoutValue, BadValue, NotServed}
use Rattle.channel_uri.specs.Key.{key_text}

-- the words for a fault
abbrev pub fault_text : UriError → List ℕ
fault_text TooLong = codes "longer than 1,024 bytes"
fault_text NoScheme = codes "no scheme aeron:"
fault_text BadMedia = codes "bad media"
fault_text EmptyKey = codes "empty key"
fault_text KeyWithoutValue = codes "key without value"
fault_text (BadValue key) = codes "bad value of " ++ key_text key
fault_text (NotServed key) = codes "not served: " ++ key_text key

-- the answer is the meaning of the text, seen by `view`
abbrev pub Equals : {T M : Type 0} → (T → M) → Result T UriError → Result M UriError → Type 0
Equals view (Ok value) meaning = meaning ≡ Ok (view value)
Equals view (Err error) meaning = meaning ≡ Err error
