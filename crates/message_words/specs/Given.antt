-- What words give: a name, and then a value for each key, in any order. Own rules.
use Rattle.std.specs.Prelude.{ℕ, ◌≡◌, Bool, not, List, [], ◌∷◌, Option, Some, None, Result, Ok, Err, codes, drop, is_some, length, nat_eq, option_and_then, position, if◌then◌else◌, ok_or}
use Rattle.std.specs.List.{list_any, starts_with}
use Rattle.message_words.specs.declared.fault.WordFault.{WordFault}
use Rattle.message_words.specs.declared.fault.WordFault.TheVariants.{NoName, UnknownName, UnknownWord, Twice, Missing, BadValue, NoMemory}
use Rattle.message_words.specs.declared.key.Key.{Key}
use Rattle.message_words.specs.Key.{key_text}

-- one step of reading after another: the first fault from the left
infixl 10 ◌>>=◌
abbrev pub ◌>>=◌ : {A B : Type 0} → Result A WordFault → (A → Result B WordFault) → Result B WordFault
(Ok x) >>= f = f x
(Err e) >>= f = Err e

-- the answer is what reading gives, unless memory ran out
abbrev pub Gives : {X : Type 0} → Result X WordFault → Result X WordFault → Type 0
Gives (Ok x) read = read ≡ Ok x
Gives (Err NoMemory) read = Unit {0}
Gives (Err NoName) read = read ≡ Err NoName
Gives (Err UnknownName) read = read ≡ Err UnknownName
Gives (Err (UnknownWord at)) read = read ≡ Err (UnknownWord at)
Gives (Err (Twice key)) read = read ≡ Err (Twice key)
Gives (Err (Missing key)) read = read ≡ Err (Missing key)
Gives (Err (BadValue key)) read = read ≡ Err (BadValue key)

-- the answer, seen by view, is what reading gives: for readers that take no memory
abbrev pub Equals : {X Y : Type 0} → (X → Y) → Result X WordFault → Result Y WordFault → Type 0
Equals view (Ok x) read = read ≡ Ok (view x)
Equals view (Err e) read = read ≡ Err e

-- ---- words

-- what stands after this front, where it stands there
abbrev pub after : List ℕ → List ℕ → Option (List ℕ)
after front text = if starts_with nat_eq text front then Some (drop (length front) text) else None

-- the value that a word gives to a key: what stands after the key and `=`
abbrev pub value_in : Key → List ℕ → Option (List ℕ)
value_in key word = option_and_then (after (codes "=")) (after (key_text key) word)

abbrev pub gives : Key → List ℕ → Bool
gives key word = is_some (value_in key word)

-- a value that no later word gives again
abbrev pub alone : Key → Option (List ℕ) → Option ℕ → Result (Option (List ℕ)) WordFault
alone key value None = Ok value
alone key value (Some again) = Err (Twice key)

abbrev pub first_of : Key → List (List ℕ) → Result (Option (List ℕ)) WordFault
first_of key [] = Ok None
first_of key (word ∷ words) = alone key (value_in key word) (position (λ later. gives key later) words)

abbrev pub given_from : Key → List (List ℕ) → Option ℕ → Result (Option (List ℕ)) WordFault
given_from key words None = Ok None
given_from key words (Some at) = first_of key (drop at words)

-- the value of a key, which has one at most
unfoldable pub given : Key → List (List ℕ) → Result (Option (List ℕ)) WordFault
given key words = given_from key words (position (λ word. gives key word) words)

-- whether a word gives a value to one of these keys
abbrev pub is_known : List Key → List ℕ → Bool
is_known keys word = list_any (λ key. gives key word) keys

-- the place of the first word that gives no value to one of these keys
unfoldable pub unknown_at : List Key → List (List ℕ) → Option ℕ
unknown_at keys words = position (λ word. not (is_known keys word)) words

-- ---- values

-- what a key has to be given
abbrev pub needed : {A : Type 0} → Key → (List ℕ → Option A) → Option (List ℕ) → Result A WordFault
needed key read None = Err (Missing key)
needed key read (Some value) = ok_or (read value) (BadValue key)

-- what stands where a key is not given
abbrev pub given_or : {A : Type 0} → Key → (List ℕ → Option A) → A → Option (List ℕ) → Result A WordFault
given_or key read default None = Ok default
given_or key read default (Some value) = ok_or (read value) (BadValue key)
