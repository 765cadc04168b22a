-- The cases that a file of cases holds: one a line, in their order.
use Rattle.std.specs.Prelude.{◌≡◌, ℕ, ◌+◌, ◌-◌, ◌^◌, ◌==◌, ◌||◌, ℤ, Bool, true, false, List, [], ◌∷◌, ◌++◌, Option, Some, None, Result, Ok, Err, codes, drop, length, min, nat_eq, nat_le, slice_get, if◌then◌else◌}
use Rattle.std.specs.List.{starts_with}
use Rattle.std.specs.Str.{bytes_eq, is_utf8}
use Rattle.std.specs.Str.Lines.{lines}
use Rattle.channel_uri.specs.Channel.{Shape, counter_shape, denotes}
use Rattle.channel_uri.specs.Number.{◌>>?◌, below, decimal_of}
use Rattle.channel_uri.specs.Syntax.{before_end}
use Rattle.channel_uri.specs.declared.error.UriError.{UriError}
use Rattle.policy_core.specs.declared.act.Act.{Act}
use Rattle.policy_text.specs.Names.{Known}
use Rattle.policy_tools.specs.CaseLists.{acts_from, principals_from, streams_of_word}
use Rattle.policy_tools.specs.CaseWords.{column_of, pieces_of, words_in}
use Rattle.policy_tools.specs.Cases.{Wanted}
use Rattle.policy_tools.specs.declared.case_faults.BadWord.{BadWord}
use Rattle.policy_tools.specs.declared.case_faults.BadWord.TheVariants.{At, NoChannel, NoMemory}
use Rattle.policy_tools.specs.declared.case_faults.CaseCause.{CaseCause}
use Rattle.policy_tools.specs.declared.case_faults.CaseCause.TheVariants as causes
use Rattle.policy_tools.specs.declared.case_faults.CasePlace.{CasePlace}
use Rattle.policy_tools.specs.declared.case_lines.CasesFault.{CasesFault}
use Rattle.policy_tools.specs.declared.case_lines.CasesFault.TheVariants as faults
use Rattle.policy_tools.specs.declared.cases.By.{By}
use Rattle.policy_tools.specs.declared.cases.By.TheVariants.{Any, Default, Rule, Name}

infixl 10 ◌>>=◌
-- goes on with what was read, or stays at the first fault
abbrev pub ◌>>=◌ : {E A B : Type 0} → Result A E → (A → Result B E) → Result B E
Ok value >>= next = next value
Err fault >>= next = Err fault

-- ---- the words of a case

-- the word at this place; where it is wanting, this is at fault
abbrev pub needed : {A : Type 0} → ℕ → CaseCause → Option A → Result A BadWord
needed place cause (Some value) = Ok value
needed place cause None = Err (At place cause)

abbrev pub word_at : List (List ℕ) → ℕ → CaseCause → Result (List ℕ) BadWord
word_at words place missing = needed place missing (slice_get words place)

abbrev pub principals_of : Known → List (List ℕ) → Result (List (List ℕ × ℕ)) BadWord
principals_of names words =
    word_at words 0 causes.NoPrincipal >>= λ word. needed 0 causes.UnknownPrincipal (principals_from names word)

abbrev pub acts_of : List (List ℕ) → Result (List Act) BadWord
acts_of words = word_at words 1 causes.NoAct >>= λ word. needed 1 causes.UnknownAct (acts_from word)

abbrev pub streams_of : List (List ℕ) → Result (ℤ × ℤ) BadWord
streams_of words = word_at words 3 causes.NoStream >>= λ word. needed 3 causes.BadStream (streams_of_word word)

-- what is wanted is a word of two
abbrev pub allow_from : List ℕ → Option Bool
allow_from word = if bytes_eq word (codes "allow") then Some true else if bytes_eq word (codes "deny") then Some false else None

abbrev pub allow_of : List (List ℕ) → Result Bool BadWord
allow_of words = word_at words 4 causes.NoDecision >>= λ word. needed 4 causes.NoDecision (allow_from word)

-- rules on counters are asked about a channel that no other text denotes
abbrev pub valid : Result Shape UriError → Result Shape BadWord
valid (Ok channel) = Ok channel
valid (Err error) = Err (NoChannel error)

abbrev pub channel_from : List ℕ → Result Shape BadWord
channel_from word = if bytes_eq word (codes "aeron:counter") then Ok counter_shape else valid (denotes word)

abbrev pub channel_of : List (List ℕ) → Result Shape BadWord
channel_of words = word_at words 2 causes.NoChannel >>= λ word. channel_from word

-- ---- by what

-- nothing stands behind the word before this place
abbrev pub ended : ℕ → List (List ℕ) → By → Result By BadWord
ended place words by = if nat_le (length words) place then Ok by else Err (At place causes.ExtraWord)

-- a blank before each word
abbrev pub spaced : List (List ℕ) → List ℕ
spaced [] = []
spaced (word ∷ words) = 32 ∷ (word ++ spaced words)

-- the rule has this name, of 1 to 64 bytes
abbrev pub named : Option (List ℕ) → Result By BadWord
named None = Err (At 6 causes.BadBy)
named (Some name) = if length name == 0 || nat_le 65 (length name) then Err (At 6 causes.BadBy) else Ok (Name name)

-- what stands behind a blank and a quote
abbrev pub behind_quote : List ℕ → Option (List ℕ)
behind_quote text = if starts_with nat_eq text (codes " \"") then Some (drop 2 text) else None

-- a name stands between `"` and `"`, with one blank between its words
abbrev pub quoted : List ℕ → Option (List ℕ)
quoted text = behind_quote text >>? λ rest. before_end (codes "\"") rest

abbrev pub numbered : List (List ℕ) → Option ℕ → Result By BadWord
numbered words None = Err (At 6 causes.BadBy)
numbered words (Some rule) = ended 7 words (Rule rule)

-- the default, a rule by its name, or a rule by its number
abbrev pub which_of : List (List ℕ) → List ℕ → Result By BadWord
which_of words which =
    if bytes_eq which (codes "default") then ended 7 words Default
    else if starts_with nat_eq which (codes "\"") then named (quoted (spaced (drop 6 words)))
    else numbered words (below (2 ^ 32) (decimal_of which))

abbrev pub by_from : List (List ℕ) → Option (List ℕ) → Result By BadWord
by_from words None = Ok Any
by_from words (Some word) =
    if bytes_eq word (codes "by") then word_at words 6 causes.BadBy >>= (λ which. which_of words which)
    else Err (At 5 causes.BadBy)

-- by whatever it is, where no word says by what
abbrev pub by_of : List (List ℕ) → Result By BadWord
by_of words = by_from words (slice_get words 5)

-- ---- a case

-- what the words of a line ask and want; the channel is read last
abbrev pub case_by : Known → ℕ → List ℕ → List (List ℕ) → Result Wanted BadWord
case_by names number line words =
    principals_of names words >>= λ principals.
    acts_of words >>= λ acts.
    word_at words 2 causes.NoChannel >>= λ word.
    streams_of words >>= λ streams.
    allow_of words >>= λ allow.
    by_of words >>= λ by.
    channel_of words >>= λ channel.
    Ok (record {
      line = number;
      text = line;
      principals = principals;
      acts = acts;
      channel = channel;
      low = streams.0;
      high = streams.1;
      allow = allow;
      by = by;
    })

-- the place of a word, in the line of this number
abbrev pub place_of : ℕ → List (List ℕ) → ℕ → CasePlace
place_of number pieces place = record { line = number; column = column_of pieces place }

-- the fault of the line of this number
abbrev pub fault_of : ℕ → List (List ℕ) → BadWord → CasesFault
fault_of number pieces (At place cause) = faults.BadLine (place_of number pieces place) cause
fault_of number pieces (NoChannel error) = faults.BadChannel (place_of number pieces 2) error
fault_of number pieces NoMemory = faults.NoMemory

abbrev pub located : ℕ → List (List ℕ) → Result Wanted BadWord → Result Wanted CasesFault
located number pieces (Ok case) = Ok case
located number pieces (Err bad) = Err (fault_of number pieces bad)

-- the case that the line of this number is, or its fault
abbrev pub case_of : Known → ℕ → List ℕ → Result Wanted CasesFault
case_of names number line = located number (pieces_of line) (case_by names number line (words_in (pieces_of line)))

-- ---- a file

-- a line that is empty or a comment says nothing
abbrev pub is_blank : List ℕ → Bool
is_blank line = length line == 0 || starts_with nat_eq line (codes "#")

-- the number of the line that follows, up to the greatest of 32 bits
abbrev pub next_line : ℕ → ℕ
next_line number = min (number + 1) (2 ^ 32 - 1)

-- the cases of the lines, the first of which has this number; or the first fault
abbrev pub cases_from : Known → ℕ → List (List ℕ) → Result (List Wanted) CasesFault
cases_from names number [] = Ok []
cases_from names number (line ∷ lines) =
    if is_blank line then cases_from names (next_line number) lines
    else case_of names number line >>= λ case. cases_from names (next_line number) lines >>= λ cases. Ok (case ∷ cases)

-- a file without a case is at fault, at its beginning
abbrev pub some_cases : List Wanted → Result (List Wanted) CasesFault
some_cases [] = Err (faults.BadLine (record { line = 1; column = 1 }) causes.NoCase)
some_cases (case ∷ cases) = Ok (case ∷ cases)

-- the cases of a file, by its bytes: one at least; or the file's first fault
unfoldable pub cases_of : Known → List ℕ → Result (List Wanted) CasesFault
cases_of names bytes = if is_utf8 bytes then cases_from names 1 (lines bytes) >>= some_cases else Err faults.NotText

-- ---- what a reader answers

-- these are the words' meaning, unless there was no memory for it
abbrev pub Tells : {T M : Type 0} → (T → M) → Result T BadWord → Result M BadWord → Type 0
Tells view (Ok value) meaning = meaning ≡ Ok (view value)
Tells view (Err NoMemory) meaning = Unit {0}
Tells view (Err bad) meaning = meaning ≡ Err bad

abbrev pub Gives : {T M : Type 0} → (T → M) → Result T CasesFault → Result M CasesFault → Type 0
Gives view (Ok value) meaning = meaning ≡ Ok (view value)
Gives view (Err faults.NoMemory) meaning = Unit {0}
Gives view (Err fault) meaning = meaning ≡ Err fault
