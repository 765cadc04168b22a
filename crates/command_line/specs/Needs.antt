-- What a subcommand needs, so that its words ask for a task.
use Rattle.std.specs.Prelude.{◌≡◌, ◌<◌, ◌^◌, ◌++◌, ◌⊎◌, ℕ, List, [], ◌∷◌, Option, Some, None, true, codes, is_some, map, FitsSigned}
use Rattle.std.specs.List.{AllByRecursion}
use Rattle.std.specs.Str.Parse.{IsNumeral, digits_value, signed_digits_value, without_leading_plus, without_leading_sign}
use Rattle.std.specs.Int.{w32}
use Rattle.clap.specs.Words.{first_value, one_text}
use Rattle.clap.specs.declared.parser.matches.Found.{Found}
use Rattle.command_line.specs.Tasks.{every_word, word_name}
use Rattle.command_line.specs.declared.policy_words.Word.{Word}
use Rattle.command_line.specs.declared.policy_words.Word.TheVariants as words

-- arguments that need a text, a number of 32 bits with a sign, and one of 64 bits without a sign; and pairs of a text and a
-- number of 32 bits with a sign that stand together or not at all
pub record Needs : Type 0 where
  pub texts : List (List ℕ)
  pub signed : List (List ℕ)
  pub numbers : List (List ℕ)
  pub together : List (List ℕ × List ℕ)

abbrev pub texts_alone : List (List ℕ) → Needs
texts_alone texts = record { texts = texts; signed = []; numbers = []; together = [] }

abbrev pub question_needs : Needs
question_needs = record {
  texts = codes "POLICY" ∷ codes "PRINCIPAL" ∷ codes "ACT" ∷ codes "CHANNEL" ∷ [];
  signed = codes "STREAM" ∷ [];
  numbers = [];
  together = [];
}

abbrev pub talk_needs : List (List ℕ) → List (List ℕ × List ℕ) → Needs
talk_needs numbers together = record {
  texts = codes "as" ∷ codes "CHANNEL" ∷ [];
  signed = codes "STREAM" ∷ [];
  numbers = numbers;
  together = together;
}

abbrev pub publish_needs : Needs
publish_needs = talk_needs (codes "wait" ∷ codes "linger" ∷ []) []

abbrev pub subscribe_needs : Needs
subscribe_needs = talk_needs (codes "wait" ∷ []) ((codes "control", codes "session") ∷ [])

-- of each subcommand that asks what a policy says
abbrev pub word_needs : Word → Needs
word_needs words.Check = texts_alone (codes "POLICY" ∷ [])
word_needs words.Decide = question_needs
word_needs words.Show = texts_alone (codes "POLICY" ∷ [])
word_needs words.Explain = question_needs
word_needs words.Lint = texts_alone (codes "POLICY" ∷ [])
word_needs words.Test = texts_alone (codes "POLICY" ∷ codes "CASES" ∷ [])
word_needs words.Table = texts_alone (codes "POLICY" ∷ [])
word_needs words.Diff = texts_alone (codes "POLICY" ∷ codes "NEW" ∷ [])

abbrev pub ask_needs : List (List ℕ × Needs)
ask_needs = map (λ word. (word_name word, word_needs word)) every_word

abbrev pub message_needs : List (List ℕ × Needs)
message_needs =
    (codes "encode", texts_alone (codes "WORD" ∷ []))
    ∷ (codes "decode", texts_alone (codes "KIND" ∷ codes "HEX" ∷ []))
    ∷ []

abbrev pub serve_needs : Needs
serve_needs = record {
  texts = codes "policy" ∷ codes "folder" ∷ codes "mode" ∷ [];
  signed = [];
  numbers = codes "poll-within" ∷ [];
  together = [];
}

-- of each subcommand that serves, or speaks to a driver that serves
abbrev pub serving_needs : List (List ℕ × Needs)
serving_needs =
    (codes "serve", serve_needs)
    ∷ (codes "stat", texts_alone (codes "driver" ∷ []))
    ∷ (codes "stop", texts_alone (codes "driver" ∷ []))
    ∷ (codes "reload", texts_alone (codes "driver" ∷ []))
    ∷ (codes "clients", texts_alone (codes "driver" ∷ []))
    ∷ (codes "decisions", texts_alone (codes "driver" ∷ []))
    ∷ []

abbrev pub run_needs : Needs
run_needs = record {
  texts = codes "policy" ∷ codes "as" ∷ [];
  signed = [];
  numbers = codes "turns" ∷ [];
  together = [];
}

abbrev pub start_needs : List (List ℕ × Needs)
start_needs =
    (codes "run", run_needs)
    ∷ (codes "publish", publish_needs)
    ∷ (codes "subscribe", subscribe_needs)
    ∷ serving_needs

abbrev pub script_needs : List (List ℕ × Needs)
script_needs = (codes "script", texts_alone (codes "FILE" ∷ [])) ∷ []

-- of each subcommand
abbrev pub all_needs : List (List ℕ × Needs)
all_needs = script_needs ++ (message_needs ++ (start_needs ++ ask_needs))

-- ---- what clap found

abbrev pub HasText : Found → List ℕ → Type 0
HasText found id = is_some (first_value found id) ≡ true

abbrev pub HasSigned : Found → List ℕ → Type 0
HasSigned found id =
    (text : List ℕ) × (one_text found id ≡ Some text) × IsNumeral 10 (without_leading_sign text) × FitsSigned w32 (signed_digits_value 10 text)

abbrev pub HasNumber : Found → List ℕ → Type 0
HasNumber found id =
    (text : List ℕ) × (one_text found id ≡ Some text) × IsNumeral 10 (without_leading_plus text) × (digits_value 10 (without_leading_plus text) < 2 ^ 64)

-- neither was found, or both, as a text and a number
abbrev pub StandTogether : Found → List ℕ × List ℕ → Type 0
StandTogether found pair =
    ((first_value found pair.0 ≡ None) × (first_value found pair.1 ≡ None))
    ⊎ (HasText found pair.0 × HasText found pair.1 × HasSigned found pair.1)

-- all that is needed was found
pub record HasAll (found : Found) (needs : Needs) : Type 0 where
  pub texts : AllByRecursion (HasText found) needs.texts
  pub signed : AllByRecursion (HasSigned found) needs.signed
  pub numbers : AllByRecursion (HasNumber found) needs.numbers
  pub together : AllByRecursion (StandTogether found) needs.together

-- the subcommand of this name has a task, where all is there that it needs
abbrev pub Answers : {T : Type 0} → Found → List ℕ → List (List ℕ × Needs) → Option T → Type 0
Answers found name needs result = AllByRecursion (λ need. name ≡ need.0 → HasAll found need.1 → is_some result ≡ true) needs
