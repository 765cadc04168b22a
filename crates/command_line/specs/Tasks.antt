-- The task that the words of the command line ask for: its subcommand, and the values of its arguments, as clap found them.
use Rattle.std.specs.Prelude.{◌≡◌, ◌++◌, ℕ, ℤ, List, [], ◌∷◌, Option, Some, None, codes, option_copied, option_map}
use Rattle.std.specs.List.{AllByRecursion}
use Rattle.std.specs.Str.Parse.{signed_digits_value}
use Rattle.clap.specs.Words.{first_value, one_text, rows_of, subcommand_rows_of}
use Rattle.clap.specs.declared.parser.matches.ArgMatches.{ArgMatches}
use Rattle.clap.specs.declared.parser.matches.Found.{Found}
use Rattle.command_line.specs.declared.whole_line.Task.{Task}
use Rattle.command_line.specs.declared.whole_line.Task.TheVariants as tasks
use Rattle.command_line.specs.declared.message_words.Messages.{Messages}
use Rattle.command_line.specs.declared.message_words.Messages.TheVariants as messages
use Rattle.command_line.specs.declared.policy_words.Asked.{Asked}
use Rattle.command_line.specs.declared.policy_words.Asked.TheVariants as asks
use Rattle.command_line.specs.declared.policy_words.Asking.{Asking}
use Rattle.command_line.specs.declared.policy_words.Question.{Question}
use Rattle.command_line.specs.declared.policy_words.Word.{Word}
use Rattle.command_line.specs.declared.policy_words.Word.TheVariants as words
use Rattle.command_line.specs.declared.running_line.Join.{Join}
use Rattle.command_line.specs.declared.serving_line.Doors.{Doors}
use Rattle.command_line.specs.declared.serving_line.Order.{Order}
use Rattle.command_line.specs.declared.serving_line.Order.TheVariants as orders
use Rattle.command_line.specs.declared.running_line.Start.{Start}
use Rattle.command_line.specs.declared.running_line.Start.TheVariants as starts
use Rattle.command_line.specs.declared.running_line.Talk.{Talk}

-- an argument's id, and its first value, where it has one
abbrev pub Texts : Type 0
Texts = List (List ℕ × Option (List ℕ))

-- an argument's id, and the number that its first value writes, where it has one
abbrev pub Numbers : Type 0
Numbers = List (List ℕ × Option ℤ)

-- ---- the texts and the numbers of a task

abbrev pub question_texts : Question → Texts
question_texts question =
    (codes "PRINCIPAL", Some question.principal.now) ∷ (codes "ACT", Some question.act.now)
    ∷ (codes "CHANNEL", Some question.channel.now) ∷ []

abbrev pub asked_texts : Asked → Texts
asked_texts (asks.Check places) = []
asked_texts asks.Show = []
asked_texts (asks.Decide question) = question_texts question
asked_texts (asks.Explain question near) = question_texts question
asked_texts (asks.Lint strict soon) = (codes "soon", option_copied soon) ∷ []
asked_texts (asks.Test cases) = (codes "CASES", Some cases.now) ∷ []
asked_texts (asks.Table principal) = (codes "principal", option_copied principal) ∷ []
asked_texts (asks.Diff new) = (codes "NEW", Some new.now) ∷ []

abbrev pub asking_texts : Asking → Texts
asking_texts asking =
    (codes "POLICY", Some asking.policy.now) ∷ (codes "names", option_copied asking.names)
    ∷ (codes "at", option_copied asking.at) ∷ asked_texts asking.asked

abbrev pub messages_texts : Messages → Texts
messages_texts (messages.Encode words) = []
messages_texts (messages.Decode kind hex) = (codes "KIND", Some kind.now) ∷ (codes "HEX", Some hex.now) ∷ []

abbrev pub talk_texts : Talk → Texts
talk_texts talk =
    (codes "policy", option_copied talk.policy) ∷ (codes "driver", option_copied talk.driver)
    ∷ (codes "names", option_copied talk.names) ∷ (codes "as", Some talk.principal.now)
    ∷ (codes "CHANNEL", Some talk.channel.now) ∷ (codes "strangers", option_copied talk.strangers) ∷ []

abbrev pub joined_texts : Option Join → Texts
joined_texts join = (codes "control", option_map (λ j. j.control.now) join) ∷ []

abbrev pub doors_texts : Doors → Texts
doors_texts doors =
    (codes "policy", Some doors.policy.now) ∷ (codes "names", option_copied doors.names)
    ∷ (codes "cases", option_copied doors.cases) ∷ (codes "folder", Some doors.folder.now) ∷ (codes "mode", Some doors.mode.now)
    ∷ (codes "strangers", option_copied doors.strangers) ∷ []

abbrev pub start_texts : Start → Texts
start_texts (starts.Run policy names principal tries audit) =
    (codes "policy", Some policy.now) ∷ (codes "names", option_copied names) ∷ (codes "as", Some principal.now) ∷ []
start_texts (starts.Publish talk by wait linger to) = talk_texts talk
start_texts (starts.Subscribe talk join reading) = joined_texts join ++ talk_texts talk
start_texts (starts.Serve doors) = doors_texts doors
start_texts (starts.Stat driver every) = (codes "driver", Some driver.now) ∷ []
start_texts (starts.Decisions driver denied follow json) = (codes "driver", Some driver.now) ∷ []
start_texts (starts.Order driver order) = (codes "driver", Some driver.now) ∷ []

abbrev pub task_texts : Task → Texts
task_texts (tasks.Ask asking) = asking_texts asking
task_texts (tasks.Script file) = (codes "FILE", Some file.now) ∷ []
task_texts (tasks.Messages messages) = messages_texts messages
task_texts (tasks.Start start) = start_texts start

abbrev pub stream_alone : ℤ → Numbers
stream_alone stream = (codes "STREAM", Some stream) ∷ []

abbrev pub asked_numbers : Asked → Numbers
asked_numbers (asks.Decide question) = stream_alone question.stream
asked_numbers (asks.Explain question near) = stream_alone question.stream
asked_numbers _ = []

abbrev pub joined_numbers : Option Join → Numbers
joined_numbers join = (codes "session", option_map (λ j. j.session) join) ∷ []

abbrev pub start_numbers : Start → Numbers
start_numbers (starts.Run policy names principal tries audit) = []
start_numbers (starts.Publish talk by wait linger to) = stream_alone talk.stream
start_numbers (starts.Subscribe talk join reading) = joined_numbers join ++ stream_alone talk.stream
start_numbers (starts.Serve doors) = []
start_numbers (starts.Stat driver every) = []
start_numbers (starts.Decisions driver denied follow json) = []
start_numbers (starts.Order driver order) = []

abbrev pub task_numbers : Task → Numbers
task_numbers (tasks.Ask asking) = asked_numbers asking.asked
task_numbers (tasks.Start start) = start_numbers start
task_numbers _ = []

-- ---- the name of its subcommand

abbrev pub word_name : Word → List ℕ
word_name words.Check = codes "check"
word_name words.Decide = codes "decide"
word_name words.Show = codes "show"
word_name words.Explain = codes "explain"
word_name words.Lint = codes "lint"
word_name words.Test = codes "test"
word_name words.Table = codes "table"
word_name words.Diff = codes "diff"

abbrev pub every_word : List Word
every_word =
    words.Check ∷ words.Decide ∷ words.Show ∷ words.Explain ∷ words.Lint ∷ words.Test ∷ words.Table ∷ words.Diff ∷ []

abbrev pub asked_word : Asked → Word
asked_word (asks.Check places) = words.Check
asked_word asks.Show = words.Show
asked_word (asks.Decide question) = words.Decide
asked_word (asks.Explain question near) = words.Explain
asked_word (asks.Lint strict soon) = words.Lint
asked_word (asks.Test cases) = words.Test
asked_word (asks.Table principal) = words.Table
asked_word (asks.Diff new) = words.Diff

abbrev pub messages_name : Messages → List ℕ
messages_name (messages.Encode words) = codes "encode"
messages_name (messages.Decode kind hex) = codes "decode"

abbrev pub order_name : Order → List ℕ
order_name orders.Stop = codes "stop"
order_name orders.Reload = codes "reload"
order_name orders.Status = codes "clients"

abbrev pub start_name : Start → List ℕ
start_name (starts.Run policy names principal tries audit) = codes "run"
start_name (starts.Publish talk by wait linger to) = codes "publish"
start_name (starts.Subscribe talk join reading) = codes "subscribe"
start_name (starts.Serve doors) = codes "serve"
start_name (starts.Stat driver every) = codes "stat"
start_name (starts.Decisions driver denied follow json) = codes "decisions"
start_name (starts.Order driver order) = order_name order

abbrev pub task_name : Task → List ℕ
task_name (tasks.Ask asking) = word_name (asked_word asking.asked)
task_name (tasks.Script file) = codes "script"
task_name (tasks.Messages messages) = messages_name messages
task_name (tasks.Start start) = start_name start

-- ---- what clap found

-- each text is the first value of its argument
abbrev pub AreFirst : Found → Texts → Type 0
AreFirst found texts = AllByRecursion (λ text. first_value found text.0 ≡ text.1) texts

-- the number is that which the first value of the argument writes, and there is none where it has no value
abbrev pub IsNumber : Found → List ℕ → Option ℤ → Type 0
IsNumber found id None = first_value found id ≡ None
IsNumber found id (Some number) = (text : List ℕ) × (one_text found id ≡ Some text) × (number ≡ signed_digits_value 10 text)

-- texts and numbers are those that were found
pub record AreFound (found : Found) (texts : Texts) (numbers : Numbers) : Type 0 where
  pub first : AreFirst found texts
  pub written : AllByRecursion (λ number. IsNumber found number.0 number.1) numbers

-- the subcommand that was entered is the task's, and its texts and its numbers are those that were found
pub record IsTask (matches : ArgMatches) (task : Task) : Type 0 where
  pub found : Found
  pub entered : subcommand_rows_of matches ≡ Some (task_name task, rows_of found)
  pub given : AreFound found (task_texts task) (task_numbers task)
