-- What a question names: the policy in a file, a channel.
use Rattle.std.specs.Prelude.{ℕ, List, Result, Ok, Err, codes, if◌then◌else◌}
use Rattle.std.specs.Str.{bytes_eq}
use Rattle.channel_uri.specs.Channel.{Shape, counter_shape, denotes}
use Rattle.channel_uri.specs.declared.error.UriError.{UriError}
use Rattle.policy_core.specs.RuleList.{Rules}
use Rattle.policy_query.specs.Document.{policy_in}
use Rattle.policy_query.specs.declared.document.Document.{Document}
use Rattle.policy_text.specs.Names.{Known}
use Rattle.policy_text.specs.declared.fault.PolicyFault.{PolicyFault}
use Rattle.policy_answers.specs.declared.fault.AskFault.{AskFault}
use Rattle.policy_answers.specs.declared.fault.AskFault.TheVariants as faults

-- what is no policy is at fault
abbrev pub sound : {A : Type 0} → Result A PolicyFault → Result A AskFault
sound (Ok value) = Ok value
sound (Err fault) = Err (faults.Policy fault)

-- the policy that a document is, or its first fault
abbrev pub policy_of : Known → Document → Result Rules AskFault
policy_of names document = sound (policy_in names document)

-- what is no channel is at fault
abbrev pub valid : Result Shape UriError → Result Shape AskFault
valid (Ok channel) = Ok channel
valid (Err error) = Err (faults.Channel error)

-- the channel that a word is; rules on counters are asked about a channel that no other text denotes
unfoldable pub channel_of : List ℕ → Result Shape AskFault
channel_of word = if bytes_eq word (codes "aeron:counter") then Ok counter_shape else valid (denotes word)
