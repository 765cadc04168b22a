-- Classes of rules, by the act and the medium that they may speak of.
use Rattle.std.specs.Prelude.{ℕ, ◌+◌, ◌*◌, ◌/◌, ◌%◌, Bool, true, ◌==◌, ◌&&◌, slice_index_or}
use Rattle.channel_uri.specs.Media.{media_number}
use Rattle.channel_uri.specs.declared.pattern.Pattern.{Pattern}
use Rattle.channel_uri.specs.declared.pattern.Pattern.TheVariants.{Any, Of}
use Rattle.policy_core.specs.declared.act.Act.{Act}
use Rattle.policy_core.specs.declared.act.Act.TheVariants.{Publish}
use Rattle.policy_core.specs.declared.rule.Rule.{Rule}
use Rattle.policy_core.specs.Act.{act_number, every_act}
use Rattle.policy_core.specs.Acts.{holds}
use Rattle.policy_core.specs.Question.{Question}

-- a class is an act over a medium: this is the one of what is asked
abbrev pub class_of : Question → ℕ
class_of question = 3 * act_number question.act + media_number question.channel.media

-- the act of a class
abbrev pub act_of : ℕ → Act
act_of class = slice_index_or every_act (class / 3) Publish

-- the pattern covers channels of this medium
abbrev pub is_over : Pattern → ℕ → Bool
is_over Any media = true
is_over (Of own wanted) media = media_number own == media

-- the rule may speak of what is asked in this class
abbrev pub is_in : ℕ → Rule → Bool
is_in class rule = holds rule.acts (act_of class) && is_over rule.channel (class % 3)
