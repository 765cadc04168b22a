-- A table: for each request the one part that it is in, and in that the first rule whose pattern covers its channel.
use Rattle.std.specs.Prelude.{◌≡◌, ℕ, ◌+◌, ◌&&◌, ◌==◌, Bool, true, false, List, [], ◌∷◌, ◌++◌, map, Option, slice_index_or}
use Rattle.std.specs.List.{All, count_by, find, flat_map}
use Rattle.channel_uri.specs.Channel.{Shape}
use Rattle.channel_uri.specs.Pattern.{covers}
use Rattle.policy_core.specs.Question.{Question}
use Rattle.policy_core.specs.RuleList.{Rules}
use Rattle.policy_core.specs.Rules.{verdict_at, verdict_of}
use Rattle.policy_core.specs.declared.rule.Rule.{Rule}
use Rattle.policy_core.specs.Act.{act_number, every_act}
use Rattle.policy_core.specs.declared.act.Act.{Act}
use Rattle.policy_table.specs.Scope.{is_asker, is_in, is_stream}
use Rattle.policy_table.specs.declared.scope.Asker.{Asker}
use Rattle.policy_table.specs.declared.scope.Asker.TheVariants.{One, Others}
use Rattle.policy_table.specs.Lane.{Part, lane}

-- the pattern of the rule at this place covers the channel
abbrev pub covers_at : List Rule → Shape → ℕ → Bool
covers_at rules channel place = slice_index_or (map (λ rule. covers rule.channel channel) rules) place false

-- of the rules at these places, in their order, the first one whose pattern covers the channel
abbrev pub first_of : List Rule → List ℕ → Shape → Option ℕ
first_of rules places channel = find (λ place. covers_at rules channel place) places

-- each request of the part is decided by the first of its rules whose pattern covers the channel, and by the default
-- where none does
pub record Decides (policy : Rules) (part : Part) : Type 0 where
  pub verdict : (epoch : ℕ) (question : Question) → is_in policy.rules part.scope question ≡ true
      → verdict_of policy epoch question ≡ verdict_at policy epoch (first_of policy.rules part.places question.channel)

-- so does each of these parts
abbrev pub AllDecide : Rules → List Part → Type 0
AllDecide policy parts = All (Decides policy) parts

-- how many of the parts a request is in
abbrev pub times_in : List Rule → List Part → Question → ℕ
times_in rules parts question = count_by (λ part. is_in rules part.scope question) parts

-- each part decides its requests, and each request on a stream of 32 bits is in exactly one of them
pub record IsTable (policy : Rules) (parts : List Part) : Type 0 where
  pub decides : AllDecide policy parts
  pub once : (question : Question) → is_stream question.stream ≡ true → times_in policy.rules parts question ≡ 1

-- so it is of the requests of one principal, which is taken to be named
pub record IsTableOf (policy : Rules) (principal : ℕ) (parts : List Part) : Type 0 where
  pub decides : AllDecide policy parts
  pub once : (question : Question) → question.principal ≡ principal → is_stream question.stream ≡ true → times_in policy.rules parts question ≡ 1

-- ---- how it is made

abbrev pub one_if : Bool → ℕ
one_if true = 1
one_if false = 0

-- the request is the asker's, of that act
abbrev pub is_of_lane : List Rule → Asker → Act → Question → Bool
is_of_lane rules asker act question = is_asker rules asker question.principal && (act_number act == act_number question.act)

-- the new parts decide their requests, if the old ones do, and a request is in so many more of them
pub record AddsParts (policy : Rules) (more : Question → ℕ) (old new : List Part) : Type 0 where
  pub decides : AllDecide policy old → AllDecide policy new
  pub times : (question : Question) → is_stream question.stream ≡ true
      → times_in policy.rules new question ≡ times_in policy.rules old question + more question

-- ---- which parts there are

-- all requests of an asker, act by act
unfoldable pub parts_of : List Rule → Asker → List Part
parts_of rules asker = flat_map (lane rules asker) every_act

-- those of askers, one after the other
abbrev pub all_parts : List Rule → List Asker → List Part
all_parts rules askers = flat_map (parts_of rules) askers

-- each principal that is named, and at last all others
abbrev pub askers_of : List ℕ → List Asker
askers_of named = map One named ++ Others ∷ []
