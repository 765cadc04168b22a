-- A policy beside the words of its rules.
use Rattle.std.specs.Prelude.{◌≡◌, ℕ, List, [], ◌∷◌, map, Option, Some, None, Ok, codes, unwrap_or}
use Rattle.toml.specs.Data.{Data, Items, no_items, item, Members, get_member, as_array, as_table}
use Rattle.channel_uri.specs.Pattern.{pattern_of}
use Rattle.policy_core.specs.RuleList.{Rules}
use Rattle.policy_core.specs.declared.rule.Rule.{Rule}
use Rattle.policy_text.specs.Members.{text_at}
use Rattle.policy_tools.specs.declared.written_policy.Words.{Words}

-- a policy, and what its file has of each rule in words: the pattern, and the principal
pub record Sourced : Type 0 where
  pub policy : Rules
  pub words : List Words

-- the words are those of the rules, one for one: each pattern is that of its rule
abbrev pub AreWords : List Words → List Rule → Type 0
AreWords words rules = map (λ w. pattern_of w.channel) words ≡ map (λ rule. Ok rule.channel) rules

-- ---- where they stand in the document

-- the text under a key of a rule
abbrev pub text_in : List ℕ → Option Members → List ℕ
text_in key None = []
text_in key (Some table) = unwrap_or (text_at key table) []

abbrev pub rule_words : Option Members → Words
rule_words rule = record { channel = text_in (codes "channel") rule; principal = text_in (codes "principal") rule }

abbrev pub words_of : Items → List Words
words_of no_items = []
words_of (item value items) = rule_words (as_table value) ∷ words_of items

abbrev pub words_from : Option Items → List Words
words_from None = []
words_from (Some items) = words_of items

abbrev pub words_under : Option Data → List Words
words_under None = []
words_under (Some value) = words_from (as_array value)

-- the words of the rules of a document
abbrev pub words_in : Members → List Words
words_in table = words_under (get_member (codes "rule") table)

-- none where there is no document
abbrev pub words_at : Option Members → List Words
words_at None = []
words_at (Some table) = words_in table
