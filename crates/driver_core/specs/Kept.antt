-- What a registry keeps, so that no event asks the policy again what was asked before.
use Rattle.std.specs.Prelude.{◌≡◌, ℕ, Bool, true, List, [], filter}
use Rattle.client_registry.specs.declared.client.Client.{Client}
use Rattle.log_readers.specs.Numbering.{AreInOrder}
use Rattle.log_readers.specs.Readers.{all_readers}
use Rattle.log_readers.specs.Unread.{is_unread}
use Rattle.policy_core.specs.RuleList.{Rules}
use Rattle.stream_registry.specs.Pairs.{pairs_of}
use Rattle.stream_registry.specs.Streams.{Streams}

-- the readers of each log are those of the lists and the policy in force, and the lists are in order
pub record IsKept (s : Streams) (clients : List Client) (policy : Rules) (epoch last : ℕ) (readers : List (List ℕ)) : Type 0 where
  pub exact : readers ≡ all_readers s clients policy epoch
  pub order : AreInOrder s clients last

-- each image has a pair
pub record AreRead (s : Streams) (clients : List Client) (policy : Rules) (epoch : ℕ) : Type 0 where
  pub all : filter (is_unread (pairs_of s clients policy epoch)) s.sources ≡ []

-- and where it is known that each image has a pair, each has
pub record IsTended (s : Streams) (clients : List Client) (policy : Rules) (epoch last : ℕ) (readers : List (List ℕ)) (known : Bool) : Type 0 where
  pub kept : IsKept s clients policy epoch last readers
  pub read : known ≡ true → AreRead s clients policy epoch
