-- What two rules have to do with each other.
use Rattle.std.specs.Prelude.{◌&&◌, ◌||◌, ◌==◌, not, Bool, true, false, int_le}
use Rattle.std.specs.List.{list_all, list_any}
use Rattle.policy_core.specs.Act.{every_act}
use Rattle.policy_core.specs.Acts.{holds}
use Rattle.policy_core.specs.declared.acts.Acts.{Acts}
use Rattle.policy_core.specs.declared.rule.Principals.{Principals}
use Rattle.policy_core.specs.declared.rule.Principals.TheVariants.{Any, One}
use Rattle.policy_core.specs.declared.rule.Rule.{Rule}
use Rattle.policy_tools.specs.Patterns.{patterns_pass}
use Rattle.policy_tools.specs.declared.patterns.Relation.TheVariants.{Meets, Covers}

-- both speak of some principal
abbrev pub share_principal : Principals → Principals → Bool
share_principal Any other = true
share_principal (One number) Any = true
share_principal (One number) (One another) = number == another

-- both hold some act
unfoldable pub share_act : Acts → Acts → Bool
share_act one other = list_any (λ act. holds one act && holds other act) every_act

-- both ranges hold some stream
abbrev pub share_stream : Rule → Rule → Bool
share_stream one other = int_le one.low other.high && int_le other.low one.high

-- some request may match both rules: they share a principal, a stream and an act, and no part of their patterns shuts
-- out the other
unfoldable pub may_meet : Rule → Rule → Bool
may_meet one other =
    share_principal one.principals other.principals
    && share_stream one other
    && share_act one.acts other.acts
    && patterns_pass Meets one.channel other.channel

-- everybody among the narrow ones is among the wide ones
abbrev pub covers_principals : Principals → Principals → Bool
covers_principals Any narrow = true
covers_principals (One number) Any = false
covers_principals (One number) (One another) = number == another

-- each act of the narrow ones is one of the wide ones
unfoldable pub covers_acts : Acts → Acts → Bool
covers_acts wide narrow = list_all (λ act. not (holds narrow act) || holds wide act) every_act

-- the narrow range is within the wide one
abbrev pub covers_streams : Rule → Rule → Bool
covers_streams wide narrow = int_le wide.low narrow.low && int_le narrow.high wide.high

-- part by part, the wide rule matches what the narrow one matches
unfoldable pub is_over : Rule → Rule → Bool
is_over wide narrow =
    covers_principals wide.principals narrow.principals
    && covers_streams wide narrow
    && covers_acts wide.acts narrow.acts
    && patterns_pass Covers wide.channel narrow.channel
