use Rattle.std.proofs.Common.{◌≡◌, map, drop}
use Rattle.channel_uri.specs.Quantity.{measured}
use Rattle.setting_words.proofs.quantity.measured.Given as goal

-- the units that are left decide
abbrev pub invariant-loop-unit : goal.invariant-loop-unit
invariant-loop-unit l =
    measured (map (λ unit. (unit.0.now, unit.1)) (drop l.unit-index l.units)) l.text
    ≡ measured (map (λ unit. (unit.0.now, unit.1)) l.units) l.text
