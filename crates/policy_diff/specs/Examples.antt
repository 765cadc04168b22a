-- A request that shows a row.
use Rattle.policy_core.specs.Question.{Question}
use Rattle.policy_diff.specs.declared.examples.Example.{Example}

-- what the example asks
abbrev pub asked_by : Example → Question
asked_by example = record { principal = example.principal; act = example.act; channel = example.channel; stream = example.stream }
