use Rattle.std.proofs.Common.{◌≡◌}
use Rattle.std.specs.List.{flat_map}
use Rattle.std.specs.String.{string_bytes}
use Rattle.plain_words.specs.Words.{shown}
use Rattle.plain_words.proofs.words.plain.Given as goal

-- what stands for each character so far
abbrev pub invariant-loop-letter : goal.invariant-loop-letter
invariant-loop-letter l = string_bytes l.words ≡ flat_map shown l.yielded
