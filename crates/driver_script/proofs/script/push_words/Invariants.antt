use Rattle.std.proofs.Common.{◌≡◌, ◌++◌, drop}
use Rattle.std.specs.List.{flat_map}
use Rattle.std.specs.String.{string_bytes}
use Rattle.driver_script.specs.Answers.{word_behind}
use Rattle.driver_script.proofs.script.push_words.Given as goal

-- the text so far, with the words that are left, is the text of all
abbrev pub invariant-loop-word : goal.invariant-loop-word
invariant-loop-word l =
    string_bytes l.text ++ flat_map word_behind (drop l.word-index l.words)
    ≡ string_bytes l.fn.text ++ flat_map word_behind l.words
