-- The texts of what is wrong with words. Own rules.
use Rattle.std.specs.Prelude.{ℕ, List, ◌++◌, codes}
use Rattle.std.specs.Fmt.{decimal}
use Rattle.message_words.specs.declared.fault.WordFault.{WordFault}
use Rattle.message_words.specs.declared.fault.WordFault.TheVariants.{NoName, UnknownName, UnknownWord, Twice, Missing, BadValue, NoMemory}
use Rattle.message_words.specs.Key.{key_text}

abbrev pub word_fault_text : WordFault → List ℕ
word_fault_text NoName = codes "no name"
word_fault_text UnknownName = codes "unknown command or datagram"
word_fault_text (UnknownWord at) = codes "word " ++ (decimal at ++ codes " after the name: unknown key")
word_fault_text (Twice key) = key_text key ++ codes " is given twice"
word_fault_text (Missing key) = key_text key ++ codes " is missing"
word_fault_text (BadValue key) = key_text key ++ codes " has a bad value"
word_fault_text NoMemory = codes "no memory"
