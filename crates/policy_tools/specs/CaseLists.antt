-- The words of a case that name more than one principal, act or stream.
use Rattle.std.specs.Prelude.{ℕ, ◌^◌, ◌==◌, ℤ, pos, neg_ℤ, ◌-ℤ◌, List, [], ◌∷◌, Option, Some, None, codes, drop, int_le, length, nat_eq, if◌then◌else◌}
use Rattle.std.specs.List.{slice_split, starts_with}
use Rattle.std.specs.Option.{option_map}
use Rattle.std.specs.Str.{bytes_eq}
use Rattle.channel_uri.specs.Number.{◌>>?◌}
use Rattle.channel_uri.specs.Session.{session_id_of}
use Rattle.channel_uri.specs.Syntax.{cut}
use Rattle.policy_core.specs.Act.{act_named, every_act}
use Rattle.policy_core.specs.declared.act.Act.{Act}
use Rattle.policy_text.specs.Names.{Known, number_of}

-- the word, cut at each comma
abbrev pub listed : List ℕ → List (List ℕ)
listed word = slice_split (λ b. b == 44) word

-- each of these names with its number, where each is known
abbrev pub principals_named : Known → List (List ℕ) → Option (List (List ℕ × ℕ))
principals_named names [] = Some []
principals_named names (name ∷ more) =
    number_of name names >>? λ number. option_map (λ rest. (name, number) ∷ rest) (principals_named names more)

-- a word that is itself a name stands for that principal
abbrev pub principals_by : Known → List ℕ → Option ℕ → Option (List (List ℕ × ℕ))
principals_by names word (Some number) = Some ((word, number) ∷ [])
principals_by names word None = principals_named names (listed word)

-- the principals that a word names: one, or several with commas between them
abbrev pub principals_from : Known → List ℕ → Option (List (List ℕ × ℕ))
principals_from names word = principals_by names word (number_of word names)

-- the acts of these names, where each is one
abbrev pub acts_named : List (List ℕ) → Option (List Act)
acts_named [] = Some []
acts_named (name ∷ more) = act_named name >>? λ act. option_map (λ rest. act ∷ rest) (acts_named more)

-- the acts that a word names: one, several with commas between them, or all as `*`
abbrev pub acts_from : List ℕ → Option (List Act)
acts_from word = if bytes_eq word (codes "*") then Some every_act else acts_named (listed word)

-- the end of a range: a stream, or the usual end where nothing stands
abbrev pub end_from : ℤ → List ℕ → Option ℤ
end_from usual word = if length word == 0 then Some usual else session_id_of word

-- no range is empty
abbrev pub ordered : ℤ → ℤ → Option (ℤ × ℤ)
ordered low high = if int_le low high then Some (low, high) else None

abbrev pub least_stream : ℤ
least_stream = neg_ℤ (pos (2 ^ 31))

abbrev pub greatest_stream : ℤ
greatest_stream = pos (2 ^ 31) -ℤ pos 1

abbrev pub ends_from : List ℕ → List ℕ → Option (ℤ × ℤ)
ends_from low high = end_from least_stream low >>? λ first. end_from greatest_stream high >>? λ last. ordered first last

abbrev pub after_dots : List ℕ → List ℕ → Option (ℤ × ℤ)
after_dots low rest = if starts_with nat_eq rest (codes ".") then ends_from low (drop 1 rest) else None

abbrev pub streams_by : List ℕ → Option (List ℕ × List ℕ) → Option (ℤ × ℤ)
streams_by word None = option_map (λ stream. (stream, stream)) (session_id_of word)
streams_by word (Some (low, rest)) = after_dots low rest

-- the streams that a word names: one, those from one to another as `LOW..HIGH`, of which an end may be left out, or all as `*`
abbrev pub streams_of_word : List ℕ → Option (ℤ × ℤ)
streams_of_word word = if bytes_eq word (codes "*") then Some (least_stream, greatest_stream) else streams_by word (cut 46 word)
