-- How far the receivers of a log have come, by what each of them reported in status messages: a plain list, in the order in which
-- they were heard last. Own rules.
use Rattle.std.specs.Prelude.{ℕ, ◌-◌, Bool, not, nat_lt, nat_le, min, max, length, filter, drop, List, [], ◌∷◌, ◌++◌, Option, Some, None, if◌then◌else◌}
use Rattle.std.specs.List.{fold}
use Rattle.channel_uri.specs.declared.address.Address.{Address}
use Rattle.channel_uri.specs.Address.{is_same}
use Rattle.receiver_reports.specs.declared.report.Report.{Report}

-- nothing was reported yet
abbrev pub none : List Report
none = []

abbrev pub is_from : Address → Report → Bool
is_from from row = is_same row.from from

abbrev pub is_other : Address → Report → Bool
is_other from row = not (is_from from row)

-- ---- a receiver reports

-- the greatest position that it reported counts
abbrev pub greater : Address → ℕ → Report → ℕ
greater from greatest row = if is_from from row then max greatest row.position else greatest

abbrev pub greatest_of : Address → ℕ → List Report → ℕ
greatest_of from first rows = fold (greater from) first rows

-- it comes after the others: 32 are there at most, and the one that was heard longest ago makes room
abbrev pub after_others : List Report → Report → List Report
after_others others row = if nat_lt (length others) 32 then others ++ row ∷ [] else drop 1 others ++ row ∷ []

unfoldable pub noted : ℕ → Address → ℕ → List Report → List Report
noted now from position rows =
    after_others (filter (is_other from) rows)
    (record { from = from; position = greatest_of from position rows; heard = now })

-- ---- up to which position all have come

-- a status message came from it not longer ago than that: never past it at a moment below, since a difference is at least 0
abbrev pub stands : ℕ → ℕ → Report → Bool
stands now timeout row = nat_le (now - row.heard) timeout

abbrev pub least_with : Option ℕ → ℕ → ℕ
least_with None position = position
least_with (Some least) position = min least position

abbrev pub lesser : ℕ → ℕ → Option ℕ → Report → Option ℕ
lesser now timeout least row = if stands now timeout row then Some (least_with least row.position) else least

-- the least position of those that stand
abbrev pub least_of : ℕ → ℕ → List Report → Option ℕ
least_of now timeout rows = fold (lesser now timeout) None rows
