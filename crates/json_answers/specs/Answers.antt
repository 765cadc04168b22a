-- The answers, as JSON.
use Rattle.std.specs.Prelude.{ℕ, Bool, List, Option, codes, map, option_copied, if◌then◌else◌}
use Rattle.serde_json.specs.Data.{Data, Items, array, boolean, number, string, unsigned, object, member, no_members}
use Rattle.serde_json.specs.View.{items_of}
use Rattle.json_answers.specs.Rows.{change_data, failed_data, finding_data, grant_data, miss_data, number_or_null, rule_data, text_or_null}
use Rattle.json_answers.specs.declared.rows.Change.{Change}
use Rattle.json_answers.specs.declared.rows.Failed.{Failed}
use Rattle.json_answers.specs.declared.rows.Finding.{Finding}
use Rattle.json_answers.specs.declared.rows.Grant.{Grant}
use Rattle.json_answers.specs.declared.rows.Miss.{Miss}
use Rattle.json_answers.specs.declared.rows.Rule.{Rule}

abbrev pub list_data : {T : Type 0} → (T → Data) → List T → Data
list_data one rows = array (items_of (map one rows))

-- how many rules a policy has
abbrev pub checked_data : ℕ → Data
checked_data rules = object (member (codes "rules") (number (unsigned rules)) no_members)

-- what a policy of a number decides, and by which rule; the default where it is none
abbrev pub decided_data : Bool → Option ℕ → ℕ → Data
decided_data allow rule policy = object (
    member (codes "allow") (boolean allow) (
    member (codes "policy") (number (unsigned policy)) (
    member (codes "rule") (number_or_null rule) no_members)))

-- the same, with the name of the rule and those rules that do not match
abbrev pub explained_data : Bool → Option ℕ → ℕ → Option (List ℕ) → List Miss → Data
explained_data allow rule policy name misses = object (
    member (codes "allow") (boolean allow) (
    member (codes "misses") (list_data miss_data misses) (
    member (codes "name") (text_or_null name) (
    member (codes "policy") (number (unsigned policy)) (
    member (codes "rule") (number_or_null rule) no_members)))))

-- what is found in a file
abbrev pub linted_data : List ℕ → List Finding → List Finding → Data
linted_data file faults warnings = object (
    member (codes "faults") (list_data finding_data faults) (
    member (codes "file") (string file) (
    member (codes "warnings") (list_data finding_data warnings) no_members)))

-- the rules, and what the default says
abbrev pub shown_data : List Rule → Bool → Data
shown_data rules allows = object (
    member (codes "default") (string (if allows then codes "allow" else codes "deny")) (
    member (codes "rules") (list_data rule_data rules) no_members))

-- which cases failed, and how many passed
abbrev pub tested_data : List Failed → ℕ → Data
tested_data failed passed = object (
    member (codes "failed") (list_data failed_data failed) (
    member (codes "passed") (number (unsigned passed)) no_members))

-- how many decisions were passed over
abbrev pub passed_data : ℕ → Data
passed_data count = object (member (codes "passed_over") (number (unsigned count)) no_members)

abbrev pub tabled_data : List Grant → Data
tabled_data rows = object (member (codes "rows") (list_data grant_data rows) no_members)

abbrev pub differing_data : List Change → Data
differing_data rows = object (member (codes "rows") (list_data change_data rows) no_members)
