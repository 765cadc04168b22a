-- The parts of answers, as JSON: members stand in the order of their names.
use Rattle.std.specs.Prelude.{ℕ, List, Option, Some, None, codes, map, option_copied}
use Rattle.serde_json.specs.Data.{Data, Members, array, boolean, null, number, string, unsigned, object, member, no_members}
use Rattle.serde_json.specs.Find.{of_integer}
use Rattle.serde_json.specs.View.{items_of}
use Rattle.json_answers.specs.declared.rows.Change.{Change}
use Rattle.json_answers.specs.declared.rows.Failed.{Failed}
use Rattle.json_answers.specs.declared.rows.Finding.{Finding}
use Rattle.json_answers.specs.declared.rows.Grant.{Grant}
use Rattle.json_answers.specs.declared.rows.Miss.{Miss}
use Rattle.json_answers.specs.declared.rows.Rule.{Rule}
use Rattle.json_answers.specs.declared.rows.Taken.{Taken}

abbrev pub text_or_null : Option (List ℕ) → Data
text_or_null None = null
text_or_null (Some text) = string text

abbrev pub number_or_null : Option ℕ → Data
number_or_null None = null
number_or_null (Some value) = number (unsigned value)

abbrev pub texts_data : List (List ℕ) → Data
texts_data texts = array (items_of (map string texts))

abbrev pub miss_data : Miss → Data
miss_data miss = object (
    member (codes "name") (string miss.name.now) (
    member (codes "part") (string miss.part.now) (
    member (codes "rule") (number (unsigned miss.rule)) no_members)))

abbrev pub finding_data : Finding → Data
finding_data finding = object (
    member (codes "column") (number (unsigned finding.column)) (
    member (codes "key") (text_or_null (option_copied finding.key)) (
    member (codes "line") (number (unsigned finding.line)) (
    member (codes "name") (text_or_null (option_copied finding.name)) (
    member (codes "rule") (number_or_null finding.rule) (
    member (codes "text") (string finding.text.now) (
    member (codes "value") (text_or_null (option_copied finding.value)) no_members)))))))

abbrev pub failed_data : Failed → Data
failed_data failed = object (
    member (codes "act") (string failed.act.now) (
    member (codes "allow") (boolean failed.allow) (
    member (codes "line") (number (unsigned failed.line)) (
    member (codes "principal") (string failed.principal.now) (
    member (codes "rule") (number_or_null failed.rule) (
    member (codes "stream") (number (of_integer failed.stream)) (
    member (codes "text") (string failed.text.now) no_members)))))))

abbrev pub taken_data : Taken → Data
taken_data taken = object (
    member (codes "act") (string taken.act.now) (
    member (codes "allow") (boolean taken.allow) (
    member (codes "moment") (string taken.moment.now) (
    member (codes "name") (text_or_null (option_copied taken.name)) (
    member (codes "policy") (number (unsigned taken.policy)) (
    member (codes "principal") (string taken.principal.now) (
    member (codes "rule") (number_or_null taken.rule) (
    member (codes "stream") (number (of_integer taken.stream)) (
    member (codes "subject") (number (unsigned taken.subject)) no_members)))))))))

abbrev pub rule_data : Rule → Data
rule_data rule = object (
    member (codes "acts") (texts_data rule.acts.now) (
    member (codes "allow") (boolean rule.allow) (
    member (codes "channel") (string rule.channel.now) (
    member (codes "from") (number_or_null rule.from) (
    member (codes "high") (number (of_integer rule.high)) (
    member (codes "low") (number (of_integer rule.low)) (
    member (codes "name") (string rule.name.now) (
    member (codes "principal") (string rule.principal.now) (
    member (codes "rule") (number (unsigned rule.rule)) (
    member (codes "until") (number_or_null rule.until) no_members))))))))))

abbrev pub grant_data : Grant → Data
grant_data grant = object (
    member (codes "acts") (texts_data grant.acts.now) (
    member (codes "allow") (boolean grant.allow) (
    member (codes "channel") (string grant.channel.now) (
    member (codes "high") (number (of_integer grant.high)) (
    member (codes "low") (number (of_integer grant.low)) (
    member (codes "medium") (string grant.medium.now) (
    member (codes "principal") (string grant.principal.now) (
    member (codes "rule") (number (unsigned grant.rule)) no_members))))))))

abbrev pub change_data : Change → Data
change_data change = object (
    member (codes "acts") (texts_data change.acts.now) (
    member (codes "allow") (boolean change.allow) (
    member (codes "channel") (string change.channel.now) (
    member (codes "example") (text_or_null (option_copied change.example)) (
    member (codes "high") (number (of_integer change.high)) (
    member (codes "low") (number (of_integer change.low)) (
    member (codes "new") (number_or_null change.new) (
    member (codes "old") (number_or_null change.old) (
    member (codes "principal") (string change.principal.now) no_members)))))))))
