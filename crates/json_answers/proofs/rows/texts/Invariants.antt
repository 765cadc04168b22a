use Rattle.std.proofs.Common.{◌≡◌, ◌++◌, drop, map}
use Rattle.serde_json.specs.Data.{string}
use Rattle.serde_json.specs.View.{view}
use Rattle.json_answers.proofs.rows.texts.Given as goal

-- the texts so far, with those that are left, are all
abbrev pub invariant-loop-text : goal.invariant-loop-text
invariant-loop-text l =
    map view l.list.items ++ map string (drop l.text-index l.texts) ≡ map string l.texts
