use Rattle.std.proofs.Common.{◌≡◌, ◌++◌, drop, map}
use Rattle.serde_json.specs.View.{view}
use Rattle.json_answers.proofs.line.list_of.Given as goal

-- the rows so far, with those that are left, are all
abbrev pub invariant-loop-row : goal.invariant-loop-row
invariant-loop-row g l =
    map view l.list.items ++ map g.T.Shown.content (drop l.row-index l.rows) ≡ map g.T.Shown.content l.rows
