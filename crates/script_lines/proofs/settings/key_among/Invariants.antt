use Rattle.std.proofs.Common.{◌≡◌, map, drop}
use Rattle.script_lines.specs.Settings.{key_among}
use Rattle.script_lines.proofs.settings.key_among.Given as goal

-- the keys that are left decide
abbrev pub invariant-loop-word : goal.invariant-loop-word
invariant-loop-word l =
    key_among (map (λ row. (row.0.now, row.1)) (drop l.word-index l.keys)) l.name
    ≡ key_among (map (λ row. (row.0.now, row.1)) l.keys) l.name
