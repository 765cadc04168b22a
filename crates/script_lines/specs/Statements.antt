-- What a script says, statement by statement: first its principals, peers and settings, then a policy, then the steps of a
-- run with further policies among them.
use Rattle.std.specs.Prelude.{ℕ, ◌+◌, List, [], ◌∷◌, ◌++◌, codes, if◌then◌else◌}
use Rattle.std.specs.Str.{bytes_eq}
use Rattle.script_lines.specs.declared.line.Line.{Line}
use Rattle.script_lines.specs.declared.line.Line.TheVariants as line
use Rattle.script_lines.specs.declared.statements.Said.TheVariants as said
use Rattle.script_lines.specs.declared.statements.Statement.{Statement}
use Rattle.script_lines.specs.Line.{is_plain, line_of}
use Rattle.script_lines.specs.Pieces.{pieces}

-- a line stands before the first policy, within a policy, or after one; within it there is the number of the line
-- `policy`, and the text so far
pub data Place : Type 0 where
  Before : Place
  Within : ℕ → List ℕ → Place
  Behind : Place

-- a bad line ends the script
abbrev pub bad : ℕ → List Statement
bad number = record { line = number; said = said.Bad } ∷ []

-- a line before the first policy
abbrev pub before : ℕ → Line → (Place → List Statement) → List Statement
before number line.Skipped later = later Before
before number (line.Principal name principal) later =
    record { line = number; said = said.Principal name principal } ∷ later Before
before number (line.Peer peer) later = record { line = number; said = said.Peer peer } ∷ later Before
before number (line.Set key value) later =
    record { line = number; said = said.Set key value } ∷ later Before
before number line.Policy later = later (Within number [])
before number (line.Does reading) later = bad number
before number (line.Audit actor) later = bad number
before number line.Bad later = bad number

-- a line of a policy: its text is TOML, up to a line that is `.`
abbrev pub within : ℕ → List ℕ → ℕ → List ℕ → (Place → List Statement) → List Statement
within start text number bytes later =
    if is_plain bytes then
    if bytes_eq bytes (codes ".") then record { line = start; said = said.Policy text } ∷ later Behind
    else later (Within start (text ++ (bytes ++ codes "\n")))
    else bad number

-- a line after a policy
abbrev pub behind : ℕ → Line → (Place → List Statement) → List Statement
behind number line.Skipped later = later Behind
behind number (line.Principal name principal) later = bad number
behind number (line.Peer peer) later = bad number
behind number (line.Set key value) later = bad number
behind number line.Policy later = later (Within number [])
behind number (line.Does reading) later = record { line = number; said = said.Does reading } ∷ later Behind
behind number (line.Audit actor) later = record { line = number; said = said.Audit actor } ∷ later Behind
behind number line.Bad later = bad number

-- a line of any of them
abbrev pub said_at : Place → ℕ → List ℕ → (Place → List Statement) → List Statement
said_at Before number bytes later = before number (line_of bytes) later
said_at (Within start text) number bytes later = within start text number bytes later
said_at Behind number bytes later = behind number (line_of bytes) later

-- a policy without its last line is bad, at its first one
abbrev pub at_end : Place → List Statement
at_end Before = []
at_end (Within start text) = bad start
at_end Behind = []

-- the lines from that place and number on
abbrev pub statements_from : Place → ℕ → List (List ℕ) → List Statement
statements_from place number [] = at_end place
statements_from place number (bytes ∷ lines) =
    said_at place number bytes (λ next. statements_from next (number + 1) lines)

-- a script's lines are numbered from 1
unfoldable pub statements_of : List ℕ → List Statement
statements_of script = statements_from Before 1 (pieces 10 script)
