-- What the readers of a line answer.
use Rattle.std.specs.Prelude.{◌≡◌, Option, Some, None, Result, Ok, Err}
use Rattle.script_lines.specs.declared.line.LineFault.{LineFault}
use Rattle.script_lines.specs.declared.line.LineFault.TheVariants.{Bad, NoMemory}

-- what is bad means nothing; out of memory says nothing of the text
abbrev pub Fails : {M : Type 0} → LineFault → Option M → Type 0
Fails Bad meaning = meaning ≡ None
Fails NoMemory meaning = Unit {0}

-- the answer is the meaning of the text, unless there was no memory for it
abbrev pub Gives : {M : Type 0} → Result M LineFault → Option M → Type 0
Gives (Ok value) meaning = meaning ≡ Some value
Gives (Err fault) meaning = Fails fault meaning

-- the call left this value, which is the meaning, unless there was no memory for it
abbrev pub Leaves : {M : Type 0} → Result (Unit {0}) LineFault → M → Option M → Type 0
Leaves (Ok done) value meaning = meaning ≡ Some value
Leaves (Err fault) value meaning = Fails fault meaning

-- there was memory for it
abbrev pub HasMemory : {T : Type 0} → Result T LineFault → Type 0
HasMemory (Ok value) = Unit {0}
HasMemory (Err Bad) = Unit {0}
HasMemory (Err NoMemory) = ⊥
