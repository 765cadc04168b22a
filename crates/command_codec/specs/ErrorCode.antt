-- The codes of ON_ERROR, with their numbers and their texts. (Numbers and texts are this project's own.)
use Rattle.std.specs.Prelude.{ℕ, ℤ, pos, List, [], ◌∷◌, find, Option, Some, None, codes}
use Rattle.std.specs.Ordering.{int_eq}
use Rattle.command_codec.specs.declared.error_code.ErrorCode.{ErrorCode}
use Rattle.command_codec.specs.declared.error_code.ErrorCode.TheVariants.{InvalidChannel, UnknownSubscription, UnknownPublication, UnknownCounter, UnknownCommandType, MalformedCommand, Denied, NoMemory, Full, WrongClient, Conflict, NoRoom}

-- the number of a code
unfoldable pub code_number : ErrorCode → ℤ
code_number InvalidChannel = pos 1
code_number UnknownSubscription = pos 2
code_number UnknownPublication = pos 3
code_number UnknownCounter = pos 5
code_number UnknownCommandType = pos 6
code_number MalformedCommand = pos 7
code_number Denied = pos 1001
code_number NoMemory = pos 1002
code_number Full = pos 1003
code_number WrongClient = pos 1004
code_number Conflict = pos 1005
code_number NoRoom = pos 1006

abbrev pub all_codes : List ErrorCode
all_codes =
    InvalidChannel ∷ UnknownSubscription ∷ UnknownPublication ∷ UnknownCounter ∷ UnknownCommandType ∷ MalformedCommand
    ∷ Denied ∷ NoMemory ∷ Full ∷ WrongClient ∷ Conflict ∷ NoRoom ∷ []

-- the code that has this number
unfoldable pub code_of : ℤ → Option ErrorCode
code_of number = find (λ code. int_eq number (code_number code)) all_codes

-- the text of a code; a denial has the verdict's
unfoldable pub code_text : ErrorCode → Option (List ℕ)
code_text InvalidChannel = Some (codes "invalid channel")
code_text UnknownSubscription = Some (codes "unknown subscription")
code_text UnknownPublication = Some (codes "unknown publication")
code_text UnknownCounter = Some (codes "unknown counter")
code_text UnknownCommandType = Some (codes "unknown command type")
code_text MalformedCommand = Some (codes "malformed command")
code_text Denied = None
code_text NoMemory = Some (codes "no memory")
code_text Full = Some (codes "full")
code_text WrongClient = Some (codes "wrong client")
code_text Conflict = Some (codes "conflict")
code_text NoRoom = Some (codes "no room")
