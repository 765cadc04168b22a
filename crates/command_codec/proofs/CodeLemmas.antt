-- A code is told by its number.
use Rattle.std.proofs.Common.{◌≡◌, ℤ, Some, refl, ap, ◌∙◌, ◌↔◌}
use Rattle.std.specs.Prelude.{FitsSigned}
use Rattle.std.specs.Int.{w32}
use Rattle.std.specs.Ordering.{int_eq}
use Rattle.std.proofs.Math.Facts.{sfits_lit}
use Rattle.std.proofs.lemmas.Bool.Decides.{Decides-int_eq}
use Rattle.command_codec.specs.declared.error_code.ErrorCode.{ErrorCode}
use Rattle.command_codec.specs.declared.error_code.ErrorCode.TheVariants.{InvalidChannel, UnknownSubscription, UnknownPublication, UnknownCounter, UnknownCommandType, MalformedCommand, Denied, NoMemory, Full, WrongClient, Conflict, NoRoom}
use Rattle.command_codec.specs.ErrorCode.{all_codes, code_number, code_of}
use Rattle.command_codec.proofs.Finding.{found_passes}

pub code_again : (code : ErrorCode) → code_of (code_number code) ≡ Some code
unfolding code_of code_number
code_again InvalidChannel = refl
code_again UnknownSubscription = refl
code_again UnknownPublication = refl
code_again UnknownCounter = refl
code_again UnknownCommandType = refl
code_again MalformedCommand = refl
code_again Denied = refl
code_again NoMemory = refl
code_again Full = refl
code_again WrongClient = refl
code_again Conflict = refl
code_again NoRoom = refl

pub code_fits : (code : ErrorCode) → FitsSigned w32 (code_number code)
unfolding code_number
code_fits InvalidChannel = sfits_lit tt
code_fits UnknownSubscription = sfits_lit tt
code_fits UnknownPublication = sfits_lit tt
code_fits UnknownCounter = sfits_lit tt
code_fits UnknownCommandType = sfits_lit tt
code_fits MalformedCommand = sfits_lit tt
code_fits Denied = sfits_lit tt
code_fits NoMemory = sfits_lit tt
code_fits Full = sfits_lit tt
code_fits WrongClient = sfits_lit tt
code_fits Conflict = sfits_lit tt
code_fits NoRoom = sfits_lit tt

pub code_takes : (number : ℤ) (code : ErrorCode) → code_of number ≡ Some code → number ≡ code_number code
unfolding code_of
code_takes number code e = (Decides-int_eq number (code_number code)).0 (found_passes (λ c. int_eq number (code_number c)) all_codes code e)

pub code_by_number : (code : ErrorCode) (number : ℤ) → (code_of number ≡ Some code) ↔ (number ≡ code_number code)
code_by_number code number = (code_takes number code, λ e. ap code_of e ∙ code_again code)
