-- Names of doors, and one more.
use Rattle.std.proofs.Common.{◌≡◌, ℕ, true, List, [], ◌∷◌, ◌++◌, sym, subst}
use Rattle.std.proofs.lemmas.List.Elements.{All-push}
use Rattle.door_names.specs.Names.{is_name}
use Rattle.policy_text.specs.Names.{Known}
use Rattle.policy_tools.specs.Directory.{AreNames}

pub names_with : (names more : Known) (name : List ℕ) (number : ℕ)
    → more ≡ names ++ (name, number) ∷ [] → AreNames names → is_name name ≡ true → AreNames more
names_with names more name number is all one =
    subst AreNames (sym is) (All-push (λ known. is_name known.0 ≡ true) names (name, number) all one)
