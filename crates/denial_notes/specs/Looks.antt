-- What is new of what an audit keeps, for one who looked at it before. Own rules.
use Rattle.std.specs.Prelude.{◌≡◌, ℕ, ◌++◌, List, length, drop}

-- Of all that ever came an audit keeps the end, and so many of the first were seen. What came after those is what was passed over,
-- of that number, and then what is new: nothing twice, and nothing else.
abbrev pub IsNew : {D : Type 0} → List D → List D → ℕ → List D → ℕ → Type 0
IsNew {D} before kept seen new count = (passed : List D) × (drop seen (before ++ kept) ≡ passed ++ new) × (length passed ≡ count)
