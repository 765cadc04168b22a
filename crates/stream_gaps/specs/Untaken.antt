-- Messages that were sent and not taken. Own rules.
use Rattle.std.specs.Prelude.{ℕ, nat_lt, List, filter}

-- the ends of those that are not taken where all is taken up to a position
abbrev pub after : ℕ → List ℕ → List ℕ
after position ends = filter (λ end. nat_lt position end) ends
