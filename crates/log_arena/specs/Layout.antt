-- What contracts see of the holes.
use Rattle.std.specs.Prelude.{ℕ, List, refl}
use Rattle.std.specs.Coded.{Coded, code_by, coded×, coded_ℕ, coded_list}
use denote.RawPtr.{Ptr, coded_ptr}

-- where the region begins, the holes as spans of pages, and how many of them have room
pub record Layout : Type 0 where
  pub base : Ptr
  pub spans : List (ℕ × ℕ)
  pub room : ℕ

-- stored as the tuple of its fields
abbrev pub layout_code : Coded Layout
layout_code = code_by (Ptr × (List (ℕ × ℕ) × ℕ)) (coded× coded_ptr (coded× (coded_list (coded× coded_ℕ coded_ℕ)) coded_ℕ)) (λ l. (l.base, (l.spans, l.room))) (λ p. record { base = p.0; spans = p.1.0; room = p.1.1 }) (λ _. refl)
