-- A frame of a log at its position.
use Rattle.std.specs.Prelude.{ℕ, ◌+◌, List, [], refl}
use Rattle.std.specs.Coded.{Coded, code_by, coded×, coded_ℕ, coded_list}

-- where it begins, how many positions it takes, and its bytes: of a data frame header and payload, without the filling
-- after them; of a pad its header
pub record Frame : Type 0 where
  pub position : ℕ
  pub span : ℕ
  pub bytes : List ℕ

-- stored as the tuple of its fields
abbrev pub frame_code : Coded Frame
frame_code = code_by (ℕ × (ℕ × List ℕ)) (coded× coded_ℕ (coded× coded_ℕ (coded_list coded_ℕ))) (λ f. (f.position, (f.span, f.bytes))) (λ p. record { position = p.0; span = p.1.0; bytes = p.1.1 }) (λ _. refl)

abbrev pub framed : ℕ → ℕ → List ℕ → Frame
framed position span bytes = record { position = position; span = span; bytes = bytes }

-- the position after it
abbrev pub end_of : Frame → ℕ
end_of f = f.position + f.span

-- what stands past the end of a list of frames
abbrev pub no_frame : Frame
no_frame = framed 0 0 []
