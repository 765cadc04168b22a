-- Frames that end before a range are passed by their lengths alone.
use Rattle.std.proofs.Common.{◌≡◌, ℕ, ◌-◌, ◌≤◌, false, cond, List, ◌∷◌, Some, length, take, drop, refl, sym, ap, ap₂, ◌∙◌, arith, filter}
use Rattle.std.specs.Prelude.{◌==◌, slice_index}
use Rattle.std.proofs.lemmas.Bool.{le-ltb}
use Rattle.std.proofs.lemmas.Bool.Decides.{nat_tests}
use Rattle.std.proofs.lemmas.List.{length-drop, length-take-le}
use Rattle.byteorder.specs.Endian.{little_number}
use Rattle.frame_codec.specs.Frame.{padded}
use Rattle.term_log.specs.declared.reading.Frames.{Frames}
use Rattle.term_log.specs.Frames.{span}
use Rattle.term_log.specs.Ranges.{meets}
use Rattle.term_log.specs.Reading.{Given, IsPassed, admitted, first_of, fragment_at, frames_in, frames_left}
use Rattle.term_log.proofs.Walks.{in_first}

-- a data frame that is read at the front
pub first_read : (position budget : ℕ) (bytes : List ℕ) → 32 ≤ length bytes → (slice_index bytes 6 == 0) ≡ false → 32 ≤ little_number 4 bytes
    → padded (little_number 4 bytes) ≤ length bytes → padded (little_number 4 bytes) ≤ budget
    → admitted budget (first_of position bytes) ≡ Some (fragment_at (little_number 4 bytes) position bytes)
unfolding first_of
first_read position budget bytes long framed least there admits =
    let n : ℕ = little_number 4 bytes in
    let sent : length (take (padded n) bytes) ≤ budget = omega (arith, length-take-le (padded n) bytes there, admits) in
    rw (le-ltb (length bytes) 32 long, framed, le-ltb n 32 least, le-ltb (length bytes) (padded n) there, le-ltb budget (length (take (padded n) bytes)) sent) refl

module _ (f later : Frames) (position size passed : ℕ) (is : IsPassed f position passed)
    (rest : later.rest.now ≡ drop passed f.rest.now) (end : later.end ≡ f.end) (budget : later.budget ≡ f.budget - passed) where
  abbrev pub next : Given
  next = fragment_at (little_number 4 f.rest.now) (f.end - length f.rest.now) f.rest.now

  long : length next.bytes ≡ passed
  long = length-take-le (padded (little_number 4 f.rest.now)) f.rest.now (omega (arith, is.size_is, is.there)) ∙ sym is.size_is

  carried : span next.frame ≡ passed
  carried =
      let n : ℕ = little_number 4 f.rest.now in
      let front : length (take n f.rest.now) ≡ n = length-take-le n f.rest.now (omega (arith, is.size_is, is.there)) in
      ap padded (omega (arith, is.least, front, length-drop 32 (take n f.rest.now))) ∙ sym is.size_is

  missed : meets position size next ≡ false
  missed =
      let short = carried in
      grind (arith, nat_tests, is.before, short)

  pub pass_left : frames_left f ≡ next ∷ frames_left later
  unfolding frames_left
  pass_left =
      in_first (length f.rest.now) f.end f.budget f.rest.now next is.first (omega arith)
      ∙ ap₂ (λ (k : ℕ) (xs : List ℕ). next ∷ frames_in (length xs) f.end (f.budget - k) xs) long (ap (λ (k : ℕ). drop k f.rest.now) long ∙ sym rest)
      ∙ ap₂ (λ (e k : ℕ). next ∷ frames_in (length later.rest.now) e k later.rest.now) (sym end) (sym budget)

  pub pass_same : filter (meets position size) (frames_left later) ≡ filter (meets position size) (frames_left f)
  pass_same =
      sym (ap (filter (meets position size)) pass_left ∙ ap (λ b. cond b (next ∷ filter (meets position size) (frames_left later)) (filter (meets position size) (frames_left later))) missed)
