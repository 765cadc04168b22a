-- Where an image joins the stream that a SETUP announces (Aeron Transport Protocol Specification, setup frame, positions).
-- Own: the greatest length of a term, and that what no sender may send makes no image.
use Rattle.std.specs.Prelude.{◌≡◌, ℕ, ℤ, pos, ◌*◌, ◌%◌, ◌^◌, ◌<◌, ◌≤◌, ◌==◌, Bool, false, Option, Some, None, nat_le, nat_lt, if◌then◌else◌}
use Rattle.std.specs.Int.{is_power_of_two}
use Rattle.frame_codec.specs.declared.join.Join.{Join}
use Rattle.frame_codec.specs.declared.setup.Setup.{Setup}
use Rattle.frame_codec.specs.Position.{position_of, terms_before}

-- goes on with what was found, where it was
infixl 10 ◌>>?◌
abbrev pub ◌>>?◌ : {A B : Type 0} → Option A → (A → Option B) → Option B
None >>? next = None
Some value >>? next = next value

-- a length that isn't negative
abbrev pub natural : ℤ → Option ℕ
natural (pos size) = Some size
natural other = None

-- a power of two from 64 KiB to 16 MiB
unfoldable pub term_length_of : ℤ → Option ℕ
term_length_of stated = natural stated >>? λ size.
    if nat_le 65536 size then if nat_le size 16777216 then if is_power_of_two size then Some size else None else None else None

-- a multiple of 32 from 64 to 65504
unfoldable pub mtu_of : ℤ → Option ℕ
mtu_of stated = natural stated >>? λ size.
    if nat_le 64 size then if nat_le size 65504 then if size % 32 == 0 then Some size else None else None else None

-- frames begin at multiples of 32 within the term
abbrev pub is_offset : ℕ → ℕ → Bool
is_offset offset size = if offset % 32 == 0 then nat_lt offset size else false

-- fewer than 2 ^ 31 terms come before the active one
abbrev pub is_recent : Setup → Bool
is_recent setup = nat_lt (terms_before setup.initial_term_id setup.active_term_id) (2 ^ 31)

-- where an image joins, and the sizes of its stream, unless no sender may send that SETUP
unfoldable pub join_of : Setup → Option Join
join_of setup =
    term_length_of setup.term_length >>? λ size.
    mtu_of setup.mtu >>? λ mtu.
    if is_offset setup.term_offset size
    then if is_recent setup
    then Some (record {
      position = position_of setup.initial_term_id setup.active_term_id setup.term_offset size;
      term_length = size;
      mtu = mtu;
    })
    else None
    else None

-- a join is at the start of a frame, below the greatest position, in a stream of sizes that a log may have
pub record IsJoin (join : Join) : Type 0 where
  pub aligned : join.position % 32 ≡ 0
  pub below : join.position < join.term_length * 2 ^ 31
  pub term_low : 65536 ≤ join.term_length
  pub term_high : join.term_length ≤ 16777216
  pub term_whole : join.term_length % 4096 ≡ 0
  pub mtu_low : 64 ≤ join.mtu
  pub mtu_high : join.mtu ≤ 65504
  pub mtu_aligned : join.mtu % 32 ≡ 0

-- so it is with each SETUP that makes an image
abbrev pub JoinsAreSound : Type 0
JoinsAreSound = (setup : Setup) (join : Join) → join_of setup ≡ Some join → IsJoin join
