-- How many bytes frames have.
use Rattle.std.proofs.Common.{◌≡◌, ℕ, ◌+◌, ◌-◌, ◌++◌, List, length, arith, length-append}
use Rattle.std.proofs.lemmas.List.{length-replicate}
use Rattle.std.specs.Prelude.{replicate}
use Rattle.frame_codec.specs.Frame.{padded, data_bytes, data_header, pad_bytes}
use Rattle.frame_codec.specs.Header.{header_bytes, plain_header}
use Rattle.frame_codec.specs.declared.flags.Flags.{Flags}
use Rattle.frame_codec.specs.declared.header.TermPlace.{TermPlace}
use Rattle.frame_codec.specs.declared.header.Kind.TheVariants.{Pad}
use Rattle.frame_codec.proofs.WritingLemmas.{length-header_bytes}

pub length-data_bytes : (flags : Flags) (place : TermPlace) (payload : List ℕ) → length (data_bytes flags place payload) ≡ padded (32 + length payload)
unfolding data_bytes
length-data_bytes flags place payload =
    let header : List ℕ = header_bytes (data_header flags place payload) in
    let filling : List ℕ = replicate (padded (32 + length payload) - (32 + length payload)) 0 in
    omega (arith, length-header_bytes (data_header flags place payload), length-append header payload, length-append (header ++ payload) filling, length-replicate {A = ℕ} (padded (32 + length payload) - (32 + length payload)) 0)

pub length-pad_bytes : (flags : Flags) (place : TermPlace) (size : ℕ) → length (pad_bytes flags place size) ≡ 32
unfolding pad_bytes
length-pad_bytes flags place size = length-header_bytes (plain_header Pad size flags place)
