-- What was lost between two images of a session, and the lines that say so. Own rules.
use Rattle.std.specs.Prelude.{ℕ, ℤ, ◌-◌, nat_lt, List, ◌++◌, Option, Some, None, codes, if◌then◌else◌}
use Rattle.std.specs.Fmt.{decimal, signed_decimal}
use Rattle.stream_gaps.specs.declared.gap.Gap.{Gap}
use Rattle.stream_gaps.specs.declared.gap.NotRetransmitted.{NotRetransmitted}
use Rattle.stream_gaps.specs.declared.gap.NotTaken.{NotTaken}

-- the bytes from where it was read to up to where it is read on; none where it was not read before
abbrev pub gap_after : ℤ → Option ℕ → ℕ → Option Gap
gap_after session None position = None
gap_after session (Some from) position =
    if nat_lt from position then Some (record { session = session; from = from; bytes = position - from }) else None

abbrev pub gap_text : Gap → List ℕ
gap_text gap =
    codes "gap: session " ++ (signed_decimal gap.session ++ (codes ", " ++ (decimal gap.bytes
    ++ (codes " bytes from " ++ (decimal gap.from ++ codes " lost")))))

abbrev pub not_retransmitted_text : NotRetransmitted → List ℕ
not_retransmitted_text rest =
    codes "gap: session " ++ (signed_decimal rest.session ++ (codes ", bytes from " ++ (decimal rest.from
    ++ codes " not retransmitted")))

abbrev pub not_taken_text : NotTaken → List ℕ
not_taken_text rest =
    codes "not taken: " ++ (decimal rest.messages ++ (codes " messages from position " ++ decimal rest.from))
