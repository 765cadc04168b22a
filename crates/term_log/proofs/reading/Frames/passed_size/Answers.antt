use Rattle.std.proofs.Common.{◌≡◌, ℕ, ◌-◌, ◌≤◌, false, List, length, rules}
use Rattle.std.specs.Prelude.{◌==◌, slice_index}
use Rattle.byteorder.specs.Endian.{little_number}
use Rattle.frame_codec.specs.Frame.{padded}
use Rattle.term_log.proofs.Passing.{first_read}
use Rattle.term_log.proofs.reading.Frames.passed_size.Goals as goal

pub returns : goal.returns
returns c =
    let f = c.args.self.now in
    let bytes : List ℕ = f.rest.now in
    let n : ℕ = little_number 4 bytes in
    let long : 32 ≤ length bytes = search rules in
    let framed : (slice_index bytes 6 == 0) ≡ false = search rules in
    let least : 32 ≤ n = search rules in
    let there : padded n ≤ length bytes = search rules in
    let admits : padded n ≤ f.budget = search rules in
    record {
      first = first_read (f.end - length bytes) f.budget bytes long framed least there admits;
      size_is = search rules;
      least = least;
      there = search rules;
      admits = search rules;
      before = search rules;
    }
