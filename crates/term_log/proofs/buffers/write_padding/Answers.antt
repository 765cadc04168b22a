use Rattle.std.proofs.Common.{◌≡◌, ℕ, ◌+◌, ◌-◌, ◌++◌, List, length, take, drop, ap, ◌∙◌, arith, sym, rules}
use Rattle.std.proofs.lemmas.List.{places}
use Rattle.frame_codec.specs.Frame.{pad_bytes}
use Rattle.term_log.proofs.Sizes.{length-pad_bytes}
use Rattle.term_log.proofs.Turns.{part_written}
use Rattle.term_log.proofs.buffers.write_padding.Goals as goal

pub returns : goal.returns
returns c =
    let at = c.args.at in
    let bytes : List ℕ = c.args.bytes.now in
    let header : List ℕ = pad_bytes c.args.flags c.args.place.now c.args.size in
    let size : length header ≡ 32 = length-pad_bytes c.args.flags c.args.place.now c.args.size in
    let same : take at bytes ++ (c.write_pad.new.out ++ drop (at + (length bytes - at)) bytes) ≡ take at bytes ++ (header ++ drop (at + 32) bytes) =
    part_written at 32 header bytes c.write_pad.new.out (omega arith) c.write_pad.ensures (sym size)
    ∙ ap (λ (k : ℕ). take at bytes ++ (header ++ drop (at + k) bytes)) size in
    search (rules, places, size, same)
