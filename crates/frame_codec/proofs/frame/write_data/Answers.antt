-- The header, the payload, and zeros up to the end.
use Rattle.std.proofs.Common.{◌+◌, ◌++◌, length, refl, ◌∙◌}
use Rattle.std.proofs.lemmas.List.{length-replicate}
use Rattle.frame_codec.specs.Header.{header_bytes}
use Rattle.frame_codec.specs.Frame.{data_bytes, data_header}
use Rattle.frame_codec.proofs.WritingLemmas.{put_more, filled}
use Rattle.frame_codec.proofs.frame.write_data.Goals as goal

pub returns : goal.returns
unfolding data_bytes
returns c =
    let payload = c.args.payload.now in
    let s1 = put_more c.put.ensures c.put_bytes.ensures refl in
    let s2 = put_more s1 c.put_zeros.ensures (length-replicate _ 0) in
    s2.is ∙ filled (header_bytes (data_header c.args.flags c.args.place.now payload) ++ payload) c.args.out.now (32 + length payload) c.padded-end.result _ c.padded-end.ensures refl
