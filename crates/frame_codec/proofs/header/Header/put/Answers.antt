-- The fields, one behind the other.
use Rattle.std.proofs.Common.{◌∙◌, rules}
use Rattle.frame_codec.specs.Header.{header_bytes}
use Rattle.frame_codec.proofs.WritingLemmas.{put_more, length-number_bytes, length-signed_bytes, length-header_bytes}
use Rattle.frame_codec.proofs.header.Header.put.Goals as goal

pub returns : goal.returns
unfolding header_bytes
returns c =
    let s1 = put_more c.put_front.ensures c.put_u32.ensures (length-number_bytes 4 _) in
    let s2 = put_more s1 c.put_i32.ensures (length-signed_bytes _) in
    let s3 = put_more s2 c.put_i32-2.ensures (length-signed_bytes _) in
    let s4 = put_more s3 c.put_i32-3.ensures (length-signed_bytes _) in
    let s5 = put_more s4 c.put_u64.ensures (length-number_bytes 8 _) in
    record { is = s5.is ∙ search rules; size = length-header_bytes c.args.self.now }
