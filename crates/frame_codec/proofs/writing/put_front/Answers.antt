use Rattle.std.proofs.Common.{refl}
use Rattle.frame_codec.specs.Writing.{front_bytes}
use Rattle.frame_codec.proofs.WritingLemmas.{put_none, put_more, length-number_bytes}
use Rattle.frame_codec.proofs.writing.put_front.Goals as goal

pub returns : goal.returns
unfolding front_bytes
returns c =
    let s1 = put_more (put_none c.args.out.now) c.put_u32.ensures (length-number_bytes 4 _) in
    let s2 = put_more s1 c.put_u8.ensures refl in
    let s3 = put_more s2 c.put_u8-2.ensures refl in
    let s4 = put_more s3 c.put_u16.ensures (length-number_bytes 2 _) in
    record { is = s4.is; size = s4.size }
