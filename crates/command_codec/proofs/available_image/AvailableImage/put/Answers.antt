-- The fields, one behind the other.
use Rattle.std.proofs.Common.{◌≡◌, OnOk, ◌++◌, ℕ, List, ap, ◌∙◌, subst, append_assoc, rules}
use Rattle.std.specs.Int.{w32}
use Rattle.command_codec.specs.AvailableImage.{available_image_bytes}
use Rattle.command_codec.specs.Fields.{number_bytes, signed_bytes, with_length}
use Rattle.command_codec.proofs.available_image.AvailableImage.put.Goals as goal

-- six fields written in turn are the six of them written at once
at_once : (out a b c d e f : List ℕ) → out ++ a ++ b ++ c ++ d ++ e ++ f ≡ out ++ (a ++ b ++ c ++ d ++ e ++ f)
at_once out a b c d e f = simp append_assoc

pub returns : goal.returns
unfolding available_image_bytes
returns c =
    let out = c.args.out.now.items in
    let image = c.args.self.now in
    let source = c.in_ok-put_u64.ensures in
    let subscription = c.in_ok-put_u64-2.ensures in
    let session = c.in_ok-put_i32.ensures in
    let stream = c.in_ok-put_i32-2.ensures in
    let position = c.in_ok-put_u64-3.ensures in
    let front : c.put_u64-3.new.out.items ≡ out ++ number_bytes 8 image.source ++ number_bytes 8 image.subscription ++ signed_bytes w32 4 image.session ++ signed_bytes w32 4 image.stream ++ number_bytes 8 image.position = rw (position, stream, session, subscription, source) (search rules) in
    let whole : c.put_u64-3.new.out.items ++ with_length image.origin ≡ out ++ available_image_bytes image = ap (λ (items : List ℕ). items ++ with_length image.origin) front ∙ at_once out (number_bytes 8 image.source) (number_bytes 8 image.subscription) (signed_bytes w32 4 image.session) (signed_bytes w32 4 image.stream) (number_bytes 8 image.position) (with_length image.origin) in
    subst (λ (items : List ℕ). OnOk c.put_text.result (c.put_text.new.out.items ≡ items)) whole c.put_text.ensures
