use Rattle.std.proofs.Common.{ap, ◌∙◌}
use Rattle.std.specs.Prelude.{slice_range}
use Rattle.std.specs.Str.{is_utf8}
use Rattle.std.proofs.lemmas.Str.{IsUtf8-from_is_utf8}
use Rattle.channel_uri.proofs.table.value_in.Goals as goal

pub from_utf8_unchecked-requires : goal.from_utf8_unchecked-requires
from_utf8_unchecked-requires c =
    IsUtf8-from_is_utf8 _ (ap (λ bytes. is_utf8 (slice_range bytes c.args.span.value c.args.span.end)) c.as_bytes.ensures.value ∙ c.requires.value_text)
