-- The version of the language that a document is of: the integer 1 or 2.
use Rattle.std.specs.Prelude.{ℤ, pos, Option, Some, None, codes, if◌then◌else◌}
use Rattle.std.specs.Ordering.{int_eq}
use Rattle.toml.specs.Data.{Members}
use Rattle.policy_text.specs.declared.version.Version.{Version}
use Rattle.policy_text.specs.declared.version.Version.TheVariants.{One, Two}
use Rattle.policy_text.specs.Members.{integer_at}

abbrev pub version_from : Option ℤ → Option Version
version_from None = None
version_from (Some number) =
    if int_eq number (pos 1) then Some One else if int_eq number (pos 2) then Some Two else None

abbrev pub version_of : Members → Option Version
version_of table = version_from (integer_at (codes "version") table)
