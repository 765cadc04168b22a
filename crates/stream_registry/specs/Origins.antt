-- Where logs come from: clients of this driver publish there, or a remote publisher does, whose log is an image here.
use Rattle.std.specs.Prelude.{ℕ, Bool, true, false, not, Option, Some, None, unwrap_or, if◌then◌else◌}
use Rattle.channel_uri.specs.declared.address.Address.{Address}
use Rattle.stream_registry.specs.declared.row.Origin.{Origin}
use Rattle.stream_registry.specs.declared.row.Origin.TheVariants.{Published, Remote}
use Rattle.stream_registry.specs.declared.row.LogRow.{LogRow}

abbrev pub is_published_by : Origin → Bool
is_published_by (Published exclusive since) = true
is_published_by (Remote address initial_term join) = false

-- clients of this driver publish there
abbrev pub is_published : LogRow → Bool
is_published log = is_published_by log.origin

-- it is an image
abbrev pub is_remote : LogRow → Bool
is_remote log = not (is_published log)

-- publications, or images
abbrev pub is_of_kind : Bool → LogRow → Bool
is_of_kind published log = if published then is_published log else is_remote log

abbrev pub is_exclusive_by : Origin → Bool
is_exclusive_by (Published exclusive since) = exclusive
is_exclusive_by (Remote address initial_term join) = false

-- it is a publication that nobody else may join
abbrev pub is_exclusive : LogRow → Bool
is_exclusive log = is_exclusive_by log.origin

abbrev pub lingering_by : Origin → Option ℕ
lingering_by (Published exclusive since) = since
lingering_by (Remote address initial_term join) = None

-- the moment since when it lingers, which an image never does
abbrev pub lingering_since : LogRow → Option ℕ
lingering_since log = lingering_by log.origin

-- a publication lingers from now on, unless it did before
abbrev pub left_by : ℕ → Origin → Origin
left_by now (Published exclusive since) = Published exclusive (Some (unwrap_or since now))
left_by now (Remote address initial_term join) = Remote address initial_term join

-- the same origin, whether the publication lingers or not
abbrev pub unlingering : Origin → Origin
unlingering (Published exclusive since) = Published exclusive None
unlingering (Remote address initial_term join) = Remote address initial_term join

abbrev pub begins_by : Origin → ℕ
begins_by (Published exclusive since) = 0
begins_by (Remote address initial_term join) = join

-- the position at which the log begins
abbrev pub begins_at : LogRow → ℕ
begins_at log = begins_by log.origin

abbrev pub address_by : Origin → Option Address
address_by (Published exclusive since) = None
address_by (Remote address initial_term join) = Some address

-- from where its publisher sends, where that is a remote one
abbrev pub address_of : LogRow → Option Address
address_of log = address_by log.origin
