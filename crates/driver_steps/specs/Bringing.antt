-- What an event brings: a SETUP an image of its terms' length, and any other event a publication. Own rules.
use Rattle.std.specs.Prelude.{◌≡◌, ℕ, IfSome, List, Option, Some, None}
use Rattle.driver_core.specs.Change.{Change}
use Rattle.driver_core.specs.declared.state.event.Event.{Event}
use Rattle.driver_core.specs.declared.state.event.Event.TheVariants.{Setup as SetUp}
use Rattle.driver_core.specs.Renewal.{source_at}
use Rattle.frame_codec.specs.declared.join.Join.{Join}
use Rattle.frame_codec.specs.Join.{join_of}
use Rattle.stream_registry.specs.declared.lingering.LogPlace.{LogPlace}
use Rattle.stream_registry.specs.declared.row.Origin.{Origin}
use Rattle.stream_registry.specs.declared.row.Origin.TheVariants.{Published, Remote}
use Rattle.stream_registry.specs.declared.row.LogRow.{LogRow}

-- of an image, the length of its terms
abbrev pub image_terms_by : ℕ → Origin → Option ℕ
image_terms_by terms (Published exclusive since) = None
image_terms_by terms (Remote address initial_term join) = Some terms

abbrev pub image_terms : LogRow → Option ℕ
image_terms log = image_terms_by log.measures.term_length log.origin

abbrev pub terms_by : Option Join → Option ℕ
terms_by None = None
terms_by (Some join) = Some join.term_length

-- of the image that the event brings
abbrev pub terms_brought : Event → Option ℕ
terms_brought (SetUp now local from setup) = terms_by (join_of setup)
terms_brought event = None

abbrev pub BringsAt : Event → List LogRow → Option LogPlace → Type 0
BringsAt event logs None = Unit {0}
BringsAt event logs (Some place) = IfSome (source_at logs place.source) (λ log. image_terms log ≡ terms_brought event)

-- the log that opens with the event is what the event brings
abbrev pub Brings : Event → Change → Type 0
Brings event change = BringsAt event change.after.streams.sources change.outcome.opens
