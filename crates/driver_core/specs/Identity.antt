-- How a subscription has the log that it reads: what Aeron calls the source identity of an image. The texts are own rules.
use Rattle.std.specs.Prelude.{ℕ, Bool, true, false, List, codes, Option, Some, None}
use Rattle.channel_uri.specs.declared.address.Address.{Address}
use Rattle.channel_uri.specs.Address.{address_text}
use Rattle.driver_core.specs.declared.state.source_identity.SourceIdentity.{SourceIdentity}
use Rattle.driver_core.specs.declared.state.source_identity.SourceIdentity.TheVariants.{Ipc, Spy, Publisher}
use Rattle.stream_registry.specs.declared.row.LogRow.{LogRow}
use Rattle.stream_registry.specs.Origins.{address_of}
use Rattle.stream_registry.specs.Places.{is_udp}

-- a remote publisher's by its address; a publication of this driver over datagrams is read by spies alone
abbrev pub identity_by : Bool → Option Address → SourceIdentity
identity_by udp (Some address) = Publisher address
identity_by true None = Spy
identity_by false None = Ipc

abbrev pub identity_of : LogRow → SourceIdentity
identity_of log = identity_by (is_udp log.channel.media) (address_of log)

abbrev pub identity_text : SourceIdentity → List ℕ
identity_text Ipc = codes "aeron:ipc"
identity_text Spy = codes "aeron:spy"
identity_text (Publisher address) = address_text address
