-- What a log is made for, and how it begins (Aeron Transport Protocol Specification, terms and positions).
use Rattle.std.specs.Prelude.{ℕ, ℤ, max}
use Rattle.log_traffic.specs.Held.{Made, for_publication, for_stream}
use Rattle.log_traffic.specs.Whole.{AnyWhole, whole, rebuilt}
use Rattle.driver_core.specs.declared.state.settings.Settings.{Settings}
use Rattle.channel_uri.specs.declared.media.Media.{Media}
use Rattle.channel_uri.specs.declared.media.Media.TheVariants.{Udp, Ipc, Counter}
use Rattle.image_log.specs.declared.ident.Ident.{Ident as StreamIdent}
use Rattle.image_log.specs.Rebuilt.{Rebuilt, opened}
use Rattle.stream_registry.specs.declared.row.Origin.{Origin}
use Rattle.stream_registry.specs.declared.row.Origin.TheVariants.{Published, Remote}
use Rattle.stream_registry.specs.declared.row.LogRow.{LogRow}
use Rattle.term_log.specs.declared.ident.Ident.{Ident}
use Rattle.term_log.specs.declared.ident.LogKind.{LogKind}
use Rattle.term_log.specs.declared.ident.LogKind.TheVariants as kind
use Rattle.term_log.specs.Whole.{fresh}

-- over datagrams, or in shared memory
abbrev pub kind_over : Media → LogKind
kind_over Udp = kind.Udp
kind_over Ipc = kind.Ipc
kind_over Counter = kind.Udp

-- it begins at position 0, in the term of the driver's first term id
abbrev pub ident_of : Settings → LogRow → Ident
ident_of settings publication = record {
  kind = kind_over publication.channel.media;
  session = publication.session;
  stream = publication.stream;
  initial_term = settings.initial_term;
  term_length = publication.measures.term_length;
  mtu = publication.measures.mtu;
  start = 0;
}

-- the stream of an image, as its publisher's SETUP said it
abbrev pub stream_ident : LogRow → ℤ → StreamIdent
stream_ident image initial_term = record {
  session_id = image.session;
  stream_id = image.stream;
  initial_term_id = initial_term;
  term_length = image.measures.term_length;
}

abbrev pub made_by : Settings → LogRow → Origin → Made
made_by settings log (Published exclusive since) = for_publication (ident_of settings log)
made_by settings log (Remote address initial_term join) = for_stream (stream_ident log initial_term)

-- what the log is made for
abbrev pub made_of : Settings → LogRow → Made
made_of settings log = made_by settings log log.origin

-- the sender was heard at a moment; the greatest one counts
abbrev pub heard_at : ℕ → Rebuilt → Rebuilt
heard_at now r = record r { moment = max r.moment now }

abbrev pub begins_by : Settings → ℕ → LogRow → Origin → AnyWhole
begins_by settings now log (Published exclusive since) = whole (fresh (ident_of settings log))
begins_by settings now log (Remote address initial_term join) =
    rebuilt (heard_at now (opened (stream_ident log initial_term) join))

-- how the log begins at a moment, at which the sender of an image is heard
abbrev pub begins_of : Settings → ℕ → LogRow → AnyWhole
begins_of settings now log = begins_by settings now log log.origin
