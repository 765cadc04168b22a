-- The frames of what is due (Aeron Transport Protocol Specification, NAK and status message frames).
use Rattle.std.specs.Prelude.{ℕ, pos, ◌%◌, List, [], ◌∷◌, ◌++◌, min, Option, Some, None}
use Rattle.frame_codec.specs.declared.nak.Nak.{Nak as NakFrame}
use Rattle.frame_codec.specs.declared.status_message.StatusMessage.{StatusMessage}
use Rattle.frame_codec.specs.Nak.{nak_bytes}
use Rattle.frame_codec.specs.Position.{term_id_of}
use Rattle.frame_codec.specs.StatusMessage.{status_bytes}
use Rattle.frame_codec.specs.Writing.{no_flags}
use Rattle.image_log.specs.declared.ident.Ident.{Ident}
use Rattle.log_traffic.specs.declared.receiver.Due.{Due}
use Rattle.log_traffic.specs.declared.receiver.Status.{Status}
use Rattle.retransmit_gate.specs.declared.nakker.Nak.{Nak}

-- a NAK names the first position of the gap by its term and offset, and how many bytes are missing
abbrev pub nak_frame : Ident → Nak → NakFrame
nak_frame ident nak = record {
  flags = no_flags;
  session_id = ident.session_id;
  stream_id = ident.stream_id;
  term_id = term_id_of ident.initial_term_id nak.position ident.term_length;
  term_offset = nak.position % ident.term_length;
  length = pos (min nak.length 2147483647);
}

-- a status message names the base by its term and offset, the window, and who receives
abbrev pub status_frame : Ident → ℕ → Status → StatusMessage
status_frame ident receiver status = record {
  flags = no_flags;
  session_id = ident.session_id;
  stream_id = ident.stream_id;
  consumption_term_id = term_id_of ident.initial_term_id status.base ident.term_length;
  consumption_term_offset = status.base % ident.term_length;
  receiver_window = status.window;
  receiver_id = receiver;
}

abbrev pub nak_datagrams : Ident → Option Nak → List (List ℕ)
nak_datagrams ident None = []
nak_datagrams ident (Some nak) = nak_bytes (nak_frame ident nak) ∷ []

abbrev pub status_datagrams : Ident → ℕ → Option Status → List (List ℕ)
status_datagrams ident receiver None = []
status_datagrams ident receiver (Some status) = status_bytes (status_frame ident receiver status) ∷ []

-- the datagrams of what is due, the NAK first
unfoldable pub datagrams_of : Ident → ℕ → Due → List (List ℕ)
datagrams_of ident receiver due = nak_datagrams ident due.nak ++ status_datagrams ident receiver due.status
