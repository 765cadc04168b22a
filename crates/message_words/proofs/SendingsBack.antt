-- The words of a datagram denote it, and its bytes are read as it.
use Rattle.std.proofs.Common.{◌≡◌, ℕ, zero, suc, ◌%◌, ◌==◌, ◌<◌, ◌^◌, ℤ, pos, true, false, [], ◌∷◌, map, Some, None, Result, Ok, refl, sym, ap, ◌∙◌, arith, eq-eqb}
use Rattle.std.specs.Fmt.{decimal}
use Rattle.std.proofs.lemmas.Bool.Decides.{nat_tests}
use Rattle.command_codec.specs.Fields.{IsBytes}
use Rattle.frame_codec.specs.declared.flags.Flags.{Flags}
use Rattle.frame_codec.specs.declared.nak.Nak.{Nak}
use Rattle.frame_codec.specs.declared.setup.Setup.{Setup}
use Rattle.frame_codec.specs.declared.status_message.StatusMessage.{StatusMessage}
use Rattle.hex.proofs.HexLemmas.{decode_of-encode_lower}
use Rattle.message_words.specs.Datagrams.{place_fields}
use Rattle.message_words.specs.Frames.{covered_of, longest_payload, sending_in}
use Rattle.message_words.specs.Given.{given, unknown_at}
use Rattle.message_words.specs.Laws.{IsSending, sending_fields, sending_name}
use Rattle.message_words.specs.Message.{message_of}
use Rattle.message_words.specs.Name.{frame_keys, frame_text, name_of}
use Rattle.message_words.specs.Shown.{field_word}
use Rattle.message_words.specs.Values.{offset_of}
use Rattle.message_words.specs.declared.fault.WordFault.{WordFault}
use Rattle.message_words.specs.declared.frames.Beat.{Beat}
use Rattle.message_words.specs.declared.frames.DataFrame.{DataFrame}
use Rattle.message_words.specs.declared.frames.Pad.{Pad}
use Rattle.message_words.specs.declared.frames.Sending.{Sending}
use Rattle.message_words.specs.declared.frames.Sending.TheVariants as sendings
use Rattle.message_words.specs.declared.key.Key.TheVariants as keys
use Rattle.message_words.specs.declared.message.Message.TheVariants as messages
use Rattle.message_words.specs.declared.name.FrameName.{FrameName}
use Rattle.message_words.specs.declared.name.FrameName.TheVariants as frames
use Rattle.message_words.specs.declared.name.Name.TheVariants as names
use Rattle.message_words.proofs.CommandsBack.{bytes_within}
use Rattle.message_words.proofs.NumbersBack.{integer_back, natural_back, number_back}

frame_again : (name : FrameName) → name_of (frame_text name) ≡ Some (names.Frame name)
unfolding name_of
frame_again frames.Data = refl
frame_again frames.Pad = refl
frame_again frames.Heartbeat = refl
frame_again frames.Nak = refl
frame_again frames.StatusMessage = refl
frame_again frames.Setup = refl

abbrev Denotes : Sending → Type 0
Denotes sending = message_of (frame_text (sending_name sending) ∷ map field_word (sending_fields sending)) ≡ Ok (messages.Datagram sending)

denotes : (sending : Sending) → unknown_at (frame_keys (sending_name sending)) (map field_word (sending_fields sending)) ≡ None
    → sending_in (sending_name sending) (map field_word (sending_fields sending)) ≡ Ok sending → Denotes sending
unfolding message_of
denotes sending known is = rw (frame_again (sending_name sending), known, is) refl

offset_back : (offset : ℕ) → offset < 2 ^ 31 → offset % 32 ≡ 0 → offset_of (decimal offset) ≡ Some offset
offset_back offset low is =
    let aligned : (offset % 32 == 0) ≡ true = eq-eqb (offset % 32) 0 is in
    rw (natural_back offset low, aligned) refl

covered_back : (size : ℕ) → 0 < size → size < 2 ^ 31 → size % 32 ≡ 0 → covered_of (decimal size) ≡ Some size
covered_back size some low is =
    let aligned : (size % 32 == 0) ≡ true = eq-eqb (size % 32) 0 is in
    let full : (size == 0) ≡ false = grind (arith, nat_tests, some) in
    rw (natural_back size low, full, aligned) refl

flag_bytes : (flags : Flags) → flags.bits < 256 → IsBytes (flags.bits ∷ [])
flag_bytes flags fits zero = fits
flag_bytes flags fits (suc at) = omega arith

data_denoted : (fields : DataFrame) → IsSending (sendings.Data fields) → Denotes (sendings.Data fields)
unfolding unknown_at given sending_in place_fields
data_denoted fields sound =
    let place = sound.1.0 in
    denotes (sendings.Data fields) refl
    (rw (
      integer_back fields.place.session_id place.session_id,
      integer_back fields.place.stream_id place.stream_id,
      integer_back fields.place.term_id place.term_id,
      offset_back fields.place.term_offset place.offset_fits place.offset_aligned,
      decode_of-encode_lower (fields.flags.bits ∷ []) (flag_bytes fields.flags sound.0),
      decode_of-encode_lower fields.payload sound.2,
      bytes_within longest_payload keys.Payload fields.payload (omega (arith, sound.1.1)),
    ) refl)

pad_denoted : (fields : Pad) → IsSending (sendings.Pad fields) → Denotes (sendings.Pad fields)
unfolding unknown_at given sending_in place_fields
pad_denoted fields sound =
    let place = sound.1.0 in
    denotes (sendings.Pad fields) refl
    (rw (
      integer_back fields.place.session_id place.session_id,
      integer_back fields.place.stream_id place.stream_id,
      integer_back fields.place.term_id place.term_id,
      offset_back fields.place.term_offset place.offset_fits place.offset_aligned,
      decode_of-encode_lower (fields.flags.bits ∷ []) (flag_bytes fields.flags sound.0),
      covered_back fields.size sound.1.1 sound.1.2 sound.1.3,
    ) refl)

beat_denoted : (fields : Beat) → IsSending (sendings.Heartbeat fields) → Denotes (sendings.Heartbeat fields)
unfolding unknown_at given sending_in place_fields
beat_denoted fields sound =
    let place = sound.1 in
    denotes (sendings.Heartbeat fields) refl
    (rw (
      integer_back fields.place.session_id place.session_id,
      integer_back fields.place.stream_id place.stream_id,
      integer_back fields.place.term_id place.term_id,
      offset_back fields.place.term_offset place.offset_fits place.offset_aligned,
      decode_of-encode_lower (fields.flags.bits ∷ []) (flag_bytes fields.flags sound.0),
    ) refl)

nak_denoted : (nak : Nak) → IsSending (sendings.Nak nak) → Denotes (sendings.Nak nak)
unfolding unknown_at given sending_in place_fields
nak_denoted nak sound =
    denotes (sendings.Nak nak) refl
    (rw (
      integer_back nak.session_id sound.session_id,
      integer_back nak.stream_id sound.stream_id,
      integer_back nak.term_id sound.term_id,
      offset_back nak.term_offset sound.offset_fits sound.offset_aligned,
      integer_back nak.length sound.size,
    )
    (ap (λ (bits : ℕ). Ok (sendings.Nak (record {
      flags = record { bits = bits };
      session_id = nak.session_id;
      stream_id = nak.stream_id;
      term_id = nak.term_id;
      term_offset = nak.term_offset;
      length = nak.length;
    }))) (sym sound.no_flags)))

status_denoted : (message : StatusMessage) → IsSending (sendings.StatusMessage message) → Denotes (sendings.StatusMessage message)
unfolding unknown_at given sending_in place_fields
status_denoted message sound =
    denotes (sendings.StatusMessage message) refl
    (rw (
      integer_back message.session_id sound.session_id,
      integer_back message.stream_id sound.stream_id,
      integer_back message.consumption_term_id sound.term_id,
      natural_back message.consumption_term_offset sound.offset_fits,
      natural_back message.receiver_window sound.window_fits,
      number_back message.receiver_id sound.receiver_fits,
    )
    (ap (λ (bits : ℕ). Ok (sendings.StatusMessage (record {
      flags = record { bits = bits };
      session_id = message.session_id;
      stream_id = message.stream_id;
      consumption_term_id = message.consumption_term_id;
      consumption_term_offset = message.consumption_term_offset;
      receiver_window = message.receiver_window;
      receiver_id = message.receiver_id;
    }))) (sym sound.no_flags)))

abbrev with_rest : ℕ → ℤ → Setup → Result Sending WordFault
with_rest bits ttl setup =
    Ok (sendings.Setup (record {
      flags = record { bits = bits };
      term_offset = setup.term_offset;
      session_id = setup.session_id;
      stream_id = setup.stream_id;
      initial_term_id = setup.initial_term_id;
      active_term_id = setup.active_term_id;
      term_length = setup.term_length;
      mtu = setup.mtu;
      ttl = ttl;
    }))

setup_denoted : (setup : Setup) → IsSending (sendings.Setup setup) → Denotes (sendings.Setup setup)
unfolding unknown_at given sending_in place_fields
setup_denoted setup sound =
    denotes (sendings.Setup setup) refl
    (rw (
      integer_back setup.session_id sound.session_id,
      integer_back setup.stream_id sound.stream_id,
      integer_back setup.active_term_id sound.active_term_id,
      offset_back setup.term_offset sound.offset_fits sound.offset_aligned,
      integer_back setup.initial_term_id sound.initial_term_id,
      integer_back setup.term_length sound.term_length,
      integer_back setup.mtu sound.mtu,
    )
    (ap (λ (bits : ℕ). with_rest bits (pos 0) setup) (sym sound.no_flags) ∙ ap (λ (ttl : ℤ). with_rest setup.flags.bits ttl setup) (sym sound.no_ttl)))

pub sending_back : (sending : Sending) → IsSending sending → Denotes sending
sending_back (sendings.Data fields) sound = data_denoted fields sound
sending_back (sendings.Pad fields) sound = pad_denoted fields sound
sending_back (sendings.Heartbeat fields) sound = beat_denoted fields sound
sending_back (sendings.Nak fields) sound = nak_denoted fields sound
sending_back (sendings.StatusMessage fields) sound = status_denoted fields sound
sending_back (sendings.Setup fields) sound = setup_denoted fields sound
