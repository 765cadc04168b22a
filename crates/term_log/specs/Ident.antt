-- What a log is made for (Aeron Transport Protocol Specification, terms and positions).
use Rattle.std.specs.Prelude.{◌≡◌, ℕ, ℤ, ◌-◌, ◌*◌, ◌%◌, ◌<◌, ◌≤◌, ◌^◌, Bool, true, false, refl}
use Rattle.std.proofs.Common.{ap}
use Rattle.std.specs.Coded.{Coded, code_by, coded×, coded_ℕ, coded_ℤ, coded_bool}
use Rattle.frame_codec.specs.declared.header.TermPlace.{TermPlace}
use Rattle.frame_codec.specs.Position.{term_id_of}
use Rattle.term_log.specs.declared.ident.LogKind.{LogKind}
use Rattle.term_log.specs.declared.ident.LogKind.TheVariants.{Ipc, Udp}
use Rattle.term_log.specs.declared.ident.Ident.{Ident}

-- The sizes are sound. (That a term's length is a power of two is not needed here.)
pub record IsIdent (i : Ident) : Type 0 where
  pub term_low : 65536 ≤ i.term_length
  pub term_high : i.term_length ≤ 16777216
  pub term_aligned : i.term_length % 32 ≡ 0
  pub mtu_low : 64 ≤ i.mtu
  pub mtu_high : i.mtu ≤ 65504
  pub mtu_aligned : i.mtu % 32 ≡ 0
  pub start_aligned : i.start % 32 ≡ 0
  pub start_below : i.start < i.term_length * 2 ^ 31

-- no frame ends past this position
abbrev pub greatest_position : Ident → ℕ
greatest_position i = i.term_length * 2 ^ 31

-- how many bytes of a message a frame carries at most
abbrev pub payload_length : Ident → ℕ
payload_length i = i.mtu - 32

-- where a frame at a position stands
abbrev pub place_at : Ident → ℕ → TermPlace
place_at i position = record {
  session_id = i.session;
  stream_id = i.stream;
  term_id = term_id_of i.initial_term position i.term_length;
  term_offset = position % i.term_length;
}

abbrev pub is_udp : LogKind → Bool
is_udp Ipc = false
is_udp Udp = true

abbrev pub kind_of : Bool → LogKind
kind_of false = Ipc
kind_of true = Udp

abbrev pub kind_back : (k : LogKind) → kind_of (is_udp k) ≡ k
kind_back Ipc = refl
kind_back Udp = refl

-- stored as the tuple of its fields
abbrev pub ident_code : Coded Ident
ident_code =
    code_by (Bool × (ℤ × (ℤ × (ℤ × (ℕ × (ℕ × ℕ)))))) (coded× coded_bool (coded× coded_ℤ (coded× coded_ℤ (coded× coded_ℤ (coded× coded_ℕ (coded× coded_ℕ coded_ℕ))))))
    (λ i. (is_udp i.kind, (i.session, (i.stream, (i.initial_term, (i.term_length, (i.mtu, i.start)))))))
    (λ p. record { kind = kind_of p.0; session = p.1.0; stream = p.1.1.0; initial_term = p.1.1.1.0; term_length = p.1.1.1.1.0; mtu = p.1.1.1.1.1.0; start = p.1.1.1.1.1.1 })
    (λ i. ap (λ (k : LogKind). let j : Ident = record i { kind = k } in j) (kind_back i.kind))
