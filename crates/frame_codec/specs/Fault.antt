-- Why a datagram is dropped. (The words, and the order in which faults are looked for, are this project's own.)
use Rattle.std.specs.Prelude.{ℕ, List, codes}
use Rattle.frame_codec.specs.declared.fault.BadPacket.{BadPacket}
use Rattle.frame_codec.specs.declared.fault.BadPacket.TheVariants.{TooShort, BadVersion, OtherType, BadLength, Unaligned, Mixed}

-- the word for a fault
abbrev pub fault_text : BadPacket → List ℕ
fault_text TooShort = codes "too-short"
fault_text BadVersion = codes "bad-version"
fault_text OtherType = codes "other-type"
fault_text BadLength = codes "bad-length"
fault_text Unaligned = codes "unaligned"
fault_text Mixed = codes "mixed"
