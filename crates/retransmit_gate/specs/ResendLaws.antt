-- What holds of all NAKs that come to a gate, whichever they are, in whatever order and at whatever moments.
use Rattle.std.specs.Prelude.{◌≡◌, ◌↔◌, ℕ, ◌+◌, ◌<◌, ◌≤◌, ℤ, pos, Bool, ◌&&◌, nat_le, List, [], ◌∷◌, length, filter, unsigned_abs, All, AllPairs, Contains}
use Rattle.std.specs.declared.ops.Range.{Range}
use Rattle.retransmit_gate.specs.declared.answer.Answer.{Answer}
use Rattle.retransmit_gate.specs.declared.answer.Answer.TheVariants.{Resend}
use Rattle.retransmit_gate.specs.declared.resent.Resent.{Resent}
use Rattle.retransmit_gate.specs.Gate.{Resends, opened, answer_of, after_nak}
use Rattle.retransmit_gate.specs.Moment.{later_of}

-- a NAK that came: when, the position and the length of its range, and the positions that might be sent again then
pub record Asking : Type 0 where
  pub now : ℕ
  pub position : ℕ
  pub size : ℤ
  pub window : Range ℕ

-- the answer to a NAK, and all that was sent again after it
abbrev pub answer_to : Resends → Asking → Answer
answer_to resends nak = answer_of resends nak.now nak.position nak.size nak.window

abbrev pub after_asking : Resends → Asking → Resends
after_asking resends nak = after_nak resends nak.now nak.position nak.size nak.window

-- all that was sent again after these NAKs
abbrev pub after_naks : Resends → List Asking → Resends
after_naks resends [] = resends
after_naks resends (nak ∷ naks) = after_naks (after_asking resends nak) naks

-- of a log of which nothing was sent again before
abbrev pub resends_of : ℕ → List Asking → Resends
resends_of linger naks = after_naks (opened linger) naks

-- a range has a position in common with one that was sent again
pub record Shares (start end : ℕ) (resent : Resent) : Type 0 where
  pub position : ℕ
  pub low : start ≤ position
  pub high : position < end
  pub resent_low : resent.start ≤ position
  pub resent_high : position < resent.end

-- a range was sent again at the moment or before it, and the linger since then is not past
abbrev pub lingers_at : ℕ → ℕ → Resent → Bool
lingers_at linger moment resent = nat_le resent.moment moment && nat_le moment (resent.moment + linger)

-- ---- the answer to one NAK

-- The range has a position, and lies within the window; each range that was sent again and shares a position with it was
-- so longer ago than the linger; and fewer than 16 ranges linger.
pub record IsGranted (resends : Resends) (nak : Asking) : Type 0 where
  pub count : ℕ
  pub size : nak.size ≡ pos count
  pub some : 0 < count
  pub low : nak.window.start ≤ nak.position
  pub high : nak.position + count ≤ nak.window.end
  pub apart : All (λ resent. Shares nak.position (nak.position + count) resent →
      resent.moment + resends.linger < later_of resends.latest nak.now) resends.list
  pub room : length (filter (λ resent. nat_le (later_of resends.latest nak.now) (resent.moment + resends.linger)) resends.list) < 16

-- exactly then it is sent again, whatever NAKs came before
abbrev pub ResendsExactly : Type 0
ResendsExactly =
    (linger : ℕ) (naks : List Asking) (nak : Asking) →
    answer_to (resends_of linger naks) nak ≡ Resend ↔ IsGranted (resends_of linger naks) nak

-- ---- all that is sent again

-- two ranges that share a position are sent again more than a linger apart
abbrev pub ResendsAreApart : Type 0
ResendsAreApart =
    (linger : ℕ) (naks : List Asking) →
    AllPairs (λ earlier later. Shares later.start later.end earlier → earlier.moment + linger < later.moment) (resends_of linger naks).list

-- at no moment do more than 16 ranges linger
abbrev pub ResendsAreFew : Type 0
ResendsAreFew =
    (linger moment : ℕ) (naks : List Asking) → length (filter (lingers_at linger moment) (resends_of linger naks).list) ≤ 16

-- a range that was sent again is that of a NAK, has a position, and lies within the window that the NAK came with
pub record IsOfNak (naks : List Asking) (resent : Resent) : Type 0 where
  pub nak : Asking
  pub among : Contains naks nak
  pub start : resent.start ≡ nak.position
  pub end : resent.end ≡ nak.position + unsigned_abs nak.size
  pub some : resent.start < resent.end
  pub low : nak.window.start ≤ resent.start
  pub high : resent.end ≤ nak.window.end

abbrev pub ResendsWereAsked : Type 0
ResendsWereAsked = (linger : ℕ) (naks : List Asking) → All (IsOfNak naks) (resends_of linger naks).list
