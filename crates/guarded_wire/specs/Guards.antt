-- What a guard says of a datagram. Own rules.
use Rattle.std.specs.Prelude.{◌≡◌, ◌<◌, ◌⊎◌, ℕ, Bool, true, false, if◌then◌else◌, List, length, Option, Some, None, slice_index_or, slice_set}
use Rattle.channel_uri.specs.declared.address.Address.{Address}
use Rattle.guarded_wire.specs.Kinds.{asks_too_much, is_ask, kind_of}
use Rattle.guarded_wire.specs.Origins.{place_of}
use Rattle.guarded_wire.specs.Spending.{begun, may_ask, once_more}
use Rattle.guarded_wire.specs.declared.cause.Cause.{Cause}
use Rattle.guarded_wire.specs.declared.cause.Cause.TheVariants.{Stranger, TooMuch, TooOften}
use Rattle.guarded_wire.specs.declared.origin.Origin.{Origin}
use Rattle.guarded_wire.specs.declared.spent.Spent.{Spent}

-- whether anything is dropped, from where datagrams may come, for how many bytes a NAK may ask, and how many NAKs and status
-- messages one place may send in the time
pub record Rules : Type 0 where
  pub drops : Bool
  pub origins : List Origin
  pub window : ℕ
  pub budget : ℕ

-- how much each place spent
pub record Watch : Type 0 where
  pub rules : Rules
  pub spent : List Spent

abbrev pub none_spent : Spent
none_spent = record { since = 0; asked = 0 }

abbrev pub spent_of : Watch → ℕ → Spent
spent_of watch place = slice_index_or watch.spent place none_spent

-- who is bound at a place asks for something, at some moment: they may, and it counts, or they asked as often as they may
pub record Spends (watch : Watch) (place : ℕ) (may : Bool) (next : Watch) : Type 0 where
  pub now : ℕ
  pub may_is : may ≡ may_ask watch.rules.budget (begun now (spent_of watch place))
  pub next_is : next ≡ record watch {
    spent = slice_set watch.spent place
        (if may then once_more (begun now (spent_of watch place)) else begun now (spent_of watch place));
  }

-- who sends from a bound address asks for no more than may be asked for at once
pub record Asks (watch : Watch) (from : Address) (bytes : List ℕ) (may : Bool) (next : Watch) : Type 0 where
  pub place : ℕ
  pub there : place_of from watch.rules.origins ≡ Some place
  pub within : place < length watch.spent
  pub asks : is_ask (kind_of bytes) ≡ true
  pub no_more : asks_too_much watch.rules.window (kind_of bytes) bytes ≡ false
  pub spends : Spends watch place may next

-- who sends from a bound address asks for nothing
pub record IsPlain (watch : Watch) (from : Address) (bytes : List ℕ) (next : Watch) : Type 0 where
  pub place : ℕ
  pub there : place_of from watch.rules.origins ≡ Some place
  pub plain : is_ask (kind_of bytes) ≡ false
  pub next_is : next ≡ watch

-- why a datagram is dropped, if it is, and what is spent then
abbrev pub Judged : Watch → Address → List ℕ → Option Cause → Watch → Type 0
Judged watch from bytes (Some (Stranger kind)) next =
    (watch.rules.drops ≡ true) × (place_of from watch.rules.origins ≡ None) × (kind ≡ kind_of bytes) × (next ≡ watch)
Judged watch from bytes (Some TooMuch) next =
    (watch.rules.drops ≡ true) × (asks_too_much watch.rules.window (kind_of bytes) bytes ≡ true) × (next ≡ watch)
Judged watch from bytes (Some (TooOften kind)) next =
    (watch.rules.drops ≡ true) × Asks watch from bytes false next × (kind ≡ kind_of bytes)
Judged watch from bytes None next =
    ((watch.rules.drops ≡ false) × (next ≡ watch)) ⊎ (IsPlain watch from bytes next ⊎ Asks watch from bytes true next)
