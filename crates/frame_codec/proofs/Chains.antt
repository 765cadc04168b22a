-- Steps of reading that did not fail.
use Rattle.std.proofs.Common.{◌≡◌, Bool, true, false, not, cond, Result, Ok, Err, refl}
use Rattle.frame_codec.specs.declared.fault.BadPacket.{BadPacket}
use Rattle.frame_codec.specs.Steps.{◌>>=◌}

-- a step that did not fail, with what it gave and what came after it
pub data Steps {A B : Type 0} (r : Result A BadPacket) (f : A → Result B BadPacket) (y : B) : Type 0 where
  step : (x : A) → r ≡ Ok x → f x ≡ Ok y → Steps r f y

pub bind_ok : {A B : Type 0} (r : Result A BadPacket) (f : A → Result B BadPacket) (y : B) → (r >>= f) ≡ Ok y → Steps r f y
bind_ok (Ok x) f y e = step x refl e
bind_ok (Err d) f y e = absurd cc

pub guard_ok : {A : Type 0} (b : Bool) (d : BadPacket) (x : Result A BadPacket) (y : A) → cond b (Err d) x ≡ Ok y → (b ≡ false) × (x ≡ Ok y)
guard_ok true d x y e = absurd cc
guard_ok false d x y e = (refl, e)

pub wanted_ok : {A : Type 0} (b : Bool) (d : BadPacket) (x : Result A BadPacket) (y : A) → cond b x (Err d) ≡ Ok y → (b ≡ true) × (x ≡ Ok y)
wanted_ok true d x y e = (refl, e)
wanted_ok false d x y e = absurd cc

abbrev pub done : {A : Type 0} → A → Result A BadPacket
done x = Ok x

pub ok_is : {A : Type 0} (x y : A) → done x ≡ done y → x ≡ y
ok_is x y e = cc

pub not_false : (b : Bool) → not b ≡ false → b ≡ true
not_false true e = refl
not_false false e = absurd cc
