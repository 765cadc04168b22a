-- What holds of a result where it is right, and where it is an error.
use Rattle.std.proofs.Common.{not, Result, Ok, Err, IfOk, OnErr}

-- ---- the first of a source moves

-- an answer that comes, and that it did not come
pub ok_each : {A E : Type 0} (P Q : A → Type 0) → ((a : A) → P a → Q a) → (r : Result A E) → IfOk r P → IfOk r Q
ok_each P Q each (Ok a) is = each a is
ok_each P Q each (Err e) is = tt

pub err_each : {A E : Type 0} (P Q : Type 0) → (P → Q) → (r : Result A E) → OnErr r P → OnErr r Q
err_each P Q each (Ok a) is = tt
err_each P Q each (Err e) is = each is

-- what holds anyhow holds where it did not come
pub err_given : {A E : Type 0} (P : Type 0) → P → (r : Result A E) → OnErr r P
err_given P is (Ok a) = tt
err_given P is (Err e) = is
