use Rattle.std.proofs.Common.{◌≡◌, ℕ, subst}
use Rattle.std.specs.List.{All}
use Rattle.image_log.specs.Stored.{Stored}
use Rattle.image_log.proofs.Beside.{store_zeros}
use Rattle.image_log.proofs.store.Store.is_blank.Goals as goal

pub returns : goal.returns
returns c =
    subst (λ (s : Stored). All (λ (byte : ℕ). byte ≡ 0) s.beside) c.self.view_is
    (store_zeros c.self.inside.lease c.self.inside.low _ c.self.inside.places.items c.self.invariant.0)
