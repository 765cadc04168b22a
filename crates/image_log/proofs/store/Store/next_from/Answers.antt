use Rattle.std.proofs.Common.{ℕ, ◌<◌, length, ap, ◌∙◌, arith}
use Rattle.image_log.specs.Order.{rank}
use Rattle.image_log.specs.Stored.{Stored, frame_at}
use Rattle.image_log.proofs.Found.{counted, next-here, next-none}
use Rattle.image_log.proofs.store.Store.next_from.Goals as goal

pub returns-then-at-len : goal.returns-then-at-len
returns-then-at-len c =
    let n = counted _ _ _ _ (ap (λ (s : Stored). s.frames) c.self.view_is) in
    let here : rank c.args.position c.args.self.now.frames < length c.args.self.now.frames = omega (arith, n, c.len.ensures, c.rank-at.ensures, c.if-at-len.true, c.self.inside.places.ok) in
    c.start_of.ensures ∙ ap (λ (k : ℕ). (frame_at c.args.self.now.frames k).position) c.rank-at.ensures ∙ next-here c.args.none c.args.position c.args.self.now.frames here

pub returns-else-at-len : goal.returns-else-at-len
returns-else-at-len c =
    let n = counted _ _ _ _ (ap (λ (s : Stored). s.frames) c.self.view_is) in
    next-none c.args.none c.args.position c.args.self.now.frames (omega (arith, n, c.len.ensures, c.rank-at.ensures, c.if-at-len.false, c.self.inside.places.ok))
