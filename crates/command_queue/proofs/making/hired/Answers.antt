use Rattle.std.proofs.Common.{◌≡◌, ◌<◌, ap, arith}
use Rattle.command_queue.specs.Views.{taking}
use Rattle.command_queue.specs.declared.rule.View.{View}
use Rattle.command_queue.proofs.Moves.{hires}
use Rattle.command_queue.proofs.making.hired.Goals as goal

pub another-pass-requires-clause-rule : goal.another-pass-requires-clause-rule
another-pass-requires-clause-rule g c =
    let knows : View g.row.E.Denot = c.args.pass.now.me.0.client in
    let role : knows ≡ taking knows.total c.args.number = c.requires.role in
    let made : knows.made ≡ c.args.number = ap (λ (view : View g.row.E.Denot). view.made) role in
    let few : c.args.number < knows.total = c.requires.few in
    let room : knows.made < knows.total = omega (arith, made, few) in
    hires _ knows (ap (λ (view : View g.row.E.Denot). view.takes) role) (ap (λ (view : View g.row.E.Denot). view.sends) role) room
