use Rattle.std.proofs.Common.{◌++◌, length, ap, List, arith, length-append, slice_index_or}
use Rattle.command_queue.specs.declared.letter.Letter.{Letter}
use Rattle.command_queue.proofs.Lists.{of_lone}
use Rattle.command_queue.proofs.laws.a_lone_sender_fills_the_queue.Goals as goal

pub returns : goal.returns
returns g c = λ sent facts full.
    let letters = full.0 in
    let were = full.2 in
    let all = of_lone (were.gone ++ letters) were.all in
    let own = ap (λ (l : List g.row.E.Denot). length l) were.own in
    let both = length-append were.gone letters in
    let many = full.1 in (
      omega (arith, all, own, both, many),
      λ k d lt.
          let begins = were.fits.taken k d lt in
          let some : List (Letter g.row.E.Denot) = slice_index_or facts.taken k d in
          let size = ap (λ (l : List (Letter g.row.E.Denot)). length l) begins.1 in
          let parts = length-append some begins.0 in
          omega (arith, all, own, both, many, size, parts),
    )
