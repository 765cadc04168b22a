use Rattle.std.proofs.Common.{[], sym, ap, subst}
use Rattle.term_log.specs.Kept.{Kept, StandsFor}
use Rattle.term_log.specs.Log.{Log}
use Rattle.term_log.proofs.Standing.{fresh_stands}
use Rattle.term_log.proofs.Stands.{opened_stands}
use Rattle.term_log.proofs.term_log.TermLog.open.Goals as goal

pub returns-clause-stands : goal.returns-clause-stands
returns-clause-stands c =
    subst (λ (k : Kept). StandsFor k []) (sym c.new.ensures) (opened_stands c.args.lease c.args.ident c.requires.ident)

pub returns-clause-whole : goal.returns-clause-whole
returns-clause-whole c =
    let l : Log = record { kept = c.new.result; pairs = c.room.inside.pairs; sender = c.new-2.result } in
    fresh_stands l c.args.ident (ap (λ (k : Kept). k.ident) c.new.ensures) (returns-clause-stands c) c.room.invariant c.new-2.ensures
