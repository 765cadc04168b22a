use Rattle.std.proofs.Common.{Option, ap, subst, sym, ◌∙◌}
use Rattle.std.specs.Option.{option_copied}
use Rattle.log_steps.proofs.ReaderLemmas.{readers_are_few}
use Rattle.log_slots.specs.Opening.{room_of}
use Rattle.media_agents.specs.Acts.{GoesOn}
use Rattle.media_agents.specs.Following.{OpensSource}
use Rattle.media_agents.proofs.following.open.Goals as goal
use Rattle.stream_registry.specs.declared.row.LogRow.{LogRow}

pub open_row-requires-clause-few : goal.open_row-requires-clause-few
open_row-requires-clause-few g c = readers_are_few c.args.registry.now c.requires c.in-Some.row.now.number

pub returns-in-Some : goal.returns-in-Some
returns-in-Some g c =
    let did = g.L.Logs.did in
    subst (λ (o : Option LogRow). GoesOn (OpensSource g.N.Naming.home c.args.registry.now (room_of c.args.memory) o c.args.region.now c.open_row.new.region) (did c.args.logs.now) (did c.open_row.new.logs))
    (sym (ap option_copied c.in-Some.is) ∙ c.row_of.ensures.row) c.open_row.ensures
