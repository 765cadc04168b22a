use Rattle.served_clients.specs.Acts.{sitting}
use Rattle.served_clients.proofs.ActLemmas.{acts_as, acts_one}
use Rattle.served_clients.proofs.serving.serve.Goals as goal

pub returns-clause-acts : goal.returns-clause-acts
returns-clause-acts g c = acts_as _ c.args.connection.now.seat c.talk.new.connection.seat c.talk.ensures.acts (λ s. (sitting s.client s.kept.items, s.habits.keeper)) (λ a call b d. d)

pub returns-clause-one : goal.returns-clause-one
returns-clause-one g c = acts_one g.N.Naming.home g.K.Keeper.admits g.K.Keeper.hears _ _ (returns-clause-acts g c)
