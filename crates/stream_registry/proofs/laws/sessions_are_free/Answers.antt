use Rattle.stream_registry.proofs.SessionLemmas.{all_free}
use Rattle.stream_registry.proofs.laws.sessions_are_free.Goals as goal

pub returns : goal.returns
returns c = all_free
