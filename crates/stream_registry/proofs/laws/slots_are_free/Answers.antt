use Rattle.stream_registry.proofs.SlotLemmas.{all_slots_free}
use Rattle.stream_registry.proofs.laws.slots_are_free.Goals as goal

pub returns : goal.returns
returns c = all_slots_free
