use Rattle.decision_cache.proofs.Sound.{sound_none, sound_grown, sound_at}
use Rattle.decision_cache.proofs.laws.cached_verdicts_stay_sound.Goals as goal

pub returns-clause-empty : goal.returns-clause-empty
returns-clause-empty c = sound_none

pub returns-clause-grown : goal.returns-clause-grown
returns-clause-grown c = sound_grown

pub returns-clause-at : goal.returns-clause-at
returns-clause-at c = sound_at
