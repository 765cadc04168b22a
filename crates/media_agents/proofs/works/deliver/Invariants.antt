use Rattle.std.proofs.Common.{take}
use Rattle.media_agents.specs.Mails.{PostsEach}
use Rattle.media_agents.proofs.works.deliver.Given as goal

abbrev pub invariant-loop-message : goal.invariant-loop-message
invariant-loop-message g l = PostsEach l.receipt (take l.message-index l.replies) l.fn.rings l.rings
