use Rattle.media_agents.proofs.PostingLemmas.{posts_next}
use Rattle.media_agents.proofs.works.deliver.Goals as goal

pub loop-message-preserved : goal.loop-message-preserved
loop-message-preserved g c =
    posts_next c.args.receipt.now c.args.replies.now c.loop-message.message-index _ c.args.rings.now c.loop-message.rings c.post.new.self
    c.loop-message-test.true c.loop-message.invariant c.post.ensures
