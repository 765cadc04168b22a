-- The replies of an entry go out, one after another.
use Rattle.std.proofs.Common.{◌<◌, ◌+◌, ℕ, List, [], ◌∷◌, ◌++◌, get_or, length, take, refl, subst, sym}
use Rattle.std.proofs.lemmas.List.{take_more}
use Rattle.driver_core.specs.declared.state.replies.Message.{Message}
use Rattle.media_agents.specs.declared.mail.ClientReply.TheVariants.{Of}
use Rattle.media_agents.specs.Mails.{PostsEach, PostsTo, RingState}
use Rattle.published_registry.specs.Histories.{Known}

posts_one : (receipt : Known) (messages : List Message) (message : Message) (old mid new : List RingState) → PostsEach receipt messages old mid →
    PostsTo receipt message.client (Of message.reply) mid new → PostsEach receipt (messages ++ message ∷ []) old new
posts_one receipt [] message old mid new is posts =
    (new, subst (λ (rings : List RingState). PostsTo receipt message.client (Of message.reply) rings new) is posts, refl)
posts_one receipt (first ∷ rest) message old mid new (next, so, later) posts =
    (next, so, posts_one receipt rest message next mid new later posts)

-- one more goes out
pub posts_next : (receipt : Known) (messages : List Message) (at : ℕ) (d : Message) (old mid new : List RingState) → at < length messages →
    PostsEach receipt (take at messages) old mid → PostsTo receipt (get_or messages at d).client (Of (get_or messages at d).reply) mid new →
    PostsEach receipt (take (at + 1) messages) old new
posts_next receipt messages at d old mid new within before posts =
    subst (λ (those : List Message). PostsEach receipt those old new) (sym (take_more messages at d within))
    (posts_one receipt (take at messages) (get_or messages at d) old mid new before posts)
