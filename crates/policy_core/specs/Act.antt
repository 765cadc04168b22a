-- The acts that a policy speaks of, with their words.
use Rattle.std.specs.Prelude.{ℕ, List, [], ◌∷◌, Option, codes, find}
use Rattle.std.specs.Str.{bytes_eq}
use Rattle.policy_core.specs.declared.act.Act.{Act}
use Rattle.policy_core.specs.declared.act.Act.TheVariants.{Publish, PublishExclusive, Subscribe, Spy, Destination, Counter, Terminate, Offer, Image, Receive, Send, Retransmit, Join, List as ListOf}

-- the word that stands for an act in a policy's text
abbrev pub name_of : Act → List ℕ
name_of Publish = codes "publish"
name_of PublishExclusive = codes "publish-exclusive"
name_of Subscribe = codes "subscribe"
name_of Spy = codes "spy"
name_of Destination = codes "destination"
name_of Counter = codes "counter"
name_of Terminate = codes "terminate"
name_of Offer = codes "offer"
name_of Image = codes "image"
name_of Receive = codes "receive"
name_of Send = codes "send"
name_of Retransmit = codes "retransmit"
name_of Join = codes "join"
name_of ListOf = codes "list"

-- acts differ by number
abbrev pub act_number : Act → ℕ
act_number Publish = 0
act_number PublishExclusive = 1
act_number Subscribe = 2
act_number Spy = 3
act_number Destination = 4
act_number Counter = 5
act_number Terminate = 6
act_number Offer = 7
act_number Image = 8
act_number Receive = 9
act_number Send = 10
act_number Retransmit = 11
act_number Join = 12
act_number ListOf = 13

-- every act, by number
abbrev pub every_act : List Act
every_act =
    Publish ∷ PublishExclusive ∷ Subscribe ∷ Spy ∷ Destination ∷ Counter ∷ Terminate ∷ Offer ∷ Image ∷ Receive ∷ Send
    ∷ Retransmit ∷ Join ∷ ListOf ∷ []

-- the act of that name
unfoldable pub act_named : List ℕ → Option Act
act_named name = find (λ act. bytes_eq (name_of act) name) every_act
