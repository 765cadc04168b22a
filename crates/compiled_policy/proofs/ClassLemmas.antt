-- The class and the group of a rule that matches.
use Rattle.std.proofs.Common.{◌≡◌, ℕ, ◌+◌, ◌*◌, ◌/◌, ◌%◌, ◌<◌, true, refl, sym, ap, ◌∙◌, arith}
use Rattle.std.proofs.lemmas.Bool.{and_parts, eq-eqb, eqb-true}
use Rattle.std.specs.Prelude.{int_le}
use Rattle.channel_uri.specs.Channel.{Shape}
use Rattle.channel_uri.specs.Media.{media_number}
use Rattle.channel_uri.specs.Pattern.{covers}
use Rattle.channel_uri.specs.declared.media.Media.{Media}
use Rattle.channel_uri.specs.declared.media.Media.TheVariants.{Udp, Ipc, Counter as Counted}
use Rattle.channel_uri.specs.declared.pattern.Pattern.{Pattern}
use Rattle.channel_uri.specs.declared.pattern.Pattern.TheVariants.{Any as AnyChannel, Of}
use Rattle.policy_core.specs.Act.{act_number}
use Rattle.policy_core.specs.Acts.{holds}
use Rattle.policy_core.specs.Question.{Question}
use Rattle.policy_core.specs.Rule.{matches, speaks_of}
use Rattle.policy_core.specs.declared.act.Act.{Act}
use Rattle.policy_core.specs.declared.act.Act.TheVariants.{Publish, PublishExclusive, Subscribe, Spy, Destination, Counter, Terminate, Offer, Image, Receive, Send, Retransmit, Join, List as ListOf}
use Rattle.policy_core.specs.declared.rule.Principals.{Principals}
use Rattle.policy_core.specs.declared.rule.Principals.TheVariants.{Any, One}
use Rattle.policy_core.specs.declared.rule.Rule.{Rule}
use Rattle.compiled_policy.specs.Class.{act_of, class_of, is_in, is_over}
use Rattle.compiled_policy.specs.Group.{group_of, include, is_of}

-- what a rule that matches speaks of
pub record Speaks (rule : Rule) (question : Question) : Type 0 where
  pub principal : speaks_of rule.principals question.principal ≡ true
  pub act : holds rule.acts question.act ≡ true
  pub channel : covers rule.channel question.channel ≡ true
  pub low : int_le rule.low question.stream ≡ true
  pub high : int_le question.stream rule.high ≡ true

pub match_speaks : (rule : Rule) (question : Question) → matches rule question ≡ true → Speaks rule question
unfolding matches
match_speaks rule question h =
    let a = and_parts _ _ h in
    let b = and_parts _ _ a.0 in
    let c = and_parts _ _ b.0 in
    let d = and_parts _ _ c.0 in
    record { principal = d.0; act = d.1; channel = c.1; low = b.1; high = a.1 }

-- a rule over this medium, if its pattern covers the channel
covers_over : (pattern : Pattern) (channel : Shape) → covers pattern channel ≡ true → is_over pattern (media_number channel.media) ≡ true
unfolding covers
covers_over AnyChannel channel h = refl
covers_over (Of media wanted) channel h = (and_parts _ _ h).0

media_small : (media : Media) → media_number media < 3
media_small Udp = omega arith
media_small Ipc = omega arith
media_small Counted = omega arith

class_act : (act media : ℕ) → media < 3 → (3 * act + media) / 3 ≡ act
class_act act media small = omega arith

class_media : (act media : ℕ) → media < 3 → (3 * act + media) % 3 ≡ media
class_media act media small = omega arith

act_of_number : (act : Act) → act_of (3 * act_number act) ≡ act
act_of_number Publish = refl
act_of_number PublishExclusive = refl
act_of_number Subscribe = refl
act_of_number Spy = refl
act_of_number Destination = refl
act_of_number Counter = refl
act_of_number Terminate = refl
act_of_number Offer = refl
act_of_number Image = refl
act_of_number Receive = refl
act_of_number Send = refl
act_of_number Retransmit = refl
act_of_number Join = refl
act_of_number ListOf = refl

act_of_class : (question : Question) → act_of (class_of question) ≡ question.act
act_of_class question =
    let small = media_small question.channel.media in
    let whole : (3 * act_number question.act) / 3 ≡ act_number question.act = omega arith in
    let back = act_of_number question.act in
    let moved = rw whole at back in
    rw (class_act (act_number question.act) (media_number question.channel.media) small) moved

-- a rule that matches is in the class of the question
pub match_is_in : (rule : Rule) (question : Question) → matches rule question ≡ true → is_in (class_of question) rule ≡ true
match_is_in rule question h =
    let small = media_small question.channel.media in
    let speaks = match_speaks rule question h in
    let over = covers_over rule.channel question.channel speaks.channel in
    let held : holds rule.acts (act_of (class_of question)) ≡ true = ap (λ (act : Act). holds rule.acts act) (act_of_class question) ∙ speaks.act in
    rw (held, class_media (act_number question.act) (media_number question.channel.media) small) over

group_within : (principals : Principals) (principal : ℕ) → speaks_of principals principal ≡ true → include (group_of principal) principals ≡ true
group_within Any principal h = refl
group_within (One one) principal h = eq-eqb (group_of principal) (group_of one) (ap group_of (sym (eqb-true one principal h)))

-- a rule that matches is of the asker's group
pub match_is_of : (rule : Rule) (question : Question) → matches rule question ≡ true → is_of (group_of question.principal) rule ≡ true
match_is_of rule question h = group_within rule.principals question.principal (match_speaks rule question h).principal
