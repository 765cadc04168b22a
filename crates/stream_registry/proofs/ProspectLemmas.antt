-- What a policy ever allows of a subscription.
use Rattle.std.proofs.Common.{◌≡◌, ℕ, Bool, true, false, ◌||◌, List, [], ◌∷◌, Option, Some, None, refl, ap, ap₂, sym, ◌∙◌}
use Rattle.std.specs.List.{list_any}
use Rattle.client_registry.specs.declared.client.Client.{Client}
use Rattle.client_registry.specs.Clients.{principal_at}
use Rattle.policy_core.specs.Moments.{at, coming, ever, is_allowed_by_any}
use Rattle.policy_core.specs.Question.{Question}
use Rattle.policy_core.specs.RuleList.{Rules}
use Rattle.policy_core.specs.Rules.{verdict_at, verdict_of}
use Rattle.stream_registry.specs.Pairs.{image_question, is_allowed, is_allowed_to, is_ever_allowed}
use Rattle.stream_registry.specs.declared.row.Subscription.{Subscription}

word_same : (policy : Rules) (epoch : ℕ) (found : Option ℕ) → (verdict_at policy epoch found).allow ≡ (verdict_at policy 0 found).allow
word_same policy epoch None = refl
word_same policy epoch (Some index) = refl

-- whatever number a policy goes by, it allows the same
pub number_same : (policy : Rules) (epoch : ℕ) (question : Question) → (verdict_of policy epoch question).allow ≡ (verdict_of policy 0 question).allow
unfolding verdict_of
number_same policy epoch question = word_same policy epoch _

allowed_is : (clients : List Client) (policy : Rules) (epoch : ℕ) (subscription : Subscription) (principal : ℕ) → principal_at clients subscription.client ≡ Some principal
    → is_allowed clients policy epoch subscription ≡ (verdict_of policy 0 (image_question principal subscription)).allow
unfolding is_allowed
allowed_is clients policy epoch subscription principal there =
    ap (is_allowed_to policy epoch subscription) there ∙ number_same policy epoch (image_question principal subscription)

any_is : (clients : List Client) (later : List Rules) (epoch : ℕ) (subscription : Subscription) (principal : ℕ) → principal_at clients subscription.client ≡ Some principal
    → list_any (λ policy. is_allowed clients policy epoch subscription) later ≡ is_allowed_by_any (image_question principal subscription) later
any_is clients [] epoch subscription principal there = refl
any_is clients (policy ∷ later) epoch subscription principal there =
    ap₂ (λ (a b : Bool). a || b) (allowed_is clients policy epoch subscription principal there) (any_is clients later epoch subscription principal there)

pub ever_is : (clients : List Client) (policy : Rules) (moment epoch : ℕ) (subscription : Subscription) (principal : ℕ) → principal_at clients subscription.client ≡ Some principal
    → ever policy moment (image_question principal subscription) ≡ is_ever_allowed clients (at policy moment) (coming policy moment) epoch subscription
unfolding is_ever_allowed ever
ever_is clients policy moment epoch subscription principal there =
    sym (ap₂ (λ (a b : Bool). a || b) (allowed_is clients (at policy moment) epoch subscription principal there) (any_is clients (coming policy moment) epoch subscription principal there))

nobody : (clients : List Client) (policy : Rules) (epoch : ℕ) (subscription : Subscription) → principal_at clients subscription.client ≡ None
    → is_allowed clients policy epoch subscription ≡ false
unfolding is_allowed
nobody clients policy epoch subscription gone = ap (is_allowed_to policy epoch subscription) gone

nobody_ever : (clients : List Client) (later : List Rules) (epoch : ℕ) (subscription : Subscription) → principal_at clients subscription.client ≡ None
    → list_any (λ policy. is_allowed clients policy epoch subscription) later ≡ false
nobody_ever clients [] epoch subscription gone = refl
nobody_ever clients (policy ∷ later) epoch subscription gone =
    ap₂ (λ (a b : Bool). a || b) (nobody clients policy epoch subscription gone) (nobody_ever clients later epoch subscription gone)

pub never_is : (clients : List Client) (policy : Rules) (moment epoch : ℕ) (subscription : Subscription) → principal_at clients subscription.client ≡ None
    → false ≡ is_ever_allowed clients (at policy moment) (coming policy moment) epoch subscription
unfolding is_ever_allowed
never_is clients policy moment epoch subscription gone =
    sym (ap₂ (λ (a b : Bool). a || b) (nobody clients (at policy moment) epoch subscription gone) (nobody_ever clients (coming policy moment) epoch subscription gone))
