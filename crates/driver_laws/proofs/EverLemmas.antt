-- What a subscription is allowed at a moment or later it is allowed from an earlier moment on.
use Rattle.std.proofs.Common.{◌≡◌, ℕ, ◌≤◌, Bool, true, false, ◌||◌, List, [], ◌∷◌, Option, Some, None, refl, ap, ap₂, sym, ◌∙◌, arith}
use Rattle.std.specs.List.{list_any}
use Rattle.client_registry.specs.declared.client.Client.{Client}
use Rattle.client_registry.specs.Clients.{principal_at}
use Rattle.policy_core.specs.Moments.{at, coming, ever, is_allowed_by_any}
use Rattle.policy_core.specs.MomentLaws.{IsEverAllowed}
use Rattle.policy_core.specs.Question.{Question}
use Rattle.policy_core.specs.RuleList.{Rules}
use Rattle.policy_core.specs.Rules.{verdict_at, verdict_of}
use Rattle.policy_core.proofs.Ever.{ever_complete, ever_sound}
use Rattle.stream_registry.specs.declared.row.Subscription.{Subscription}
use Rattle.stream_registry.specs.Pairs.{image_question, is_allowed, is_allowed_to, is_ever_allowed}

-- whatever number a policy goes by, it allows the same
word_same : (policy : Rules) (epoch : ℕ) (found : Option ℕ) →
    (verdict_at policy epoch found).allow ≡ (verdict_at policy 0 found).allow
word_same policy epoch None = refl
word_same policy epoch (Some index) = refl

number_same : (policy : Rules) (epoch : ℕ) (question : Question) →
    (verdict_of policy epoch question).allow ≡ (verdict_of policy 0 question).allow
unfolding verdict_of
number_same policy epoch question = word_same policy epoch _

-- ---- a client that is there

module _ (clients : List Client) (epoch : ℕ) (subscription : Subscription) (principal : ℕ)
    (there : principal_at clients subscription.client ≡ Some principal) where
  allowed_is : (policy : Rules) →
      is_allowed clients policy epoch subscription
      ≡ (verdict_of policy 0 (image_question principal subscription)).allow
  unfolding is_allowed
  allowed_is policy =
      ap (is_allowed_to policy epoch subscription) there
      ∙ number_same policy epoch (image_question principal subscription)

  any_is : (later : List Rules) →
      list_any (λ (policy : Rules). is_allowed clients policy epoch subscription) later
      ≡ is_allowed_by_any (image_question principal subscription) later
  any_is [] = refl
  any_is (policy ∷ later) = ap₂ (λ (a b : Bool). a || b) (allowed_is policy) (any_is later)

  ever_is : (policy : Rules) (moment : ℕ) →
      ever policy moment (image_question principal subscription)
      ≡ is_ever_allowed clients (at policy moment) (coming policy moment) epoch subscription
  unfolding is_ever_allowed ever
  ever_is policy moment =
      sym (ap₂ (λ (a b : Bool). a || b) (allowed_is (at policy moment)) (any_is (coming policy moment)))

  sooner_there : (policy : Rules) (moment later : ℕ) → moment ≤ later →
      is_ever_allowed clients (at policy later) (coming policy later) epoch subscription ≡ true →
      is_ever_allowed clients (at policy moment) (coming policy moment) epoch subscription ≡ true
  sooner_there policy moment later up is =
      let question : Question = image_question principal subscription in
      let some = ever_sound policy later question (ever_is policy later ∙ is) in
      let after = some.1 in
      sym (ever_is policy moment) ∙ ever_complete policy moment question (some.0, omega (arith, up, after), some.2)

-- ---- one that is not

nobody : (clients : List Client) (policy : Rules) (epoch : ℕ) (subscription : Subscription) →
    principal_at clients subscription.client ≡ None → is_allowed clients policy epoch subscription ≡ false
unfolding is_allowed
nobody clients policy epoch subscription gone = ap (is_allowed_to policy epoch subscription) gone

nobody_ever : (clients : List Client) (later : List Rules) (epoch : ℕ) (subscription : Subscription) →
    principal_at clients subscription.client ≡ None →
    list_any (λ (policy : Rules). is_allowed clients policy epoch subscription) later ≡ false
nobody_ever clients [] epoch subscription gone = refl
nobody_ever clients (policy ∷ later) epoch subscription gone =
    ap₂ (λ (a b : Bool). a || b) (nobody clients policy epoch subscription gone)
    (nobody_ever clients later epoch subscription gone)

never_is : (clients : List Client) (policy : Rules) (later : List Rules) (epoch : ℕ) (subscription : Subscription) →
    principal_at clients subscription.client ≡ None → is_ever_allowed clients policy later epoch subscription ≡ false
unfolding is_ever_allowed
never_is clients policy later epoch subscription gone =
    ap₂ (λ (a b : Bool). a || b) (nobody clients policy epoch subscription gone)
    (nobody_ever clients later epoch subscription gone)

-- ---- whoever it is

sooner_by : (clients : List Client) (policy : Rules) (moment later epoch : ℕ) (subscription : Subscription)
    (found : Option ℕ) → principal_at clients subscription.client ≡ found → moment ≤ later →
    is_ever_allowed clients (at policy later) (coming policy later) epoch subscription ≡ true →
    is_ever_allowed clients (at policy moment) (coming policy moment) epoch subscription ≡ true
sooner_by clients policy moment later epoch subscription (Some principal) there up is =
    sooner_there clients epoch subscription principal there policy moment later up is
sooner_by clients policy moment later epoch subscription None gone up is =
    let never : false ≡ true =
    sym (never_is clients (at policy later) (coming policy later) epoch subscription gone) ∙ is in
    absurd (cc never)

pub sooner_allowed : (clients : List Client) (policy : Rules) (moment later epoch : ℕ) (subscription : Subscription) →
    moment ≤ later → is_ever_allowed clients (at policy later) (coming policy later) epoch subscription ≡ true →
    is_ever_allowed clients (at policy moment) (coming policy moment) epoch subscription ≡ true
sooner_allowed clients policy moment later epoch subscription up is =
    sooner_by clients policy moment later epoch subscription (principal_at clients subscription.client) refl up is

-- ---- what it comes to

-- the client is there, and is allowed it at some moment from this one on
pub record EverOne (clients : List Client) (policy : Rules) (moment : ℕ) (subscription : Subscription) : Type 0 where
  pub principal : ℕ
  pub attached : principal_at clients subscription.client ≡ Some principal
  pub allowed : IsEverAllowed policy moment (image_question principal subscription)

pub ever_of : (clients : List Client) (policy : Rules) (moment epoch : ℕ) (subscription : Subscription) (found : Option ℕ) →
    principal_at clients subscription.client ≡ found →
    is_ever_allowed clients (at policy moment) (coming policy moment) epoch subscription ≡ true →
    EverOne clients policy moment subscription
ever_of clients policy moment epoch subscription (Some principal) there is = record {
  principal = principal;
  attached = there;
  allowed = ever_sound policy moment (image_question principal subscription)
      (ever_is clients epoch subscription principal there policy moment ∙ is);
}
ever_of clients policy moment epoch subscription None gone is =
    let never : false ≡ true =
    sym (never_is clients (at policy moment) (coming policy moment) epoch subscription gone) ∙ is in
    absurd (cc never)

pub of_ever : (clients : List Client) (policy : Rules) (moment epoch : ℕ) (subscription : Subscription) (principal : ℕ) →
    principal_at clients subscription.client ≡ Some principal →
    IsEverAllowed policy moment (image_question principal subscription) →
    is_ever_allowed clients (at policy moment) (coming policy moment) epoch subscription ≡ true
of_ever clients policy moment epoch subscription principal there some =
    sym (ever_is clients epoch subscription principal there policy moment)
    ∙ ever_complete policy moment (image_question principal subscription) some
