-- What is left of the calls of a wire, call by call.
use Rattle.std.proofs.Common.{◌≡◌, ◌≤◌, ℕ, ◌+◌, List, [], ◌∷◌, ◌++◌, Some, refl, ap, sym, ◌∙◌, subst, arith}
use Rattle.channel_uri.specs.declared.address.Address.{Address}
use Rattle.media_wire.specs.Events.{Event, sent, read, nothing, failed, failures}
use Rattle.media_wire.specs.declared.letter.Letter.{Letter}
use Rattle.guarded_wire.proofs.Spending.{GoesOn, IsDropped, asked-append, judged_is_dropped}
use Rattle.guarded_wire.specs.Guards.{Judged, Rules, Watch, spent_of}
use Rattle.guarded_wire.specs.Reads.{IsGuarded, LeavesOut, asked, drops, gives, tires}
use Rattle.guarded_wire.specs.declared.cause.Cause.{Cause}

behind : (one rest more all : ℕ) → all ≡ rest + more → one + all ≡ one + rest + more
behind one rest more all is = omega (arith, is)

failures-append : (events : List Event) (event : Event) → failures (events ++ event ∷ []) ≡ failures events + failures (event ∷ [])
failures-append [] event = omega arith
failures-append (sent it ∷ events) event = failures-append events event
failures-append (read it ∷ events) event = failures-append events event
failures-append (nothing address ∷ events) event = failures-append events event
failures-append (failed ∷ events) event = omega (arith, failures-append events event)

within : (left was more before all : ℕ) → left ≤ was + more → was ≤ before → all ≡ before + more → left ≤ all
within left was more before all a b c = omega (arith, a, b, c)

none_more : (n m : ℕ) → n ≡ m + 0 → n ≡ m
none_more n m is = omega (arith, is)

module _ {W : Type 0} (went : W → List Event → Type 0) where
  -- a call is the guard's too
  pub given : (wire next : W) (watch left : Watch) (lost : ℕ) (events : List Event) (event : Event) →
      ((own : List Event) → went wire own → went next (own ++ event ∷ [])) → left.rules ≡ watch.rules →
      ((place : ℕ) → (spent_of left place).asked ≤ (spent_of watch place).asked + asked watch.rules.origins place (event ∷ [])) →
      IsGuarded went wire watch lost events → IsGuarded went next left 0 (events ++ event ∷ [])
  given wire next watch left lost events event goes rules spends is = record {
    own = is.own ++ event ∷ [];
    wires = goes is.own is.wires;
    left = subst (λ (r : Rules). LeavesOut r 0 (is.own ++ event ∷ []) (events ++ event ∷ [])) (sym rules) (gives lost is.own events event is.left);
    same = failures-append is.own event ∙ ap (λ (n : ℕ). n + failures (event ∷ [])) is.same ∙ sym (failures-append events event);
    spent = λ place. subst (λ (r : Rules). (spent_of left place).asked ≤ asked r.origins place (events ++ event ∷ [])) (sym rules)
        (within (spent_of left place).asked (spent_of watch place).asked (asked watch.rules.origins place (event ∷ []))
        (asked watch.rules.origins place events) (asked watch.rules.origins place (events ++ event ∷ []))
        (spends place) (is.spent place) (asked-append watch.rules.origins place events event));
  }

  -- nothing is spent by it
  pub kept : (wire next : W) (watch : Watch) (lost : ℕ) (events : List Event) (event : Event) →
      ((own : List Event) → went wire own → went next (own ++ event ∷ [])) →
      IsGuarded went wire watch lost events → IsGuarded went next watch 0 (events ++ event ∷ [])
  kept wire next watch lost events event goes is = given wire next watch watch lost events event goes refl (λ place. omega arith) is

  -- a read is dropped
  pub dropped : (wire next : W) (watch left : Watch) (lost : ℕ) (events : List Event) (it : Letter) →
      ((own : List Event) → went wire own → went next (own ++ read it ∷ [])) → IsDropped watch left events it →
      IsGuarded went wire watch lost events → IsGuarded went next left (lost + 1) events
  dropped wire next watch left lost events it goes drop is = record {
    own = is.own ++ read it ∷ [];
    wires = goes is.own is.wires;
    left = subst (λ (r : Rules). LeavesOut r (lost + 1) (is.own ++ read it ∷ []) events) (sym drop.rules) (drops lost is.own events it is.left drop.may);
    same = none_more (failures (is.own ++ read it ∷ [])) (failures is.own) (failures-append is.own (read it)) ∙ is.same;
    spent = λ place. subst (λ (r : Rules). (spent_of left place).asked ≤ asked r.origins place events) (sym drop.rules)
        (within (spent_of left place).asked (spent_of watch place).asked 0 (asked watch.rules.origins place events)
        (asked watch.rules.origins place events) (omega (arith, drop.spends place)) (is.spent place) (omega arith));
  }

  -- so many were that it is as if nothing was there
  pub tired : (wire : W) (watch : Watch) (events : List Event) (local : Address) →
      IsGuarded went wire watch 1024 events → IsGuarded went wire watch 0 (events ++ nothing local ∷ [])
  tired wire watch events local is = record {
    own = is.own;
    wires = is.wires;
    left = tires is.own events local is.left;
    same = is.same ∙ sym (none_more (failures (events ++ nothing local ∷ [])) (failures events) (failures-append events (nothing local)));
    spent = λ place. within (spent_of watch place).asked (spent_of watch place).asked 0 (asked watch.rules.origins place events)
        (asked watch.rules.origins place (events ++ nothing local ∷ [])) (omega arith) (is.spent place)
        (asked-append watch.rules.origins place events (nothing local));
  }

-- so many were dropped since a call began
pub record IsSoFar {W : Type 0} (went : W → List Event → Type 0) (was now : W) (before after : Watch) (lost : ℕ) : Type 0 where
  pub calls : (events : List Event) → IsGuarded went was before 0 events → IsGuarded went now after lost events
  pub rules : after.rules ≡ before.rules

module _ {W : Type 0} (went : W → List Event → Type 0) where
  -- what the wire answers is answered
  pub answered : (was now next : W) (before after left : Watch) (lost : ℕ) (event : Event) → IsSoFar went was now before after lost →
      ((own : List Event) → went now own → went next (own ++ event ∷ [])) → left ≡ after →
      (events : List Event) → IsGuarded went was before 0 events → IsGuarded went next left 0 (events ++ event ∷ [])
  answered was now next before after left lost event far goes same events is =
      subst (λ (w : Watch). IsGuarded went next w 0 (events ++ event ∷ [])) (sym same) (kept went now next after lost events event goes (far.calls events is))

  -- a datagram goes on
  pub goes_on : (was now next : W) (before after left : Watch) (lost : ℕ) (it : Letter) → IsSoFar went was now before after lost →
      ((own : List Event) → went now own → went next (own ++ read it ∷ [])) → GoesOn after left it →
      (events : List Event) → IsGuarded went was before 0 events → IsGuarded went next left 0 (events ++ read it ∷ [])
  goes_on was now next before after left lost it far goes on events is =
      given went now next after left lost events (read it) goes on.rules on.spends (far.calls events is)

  -- a datagram is dropped
  pub one_more : (was now next : W) (before after left : Watch) (lost : ℕ) (it : Letter) (cause : Cause) → IsSoFar went was now before after lost →
      ((own : List Event) → went now own → went next (own ++ read it ∷ [])) → Judged after it.from it.bytes (Some cause) left →
      left.rules ≡ after.rules → IsSoFar went was next before left (lost + 1)
  one_more was now next before after left lost it cause far goes judged rules = record {
    calls = λ events is. dropped went now next after left lost events it goes
        (judged_is_dropped after left events it cause judged (far.calls events is).spent) (far.calls events is);
    rules = rules ∙ far.rules;
  }
