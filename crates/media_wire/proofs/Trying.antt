-- The calls of a wire of which some fail.
use Rattle.std.proofs.Common.{◌≡◌, ℕ, ◌+◌, ◌-◌, ◌^◌, List, [], ◌∷◌, ◌++◌, min, refl, ap, ◌∙◌, sym, subst}
use Rattle.media_wire.specs.Events.{Event, failed, failures, calm}
use Rattle.media_wire.specs.Trials.{Trial, Tries, called}
use Rattle.media_wire.proofs.Counting.{calm-append, counted-calm, counted-failed}

module _ {W : Type 0} (went : W → List Event → Type 0) where
  same_behind : (own events : List Event) (event : Event) → calm own ≡ calm events → calm (own ++ event ∷ []) ≡ calm (events ++ event ∷ [])
  same_behind own events event same =
      calm-append own event ∙ ap (λ (rest : List Event). rest ++ calm (event ∷ [])) same ∙ sym (calm-append events event)

  -- a call of the wire's own did not fail
  pub tries_calm : (wire next : W) (count : ℕ) (events : List Event) (event : Event) → failures (event ∷ []) ≡ 0 →
      ((own : List Event) → went wire own → went next (own ++ event ∷ [])) → Tries went wire count events → Tries went next count (events ++ event ∷ [])
  tries_calm wire next count events event none goes tries = record {
    own = tries.own ++ event ∷ [];
    wires = goes tries.own tries.wires;
    same = same_behind tries.own events event tries.same;
    count = tries.count ∙ sym (counted-calm events event none);
  }

  -- a call of the wire's own failed
  pub tries_failed : (wire next : W) (count : ℕ) (events : List Event) →
      ((own : List Event) → went wire own → went next (own ++ failed ∷ [])) → Tries went wire count events →
      Tries went next (min (count + 1) (2 ^ 64 - 1)) (events ++ failed ∷ [])
  tries_failed wire next count events goes tries = record {
    own = tries.own ++ failed ∷ [];
    wires = goes tries.own tries.wires;
    same = same_behind tries.own events failed tries.same;
    count = counted-failed events count tries.count;
  }

  -- a call failed before it came to the wire
  pub tries_kept : (wire : W) (count : ℕ) (events : List Event) → Tries went wire count events →
      Tries went wire (min (count + 1) (2 ^ 64 - 1)) (events ++ failed ∷ [])
  tries_kept wire count events tries = record {
    own = tries.own;
    wires = tries.wires;
    same = tries.same ∙ sym (calm-append events failed ∙ nothing_behind (calm events));
    count = counted-failed events count tries.count;
  } where
    nothing_behind : (events : List Event) → events ++ [] ≡ events
    nothing_behind [] = refl
    nothing_behind (event ∷ events) = ap (λ (rest : List Event). event ∷ rest) (nothing_behind events)

abbrev pub failed_trial : {W : Type 0} → Trial W → Trial W
failed_trial trial = record trial { failures = min (trial.failures + 1) (2 ^ 64 - 1) }

module _ {W : Type 0} (went : W → List Event → Type 0) where
  seen_tries : (old seen : Trial W) (events : List Event) → seen ≡ called old → Tries went old.wire old.failures events →
      Tries went seen.wire seen.failures events
  seen_tries old seen events is tries = subst (λ (trial : Trial W). Tries went trial.wire trial.failures events) (sym is) tries

  pub trial_kept : (old seen next : Trial W) (events : List Event) → seen ≡ called old → next ≡ failed_trial seen →
      Tries went old.wire old.failures events → Tries went next.wire next.failures (events ++ failed ∷ [])
  trial_kept old seen next events is fails tries =
      subst (λ (trial : Trial W). Tries went trial.wire trial.failures (events ++ failed ∷ [])) (sym fails)
      (tries_kept went seen.wire seen.failures events (seen_tries old seen events is tries))

  pub trial_calm : (old seen : Trial W) (next : W) (events : List Event) (event : Event) → seen ≡ called old → failures (event ∷ []) ≡ 0 →
      ((own : List Event) → went seen.wire own → went next (own ++ event ∷ [])) → Tries went old.wire old.failures events →
      Tries went next seen.failures (events ++ event ∷ [])
  trial_calm old seen next events event is none goes tries =
      tries_calm went seen.wire next seen.failures events event none goes (seen_tries old seen events is tries)

  pub trial_failed : (old seen : Trial W) (wire : W) (next : Trial W) (events : List Event) → seen ≡ called old →
      next ≡ failed_trial (record seen { wire = wire }) → ((own : List Event) → went seen.wire own → went wire (own ++ failed ∷ [])) →
      Tries went old.wire old.failures events → Tries went next.wire next.failures (events ++ failed ∷ [])
  trial_failed old seen wire next events is fails goes tries =
      subst (λ (trial : Trial W). Tries went trial.wire trial.failures (events ++ failed ∷ [])) (sym fails)
      (tries_failed went seen.wire wire seen.failures events goes (seen_tries old seen events is tries))
