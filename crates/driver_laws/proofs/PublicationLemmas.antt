-- No event but a SETUP makes an image.
use Rattle.std.proofs.Common.{◌≡◌, true, false, inl, inr, sym, ap, ◌∙◌, ◌⊎◌, ⊎_elim}
use Rattle.std.specs.List.{Contains}
use Rattle.driver_core.specs.declared.state.event.Event.{Event}
use Rattle.driver_core.specs.declared.state.event.Inputs.{Inputs}
use Rattle.driver_core.specs.Conduct.{coming_to, state_after}
use Rattle.driver_core.specs.State.{State, ruled}
use Rattle.driver_laws.specs.PublishingLaws.{IsImageMadeBy, IsLogMadeBy, WasLive}
use Rattle.stream_registry.specs.declared.row.LogRow.{LogRow}
use Rattle.stream_registry.specs.Origins.{is_remote}
use Rattle.driver_laws.proofs.PublishingOnlyLemmas.{published_only}

made_published : (s : State) (event : Event) (log : LogRow) → IsLogMadeBy s event log → is_remote log ≡ false
made_published s event log made = ap is_remote made.made_is

pub images_come : (s : State) (event : Event) (inputs : Inputs) (log : LogRow) →
    Contains (state_after s event inputs).streams.sources log → is_remote log ≡ true →
    WasLive s.streams log ⊎ IsImageMadeBy (coming_to s event) event log
unfolding ruled
images_come s event inputs log has remote =
    ⊎_elim (λ live. inl live)
    (λ made.
    ⊎_elim
    (λ (published : IsLogMadeBy (coming_to s event) event log).
    let never : false ≡ true = sym (made_published (coming_to s event) event log published) ∙ remote in
    absurd (cc never))
    (λ image. inr image)
    made)
    ((published_only s event inputs).logs log has)
