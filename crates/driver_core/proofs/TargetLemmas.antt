-- What a command on a destination names is the log of a registration of the client's own.
use Rattle.std.proofs.Common.{◌≡◌, ℕ, Option, Some, None, Ok, refl, sym, subst}
use Rattle.std.specs.List.{Contains}
use Rattle.std.proofs.lemmas.Bool.{eqb-true}
use Rattle.driver_core.specs.declared.rules.directing.Target.{Target}
use Rattle.driver_core.specs.Directing.{log_with, own_log, target_address, target_at, target_of, target_on}
use Rattle.driver_core.specs.LogRequests.{registration_at}
use Rattle.driver_core.specs.State.{State}
use Rattle.channel_uri.specs.declared.address.Address.{Address}
use Rattle.channel_uri.specs.Channel.{Shape}
use Rattle.stream_registry.specs.declared.row.Registration.{Registration}
use Rattle.stream_registry.specs.declared.row.LogRow.{LogRow}
use Rattle.stream_registry.specs.Places.{is_manual}
use Rattle.driver_core.proofs.CacheLemmas.{found_in}

-- somebody is registered with the log of this number
pub record IsRegistered (s : State) (source : ℕ) : Type 0 where
  pub registration : Registration
  pub stands : Contains s.streams.registrations registration
  pub source_is : registration.source ≡ source

registered_log : (s : State) (client number : ℕ) (found : Option Registration) (log : LogRow) →
    registration_at s.streams.registrations client number ≡ found → log_with s found ≡ Some log →
    IsRegistered s log.number
registered_log s client number None log found is = absurd (cc is)
registered_log s client number (Some registration) log found is =
    let row = found_in _ s.streams.registrations registration found in
    let at = found_in _ s.streams.sources log is in
    record {
      registration = registration;
      stands = row.stands;
      source_is = sym (eqb-true log.number registration.source at.passes);
    }

on_log : (s : State) (address : Address) (found : Option LogRow) (target : Target) → target_on address found ≡ Ok target →
    ((log : LogRow) → found ≡ Some log → IsRegistered s log.number) → IsRegistered s target.source
on_log s address None target is each = absurd (cc is)
on_log s address (Some log) target is each =
    let same : (record {
      source = log.number;
      stream = log.stream;
      manual = is_manual log.channel;
      address = address;
    }) ≡ target = cc is in
    subst (λ (t : Target). IsRegistered s t.source) same (each log refl)

by_address : (s : State) (client number : ℕ) (address : Option Address) (target : Target) →
    target_at s client number address ≡ Ok target → IsRegistered s target.source
unfolding own_log
by_address s client number None target is = absurd (cc is)
by_address s client number (Some address) target is =
    on_log s address (own_log s client number) target is
    (λ log found. registered_log s client number (registration_at s.streams.registrations client number) log refl found)

pub target_registered : (s : State) (client number : ℕ) (channel : Shape) (target : Target) →
    target_of s client number channel ≡ Ok target → IsRegistered s target.source
unfolding target_of
target_registered s client number channel target is =
    by_address s client number (target_address channel) target is
