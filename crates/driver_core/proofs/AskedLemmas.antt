-- The command of a client that is there.
use Rattle.std.proofs.Common.{◌≡◌, ℕ, Some, ap, ◌∙◌}
use Rattle.std.proofs.lemmas.Bool.{cond-true, eq-eqb}
use Rattle.client_registry.specs.declared.client.Client.{Client}
use Rattle.client_registry.specs.Clients.{client_at}
use Rattle.command_codec.specs.declared.command.Command.{Command}
use Rattle.driver_core.specs.Commands.{asked, asked_by, heard, requested}
use Rattle.driver_core.specs.State.{State}

-- it is heard of, and what it asks for is done
pub asked_is : (s : State) (handle : ℕ) (command : Command) (client : Client) → command.client ≡ handle →
    client_at s.clients.rows handle ≡ Some client → asked s handle command ≡ requested (heard s handle) client command
unfolding asked
asked_is s handle command client own there =
    cond-true _ _ _ (eq-eqb command.client handle own) ∙ ap (asked_by s handle command) there
