-- CLIENT_KEEPALIVE and CLIENT_CLOSE.
use Rattle.std.specs.Prelude.{ℕ, []}
use Rattle.driver_core.specs.Draft.{Draft}
use Rattle.driver_core.specs.declared.state.replies.Reply.TheVariants.{OperationSuccess}
use Rattle.driver_core.specs.Draft.{told, replied}
use Rattle.driver_core.specs.Leaving.{left}
use Rattle.driver_core.specs.State.{State}
use Rattle.client_registry.specs.declared.client.Client.{Client}

-- the client was heard of, and that is all; nobody is notified
unfoldable pub keep_alive : State → Draft
keep_alive s = told s [] [] []

-- the client goes with all that it registered, and is answered that it is done
unfoldable pub close : State → Client → ℕ → Draft
close s client correlation = replied (left s client.number) [] client.number (OperationSuccess correlation)
