-- Well-formed requests of clients, and what the policy is asked about them.
use Rattle.std.specs.Prelude.{◌≡◌, ℕ, ◌==◌, pos, Bool, true, false, ◌&&◌, List, Some, is_some, Result, Ok, Err, ◌⊎◌, if◌then◌else◌}
use Rattle.driver_core.specs.Deciding.{question_by}
use Rattle.driver_core.specs.declared.rules.directing.Target.{Target}
use Rattle.driver_core.specs.Directing.{target_of}
use Rattle.driver_core.specs.Publishing.{is_publishable, publishing_act, wanted_of}
use Rattle.driver_core.specs.State.{State}
use Rattle.driver_core.specs.Subscribing.{is_subscribable, act_of}
use Rattle.channel_uri.specs.Channel.{Shape, denotes, counter_shape, ipc_shape}
use Rattle.client_registry.specs.declared.client.Client.{Client}
use Rattle.client_registry.specs.Clients.{client_at}
use Rattle.command_codec.specs.declared.add_counter.AddCounter.{AddCounter}
use Rattle.command_codec.specs.declared.add_publication.AddPublication.{AddPublication}
use Rattle.command_codec.specs.declared.add_subscription.AddSubscription.{AddSubscription}
use Rattle.command_codec.specs.declared.command.Body.{Body}
use Rattle.command_codec.specs.declared.command.Body.TheVariants.{AddPublication as Publishes, AddExclusivePublication as PublishesExclusively, AddSubscription as Adds, RemoveSubscription as Removes, AddDestination as Directs, AddCounter as AddsCounter, TerminateDriver as Terminates}
use Rattle.command_codec.specs.declared.command.Command.{Command as Read}
use Rattle.command_codec.specs.declared.destination.Destination.{Destination}
use Rattle.command_codec.specs.declared.fault.CommandFault.{CommandFault}
use Rattle.command_codec.specs.declared.removal.Removal.{Removal}
use Rattle.command_codec.specs.declared.terminate_driver.TerminateDriver.{TerminateDriver}
use Rattle.command_codec.specs.Command.{command_of}
use Rattle.policy_core.specs.declared.act.Act.TheVariants.{Counter as MakeCounter, Destination as Direct, Terminate}
use Rattle.policy_core.specs.Question.{Question}
use Rattle.stream_registry.specs.declared.wanted.Wanted.{Wanted}

-- a client is heard of by a command that is laid out as one and names it, over its own handle
abbrev pub names : ℕ → Result Read CommandFault → Bool
names handle (Ok command) = command.client == handle
names handle (Err fault) = false

abbrev pub is_heard : State → ℕ → List ℕ → Bool
is_heard s handle bytes = names handle (command_of bytes) && is_some (client_at s.clients.rows handle)

-- The bytes that come over a handle are this client's request under that correlation id: they are laid out as one and name
-- the handle's own client, which is there.
pub record Asks (s : State) (handle : ℕ) (bytes : List ℕ) (client : Client) (correlation : ℕ) (body : Body) : Type 0 where
  pub command : command_of bytes ≡ Ok (record { client = handle; correlation = correlation; body = body })
  pub attached : client_at s.clients.rows handle ≡ Some client

-- ---- a publication

-- who asks, under which correlation id, with which fields, on which channel, and whether for a log of its own
pub record PublicationRequest : Type 0 where
  pub client : Client
  pub correlation : ℕ
  pub fields : AddPublication
  pub channel : Shape
  pub exclusive : Bool

abbrev pub publication_body : PublicationRequest → Body
publication_body request = if request.exclusive then PublishesExclusively request.fields else Publishes request.fields

-- the bytes are this request, and their text is a channel that a publication takes
pub record AsksToPublish (s : State) (handle : ℕ) (bytes : List ℕ) (request : PublicationRequest) : Type 0 where
  pub asks : Asks s handle bytes request.client request.correlation (publication_body request)
  pub denotes_channel : denotes request.fields.channel ≡ Ok request.channel
  pub takes_channel : is_publishable request.channel ≡ true

abbrev pub wanted_by : PublicationRequest → Wanted
wanted_by request = wanted_of request.channel request.fields.stream request.exclusive

abbrev pub publication_question : PublicationRequest → Question
publication_question request =
    question_by request.client (publishing_act request.exclusive) request.channel request.fields.stream

-- ---- a subscription

-- who asks, under which correlation id, with which fields, and on which channel
pub record SubscriptionRequest : Type 0 where
  pub client : Client
  pub correlation : ℕ
  pub fields : AddSubscription
  pub channel : Shape

-- the bytes are this request, and their text is a channel that a subscription takes
pub record AsksToSubscribe (s : State) (handle : ℕ) (bytes : List ℕ) (request : SubscriptionRequest) : Type 0 where
  pub command : command_of bytes ≡ Ok (record { client = handle; correlation = request.correlation; body = Adds request.fields })
  pub attached : client_at s.clients.rows handle ≡ Some request.client
  pub denotes_channel : denotes request.fields.channel ≡ Ok request.channel
  pub takes_channel : is_subscribable request.channel ≡ true

abbrev pub question_of : SubscriptionRequest → Question
question_of request =
    question_by request.client (act_of request.channel) request.channel request.fields.stream

-- who asks, under which correlation id, for which subscription to go
pub record RemovalRequest : Type 0 where
  pub client : Client
  pub correlation : ℕ
  pub fields : Removal

pub record AsksToRemove (s : State) (handle : ℕ) (bytes : List ℕ) (request : RemovalRequest) : Type 0 where
  pub command : command_of bytes ≡ Ok (record { client = handle; correlation = request.correlation; body = Removes request.fields })
  pub attached : client_at s.clients.rows handle ≡ Some request.client

-- ---- a destination

-- who asks, under which correlation id, with which fields, on which channel, and which address of which log that names
pub record DestinationRequest : Type 0 where
  pub client : Client
  pub correlation : ℕ
  pub fields : Destination
  pub channel : Shape
  pub target : Target

-- the bytes are this request, and their text is the channel of a destination, for a publication of the client's own
pub record AsksToDirect (s : State) (handle : ℕ) (bytes : List ℕ) (request : DestinationRequest) : Type 0 where
  pub asks : Asks s handle bytes request.client request.correlation (Directs request.fields)
  pub denotes_channel : denotes request.fields.channel ≡ Ok request.channel
  pub names_target : target_of s request.client.number request.fields.registration request.channel ≡ Ok request.target

abbrev pub destination_question : DestinationRequest → Question
destination_question request = question_by request.client Direct request.channel request.target.stream

-- ---- a counter, and the end of the driver

abbrev pub counter_question : Client → AddCounter → Question
counter_question client fields = question_by client MakeCounter counter_shape fields.type_id

abbrev pub termination_question : Client → Question
termination_question client = question_by client Terminate ipc_shape (pos 0)

-- ---- what the policy is asked

pub record IsSubscriptionQuestion (s : State) (handle : ℕ) (bytes : List ℕ) (correlation : ℕ) (question : Question) : Type 0 where
  pub request : SubscriptionRequest
  pub asks : AsksToSubscribe s handle bytes request
  pub correlation_is : correlation ≡ request.correlation
  pub question_is : question ≡ question_of request

pub record IsPublicationQuestion (s : State) (handle : ℕ) (bytes : List ℕ) (correlation : ℕ) (question : Question) : Type 0 where
  pub request : PublicationRequest
  pub asks : AsksToPublish s handle bytes request
  pub correlation_is : correlation ≡ request.correlation
  pub question_is : question ≡ publication_question request

pub record IsDestinationQuestion (s : State) (handle : ℕ) (bytes : List ℕ) (correlation : ℕ) (question : Question) : Type 0 where
  pub request : DestinationRequest
  pub asks : AsksToDirect s handle bytes request
  pub correlation_is : correlation ≡ request.correlation
  pub question_is : question ≡ destination_question request

pub record IsCounterQuestion (s : State) (handle : ℕ) (bytes : List ℕ) (correlation : ℕ) (question : Question) : Type 0 where
  pub client : Client
  pub fields : AddCounter
  pub asks : Asks s handle bytes client correlation (AddsCounter fields)
  pub question_is : question ≡ counter_question client fields

pub record IsTerminationQuestion (s : State) (handle : ℕ) (bytes : List ℕ) (correlation : ℕ) (question : Question) : Type 0 where
  pub client : Client
  pub fields : TerminateDriver
  pub asks : Asks s handle bytes client correlation (Terminates fields)
  pub question_is : question ≡ termination_question client

-- the bytes are a well-formed request under that correlation id, about which the policy is asked that question
abbrev pub IsAsked : State → ℕ → List ℕ → ℕ → Question → Type 0
IsAsked s handle bytes correlation question =
    IsSubscriptionQuestion s handle bytes correlation question
    ⊎ (IsCounterQuestion s handle bytes correlation question
    ⊎ (IsTerminationQuestion s handle bytes correlation question
    ⊎ (IsPublicationQuestion s handle bytes correlation question
    ⊎ IsDestinationQuestion s handle bytes correlation question)))
