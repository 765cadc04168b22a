-- What the driver promises: four sums of laws, over every list of events, every run of a driver, and every run of a world.
-- Own rules.
use Rattle.driver_laws.specs.ActLaws.{RulesAskAsListed}
use Rattle.driver_laws.specs.AttachingLaws.{ClientsComeExactly, ClientsComeOnly}
use Rattle.driver_laws.specs.CacheLaws.{CachedVerdictsAreRightUntilTheNextBound}
use Rattle.driver_laws.specs.ClosingLaws.{LogsCloseExactly, LogsCloseOnly}
use Rattle.driver_laws.specs.DatagramLaws.{DatagramsCarryTheLogsFrames}
use Rattle.driver_laws.specs.DenialLaws.{DenialsAreNamed}
use Rattle.driver_laws.specs.DecisionLaws.{DecisionsAreByThePolicyInForce}
use Rattle.driver_laws.specs.DestinationLaws.{DestinationsAreGrantedExactly, DestinationsAreGrantedOnly, EndpointsAreSentTo}
use Rattle.driver_laws.specs.FrameLaws.{FramesAreWhatWasPut}
use Rattle.driver_laws.specs.GrantLaws.{CountersAndTerminationsAreGrantedOnly, CountersAreGrantedExactly, TerminationsAreGrantedExactly}
use Rattle.driver_laws.specs.ImageLaws.{ImagesAreGrantedExactly}
use Rattle.driver_laws.specs.LearningLaws.{AddressesComeAndGoOnlySo}
use Rattle.driver_laws.specs.ListingLaws.{CountersAreShownExactly}
use Rattle.driver_laws.specs.MomentLaws.{LimitsCountWhatIsEverAllowed, MomentsTakeAndGiveExactly, PoliciesStandAtTheirMoment, RegistriesStayBetweenBounds, TicksAreNeverFull}
use Rattle.driver_laws.specs.NewLogLaws.{NewLogsAreEmpty}
use Rattle.driver_laws.specs.NumberLaws.{NumbersAreNeverDrawnAgain}
use Rattle.driver_laws.specs.OlderLaws.{JoinsByAnyRegistryAreGrantedExactly, LooksByAnyRegistryAreShownExactly, NaksByAnyRegistryAreGrantedExactly, OffersByAnyRegistryAreGrantedExactly, PollsByAnyRegistryAreGrantedExactly, SendsByAnyRegistryAreGrantedExactly}
use Rattle.driver_laws.specs.PublishingLaws.{ImagesComeBySetups, PublicationsAreGrantedExactly, PublicationsAreGrantedOnly}
use Rattle.driver_laws.specs.RefusalLaws.{RefusedEventsTakeOnlyWhatTheMomentTakes}
use Rattle.driver_laws.specs.ReloadLaws.{NewestPolicyIsInForce, ReloadsCloseExactly as ReloadedExactly}
use Rattle.driver_laws.specs.SettingLaws.{SetupsAreGrantedExactly}
use Rattle.driver_laws.specs.SoundnessLaws.{RegistriesAreSound}
use Rattle.driver_laws.specs.SubscribingLaws.{SubscriptionsAreGrantedExactly, SubscriptionsAreGrantedOnly}
use Rattle.driver_laws.specs.UniquePublicationLaws.{PublicationsAreUnique}
use Rattle.driver_laws.specs.WorldLaws.{RunsAreTheDriversOwn, StepsGoByTheirRegistry, WorldsAreGrantedExactly, WorldsAreServedFromTheLiveLog}
use Rattle.driver_steps.specs.Laws.{LogsFollowTheRegistry, OffersAreGrantedExactly, PollsAreGrantedExactly, BytesComeFromTheLiveLog, RunsTakeEvents}
use Rattle.driver_steps.specs.CarryingLaws.{PayloadsComeFromTheirPublisher}
use Rattle.driver_steps.specs.JoinLaws.{AddressesAreLearntExactly}
use Rattle.driver_steps.specs.ResendLaws.{ResendsComeFromTheLiveLog}
use Rattle.driver_steps.specs.SendLaws.{SendsAreGrantedExactly}
use Rattle.driver_world.specs.Laws.{RunsAreOfTheDriver}
use Rattle.driver_world.specs.ViewLaws.{RegistriesWereNewest}

-- Each registry of a run is what its events left, and the run of a world is one of a driver, whose steps are its own, each by the
-- registry that it names: so what is said of all lists of events, and of all runs of a driver, holds of every registry and every
-- end of a world.
pub record HoldOfWorlds : Type 0 where
  pub registries : RunsTakeEvents
  pub newest : RegistriesWereNewest
  pub runs : RunsAreOfTheDriver
  pub own : RunsAreTheDriversOwn
  pub steps : StepsGoByTheirRegistry

-- What is asked by a step, not by an event: a look at a counter, an offer, a poll, a datagram to a destination, a status message by
-- which an address becomes one, a NAK. Each law says when it is granted, and by which verdict it is denied.
pub record StepsAreDecided : Type 0 where
  pub shown : CountersAreShownExactly
  pub shown_by_any : LooksByAnyRegistryAreShownExactly
  pub offers : OffersAreGrantedExactly
  pub offers_by_any : OffersByAnyRegistryAreGrantedExactly
  pub polls : PollsAreGrantedExactly
  pub polls_by_any : PollsByAnyRegistryAreGrantedExactly
  pub sends : SendsAreGrantedExactly
  pub sends_by_any : SendsByAnyRegistryAreGrantedExactly
  pub joins : AddressesAreLearntExactly
  pub joins_by_any : JoinsByAnyRegistryAreGrantedExactly
  pub joins_only : AddressesComeAndGoOnlySo
  pub resends : ResendsComeFromTheLiveLog
  pub resends_by_any : NaksByAnyRegistryAreGrantedExactly

-- Which policy it is by which a registry decides: the one in force as it is at the greatest moment of the registry's events, which
-- an event before the next bound of a rule leaves as it is. Up to that bound a verdict that was kept is right.
pub record ByThePolicyAtItsMoment : Type 0 where
  pub in_force : NewestPolicyIsInForce
  pub at_moment : PoliciesStandAtTheirMoment
  pub between : RegistriesStayBetweenBounds
  pub kept : CachedVerdictsAreRightUntilTheNextBound

-- granted only and exactly where the first matching rule of the policy in force allows it, at the moment of the registry that
-- decides; what each rule asks is what the table of acts says
pub record GrantedExactly : Type 0 where
  pub by : ByThePolicyAtItsMoment
  pub subscriptions : SubscriptionsAreGrantedExactly
  pub subscriptions_only : SubscriptionsAreGrantedOnly
  pub publications : PublicationsAreGrantedExactly
  pub publications_only : PublicationsAreGrantedOnly
  pub destinations : DestinationsAreGrantedExactly
  pub destinations_only : DestinationsAreGrantedOnly
  pub endpoints : EndpointsAreSentTo
  pub clients : ClientsComeExactly
  pub clients_only : ClientsComeOnly
  pub counters : CountersAreGrantedExactly
  pub terminations : TerminationsAreGrantedExactly
  pub counters_and_terminations_only : CountersAndTerminationsAreGrantedOnly
  pub images : ImagesAreGrantedExactly
  pub setups : SetupsAreGrantedExactly
  pub images_only : ImagesComeBySetups
  pub steps : StepsAreDecided
  pub acts : RulesAskAsListed
  pub in_worlds : WorldsAreGrantedExactly
  pub worlds : HoldOfWorlds

-- each denial names that rule, or the default
pub record DenialsNameTheirRule : Type 0 where
  pub by : ByThePolicyAtItsMoment
  pub denials : DenialsAreNamed
  pub decisions : DecisionsAreByThePolicyInForce
  pub steps : StepsAreDecided
  pub acts : RulesAskAsListed
  pub worlds : HoldOfWorlds

-- A policy that is put in force closes the images that are no longer allowed, and no others, and so does a moment, at which the one
-- in force decides otherwise. What a refused event takes is what the moment takes; and a moment is never refused, since the limit of
-- pairs counts what is ever allowed.
pub record ReloadsCloseExactly : Type 0 where
  pub images : ReloadedExactly
  pub by : ByThePolicyAtItsMoment
  pub moments : MomentsTakeAndGiveExactly
  pub refused : RefusedEventsTakeOnlyWhatTheMomentTakes
  pub counted : LimitsCountWhatIsEverAllowed
  pub never_full : TicksAreNeverFull
  pub logs : LogsCloseExactly
  pub logs_only : LogsCloseOnly
  pub follow : LogsFollowTheRegistry
  pub worlds : HoldOfWorlds

-- bytes are those of the live log that holds them
pub record BytesComeOnlyFromTheLiveLog : Type 0 where
  pub polled : BytesComeFromTheLiveLog
  pub payloads : PayloadsComeFromTheirPublisher
  pub resent : ResendsComeFromTheLiveLog
  pub datagrams : DatagramsCarryTheLogsFrames
  pub frames : FramesAreWhatWasPut
  pub empty : NewLogsAreEmpty
  pub follow : LogsFollowTheRegistry
  pub sound : RegistriesAreSound
  pub numbers : NumbersAreNeverDrawnAgain
  pub unique : PublicationsAreUnique
  pub in_worlds : WorldsAreServedFromTheLiveLog
  pub worlds : HoldOfWorlds
