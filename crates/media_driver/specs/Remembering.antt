-- What a client remembers of its last offer. Own rules.
use Rattle.std.specs.Prelude.{◌≡◌, ℕ, Option, IfSome, length}
use Rattle.driver_core.specs.LogRequests.{offering_of}
use Rattle.media_agents.specs.Journals.{stamp_of}
use Rattle.media_driver.specs.declared.remembering.Said.{Said}
use Rattle.published_registry.specs.Histories.{History, IsContinuedBy, registry_of}

-- so the registry after that history says of an offer of that client's
pub record IsSaid (client : ℕ) (said : Said) (h : History) : Type 0 where
  pub number_is : said.number ≡ length h.entries
  pub request_is : said.request ≡ offering_of (registry_of h) client said.registration
  pub timeout_is : said.timeout ≡ (registry_of h).settings.connection_timeout
  pub stamp_is : said.stamp ≡ stamp_of h

-- so it was after some beginning of that history
abbrev pub WasSaid : ℕ → Said → History → Type 0
WasSaid client said h = (earlier : History) × IsContinuedBy earlier h × IsSaid client said earlier

-- what is remembered was said so, if anything is
pub record IsRemembered (client : ℕ) (said : Option Said) (h : History) : Type 0 where
  pub was : IfSome said (λ it. WasSaid client it h)
