-- What a command asks for, as far as it counts. Own rules.
use Rattle.std.specs.Prelude.{◌*◌, ◌/◌, ℕ, max, Option, Some, None, Result, Ok, Err}
use Rattle.channel_uri.specs.Channel.{Shape, denotes}
use Rattle.channel_uri.specs.Parameters.{stated_linger_of, stated_term_length_of}
use Rattle.channel_uri.specs.declared.error.UriError.{UriError}
use Rattle.command_codec.specs.declared.command.Body.{Body}
use Rattle.command_codec.specs.declared.command.Body.TheVariants as bodies
use Rattle.service_bounds.specs.declared.asked.Asked.{Asked}
use Rattle.service_bounds.specs.declared.asked.Asked.TheVariants as asks
use Rattle.service_bounds.specs.declared.row.Kind.TheVariants as kinds
use Rattle.service_bounds.specs.declared.row.Sort.TheVariants as sorts

-- the number, or that where there is none
abbrev pub number_or : ℕ → Option ℕ → ℕ
number_or other None = other
number_or other (Some number) = number

-- a publication counts the pages of three terms, and lingers for as long as it or its channel says, whichever is longer
abbrev pub publication_of : ℕ → ℕ → Result Shape UriError → Asked
publication_of term_length linger (Ok channel) =
    asks.Adds (kinds.Publication (3 * number_or term_length (stated_term_length_of channel) / 4096)) (max (number_or 0 (stated_linger_of channel)) linger)
publication_of term_length linger (Err fault) = asks.Other

abbrev pub body_asks : ℕ → ℕ → Body → Asked
body_asks term_length linger (bodies.AddPublication add) = publication_of term_length linger (denotes add.channel)
body_asks term_length linger (bodies.AddExclusivePublication add) = publication_of term_length linger (denotes add.channel)
body_asks term_length linger (bodies.AddSubscription add) = asks.Adds kinds.Subscription 0
body_asks term_length linger (bodies.AddCounter add) = asks.Adds kinds.Counter 0
body_asks term_length linger (bodies.RemovePublication removal) = asks.Removes (record { sort = sorts.Publication; registration = removal.registration })
body_asks term_length linger (bodies.RemoveSubscription removal) = asks.Removes (record { sort = sorts.Subscription; registration = removal.registration })
body_asks term_length linger (bodies.RemoveCounter removal) = asks.Removes (record { sort = sorts.Counter; registration = removal.registration })
body_asks term_length linger _ = asks.Other

-- bytes that are no command ask for nothing that counts
abbrev pub given_asks : ℕ → ℕ → Option Body → Asked
given_asks term_length linger (Some body) = body_asks term_length linger body
given_asks term_length linger None = asks.Other
