-- What a driver of `publish`, `subscribe` or `serve` begins with where no word chooses it. Own rules.
use Rattle.std.specs.Prelude.{Bool, true, false}
use Rattle.driver_core.specs.declared.state.settings.Settings.{Settings}

-- terms of 1 MiB
abbrev pub with_terms : Bool → Settings → Settings
with_terms true settings = settings
with_terms false settings = record settings { term_length = 1048576 }

-- 64 MiB for its logs
abbrev pub with_pages : Bool → Settings → Settings
with_pages true settings = settings
with_pages false settings = record settings { arena_pages = 16384 }

-- a gap is asked for after 200 microseconds
abbrev pub with_delay : Bool → Settings → Settings
with_delay true settings = settings
with_delay false settings = record settings { nak_delay = 200000 }

-- a gap is asked for again after 10 milliseconds
abbrev pub with_repeat : Bool → Settings → Settings
with_repeat true settings = settings
with_repeat false settings = record settings { nak_repeat = 10000000 }

-- what was resent is not resent again for 9 milliseconds
abbrev pub with_linger : Bool → Settings → Settings
with_linger true settings = settings
with_linger false settings = record settings { resend_linger = 9000000 }

-- a subscriber says every 20 milliseconds how far it has come
abbrev pub with_interval : Bool → Settings → Settings
with_interval true settings = settings
with_interval false settings = record settings { status_interval = 20000000 }
