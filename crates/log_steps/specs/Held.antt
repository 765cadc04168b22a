-- A log that is held open, and where it lies. Own rules.
use Rattle.std.specs.Prelude.{◌≡◌, ℕ}
use Rattle.log_steps.specs.Plots.{Plot}
use Rattle.log_steps.specs.Recovery.{Recovering}
use Rattle.log_traffic.specs.declared.any_log.AnyLog.{AnyLog}
use Rattle.log_traffic.specs.Held.{Place, made_held, place_held}

-- a log, by its source number, and what is kept beside it
pub record HeldLog : Type 0 where
  pub source : ℕ
  pub log : AnyLog
  pub recovery : Recovering

-- ---- the memory

-- where the log lies
abbrev pub plot_on : ℕ → Place → Plot
plot_on source place =
    record { source = source; home = place.home; place = place.place; term_length = place.term_length }

abbrev pub plot_of : HeldLog → Plot
plot_of held = plot_on held.source (place_held held.log)

-- the log lies where it lay, and is made for what it was made for
pub record LiesAsBefore (old new : HeldLog) : Type 0 where
  pub plot_is : plot_of new ≡ plot_of old
  pub made_is : made_held new.log ≡ made_held old.log
