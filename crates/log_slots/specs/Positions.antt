-- How far the log of a slot has come, and those that read it or report on it (Aeron Transport Protocol Specification, flow
-- control by status messages). Which receivers are counted is this project's own rule.
use Rattle.std.specs.Prelude.{ℕ, Bool, true, false, List, Option, Some, None}
use Rattle.std.specs.Option.{option_map}
use Rattle.channel_uri.specs.declared.address.Address.{Address}
use Rattle.log_steps.specs.declared.answer.Answer.{Answer}
use Rattle.log_steps.specs.declared.answer.Answer.TheVariants.{Limited}
use Rattle.log_steps.specs.Held.{HeldLog}
use Rattle.frame_codec.specs.Datagram.{Content, status}
use Rattle.log_slots.specs.declared.positions.PublicationPositions.{PublicationPositions}
use Rattle.log_slots.specs.declared.positions.ReadingPositions.{ReadingPositions}
use Rattle.log_slots.specs.Slots.{SlotLog, log_of}
use Rattle.log_traffic.specs.Held.{position_held, reach_held}
use Rattle.log_traffic.specs.Progress.{consumed_held, progress_held}
use Rattle.log_traffic.specs.declared.progress.Progress.{Progress}
use Rattle.receiver_reports.specs.declared.report.Report.{Report}
use Rattle.receiver_reports.specs.Reports.{least_of, noted}

-- ---- a receiver reports

-- up to which position it has taken all, by a status message
abbrev pub consumed_by : Content → HeldLog → Option ℕ
consumed_by (status fields) held = consumed_held fields held.log
consumed_by content held = None

abbrev pub consumed_in : Content → Option HeldLog → Option ℕ
consumed_in content None = None
consumed_in content (Some held) = consumed_by content held

-- the log accepted it
abbrev pub is_limit : Answer → Bool
is_limit (Limited limit) = true
is_limit answer = false

-- a report counts where the log accepted it
abbrev pub noted_if : Bool → Option ℕ → ℕ → Address → List Report → List Report
noted_if true (Some position) now from reports = noted now from position reports
noted_if true None now from reports = reports
noted_if false position now from reports = reports

-- ---- how far the log has come

abbrev pub counted_as : Progress → Option ℕ → PublicationPositions
counted_as progress consumed = record {
  position = progress.position;
  limit = progress.limit;
  sent = progress.sent;
  consumed = consumed;
  connected = progress.connected;
}

abbrev pub progress_by : ℕ → ℕ → Option HeldLog → Option Progress
progress_by now timeout None = None
progress_by now timeout (Some held) = progress_held now timeout held.log

abbrev pub progress_in : ℕ → ℕ → ℕ → SlotLog → Option Progress
progress_in source now timeout slot = progress_by now timeout (log_of source slot)

-- with what the receivers have taken that were heard within the timeout
abbrev pub positions_in : ℕ → ℕ → ℕ → SlotLog → List Report → Option PublicationPositions
positions_in source now timeout slot reports =
    option_map (λ progress. counted_as progress (least_of now timeout reports)) (progress_in source now timeout slot)

-- ---- how far a subscription has come with it

abbrev pub reading_from : ℕ → Option ℕ → Option ReadingPositions
reading_from received None = None
reading_from received (Some position) = Some (record { position = position; received = received })

abbrev pub reading_by : ℕ → Option HeldLog → Option ReadingPositions
reading_by subscription None = None
reading_by subscription (Some held) = reading_from (reach_held held.log) (position_held held.log subscription)

abbrev pub reading_in : ℕ → ℕ → SlotLog → Option ReadingPositions
reading_in source subscription slot = reading_by subscription (log_of source slot)
