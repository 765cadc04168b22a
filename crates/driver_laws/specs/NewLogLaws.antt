-- A log that was not there before a step and is there after it has no frame, and zeros alone. Own rules.
use Rattle.std.specs.Prelude.{◌≡◌, ℕ, ◌*◌, List, [], replicate, slice_index, Some, None}
use Rattle.driver_core.specs.State.{State}
use Rattle.driver_laws.specs.OlderLaws.{AtEachRegistry}
use Rattle.driver_laws.specs.WorldLaws.{AtEachRegistryOfAWorld}
use Rattle.driver_steps.specs.declared.step.Step.{Step}
use Rattle.driver_steps.specs.Ends.{log_at, moved_by, RunEnd}
use Rattle.log_steps.specs.Moves.{WholeLog}
use Rattle.image_log.specs.Rebuilt.{Rebuilt}
use Rattle.image_log.specs.Stored.{IsBlank}
use Rattle.log_traffic.specs.Whole.{AnyWhole, whole, rebuilt}
use Rattle.term_log.specs.Log.{Log}
use Rattle.term_log.specs.Whole.{Stands, Whole}

-- A publication's log has no frame, and its sender stands at its start. Whatever log is held for it, the bytes of its three terms
-- are zeros.
pub record HasNoFrame (w : Whole) : Type 0 where
  pub frames : w.frames ≡ []
  pub sender : w.sender.position ≡ w.ident.start
  pub zeros : (held : Log) → Stands held w → held.kept.buffers.bytes ≡ replicate (3 * w.ident.term_length) 0

-- An image's map of frames has no entry. Whatever bytes are zeros outside of its frames, as `ImageLog::close` says of its lease,
-- are zeros alone. (While its log is open `ImageLog::holds` says so of it.)
pub record HasNoEntry (r : Rebuilt) : Type 0 where
  pub frames : r.frames ≡ []
  pub zeros : (len : ℕ) (bytes : List ℕ) → IsBlank len r.frames bytes → (at : ℕ) → slice_index bytes at ≡ 0

abbrev pub IsEmpty : AnyWhole → Type 0
IsEmpty (whole w) = HasNoFrame w
IsEmpty (rebuilt r) = HasNoEntry r

-- whichever step it is that opens a log, by whichever registry
pub record OpensEmptyLogs (s : State) (e : RunEnd) : Type 0 where
  pub opens :
      (step : Step) (source : ℕ) (log : WholeLog) → log_at e.logs source ≡ None →
      log_at (moved_by s e step).after.logs source ≡ Some log → IsEmpty log.whole

-- at the end of every run, of a driver and of a world
pub record NewLogsAreEmpty : Type 0 where
  pub of_drivers : AtEachRegistry OpensEmptyLogs
  pub of_worlds : AtEachRegistryOfAWorld OpensEmptyLogs
