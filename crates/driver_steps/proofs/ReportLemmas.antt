-- A turn of the receiver goes to the log of the image of that number.
use Rattle.std.proofs.Common.{◌≡◌, ℕ, List, Option, Some, None, refl, sym, ap, ◌∙◌}
use Rattle.channel_uri.specs.declared.address.Address.{Address}
use Rattle.driver_core.specs.PublicationRequests.{publisher_of}
use Rattle.driver_core.specs.State.{State}
use Rattle.log_steps.specs.declared.answer.Answer.TheVariants.{Gone}
use Rattle.driver_steps.specs.Ends.{RunEnd, Moved, log_at, moved_on, on_log, on_report, with_log}
use Rattle.log_steps.specs.Moves.{WholeLog}
use Rattle.log_steps.specs.Reporting.{image_move, report_by, report_move}
use Rattle.driver_steps.proofs.FoundLemmas.{found_source, with_same}

reported_log : (s : State) (e : RunEnd) (now source : ℕ) (log : WholeLog) (to : Option Address) → log_at e.logs source ≡ Some log →
    (let moved : Moved = record {
      after = record e { logs = with_log e.logs source (report_by s now log to).after };
      answer = (report_by s now log to).answer;
    } in moved) ≡ on_report s e now source to
unfolding on_log
reported_log s e now source log None is =
    ap (λ (logs : List WholeLog). let moved : Moved = record { after = record e { logs = logs }; answer = Gone } in moved) (with_same source log e.logs is)
reported_log s e now source log (Some to) is =
    ap (λ (there : Option WholeLog). moved_on e source (report_move now s.settings.receiver_id to) Gone there) (sym is)

reported_found : (s : State) (e : RunEnd) (now source : ℕ) (there : Option WholeLog) → log_at e.logs source ≡ there →
    moved_on e source (image_move s now) Gone there ≡ on_report s e now source (publisher_of s source)
unfolding on_log
reported_found s e now source None is = none (publisher_of s source)
  where
    none : (to : Option Address) → (let moved : Moved = record { after = e; answer = Gone } in moved) ≡ on_report s e now source to
    none None = refl
    none (Some to) = ap (λ (there : Option WholeLog). moved_on e source (report_move now s.settings.receiver_id to) Gone there) (sym is)
reported_found s e now source (Some log) is =
    ap (λ (n : ℕ). let moved : Moved = record {
      after = record e { logs = with_log e.logs source (report_by s now log (publisher_of s n)).after };
      answer = (report_by s now log (publisher_of s n)).answer;
    } in moved) (found_source source log e.logs is)
    ∙ reported_log s e now source log (publisher_of s source) is

pub report_goes : (s : State) (e : RunEnd) (now source : ℕ) →
    on_log e source (image_move s now) Gone ≡ on_report s e now source (publisher_of s source)
unfolding on_log
report_goes s e now source = reported_found s e now source (log_at e.logs source) refl
