use Rattle.std.proofs.Common.{◌≡◌, drop}
use Rattle.std.specs.List.{list_any}
use Rattle.stream_registry.specs.Sessions.{has_session_at}
use Rattle.stream_registry.proofs.sessions.is_used_at.Given as goal

-- the logs that are left decide
abbrev pub invariant-loop-log : goal.invariant-loop-log
invariant-loop-log l =
    list_any (has_session_at l.media l.stream l.session) (drop l.log-index l.logs)
    ≡ list_any (has_session_at l.media l.stream l.session) l.logs
