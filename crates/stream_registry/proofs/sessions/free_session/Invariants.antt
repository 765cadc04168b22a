use Rattle.std.proofs.Common.{◌≡◌, drop}
use Rattle.stream_registry.specs.Sessions.{free_from}
use Rattle.stream_registry.proofs.sessions.free_session.Given as goal

-- the tries that are left find it
abbrev pub invariant-loop-other : goal.invariant-loop-other
invariant-loop-other l =
    free_from (drop l._other-index l.logs) l.logs l.session ≡ free_from l.logs l.logs l.first
