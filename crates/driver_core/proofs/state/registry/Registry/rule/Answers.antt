use Rattle.std.proofs.Common.{sym}
use Rattle.driver_core.proofs.state.registry.Registry.rule.Goals as goal

pub returns-then-is_ruled_so : goal.returns-then-is_ruled_so
returns-then-is_ruled_so c = sym (c.is_ruled_so.ensures c.if-is_ruled_so.true)
