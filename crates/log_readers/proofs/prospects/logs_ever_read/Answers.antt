use Rattle.std.proofs.Common.{List, arith, length, sym, ap, ◌∙◌}
use Rattle.stream_registry.specs.declared.pairs.Pair.{Pair}
use Rattle.stream_registry.specs.Wish.{row_of}
use Rattle.log_readers.proofs.ProspectFitting.{ever_reads_none}
use Rattle.policy_core.specs.Moments.{at, coming}
use Rattle.log_readers.proofs.prospects.logs_ever_read.Goals as goal

pub returns-then-not-is_ever_allowed : goal.returns-then-not-is_ever_allowed
returns-then-not-is_ever_allowed c = record {
  exact =
      ap (λ (pairs : List Pair). length pairs)
      (sym (ever_reads_none c.args.clients.now.rows (at c.args.policy.now c.args.moment) (coming c.args.policy.now c.args.moment) c.args.epoch (row_of c.args.wish.now) c.args.streams.now.sources
      (sym c.is_ever_allowed.ensures ∙ c.if-not-is_ever_allowed.true)));
  few = omega arith;
}
