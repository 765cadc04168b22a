use Rattle.std.proofs.Common.{ap, ◌∙◌, arith}
use Rattle.std.proofs.Common.{ℕ, ◌+◌, ◌-◌}
use Rattle.image_log.proofs.Offsets.{behind_offset, past_end}
use Rattle.image_log.proofs.store.start_in.Goals as goal

pub returns-then-at-len : goal.returns-then-at-len
returns-then-at-len c =
    ap (λ (n : ℕ). n + (c.args.position - c.args.low)) c.requires.offset
    ∙ behind_offset c.args.len c.args.low c.args.position c.requires.some (omega arith) (omega (arith, c.requires.offset))

pub returns-else-at-len : goal.returns-else-at-len
returns-else-at-len c =
    ap (λ (n : ℕ). n + (c.args.position - c.args.low) - c.args.len) c.requires.offset
    ∙ past_end c.args.len c.args.low c.args.position c.requires.some (omega arith) (omega arith) (omega (arith, c.requires.offset))
