use Rattle.policy_diff.proofs.narrowing.scope_of.Goals as goal

pub returns : goal.returns
returns c = λ question stream is.
    c.narrowed-2.ensures _ _ question
    (c.narrowed.ensures c.args.old.now.policy c.args.new.now.policy question
    (record { asker = tt; act = c.every.ensures.all question.act; low = stream.low; high = stream.high }) is.by_old)
    is.by_new
