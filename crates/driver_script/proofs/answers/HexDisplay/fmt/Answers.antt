use Rattle.std.proofs.Common.{arith, rules}
use Rattle.std.proofs.Output.{has_written_append, has_written_of_eq}
use Rattle.driver_script.proofs.AnswersLemmas.{byte_text-more}
use Rattle.driver_script.proofs.answers.HexDisplay.fmt.Goals as goal

pub loop-byte-preserved : goal.loop-byte-preserved
loop-byte-preserved g c = λ plain.
    has_written_of_eq _ _ _ _ _ (byte_text-more c.args.self.now.0.now c.loop-byte.byte-index c.loop-byte-test.true (omega arith))
    (has_written_append _ _ _ _ _ _ (c.loop-byte.invariant plain) (search rules))
