-- What datagrams do with the log of an image. Own rules.
use Rattle.std.specs.Prelude.{ℕ, List}
use Rattle.driver_core.specs.declared.asked.image_request.Astray.TheVariants.{NoStream}
use Rattle.log_steps.specs.declared.answer.Answer.{Answer}
use Rattle.log_steps.specs.declared.answer.Answer.TheVariants.{Dropped, Heard, Received}
use Rattle.log_steps.specs.declared.cause.Cause.TheVariants.{Astray}
use Rattle.log_steps.specs.Moves.{Move, WholeLog}
use Rattle.frame_codec.specs.declared.header.TermPlace.{TermPlace}
use Rattle.frame_codec.specs.Frame.{Sent}
use Rattle.log_traffic.specs.Whole.{beaten, received, words_in}

-- the frames of a datagram come
abbrev pub receive_move : ℕ → List Sent → WholeLog → Move
receive_move now frames log = record {
  after = record log { whole = received now frames log.whole };
  answer = Received (words_in frames log.whole);
}

-- a heartbeat comes
abbrev pub beat_move : ℕ → TermPlace → WholeLog → Move
beat_move now place log = record { after = record log { whole = beaten now place log.whole }; answer = Heard }

-- no open log is the image's
abbrev pub unheard : Answer
unheard = Dropped (Astray NoStream)
