use Rattle.driver_service.proofs.connection.Connection.answer_poll.Goals as goal

pub returns : goal.returns
returns g c = record {
  answers = record { gave = c.poll-polled.result; between = c.poll-polled.new.out.items; polls = c.poll-polled.ensures.polls; answered = c.done.ensures };
  refusals = c.poll-polled.ensures.refusals;
}
