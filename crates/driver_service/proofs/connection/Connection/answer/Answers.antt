use Rattle.std.proofs.Common.{ℕ, refl, subst, sym}
use Rattle.service_records.specs.declared.request.Request.{Request}
use Rattle.driver_service.specs.Answering.{IsAnswer, KeepsRefusals}
use Rattle.driver_service.specs.Calls.{CallsOnly}
use Rattle.driver_service.specs.Requests.{IsAllowed, IsCommand, IsImage, IsLook, IsMail, IsNamed, IsOffer, IsPollOf, IsPollWithin, IsPublication, IsValue, fragments, polled_pairs}
use Rattle.driver_service.proofs.CallLemmas.{after_stay, of_answers, of_mail, of_offers, stay_alone}
use Rattle.driver_service.proofs.GatherLemmas.{of_polls}
use Rattle.driver_service.proofs.RoundLemmas.{of_rounds}
use Rattle.driver_service.proofs.connection.Connection.answer.Goals as goal

pub returns-in-Command : goal.returns-in-Command
returns-in-Command g c =
    let calls = of_answers g.S.Seat.does (IsCommand c.args.tail.now) c.stay.new.self c.command.new.self.seat c.args.out.now.items c.command.new.out.items c.command.result c.command.ensures.answers in
    record {
      calls =
          subst (λ (r : Request). CallsOnly g.S.Seat.does (IsAllowed r c.args.tail.now) c.args.self.now.seat c.command.new.self.seat) (sym c.in-Command.is)
          (after_stay g.S.Seat.does (IsCommand c.args.tail.now) c.args.self.now.seat c.stay.new.self c.command.new.self.seat c.stay.ensures calls);
      answered = record {
        heard = c.stay.new.self;
        stays = c.stay.ensures;
        kept = subst (λ (r : Request). KeepsRefusals r c.args.self.now.refusals c.command.new.self.refusals) (sym c.in-Command.is) c.command.ensures.refusals;
        answer =
            subst (λ (r : Request). IsAnswer g.S.Seat.does r c.args.tail.now c.args.self.now.refusals c.command.new.self.refusals c.stay.new.self c.command.new.self.seat c.args.out.now.items c.command.new.out.items c.command.result) (sym c.in-Command.is) c.command.ensures.answers;
      };
    }

pub returns-in-Poll : goal.returns-in-Poll
returns-in-Poll g c =
    let calls = of_polls g.S.Seat.does c.in-Poll.subscription c.in-Poll.source c.in-Poll.limit c.stay.new.self c.answer_poll.new.self.seat c.args.out.now.items c.answer_poll.new.out.items c.answer_poll.result c.answer_poll.ensures.answers in
    record {
      calls =
          subst (λ (r : Request). CallsOnly g.S.Seat.does (IsAllowed r c.args.tail.now) c.args.self.now.seat c.answer_poll.new.self.seat) (sym c.in-Poll.is)
          (after_stay g.S.Seat.does (IsPollWithin c.in-Poll.subscription c.in-Poll.source (fragments c.in-Poll.limit)) c.args.self.now.seat c.stay.new.self c.answer_poll.new.self.seat c.stay.ensures calls);
      answered = record {
        heard = c.stay.new.self;
        stays = c.stay.ensures;
        kept = subst (λ (r : Request). KeepsRefusals r c.args.self.now.refusals c.answer_poll.new.self.refusals) (sym c.in-Poll.is) c.answer_poll.ensures.refusals;
        answer =
            subst (λ (r : Request). IsAnswer g.S.Seat.does r c.args.tail.now c.args.self.now.refusals c.answer_poll.new.self.refusals c.stay.new.self c.answer_poll.new.self.seat c.args.out.now.items c.answer_poll.new.out.items c.answer_poll.result) (sym c.in-Poll.is) c.answer_poll.ensures.answers;
      };
    }

pub returns-in-List : goal.returns-in-List
returns-in-List g c =
    let calls = of_answers g.S.Seat.does (IsLook) c.stay.new.self c.list.new.self.seat c.args.out.now.items c.list.new.out.items c.list.result c.list.ensures.answers in
    record {
      calls =
          subst (λ (r : Request). CallsOnly g.S.Seat.does (IsAllowed r c.args.tail.now) c.args.self.now.seat c.list.new.self.seat) (sym c.in-List.is)
          (after_stay g.S.Seat.does (IsLook) c.args.self.now.seat c.stay.new.self c.list.new.self.seat c.stay.ensures calls);
      answered = record {
        heard = c.stay.new.self;
        stays = c.stay.ensures;
        kept = subst (λ (r : Request). KeepsRefusals r c.args.self.now.refusals c.list.new.self.refusals) (sym c.in-List.is) c.list.ensures.refusals;
        answer =
            subst (λ (r : Request). IsAnswer g.S.Seat.does r c.args.tail.now c.args.self.now.refusals c.list.new.self.refusals c.stay.new.self c.list.new.self.seat c.args.out.now.items c.list.new.out.items c.list.result) (sym c.in-List.is) c.list.ensures.answers;
      };
    }

pub returns-in-Value : goal.returns-in-Value
returns-in-Value g c =
    let calls = of_answers g.S.Seat.does (IsValue c.in-Value.number) c.stay.new.self c.value.new.self.seat c.args.out.now.items c.value.new.out.items c.value.result c.value.ensures.answers in
    record {
      calls =
          subst (λ (r : Request). CallsOnly g.S.Seat.does (IsAllowed r c.args.tail.now) c.args.self.now.seat c.value.new.self.seat) (sym c.in-Value.is)
          (after_stay g.S.Seat.does (IsValue c.in-Value.number) c.args.self.now.seat c.stay.new.self c.value.new.self.seat c.stay.ensures calls);
      answered = record {
        heard = c.stay.new.self;
        stays = c.stay.ensures;
        kept = subst (λ (r : Request). KeepsRefusals r c.args.self.now.refusals c.value.new.self.refusals) (sym c.in-Value.is) c.value.ensures.refusals;
        answer =
            subst (λ (r : Request). IsAnswer g.S.Seat.does r c.args.tail.now c.args.self.now.refusals c.value.new.self.refusals c.stay.new.self c.value.new.self.seat c.args.out.now.items c.value.new.out.items c.value.result) (sym c.in-Value.is) c.value.ensures.answers;
      };
    }

pub returns-in-Offer : goal.returns-in-Offer
returns-in-Offer g c =
    let calls = of_offers g.S.Seat.does c.in-Offer.registration c.args.tail.now c.in-Offer.seen c.args.self.now.refusals c.offer.new.self.refusals c.stay.new.self c.offer.new.self.seat c.args.out.now.items c.offer.new.out.items c.offer.result c.offer.ensures in
    record {
      calls =
          subst (λ (r : Request). CallsOnly g.S.Seat.does (IsAllowed r c.args.tail.now) c.args.self.now.seat c.offer.new.self.seat) (sym c.in-Offer.is)
          (after_stay g.S.Seat.does (IsOffer c.in-Offer.registration c.args.tail.now) c.args.self.now.seat c.stay.new.self c.offer.new.self.seat c.stay.ensures calls);
      answered = record {
        heard = c.stay.new.self;
        stays = c.stay.ensures;
        kept = subst (λ (r : Request). KeepsRefusals r c.args.self.now.refusals c.offer.new.self.refusals) (sym c.in-Offer.is) (record {});
        answer =
            subst (λ (r : Request). IsAnswer g.S.Seat.does r c.args.tail.now c.args.self.now.refusals c.offer.new.self.refusals c.stay.new.self c.offer.new.self.seat c.args.out.now.items c.offer.new.out.items c.offer.result) (sym c.in-Offer.is) c.offer.ensures;
      };
    }

pub returns-in-Mail : goal.returns-in-Mail
returns-in-Mail g c =
    let gives = c.mail-taken.ensures.gives in
    let calls = of_mail g.S.Seat.does c.stay.new.self c.mail-taken.new.self.seat c.args.out.now.items c.mail-taken.new.out.items c.mail-taken.result gives in
    record {
      calls =
          subst (λ (r : Request). CallsOnly g.S.Seat.does (IsAllowed r c.args.tail.now) c.args.self.now.seat c.mail-taken.new.self.seat) (sym c.in-Mail.is)
          (after_stay g.S.Seat.does IsMail c.args.self.now.seat c.stay.new.self c.mail-taken.new.self.seat c.stay.ensures calls);
      answered = record {
        heard = c.stay.new.self;
        stays = c.stay.ensures;
        kept = subst (λ (r : Request). KeepsRefusals r c.args.self.now.refusals c.mail-taken.new.self.refusals) (sym c.in-Mail.is) c.mail-taken.ensures.refusals;
        answer =
            subst (λ (r : Request). IsAnswer g.S.Seat.does r c.args.tail.now c.args.self.now.refusals c.mail-taken.new.self.refusals c.stay.new.self c.mail-taken.new.self.seat c.args.out.now.items c.done.new.out.items c.done.result) (sym c.in-Mail.is) (record {
              gave = c.mail-taken.result;
              between = c.mail-taken.new.out.items;
              gives = gives;
              answered = c.done.ensures;
            });
      };
    }

pub returns-in-Stop : goal.returns-in-Stop
returns-in-Stop g c = record {
  calls = stay_alone g.S.Seat.does (IsNamed c.args.request c.args.tail.now) c.args.self.now.seat c.stay.new.self c.stay.ensures;
  answered = record {
    heard = c.stay.new.self;
    stays = c.stay.ensures;
    kept = subst (λ (r : Request). KeepsRefusals r c.args.self.now.refusals c.args.self.now.refusals) (sym c.in-Stop.is) refl;
    answer =
        subst (λ (r : Request). IsAnswer g.S.Seat.does r c.args.tail.now c.args.self.now.refusals c.args.self.now.refusals c.stay.new.self c.stay.new.self c.args.out.now.items c.refuse.new.out.items c.refuse.result) (sym c.in-Stop.is) (record { same = refl; answered = c.refuse.ensures });
  };
}

pub returns-in-Reload : goal.returns-in-Reload
returns-in-Reload g c = record {
  calls = stay_alone g.S.Seat.does (IsNamed c.args.request c.args.tail.now) c.args.self.now.seat c.stay.new.self c.stay.ensures;
  answered = record {
    heard = c.stay.new.self;
    stays = c.stay.ensures;
    kept = subst (λ (r : Request). KeepsRefusals r c.args.self.now.refusals c.args.self.now.refusals) (sym c.in-Reload.is) refl;
    answer =
        subst (λ (r : Request). IsAnswer g.S.Seat.does r c.args.tail.now c.args.self.now.refusals c.args.self.now.refusals c.stay.new.self c.stay.new.self c.args.out.now.items c.refuse-in-Reload.new.out.items c.refuse-in-Reload.result) (sym c.in-Reload.is) (record { same = refl; answered = c.refuse-in-Reload.ensures });
  };
}

pub returns-in-Status : goal.returns-in-Status
returns-in-Status g c = record {
  calls = stay_alone g.S.Seat.does (IsNamed c.args.request c.args.tail.now) c.args.self.now.seat c.stay.new.self c.stay.ensures;
  answered = record {
    heard = c.stay.new.self;
    stays = c.stay.ensures;
    kept = subst (λ (r : Request). KeepsRefusals r c.args.self.now.refusals c.args.self.now.refusals) (sym c.in-Status.is) refl;
    answer =
        subst (λ (r : Request). IsAnswer g.S.Seat.does r c.args.tail.now c.args.self.now.refusals c.args.self.now.refusals c.stay.new.self c.stay.new.self c.args.out.now.items c.refuse-in-Status.new.out.items c.refuse-in-Status.result) (sym c.in-Status.is) (record { same = refl; answered = c.refuse-in-Status.ensures });
  };
}

pub returns-in-Decisions : goal.returns-in-Decisions
returns-in-Decisions g c = record {
  calls = stay_alone g.S.Seat.does (IsNamed c.args.request c.args.tail.now) c.args.self.now.seat c.stay.new.self c.stay.ensures;
  answered = record {
    heard = c.stay.new.self;
    stays = c.stay.ensures;
    kept = subst (λ (r : Request). KeepsRefusals r c.args.self.now.refusals c.args.self.now.refusals) (sym c.in-Decisions.is) refl;
    answer =
        subst (λ (r : Request). IsAnswer g.S.Seat.does r c.args.tail.now c.args.self.now.refusals c.args.self.now.refusals c.stay.new.self c.stay.new.self c.args.out.now.items c.refuse-in-Decisions.new.out.items c.refuse-in-Decisions.result) (sym c.in-Decisions.is) (record { same = refl; answered = c.refuse-in-Decisions.ensures });
  };
}

pub returns-in-PollAll-clause-calls : goal.returns-in-PollAll-clause-calls
returns-in-PollAll-clause-calls g c =
    let pairs = polled_pairs c.args.tail.now in
    let limit = fragments c.in-PollAll.limit in
    let calls = of_rounds g.S.Seat.does c.in-PollAll.limit pairs c.stay.new.self c.answer_rounds.new.seat c.args.out.now.items c.answer_rounds.new.out.items c.answer_rounds.result c.answer_rounds.ensures in
    subst (λ (r : Request). CallsOnly g.S.Seat.does (IsAllowed r c.args.tail.now) c.args.self.now.seat c.answer_rounds.new.seat) (sym c.in-PollAll.is)
    (after_stay g.S.Seat.does (IsPollOf limit pairs) c.args.self.now.seat c.stay.new.self c.answer_rounds.new.seat c.stay.ensures calls)

pub returns-in-PublicationPositions : goal.returns-in-PublicationPositions
returns-in-PublicationPositions g c =
    let calls = of_answers g.S.Seat.does (IsPublication c.in-PublicationPositions.registration) c.stay.new.self c.publication_positions.new.self.seat c.args.out.now.items c.publication_positions.new.out.items c.publication_positions.result c.publication_positions.ensures.answers in
    record {
      calls =
          subst (λ (r : Request). CallsOnly g.S.Seat.does (IsAllowed r c.args.tail.now) c.args.self.now.seat c.publication_positions.new.self.seat) (sym c.in-PublicationPositions.is)
          (after_stay g.S.Seat.does (IsPublication c.in-PublicationPositions.registration) c.args.self.now.seat c.stay.new.self c.publication_positions.new.self.seat c.stay.ensures calls);
      answered = record {
        heard = c.stay.new.self;
        stays = c.stay.ensures;
        kept = subst (λ (r : Request). KeepsRefusals r c.args.self.now.refusals c.publication_positions.new.self.refusals) (sym c.in-PublicationPositions.is) c.publication_positions.ensures.refusals;
        answer =
            subst (λ (r : Request). IsAnswer g.S.Seat.does r c.args.tail.now c.args.self.now.refusals c.publication_positions.new.self.refusals c.stay.new.self c.publication_positions.new.self.seat c.args.out.now.items c.publication_positions.new.out.items c.publication_positions.result) (sym c.in-PublicationPositions.is) c.publication_positions.ensures.answers;
      };
    }

pub returns-in-ImagePositions : goal.returns-in-ImagePositions
returns-in-ImagePositions g c =
    let calls = of_answers g.S.Seat.does (IsImage c.in-ImagePositions.subscription c.in-ImagePositions.source) c.stay.new.self c.image_positions.new.self.seat c.args.out.now.items c.image_positions.new.out.items c.image_positions.result c.image_positions.ensures.answers in
    record {
      calls =
          subst (λ (r : Request). CallsOnly g.S.Seat.does (IsAllowed r c.args.tail.now) c.args.self.now.seat c.image_positions.new.self.seat) (sym c.in-ImagePositions.is)
          (after_stay g.S.Seat.does (IsImage c.in-ImagePositions.subscription c.in-ImagePositions.source) c.args.self.now.seat c.stay.new.self c.image_positions.new.self.seat c.stay.ensures calls);
      answered = record {
        heard = c.stay.new.self;
        stays = c.stay.ensures;
        kept = subst (λ (r : Request). KeepsRefusals r c.args.self.now.refusals c.image_positions.new.self.refusals) (sym c.in-ImagePositions.is) c.image_positions.ensures.refusals;
        answer =
            subst (λ (r : Request). IsAnswer g.S.Seat.does r c.args.tail.now c.args.self.now.refusals c.image_positions.new.self.refusals c.stay.new.self c.image_positions.new.self.seat c.args.out.now.items c.image_positions.new.out.items c.image_positions.result) (sym c.in-ImagePositions.is) c.image_positions.ensures.answers;
      };
    }
