use Rattle.std.proofs.Common.{rules, ◌≡◌, true, false, nat_lt, length}
use Rattle.term_log.specs.Log.{appended, connected_of, greatest_message}
use Rattle.log_steps.proofs.MoveLemmas.{offer_alone, offer_taken, appended_lies}
use Rattle.log_steps.proofs.offering.offer_to.Goals as goal

pub returns-then-not-connected-clause-does : goal.returns-then-not-connected-clause-does
returns-then-not-connected-clause-does c =
    let allowed : c.args.verdict.allow ≡ true = search rules in
    let short : nat_lt (greatest_message c.args.log.now.kept.ident) (length c.args.message.now) ≡ false = search rules in
    let alone : connected_of c.args.log.now c.args.now c.args.timeout ≡ false = search rules in
    offer_alone c.args.now c.args.timeout c.args.verdict c.args.message.now c.args.log.now allowed short alone

pub returns-clause-does : goal.returns-clause-does
returns-clause-does c =
    let allowed : c.args.verdict.allow ≡ true = search rules in
    let short : nat_lt (greatest_message c.args.log.now.kept.ident) (length c.args.message.now) ≡ false = search rules in
    let read : connected_of c.args.log.now c.args.now c.args.timeout ≡ true = search rules in
    rw c.of.ensures
    (offer_taken c.args.now c.args.timeout c.args.verdict c.args.message.now c.args.log.now c.offer.new.self c.offer.result allowed short read
    c.offer.ensures.whole)

pub returns-clause-lies : goal.returns-clause-lies
returns-clause-lies c =
    rw c.offer.ensures.exact (appended_lies c.args.log.now (appended c.offer.result c.args.log.now.kept c.args.message.now))
