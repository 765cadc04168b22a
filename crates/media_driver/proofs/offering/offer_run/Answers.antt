use Rattle.std.proofs.Common.{rules, ◌≡◌, ℕ, List, Some, None, Result, is_some, subst, inl, inr}
use Rattle.media_agents.proofs.LookLemmas.{continues, stays_known}
use Rattle.media_driver.proofs.RunLemmas.{run_ends, run_full, went_more, went_none}
use Rattle.media_driver.specs.Clients.{Attached}
use Rattle.media_driver.specs.Runs.{IsOffered, with_offer}
use Rattle.media_driver.specs.declared.faults.OfferFault.{OfferFault}
use Rattle.media_driver.proofs.offering.offer_run.Goals as goal

pub loop-taken-init : goal.loop-taken-init
loop-taken-init g c = record {
  known = stays_known c.args.pass;
  part = c.requires.part;
  right = c.requires.right;
  remembered = c.requires.remembered;
  offers = λ attached same. went_none g.M.Messages.next_is g.M.Messages.went g.N.Naming.home c.args.registration c.args.messages.now _;
}

pub returns-in_default-clause-known : goal.returns-in_default-clause-known
returns-in_default-clause-known g c = c.loop-taken.invariant.known

pub returns-in_default-clause-part : goal.returns-in_default-clause-part
returns-in_default-clause-part g c = c.loop-taken.invariant.part

pub returns-in_default-clause-right : goal.returns-in_default-clause-right
returns-in_default-clause-right g c = c.loop-taken.invariant.right

pub returns-in_default-clause-remembered : goal.returns-in_default-clause-remembered
returns-in_default-clause-remembered g c = c.loop-taken.invariant.remembered

pub returns-in_default-clause-offers : goal.returns-in_default-clause-offers
returns-in_default-clause-offers g c attached same =
    let none : g.M.Messages.next_is c.loop-taken.messages ≡ None = search rules in
    run_full g.M.Messages.next_is g.M.Messages.went g.N.Naming.home c.args.registration c.args.most c.loop-taken._taken _ c.args.messages.now c.loop-taken.messages _ _
    (c.loop-taken.invariant.offers attached same) (inl none)

pub offer_one-next-requires-clause-part : goal.offer_one-next-requires-clause-part
offer_one-next-requires-clause-part g c = c.loop-taken.invariant.part

pub offer_one-next-requires-clause-right : goal.offer_one-next-requires-clause-right
offer_one-next-requires-clause-right g c = c.loop-taken.invariant.right

pub offer_one-next-requires-clause-remembered : goal.offer_one-next-requires-clause-remembered
offer_one-next-requires-clause-remembered g c = c.loop-taken.invariant.remembered

pub returns-in-Err-clause-known : goal.returns-in-Err-clause-known
returns-in-Err-clause-known g c = continues c.loop-taken.invariant.known c.offer_one-next.ensures.known

pub returns-in-Err-clause-offers : goal.returns-in-Err-clause-offers
returns-in-Err-clause-offers g c attached same =
    let message : List ℕ = c.in-Some.message.now in
    let here : g.M.Messages.next_is c.loop-taken.messages ≡ Some message = search rules in
    let at = c.offer_one-next in
    let before : Attached = with_offer attached c.loop-taken.pass c.args.now c.loop-taken.mine.number (is_some c.loop-taken.ended) c.loop-taken.audit in
    let after : Attached = with_offer attached at.result.0 c.args.now at.new.mine.number (is_some at.new.ended) at.new.audit in
    run_ends g.M.Messages.next_is g.M.Messages.went g.N.Naming.home c.args.registration c.args.most c.loop-taken._taken message c.in-Err.fault c.args.messages.now c.loop-taken.messages _ before after
    (c.loop-taken.invariant.offers attached same) here
    (subst (λ (result : Result ℕ OfferFault). IsOffered g.N.Naming.home c.args.registration message result before after) c.in-Err.is (at.ensures.offered attached same))

pub loop-taken-preserved : goal.loop-taken-preserved
loop-taken-preserved g c =
    let message : List ℕ = c.in-Some.message.now in
    let here : g.M.Messages.next_is c.loop-taken.messages ≡ Some message = search rules in
    let at = c.offer_one-next in
    record {
      known = continues c.loop-taken.invariant.known at.ensures.known;
      part = at.ensures.part;
      right = at.ensures.right;
      remembered = at.ensures.remembered;
      offers = λ attached same.
          let before : Attached = with_offer attached c.loop-taken.pass c.args.now c.loop-taken.mine.number (is_some c.loop-taken.ended) c.loop-taken.audit in
          let after : Attached = with_offer attached at.result.0 c.args.now at.new.mine.number (is_some at.new.ended) at.new.audit in
          went_more g.M.Messages.next_is g.M.Messages.went g.N.Naming.home c.args.registration c.loop-taken._taken c.in-Ok.position message c.args.messages.now c.loop-taken.messages c.taken.new.self _ before after
          (c.loop-taken.invariant.offers attached same) here c.taken.ensures
          (subst (λ (result : Result ℕ OfferFault). IsOffered g.N.Naming.home c.args.registration message result before after) c.in-Ok.is (at.ensures.offered attached same));
    }

pub returns-clause-known : goal.returns-clause-known
returns-clause-known g c = c.loop-taken.invariant.known

pub returns-clause-part : goal.returns-clause-part
returns-clause-part g c = c.loop-taken.invariant.part

pub returns-clause-right : goal.returns-clause-right
returns-clause-right g c = c.loop-taken.invariant.right

pub returns-clause-remembered : goal.returns-clause-remembered
returns-clause-remembered g c = c.loop-taken.invariant.remembered

pub returns-clause-offers : goal.returns-clause-offers
returns-clause-offers g c attached same =
    let all : c.loop-taken._taken ≡ c.args.most = search rules in
    run_full g.M.Messages.next_is g.M.Messages.went g.N.Naming.home c.args.registration c.args.most c.loop-taken._taken _ c.args.messages.now c.loop-taken.messages _ _
    (c.loop-taken.invariant.offers attached same) (inr all)
