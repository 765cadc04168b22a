use Rattle.std.proofs.Common.{rules, ◌≡◌, ◌≤◌, Some, None, is_some, refl, sym, ap, ◌∙◌, inl, inr}
use Rattle.media_driver.proofs.RunLemmas.{begins_run, none_run, refused_run, still_closed, still_unseen}
use Rattle.media_driver.specs.Clients.{Attached}
use Rattle.media_driver.specs.declared.faults.OfferFault.TheVariants.{Closed, NoLook}
use Rattle.published_registry.specs.Histories.{history_in}
use Rattle.rtrb.specs.Ring.{known_items, received}
use Rattle.media_driver.proofs.client.Client.offer_many.Goals as goal

pub returns-then-most-eq0 : goal.returns-then-most-eq0
returns-then-most-eq0 g c =
    let all : 0 ≡ c.args.most = search rules in
    none_run g.M.Messages.next_is g.M.Messages.went g.N.Naming.home c.args.registration c.args.most _ c.args.messages.now c.args.self.now (inr all)

pub returns-in_default : goal.returns-in_default
returns-in_default g c =
    let none : g.M.Messages.next_is c.args.messages.now ≡ None = search rules in
    none_run g.M.Messages.next_is g.M.Messages.went g.N.Naming.home c.args.registration c.args.most _ c.args.messages.now c.args.self.now (inl none)

pub returns-in_default-log_of : goal.returns-in_default-log_of
returns-in_default-log_of g c =
    let here : g.M.Messages.next_is c.args.messages.now ≡ Some c.in-Some._first.now = search rules in
    refused_run g.M.Messages.next_is g.M.Messages.went g.N.Naming.home c.args.registration _ c.args.most c.in-Some._first.now NoLook c.args.messages.now c.args.self.now c.log_of.new.self c.log_of.ensures here
    (still_unseen g.N.Naming.home c.args.registration c.in-Some._first.now c.log_of.new.self)

pub returns-in_default-found : goal.returns-in_default-found
returns-in_default-found g c =
    let here : g.M.Messages.next_is c.args.messages.now ≡ Some c.in-Some._first.now = search rules in
    refused_run g.M.Messages.next_is g.M.Messages.went g.N.Naming.home c.args.registration _ c.args.most c.in-Some._first.now Closed c.args.messages.now c.args.self.now c.log_of.new.self c.log_of.ensures here
    (still_closed g.N.Naming.home c.args.registration c.in-Some._first.now c.log_of.new.self)

pub returns-in_default-get : goal.returns-in_default-get
returns-in_default-get g c =
    let here : g.M.Messages.next_is c.args.messages.now ≡ Some c.in-Some._first.now = search rules in
    refused_run g.M.Messages.next_is g.M.Messages.went g.N.Naming.home c.args.registration _ c.args.most c.in-Some._first.now NoLook c.args.messages.now c.args.self.now c.log_of.new.self c.log_of.ensures here
    (still_unseen g.N.Naming.home c.args.registration c.in-Some._first.now c.log_of.new.self)

pub returns : goal.returns
returns g c =
    let inside = c.self.inside in
    let at : Attached = record {
      number = inside.number;
      correlation = inside.correlation;
      moment = inside.moment;
      known = history_in inside.pass;
      commands = inside.queue;
      taken = received inside.mails;
      waiting = known_items inside.mails;
      counted = inside.counted.number;
      ended = is_some inside.ended;
      audited = inside.audit;
    } in
    let pass = c.in-Some-take.pass in
    let now = c.offer_moment-now.result in
    let known : history_in inside.pass ≡ pass = ap history_in (sym c.take.ensures.value ∙ c.in-Some-take.is) in
    let later : inside.moment ≤ now = search rules in
    record {
      begun = record at { known = pass; moment = now };
      begins = begins_run c.args.self.now c.log_of.new.self at pass now c.log_of.ensures c.self.view_is known later;
      offers = c.offer_run-pass.ensures.offers at refl;
    }
