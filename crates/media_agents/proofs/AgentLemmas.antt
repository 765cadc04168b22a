-- Turns of the agents of the wire, part by part.
use Rattle.std.proofs.Common.{◌≡◌, ℕ, List, ◌++◌, ap, ap₂, ◌∙◌}
use Rattle.channel_uri.specs.declared.address.Address.{Address}
use Rattle.media_agents.specs.Acts.{Access, Act, Alone, Chain, GoesOn, Then, Trail}
use Rattle.media_agents.specs.Agents.{Lists, Receives, Sends}
use Rattle.media_agents.specs.declared.listing.ImageAt.{ImageAt}
use Rattle.media_agents.specs.declared.slots.LogAt.{LogAt}
use Rattle.media_agents.specs.Eliciting.{Eliciting, Elicits}
use Rattle.media_agents.specs.Finding.{AreControls, AreEndpoints, images_of, publications_of}
use Rattle.media_agents.specs.SetUps.{SettingUp}
use Rattle.media_agents.specs.Traffic.{HearsOut, ReceiverTakes, ReportsOne, SenderTakes, SendsRun}
use Rattle.media_agents.proofs.ActLemmas.{alone, goes_on, goes_then}
use Rattle.media_wire.specs.Events.{Event}
use Rattle.published_registry.specs.Histories.{History}

pub turn_sends : (now : ℕ) (local : Address) (before own look others second after : History) (controls : List Address) (logs : List LogAt)
    (old : List Act → Type 0) (did found told found_again : List Access → Type 0) (went heard : List Event → Type 0) (new : List Act → Type 0)
    → GoesOn (HearsOut (SenderTakes now local) local before own) old (Trail did went)
    → GoesOn (Lists AreControls own look controls) did found
    → GoesOn (Chain (HearsOut (SenderTakes now local)) controls look others) (Trail found went) (Trail told heard)
    → GoesOn (Lists (λ s logs. logs ≡ publications_of s) others second logs) told found_again
    → GoesOn (Chain (SendsRun now local) logs second after) (Trail found_again heard) new
    → GoesOn (Sends now local before after) old new
turn_sends now local before own look others second after controls logs old did found told found_again went heard new one two three four five =
    let Own = HearsOut (SenderTakes now local) local before own in
    let Looks = Lists AreControls own look controls in
    let Others = Chain (HearsOut (SenderTakes now local)) controls look others in
    let Again = Lists (λ s logs. logs ≡ publications_of s) others second logs in
    let Sent = Chain (SendsRun now local) logs second after in
    goes_on Own (Then (Alone Looks) (Then Others (Then (Alone Again) Sent))) (Sends now local before after) old (Trail did went) new
    (λ a b hears rest. record {
      own = own;
      own_acts = a;
      hears = hears;
      look = look;
      looks = rest.3.0;
      controls = controls;
      named = rest.3.1;
      others = others;
      other_acts = rest.4.0;
      hears_each = rest.4.3;
      second = second;
      looks_again = rest.4.4.3.0;
      logs = logs;
      listed = rest.4.4.3.1;
      sent_acts = rest.4.4.1;
      sends = rest.4.4.4;
      order = ap (λ (more : List Act). a ++ more)
          (rest.2 ∙ ap₂ (λ (b c : List Act). b ++ c) rest.3.2
          (rest.4.2 ∙ ap (λ (more : List Act). rest.4.0 ++ more)
          (rest.4.4.2 ∙ ap (λ (first : List Act). first ++ rest.4.4.1) rest.4.4.3.2)));
    })
    one
    (goes_then (Alone Looks) (Then Others (Then (Alone Again) Sent)) (Trail did went) (Trail found went) new (alone Looks did found went two)
    (goes_then Others (Then (Alone Again) Sent) (Trail found went) (Trail told heard) new three
    (goes_then (Alone Again) Sent (Trail told heard) (Trail found_again heard) new (alone Again told found_again heard four) five)))

pub turn_receives : (now : ℕ) (before look heard second reported after : History) (queue set_ups : SettingUp) (was is : Eliciting)
    (endpoints : List Address) (images : List ImageAt)
    (did found told found_again : List Access → Type 0) (went heard_calls : List Event → Type 0) (between new : List Act → Type 0)
    → GoesOn (Lists AreEndpoints before look endpoints) did found
    → GoesOn (Chain (HearsOut (ReceiverTakes now)) endpoints (look, queue) (heard, set_ups)) (Trail found went) (Trail told heard_calls)
    → GoesOn (Lists (λ s images. images ≡ images_of s) heard second images) told found_again
    → GoesOn (Chain (ReportsOne now) images second reported) (Trail found_again heard_calls) between
    → GoesOn (Elicits now reported after was is) between new
    → GoesOn (Receives now before after queue set_ups was is) (Trail did went) new
turn_receives now before look heard second reported after queue set_ups was is endpoints images did found told found_again went heard_calls between new
    one two three four five =
    let Looks = Lists AreEndpoints before look endpoints in
    let Heard = Chain (HearsOut (ReceiverTakes now)) endpoints (look, queue) (heard, set_ups) in
    let Again = Lists (λ s images. images ≡ images_of s) heard second images in
    let Told = Chain (ReportsOne now) images second reported in
    let Elicited = Elicits now reported after was is in
    goes_on (Alone Looks) (Then Heard (Then (Alone Again) (Then Told Elicited))) (Receives now before after queue set_ups was is)
    (Trail did went) (Trail found went) new
    (λ a b looks rest. record {
      look = look;
      looks = looks.0;
      endpoints = endpoints;
      named = looks.1;
      heard = heard;
      heard_acts = rest.0;
      hears_each = rest.3;
      second = second;
      looks_again = rest.4.3.0;
      images = images;
      listed = rest.4.3.1;
      reported = reported;
      report_acts = rest.4.4.0;
      reports = rest.4.4.3;
      elicit_acts = rest.4.4.1;
      elicits = rest.4.4.4;
      order = ap₂ (λ (a b : List Act). a ++ b) looks.2
          (rest.2 ∙ ap (λ (more : List Act). rest.0 ++ more)
          (rest.4.2 ∙ ap₂ (λ (a b : List Act). a ++ b) rest.4.3.2 rest.4.4.2));
    })
    (alone Looks did found went one)
    (goes_then Heard (Then (Alone Again) (Then Told Elicited)) (Trail found went) (Trail told heard_calls) new two
    (goes_then (Alone Again) (Then Told Elicited) (Trail told heard_calls) (Trail found_again heard_calls) new (alone Again told found_again heard_calls three)
    (goes_then Told Elicited (Trail found_again heard_calls) between new four five)))
