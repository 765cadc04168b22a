-- What the policy becomes at a moment.
use Rattle.std.proofs.Common.{◌≡◌, ℕ, ℤ, ◌+◌, List, [], ◌∷◌, ◌++◌, Some, max, sym, ap, ◌∙◌}
use Rattle.driver_core.specs.Conduct.{coming_to, moment_told}
use Rattle.driver_core.specs.Draft.{Draft, replied, replied_opening, told}
use Rattle.driver_core.specs.Publishing.{new_log, opening_of, publication_decision, published, ready_for}
use Rattle.driver_core.specs.Renewal.{come_to, gone_from, images_decided, images_told, outcome_by, renewed}
use Rattle.driver_core.specs.State.{State, ruled}
use Rattle.driver_core.specs.Report.{report_of, tells_reply}
use Rattle.driver_core.specs.declared.state.event.Event.{Event}
use Rattle.driver_core.specs.declared.state.event.Inputs.{Inputs}
use Rattle.driver_core.specs.declared.state.outcome.Outcome.{Outcome}
use Rattle.driver_core.specs.declared.state.report.Report.{Report}
use Rattle.client_registry.specs.declared.client.Client.{Client}
use Rattle.policy_core.specs.Moments.{at, coming}
use Rattle.stream_registry.specs.declared.pairs.Pair.{Pair}
use Rattle.stream_registry.specs.declared.wanted.Adding.{Adding}
use Rattle.stream_registry.specs.declared.wanted.Adding.TheVariants.{Join, Make}
use Rattle.stream_registry.specs.declared.wanted.Wanted.{Wanted}
use Rattle.stream_registry.specs.Lingering.{place_of}

-- where the policy is what it was, the registry is the one that it was
pub ruled_so : (s : State) (now moment : ℕ) → max s.moment now ≡ moment → at s.given moment ≡ s.policy → coming s.given moment ≡ s.prospects → ruled s now ≡ s
unfolding ruled
ruled_so s now moment at' policy coming' =
    λ i. record s { policy = (ap (at s.given) at' ∙ policy) i; prospects = (ap (coming s.given) at' ∙ coming') i }

-- and then the registry to which an event comes is that one, and the event makes of it what it makes of the registry as it is
pub coming_so : (s : State) (event : Event) (now : ℕ) → now ≡ moment_told event → ruled s now ≡ s → coming_to s event ≡ s
coming_so s event now told so = sym (ap (ruled s) told) ∙ so

-- what is reported of an event where the pairs before it and after it are compared
abbrev pub turned : State → Inputs → Report → List Pair → List Pair → Outcome
turned after inputs told gone come = record {
  response = told.response;
  replies = told.replies ++ (images_told after inputs gone come ++ told.later);
  decisions = told.decisions ++ images_decided after gone come;
  opens = told.opens;
  closes = told.closes;
  gone = gone;
  come = come;
}

-- what is reported where these pairs went and came and are told of already
abbrev pub reported : Report → List Pair → List Pair → Outcome
reported told gone come = record {
  response = told.response;
  replies = told.replies;
  decisions = told.decisions;
  opens = told.opens;
  closes = told.closes;
  gone = gone;
  come = come;
}

pub turned_is : (s : State) (inputs : Inputs) (draft : Draft) (after : State) (told : Report) (gone come : List Pair) →
    after ≡ draft.after → told ≡ report_of draft → gone ≡ gone_from s after → come ≡ come_to s after →
    turned after inputs told gone come ≡ outcome_by s inputs draft
unfolding renewed
turned_is s inputs draft after told gone come done tells goes comes =
    let goes' : gone ≡ gone_from s draft.after = goes ∙ ap (gone_from s) done in
    let comes' : come ≡ come_to s draft.after = comes ∙ ap (come_to s) done in
    λ i. turned (done i) inputs (tells i) (goes' i) (comes' i)

-- the outcome of two lists of pairs that are compared: `lists` is the registry that is left, by its policy and number
pub between_is : (s after lists : State) (inputs : Inputs) (told both : Report) (gone come : List Pair) (outcome : Outcome) →
    lists ≡ after → gone ≡ gone_from s after → come ≡ come_to s after →
    both ≡ record told {
      replies = told.replies ++ (images_told after inputs gone come ++ told.later);
      decisions = told.decisions ++ images_decided lists gone come;
    } →
    outcome ≡ reported both gone come →
    outcome ≡ turned after inputs told (gone_from s after) (come_to s after)
between_is s after lists inputs told both gone come outcome same goes comes tells is =
    is
    ∙ ap (λ (t : Report). reported t gone come) tells
    ∙ (λ i. record {
      response = told.response;
      replies = told.replies ++ (images_told after inputs (goes i) (comes i) ++ told.later);
      decisions = told.decisions ++ images_decided (same i) (goes i) (comes i);
      opens = told.opens;
      closes = told.closes;
      gone = goes i;
      come = comes i;
    })

-- what a publication reports, by what the lists make of it
pub published_joined : (s : State) (client : Client) (correlation : ℕ) (wanted : Wanted) (adding : Adding) (source : ℕ) (session : ℤ) →
    adding ≡ Join source session →
    report_of (published s client correlation wanted adding)
    ≡ tells_reply (publication_decision s client wanted ∷ []) client.number (ready_for wanted correlation (s.last_number + 1) session)
unfolding published opening_of replied_opening replied told
published_joined s client correlation wanted adding source session is =
    ap (λ (one : Adding). report_of (published s client correlation wanted one)) is

pub published_made : (s : State) (client : Client) (correlation : ℕ) (wanted : Wanted) (adding : Adding) (session : ℤ) →
    adding ≡ Make session →
    report_of (published s client correlation wanted adding)
    ≡ record (tells_reply (publication_decision s client wanted ∷ []) client.number
    (ready_for wanted correlation (s.last_number + 1) session)) { opens = Some (place_of (new_log s wanted session)) }
unfolding published opening_of replied_opening replied told
published_made s client correlation wanted adding session is =
    ap (λ (one : Adding). report_of (published s client correlation wanted one)) is
