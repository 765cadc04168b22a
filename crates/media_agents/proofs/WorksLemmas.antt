-- What the conductor makes of an event.
use Rattle.std.proofs.Common.{◌≡◌, List, [], Option, Some, Result, Ok, Err, IfOk, OnErr, OnOk, ℕ, ap, refl, subst, sym, ◌∙◌}
use Rattle.driver_core.specs.declared.state.entry.Entry.{Entry}
use Rattle.driver_core.specs.declared.state.event.End.{End}
use Rattle.driver_core.specs.Conduct.{outcome_of}
use Rattle.driver_core.specs.declared.state.event.Event.{Event}
use Rattle.driver_core.specs.declared.state.event.Inputs.{Inputs}
use Rattle.driver_core.specs.declared.state.outcome.Outcome.{Outcome}
use Rattle.driver_core.specs.declared.state.outcome.Response.{Response}
use Rattle.driver_core.specs.State.{State}
use Rattle.log_steps.specs.Rooms.{memory_of}
use Rattle.log_arena.specs.Homes.{Home}
use Rattle.media_agents.proofs.ActLemmas.{goes_on, goes_then}
use Rattle.media_agents.proofs.AskingLemmas.{joins_all}
use Rattle.media_agents.proofs.ChainLemmas.{chain_none, each_none}
use Rattle.media_agents.proofs.FollowingLemmas.{follows_entry}
use Rattle.media_agents.specs.Acts.{Access, Each, GoesOn, Then, Writes}
use Rattle.media_agents.specs.Answering.{question_in}
use Rattle.media_agents.specs.Asking.{AreSilent, Asks, Gathers, Joins, JoinsSome, Settles, closing}
use Rattle.media_agents.specs.declared.aftermath.Made.{Made}
use Rattle.media_agents.specs.declared.slots.LogAt.{LogAt}
use Rattle.media_agents.specs.Desks.{DeskState, Reports}
use Rattle.media_agents.specs.Following.{Follows, Leaves, OpensNext, Undoes, coming, undone}
use Rattle.media_agents.specs.Journals.{after_entry, stamp_of}
use Rattle.media_agents.specs.Mails.{PostsEach}
use Rattle.media_agents.specs.Works.{Commits, Does, Makes, MakesWith, WorksState, known_of, with_entry}
use Rattle.policy_core.specs.declared.decision.Decision.{Decision}
use Rattle.published_registry.specs.Histories.{History, IsPlannedOn, Known, registry_of}
use Rattle.stream_registry.specs.declared.lingering.LogPlace.{LogPlace}
use Rattle.stream_registry.specs.declared.pairs.Pair.{Pair}

-- a draft says which pairs would come
comes : (s : State) (event : Event) (draft : Entry) → IsPlannedOn s draft → draft.event ≡ event → draft.inputs.ends ≡ []
    → draft.outcome.come ≡ coming s event draft.inputs.silent
comes s event draft planned event_is ends =
    ap (λ (o : Outcome). o.come) planned ∙ ap (λ (e : Event). (outcome_of s e draft.inputs).come) event_is
    ∙ ap (λ (those : List End). (outcome_of s event (record { silent = draft.inputs.silent; ends = those })).come) ends

pub draft_comes : {E : Type 0} (s : State) (event : Event) (silent : List ℕ) (ends : List End) (result : Result Entry E)
    → IfOk result (λ draft. IsPlannedOn s draft) → IfOk result (λ draft. draft.event ≡ event)
    → IfOk result (λ draft. draft.inputs ≡ record { silent = silent; ends = ends }) → ends ≡ []
    → IfOk result (λ draft. draft.outcome.come ≡ coming s event draft.inputs.silent)
draft_comes s event silent ends (Err why) planned event_is inputs_are none = tt
draft_comes s event silent ends (Ok draft) planned event_is inputs_are none =
    comes s event draft planned event_is (ap (λ (i : Inputs). i.ends) inputs_are ∙ none)

-- as silent it has those that were found to be
pub draft_silent : {E : Type 0} (silent : List ℕ) (ends : List End) (Are : List ℕ → Type 0) (result : Result Entry E)
    → IfOk result (λ draft. draft.inputs ≡ record { silent = silent; ends = ends }) → Are silent → IfOk result (λ draft. Are draft.inputs.silent)
draft_silent silent ends Are (Err why) inputs_are are = tt
draft_silent silent ends Are (Ok draft) inputs_are are = subst Are (sym (ap (λ (i : Inputs). i.silent) inputs_are)) are

module _ {Logs Desk Notes : Type 0} (LogsDid : Logs → List Access → Type 0) (home : Home) where
  -- the log opened as the entry came into the history, and the others followed
  pub commit_follows : (old mid new : WorksState Logs Desk Notes) (entry : Entry) (room : Option ℕ) (opens : Option LogPlace) (gone : List Pair)
      (closes : List LogAt) → new ≡ record mid { logs = new.logs; region = new.region; rings = new.rings }
      → room ≡ memory_of entry.event → opens ≡ entry.outcome.opens → gone ≡ entry.outcome.gone → closes ≡ closing (registry_of old.history) entry.outcome.closes
      → GoesOn (OpensNext home (registry_of mid.history) room opens old.region mid.region) (LogsDid old.logs) (LogsDid mid.logs)
      → GoesOn (Leaves (registry_of mid.history) gone closes mid.region new.region) (LogsDid mid.logs) (LogsDid new.logs)
      → GoesOn (Follows home (registry_of old.history) (registry_of new.history) entry old.region new.region) (LogsDid old.logs) (LogsDid new.logs)
  commit_follows old mid new entry room opens gone closes new_is room_is opens_is gone_is closes_are opening leaving =
      subst (λ (h : History). GoesOn (Follows home (registry_of old.history) (registry_of h) entry old.region new.region) (LogsDid old.logs) (LogsDid new.logs))
      (sym (ap (λ (w : WorksState Logs Desk Notes). w.history) new_is))
      (follows_entry home (registry_of old.history) (registry_of mid.history) entry room opens gone closes old.region mid.region new.region
      (LogsDid old.logs) (LogsDid mid.logs) (LogsDid new.logs) room_is opens_is gone_is closes_are opening leaving)

  -- the pairs that come were joined, and the entry that was planned so was committed
  pub makes_with : {E : Type 0} (s : State) (silent : List ℕ) (event : Event) (come : List Pair) (entry : Entry) (old new : WorksState Logs Desk Notes)
      (joined : Logs) (result : Result Made E) → s ≡ registry_of old.history → IsPlannedOn s entry → entry.event ≡ event → entry.inputs.silent ≡ silent
      → come ≡ coming (registry_of old.history) event silent
      → GoesOn (Gathers (Joins s come) come entry.inputs.ends) (LogsDid old.logs) (LogsDid joined)
      → OnOk result (new ≡ record old { history = with_entry entry old.history; logs = new.logs; region = new.region; rings = new.rings })
      → IfOk result (λ made. entry.outcome.response ≡ made.response) → IfOk result (λ made. entry.outcome.decisions ≡ made.decisions)
      → IfOk result (λ made. made.receipt ≡ known_of new.history)
      → OnOk result (GoesOn (Follows home (registry_of old.history) (registry_of new.history) entry old.region new.region) (LogsDid joined) (LogsDid new.logs))
      → IfOk result (λ made. PostsEach made.receipt entry.outcome.replies old.rings new.rings)
      → IfOk result (λ made. MakesWith LogsDid home silent event old new made.response made.decisions made.receipt)
  makes_with s silent event come entry old new joined (Err why) here planned event_is silent_is come_is joins new_is response decisions receipt follows mails = tt
  makes_with s silent event come entry old new joined (Ok made) here planned event_is silent_is come_is joins new_is response decisions receipt follows mails =
      let before = registry_of old.history in
      let pairs : come ≡ coming before entry.event entry.inputs.silent =
      come_is ∙ ap (λ (e : Event). coming before e silent) (sym event_is) ∙ ap (λ (l : List ℕ). coming before entry.event l) (sym silent_is) in
      record {
        entry = entry;
        event_is = event_is;
        silent_is = silent_is;
        commits = record {
          planned = subst (λ (t : State). IsPlannedOn t entry) here planned;
          response_is = response;
          decisions_are = decisions;
          receipt_is = receipt;
          new_is = new_is;
          joined = joined;
          joins = subst (λ (those : List Pair). GoesOn (Gathers (Joins before those) those entry.inputs.ends) (LogsDid old.logs) (LogsDid joined)) pairs
              (subst (λ (t : State). GoesOn (Gathers (Joins t come) come entry.inputs.ends) (LogsDid old.logs) (LogsDid joined)) here joins);
          follows = follows;
          mails = mails;
        };
      }

  -- no pair came with it: nothing was joined
  pub makes_draft : {E : Type 0} (s : State) (draft entry : Entry) (old new : WorksState Logs Desk Notes) (result : Result Made E)
      → s ≡ registry_of old.history → IsPlannedOn s draft → draft.inputs.ends ≡ [] → draft.outcome.come ≡ [] → entry ≡ draft
      → OnOk result (new ≡ record old { history = with_entry entry old.history; logs = new.logs; region = new.region; rings = new.rings })
      → IfOk result (λ made. entry.outcome.response ≡ made.response) → IfOk result (λ made. entry.outcome.decisions ≡ made.decisions)
      → IfOk result (λ made. made.receipt ≡ known_of new.history)
      → OnOk result (GoesOn (Follows home (registry_of old.history) (registry_of new.history) entry old.region new.region) (LogsDid old.logs) (LogsDid new.logs))
      → IfOk result (λ made. PostsEach made.receipt entry.outcome.replies old.rings new.rings)
      → IfOk result (λ made. MakesWith LogsDid home draft.inputs.silent draft.event old new made.response made.decisions made.receipt)
  makes_draft s draft entry old new result here planned ends none is new_is response decisions receipt follows mails =
      makes_with s draft.inputs.silent draft.event [] entry old new old.logs result here (subst (IsPlannedOn s) (sym is) planned)
      (ap (λ (e : Entry). e.event) is) (ap (λ (e : Entry). e.inputs.silent) is)
      (sym none ∙ comes s draft.event draft planned refl ends ∙ ap (λ (t : State). coming t draft.event draft.inputs.silent) here)
      (subst (λ (those : List End). GoesOn (Gathers (Joins s []) [] those) (LogsDid old.logs) (LogsDid old.logs)) (sym (ap (λ (e : Entry). e.inputs.ends) is ∙ ends))
      (chain_none (Asks (Joins s [])) [] (LogsDid old.logs)))
      new_is response decisions receipt follows mails

  -- they were joined, and there was no memory for the entry
  pub some_joined : {T E : Type 0} (s t : State) (come : List Pair) (ends : List End) (before : Logs) (mid new : WorksState Logs Desk Notes) (result : Result T E)
      → s ≡ t → OnErr result (new ≡ mid) → GoesOn (Gathers (Joins s come) come ends) (LogsDid before) (LogsDid mid.logs)
      → OnErr result (GoesOn (JoinsSome t come) (LogsDid before) (LogsDid new.logs))
  some_joined s t come ends before mid new (Ok it) here same joins = tt
  some_joined s t come ends before mid new (Err why) here same joins =
      subst (λ (w : WorksState Logs Desk Notes). GoesOn (JoinsSome t come) (LogsDid before) (LogsDid w.logs)) (sym same)
      (subst (λ (u : State). GoesOn (JoinsSome u come) (LogsDid before) (LogsDid mid.logs)) here
      (joins_all s come ends (LogsDid before) (LogsDid mid.logs) joins))

module _ {Logs Desk Notes : Type 0} (LogsDid : Logs → List Access → Type 0) where
  -- where no pair comes there is nothing to undo
  pub nothing_undone : {T E : Type 0} (s : State) (come : List Pair) (asked new : WorksState Logs Desk Notes) (result : Result T E) → come ≡ []
      → OnErr result (new ≡ asked) → OnErr result (GoesOn (Then (JoinsSome s come) (Each (Settles s) come)) (LogsDid asked.logs) (LogsDid new.logs))
  nothing_undone s come asked new (Ok it) none same = tt
  nothing_undone s come asked new (Err why) none same =
      let did = LogsDid asked.logs in
      subst (λ (those : List Pair). GoesOn (Then (JoinsSome s those) (Each (Settles s) those)) did (LogsDid new.logs)) (sym none)
      (subst (λ (w : WorksState Logs Desk Notes). GoesOn (Then (JoinsSome s []) (Each (Settles s) [])) did (LogsDid w.logs)) (sym same)
      (goes_then (JoinsSome s []) (Each (Settles s) []) did did did (joins_all s [] [] did did (chain_none (Asks (Joins s [])) [] did))
      (each_none (Settles s) did)))

  -- once logs were asked which images are silent, an entry was made with that
  pub asked_makes : {E : Type 0} (home : Home) (event : Event) (silent : List ℕ) (old asked new : WorksState Logs Desk Notes) (result : Result Made E)
      → asked ≡ record old { logs = asked.logs } → GoesOn (AreSilent (registry_of old.history) event silent) (LogsDid old.logs) (LogsDid asked.logs)
      → IfOk result (λ made. MakesWith LogsDid home silent event asked new made.response made.decisions made.receipt)
      → IfOk result (λ made. Makes LogsDid home event old new made.response made.decisions made.receipt)
  asked_makes home event silent old asked new (Err why) same are makes = tt
  asked_makes home event silent old asked new (Ok made) same are makes = record {
    entry = makes.entry;
    event_is = makes.event_is;
    asked = asked.logs;
    silent = subst (λ (those : List ℕ). GoesOn (AreSilent (registry_of old.history) event those) (LogsDid old.logs) (LogsDid asked.logs)) (sym makes.silent_is) are;
    commits = subst (λ (w : WorksState Logs Desk Notes). Commits LogsDid home makes.entry w new made.response made.decisions made.receipt) same makes.commits;
  }

module _ {Logs : Type 0} (LogsDid : Logs → List Access → Type 0) where
  -- what was joined is read as before
  pub undoes : {T E : Type 0} (s t : State) (event : Event) (silent : List ℕ) (come : List Pair) (old asked new : Logs) (result : Result T E) → t ≡ s
      → come ≡ coming s event silent → GoesOn (AreSilent s event silent) (LogsDid old) (LogsDid asked)
      → OnErr result (GoesOn (Then (JoinsSome t come) (Each (Settles t) come)) (LogsDid asked) (LogsDid new))
      → OnErr result (GoesOn (Undoes s event) (LogsDid old) (LogsDid new))
  undoes s t event silent come old asked new (Ok it) here come_is ask left = tt
  undoes s t event silent come old asked new (Err why) here come_is ask left =
      goes_on (AreSilent s event silent) (Then (JoinsSome s (coming s event silent)) (Each (Settles s) (coming s event silent))) (Undoes s event)
      (LogsDid old) (LogsDid asked) (LogsDid new) (λ a b one other. undone silent (a, b, refl, one, other)) ask
      (subst (λ (those : List Pair). GoesOn (Then (JoinsSome s those) (Each (Settles s) those)) (LogsDid asked) (LogsDid new)) come_is
      (subst (λ (u : State). GoesOn (Then (JoinsSome u come) (Each (Settles u) come)) (LogsDid asked) (LogsDid new)) here left))

module _ {Logs Desk Notes : Type 0} (LogsDid : Logs → List Access → Type 0) (DeskTold : Desk → List (DeskState × DeskState) → Type 0) (home : Home) where
  -- an entry was made, and then its question was answered
  pub makes_does : (Wrote : Notes → List Access → Type 0) (event : Event) (old made new : WorksState Logs Desk Notes) (response : Response) (decisions : List Decision) (receipt : Known) →
      Makes LogsDid home event old made response decisions receipt → GoesOn (Writes (after_entry event response decisions (stamp_of made.history))) (Wrote made.notes) (Wrote new.notes) →
      Reports DeskTold (question_in event) (Some response) receipt (made.desk, made.rings) (new.desk, new.rings) →
      new ≡ record made { desk = new.desk; notes = new.notes; rings = new.rings } → Does LogsDid DeskTold home Wrote old event new
  makes_does Wrote event old made new response decisions receipt makes notes reports is = record {
    made = made;
    response = response;
    decisions = decisions;
    receipt = receipt;
    makes = makes;
    notes = subst (λ (n : Notes). GoesOn (Writes (after_entry event response decisions (stamp_of made.history))) (Wrote n) (Wrote new.notes))
        (ap (λ (w : WorksState Logs Desk Notes). w.notes) makes.commits.new_is) notes;
    reports = subst (λ (d : Desk). Reports DeskTold (question_in event) (Some response) receipt (d, made.rings) (new.desk, new.rings))
        (ap (λ (w : WorksState Logs Desk Notes). w.desk) makes.commits.new_is) reports;
    new_is = is;
  }
