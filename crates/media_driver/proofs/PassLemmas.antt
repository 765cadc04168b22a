-- What a client keeps as it knows more of the history.
use Rattle.std.proofs.Common.{◌≡◌, ℕ, List, Option, Some, None, ap, subst, sym, ◌∙◌}
use Rattle.decision_cache.specs.declared.key.Key.{Key}
use Rattle.driver_core.specs.Cached.{AreCached}
use Rattle.logbook.specs.Pages.{Book}
use Rattle.media_agents.proofs.LookLemmas.{continues}
use Rattle.media_driver.specs.Remembering.{IsRemembered}
use Rattle.media_driver.specs.declared.remembering.Said.{Said}
use Rattle.policy_core.specs.declared.verdict.Verdict.{Verdict}
use Rattle.published_registry.specs.Histories.{History, IsContinuedBy, history_in, registry_of}

-- what is cached stays right of each later look
abbrev pub StaysRight : Type 0
StaysRight =
    (earlier later : History) (held : List (Key × Verdict)) → IsContinuedBy earlier later → AreCached (registry_of earlier) held → AreCached (registry_of later) held

-- what is remembered was said at a beginning of each later history
still_said : (client : ℕ) (said : Option Said) (earlier later : History) → IsContinuedBy earlier later → IsRemembered client said earlier →
    IsRemembered client said later
still_said client None earlier later more was = record { was = tt }
still_said client (Some it) earlier later more was = record { was = (was.was.0, continues was.was.1 more, was.was.2) }

-- the pass that a client had is taken out, and looks: it is of the same history then, what is cached is right of it, and what is
-- remembered was said at a beginning of it
pub looked :
    (stays : StaysRight) (inside taken : Option History) (pass next : History) (book : Book) (held : List (Key × Verdict)) (client : ℕ) (said : Option Said) →
    taken ≡ inside → taken ≡ Some pass → IsContinuedBy pass next → (history_in inside).book ≡ book → AreCached (registry_of (history_in inside)) held →
    IsRemembered client said (history_in inside) → (next.book ≡ book) × AreCached (registry_of next) held × IsRemembered client said next
looked stays inside taken pass next book held client said was is later ours right kept =
    let same : history_in inside ≡ pass = ap history_in (sym was ∙ is) in (
      later.book ∙ subst (λ (h : History). h.book ≡ book) same ours,
      stays pass next held later (subst (λ (h : History). AreCached (registry_of h) held) same right),
      still_said client said pass next later (subst (IsRemembered client said) same kept),
    )
