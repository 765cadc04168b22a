use Rattle.std.proofs.Common.{rules, ◌≡◌, ℕ, Option, Some, sym, ◌∙◌}
use Rattle.client_registry.specs.Clients.{principal_at}
use Rattle.policy_core.specs.Moments.{ever}
use Rattle.stream_registry.specs.Pairs.{image_question}
use Rattle.stream_registry.specs.Wish.{row_of}
use Rattle.stream_registry.proofs.ProspectLemmas.{ever_is}
use Rattle.stream_registry.proofs.pairs.is_ever_allowed.Goals as goal

pub returns : goal.returns
returns c =
    let is = c.in-Some.is in
    let told = c.principal_of.ensures in
    let there : principal_at c.args.clients.now.rows c.args.wish.now.client ≡ Some c.in-Some.principal = cc in
    let asked : c.ever.result ≡ ever c.args.policy.now c.args.moment (image_question c.in-Some.principal (row_of c.args.wish.now)) = search (rules, c.ever.ensures) in
    asked ∙ ever_is c.args.clients.now.rows c.args.policy.now c.args.moment c.args.epoch (row_of c.args.wish.now) c.in-Some.principal there
