use Rattle.std.proofs.Common.{rules, ◌≡◌, ℤ, subst, ◌∙◌, to_z, of_z, w32}
use Rattle.stream_gaps.specs.Sessions.{read_to}
use Rattle.stream_gaps.proofs.sessions.Sessions.read_to.Goals as goal

pub returns : goal.returns
returns c =
    let same : to_z w32 (of_z w32 c.args.session) ≡ c.args.session = search rules in
    let there =
    subst (λ (key : ℤ). c.copied.result ≡ read_to c.self.inside.rows.entries key) same (c.copied.ensures ∙ c.get.ensures.value) in
    subst (λ entries. c.copied.result ≡ read_to entries c.args.session) c.self.view_is there
