use Rattle.std.proofs.Common.{rules, ◌≡◌, ℤ, false, subst, to_z, of_z, w32}
use Rattle.stream_gaps.specs.Sessions.{is_session, read_to}
use Rattle.stream_gaps.proofs.sessions.Sessions.read.Goals as goal

pub returns-clause-others : goal.returns-clause-others
returns-clause-others c =
    let same : to_z w32 (of_z w32 c.args.session) ≡ c.args.session = search rules in
    let others =
    subst (λ (key : ℤ). (other : ℤ) → is_session key other ≡ false → read_to c.insert.new.self.entries other ≡ read_to c.self.inside.rows.entries other)
    same (λ other apart. c.in_ok-insert.ensures.updates.2 other apart) in
    subst (λ entries. (other : ℤ) → is_session c.args.session other ≡ false → read_to c.insert.new.self.entries other ≡ read_to entries other)
    c.self.view_is others
