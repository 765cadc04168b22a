use Rattle.std.proofs.Common.{◌≡◌, ◌++◌, ◌∷◌, [], subst}
use Rattle.std.specs.Prelude.{OnOk}
use Rattle.log_pairs.specs.Copies.{read_all}
use Rattle.log_pairs.specs.Polling.{fetched_of}
use Rattle.log_pairs.proofs.CopyLemmas.{put_read, put_written}
use Rattle.log_pairs.proofs.copies.FragmentCopies.push.Goals as goal

pub invariant_of-self : goal.invariant_of-self
invariant_of-self c =
    put_written c.put.result c.self.inside.bytes.items c.put.new.bytes.items (fetched_of c.args.fragment.now) c.put.ensures.fits c.self.invariant c.put.ensures.ok c.put.ensures.err

pub returns-clause-ok : goal.returns-clause-ok
returns-clause-ok c =
    subst (λ fs. OnOk c.put.result (read_all c.put.new.bytes.items ≡ fs ++ fetched_of c.args.fragment.now ∷ [])) c.self.view_is
    (put_read c.put.result c.self.inside.bytes.items c.put.new.bytes.items (fetched_of c.args.fragment.now) c.put.ensures.fits c.self.invariant c.put.ensures.ok)
