use Rattle.std.proofs.Common.{◌≡◌, ap, ap₂, sym, ◌∙◌}
use Rattle.std.specs.Str.{bytes_eq}
use Rattle.log_pairs.specs.Copies.{written}
use Rattle.log_pairs.proofs.CopyLemmas.{written_back}
use Rattle.log_pairs.proofs.copies.FragmentCopiesPartialEq.eq.Goals as goal

pub returns : goal.returns
returns c =
    let left : written c.args.self.now ≡ c.self.inside.bytes.items = ap written (sym c.self.view_is) ∙ written_back c.self.inside.bytes.items c.self.invariant in
    let right : written c.args.other.now ≡ c.other.inside.bytes.items = ap written (sym c.other.view_is) ∙ written_back c.other.inside.bytes.items c.other.invariant in
    c.eq.ensures ∙ ap₂ bytes_eq (sym left) (sym right)
