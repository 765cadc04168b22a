use Rattle.std.proofs.Common.{Some, ap, ◌∙◌}
use Rattle.channel_uri.specs.Keys.{value_at}
use Rattle.channel_uri.proofs.TableLemmas.{got, got_none, span_at}
use Rattle.channel_uri.proofs.table.Table.get.Goals as goal

pub value_in-requires : goal.value_in-requires
value_in-requires c =
    span_at _ _ _ _ (rw (c.as_str-text.ensures.value, c.as_slice-spans.ensures.value) c.self.invariant) c.in-Ok.ensures.within

pub returns-in-Ok : goal.returns-in-Ok
returns-in-Ok c =
    ap Some c.value_in.ensures
    ∙ (got _ _ _ _ _ _ (rw (c.as_str-text.ensures.value, c.as_slice-spans.ensures.value) c.self.invariant) c.in-Ok.ensures.within c.in-Ok.is c.place.ensures.place
    ∙ (rw (c.as_str-text.ensures.value, c.as_slice-spans.ensures.value) (ap (λ stored. value_at c.args.key.now stored.pairs) c.self.view_is)))

pub returns-in-Err : goal.returns-in-Err
returns-in-Err c =
    got_none _ c.as_str-text.result.now c.as_slice-spans.result.now _ _ (rw (c.as_str-text.ensures.value, c.as_slice-spans.ensures.value) c.self.invariant) c.in-Err.is c.place.ensures.place
    ∙ (rw (c.as_str-text.ensures.value, c.as_slice-spans.ensures.value) (ap (λ stored. value_at c.args.key.now stored.pairs) c.self.view_is))
