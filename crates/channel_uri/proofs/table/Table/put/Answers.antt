use Rattle.std.proofs.Common.{◌++◌, ap, ◌∙◌}
use Rattle.channel_uri.specs.Keys.{put}
use Rattle.channel_uri.proofs.TableLemmas.{is_stored}
use Rattle.channel_uri.proofs.table.Table.put.Goals as goal

pub write-requires-clause-within : goal.write-requires-clause-within
write-requires-clause-within c = rw (← c.as_slice.ensures.value) c.place-place.ensures.within

pub invariant_of-self : goal.invariant_of-self
invariant_of-self c =
    (is_stored _ _ _ _ _ _ _ _ _ _ _ c.self.invariant (rw (← c.as_str.ensures.value, ← c.as_slice.ensures.value) c.place-place.ensures.place)
    c.push_str.ensures.bytes c.push_str-2.ensures.bytes c.push_str-3.ensures.bytes c.len-start.ensures.value c.len-middle.ensures.value c.len-end.ensures.value
    c.write.ensures c.utf8.key c.utf8.head c.utf8.rest).table

pub returns-clause-pairs : goal.returns-clause-pairs
returns-clause-pairs c =
    (is_stored _ _ _ _ _ _ _ _ _ _ _ c.self.invariant (rw (← c.as_str.ensures.value, ← c.as_slice.ensures.value) c.place-place.ensures.place)
    c.push_str.ensures.bytes c.push_str-2.ensures.bytes c.push_str-3.ensures.bytes c.len-start.ensures.value c.len-middle.ensures.value c.len-end.ensures.value
    c.write.ensures c.utf8.key c.utf8.head c.utf8.rest).pairs
    ∙ ap (λ stored. put stored.pairs (c.args.key.now, c.args.head.now ++ c.args.rest.now)) c.self.view_is
