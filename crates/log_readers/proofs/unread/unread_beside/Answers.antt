use Rattle.std.proofs.Common.{not, [], get_or, refl, sym, ap, ◌∙◌}
use Rattle.std.specs.Prelude.{◌&&◌}
use Rattle.log_readers.specs.Unread.{has_none}
use Rattle.stream_registry.specs.Origins.{is_remote}
use Rattle.log_readers.proofs.UnreadLemmas.{empty_is, goes_not, telling_no, telling_yes}
use Rattle.log_readers.proofs.unread.unread_beside.Goals as goal
use Rattle.log_readers.proofs.unread.unread_beside.Goals.{then-not-is_published+then-is_empty, else-not-is_published, else-not-is_published-via-then-not-is_published+else-is_empty, else-not-is_published-via-else-not-is_published}

pub loop-at-preserved : goal.loop-at-preserved
loop-at-preserved c =
    let log = c.index-logs-at.result in
    elim c.if-not-is_published.branch [
      | then-not-is_published+then-is_empty w ↦
          rw w.numbers-is
          (telling_yes c.args.logs.now c.args.slots.now c.loop-at.numbers.items _ c.loop-at.at log w.index-slots-at.result
          w.index-slots-at.result _ _ c.loop-at.invariant c.requires.same c.loop-at-test.true c.index-logs-at.is w.index-slots-at.is
          (ap not (sym c.is_published.ensures ∙ w.if-not-is_published.true))
          (ap has_none (sym w.as_slice.ensures.value)
          ∙ sym (empty_is w.as_slice.result.now)
          ∙ sym w.is_empty.ensures
          ∙ w.if-is_empty.true) w.push.ensures.items w.push.ensures.len)
      | else-not-is_published w ↦
          elim w.else-not-is_published.branch [
            | else-not-is_published-via-then-not-is_published+else-is_empty v ↦
                rw w.numbers-is
                (telling_no c.args.logs.now c.args.slots.now c.loop-at.numbers.items _ c.loop-at.at log v.index-slots-at.result
                v.index-slots-at.result c.loop-at.invariant c.requires.same c.loop-at-test.true c.index-logs-at.is v.index-slots-at.is
                (goes_not (is_remote log) (has_none v.index-slots-at.result)
                (ap has_none (sym v.as_slice.ensures.value)
                ∙ sym (empty_is v.as_slice.result.now)
                ∙ sym v.is_empty.ensures
                ∙ v.if-is_empty.false)))
            | else-not-is_published-via-else-not-is_published v ↦
                let row = get_or c.args.slots.now c.loop-at.at [] in
                rw w.numbers-is
                (telling_no c.args.logs.now c.args.slots.now c.loop-at.numbers.items _ c.loop-at.at log row [] c.loop-at.invariant
                c.requires.same c.loop-at-test.true c.index-logs-at.is refl
                (ap (λ (b : _). not b && has_none row) (sym c.is_published.ensures ∙ v.if-not-is_published.false)))
          ]
    ]
