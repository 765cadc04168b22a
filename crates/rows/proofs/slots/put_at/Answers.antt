use Rattle.std.proofs.Common.{◌≡◌, ◌+◌, ◌<◌, ◌∙◌, length, slice_index_or, slice_set, ap, arith, sym}
use Rattle.std.proofs.lemmas.List.{get_or-drop, get_or_default, set-append_left}
use Rattle.rows.proofs.slots.put_at.Goals as goal

pub returns-then-to-from : goal.returns-then-to-from
returns-then-to-from g c row =
    let slots = c.args.slots.now in
    let before = c.split_at_mut-before.result.0.now in
    let behind = c.split_at_mut-before.result.1.now in
    let among : c.args.to < length before = omega (arith, c.split_at_mut-before.ensures.front_len, c.if-to-from.true) in
    let some : 0 < length behind = omega (arith, c.split_at_mut-before.ensures.back_len, c.requires.within) in
    let first : c.args.from + 0 ≡ c.args.from = omega arith in
    let read : c.set_from.new.self ≡ slice_index_or slots c.args.from row =
    c.set_from.ensures
    ∙ get_or_default behind 0 c.index-behind-0.result row some
    ∙ ap (λ l. slice_index_or l 0 row) c.split_at_mut-before.ensures.back
    ∙ get_or-drop c.args.from slots 0 row
    ∙ ap (λ n. slice_index_or slots n row) first in
    sym (set-append_left before behind c.args.to c.set_from.new.self among)
    ∙ ap (λ l. slice_set l c.args.to c.set_from.new.self) (sym c.split_at_mut-before.ensures.value)
    ∙ ap (slice_set slots c.args.to) read
