use Rattle.std.proofs.Common.{◌+◌, ◌<◌, ◌≤◌, ◌⊎◌, inl, inr, List, length, ap, ◌∙◌, subst, arith}
use Rattle.std.specs.List.{insert, remove}
use Rattle.log_arena.specs.Layout.{Layout}
use Rattle.log_arena.specs.Ownership.{Apart}
use Rattle.log_arena.specs.Spans.{Span, paged}
use Rattle.log_arena.proofs.Matches.{insert-remove, places_apart, div_le, div_some}
use Rattle.log_arena.proofs.holes.Holes.clear_of.Goals as goal

pub returns-clause-same : goal.returns-clause-same
returns-clause-same c =
    let old : Layout = c.args.self.now in let at = c.args.at in
    let put : Layout → Span → Layout = λ l h. record l { spans = insert l.spans at h } in
    let gone : Layout = record old { spans = remove old.spans at } in
    let here : at < length old.spans = omega arith in
    c.put_in.ensures ∙ ap (λ l. put l (paged c.take_out-other.result.0)) c.take_out-other.ensures.others ∙ ap (λ h. put gone h) c.take_out-other.ensures.was
    ∙ ap (λ (hs : List Span). record old { spans = hs }) (insert-remove at old.spans (0, 0) here)

pub returns-clause-apart : goal.returns-clause-apart
returns-clause-apart c =
    let old : Layout = c.args.self.now in let at = c.args.at in let s = c.args.span in let hole = c.take_out-other.result.0 in
    let is = c.requires.is in let other = c.take_out-other.ensures.is in
    let told : Apart c.args.run.ptr s.1 c.take_out-other.result.1.ptr hole.1 =
    subst (λ m. Apart c.args.run.ptr m c.take_out-other.result.1.ptr hole.1) is.long
    (subst (λ n. Apart c.args.run.ptr (length c.args.run.items) c.take_out-other.result.1.ptr n) other.long c.apart-run.ensures.3) in
    let apart = places_apart old.base s.0 s.1 hole.0 hole.1 _ _ c.take_out-other.ensures.placed is.at other.at told in
    let Goal : Span → Type 0 = λ h. (((paged s).0 + (paged s).1 ≤ h.0) ⊎ (h.0 + h.1 ≤ (paged s).0)) × (0 < h.1) in
    λ here. subst Goal c.take_out-other.ensures.was (
      elim apart [
        | inl h ↦ inl (div_le s.0 s.1 hole.0 is.whole_place is.whole_len other.whole_place h)
        | inr h ↦ inr (div_le hole.0 hole.1 s.0 other.whole_place other.whole_len is.whole_place h)
      ],
      div_some hole.1 other.whole_len other.some,
    )
