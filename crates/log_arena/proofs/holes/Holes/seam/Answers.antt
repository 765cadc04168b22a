use Rattle.std.proofs.Common.{◌≡◌, ℕ, ◌+◌, ◌/◌, List, length, get_or, sym, ap, ap₂, ◌∙◌, arith}
use Rattle.std.specs.List.{insert, remove}
use Rattle.std.proofs.lemmas.List.Edits.{length-remove}
use Rattle.log_arena.specs.Layout.{Layout}
use Rattle.log_arena.specs.Spans.{Span, paged}
use Rattle.log_arena.proofs.Matches.{get-remove, one_for_two, div_sum}
use Rattle.log_arena.proofs.Tables.{seamed-touch}
use Rattle.log_arena.proofs.holes.Holes.seam.Goals as goal

pub overflow_add-at : goal.overflow_add-at
overflow_add-at c = let t = c.touch.ensures.touching c.if-not-touch.false in omega (arith, t.1)

pub put_in-requires-clause-room : goal.put_in-requires-clause-room
put_in-requires-clause-room c =
    let t = c.touch.ensures.touching c.if-not-touch.false in
    let at = c.args.at in let old = c.args.self.now.spans in let mid = c.take_out-after.new.self.spans in
    let spans₁ : mid ≡ remove old (at + 1) = ap (λ (l : Layout). l.spans) c.take_out-after.ensures.others in
    let spans₂ : c.take_out-before.new.self.spans ≡ remove mid at = ap (λ (l : Layout). l.spans) c.take_out-before.ensures.others in
    let room₁ = ap (λ (l : Layout). l.room) c.take_out-after.ensures.others in
    let room₂ = ap (λ (l : Layout). l.room) c.take_out-before.ensures.others in
    let one : length mid + 1 ≡ length old = ap (λ (l : List Span). length l + 1) spans₁ ∙ length-remove old (at + 1) t.0 in
    let two : length c.take_out-before.new.self.spans + 1 ≡ length mid = ap (λ (l : List Span). length l + 1) spans₂ ∙ length-remove mid at (omega (arith, t.0)) in
    omega (arith, room₁, room₂, c.requires)

pub returns : goal.returns
returns c =
    let t = c.touch.ensures.touching c.if-not-touch.false in
    let at = c.args.at in let old : Layout = c.args.self.now in let hs = old.spans in
    let here = c.take_out-before.result.0 in let behind = c.take_out-after.result.0 in
    let less : ℕ → Layout → Layout = λ k l. record l { spans = remove l.spans k } in
    let put : Layout → Span → Layout = λ l h. record l { spans = insert l.spans at h } in
    let page_b : paged behind ≡ get_or hs (at + 1) (0, 0) = c.take_out-after.ensures.was in
    let page_f : paged here ≡ get_or hs at (0, 0) =
    c.take_out-before.ensures.was ∙ ap (λ (l : Layout). get_or l.spans at (0, 0)) c.take_out-after.ensures.others ∙ get-remove at hs (0, 0) t.0 in
    let both : paged (here.0, here.1 + behind.1) ≡ ((get_or hs at (0, 0)).0, (get_or hs at (0, 0)).1 + (get_or hs (at + 1) (0, 0)).1) =
    ap (λ n. let s : Span = (here.0 / 4096, n) in s) (div_sum here.1 behind.1 c.take_out-before.ensures.is.whole_len c.take_out-after.ensures.is.whole_len)
    ∙ ap₂ (λ (f b : Span). let s : Span = (f.0, f.1 + b.1) in s) page_f page_b in
    c.put_in.ensures ∙ ap (λ (l : Layout). put l (paged (here.0, here.1 + behind.1))) (c.take_out-before.ensures.others ∙ ap (less at) c.take_out-after.ensures.others)
    ∙ ap (λ (h : Span). put (less at (less (at + 1) old)) h) both
    ∙ ap (λ (l : List Span). record old { spans = l }) (one_for_two at hs _ t.0 ∙ sym (seamed-touch at hs t.0 t.2))
