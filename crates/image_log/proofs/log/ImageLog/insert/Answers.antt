use Rattle.std.proofs.Common.{ℕ, ◌+◌, List, max, sym, ap, ◌∙◌, arith}
use Rattle.std.specs.List.{insert}
use Rattle.image_log.specs.Log.{Log}
use Rattle.image_log.specs.Frame.{framed}
use Rattle.image_log.specs.Order.{rank}
use Rattle.image_log.specs.Rebuilt.{Rebuilt}
use Rattle.image_log.proofs.Taken.{after_other, after_taken, span_fits}
use Rattle.image_log.proofs.log.ImageLog.insert.Goals as goal
use Rattle.image_log.proofs.log.ImageLog.insert.Goals.{in-Taken, in_default}

pub overflow_cast-span : goal.overflow_cast-span
overflow_cast-span c =
    let fits = span_fits c.args.self.now.rebuilt.ident c.args.position c.args.frame.now c.requires in
    omega (arith, fits.2, c.span_of-span.ensures)

pub overflow_add-position : goal.overflow_add-position
overflow_add-position c =
    let fits = span_fits c.args.self.now.rebuilt.ident c.args.position c.args.frame.now c.requires in
    omega (arith, fits.2, c.span_of-span.ensures, c.answer-answer.ensures.fits)

pub returns-clause-after : goal.returns-clause-after
returns-clause-after c =
    let p : ℕ = c.args.position in
    let bytes : List ℕ = c.args.frame.now in
    let all : Log = c.args.self.now in
    let now : Rebuilt = all.rebuilt in
    elim c.match-answer.branch [
      | in-Taken w ↦ (
          c.beat.ensures
          ∙ ap (λ (l : Log). let x : Log = record l { rebuilt = record l.rebuilt { greatest = max l.rebuilt.greatest (p + c.span_of-span.result) } } in x) (w.self-is ∙ w.take.ensures)
          ∙ ap (λ (s : ℕ). let x : Log = record all { rebuilt = record now { frames = insert now.frames (rank p now.frames) (framed p s bytes); greatest = max now.greatest (p + s) } } in x) c.span_of-span.ensures
          ∙ ap (λ (r : Rebuilt). let x : Log = record all { rebuilt = r } in x) (after_taken now p bytes (sym c.answer-answer.ensures.answer ∙ w.in-Taken.is)))
      | in_default w ↦ (
          c.beat.ensures
          ∙ ap (λ (l : Log). let x : Log = record l { rebuilt = record l.rebuilt { greatest = max l.rebuilt.greatest (p + c.span_of-span.result) } } in x) w.self-is
          ∙ ap (λ (s : ℕ). let x : Log = record all { rebuilt = record now { greatest = max now.greatest (p + s) } } in x) c.span_of-span.ensures
          ∙ ap (λ (r : Rebuilt). let x : Log = record all { rebuilt = r } in x) (after_other now p bytes (λ e. w.in_default.not-Taken (c.answer-answer.ensures.answer ∙ e))))
    ]
