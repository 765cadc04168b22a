use Rattle.std.proofs.Common.{◌≡◌, Err, rules, ap, option_copied}
use Rattle.channel_uri.specs.Syntax.{keys_of}
use Rattle.channel_uri.proofs.PieceLemmas.{reading_starts, pieces_fit, first_of, reading_first, reading_on, text_fits, span_fits, stops, fewer}
use Rattle.channel_uri.proofs.syntax.put_keys.Goals as goal

pub loop-rest-init : goal.loop-rest-init
loop-rest-init c =
    reading_starts (option_copied c.args.text) c.args.table.now (ap (λ table. table.pairs) c.requires.none) (ap (λ table. table.used) c.requires.none)
    (pieces_fit (λ some. some.now) c.args.text c.requires.fits)

pub put_piece-requires-clause-text_fits : goal.put_piece-requires-clause-text_fits
put_piece-requires-clause-text_fits c =
    text_fits _ _ _ _ (reading_first _ _ _ _ _ c.loop-rest.invariant (first_of _ _ _ _ (ap option_copied c.in-Some.is) c.first_piece.ensures))

pub put_piece-requires-clause-span_fits : goal.put_piece-requires-clause-span_fits
put_piece-requires-clause-span_fits c =
    span_fits _ _ _ _ (reading_first _ _ _ _ _ c.loop-rest.invariant (first_of _ _ _ _ (ap option_copied c.in-Some.is) c.first_piece.ensures))

pub returns-in_err-put_piece : goal.returns-in_err-put_piece
returns-in_err-put_piece c =
    let stopped : keys_of (option_copied c.args.text) ≡ Err c.in_err-put_piece.field-0.0 =
    stops _ _ _ _ _ (reading_first _ _ _ _ _ c.loop-rest.invariant (first_of _ _ _ _ (ap option_copied c.in-Some.is) c.first_piece.ensures)) c.in_err-put_piece.ensures in
    search rules

pub loop-rest-smaller : goal.loop-rest-smaller
loop-rest-smaller c = fewer _ _ _ (first_of _ _ _ _ (ap option_copied c.in-Some.is) c.first_piece.ensures)

pub loop-rest-preserved : goal.loop-rest-preserved
loop-rest-preserved c =
    reading_on _ _ _ _ _ (reading_first _ _ _ _ _ c.loop-rest.invariant (first_of _ _ _ _ (ap option_copied c.in-Some.is) c.first_piece.ensures)) c.in_ok-put_piece.ensures
