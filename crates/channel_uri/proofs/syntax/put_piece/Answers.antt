use Rattle.channel_uri.proofs.PieceLemmas.{parts_fit, piece_put}
use Rattle.channel_uri.proofs.syntax.put_piece.Goals as goal

pub put-requires-clause-text_fits : goal.put-requires-clause-text_fits
put-requires-clause-text_fits c = parts_fit _ _ _ _ _ _ c.in_ok-key.ensures c.value_read.ensures c.requires.text_fits

pub returns : goal.returns
returns c = piece_put _ _ _ _ _ _ _ c.in_ok-key.ensures c.value_read.ensures c.put.ensures.pairs c.put.ensures.used
