use Rattle.std.proofs.Common.{sym, ◌∙◌}
use Rattle.channel_uri.proofs.NumberLemmas.{result_ok-parse}
use Rattle.setting_words.proofs.number.number.Goals as goal

pub returns : goal.returns
returns c =
    c.ok.ensures.value
    ∙ result_ok-parse _ c.args.text.now c.parse.ensures.value.0 (sym c.is_empty.ensures ∙ c.if-is_empty.false) (sym c.are_digits.ensures ∙ c.if-not-are_digits.false)
