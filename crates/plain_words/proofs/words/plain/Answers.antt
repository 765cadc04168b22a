use Rattle.std.proofs.Common.{◌≡◌, ◌∙◌, ℕ, List, ap, map, sym}
use Rattle.std.specs.List.{flat_map}
use Rattle.std.specs.Str.{chars}
use Rattle.std.proofs.lemmas.Iterator.{YieldsList-from_chars}
use Rattle.std.proofs.lemmas.Iterator.Consumers.{YieldsList-end}
use Rattle.std.proofs.lemmas.List.{map-id}
use Rattle.plain_words.specs.Words.{all_plain, plain, shown}
use Rattle.plain_words.proofs.PlainLemmas.{words_are_plain}
use Rattle.plain_words.proofs.words.plain.Goals as goal

words_are : (text yielded words result : List ℕ) → result ≡ words → words ≡ flat_map shown yielded → map (λ letter. letter) yielded ≡ chars text → result ≡ plain text
words_are text yielded words result from so_far all = from ∙ (so_far ∙ ap (flat_map shown) (sym (map-id yielded) ∙ all))

pub returns-clause-exact : goal.returns-clause-exact
returns-clause-exact c =
    let t = YieldsList-end (YieldsList-from_chars c.args.text.now c.utf8.text cc) c.loop-letter.yielded _ c.loop-letter.yielded_by _ _ c.in-None.is c.next.ensures.steps in
    words_are c.args.text.now c.loop-letter.yielded _ c.from.result c.from.ensures c.loop-letter.invariant t.0

pub returns-clause-printable : goal.returns-clause-printable
returns-clause-printable c = ap all_plain (returns-clause-exact c) ∙ words_are_plain c.args.text.now c.utf8.text
