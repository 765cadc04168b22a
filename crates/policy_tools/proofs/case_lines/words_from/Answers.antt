use Rattle.std.proofs.Common.{◌≡◌, ◌∙◌, drop, length, map, min, sym, ap, rules}
use Rattle.std.proofs.lemmas.List.{drop-map}
use Rattle.policy_tools.proofs.CaseLemmas.{drop_least}
use Rattle.policy_tools.proofs.case_lines.words_from.Goals as goal

pub returns : goal.returns
returns c =
    let words = c.args.words.now in
    let least : c.min-at.result ≡ min c.args.place (length words) = search rules in
    rw c.split_at.ensures.back
    (ap (λ n. map (λ word. word.now) (drop n words)) least
    ∙ (ap (map (λ word. word.now)) (drop_least c.args.place words) ∙ sym (drop-map (λ word. word.now) c.args.place words)))
