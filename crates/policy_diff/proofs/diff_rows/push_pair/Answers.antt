use Rattle.policy_diff.proofs.AddingLemmas.{named_of_pair, of_pair, same_words, words_of_pair}
use Rattle.policy_diff.proofs.DiffLemmas.{ok_then}
use Rattle.policy_diff.proofs.diff_rows.push_pair.Goals as goal

pub returns-then-have_one_word : goal.returns-then-have_one_word
returns-then-have_one_word c =
    same_words c.args.old.now.policy c.args.new.now.policy c.args.deciders c.args.rows.now.items (c.have_one_word.ensures.same c.if-have_one_word.true)
