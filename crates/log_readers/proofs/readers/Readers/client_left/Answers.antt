use Rattle.std.proofs.Common.{map, filter, sym, ap, ◌∙◌}
use Rattle.log_readers.specs.Readers.{is_of_others}
use Rattle.log_readers.proofs.ReaderLemmas.{left_readers, left_readers_there}
use Rattle.log_readers.proofs.readers.Readers.client_left.Goals as goal

pub returns-clause-there : goal.returns-clause-there
returns-clause-there c clients policy epoch now low last up exact =
    c.keep.ensures
    ∙ ap (map (filter (is_of_others c.args.streams.now c.args.client))) exact
    ∙ sym (left_readers_there clients policy epoch c.args.streams.now c.args.client now low last up)

pub returns-clause-gone : goal.returns-clause-gone
returns-clause-gone c clients policy epoch now low last up exact =
    c.keep.ensures
    ∙ ap (map (filter (is_of_others c.args.streams.now c.args.client))) exact
    ∙ sym (left_readers policy epoch c.args.streams.now clients c.args.client now low last up)
