use Rattle.aeron_policyd.proofs.PageLemmas.{paged}
use Rattle.aeron_policyd.proofs.decided.page_of.Goals as goal

pub returns-clause-page : goal.returns-clause-page
returns-clause-page c before count =
    paged before c.args.kept.now c.look-passed.result.came.now c.front_of-came.result.now c.args.from c.look-passed.result.passed
    (c.look-passed.ensures.fresh before count) c.front_of-came.ensures
