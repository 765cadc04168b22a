use Rattle.published_registry_tests.proofs.learnt_receipts.learnt_receipts.Given as goal

-- the history that was just opened
abbrev pub ghosts-both : goal.ghosts-both
ghosts-both g a = record { book = a.publisher.book }
