use Rattle.log_slots_tests.proofs.cases.is_shown.Given as goal

-- the parts that were just made
abbrev pub ghosts-goes : goal.ghosts-goes
ghosts-goes g a = record {
  home = a.arena.home;
  ledger = a.messages.name;
  parts = a.messages.parts;
  client_ledger = 0;
  client_parts = 0;
}
