use Rattle.media_agents_tests.proofs.sharing.shown.Given as goal

-- the parts that were just made
abbrev pub ghosts-seen_of-N-DriverNaming : goal.ghosts-seen_of-N-DriverNaming
ghosts-seen_of-N-DriverNaming g a = record { book = a.parts.publisher.book }

abbrev pub ghosts-seen_of-N-Naming : goal.ghosts-seen_of-N-Naming
ghosts-seen_of-N-Naming g a = record {
  home = a.parts.pieces.arena.home;
  client_ledger = 0;
  client_parts = 0;
  ledger = a.parts.pieces.messages.name;
  parts = a.parts.pieces.messages.parts;
}
