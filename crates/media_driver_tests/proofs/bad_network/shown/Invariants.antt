use Rattle.media_driver_tests.proofs.bad_network.shown.Given as goal

-- the parts that were just made
abbrev pub ghosts-with_another-N-DriverNaming : goal.ghosts-with_another-N-DriverNaming
ghosts-with_another-N-DriverNaming g a = record { book = a.parts.book }

abbrev pub ghosts-with_another-N-Naming : goal.ghosts-with_another-N-Naming
ghosts-with_another-N-Naming g a = record {
  home = a.parts.home;
  client_ledger = a.parts.client_ledger;
  client_parts = a.parts.client_parts;
  ledger = a.parts.ledger;
  parts = a.parts.parts;
}
