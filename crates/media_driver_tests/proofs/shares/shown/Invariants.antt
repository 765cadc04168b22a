use Rattle.media_driver_tests.proofs.shares.shown.Given as goal

-- the parts that were just made
abbrev pub ghosts-goes-N-DriverNaming : goal.ghosts-goes-N-DriverNaming
ghosts-goes-N-DriverNaming g a = record { book = a.parts.book }

abbrev pub ghosts-goes-N-Naming : goal.ghosts-goes-N-Naming
ghosts-goes-N-Naming g a = record {
  home = a.parts.home;
  client_ledger = a.parts.client_ledger;
  client_parts = a.parts.client_parts;
  ledger = a.parts.ledger;
  parts = a.parts.parts;
}
