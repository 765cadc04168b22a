use Rattle.media_driver_tests.proofs.bad_network.with_another.Given as goal

-- the parts that were just made
abbrev pub ghosts-beside-M-DriverNaming : goal.ghosts-beside-M-DriverNaming
ghosts-beside-M-DriverNaming g a = record { book = a.parts.book }

abbrev pub ghosts-beside-M-Naming : goal.ghosts-beside-M-Naming
ghosts-beside-M-Naming g a = record {
  home = a.parts.home;
  client_ledger = a.parts.client_ledger;
  client_parts = a.parts.client_parts;
  ledger = a.parts.ledger;
  parts = a.parts.parts;
}
