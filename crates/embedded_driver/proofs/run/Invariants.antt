use Rattle.embedded_driver.proofs.run.Given as goal

-- the parts that were just made
abbrev pub ghosts-serve-N-DriverNaming : goal.ghosts-serve-N-DriverNaming
ghosts-serve-N-DriverNaming g a = record { book = a.parts.book }

abbrev pub ghosts-serve-N-Naming : goal.ghosts-serve-N-Naming
ghosts-serve-N-Naming g a = record {
  home = a.parts.home;
  client_ledger = a.parts.client_ledger;
  client_parts = a.parts.client_parts;
  ledger = a.parts.ledger;
  parts = a.parts.parts;
}
