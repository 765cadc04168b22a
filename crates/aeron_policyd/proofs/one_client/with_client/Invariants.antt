use Rattle.aeron_policyd.proofs.one_client.with_client.Given as goal

-- the parts that were just made
abbrev pub ghosts-started-N-DriverNaming : goal.ghosts-started-N-DriverNaming
ghosts-started-N-DriverNaming g a = record { book = a.parts.book }

abbrev pub ghosts-started-N-Naming : goal.ghosts-started-N-Naming
ghosts-started-N-Naming g a = record {
  home = a.parts.home;
  ledger = a.parts.ledger;
  parts = a.parts.parts;
  client_ledger = a.parts.client_ledger;
  client_parts = a.parts.client_parts;
}
